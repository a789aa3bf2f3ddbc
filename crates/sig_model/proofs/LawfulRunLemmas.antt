-- The crew of a script is lawful from its opening on, through each visit and each pass; and it comes to rest.
use Rattle.std.proofs.Common.{◌≡◌, ◌≢◌, ℕ, zero, suc, ◌+◌, List, [], ◌∷◌, ◌++◌, map, length, Bool, false, ◌||◌, Option, Some, None, refl, sym, ap, ◌∙◌, subst}
use Rattle.std.specs.Prelude.{All, slice_get, slice_set}
use Rattle.std.proofs.lemmas.List.{set-set, set_comm}
use Rattle.std.proofs.lemmas.Option.{same_Some, slice_get-map, slice_get_within, MatchOption-at_some}
use Rattle.sig_kinds.specs.declared.signal.Signal.{Signal}
use Rattle.sig_program.specs.Scripts.{Program, IsWithin, IsProcBelow, IsScriptWithin}
use Rattle.sig_runs.specs.Crew.{Member, crew_machine}
use Rattle.sig_runs.specs.Settled.{IsSettled}
use Rattle.sig_runs.specs.Still.{IsStillMember}
use Rattle.sig_runs.proofs.Lists.{slice_get-set_same, slice_get-set_other}
use Rattle.sig_runs.proofs.Still.{still_is_settled}
use Rattle.sig_model.specs.declared.event.Event.{Event}
use Rattle.sig_model.specs.ProcessState.{ProcessState}
use Rattle.sig_model.specs.Machine.{rules_of, opening_of}
use Rattle.sig_model.specs.Running.{Running}
use Rattle.sig_model.specs.OneWorker.{visited, arrived, deliver_to, deliver_all, visit_at, visit, has_moved, pass_from, pass, RunsTo, rests, goes, IsClear, opened_crew}
use Rattle.sig_model.specs.Keeping.{IsKeeping}
use Rattle.sig_model.specs.Still.{IsStillCrew}
use Rattle.sig_model.specs.CrewLaw.{came_to, went_from, left_for, ArePaired, IsLawfulCrew, whole_member}
use Rattle.sig_model.specs.Accounts.{sent_by}
use Rattle.sig_model.proofs.Lookups.{at_place}
use Rattle.sig_model.proofs.StampLemmas.{stamps_kept}
use Rattle.sig_model.proofs.GoingLemmas.{Goes, stays, on, goes_visited}
use Rattle.sig_model.proofs.ReachLemmas.{set_here}
use Rattle.sig_model.proofs.StillLemmas.{run_clear, run_still}
use Rattle.sig_model.proofs.KeepLemmas.{opened_keeps}
use Rattle.sig_model.proofs.OpeningLemmas.{IsOpened, opened_tells, opened_length}
use Rattle.sig_model.proofs.SettledLemmas.{cuts_high, still_member}
use Rattle.sig_model.proofs.LawLemmas.{kept_of, mate, lawful_clear}
use Rattle.sig_model.proofs.KeptLawLemmas.{IsMember, lawful_of, step_lawful, receiver, apart, delivery_lawful}

module _ (script : Program) where
  module _ (p : ℕ) where
    -- the process p goes on by events
    goes_lawful : (r t : Running) → Goes r t → (crew : List Running) → slice_get crew p ≡ Some r → IsLawfulCrew script crew → IsLawfulCrew script (slice_set crew p t)
    goes_lawful r _ (stays _) crew there law = subst (IsLawfulCrew script) (sym (set_here crew p r there)) law
    goes_lawful r _ (on _ u t step later) crew there law =
        subst (IsLawfulCrew script) (set-set crew p u t)
        (goes_lawful u t later (slice_set crew p u) (slice_get-set_same crew p u r there) (step_lawful script crew law p r there u step))

    -- all that lies in its outbox is delivered
    all_lawful : (xs : List Signal) (v : Running) (crew : List Running) → slice_get crew p ≡ Some (record v { outbox = xs }) → IsLawfulCrew script crew
        → IsLawfulCrew script (deliver_all xs (slice_set crew p (record v { outbox = [] })))
    unfolding deliver_all
    all_lawful [] v crew there law = subst (IsLawfulCrew script) (sym (set_here crew p (record v { outbox = [] }) there)) law
    all_lawful (x ∷ xs) v crew there law = subst (λ c. IsLawfulCrew script (deliver_all xs c)) same (all_lawful xs v next now (delivery_lawful script crew law p r there x xs refl u at))
      where
        r : Running
        r = record v { outbox = x ∷ xs }

        left : Running
        left = record v { outbox = xs }

        none : Running
        none = record v { outbox = [] }

        u : Running
        u = (receiver script crew law p r there x xs refl).0

        at : slice_get crew x.to.0 ≡ Some u
        at = (receiver script crew law p r there x xs refl).1

        away : p ≢ x.to.0
        away = apart script crew law p r there x xs refl

        next : List Running
        next = slice_set (slice_set crew p left) x.to.0 (arrived u x)

        now : slice_get next p ≡ Some left
        now = slice_get-set_other (slice_set crew p left) x.to.0 p (arrived u x) (λ e. away (sym e)) ∙ slice_get-set_same crew p left r there

        same : slice_set next p none ≡ deliver_to (slice_get (slice_set crew p none) x.to.0) x (slice_set crew p none)
        same =
            ap (λ c. slice_set c p none) (set_comm crew p x.to.0 left (arrived u x) away)
            ∙ set-set (slice_set crew x.to.0 (arrived u x)) p left none
            ∙ sym (set_comm crew p x.to.0 none (arrived u x) away)
            ∙ ap (λ o. deliver_to o x (slice_set crew p none)) (sym (slice_get-set_other crew p x.to.0 none away ∙ at))

    visit_case : (o : Option Running) (crew : List Running) → slice_get crew p ≡ o → IsLawfulCrew script crew → IsLawfulCrew script (visit_at p o crew)
    visit_case None crew there law = law
    visit_case (Some r) crew there law =
        let v : Running = visited r in
        subst (λ c. IsLawfulCrew script (deliver_all v.outbox c)) (set-set crew p v (record v { outbox = [] }))
        (all_lawful v.outbox v (slice_set crew p v) (slice_get-set_same crew p v r there) (goes_lawful r v (goes_visited r) crew there law))

    -- a visit keeps the crew lawful
    pub visit_lawful : (crew : List Running) → IsLawfulCrew script crew → IsLawfulCrew script (visit p crew)
    unfolding visit
    visit_lawful crew law = visit_case (slice_get crew p) crew refl law

  pass_lawful : (n at : ℕ) (moved : Bool) (crew : List Running) → IsLawfulCrew script crew → IsLawfulCrew script (pass_from n at moved crew).0
  unfolding pass_from
  pass_lawful zero at moved crew law = law
  pass_lawful (suc n) at moved crew law = pass_lawful n (at + 1) (moved || has_moved at crew (visit at crew)) (visit at crew) (visit_lawful at crew law)

  -- a run keeps the crew lawful
  pub run_lawful : (crew last : List Running) → RunsTo crew last → IsLawfulCrew script crew → IsLawfulCrew script last
  run_lawful _ _ (rests crew h) law = pass_lawful (length crew) 0 false crew law
  run_lawful _ last (goes crew _ h more) law = run_lawful (pass crew).0 last more (pass_lawful (length crew) 0 false crew law)

  -- a process that was opened has sent nothing, and nothing came to it
  none_came : (s t : ℕ) (o : Option Running) → ((r : Running) → o ≡ Some r → IsOpened script t r) → came_to s o ≡ []
  none_came s t None h = refl
  none_came s t (Some r) h = ap (λ z. came_to s (Some z)) (sym (h r refl).is)

  none_sent : (s t : ℕ) (o : Option Running) → ((r : Running) → o ≡ Some r → IsOpened script s r) → left_for t o ≡ went_from t o
  unfolding sent_by
  none_sent s t None h = refl
  none_sent s t (Some r) h = subst (λ z. left_for t (Some z) ≡ went_from t (Some z)) (h r refl).is refl

  opened_paired : ArePaired (opened_crew script)
  opened_paired s t ne =
      ap (λ z. z ++ left_for t (slice_get (opened_crew script) s)) (none_came s t (slice_get (opened_crew script) t) (opened_tells script t))
      ∙ none_sent s t (slice_get (opened_crew script) s) (opened_tells script s)

  -- where each of its processes keeps what it has to keep, the crew is lawful as it was opened
  opened_lawful : ((q : ℕ) (r : Running) → slice_get (opened_crew script) q ≡ Some r → IsKeeping r) → IsLawfulCrew script (opened_crew script)
  opened_lawful keeping =
      lawful_of script (opened_crew script) (opened_length 0 (length script.procs) script.turns script.procs)
      (λ q r e.
      let o : IsOpened script q r = opened_tells script q r e in
      subst (λ z. IsKeeping z → IsMember script q z) o.is
      (λ k. record { process = record { pid = refl; turns = refl; proc = o.there }; count = refl; keeping = k })
      (keeping q r e))
      opened_paired

  pub opened_keeping_lawful : (crew : List Running) → crew ≡ opened_crew script → All IsKeeping crew → IsLawfulCrew script crew
  opened_keeping_lawful crew e keeping =
      subst (IsLawfulCrew script) (sym e)
      (opened_lawful (λ q r at. MatchOption-at_some (Unit {0}) IsKeeping r at (at_place IsKeeping (opened_crew script) q (subst (λ xs. All IsKeeping xs) e keeping))))

  -- so it is where each part of the script keeps its bounds
  pub sound_lawful : IsScriptWithin script → All IsWithin script.procs → IsLawfulCrew script (opened_crew script)
  sound_lawful sound within = opened_lawful (λ q r e.
      let o : IsOpened script q r = opened_tells script q r e in
      subst IsKeeping o.is
      (opened_keeps q (length script.procs) script.turns o.part (slice_get_within script.procs q o.part o.there)
      (MatchOption-at_some (Unit {0}) IsWithin o.part o.there (at_place IsWithin script.procs q within))
      (MatchOption-at_some (Unit {0}) (IsProcBelow (length script.procs)) o.part o.there (at_place (IsProcBelow (length script.procs)) script.procs q sound.pids))))

  module _ (crew : List Running) (law : IsLawfulCrew script crew) (clear : IsClear crew) (still : IsStillCrew crew) where
    whole_still : (p : ℕ) (r : Running) → slice_get crew p ≡ Some r → IsStillMember (rules_of script) p (whole_member r)
    whole_still p r at =
        let q = still_member script p r (kept_of script p r (law.processes p r at) (law.keeping p r at)) (still p r at) in
        record { no_handle = q.no_handle; no_exec = q.no_exec; from_others = q.from_others }

    still_case : (p : ℕ) (o : Option Running) (m : Member ProcessState Signal Event) → slice_get crew p ≡ o → mate o ≡ Some m → IsStillMember (rules_of script) p m
    still_case p None m at e = cc
    still_case p (Some r) m at e = subst (λ z. IsStillMember (rules_of script) p z) (same_Some (whole_member r) m e) (whole_still p r at)

    -- a lawful crew in which no process can do anything is settled
    pub still_settled : IsSettled (rules_of script) (crew_machine (rules_of script) (map whole_member crew))
    still_settled =
        still_is_settled (rules_of script) (stamps_kept script.turns (slice_get script.procs)) (cuts_high script) (opening_of script) (map whole_member crew) (lawful_clear script crew law clear)
        (λ p m at. still_case p (slice_get crew p) m refl (sym (slice_get-map whole_member crew p) ∙ at))

  -- and so is a crew at the end of a run
  pub run_settled : (crew last : List Running) → IsLawfulCrew script crew → IsClear crew → RunsTo crew last → IsSettled (rules_of script) (crew_machine (rules_of script) (map whole_member last))
  run_settled crew last law clear run = still_settled last (run_lawful crew last run law) (run_clear crew last run clear) (run_still crew last run clear)
