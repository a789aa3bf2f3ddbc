-- The choices of a record, made once more.
use Rattle.std.proofs.Common.{◌≡◌, ℕ, suc, ◌+◌, Bool, true, false, cond, List, [], ◌∷◌, ◌++◌, take, length, Some, None, refl, sym, ap, ◌∙◌, subst, append_assoc}
use Rattle.std.specs.Prelude.{◌==◌, All, slice_get}
use Rattle.std.specs.Bool.{MatchBool}
use Rattle.std.proofs.Math.Path.{ap₂}
use Rattle.std.proofs.lemmas.Option.{same_Some, none-some}
use Rattle.sig_kinds.specs.declared.signal.Signal.{Signal}
use Rattle.sig_program.specs.Scripts.{Program, IsWithin}
use Rattle.sig_runs.specs.Machine.{Machine, At, Applied, IsRun, apply, choice}
use Rattle.sig_runs.specs.Crew.{opening_machine}
use Rattle.sig_runs.specs.Order.{events_by}
use Rattle.sig_model.specs.declared.event.Event.{Event}
use Rattle.sig_model.specs.declared.origin.Origin.{Origin}
use Rattle.sig_model.specs.ProcessState.{ProcessState}
use Rattle.sig_model.specs.Machine.{acted_at, rules_of, opening_of}
use Rattle.sig_model.specs.Running.{Running}
use Rattle.sig_model.specs.SettledRun.{events_of}
use Rattle.sig_model.specs.CrewLaw.{IsLawfulCrew, machine_of}
use Rattle.sig_model.proofs.MarkedRuns.{from_mark}
use Rattle.sig_record.specs.declared.report.Report.{Report}
use Rattle.sig_record.specs.declared.merging.MergedAt.{MergedAt}
use Rattle.sig_record.specs.RecordOf.{record_of}
use Rattle.sig_record.specs.Merging.{IsMerged, event_at}
use Rattle.sig_record.specs.RunRecord.{events_listed, record_of_run, whole_rules, IsRecordOfRun}
use Rattle.sig_record.proofs.RunLemmas.{all_within, record_alike}
use Rattle.sig_choices.specs.Choosing.{AreEmptied, HasMade}
use Rattle.sig_choices.specs.Following.{HasFollowed}
use Rattle.sig_choices.proofs.Clear.{clear_machine}
use Rattle.sig_choices.specs.Origins.{sent_at, origins_in, origins_of}
use Rattle.sig_choices.proofs.FollowLemmas.{by_more, told_did}
use Rattle.sig_choices.proofs.OriginLemmas.{Leads, origins_push}
use Rattle.sig_check.specs.Replays.{Makes, HasRetraced, StopsAt}
use Rattle.sig_check.proofs.FollowingLemmas.{one_more, all_split}
use Rattle.sig_check.proofs.Orders.{one_order}

module _ (script : Program) where
  -- one choice more
  makes_more : (given : List (At Event)) (a : At Event) (made : List (At Event)) (e : Event) (m mid end : Machine ProcessState Signal) → Makes script m given made mid →
      apply (rules_of script) mid (choice a.pid (acted_at a.event.did)) ≡ Some (record { machine = end; event = e }) → Makes script m (given ++ a ∷ []) (made ++ record { pid = a.pid; event = e } ∷ []) end
  makes_more [] a made e m mid end h step =
      (e, [], end, ap (λ xs. xs ++ record { pid = a.pid; event = e } ∷ []) h.0, subst (λ z. apply (rules_of script) z (choice a.pid (acted_at a.event.did)) ≡ Some (record { machine = end; event = e })) (sym h.1) step, (refl, refl))
  makes_more (b ∷ given) a made e m mid end h step =
      (h.0, h.1 ++ record { pid = a.pid; event = e } ∷ [], h.2, ap (λ xs. xs ++ record { pid = a.pid; event = e } ∷ []) h.3, h.4, makes_more given a h.1 e h.2 mid end h.5 step)

  -- the choices of a run's events make these events
  pub makes_same : (es made : List (At Event)) (m end far : Machine ProcessState Signal) → IsRun (rules_of script) m es end → Makes script m es made far → (made ≡ es) × (far ≡ end)
  makes_same [] made m end far run h = (h.0, sym h.1 ∙ run)
  makes_same (a ∷ es) made m end far run h =
      let same : record { machine = h.2; event = h.0 } ≡ record { machine = run.0; event = a.event } =
      same_Some (record { machine = h.2; event = h.0 }) (record { machine = run.0; event = a.event })
      (sym h.4 ∙ ap (λ d. apply (rules_of script) m (choice a.pid d)) (sym (told_did script a.event)) ∙ run.1) in
      let w : (h.1 ≡ es) × (far ≡ end) = makes_same es h.1 run.0 end far run.2 (subst (λ z. Makes script z es h.1 far) (ap (λ (z : Applied ProcessState Signal Event). z.machine) same) h.5) in
      (h.3 ∙ ap₂ (λ (e : Event) (xs : List (At Event)). record { pid = a.pid; event = e } ∷ xs) (ap (λ (z : Applied ProcessState Signal Event). z.event) same) w.0, w.1)

  -- the choices are possible, and each makes an event of the process whose choice it is
  makes_leads : (given made : List (At Event)) (m end : Machine ProcessState Signal) → Makes script m given made end → Leads (rules_of script) m given end
  makes_leads [] made m end h = h.1
  makes_leads (a ∷ given) made m end h = (record { machine = h.2; event = h.0 }, h.4, makes_leads given h.1 h.2 end h.5)

  makes_many : (q : ℕ) (given made : List (At Event)) (m end : Machine ProcessState Signal) → Makes script m given made end → length (events_by q made) ≡ length (events_by q given)
  makes_many q [] made m end h = ap (λ es. length (events_by q es)) h.0
  makes_many q (a ∷ given) made m end h =
      ap (λ es. length (events_by q es)) h.3
      ∙ elim (a.pid == q) as (λ c. length (cond c (h.0 ∷ events_by q h.1) (events_by q h.1)) ≡ length (cond c (a.event ∷ events_by q given) (events_by q given))) [
        | true ↦ ap suc (makes_many q given h.1 h.2 end h.5)
        | false ↦ makes_many q given h.1 h.2 end h.5
      ]

  -- the origins of one choice more
  module _ (given : List (At Event)) (a : At Event) (crew : List Running) (f : HasRetraced script given crew) where
    abbrev sent : List Signal
    sent = sent_at (rules_of script) (machine_of script crew) (choice a.pid (acted_at a.event.did))

    told_more : (e : Event) (end : Machine ProcessState Signal) → apply (rules_of script) (machine_of script crew) (choice a.pid (acted_at a.event.did)) ≡ Some (record { machine = end; event = e }) →
        origins_of script (given ++ a ∷ []) ≡ origins_of script given ++ origins_in a.pid (length (events_of (slice_get crew a.pid)) + 1) sent
    told_more e end step =
        origins_push (rules_of script) given a [] (opening_machine (opening_of script)) (machine_of script crew) (record { machine = end; event = e })
        (makes_leads given f.made (opening_machine (opening_of script)) (machine_of script crew) f.run) step
        ∙ ap (λ n. origins_of script given ++ origins_in a.pid (n + 1) sent)
        (sym (makes_many a.pid given f.made (opening_machine (opening_of script)) (machine_of script crew) f.run) ∙ ap (λ es. length es) (f.told a.pid))

  split_run : (xs ys : List (At Event)) (m end : Machine ProcessState Signal) → IsRun (rules_of script) m (xs ++ ys) end → (mid : Machine ProcessState Signal) × IsRun (rules_of script) m xs mid × IsRun (rules_of script) mid ys end
  split_run [] ys m end h = (m, refl, h)
  split_run (a ∷ xs) ys m end h = let w = split_run xs ys h.0 end h.2 in (w.0, (h.0, h.1, w.1), w.2)

  -- so where the events are a run, it doesn't stop
  pub no_stop : (es : List (At Event)) (end : Machine ProcessState Signal) (count : ℕ) → IsRun (rules_of script) (opening_machine (opening_of script)) es end → StopsAt script es count → ⊥
  no_stop es end count run s =
      let w = split_run s.before (s.next ∷ s.rest) (opening_machine (opening_of script)) end (subst (λ xs. IsRun (rules_of script) (opening_machine (opening_of script)) xs end) s.split run) in
      let same : s.machine ≡ w.0 = (makes_same s.before s.made (opening_machine (opening_of script)) w.0 s.machine w.1 s.run).1 in
      none-some (record { machine = w.2.0; event = s.next.event })
      (sym s.none ∙ ap (λ m. apply (rules_of script) m (choice s.next.pid (acted_at s.next.event.did))) same
      ∙ ap (λ d. apply (rules_of script) w.0 (choice s.next.pid d)) (sym (told_did script s.next.event)) ∙ w.2.1)

  -- and the crew's record is that of the run
  pub same_record : (reports : List Report) (order : List MergedAt) (merged : IsMerged reports order) (crew : List Running) (h : HasRetraced script (events_listed reports order) crew) → AreEmptied crew →
      (machine : Machine ProcessState Signal) → IsRecordOfRun script machine reports → record_of crew ≡ reports
  same_record reports order merged crew h empty machine w =
      let es : List (At Event) = events_listed reports order in
      let listed : w.order ≡ order = one_order reports w.order order w.merged merged in
      let run : IsRun (rules_of script) (opening_machine (opening_of script)) es machine =
      from_mark script es machine (all_within script crew h.lawful) (subst (λ o. IsRun (whole_rules script) (opening_machine (opening_of script)) (events_listed reports o) machine) listed w.run) in
      let same : (h.made ≡ es) × (machine_of script crew ≡ machine) = makes_same es h.made (opening_machine (opening_of script)) machine (machine_of script crew) run h.run in
      record_alike script crew h.lawful es (λ q. ap (λ xs. events_by q xs) (sym same.0) ∙ h.told q)
      ∙ ap (λ m. record_of_run script es m) (sym (clear_machine script crew empty) ∙ same.1)
      ∙ ap (λ o. record_of_run script (events_listed reports o) machine) (sym listed) ∙ sym w.told

  pub its_run : (reports : List Report) (order : List MergedAt) (merged : IsMerged reports order) → All IsWithin script.procs → (machine : Machine ProcessState Signal) →
      IsRecordOfRun script machine reports → IsRun (rules_of script) (opening_machine (opening_of script)) (events_listed reports order) machine
  its_run reports order merged within machine w =
      from_mark script (events_listed reports order) machine within
      (subst (λ o. IsRun (whole_rules script) (opening_machine (opening_of script)) (events_listed reports o) machine) (one_order reports w.order order w.merged merged) w.run)

  pub opened_retraced : (crew : List Running) → HasFollowed script [] crew → HasRetraced script [] crew
  opened_retraced crew h = record { lawful = h.lawful; made = []; run = (refl, h.run); told = h.told }

-- one place more of the list
module _ (reports : List Report) (order : List MergedAt) (k : ℕ) (a : MergedAt) (there : slice_get order k ≡ Some a) (e : Event) (here : event_at reports a ≡ Some e) where
  abbrev so_far : List (At Event)
  so_far = events_listed reports (take k order)

  abbrev next : At Event
  next = record { pid = a.pid.0; event = e }

  abbrev Chosen : Program → List Running → List Running → Bool → Type 0
  Chosen script crew after made =
      IsLawfulCrew script crew → MatchBool made (HasMade script crew a.pid.0 (choice a.pid.0 (acted_at e.did)) after) (apply (rules_of script) (machine_of script crew) (choice a.pid.0 (acted_at e.did)) ≡ None)

  pub retraces_on : (script : Program) (crew after : List Running) → HasRetraced script so_far crew → (made : Bool) → made ≡ true → Chosen script crew after made → HasRetraced script (events_listed reports (take (k + 1) order)) after
  retraces_on script crew after f false right h = cc
  retraces_on script crew after f true right h =
      let m : HasMade script crew a.pid.0 (choice a.pid.0 (acted_at e.did)) after = h f.lawful in
      subst (λ es. HasRetraced script es after) (sym (one_more reports order k a there e here))
      (record {
        lawful = m.lawful;
        made = f.made ++ record { pid = a.pid.0; event = m.event } ∷ [];
        run = makes_more script so_far next f.made m.event (opening_machine (opening_of script)) (machine_of script crew) (machine_of script after) f.run m.step;
        told = λ q.
            by_more q a.pid.0 m.event f.made
            ∙ ap (λ z. cond (a.pid.0 == q) (z ++ m.event ∷ []) z) (f.told q)
            ∙ sym (m.events q);
      })

  -- and so are its origins
  pub tells_on : (script : Program) (crew after : List Running) (old so new : List Origin) → HasRetraced script so_far crew → (made : Bool) → made ≡ true → Chosen script crew after made →
      so ≡ old ++ origins_of script so_far →
      new ≡ so ++ origins_in a.pid.0 (length (events_of (slice_get crew a.pid.0)) + 1) (sent_at (rules_of script) (machine_of script crew) (choice a.pid.0 (acted_at e.did))) →
      new ≡ old ++ origins_of script (events_listed reports (take (k + 1) order))
  tells_on script crew after old so new f false right h before more = cc
  tells_on script crew after old so new f true right h before more =
      let m : HasMade script crew a.pid.0 (choice a.pid.0 (acted_at e.did)) after = h f.lawful in
      let last : List Origin = origins_in a.pid.0 (length (events_of (slice_get crew a.pid.0)) + 1) (sent_at (rules_of script) (machine_of script crew) (choice a.pid.0 (acted_at e.did))) in
      more ∙ ap (λ os. os ++ last) before ∙ append_assoc old (origins_of script so_far) last
      ∙ ap (λ os. old ++ os) (sym (told_more script so_far next crew f m.event (machine_of script after) m.step))
      ∙ ap (λ es. old ++ origins_of script es) (sym (one_more reports order k a there e here))

  pub stops_there : (script : Program) (crew after : List Running) (count : ℕ) → count ≡ length so_far → HasRetraced script so_far crew → (made : Bool) → made ≡ false → Chosen script crew after made → StopsAt script (events_listed reports order) count
  stops_there script crew after count many f true wrong h = cc
  stops_there script crew after count many f false wrong h = record {
    before = so_far;
    next = next;
    rest = _;
    split = all_split reports order k a there e here;
    many = many;
    made = f.made;
    machine = machine_of script crew;
    run = f.run;
    none = h f.lawful;
  }

-- how far they went along the same events
abbrev pub Retraced : Program → List Report → List MergedAt → List Running → Bool → ℕ → Type 0
Retraced script reports order crew whole made =
    MatchBool whole (HasRetraced script (events_listed reports order) crew) (StopsAt script (events_listed reports order) made)

pub retraced_so : (script : Program) (given reports : List Report) (listed order : List MergedAt) (crew : List Running) (whole : Bool) (made : ℕ) → given ≡ reports → listed ≡ order →
    Retraced script given listed crew whole made → Retraced script reports order crew whole made
retraced_so script given reports listed order crew whole made e f h =
    subst (λ r. Retraced script r order crew whole made) e (subst (λ o. Retraced script given o crew whole made) f h)

pub all_retraced : (script : Program) (reports : List Report) (order : List MergedAt) (crew : List Running) (whole : Bool) (made : ℕ) → whole ≡ true → Retraced script reports order crew whole made →
    HasRetraced script (events_listed reports order) crew
all_retraced script reports order crew true made e h = h
all_retraced script reports order crew false made e h = cc

pub part_retraced : (script : Program) (reports : List Report) (order : List MergedAt) (crew : List Running) (whole : Bool) (made : ℕ) → whole ≡ false → Retraced script reports order crew whole made →
    StopsAt script (events_listed reports order) made
part_retraced script reports order crew true made e h = cc
part_retraced script reports order crew false made e h = h
