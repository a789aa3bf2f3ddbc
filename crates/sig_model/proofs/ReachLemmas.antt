-- The crew of the one-worker run is reached by a run of the machine.
use Rattle.std.proofs.Common.{◌≡◌, ◌≢◌, ℕ, zero, suc, ◌+◌, List, [], ◌∷◌, ◌++◌, Bool, true, false, cond, ◌||◌, All, Option, Some, None, refl, sym, ap, ◌∙◌, subst, append_assoc, drop, length}
use Rattle.std.specs.Prelude.{◌==◌, slice_get, slice_set}
use Rattle.std.proofs.Math.Path.{fun_ext}
use Rattle.std.proofs.Math.Seq.{map-set_same, drop-append_seam}
use Rattle.std.proofs.lemmas.Bool.{eq-eqb, ne_eqb}
use Rattle.std.proofs.lemmas.List.{append-nil, length-set, set-set, set-get_or}
use Rattle.std.proofs.lemmas.List.Elements.{All-nil, All-push, All-head, All-tail}
use Rattle.std.proofs.lemmas.Option.{same_Some, get_or_from_slice_get}
use Rattle.sig_kinds.specs.declared.signal.Signal.{Signal}
use Rattle.sig_runs.specs.Machine.{Machine, At, IsRun}
use Rattle.sig_runs.specs.Crew.{opening_machine}
use Rattle.sig_runs.specs.Order.{events_by}
use Rattle.sig_runs.proofs.Lists.{slice_get-set_same}
use Rattle.sig_runs.proofs.Runs.{run-push}
use Rattle.sig_program.specs.Scripts.{Program}
use Rattle.sig_model.specs.declared.event.Event.{Event}
use Rattle.sig_model.specs.ProcessState.{ProcessState}
use Rattle.sig_model.specs.Machine.{rules_of, opening_of}
use Rattle.sig_model.specs.Running.{Running}
use Rattle.sig_model.specs.OneWorker.{visited, arrived, deliver_to, deliver_all, settled_visit, visit_at, visit, has_moved, pass_from, IsClear}
use Rattle.sig_model.specs.Keeping.{IsLeaving}
use Rattle.sig_model.specs.SettledRun.{events_of}
use Rattle.sig_model.specs.MadeEvents.{made_by, made_in_visit, made_in_pass}
use Rattle.sig_model.proofs.Lookups.{at_set}
use Rattle.sig_model.proofs.GoingLemmas.{Goes, stays, on, goes_visited}
use Rattle.sig_model.proofs.ClearLemmas.{clear_at, visit_clear}
use Rattle.sig_model.proofs.EventLemmas.{member_of, IsKeptOf, IsEventOf, step_event, event_kept}
use Rattle.sig_model.proofs.CrewLemmas.{members, only, IsAtWork, after_event, event_applies, event_at_work, lost, given}

-- a run of the machine with these events has led to this crew, with these signals in the outboxes
pub record IsReached (script : Program) (boxes : ℕ → List Signal) (crew : List Running) (events : List (At Event)) : Type 0 where
  pub machine : Machine ProcessState Signal
  pub run : IsRun (rules_of script) (opening_machine (opening_of script)) events machine
  pub at_work : IsAtWork script boxes (members crew) machine
  pub told : (q : ℕ) → events_by q events ≡ events_of (slice_get crew q)
  pub kept : (q : ℕ) (r : Running) → slice_get crew q ≡ Some r → IsKeptOf script q r
  pub many : length crew ≡ length script.procs

-- a list that is changed at one place
pub set_here : (xs : List Running) (i : ℕ) (x : Running) → slice_get xs i ≡ Some x → slice_set xs i x ≡ xs
set_here xs i x h = ap (λ z. slice_set xs i z) (sym (get_or_from_slice_get xs i x x h)) ∙ set-get_or xs i x

events_by-push : (q : ℕ) (es : List (At Event)) (a : At Event) → events_by q (es ++ a ∷ []) ≡ events_by q es ++ cond (a.pid == q) (a.event ∷ []) []
events_by-push q [] a = refl
events_by-push q (b ∷ es) a =
    elim (b.pid == q) as (λ c. cond c (b.event ∷ events_by q (es ++ a ∷ [])) (events_by q (es ++ a ∷ [])) ≡ cond c (b.event ∷ events_by q es) (events_by q es) ++ cond (a.pid == q) (a.event ∷ []) []) [
      | true ↦ ap (λ z. b.event ∷ z) (events_by-push q es a)
      | false ↦ events_by-push q es a
    ]

module _ (script : Program) where
  -- one process of the crew is another one now, which has these events too, and the machine is at work with it
  set_reached : (p : ℕ) (r t : Running) (before after : ℕ → List Signal) (crew : List Running) (es now : List (At Event))
      → slice_get crew p ≡ Some r → IsReached script before crew es → IsKeptOf script p t
      → ((q : ℕ) → p ≢ q → events_by q now ≡ events_by q es) → events_by p now ≡ t.events
      → (m : Machine ProcessState Signal) → IsRun (rules_of script) (opening_machine (opening_of script)) now m → IsAtWork script after
      (members (slice_set crew p t)) m → IsReached script after (slice_set crew p t) now
  set_reached p r t before after crew es now there g k others here m run at_work = record {
    machine = m;
    run = run;
    at_work = at_work;
    told = at_set (λ q o. events_by q now ≡ events_of o) crew p r t there here (λ q h. others q h ∙ g.told q);
    kept =
        at_set (λ q o. (u : Running) → o ≡ Some u → IsKeptOf script q u) crew p r t there
        (λ u e. subst (λ z. IsKeptOf script p z) (same_Some t u e) k) (λ q h. g.kept q);
    many = length-set crew p t ∙ g.many;
  }

  -- it has the same events
  same_reached : (p : ℕ) (r t : Running) (before after : ℕ → List Signal) (crew : List Running) (es : List (At Event))
      → slice_get crew p ≡ Some r → (g : IsReached script before crew es) → IsKeptOf script p t
      → r.events ≡ t.events → IsAtWork script after (members (slice_set crew p t)) g.machine → IsReached script after (slice_set crew p t) es
  same_reached p r t before after crew es there g k same at_work =
      set_reached p r t before after crew es es there g k (λ q h. refl) (g.told p ∙ ap (λ o. events_of o) there ∙ same) g.machine g.run at_work

  module _ (p : ℕ) where
    -- a step of the process that is visited
    step_reached : (r t : Running) (crew : List Running) (es : List (At Event)) → slice_get crew p ≡ Some r → (e : IsEventOf script p r t) → IsReached script (only p r.outbox) crew es →
        IsReached script (only p t.outbox) (slice_set crew p t) (es ++ made_by p (e.effect.event ∷ []))
    step_reached r t crew es there e g =
        let a : At Event = record { pid = p; event = e.effect.event } in
        let m : Machine ProcessState Signal = after_event script p r t e crew there g.machine g.at_work in
        set_reached p r t (only p r.outbox) (only p t.outbox) crew es (es ++ a ∷ []) there g
        (event_kept script.turns (slice_get script.procs) p r t e (g.kept p r there))
        (λ q h. events_by-push q es a ∙ ap (λ c. events_by q es ++ cond c (a.event ∷ []) []) (ne_eqb p q h) ∙ append-nil (events_by q es))
        (events_by-push p es a ∙ ap (λ c. events_by p es ++ cond c (a.event ∷ []) []) (eq-eqb p p refl) ∙ ap (λ z. z ++ a.event ∷ []) (g.told p ∙ ap (λ o. events_of o) there) ∙ ap (λ (z : Running). z.events) (sym e.is))
        m
        (run-push (rules_of script) es a (opening_machine (opening_of script)) g.machine m g.run (event_applies script p r t e crew there g.machine g.at_work))
        (event_at_work script p r t e crew there g.machine g.at_work)

    -- steps of the process that is visited add these events to its own and to those of the run
    record WentOn (r t : Running) (crew : List Running) (es : List (At Event)) : Type 0 where
      more : List Event
      grown : t.events ≡ r.events ++ more
      reached : IsReached script (only p t.outbox) (slice_set crew p t) (es ++ made_by p more)

    went_on : (r t : Running) → Goes r t → (crew : List Running) (es : List (At Event)) → slice_get crew p ≡ Some r
        → IsReached script (only p r.outbox) crew es → WentOn r t crew es
    went_on r _ (stays _) crew es there g = record {
      more = [];
      grown = sym (append-nil r.events);
      reached = subst (λ xs. IsReached script (only p r.outbox) (slice_set crew p r) xs) (sym (append-nil es)) (subst (λ xs. IsReached script (only p r.outbox) xs es) (sym (set_here crew p r there)) g);
    }
    went_on r _ (on _ u t step later) crew es there g =
        let e : IsEventOf script p r u = step_event script.turns (slice_get script.procs) p r u (g.kept p r there) step in
        let a : List Event = e.effect.event ∷ [] in
        let rest : WentOn u t (slice_set crew p u) (es ++ made_by p a) =
        went_on u t later (slice_set crew p u) (es ++ made_by p a) (slice_get-set_same crew p u r there) (step_reached r u crew es there e g) in
        record {
          more = a ++ rest.more;
          grown = rest.grown ∙ ap (λ (z : Running). z.events ++ rest.more) e.is ∙ append_assoc r.events a rest.more;
          reached =
              subst (λ xs. IsReached script (only p t.outbox) (slice_set crew p t) xs) (append_assoc es (made_by p a) (made_by p rest.more))
              (subst (λ xs. IsReached script (only p t.outbox) xs ((es ++ made_by p a) ++ made_by p rest.more)) (set-set crew p u t) rest.reached);
        }

    -- what it has sent is taken from its outbox
    emptied : (boxes : ℕ → List Signal) (v : Running) (crew : List Running) (es : List (At Event)) → slice_get crew p ≡ Some v → IsReached script boxes crew es → IsReached script boxes (slice_set crew p (record v { outbox = [] })) es
    emptied boxes v crew es there g =
        let w : Running = record v { outbox = [] } in
        let k : IsKeptOf script p v = g.kept p v there in
        same_reached p v w boxes boxes crew es there g
        (record { process = k.process; own = k.own; others = k.others; outbox = All-nil (IsLeaving p v.state.counts.stamp) }) refl
        (subst (λ mates. IsAtWork script boxes mates g.machine) (sym (map-set_same member_of crew p w v (ap (λ z. member_of z) (sym (get_or_from_slice_get crew p v v there))))) g.at_work)

    module _ (x : Signal) (xs : List Signal) (from : x.from.0 ≡ p) (to : x.to.0 ≢ p) (crew : List Running) (es : List (At Event)) (g : IsReached script (only p (x ∷ xs)) crew es) where
      -- one signal is delivered, where its receiver is there
      delivered : (o : Option Running) → slice_get crew x.to.0 ≡ o → IsReached script (only p xs) (deliver_to o x crew) es
      delivered None e =
          record { machine = g.machine; run = g.run; at_work = lost script p x xs crew from to g.machine g.at_work e; told = g.told; kept = g.kept; many = g.many }
      delivered (Some u) e =
          let k : IsKeptOf script x.to.0 u = g.kept x.to.0 u e in
          let others : All (λ (y : Signal). y.from.0 ≢ x.to.0) (u.taken_in ++ x ∷ []) =
          All-push (λ (y : Signal). y.from.0 ≢ x.to.0) u.taken_in x k.others (λ f. to (sym f ∙ from)) in
          same_reached x.to.0 u (arrived u x) (only p (x ∷ xs)) (only p xs) crew es e g
          (record { process = k.process; own = k.own; others = others; outbox = k.outbox }) refl
          (given script p x xs crew from to g.machine g.at_work u e)

    -- all signals of the outbox are delivered
    all_delivered : (last : ℕ) (xs : List Signal) (crew : List Running) (es : List (At Event)) → All (IsLeaving p last) xs
        → IsReached script (only p xs) crew es → IsReached script (only p []) (deliver_all xs crew) es
    unfolding deliver_all
    all_delivered last [] crew es o g = g
    all_delivered last (x ∷ xs) crew es o g =
        let first : IsLeaving p last x = All-head (IsLeaving p last) x xs o in
        all_delivered last xs (deliver_to (slice_get crew x.to.0) x crew) es (All-tail (IsLeaving p last) x xs o)
        (delivered x xs first.from first.to crew es g (slice_get crew x.to.0) refl)

    none_only : only p [] ≡ (λ q. [])
    none_only = fun_ext (λ q. elim (p == q) as (λ c. cond {A = List Signal} c [] [] ≡ []) [ true ↦ refl | false ↦ refl ])

    visited_reached : (r : Running) (crew : List Running) (es : List (At Event)) → slice_get crew p ≡ Some r → r.outbox ≡ [] → IsReached script (λ q. []) crew es → IsReached script (λ q. []) (settled_visit p (visited r) crew) (es ++ made_in_visit p (Some r))
    visited_reached r crew es there empty g =
        let v : Running = visited r in
        let before : IsReached script (only p r.outbox) crew es = subst (λ b. IsReached script b crew es) (sym (ap (λ b. only p b) empty ∙ none_only)) g in
        let went : WentOn r v crew es = went_on r v (goes_visited r) crew es there before in
        let made : went.more ≡ drop (length r.events) v.events = sym (ap (λ z. drop (length r.events) z) went.grown ∙ drop-append_seam r.events went.more) in
        let now : List (At Event) = es ++ made_by p (drop (length r.events) v.events) in
        let reached : IsReached script (only p v.outbox) (slice_set crew p v) now = subst (λ z. IsReached script (only p v.outbox) (slice_set crew p v) (es ++ made_by p z)) made went.reached in
        let sent : All (IsLeaving p v.state.counts.stamp) v.outbox = (reached.kept p v (slice_get-set_same crew p v r there)).outbox in
        let taken : IsReached script (only p v.outbox) (slice_set crew p (record v { outbox = [] })) now =
        subst (λ xs. IsReached script (only p v.outbox) xs now) (set-set crew p v (record v { outbox = [] }))
        (emptied (only p v.outbox) v (slice_set crew p v) now (slice_get-set_same crew p v r there) reached) in
        subst (λ b. IsReached script b (settled_visit p v crew) now) none_only
        (all_delivered v.state.counts.stamp v.outbox (slice_set crew p (record v { outbox = [] })) now sent taken)

    visit_case_reached : (o : Option Running) (crew : List Running) (es : List (At Event)) → slice_get crew p ≡ o → IsClear crew → IsReached script (λ q. []) crew es → IsReached script (λ q. []) (visit_at p o crew) (es ++ made_in_visit p o)
    visit_case_reached None crew es there clear g = subst (λ xs. IsReached script (λ q. []) crew xs) (sym (append-nil es)) g
    visit_case_reached (Some r) crew es there clear g = visited_reached r crew es there (clear_at crew p r there clear) g

    visit_reached : (crew : List Running) (es : List (At Event)) → IsClear crew → IsReached script (λ q. []) crew es → IsReached script (λ q. []) (visit p crew) (es ++ made_in_visit p (slice_get crew p))
    unfolding visit
    visit_reached crew es clear g = visit_case_reached (slice_get crew p) crew es refl clear g

  -- a run with these events has led to a crew with empty outboxes
  pub record IsBetweenVisits (crew : List Running) (events : List (At Event)) : Type 0 where
    pub reached : IsReached script (λ q. []) crew events
    pub clear : IsClear crew

  rest_visit : (at : ℕ) (crew : List Running) (es : List (At Event)) → IsBetweenVisits crew es → IsBetweenVisits (visit at crew) (es ++ made_in_visit at (slice_get crew at))
  rest_visit at crew es g = record { reached = visit_reached at crew es g.clear g.reached; clear = visit_clear at crew g.clear }

  -- a pass goes on with the run by the events that it makes
  pub rest_pass : (n at : ℕ) (moved : Bool) (crew : List Running) (es : List (At Event)) → IsBetweenVisits crew es → IsBetweenVisits (pass_from n at moved crew).0 (es ++ made_in_pass n at crew)
  unfolding pass_from made_in_pass
  rest_pass zero at moved crew es g = subst (λ xs. IsBetweenVisits crew xs) (sym (append-nil es)) g
  rest_pass (suc n) at moved crew es g =
      let one : List (At Event) = made_in_visit at (slice_get crew at) in
      let b : Bool = moved || has_moved at crew (visit at crew) in
      subst (λ xs. IsBetweenVisits (pass_from n (at + 1) b (visit at crew)).0 xs) (append_assoc es one (made_in_pass n (at + 1) (visit at crew)))
      (rest_pass n (at + 1) b (visit at crew) (es ++ one) (rest_visit at crew es g))
