-- A run whose executions are those of another rule too, as far as an invariant of the run tells, is a run by that rule.
use Rattle.std.proofs.Common.{◌≡◌, ℕ, Bool, true, false, not, ◌||◌, List, [], ◌∷◌, Option, Some, None, refl}
use Rattle.std.specs.Prelude.{slice_get, if◌then◌else◌}
use Rattle.sig_runs.specs.Rules.{Effect, Rules}
use Rattle.sig_runs.specs.Machine.{Machine, At, Applied, Choice, apply, choice, execute, executed, handle, is_empty, IsRun}
use Rattle.sig_runs.specs.Marks.{by_whole}
use Rattle.sig_runs.specs.Machine.Choice.{Executes, Handles}

module _ {S X E : Type 0} (rules : Rules S X E) (whole : ℕ → S → Option (Effect S X E)) where
  executed_whole : (m : Machine S X) (p : ℕ) (r : Applied S X E) (o : Option (Effect S X E)) (w : Option (Effect S X E)) → ((ef : Effect S X E) → o ≡ Some ef → w ≡ Some ef) →
      executed rules m p o ≡ Some r → executed (by_whole rules whole) m p w ≡ Some r
  executed_whole m p r None w agree h = absurd cc
  executed_whole m p r (Some ef) w agree h = rw (agree ef refl) h

  execute_whole : (m : Machine S X) (p : ℕ) (r : Applied S X E) (o : Option S) → ((s : S) → o ≡ Some s → (ef : Effect S X E) → rules.exec p s ≡ Some ef → whole p s ≡ Some ef) →
      execute rules m p o ≡ Some r → execute (by_whole rules whole) m p o ≡ Some r
  execute_whole m p r None agree h = absurd cc
  execute_whole m p r (Some s) agree h = go (rules.is_ended s || (rules.is_cut s || not (is_empty (m.queued p p)))) h
    where
      go : (b : Bool) → (if b then None else executed rules m p (rules.exec p s)) ≡ Some r → (if b then None else executed (by_whole rules whole) m p (whole p s)) ≡ Some r
      go true h = absurd cc
      go false h = executed_whole m p r (rules.exec p s) (whole p s) (agree s refl) h

  handle_whole : (m : Machine S X) (p f : ℕ) (r : Applied S X E) (o : Option S) (xs : List X) → handle rules m p f o xs ≡ Some r → handle (by_whole rules whole) m p f o xs ≡ Some r
  handle_whole m p f r None xs h = absurd cc
  handle_whole m p f r (Some s) [] h = absurd cc
  handle_whole m p f r (Some s) (x ∷ rest) h = h

  -- a choice by these rules is one by the others, where those execute what these do
  pub apply_whole : (m : Machine S X) (c : Choice) (r : Applied S X E) → ((p : ℕ) (s : S) → slice_get m.procs p ≡ Some s → (ef : Effect S X E) → rules.exec p s ≡ Some ef → whole p s ≡ Some ef) →
      apply rules m c ≡ Some r → apply (by_whole rules whole) m c ≡ Some r
  apply_whole m (Executes p) r agree h = execute_whole m p r (slice_get m.procs p) (agree p) h
  apply_whole m (Handles p s) r agree h = handle_whole m p s r (slice_get m.procs p) (m.queued s p) h

  module _ (Inv : Machine S X → Type 0)
      (keeps : (m : Machine S X) (c : Choice) (next : Applied S X E) → Inv m → apply rules m c ≡ Some next → Inv next.machine) where
    -- a run by these rules is one by the others, where they agree along it
    pub run_whole : ((m : Machine S X) → Inv m → (p : ℕ) (s : S) → slice_get m.procs p ≡ Some s → (ef : Effect S X E) → rules.exec p s ≡ Some ef → whole p s ≡ Some ef) →
        (es : List (At E)) (m end : Machine S X) → Inv m → IsRun rules m es end → IsRun (by_whole rules whole) m es end
    run_whole agree [] m end inv h = h
    run_whole agree (a ∷ later) m end inv h = (
      h.0,
      apply_whole m (choice a.pid (rules.did a.event)) (record { machine = h.0; event = a.event }) (agree m inv) h.1,
      run_whole agree later h.0 end (keeps m (choice a.pid (rules.did a.event)) (record { machine = h.0; event = a.event }) inv h.1) h.2,
    )
