-- From a settled machine nothing goes on but a handling at a late process.
use Rattle.std.proofs.Common.{◌≡◌, ℕ, inl, inr, true, false, List, [], ◌∷◌, ◌++◌, Some, None, refl, sym, ◌∙◌}
use Rattle.std.specs.Prelude.{slice_get}
use Rattle.sig_runs.specs.Rules.{Did, Effect, Rules}
use Rattle.sig_runs.specs.Rules.Did.{Exec, From}
use Rattle.sig_runs.specs.Machine.{Machine, Applied, At, apply, choice, IsRun}
use Rattle.sig_runs.specs.Settled.{IsLate, IsAtRest, IsSettled, HandlesLate}
use Rattle.sig_runs.proofs.Choices.{DidExecute, DidHandle, did_execute, did_handle}
use Rattle.sig_runs.proofs.Runs.{run-rest}

module _ {S X E : Type 0} (rules : Rules S X E) (m : Machine S X) where
  -- a process at rest does not execute
  rest_no_exec : (p : ℕ) (s : S) (effect : Effect S X E) → rules.is_ended s ≡ false → rules.is_cut s ≡ false → rules.exec p s ≡ Some effect → IsAtRest rules m p s → ⊥
  rest_no_exec p s effect going uncut defined (inl cut) = let e : true ≡ false = sym cut ∙ uncut in absurd cc
  rest_no_exec p s effect going uncut defined (inr (inl ended, q)) = let e : true ≡ false = sym ended ∙ going in absurd cc
  rest_no_exec p s effect going uncut defined (inr (inr none, q)) = let e : None ≡ Some effect = sym none ∙ defined in absurd cc

  -- and handles a signal only where it is late
  rest_late : (p f : ℕ) (s : S) (x : X) (rest : List X) → rules.is_cut s ≡ false → m.queued f p ≡ x ∷ rest → IsAtRest rules m p s → IsLate rules m p
  rest_late p f s x rest uncut oldest (inl cut) = let e : true ≡ false = sym cut ∙ uncut in absurd cc
  rest_late p f s x rest uncut oldest (inr (w, inl none)) = let e : [] ≡ x ∷ rest = sym (none f) ∙ oldest in absurd cc
  rest_late p f s x rest uncut oldest (inr (w, inr late)) = late

  -- a choice that a settled machine can make handles a signal of a late process
  pub settled_choice : IsSettled rules m → (p : ℕ) (did : Did) (r : Applied S X E) → apply rules m (choice p did) ≡ Some r → HandlesLate rules m p did
  settled_choice settled p Exec r h =
      let d : DidExecute rules m p (slice_get m.procs p) r = did_execute rules m p (slice_get m.procs p) r h in
      absurd (rest_no_exec p d.state d.effect d.going d.uncut d.defined (settled p d.state d.at))
  settled_choice settled p (From f) r h =
      let d : DidHandle rules m p f (slice_get m.procs p) (m.queued f p) r = did_handle rules m p f (slice_get m.procs p) (m.queued f p) r h in
      record { sender = f; handles = refl; is_late = rest_late p f d.state d.signal d.rest d.uncut d.oldest (settled p d.state d.at) }

-- a run that ends settled goes on only by a handling at a late process
pub settled_run : {S X E : Type 0} (rules : Rules S X E) (opening end far : Machine S X) (es : List (At E)) (a : At E) (later : List (At E)) → IsRun rules opening es end → IsSettled rules end →
    IsRun rules opening (es ++ a ∷ later) far → HandlesLate rules end a.pid (rules.did a.event)
settled_run rules opening end far es a later run settled longer =
    let on : IsRun rules end (a ∷ later) far = run-rest rules es (a ∷ later) opening end far run longer in
    settled_choice rules end settled a.pid (rules.did a.event) (record { machine = on.0; event = a.event }) on.1
