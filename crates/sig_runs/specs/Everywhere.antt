-- A fact of each process and each signal that every event keeps.
use Rattle.std.specs.Prelude.{ℕ, ◌≡◌, Some, slice_get}
use Rattle.std.specs.List.{All}
use Rattle.sig_runs.specs.Rules.{Effect, Rules}
use Rattle.sig_runs.specs.Machine.{Machine}

-- a fact of the process p in its state, and a fact of a signal
pub record Facts (S X : Type 0) : Type 1 where
  pub of_state : ℕ → S → Type 0
  pub of_signal : X → Type 0

-- the facts hold of each process and each queued signal
pub record HoldEverywhere {S X : Type 0} (facts : Facts S X) (m : Machine S X) : Type 0 where
  pub states : (p : ℕ) (s : S) → slice_get m.procs p ≡ Some s → facts.of_state p s
  pub signals : (s t : ℕ) → All facts.of_signal (m.queued s t)

-- the facts hold of the state and of all that is sent
abbrev pub HoldAfter : {S X E : Type 0} → Facts S X → ℕ → Effect S X E → Type 0
HoldAfter facts p effect = facts.of_state p effect.state × All facts.of_signal effect.sends

-- The law on one event: where the facts hold before it, of the process and of the signal handled, they hold after it.
pub record EventKeeps {S X E : Type 0} (facts : Facts S X) (rules : Rules S X E) : Type 0 where
  pub executed : (p : ℕ) (s : S) (effect : Effect S X E) → rules.exec p s ≡ Some effect → facts.of_state p s → HoldAfter facts p effect
  pub handled : (p : ℕ) (s : S) (x : X) → facts.of_state p s → facts.of_signal x → HoldAfter facts p (rules.handle p s x)
