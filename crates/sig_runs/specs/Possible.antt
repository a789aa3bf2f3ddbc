-- What has to hold of a machine where a choice leads to something.
use Rattle.std.specs.Prelude.{ℕ, false, ◌≡◌, ◌<◌, ◌^◌, ◌⊎◌, List, [], ◌∷◌, Some, slice_get}
use Rattle.sig_runs.specs.Rules.{Effect, Rules}
use Rattle.sig_runs.specs.Machine.{Machine, Applied}

-- An execution by the process p: it is there, neither ended nor cut, and no signal to itself is queued for it; and the event is the
-- one of its instruction, which is defined. (That own signals come first, and being cut, are this project's own.)
pub record IsExecution {S X E : Type 0} (rules : Rules S X E) (m : Machine S X) (p : ℕ) (next : Applied S X E) : Type 0 where
  pub state : S
  pub there : slice_get m.procs p ≡ Some state
  pub going : rules.is_ended state ≡ false
  pub uncut : rules.is_cut state ≡ false
  pub no_own : m.queued p p ≡ []
  pub effect : Effect S X E
  pub defined : rules.exec p state ≡ Some effect
  pub event : next.event ≡ effect.event

-- A handling of a signal of f by the process p: it is there and isn't cut; the signal is the oldest that is queued from f to p, and its
-- stamp is below 2^62; and it is p's own, or no signal of p to itself is queued. The event is the one of this handling. (Erlang
-- Reference Manual, Processes, Delivery of Signals.)
pub record IsHandling {S X E : Type 0} (rules : Rules S X E) (m : Machine S X) (p f : ℕ) (next : Applied S X E) : Type 0 where
  pub state : S
  pub there : slice_get m.procs p ≡ Some state
  pub uncut : rules.is_cut state ≡ false
  pub signal : X
  pub newer : List X
  pub oldest : m.queued f p ≡ signal ∷ newer
  pub early : rules.stamp signal < 2 ^ 62
  pub own_first : (f ≡ p) ⊎ (m.queued p p ≡ [])
  pub event : next.event ≡ (rules.handle p state signal).event
