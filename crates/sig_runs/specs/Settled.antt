-- A machine that has come to rest.
use Rattle.std.specs.Prelude.{ℕ, true, ◌≡◌, ◌≤◌, ◌^◌, ◌⊎◌, [], None, Some, slice_get}
use Rattle.std.specs.List.{Contains}
use Rattle.sig_runs.specs.Rules.{Did, Rules}
use Rattle.sig_runs.specs.Rules.Did.{From}
use Rattle.sig_runs.specs.Machine.{Machine}

-- This project's own: a process is late where a signal queued for it has a stamp of at least 2 ^ 62, which it never handles.
pub record IsLate {S X E : Type 0} (rules : Rules S X E) (m : Machine S X) (p : ℕ) : Type 0 where
  pub sender : ℕ
  pub signal : X
  pub queued : Contains (m.queued sender p) signal
  pub late : 2 ^ 62 ≤ rules.stamp signal

-- no signal is queued for p
abbrev pub HasNoSignal : {S X : Type 0} → Machine S X → ℕ → Type 0
HasNoSignal m p = (s : ℕ) → m.queued s p ≡ []

-- The process p is cut; or it is ended, or waits at a receive that no message of its list meets (a receive waits until a
-- message matches: Erlang Reference Manual, Expressions, Receive), and in both cases no signal is queued for it, or it is
-- late.
abbrev pub IsAtRest : {S X E : Type 0} → Rules S X E → Machine S X → ℕ → S → Type 0
IsAtRest rules m p s = (rules.is_cut s ≡ true) ⊎ (((rules.is_ended s ≡ true) ⊎ (rules.exec p s ≡ None)) × (HasNoSignal m p ⊎ IsLate rules m p))

-- each process is at rest
abbrev pub IsSettled : {S X E : Type 0} → Rules S X E → Machine S X → Type 0
IsSettled {S} rules m = (p : ℕ) (s : S) → slice_get m.procs p ≡ Some s → IsAtRest rules m p s

-- the process p of the machine handles one more signal, and it is late
pub record HandlesLate {S X E : Type 0} (rules : Rules S X E) (m : Machine S X) (p : ℕ) (did : Did) : Type 0 where
  pub sender : ℕ
  pub handles : did ≡ From sender
  pub is_late : IsLate rules m p
