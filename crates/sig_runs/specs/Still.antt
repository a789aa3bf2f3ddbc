-- A crew in which no process can do anything.
use Rattle.std.specs.Prelude.{ℕ, Bool, true, false, not, ◌&&◌, nat_lt, ◌≡◌, ◌≢◌, ◌≤◌, ◌^◌, ◌⊎◌, List, [], ◌∷◌, Option, None, Some}
use Rattle.std.specs.List.{All}
use Rattle.sig_runs.specs.Rules.{Rules}
use Rattle.sig_runs.specs.Machine.{is_empty}
use Rattle.sig_runs.specs.Crew.{Member}

-- the signal that a process would handle next: its oldest own one, or where it has none the oldest that it took in
abbrev pub next_signal : {X : Type 0} → List X → List X → Option X
next_signal (x ∷ own) taken_in = Some x
next_signal [] (x ∷ taken_in) = Some x
next_signal [] [] = None

-- there is a signal, and its stamp is below 2 ^ 62
abbrev pub is_low : {S X E : Type 0} → Rules S X E → Option X → Bool
is_low rules None = false
is_low rules (Some x) = nat_lt (rules.stamp x) (2 ^ 62)

-- the process is neither ended nor cut, and has no signal to itself to handle
abbrev pub can_exec : {S X E : Type 0} → Rules S X E → Member S X E → Bool
can_exec rules m = not (rules.is_ended m.local.state) && (not (rules.is_cut m.local.state) && is_empty m.local.own)

-- the process is not cut, and has a signal to handle whose stamp is below 2 ^ 62
abbrev pub can_handle : {S X E : Type 0} → Rules S X E → Member S X E → Bool
can_handle rules m = not (rules.is_cut m.local.state) && is_low rules (next_signal m.local.own m.taken_in)

-- The process p can do nothing: it can't handle a signal, and it can't execute or its instruction is not defined.
pub record IsStillMember {S X E : Type 0} (rules : Rules S X E) (p : ℕ) (m : Member S X E) : Type 0 where
  pub no_handle : can_handle rules m ≡ false
  pub no_exec : (can_exec rules m ≡ false) ⊎ (rules.exec p m.local.state ≡ None)
  -- what it took in comes from others
  pub from_others : All (λ x. rules.from x ≢ p) m.taken_in

-- This project's own: a process whose last stamp is at least 2 ^ 62 is cut.
abbrev pub CutsHigh : {S X E : Type 0} → Rules S X E → Type 0
CutsHigh {S} rules = (s : S) → 2 ^ 62 ≤ rules.last s → rules.is_cut s ≡ true
