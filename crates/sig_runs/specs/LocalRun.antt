-- The run of one process alone.
use Rattle.std.specs.Prelude.{ℕ, false, ◌==◌, ◌≡◌, ◌^◌, ◌<◌, List, [], ◌∷◌, ◌++◌, drop, Some, if◌then◌else◌}
use Rattle.std.specs.Bool.{MatchBool}
use Rattle.sig_runs.specs.Rules.{Effect, Rules, addressed}

-- a process alone: its state, and its signals to itself that it has not handled
pub record Local (S X : Type 0) : Type 0 where
  pub state : S
  pub own : List X

-- what an event read beside the state: nothing, or the signal that it handled
pub data Input (X : Type 0) : Type 0 where
  Execute : Input X
  Handle : X → Input X

-- one event of a process with what it read and what it gave
pub record Act (S X E : Type 0) : Type 0 where
  pub input : Input X
  pub effect : Effect S X E

-- This project's own: a process handles its signals to itself before all others.
abbrev pub IsNext : {S X E : Type 0} → Rules S X E → ℕ → X → List X → Type 0
IsNext {S} {X} {E} rules p x own = MatchBool (rules.from x == p) ((rest : List X) × (own ≡ x ∷ rest)) (own ≡ [])

-- the process p at l can execute, or handle the signal x, and that has this effect
abbrev pub CanDo : {S X E : Type 0} → Rules S X E → ℕ → Local S X → Input X → Effect S X E → Type 0
CanDo rules p l Execute effect = (rules.is_ended l.state ≡ false) × (rules.is_cut l.state ≡ false) × (l.own ≡ []) × (rules.exec p l.state ≡ Some effect)
CanDo rules p l (Handle x) effect = (rules.is_cut l.state ≡ false) × (rules.stamp x < 2 ^ 62) × IsNext rules p x l.own × (rules.handle p l.state x ≡ effect)

-- the own signals without the one that was handled
abbrev pub own_left : {S X E : Type 0} → Rules S X E → ℕ → Input X → List X → List X
own_left rules p Execute own = own
own_left rules p (Handle x) own = if rules.from x == p then drop 1 own else own

-- the process after an act: what it sent to itself comes behind its own signals
abbrev pub after : {S X E : Type 0} → Rules S X E → ℕ → Local S X → Act S X E → Local S X
after rules p l a = record { state = a.effect.state; own = own_left rules p a.input l.own ++ addressed rules p a.effect.sends }

-- the process p alone goes from l through these acts to `end`
abbrev pub IsLocalRun : {S X E : Type 0} → Rules S X E → ℕ → Local S X → List (Act S X E) → Local S X → Type 0
IsLocalRun rules p l [] end = l ≡ end
IsLocalRun rules p l (a ∷ later) end = CanDo rules p l a.input a.effect × IsLocalRun rules p (after rules p l a) later end

-- the signal that an act handled, if it handled one
abbrev pub handled_in : {X : Type 0} → Input X → List X
handled_in Execute = []
handled_in (Handle x) = x ∷ []

-- the signals that these acts handled, in their order
abbrev pub handles : {S X E : Type 0} → List (Act S X E) → List X
handles [] = []
handles (a ∷ later) = handled_in a.input ++ handles later

-- the signals that these acts sent, in their order
abbrev pub sends : {S X E : Type 0} → List (Act S X E) → List X
sends [] = []
sends (a ∷ later) = a.effect.sends ++ sends later
