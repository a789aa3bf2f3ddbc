-- A process that kept its events and the signals that it handled: what it did is told by these two lists alone.
use Rattle.std.specs.Prelude.{ℕ, ◌≡◌, List, [], ◌∷◌, ◌++◌, map, Some, None}
use Rattle.sig_runs.specs.Rules.{Did, Effect, Rules}
use Rattle.sig_runs.specs.Rules.Did.{Exec, From}
use Rattle.sig_runs.specs.LocalRun.{Local, Act, after, IsLocalRun, handled_in, handles, sends}
use Rattle.sig_runs.specs.LocalRun.Input.{Execute, Handle}

-- an execution with this effect
abbrev pub exec_act : {S X E : Type 0} → Effect S X E → Act S X E
exec_act effect = record { input = Execute; effect = effect }

-- the handling of the signal x at the state s
abbrev pub handle_act : {S X E : Type 0} → Rules S X E → ℕ → S → X → Act S X E
handle_act rules p s x = record { input = Handle x; effect = rules.handle p s x }

-- what p does from l where its events are of these kinds, each handling taking the next of the handled signals
abbrev pub replay : {S X E : Type 0} → Rules S X E → ℕ → Local S X → List Did → List X → List (Act S X E)
replay rules p l [] handled = []
replay rules p l (Exec ∷ dids) handled =
    elim (rules.exec p l.state) [ None ↦ [] | Some effect ↦ exec_act effect ∷ replay rules p (after rules p l (exec_act effect)) dids handled ]
replay rules p l (From s ∷ dids) [] = []
replay rules p l (From s ∷ dids) (x ∷ handled) = handle_act rules p l.state x ∷ replay rules p (after rules p l (handle_act rules p l.state x)) dids handled

-- the acts that the events and the handled signals tell
abbrev pub acts_told : {S X E : Type 0} → Rules S X E → ℕ → Local S X → List E → List X → List (Act S X E)
acts_told rules p l events handled = replay rules p l (map rules.did events) handled

-- the signals that such a process sent
abbrev pub sent : {S X E : Type 0} → Rules S X E → ℕ → Local S X → List E → List X → List X
sent rules p l events handled = sends (acts_told rules p l events handled)

-- these events and handled signals are a local run of p from l to `end`
pub record RanAlone {S X E : Type 0} (rules : Rules S X E) (p : ℕ) (l : Local S X) (events : List E) (handled : List X) (end : Local S X) : Type 0 where
  pub runs : IsLocalRun rules p l (acts_told rules p l events handled) end
  pub events_told : map (λ a. a.effect.event) (acts_told rules p l events handled) ≡ events
  pub handled_told : handles (acts_told rules p l events handled) ≡ handled

-- What a process has after one more act, where it stood at `mid`: its events are one more, its handled signals have what
-- the act handled, it sent what the act sends, and it still has a local run.
pub record OneMore {S X E : Type 0} (rules : Rules S X E) (p : ℕ) (l mid : Local S X) (events : List E) (handled : List X) (a : Act S X E) : Type 0 where
  pub ran : RanAlone rules p l (events ++ a.effect.event ∷ []) (handled ++ handled_in a.input) (after rules p mid a)
  pub acts_more : acts_told rules p l (events ++ a.effect.event ∷ []) (handled ++ handled_in a.input) ≡ acts_told rules p l events handled ++ a ∷ []
  pub sent_more : sent rules p l (events ++ a.effect.event ∷ []) (handled ++ handled_in a.input) ≡ sent rules p l events handled ++ a.effect.sends
