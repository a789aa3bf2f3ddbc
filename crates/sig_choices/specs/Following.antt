-- How far the processes of a script go along given events, one after another (this project's own).
use Rattle.std.specs.Prelude.{◌≡◌, ◌≢◌, ◌⊎◌, ℕ, Bool, None, List, [], ◌∷◌, ◌++◌, length, slice_get}
use Rattle.std.specs.Bool.{MatchBool}
use Rattle.sig_kinds.specs.declared.signal.Signal.{Signal}
use Rattle.sig_program.specs.Scripts.{Program}
use Rattle.sig_runs.specs.Machine.{Machine, At, IsRun, apply, choice}
use Rattle.sig_runs.specs.Crew.{opening_machine}
use Rattle.sig_runs.specs.Order.{events_by}
use Rattle.sig_model.specs.declared.event.Event.{Event}
use Rattle.sig_model.specs.ProcessState.{ProcessState}
use Rattle.sig_model.specs.Machine.{acted_at, rules_of, opening_of}
use Rattle.sig_model.specs.Running.{Running}
use Rattle.sig_model.specs.SettledRun.{events_of}
use Rattle.sig_model.specs.CrewLaw.{IsLawfulCrew, machine_of}
use Rattle.sig_choices.specs.Choosing.{HasMade}

-- the crew has made these events, one after another
pub record HasFollowed (script : Program) (events : List (At Event)) (crew : List Running) : Type 0 where
  pub lawful : IsLawfulCrew script crew
  pub run : IsRun (rules_of script) (opening_machine (opening_of script)) events (machine_of script crew)
  pub told : (q : ℕ) → events_by q events ≡ events_of (slice_get crew q)

-- the first `count` of the events are a run, and with the next one they are none
pub record StopsAfter (script : Program) (events : List (At Event)) (count : ℕ) : Type 0 where
  pub before : List (At Event)
  pub next : At Event
  pub rest : List (At Event)
  pub split : events ≡ before ++ next ∷ rest
  pub many : count ≡ length before
  pub machine : Machine ProcessState Signal
  pub run : IsRun (rules_of script) (opening_machine (opening_of script)) before machine
  pub none : (end : Machine ProcessState Signal) → IsRun (rules_of script) (opening_machine (opening_of script)) (before ++ next ∷ []) end → ⊥

-- the crew has made this event of the process p; or it made another one, or that choice isn't possible
abbrev pub MakesNext : Program → List Running → ℕ → Event → List Running → Bool → Type 0
MakesNext script crew p e after made =
    IsLawfulCrew script crew → MatchBool made ((m : HasMade script crew p (choice p (acted_at e.did)) after) × (m.event ≡ e))
    ((apply (rules_of script) (machine_of script crew) (choice p (acted_at e.did)) ≡ None) ⊎ ((m : HasMade script crew p (choice p (acted_at e.did)) after) × (m.event ≢ e)))
