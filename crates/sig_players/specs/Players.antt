-- Processes that make given choices, and the signals that wait for them (this project's own).
use Rattle.std.specs.Prelude.{◌≡◌, ℕ, List, [], ◌∷◌, ◌++◌, map, length, All}
use Rattle.sig_model.specs.Running.{Running}
use Rattle.sig_model.specs.Keeping.{IsPlaced}
use Rattle.sig_players.specs.declared.player.Player.{Player}
use Rattle.sig_kinds.specs.declared.signal.Signal.{Signal}
use Rattle.sig_choices.specs.Waiting.{joined, AreAlike, AreApart}

-- the process with all that waits for it
abbrev pub seen : Player → Running
seen p = record p.process.running { taken_in = joined p.waiting.items }

abbrev pub crew_of : List Player → List Running
crew_of players = map seen players

-- the process itself has taken in no signal, and there is a list for each process of the script
pub record IsReady (p : Player) : Type 0 where
  pub none : p.process.running.taken_in ≡ []
  pub many : length p.waiting.items ≡ p.process.running.count
  pub apart : AreApart p.process.running.pid p.process.running.count p.waiting.items

-- a signal has joined those that wait for the process; of each sender they stand in their order
pub record IsGiven (x : Signal) (before after : Player) : Type 0 where
  pub process : after.process ≡ before.process
  pub alike : AreAlike (joined after.waiting.items) (joined before.waiting.items ++ x ∷ [])

-- the same of each
pub record AreReady (players : List Player) : Type 0 where
  pub each : All IsReady players
  pub placed : IsPlaced (crew_of players)

-- no signal waits for the process, one of so many
abbrev pub HasNothing : ℕ → Running → Type 0
HasNothing count r = (r.taken_in ≡ []) × (r.count ≡ count)
