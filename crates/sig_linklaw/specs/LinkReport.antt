-- The links between the processes of a crew that wait at the end of its run (this project's own).
use Rattle.std.specs.Prelude.{◌≡◌, ◌<◌, ◌⊎◌, ℕ, Bool, true, ◌&&◌, nat_lt, List, [], ◌∷◌, map, Some, slice_get, if◌then◌else◌}
use Rattle.std.specs.List.{flat_map}
use Rattle.sig_kinds.specs.LinkRules.{is_active}
use Rattle.sig_program.specs.Scripts.{Program}
use Rattle.sig_runs.specs.Crew.{crew_machine}
use Rattle.sig_runs.specs.Settled.{IsSettled}
use Rattle.sig_model.specs.Machine.{rules_of}
use Rattle.sig_model.specs.PrintedState.{is_waiting}
use Rattle.sig_model.specs.Running.{Running}
use Rattle.sig_model.specs.OneWorker.{IsClear}
use Rattle.sig_model.specs.CrewLaw.{IsLawfulCrew, whole_member}
use Rattle.sig_linklaw.specs.declared.pair.Pair.{Pair}

-- a lawful crew of the script that has come to rest, with nothing in an outbox
pub record HasComeToRest (script : Program) (crew : List Running) : Type 0 where
  pub lawful : IsLawfulCrew script crew
  pub clear : IsClear crew
  pub settled : IsSettled (rules_of script) (crew_machine (rules_of script) (map whole_member crew))

abbrev pub pair : ℕ → ℕ → Pair
pair low high = record { low = record { 0 = low }; high = record { 0 = high } }

-- r has the lower pid, both wait, and r has t as an active peer
abbrev pub are_linked : Running → Running → Bool
are_linked r t = nat_lt r.pid t.pid && is_waiting r && is_waiting t && is_active r.state.tables.links t.pid

-- the pairs of r and one of these
abbrev pub pairs_of : Running → List Running → List Pair
pairs_of r [] = []
pairs_of r (t ∷ ts) = if are_linked r t then pair r.pid t.pid ∷ pairs_of r ts else pairs_of r ts

-- the pairs of each of these with those of the crew, in the crew's order
abbrev pub linked_pairs : List Running → List Pair
linked_pairs crew = flat_map (λ r. pairs_of r crew) crew

-- the processes p and q of the crew both wait, and p has q as an active peer
pub record IsLinked (crew : List Running) (p q : ℕ) : Type 0 where
  pub one : Running
  pub other : Running
  pub here : slice_get crew p ≡ Some one
  pub there : slice_get crew q ≡ Some other
  pub waits : is_waiting one ≡ true
  pub rests : is_waiting other ≡ true
  pub active : is_active one.state.tables.links q ≡ true

-- the lower pid stands first
abbrev pub HasLowFirst : Pair → Type 0
HasLowFirst z = z.low.0 < z.high.0

-- the pair a comes before b: by the lower pid, and then by the other
abbrev pub IsLower : Pair → Pair → Type 0
IsLower a b = (a.low.0 < b.low.0) ⊎ ((a.low.0 ≡ b.low.0) × (a.high.0 < b.high.0))
