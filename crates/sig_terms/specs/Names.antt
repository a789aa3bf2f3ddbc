-- What a term names: processes, by their pids, and references (Erlang Reference Manual, Data Types, Pid and Reference). That
-- pids are numbers from 0, and that a reference has an owner, is this project's own.
use Rattle.std.specs.Prelude.{◌≡◌, ℕ, ◌<◌, Bool, true, Some, List, [], ◌∷◌, All, slice_get}
use Rattle.std.specs.List.{flat_map}
use Rattle.sig_terms.specs.declared.reference.Ref.{Ref}
use Rattle.sig_terms.specs.declared.term.Term.{Term}
use Rattle.sig_terms.specs.declared.term.Term.TheOpen.{Term-F}
use Rattle.sig_terms.specs.declared.term.Term.TheOpen as layer
use Rattle.sig_terms.specs.declared.term.Term.TheFolds.{fold-Term}

-- what can be named: a process, by its pid, or a reference
pub data Named : Type 0 where
  process : ℕ → Named
  reference : Ref → Named

-- a reference, and its owner, which is a process that is named with it
abbrev pub names_of_ref : Ref → List Named
names_of_ref r = reference r ∷ process r.owner.0 ∷ []

-- the names in a term from those in its elements
abbrev pub names_step : Term-F (List Named) → List Named
names_step (layer.Pid p) = process p.0 ∷ []
names_step (layer.Ref r) = names_of_ref r
names_step (layer.Tuple names) = flat_map (λ ns. ns) names
names_step (layer.List names) = flat_map (λ ns. ns) names
names_step _ = []

-- the names in a term, from the left to the right
abbrev pub names_of : Term → List Named
names_of = fold-Term (List Named) names_step

-- what holds of every name in a term
abbrev pub AllNames : (Named → Type 0) → Term → Type 0
AllNames P t = All P (names_of t)

-- a process that is named is one of so many; of a reference, its owner is named too
abbrev pub IsNameBelow : ℕ → Named → Type 0
IsNameBelow count (process pid) = pid < count
IsNameBelow count (reference r) = Unit {0}

-- the same of a reference: its owner
abbrev pub IsRefBelow : ℕ → Ref → Type 0
IsRefBelow count r = r.owner.0 < count

-- a process that is named is known: the list is true at its place; of a reference, its owner is named too
abbrev pub IsAmong : List Bool → Named → Type 0
IsAmong known (process pid) = slice_get known pid ≡ Some true
IsAmong known (reference r) = Unit {0}
