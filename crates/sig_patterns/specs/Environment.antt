-- The values of the variables of a process, by the variables' bytes (Erlang Reference Manual, Expressions, Variables).
use Rattle.std.specs.Prelude.{ℕ, List, codes, Option, Some, None}
use Rattle.std.specs.Option.{unwrap_or}
use Rattle.std.specs.Ordering.{nat_cmp}
use Rattle.std.specs.Cmp.Lexicographic.{slice_cmp}
use Rattle.std.specs.FinMap.{FinMap, get, insert, remove}
use Rattle.sig_terms.specs.declared.term.Term.{Term}
use Rattle.sig_terms.specs.declared.term.Term.TheVariants as term

abbrev pub Environment : Type 0
Environment = FinMap (slice_cmp nat_cmp) Term

-- the value of a variable without an entry: the atom `undefined` (this project's own)
abbrev pub undefined : Term
undefined = term.Atom (codes "undefined")

abbrev pub value_of_var : Environment → List ℕ → Term
value_of_var env var = unwrap_or (get env var) undefined

-- the environment in which a variable has this entry, or none
abbrev pub with_entry : Environment → List ℕ → Option Term → Environment
with_entry env var (Some t) = insert env var t
with_entry env var None = remove env var
