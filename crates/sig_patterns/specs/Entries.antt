-- The entries of a sorted map from keys of bytes, as an environment.
use Rattle.std.specs.Prelude.{ℕ, List, map}
use Rattle.std.specs.FinMap.{from_entries}
use Rattle.std.specs.declared.vec.Vec.{Vec}
use Rattle.std.specs.declared.alloc.Global.{Global}
use Rattle.sig_terms.specs.declared.term.Term.{Term}
use Rattle.sig_patterns.specs.Environment.{Environment}

abbrev pub by_bytes : List (Vec ℕ Global × Term) → List (List ℕ × Term)
by_bytes = map (λ e. (e.0.items, e.1))

abbrev pub environment_of : List (Vec ℕ Global × Term) → Environment
environment_of entries = from_entries (by_bytes entries)
