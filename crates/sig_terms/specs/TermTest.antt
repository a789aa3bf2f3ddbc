-- Whether two terms are equal, as a test (Erlang Reference Manual, Expressions, Term Comparisons: `=:=`).
use Rattle.std.specs.Prelude.{List, ◌∷◌, Bool, true, false, ◌&&◌, ◌==◌, length}
use Rattle.std.specs.Ordering.{int_eq}
use Rattle.std.specs.Str.{bytes_eq}
use Rattle.sig_terms.specs.declared.term.Term.{Term, out-Term}
use Rattle.sig_terms.specs.declared.term.Term.TheOpen.{Term-F}
use Rattle.sig_terms.specs.declared.term.Term.TheOpen as layer
use Rattle.sig_terms.specs.declared.term.Term.TheFolds.{fold-Term}

abbrev pub each_same : List (Term → Bool) → List Term → Bool
each_same (f ∷ fs) (t ∷ ts) = f t && each_same fs ts
each_same _ _ = true

-- as many, and each equal to the one at its place
abbrev pub same_list : List (Term → Bool) → List Term → Bool
same_list fs ts = (length fs == length ts) && each_same fs ts

abbrev pub same_layer : Term-F (Term → Bool) → Term-F Term → Bool
same_layer (layer.Int a) (layer.Int b) = int_eq a b
same_layer (layer.Atom a) (layer.Atom b) = bytes_eq a b
same_layer (layer.Pid a) (layer.Pid b) = a.0 == b.0
same_layer (layer.Ref a) (layer.Ref b) = (a.owner.0 == b.owner.0) && (a.serial == b.serial)
same_layer (layer.Tuple fs) (layer.Tuple ts) = same_list fs ts
same_layer (layer.List fs) (layer.List ts) = same_list fs ts
same_layer _ _ = false

abbrev pub same_term : Term → Term → Bool
same_term = fold-Term (Term → Bool) (λ s t. same_layer s (out-Term t))
