-- The nodes of a term: how many there are, how deep they lie, and whether one of them is a reference (this project's
-- own). Each integer, atom, pid, reference, tuple and list is a node.
use Rattle.std.specs.Prelude.{ℕ, ◌+◌, List, [], ◌∷◌, sum, max, Bool, false, ◌&&◌, ◌==◌}
use Rattle.std.specs.List.{list_any}
use Rattle.sig_terms.specs.declared.reference.Ref.{Ref}
use Rattle.sig_terms.specs.declared.term.Term.{Term}
use Rattle.sig_terms.specs.declared.term.Term.TheOpen.{Term-F}
use Rattle.sig_terms.specs.declared.term.Term.TheOpen as layer
use Rattle.sig_terms.specs.declared.term.Term.TheFolds.{fold-Term}

abbrev pub count_step : Term-F ℕ → ℕ
count_step (layer.Tuple counts) = 1 + sum counts
count_step (layer.List counts) = 1 + sum counts
count_step _ = 1

-- how many nodes the term has
abbrev pub node_count : Term → ℕ
node_count = fold-Term ℕ count_step

-- the greatest of the numbers, and 0 where there are none
abbrev pub greatest : List ℕ → ℕ
greatest [] = 0
greatest (n ∷ ns) = max n (greatest ns)

abbrev pub depth_step : Term-F ℕ → ℕ
depth_step (layer.Tuple depths) = 1 + greatest depths
depth_step (layer.List depths) = 1 + greatest depths
depth_step _ = 1

-- 1 for a term without elements, else 1 more than the greatest depth of an element
abbrev pub depth_of : Term → ℕ
depth_of = fold-Term ℕ depth_step

-- whether the two are one reference
abbrev pub same_ref : Ref → Ref → Bool
same_ref a b = (a.owner.0 == b.owner.0) && (a.serial == b.serial)

abbrev pub holds_step : Ref → Term-F Bool → Bool
holds_step r (layer.Ref s) = same_ref s r
holds_step r (layer.Tuple held) = list_any (λ b. b) held
holds_step r (layer.List held) = list_any (λ b. b) held
holds_step r _ = false

-- whether some node of the term is the reference
abbrev pub holds : Ref → Term → Bool
holds r = fold-Term Bool (holds_step r)
