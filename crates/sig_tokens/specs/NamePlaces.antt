-- Where the items of a list stand, by their names.
use Rattle.std.specs.Prelude.{◌≡◌, ℕ, List, position}
use Rattle.std.specs.Ordering.{nat_cmp}
use Rattle.std.specs.Cmp.Lexicographic.{slice_cmp}
use Rattle.std.specs.Map.{lookup}
use Rattle.std.specs.BTreeMap.{is_at}
use Rattle.std.specs.Str.{bytes_eq}
use Rattle.std.specs.declared.vec.Vec.{Vec}
use Rattle.std.specs.declared.alloc.Global.{Global}

-- the entries give for each name the place of the first item of that name, and nothing where there is none
abbrev pub IsIndexed : {A : Type 0} → (A → List ℕ) → List A → List (Vec ℕ Global × ℕ) → Type 0
IsIndexed name_of items entries =
    (name : List ℕ) → lookup (is_at (λ k. slice_cmp nat_cmp name k.items)) entries ≡ position (λ x. bytes_eq (name_of x) name) items
