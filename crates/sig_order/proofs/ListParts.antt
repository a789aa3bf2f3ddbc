-- Lists: what is in a filter or a map, and an item more at the end.
use Rattle.std.proofs.Common.{◌≡◌, ℕ, zero, suc, ◌+◌, Bool, true, false, cond, List, [], ◌∷◌, ◌++◌, map, length, get_or, Some, refl, sym, ap, ◌∙◌, subst, inl, inr, ◌⊎◌, arith}
use Rattle.std.specs.Prelude.{slice_get}
use Rattle.std.specs.List.{Contains, filter}
use Rattle.std.proofs.lemmas.List.{length-map, get_or-map}
use Rattle.std.proofs.lemmas.Option.{same_Some, none-some}

further : {X : Type 0} (y : X) (ys : List X) (x : X) → Contains ys x → Contains (y ∷ ys) x
further y ys x h = (suc h.0, omega (arith, h.1), h.2)

-- an item that passes the test is kept
pub contains-filter : {X : Type 0} (test : X → Bool) (xs : List X) (x : X) → Contains xs x → test x ≡ true → Contains (filter test xs) x
contains-filter test [] x h t = absurd (omega (arith, h.1))
contains-filter test (y ∷ ys) x (zero, lt, e) t =
    subst (λ (b : Bool). Contains (cond b (y ∷ filter test ys) (filter test ys)) x) (sym (ap test e ∙ t)) (0, omega arith, e)
contains-filter test (y ∷ ys) x (suc k, lt, e) t = by (contains-filter test ys x (k, omega (arith, lt), e) t) (test y)
  where
    by : Contains (filter test ys) x → (b : Bool) → Contains (cond b (y ∷ filter test ys) (filter test ys)) x
    by rest true = further y (filter test ys) x rest
    by rest false = rest

pub contains-map : {X Y : Type 0} (f : X → Y) (xs : List X) (x : X) → Contains xs x → Contains (map f xs) (f x)
contains-map f xs x h =
    let many : length (map f xs) ≡ length xs = length-map xs f in
    (h.0, omega (arith, h.1, many), get_or-map f xs h.0 x (f x) h.1 ∙ ap f h.2)

-- what stands at a place stands there with more behind it
pub get_left : {X : Type 0} (xs ys : List X) (i : ℕ) (x : X) → slice_get xs i ≡ Some x → slice_get (xs ++ ys) i ≡ Some x
get_left [] ys i x h = absurd (none-some x h)
get_left (z ∷ zs) ys zero x h = h
get_left (z ∷ zs) ys (suc i) x h = get_left zs ys i x h

pub get_end : {X : Type 0} (xs : List X) (y : X) → slice_get (xs ++ y ∷ []) (length xs) ≡ Some y
get_end [] y = refl
get_end (z ∷ zs) y = get_end zs y

-- with an item more at the end it stood there before, or is the new one
pub get_push : {X : Type 0} (xs : List X) (y : X) (i : ℕ) (x : X) → slice_get (xs ++ y ∷ []) i ≡ Some x → (slice_get xs i ≡ Some x) ⊎ ((i ≡ length xs) × (y ≡ x))
get_push [] y zero x h = inr (refl, same_Some y x h)
get_push [] y (suc i) x h = absurd (none-some x h)
get_push (z ∷ zs) y zero x h = inl h
get_push (z ∷ zs) y (suc i) x h = by (get_push zs y i x h)
  where
    by : (slice_get zs i ≡ Some x) ⊎ ((i ≡ length zs) × (y ≡ x)) → (slice_get (z ∷ zs) (suc i) ≡ Some x) ⊎ ((suc i ≡ length (z ∷ zs)) × (y ≡ x))
    by (inl g) = inl g
    by (inr g) = inr (ap suc g.0, g.1)
