-- A list that grows by one item, or by what one item gives, after another.
use Rattle.std.proofs.Common.{◌≡◌, ℕ, ◌+◌, ◌<◌, List, [], ◌∷◌, ◌++◌, length, get_or, take, sym, ap, ◌∙◌, append_assoc}
use Rattle.std.specs.List.{flat_map}
use Rattle.std.proofs.lemmas.List.{take_more, flat_map_more}

pub one_more : {X : Type 0} (before a b items : List X) (i : ℕ) (x y : X) → i < length items → x ≡ get_or items i x → y ≡ x → a ≡ before ++ take i items → b ≡ a ++ y ∷ [] → b ≡ before ++ take (i + 1) items
one_more before a b items i x y lt is same so_far added =
    added ∙ ap (λ xs. xs ++ y ∷ []) so_far ∙ append_assoc before (take i items) (y ∷ []) ∙ ap (λ z. before ++ (take i items ++ z ∷ [])) (same ∙ is) ∙ ap (λ xs. before ++ xs) (sym (take_more items i x lt))

pub piece_more : {X A : Type 0} (f : X → List A) (before a b : List A) (items : List X) (i : ℕ) (d : X) → i < length items → a ≡ before ++ flat_map f (take i items) → b ≡ a ++ f (get_or items i d) → b ≡ before ++ flat_map f (take (i + 1) items)
piece_more f before a b items i d lt so_far added =
    added ∙ ap (λ ys. ys ++ f (get_or items i d)) so_far ∙ flat_map_more f before (take i items) (get_or items i d) ∙ ap (λ xs. before ++ flat_map f xs) (sym (take_more items i d lt))
