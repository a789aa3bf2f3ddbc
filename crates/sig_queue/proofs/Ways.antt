-- How many puts went into the outer list is known from what each sender put.
use Rattle.std.proofs.Common.{◌≡◌, ◌≢◌, ℕ, ◌==◌, Bool, if◌then◌else◌, List, [], ◌∷◌, sym, refl, ap, ◌∙◌, eq-eqb, ne_eqb}
use mathlib.Core.Logic.{dite}
use native.Mathlib.Decide.{ℕ_discrete}
use Rattle.sig_layout.specs.declared.via.Via.{Via}
use Rattle.sig_layout.specs.declared.via.Via.TheVariants as via
use Rattle.sig_layout.specs.declared.item.Item.{Item}
use Rattle.sig_layout.specs.Sent.{putter, of}
use Rattle.sig_layout.specs.Views.{tail}
use Rattle.sig_layout.specs.Carried.{one_outer, outer_count}
use Rattle.sig_layout.proofs.Sending.{of_own, of_other}

-- without the first item of the sender s
abbrev drop_first : ℕ → List Item → List Item
drop_first s [] = []
drop_first s (y ∷ ys) = if putter y == s then ys else y ∷ drop_first s ys

dropped_here : (s : ℕ) (y : Item) (ys : List Item) → putter y ≡ s → drop_first s (y ∷ ys) ≡ ys
dropped_here s y ys e = ap (λ (b : Bool). if b then ys else y ∷ drop_first s ys) (eq-eqb (putter y) s e)

dropped_else : (s : ℕ) (y : Item) (ys : List Item) → putter y ≢ s → drop_first s (y ∷ ys) ≡ y ∷ drop_first s ys
dropped_else s y ys n = ap (λ (b : Bool). if b then ys else y ∷ drop_first s ys) (ne_eqb (putter y) s n)

ways_swapped : (v w : Via) (n : ℕ) → one_outer v (one_outer w n) ≡ one_outer w (one_outer v n)
ways_swapped via.Outer via.Outer n = refl
ways_swapped via.Outer (via.Buffer b) n = refl
ways_swapped (via.Buffer a) via.Outer n = refl
ways_swapped (via.Buffer a) (via.Buffer b) n = refl

abbrev front : Item → List Item → Item
front d [] = d
front d (x ∷ xs) = x

counted_first : (s : ℕ) (x : Item) (xs b : List Item) → of putter s b ≡ x ∷ xs → outer_count b ≡ one_outer x.via (outer_count (drop_first s b))
counted_first s x xs [] e = absurd cc
counted_first s x xs (y ∷ ys) e = dite (ℕ_discrete (putter y) s)
    (λ h. let same : y ≡ x = ap (front y) (sym (of_own putter s y ys h) ∙ e) in ap (λ (i : Item). one_outer i.via (outer_count ys)) same ∙ ap (λ (l : List Item). one_outer x.via (outer_count l)) (sym (dropped_here s y ys h)))
    (λ n. ap (one_outer y.via) (counted_first s x xs ys (sym (of_other putter s y ys n) ∙ e)) ∙ (ways_swapped y.via x.via (outer_count (drop_first s ys)) ∙ ap (λ (l : List Item). one_outer x.via (outer_count l)) (sym (dropped_else s y ys n))))

others_kept : (s t : ℕ) (b : List Item) → t ≢ s → of putter t (drop_first s b) ≡ of putter t b
others_kept s t [] n = refl
others_kept s t (y ∷ ys) n = dite (ℕ_discrete (putter y) s)
    (λ h. ap (of putter t) (dropped_here s y ys h) ∙ sym (of_other putter t y ys (λ e. n (sym e ∙ h))))
    (λ m. ap (of putter t) (dropped_else s y ys m) ∙ dite (ℕ_discrete (putter y) t)
    (λ h. of_own putter t y (drop_first s ys) h ∙ (ap (λ (l : List Item). y ∷ l) (others_kept s t ys n) ∙ sym (of_own putter t y ys h)))
    (λ k. of_other putter t y (drop_first s ys) k ∙ (others_kept s t ys n ∙ sym (of_other putter t y ys k))))

own_dropped : (s : ℕ) (b : List Item) → of putter s (drop_first s b) ≡ tail (of putter s b)
own_dropped s [] = refl
own_dropped s (y ∷ ys) = dite (ℕ_discrete (putter y) s)
    (λ h. ap (of putter s) (dropped_here s y ys h) ∙ ap tail (sym (of_own putter s y ys h)))
    (λ n. ap (of putter s) (dropped_else s y ys n) ∙ (of_other putter s y (drop_first s ys) n ∙ (own_dropped s ys ∙ ap tail (sym (of_other putter s y ys n)))))

pub outer_by_sender : (a b : List Item) → ((s : ℕ) → of putter s a ≡ of putter s b) → outer_count a ≡ outer_count b
outer_by_sender [] [] h = refl
outer_by_sender [] (y ∷ ys) h = let e : [] ≡ y ∷ of putter (putter y) ys = h (putter y) ∙ of_own putter (putter y) y ys refl in absurd cc
outer_by_sender (x ∷ xs) b h = let s : ℕ = putter x in let e : of putter s b ≡ x ∷ of putter s xs = sym (h s) ∙ of_own putter s x xs refl in
    let rest : (t : ℕ) → of putter t xs ≡ of putter t (drop_first s b) = (λ t. dite (ℕ_discrete t s)
    (λ q. ap (λ (k : ℕ). of putter k xs) q ∙ (ap tail (sym e) ∙ (sym (own_dropped s b) ∙ ap (λ (k : ℕ). of putter k (drop_first s b)) (sym q))))
    (λ n. sym (of_other putter t x xs (λ k. n (sym k))) ∙ (h t ∙ sym (others_kept s t b n)))) in
    ap (one_outer x.via) (outer_by_sender xs (drop_first s b) rest) ∙ sym (counted_first s x (of putter s xs) b e)
