-- Texts that are put one behind the other: what stands in front of one stays there, and one more.
use Rattle.std.proofs.Common.{◌≡◌, ℕ, ◌+◌, ◌<◌, ◌≤◌, List, [], ◌∷◌, ◌++◌, Result, Ok, Err, IsErr, take, length, get_or, length-append, refl, sym, ap, ◌∙◌, append_assoc, arith}
use Rattle.std.specs.List.{flat_map}
use Rattle.std.proofs.lemmas.List.{take-take, take_at, take_all, append-nil}
use Rattle.std.proofs.lemmas.Grind.{take_at_read, flat_map-append}
use Rattle.sig_terms.specs.Putting.{IsPut}

-- the front of what stands in front
pub kept_front : (a b c x : List ℕ) → b ≡ a ++ x → take (length b) c ≡ b → take (length a) c ≡ a
kept_front a b c x e h =
    let within : length a ≤ length b = omega (arith, ap length e, length-append a x) in
    sym (take-take (length a) (length b) c within) ∙ ap (take (length a)) (h ∙ e) ∙ take_at a x (length a) refl

-- the text of one part more, or another list that each part gives
pub text_more : {A B : Type 0} (text : A → List B) (parts : List A) (i : ℕ) (x : A) (before now after : List B) → i < length parts → x ≡ get_or parts i x
    → now ≡ before ++ flat_map text (take i parts) → after ≡ now ++ text x → after ≡ before ++ flat_map text (take (i + 1) parts)
text_more {A} {B} text parts i x before now after lt is so_far put =
    let done : List A = take i parts in
    let more : take (i + 1) parts ≡ done ++ x ∷ [] = (take_at_read parts i x lt).1 ∙ ap (λ (y : A). done ++ y ∷ []) (sym is) in
    let texts : flat_map text (done ++ x ∷ []) ≡ flat_map text done ++ text x = flat_map-append text done (x ∷ []) ∙ ap (λ (t : List B). flat_map text done ++ t) (append-nil (text x)) in
    put ∙ ap (λ (n : List B). n ++ text x) so_far ∙ append_assoc before (flat_map text done) (text x)
    ∙ ap (λ (t : List B). before ++ t) (sym texts) ∙ ap (λ (ps : List A). before ++ flat_map text ps) (sym more)

-- the texts of as many parts as there are
pub texts_whole : {A B : Type 0} (text : A → List B) (parts : List A) (i : ℕ) (before now : List B) → length parts ≤ i
    → now ≡ before ++ flat_map text (take i parts) → now ≡ before ++ flat_map text parts
texts_whole {A} text parts i before now lt so_far = so_far ∙ ap (λ (ps : List A). before ++ flat_map text ps) (take_all i parts lt)

-- a text behind another one that was put
pub put_behind : {T E : Type 0} (r : Result T E) (old now new one more text : List ℕ) → now ≡ old ++ one → IsPut now new more r → text ≡ one ++ more → IsPut old new text r
put_behind (Ok x) old now new one more text first second whole =
    (second.0 ∙ ap (λ (before : List ℕ). before ++ more) first ∙ append_assoc old one more ∙ ap (λ (t : List ℕ). old ++ t) (sym whole), tt)
put_behind (Err e) old now new one more text first second whole = (tt, kept_front old now new one first second.1)

-- what was put before a call that failed
pub put_before : {T E : Type 0} (r : Result T E) (old now new one text : List ℕ) → IsErr r → now ≡ old ++ one → take (length now) new ≡ now → IsPut old new text r
put_before (Ok x) old now new one text failed first kept = absurd (cc)
put_before (Err e) old now new one text failed first kept = (tt, kept_front old now new one first kept)

-- two texts, with a gap between them
pub two_put : (old now new one gap more : List ℕ) → now ≡ old ++ one → new ≡ now ++ (gap ++ more) → new ≡ old ++ (one ++ gap ++ more)
two_put old now new one gap more first second =
    second ∙ ap (λ (before : List ℕ). before ++ (gap ++ more)) first ∙ append_assoc old one (gap ++ more) ∙ ap (λ (t : List ℕ). old ++ t) (sym (append_assoc one gap more))

-- the same, where the gap was put alone
pub put_again : (old now spaced one gap more : List ℕ) → now ≡ old ++ one → spaced ≡ now ++ gap → spaced ++ more ≡ old ++ (one ++ gap ++ more)
put_again old now spaced one gap more first second =
    ap (λ (before : List ℕ). before ++ more) (second ∙ ap (λ (before : List ℕ). before ++ gap) first ∙ append_assoc old one gap) ∙ append_assoc old (one ++ gap) more

pub put_with_gap : {T E : Type 0} (r : Result T E) (old now new one gap more : List ℕ) → now ≡ old ++ one → IsPut now new (gap ++ more) r → IsPut old new (one ++ gap ++ more) r
put_with_gap r old now new one gap more first second = put_behind r old now new one (gap ++ more) (one ++ gap ++ more) first second (append_assoc one gap more)
