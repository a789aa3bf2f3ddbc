-- Items that stand one behind the other, as long as the bytes begin so.
use Rattle.std.proofs.Common.{◌≡◌, ℕ, zero, suc, ◌≤◌, Bool, true, false, List, [], ◌∷◌, ◌++◌, length, Some, None, refl, sym, ap, subst, ◌∙◌, append_assoc, arith, length-append}
use Rattle.std.specs.Prelude.{IfSome, All}
use Rattle.std.specs.List.{flat_map}
use Rattle.std.proofs.lemmas.List.{append-nil}
use Rattle.std.proofs.lemmas.List.Elements.{All-nil, All-cons, All-head, All-tail}
use Rattle.std.proofs.lemmas.Option.{IfSome_then}
use Rattle.sig_terms.specs.Tokens.{◌>>=◌}
use Rattle.sig_terms.proofs.Choices.{by_test, if_bind}
use Rattle.sig_record.specs.Readers.{Reader, items_on, many}
use Rattle.sig_record.proofs.ReaderLaws.{IsReadAs, Law, Anything}

-- each item has the property that those before it give
abbrev pub Fits : {X : Type 0} → (List X → X → Type 0) → List X → List X → Type 0
Fits ok items [] = Unit {0}
Fits ok items (x ∷ xs) = ok items x × Fits ok (items ++ x ∷ []) xs

record AreRead {X : Type 0} (text : X → List ℕ) (ok : List X → X → Type 0) (items : List X) (bytes : List ℕ) (x : List X × List ℕ) : Type 0 where
  others : List X
  all : x.0 ≡ items ++ others
  fits : Fits ok items others
  is : bytes ≡ flat_map text others ++ x.1

pub begins_not_empty : (begins : List ℕ → Bool) (bytes : List ℕ) → begins [] ≡ false → begins bytes ≡ true → 1 ≤ length bytes
begins_not_empty begins [] none h = absurd cc
begins_not_empty begins (b ∷ bs) none h = omega arith

module _ {X : Type 0} (begins : List ℕ → Bool) (read : List X → Reader X) (text : X → List ℕ) (ok : List X → X → Type 0) (law : (items : List X) → Law Anything text (ok items) (read items)) where
  no_more : (items : List X) (bytes : List ℕ) → AreRead text ok items bytes (items, bytes)
  no_more items bytes = record { others = []; all = sym (append-nil items); fits = tt; is = refl }

  one_more : (items : List X) (bytes : List ℕ) (x : X × List ℕ) (y : List X × List ℕ) → IsReadAs text (ok items) bytes x → AreRead text ok (items ++ x.0 ∷ []) x.1 y → AreRead text ok items bytes y
  one_more items bytes x y r m = record {
    others = x.0 ∷ m.others;
    all = m.all ∙ append_assoc items (x.0 ∷ []) m.others;
    fits = (r.0, m.fits);
    is = r.1 ∙ ap (λ (t : List ℕ). text x.0 ++ t) m.is ∙ sym (append_assoc (text x.0) (flat_map text m.others) y.1);
  }

  items_found : (room : ℕ) (items : List X) (bytes : List ℕ) → IfSome (items_on begins read room items bytes) (AreRead text ok items bytes)
  unfolding items_on
  items_found zero items bytes =
      by_test (λ o. IfSome o (AreRead text ok items bytes)) (begins bytes) None (Some (items, bytes)) (λ _. tt) (λ _. no_more items bytes)
  items_found (suc room) items bytes =
      by_test (λ o. IfSome o (AreRead text ok items bytes)) (begins bytes) (read items bytes >>= λ x. items_on begins read room (items ++ x.0 ∷ []) x.1) (Some (items, bytes))
      (λ _. if_bind (IsReadAs text (ok items) bytes) (AreRead text ok items bytes) (read items bytes) (λ x. items_on begins read room (items ++ x.0 ∷ []) x.1) ((law items).found bytes) (λ x r.
      IfSome_then (items_on begins read room (items ++ x.0 ∷ []) x.1) (items_found room (items ++ x.0 ∷ []) x.1) (λ y m. one_more items bytes x y r m)))
      (λ _. no_more items bytes)

  module _ (none : begins [] ≡ false) (begun : (items : List X) (x : X) (rest : List ℕ) → ok items x → begins (text x ++ rest) ≡ true) where
    stops_here : (room : ℕ) (items : List X) (rest : List ℕ) → begins rest ≡ false → items_on begins read room items rest ≡ Some (items ++ [], rest)
    unfolding items_on
    stops_here zero items rest stop = rw stop (ap (λ (ys : List X). Some (ys, rest)) (sym (append-nil items)))
    stops_here (suc room) items rest stop = rw stop (ap (λ (ys : List X). Some (ys, rest)) (sym (append-nil items)))

    goes_on : (room : ℕ) (items : List X) (x : X) (tail : List ℕ) → ok items x → items_on begins read (suc room) items (text x ++ tail) ≡ items_on begins read room (items ++ x ∷ []) tail
    unfolding items_on
    goes_on room items x tail k = rw (begun items x tail k, (law items).again x tail k tt) refl

    items_again : (room : ℕ) (items xs : List X) (rest : List ℕ) → Fits ok items xs → length xs ≤ room → begins rest ≡ false → items_on begins read room items (flat_map text xs ++ rest) ≡ Some (items ++ xs, rest)
    items_again room items [] rest fits le stop = stops_here room items rest stop
    items_again zero items (x ∷ xs) rest fits le stop = absurd (omega arith)
    items_again (suc room) items (x ∷ xs) rest fits le stop =
        ap (items_on begins read (suc room) items) (append_assoc (text x) (flat_map text xs) rest)
        ∙ goes_on room items x (flat_map text xs ++ rest) fits.0
        ∙ items_again room (items ++ x ∷ []) xs rest fits.1 (omega arith) stop
        ∙ ap (λ (ys : List X). Some (ys, rest)) (append_assoc items (x ∷ []) xs)

    -- behind items, one that begins and can't be read
    items_none : (room : ℕ) (items xs : List X) (rest : List ℕ) → Fits ok items xs → begins rest ≡ true → read (items ++ xs) rest ≡ None → items_on begins read room items (flat_map text xs ++ rest) ≡ None
    unfolding items_on
    items_none zero items [] rest fits h e = rw h refl
    items_none zero items (x ∷ xs) rest fits h e = rw (ap begins (append_assoc (text x) (flat_map text xs) rest) ∙ begun items x (flat_map text xs ++ rest) fits.0) refl
    items_none (suc room) items [] rest fits h e = rw (h, ap (λ (ys : List X). read ys rest) (sym (append-nil items)) ∙ e) refl
    items_none (suc room) items (x ∷ xs) rest fits h e =
        ap (items_on begins read (suc room) items) (append_assoc (text x) (flat_map text xs) rest)
        ∙ goes_on room items x (flat_map text xs ++ rest) fits.0
        ∙ items_none room (items ++ x ∷ []) xs rest fits.1 h (ap (λ (ys : List X). read ys rest) (append_assoc items (x ∷ []) xs) ∙ e)

    pub many_none : (xs : List X) (rest : List ℕ) → Fits ok [] xs → begins rest ≡ true → read xs rest ≡ None → many begins read (flat_map text xs ++ rest) ≡ None
    many_none xs rest fits h e = items_none (length (flat_map text xs ++ rest)) [] xs rest fits h e

    fewer_than_bytes : (items xs : List X) → Fits ok items xs → length xs ≤ length (flat_map text xs)
    fewer_than_bytes items [] fits = omega arith
    fewer_than_bytes items (x ∷ xs) fits =
        let one : 1 ≤ length (text x ++ []) = begins_not_empty begins (text x ++ []) none (begun items x [] fits.0) in
        let others = fewer_than_bytes (items ++ x ∷ []) xs fits.1 in
        omega (arith, one, others, length-append (text x) [], length-append (text x) (flat_map text xs))

    pub many_law : Law (λ rest. begins rest ≡ false) (flat_map text) (Fits ok []) (many begins read)
    many_law = record {
      found = λ bytes.
          IfSome_then (items_on begins read (length bytes) [] bytes) (items_found (length bytes) [] bytes) (λ y m.
          (subst (Fits ok []) (sym m.all) m.fits, m.is ∙ ap (λ (ys : List X). flat_map text ys ++ y.1) (sym m.all)));
      again = λ xs rest k stop.
          items_again (length (flat_map text xs ++ rest)) [] xs rest k (omega (arith, fewer_than_bytes [] xs k, length-append (flat_map text xs) rest)) stop;
    }

-- where the property doesn't speak of those before
pub fits_all : {X : Type 0} (P : X → Type 0) (items xs : List X) → Fits (λ _ x. P x) items xs → All P xs
fits_all P items [] fits = All-nil P
fits_all P items (x ∷ xs) fits = All-cons P x xs fits.0 (fits_all P (items ++ x ∷ []) xs fits.1)

pub all_fits : {X : Type 0} (P : X → Type 0) (items xs : List X) → All P xs → Fits (λ _ x. P x) items xs
all_fits P items [] all = tt
all_fits P items (x ∷ xs) all = (All-head P x xs all, all_fits P (items ++ x ∷ []) xs (All-tail P x xs all))

-- one item more
pub fits_more : {X : Type 0} (ok : List X → X → Type 0) (items xs : List X) (x : X) → Fits ok items xs → ok (items ++ xs) x → Fits ok items (xs ++ x ∷ [])
fits_more ok items [] x fits k = (subst (λ ys. ok ys x) (append-nil items) k, tt)
fits_more ok items (y ∷ ys) x fits k = (fits.0, fits_more ok (items ++ y ∷ []) ys x fits.1 (subst (λ zs. ok zs x) (sym (append_assoc items (y ∷ []) ys)) k))
