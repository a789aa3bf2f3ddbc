-- A reader of lines reads what the reader reads that doesn't tell where a line can't stand.
use Rattle.std.proofs.Common.{◌≡◌, ℕ, zero, suc, Bool, true, false, cond, List, [], ◌∷◌, ◌++◌, length, Option, Some, None, Result, Ok, Err, refl, sym, ap, ◌∙◌, inl, inr, ◌⊎◌}
use Rattle.std.proofs.lemmas.Option.{none-some, same_Some}
use Rattle.sig_terms.specs.Tokens.{◌>>=◌}
use Rattle.sig_record.specs.Readers.{Reader, joined, items_on}
use Rattle.sig_record.specs.LineReaders.{Lines, or_left, go_on, one_line, then_lines, lines_on}

abbrev pub ok_of : {A : Type 0} → Result A ℕ → Option A
ok_of (Ok x) = Some x
ok_of (Err left) = None

abbrev pub err_of : {A : Type 0} → Result A ℕ → ℕ
err_of (Ok x) = 0
err_of (Err left) = left

-- ---- what an answer says of its parts

pub left_forgotten : {A : Type 0} (n : ℕ) (o : Option A) → ok_of (or_left n o) ≡ o
left_forgotten n None = refl
left_forgotten n (Some x) = refl

pub left_some : {A : Type 0} (n : ℕ) (o : Option A) (x : A) → or_left n o ≡ Ok x → o ≡ Some x
left_some n o x e = sym (left_forgotten n o) ∙ ap ok_of e

pub left_none : {A : Type 0} (n left : ℕ) (o : Option A) → or_left n o ≡ Err left → o ≡ None
left_none n left o e = sym (left_forgotten n o) ∙ ap ok_of e

pub left_count : {A : Type 0} (n left : ℕ) (o : Option A) → or_left n o ≡ Err left → n ≡ left
left_count n left None e = ap err_of e
left_count n left (Some x) e = absurd (none-some x (sym (ap ok_of e)))

pub ok_parts : {A B : Type 0} (r : Result A ℕ) (next : A → Result B ℕ) (y : B) → go_on r next ≡ Ok y → (x : A) × (r ≡ Ok x) × (next x ≡ Ok y)
ok_parts (Ok x) next y e = (x, refl, e)
ok_parts (Err left) next y e = absurd (none-some y (ap ok_of e))

pub err_parts : {A B : Type 0} (r : Result A ℕ) (next : A → Result B ℕ) (left : ℕ) → go_on r next ≡ Err left → (r ≡ Err left) ⊎ ((x : A) × (r ≡ Ok x) × (next x ≡ Err left))
err_parts (Ok x) next left e = inr (x, refl, e)
err_parts (Err n) next left e = inl (ap (λ m. Err m) (ap err_of e))

abbrev answer : {A : Type 0} → Result A ℕ → Result A ℕ
answer r = r

pub same_ok : {A : Type 0} (x y : A) → answer (Ok x) ≡ Ok y → x ≡ y
same_ok x y e = same_Some x y (ap ok_of e)

pub ok_no_err : {A : Type 0} (x : A) (left : ℕ) → answer (Ok x) ≡ Err left → ⊥
ok_no_err x left e = none-some x (sym (ap ok_of e))

-- ---- readers

abbrev pub IsSame : {X : Type 0} → Lines X → Reader X → Type 0
IsSame {X} read front = (bytes : List ℕ) → ok_of (read bytes) ≡ front bytes

pub same_bind : {A B : Type 0} (r : Result A ℕ) (o : Option A) (next : A → Result B ℕ) (f : A → Option B) → ok_of r ≡ o → ((x : A) → ok_of (next x) ≡ f x) → ok_of (go_on r next) ≡ (o >>= f)
same_bind (Ok x) o next f e h = h x ∙ ap (λ p. p >>= f) e
same_bind (Err left) o next f e h = ap (λ p. p >>= f) e

pub one_same : {X : Type 0} (front : Reader X) → IsSame (one_line front) front
one_same front bytes = left_forgotten (length bytes) (front bytes)

pub then_same : {X Y : Type 0} (a : Lines X) (b : Lines Y) (f : Reader X) (g : Reader Y) → IsSame a f → IsSame b g → IsSame (then_lines a b) (joined f g)
then_same a b f g p q bytes =
    same_bind (a bytes) (f bytes) (λ x. go_on (b x.1) (λ y. Ok ((x.0, y.0), y.1))) (λ x. g x.1 >>= λ y. Some ((x.0, y.0), y.1)) (p bytes)
    (λ x. same_bind (b x.1) (g x.1) (λ y. Ok ((x.0, y.0), y.1)) (λ y. Some ((x.0, y.0), y.1)) (q x.1) (λ y. refl))

module _ {X : Type 0} (begins : List ℕ → Bool) (read : List X → Lines X) (front : List X → Reader X) (same : (items : List X) → IsSame (read items) (front items)) where
  pub lines_same : (room : ℕ) (items : List X) → IsSame (lines_on begins read room items) (items_on begins front room items)
  unfolding lines_on items_on
  lines_same zero items bytes =
      elim (begins bytes) as (λ v. ok_of {A = List X × List ℕ} (cond v (Err (length bytes)) (Ok (items, bytes))) ≡ cond v None (Some (items, bytes))) [ true ↦ refl | false ↦ refl ]
  lines_same (suc room) items bytes =
      let more : ok_of (go_on (read items bytes) (λ x. lines_on begins read room (items ++ x.0 ∷ []) x.1)) ≡ (front items bytes >>= λ x. items_on begins front room (items ++ x.0 ∷ []) x.1) =
      same_bind (read items bytes) (front items bytes) (λ x. lines_on begins read room (items ++ x.0 ∷ []) x.1) (λ x. items_on begins front room (items ++ x.0 ∷ []) x.1) (same items bytes) (λ x. lines_same room (items ++ x.0 ∷ []) x.1) in
      elim (begins bytes) as (λ v. ok_of {A = List X × List ℕ} (cond v (go_on (read items bytes) (λ x. lines_on begins read room (items ++ x.0 ∷ []) x.1)) (Ok (items, bytes)))
      ≡ cond v (front items bytes >>= λ x. items_on begins front room (items ++ x.0 ∷ []) x.1) (Some (items, bytes))) [ true ↦ more | false ↦ refl ]
