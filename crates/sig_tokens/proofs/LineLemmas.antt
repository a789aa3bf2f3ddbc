-- The lines of a text, step by step.
use Rattle.std.proofs.Common.{◌≡◌, ℕ, ◌+◌, ◌-◌, ◌<◌, ◌≤◌, List, [], ◌∷◌, length, drop, take, take_while, cond, not, ◌==◌, true, false, refl, sym, ◌∙◌, ap, subst, arith, drop-drop, add-one, get_or, length-drop}
use Rattle.std.proofs.lemmas.Bool.Decides.{nat_tests}
use Rattle.std.proofs.lemmas.List.{drop_more, take_rest}
use Rattle.std.proofs.lemmas.List.Sums.{take_while-cons}
use Rattle.sig_tokens.specs.Lines.{lines_of, onto_first}

-- the bytes up to the first line feed
abbrev pub first_of : List ℕ → List ℕ
first_of bs = take_while (λ b. not (b == 10)) bs

-- the same by recursion, and what is behind the line feed
abbrev pub first_line : List ℕ → List ℕ
first_line [] = []
first_line (b ∷ bs) = cond (b == 10) [] (b ∷ first_line bs)

abbrev pub after_line : List ℕ → List ℕ
after_line [] = []
after_line (b ∷ bs) = cond (b == 10) bs (after_line bs)

first_line-is : (bs : List ℕ) → first_line bs ≡ first_of bs
first_line-is [] = refl
first_line-is (b ∷ bs) =
    ap (λ (xs : List ℕ). cond (b == 10) [] (b ∷ xs)) (first_line-is bs)
    ∙ (elim (b == 10) as (λ v. cond v [] (b ∷ first_of bs) ≡ cond (not v) (b ∷ first_of bs) []) [ true ↦ refl | false ↦ refl ])
    ∙ sym (take_while-cons (λ b. not (b == 10)) b bs)

after_line-is : (bs : List ℕ) → after_line bs ≡ drop (length (first_line bs) + 1) bs
after_line-is [] = refl
after_line-is (b ∷ bs) =
    elim (b == 10) as (λ v. cond v bs (after_line bs) ≡ drop (length (cond v [] (b ∷ first_line bs)) + 1) (b ∷ bs)) [
      | true ↦ refl
      | false ↦ rw add-one (after_line-is bs ∙ ap (λ (n : ℕ). drop n bs) (add-one (length (first_line bs))))
    ]

lines-cons : (b : ℕ) (bs : List ℕ) → lines_of (b ∷ bs) ≡ first_line (b ∷ bs) ∷ lines_of (after_line (b ∷ bs))
lines-cons b [] = elim (b == 10) as (λ v. cond v ([] ∷ []) ((b ∷ []) ∷ []) ≡ cond v [] (b ∷ []) ∷ lines_of (cond v [] [])) [ true ↦ refl | false ↦ refl ]
lines-cons b (c ∷ cs) =
    elim (b == 10) as (λ v. cond v ([] ∷ lines_of (c ∷ cs)) (onto_first b (lines_of (c ∷ cs))) ≡ cond v [] (b ∷ first_line (c ∷ cs)) ∷ lines_of (cond v (c ∷ cs) (after_line (c ∷ cs)))) [
      | true ↦ refl
      | false ↦ ap (onto_first b) (lines-cons c cs)
    ]

lines-front : (b : ℕ) (bs : List ℕ) → lines_of (b ∷ bs) ≡ first_of (b ∷ bs) ∷ lines_of (drop (length (first_of (b ∷ bs)) + 1) (b ∷ bs))
lines-front b bs =
    lines-cons b bs ∙ ap (λ (xs : List ℕ). first_line (b ∷ bs) ∷ lines_of xs) (after_line-is (b ∷ bs))
    ∙ ap (λ (xs : List ℕ). xs ∷ lines_of (drop (length xs + 1) (b ∷ bs))) (first_line-is (b ∷ bs))

pub nonempty : (b : ℕ) (bs : List ℕ) → (length (b ∷ bs) == 0) ≡ false
nonempty b bs = grind (arith, nat_tests)

pub lines-whole : (bytes : List ℕ) → (length bytes == 0) ≡ false → lines_of bytes ≡ first_of bytes ∷ lines_of (drop (length (first_of bytes) + 1) bytes)
lines-whole [] some = cc
lines-whole (b ∷ bs) some = lines-front b bs

-- the text from place i on, as a loop has it
abbrev pub rest_at : ℕ → List ℕ → List ℕ
rest_at i bytes = take (length bytes - i) (drop i bytes)

pub lines-step : (at : ℕ) (bytes : List ℕ) → at < length bytes →
    lines_of (drop at bytes) ≡ first_of (rest_at at bytes) ∷ lines_of (drop (at + (length (first_of (rest_at at bytes)) + 1)) bytes)
lines-step at bytes lt =
    let P : List ℕ → Type 0 = λ xs. lines_of xs ≡ first_of xs ∷ lines_of (drop (length (first_of xs) + 1) xs) in
    let front : P (drop at bytes) = subst P (sym (drop_more bytes at 0 lt)) (lines-front (get_or bytes at 0) (drop (at + 1) bytes)) in
    let Q : List ℕ → Type 0 = λ xs. lines_of (drop at bytes) ≡ first_of xs ∷ lines_of (drop (at + (length (first_of xs) + 1)) bytes) in
    let whole : Q (drop at bytes) = front ∙ ap (λ (xs : List ℕ). first_of (drop at bytes) ∷ lines_of xs) (drop-drop (length (first_of (drop at bytes)) + 1) at bytes) in
    subst Q (sym (take_rest bytes at)) whole

-- a line at the front of the rest, and the lines behind it
pub line-front : (at : ℕ) (bytes line : List ℕ) → at < length bytes → line ≡ first_of (rest_at at bytes) →
    lines_of (drop at bytes) ≡ line ∷ lines_of (drop (at + (length line + 1)) bytes)
line-front at bytes line lt is = lines-step at bytes lt ∙ ap (λ (xs : List ℕ). xs ∷ lines_of (drop (at + (length xs + 1)) bytes)) (sym is)

-- a line with its line feed
pub line-within : (at : ℕ) (line bytes : List ℕ) → at < length bytes → length line ≤ length (rest_at at bytes) → at + (length line + 1) ≤ length bytes + 1
line-within at line bytes lt le = omega (arith, le, ap length (take_rest bytes at), length-drop {A = ℕ} at bytes)
