-- Numbers in decimal digits.
use Rattle.std.proofs.Common.{◌≡◌, ℕ, ◌<◌, ◌^◌, Bool, true, false, List, length, Option, Some, None, Result, Ok, Err, rules, refl, arith, sym, ◌∙◌, lt-ltb, ltb-true, le-ltb, inl, inr}
use Rattle.std.specs.Prelude.{nat_lt}
use Rattle.std.specs.Result.{result_ok}
use Rattle.std.specs.Char.{is_ascii_digit}
use Rattle.std.specs.List.{list_all}
use Rattle.std.specs.Str.Parse.{ParsesUnsigned, digits_value}
use Rattle.std.proofs.lemmas.Bool.Decides.{nat_tests}
use Rattle.std.proofs.lemmas.Bool.{cases_lt}
use Rattle.std.proofs.lemmas.Str.Parse.{IsNumeralModel, numerals_by_value, parse_digits}
use Rattle.sig_tool.specs.Numbers.{number_in}

own : IsNumeralModel (λ ds. list_all is_ascii_digit ds ≡ true) (digits_value 10)
own = numerals_by_value _ (search rules)

pub not_digits : (text : List ℕ) → list_all is_ascii_digit text ≡ false → None ≡ number_in text
not_digits text h = rw h (grind (arith, nat_tests))

a_number : {E : Type 0} (text : List ℕ) (r : Result ℕ E) (n : ℕ) → ParsesUnsigned 64 10 text r → r ≡ Ok n → list_all is_ascii_digit text ≡ true → Some n ≡ number_in text
a_number {E} text (Ok m) n parses is digits =
    let p : ((0 < length text) × (digits_value 10 text < 2 ^ 64)) × (m ≡ digits_value 10 text) = parse_digits own {E = E} 64 text (Ok m) parses digits in
    let one : m ≡ n = cc in
    let same : n ≡ digits_value 10 text = sym one ∙ p.1 in
    let some : nat_lt 0 (length text) ≡ true = lt-ltb 0 (length text) p.0.0 in
    let fits : nat_lt (digits_value 10 text) (2 ^ 64) ≡ true = lt-ltb (digits_value 10 text) (2 ^ 64) p.0.1 in
    rw (digits, same, some, fits) refl
a_number text (Err e) n parses is digits = cc

no_number : {E : Type 0} (text : List ℕ) (r : Result ℕ E) (e : E) → ParsesUnsigned 64 10 text r → r ≡ Err e → list_all is_ascii_digit text ≡ true → None ≡ number_in text
no_number text (Ok m) e parses is digits = cc
no_number {E} text (Err f) e parses is digits =
    let p : (0 < length text) × (digits_value 10 text < 2 ^ 64) → ⊥ = parse_digits own {E = E} 64 text (Err f) parses digits in
    go (nat_lt 0 (length text)) refl p
  where
    go : (b : Bool) → nat_lt 0 (length text) ≡ b → ((0 < length text) × (digits_value 10 text < 2 ^ 64) → ⊥) → None ≡ number_in text
    go false t p = rw t refl
    go true t p =
        rw (digits, t) (elim (cases_lt (digits_value 10 text) (2 ^ 64)) [
          | inl under ↦ absurd (p (ltb-true _ _ t, under))
          | inr over ↦ let past : nat_lt (digits_value 10 text) (2 ^ 64) ≡ false = le-ltb (digits_value 10 text) (2 ^ 64) over in rw past refl
        ])

-- what parsing gave is the number
pub numbered : {E : Type 0} (text : List ℕ) (r : Result ℕ E) (o : Option ℕ) → ParsesUnsigned 64 10 text r → o ≡ result_ok r → list_all is_ascii_digit text ≡ true → o ≡ number_in text
numbered {E} text (Ok n) o parses is digits = is ∙ a_number {E = E} text (Ok n) n parses refl digits
numbered {E} text (Err e) o parses is digits = is ∙ no_number {E = E} text (Err e) e parses refl digits
