-- Numbers in decimal digits.
use Rattle.std.proofs.Common.{◌≡◌, ℕ, ◌<◌, ◌^◌, Bool, true, false, List, length, None, Result, Ok, Err, rules, refl, arith, sym, ◌∙◌, lt-ltb, ltb-true, inl, inr}
use Rattle.std.specs.Prelude.{nat_lt}
use Rattle.std.specs.Char.{is_ascii_digit}
use Rattle.std.specs.List.{list_all}
use Rattle.std.specs.Str.Parse.{ParsesUnsigned, digits_value}
use Rattle.std.proofs.lemmas.Bool.Decides.{nat_tests}
use Rattle.std.proofs.lemmas.Bool.{cases_lt}
use Rattle.std.proofs.lemmas.Str.Parse.{IsNumeralModel, numerals_by_value, parse_digits}
use Rattle.sig_host.specs.Words.{number_within, within}

own : IsNumeralModel (λ ds. list_all is_ascii_digit ds ≡ true) (digits_value 10)
own = numerals_by_value _ (search rules)

pub not_digits : (least most : ℕ) (text : List ℕ) → list_all is_ascii_digit text ≡ false → None ≡ number_within least most text
not_digits least most text h = rw h (grind (arith, nat_tests))

pub a_number : {E : Type 0} (least most : ℕ) (text : List ℕ) (r : Result ℕ E) (n : ℕ) → ParsesUnsigned 32 10 text r → r ≡ Ok n → list_all is_ascii_digit text ≡ true
    → within least most n ≡ number_within least most text
a_number {E} least most text (Ok m) n parses is digits =
    let p : ((0 < length text) × (digits_value 10 text < 2 ^ 32)) × (m ≡ digits_value 10 text) = parse_digits own {E = E} 32 text (Ok m) parses digits in
    let one : m ≡ n = cc in
    let same : n ≡ digits_value 10 text = sym one ∙ p.1 in
    let some : nat_lt 0 (length text) ≡ true = lt-ltb 0 (length text) p.0.0 in
    rw (digits, same, some) refl
a_number least most text (Err e) n parses is digits = cc

too_large : (least most n : ℕ) → most < n → within least most n ≡ None
too_large least most n h = grind (arith, nat_tests)

pub no_number : {E : Type 0} (least most : ℕ) (text : List ℕ) (r : Result ℕ E) (e : E) → most < 2 ^ 32 → ParsesUnsigned 32 10 text r → r ≡ Err e → list_all is_ascii_digit text ≡ true
    → None ≡ number_within least most text
no_number least most text (Ok m) e small parses is digits = cc
no_number {E} least most text (Err f) e small parses is digits =
    let p : (0 < length text) × (digits_value 10 text < 2 ^ 32) → ⊥ = parse_digits own {E = E} 32 text (Err f) parses digits in
    go (nat_lt 0 (length text)) refl p
  where
    go : (b : Bool) → nat_lt 0 (length text) ≡ b → ((0 < length text) × (digits_value 10 text < 2 ^ 32) → ⊥) → None ≡ number_within least most text
    go false t p = rw t refl
    go true t p =
        rw (digits, t) (elim (cases_lt (digits_value 10 text) (2 ^ 32)) [
          | inl under ↦ absurd (p (ltb-true _ _ t, under))
          | inr over ↦ sym (too_large least most _ (omega (arith, small, over)))
        ])
