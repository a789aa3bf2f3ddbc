-- The lines before the record, one after another.
use Rattle.std.proofs.Common.{◌≡◌, ℕ, ◌+◌, ◌<◌, ◌≤◌, List, [], ◌∷◌, length, drop, take, true, false, refl, sym, ap, ◌∙◌, arith, add_assoc}
use Rattle.std.specs.Prelude.{codes, take_while, sum_by}
use Rattle.std.specs.Str.{bytes_eq}
use Rattle.std.proofs.lemmas.List.{drop_all, take_all}
use Rattle.std.proofs.lemmas.List.Sums.{sum_by-cons, take_while-cons}
use Rattle.sig_tokens.specs.Lines.{lines_of}
use Rattle.sig_tokens.proofs.LineLemmas.{first_of, rest_at, line-front}
use Rattle.sig_tool.specs.Split.{is_before, script_length, script_part, record_part}

-- how many bytes these lines have before the first that is `sigrecord 1`
abbrev pub counted : List (List ℕ) → ℕ
counted lines = sum_by (λ (line : List ℕ). length line + 1) (take_while is_before lines)

pub counted_on : (line : List ℕ) (lines : List (List ℕ)) → bytes_eq line (codes "sigrecord 1") ≡ false → counted (line ∷ lines) ≡ (length line + 1) + counted lines
counted_on line lines other =
    let first : take_while is_before (line ∷ lines) ≡ line ∷ take_while is_before lines = take_while-cons is_before line lines ∙ rw other refl in
    ap (sum_by (λ (l : List ℕ). length l + 1)) first ∙ sum_by-cons (λ (l : List ℕ). length l + 1) line (take_while is_before lines)

pub counted_at : (line : List ℕ) (lines : List (List ℕ)) → bytes_eq line (codes "sigrecord 1") ≡ true → counted (line ∷ lines) ≡ 0
counted_at line lines is =
    let first : take_while is_before (line ∷ lines) ≡ [] = take_while-cons is_before line lines ∙ rw is refl in
    ap (sum_by (λ (l : List ℕ). length l + 1)) first

module _ (at : ℕ) (bytes line : List ℕ) (lt : at < length bytes) (is : line ≡ first_of (rest_at at bytes)) (so_far : script_length bytes ≡ at + script_length (drop at bytes)) where
  -- one line more
  pub line_on : bytes_eq line (codes "sigrecord 1") ≡ false →
      script_length bytes ≡ at + (length line + 1) + script_length (drop (at + (length line + 1)) bytes)
  unfolding script_length
  line_on other =
      let more : counted (lines_of (drop at bytes)) ≡ (length line + 1) + counted (lines_of (drop (at + (length line + 1)) bytes)) =
      ap counted (line-front at bytes line lt is) ∙ counted_on line (lines_of (drop (at + (length line + 1)) bytes)) other in
      so_far ∙ ap (λ (n : ℕ). at + n) more ∙ sym (add_assoc at (length line + 1) (counted (lines_of (drop (at + (length line + 1)) bytes))))

  -- the record begins here
  pub found : bytes_eq line (codes "sigrecord 1") ≡ true → script_length bytes ≡ at
  unfolding script_length
  found head =
      let none : counted (lines_of (drop at bytes)) ≡ 0 =
      ap counted (line-front at bytes line lt is) ∙ counted_at line (lines_of (drop (at + (length line + 1)) bytes)) head in
      omega (arith, so_far, none)

-- no line is left
pub none_left : (at : ℕ) (bytes : List ℕ) → length bytes ≤ at → script_length bytes ≡ at + script_length (drop at bytes) → length bytes ≤ script_length bytes
unfolding script_length
none_left at bytes h so_far = omega (arith, so_far)

pub whole_script : (bytes : List ℕ) → length bytes ≤ script_length bytes → take (length bytes) bytes ≡ script_part bytes
unfolding script_part
whole_script bytes h = take_all (length bytes) bytes (omega arith) ∙ sym (take_all (script_length bytes) bytes h)

pub no_record : (bytes : List ℕ) → length bytes ≤ script_length bytes → drop (length bytes) bytes ≡ record_part bytes
unfolding record_part
no_record bytes h = drop_all (length bytes) bytes (omega arith) ∙ sym (drop_all (script_length bytes) bytes h)

pub script_so : (bytes : List ℕ) (at : ℕ) → script_length bytes ≡ at → take at bytes ≡ script_part bytes
unfolding script_part
script_so bytes at is = ap (λ (n : ℕ). take n bytes) (sym is)

pub record_so : (bytes : List ℕ) (at : ℕ) → script_length bytes ≡ at → drop at bytes ≡ record_part bytes
unfolding record_part
record_so bytes at is = ap (λ (n : ℕ). drop n bytes) (sym is)

-- all lines are counted
pub from_start : (bytes : List ℕ) → script_length bytes ≡ 0 + script_length (drop 0 bytes)
from_start bytes = omega arith
