-- A token that is read is written so.
use Rattle.std.proofs.Common.{◌≡◌, ℕ, zero, suc, ◌+◌, ◌-◌, ◌*◌, ◌/◌, ◌%◌, ◌^◌, ◌<◌, ◌≤◌, Bool, true, false, cond, List, [], ◌∷◌, ◌++◌, length, take, drop, Some, None, refl, sym, ap, subst, ◌∙◌, append_assoc, one-add, arith}
use Rattle.std.specs.Prelude.{IfSome, ℤ, pos, negsuc, ◌==◌, nat_le, nat_lt, decimal, codes, ◌&&◌}
use Rattle.std.specs.Fmt.{signed_decimal}
use Rattle.std.specs.List.{list_all, prefix_len}
use Rattle.std.specs.Str.{bytes_eq}
use Rattle.std.proofs.lemmas.Bool.Decides.{nat_tests}
use Rattle.std.proofs.lemmas.Fmt.{decimal_digit, decimal_step}
use Rattle.std.proofs.lemmas.List.{take-append-drop}
use Rattle.std.proofs.lemmas.Slice.Eq.{bytes_eq-Decides}
use Rattle.sig_terms.specs.Words.{is_lower, is_digit, is_name_byte, is_name, is_atom_byte, is_atom}
use Rattle.sig_terms.specs.TermText.{atom_text, pid_text, reference_text}
use Rattle.sig_terms.specs.Readable.{is_wide}
use Rattle.sig_terms.specs.declared.pid.Pid.{Pid}
use Rattle.sig_terms.specs.declared.reference.Ref.{Ref}
use Rattle.sig_terms.specs.Tokens.{◌>>=◌, digits_on, number_at, int_at, after_text, atom_of, name_at, quoted_at, pid_at, reference_at}
use Rattle.sig_terms.proofs.Choices.{by_test, if_bind, both_true}
use Rattle.sig_terms.specs.declared.bytes.TheConstants.{MOST_WORD_BYTES}

-- ---- numbers

pub digit_within : (b : ℕ) → is_digit b ≡ true → (48 ≤ b) × (b ≤ 57)
digit_within b h = grind (arith, nat_tests)

-- one more digit
pub next_digit : (n b : ℕ) → 0 < n → 48 ≤ b → b ≤ 57 → 10 * n + (b - 48) < 2 ^ 64 → decimal (10 * n + (b - 48)) ≡ decimal n ++ b ∷ []
next_digit n b above low high fits =
    let m : ℕ = 10 * n + (b - 48) in
    let front : m / 10 ≡ n = omega arith in
    let last : 48 + m % 10 ≡ b = omega arith in
    decimal_step m (omega arith) fits ∙ rw (front, last) refl

-- what digits_on gives is written as n and the bytes are
abbrev pub IsRead : ℕ → List ℕ → ℕ × List ℕ → Type 0
IsRead most text x = (x.0 ≤ most) × (text ≡ decimal x.0 ++ x.1)

pub digits_text : (most n : ℕ) (bytes : List ℕ) → most < 2 ^ 64 → 0 < n → n ≤ most → IsRead most (decimal n ++ bytes) (digits_on most n bytes)
digits_text most n [] fits above le = (le, refl)
digits_text most n (b ∷ bs) fits above le =
    by_test (IsRead most (decimal n ++ b ∷ bs)) (is_digit b && nat_le (10 * n + (b - 48)) most) (digits_on most (10 * n + (b - 48)) bs) (n, b ∷ bs)
    (λ h.
    let tests = both_true (is_digit b) (nat_le (10 * n + (b - 48)) most) h in
    let d = digit_within b tests.0 in
    let small : 10 * n + (b - 48) ≤ most = grind (arith, nat_tests) in
    let more : decimal (10 * n + (b - 48)) ≡ decimal n ++ b ∷ [] = next_digit n b above d.0 d.1 (omega arith) in
    let same : decimal n ++ b ∷ bs ≡ decimal (10 * n + (b - 48)) ++ bs = rw more (sym (append_assoc (decimal n) (b ∷ []) bs)) in
    subst (λ (text : List ℕ). IsRead most text (digits_on most (10 * n + (b - 48)) bs)) (sym same) (digits_text most (10 * n + (b - 48)) bs fits (omega arith) small))
    (λ h. (le, refl))

pub number_text : (most : ℕ) (bytes : List ℕ) → 9 ≤ most → most < 2 ^ 64 → IfSome (number_at most bytes) (IsRead most bytes)
number_text most [] nine fits = tt
number_text most (b ∷ bs) nine fits =
    by_test (λ o. IfSome o (IsRead most (b ∷ bs))) (is_digit b) (cond (b == 48) (Some (0, bs)) (Some (digits_on most (b - 48) bs))) None
    (λ h.
    let d = digit_within b h in
    by_test (λ o. IfSome o (IsRead most (b ∷ bs))) (b == 48) (Some (0, bs)) (Some (digits_on most (b - 48) bs))
    (λ e. let zeros : b ≡ 48 = grind (arith, nat_tests) in (omega arith, rw (zeros, decimal_digit 0 (omega arith)) refl))
    (λ e.
    let other : 48 < b = grind (arith, nat_tests, d.0) in
    let one : decimal (b - 48) ≡ b ∷ [] = decimal_digit (b - 48) (omega arith) ∙ ap (λ (k : ℕ). k ∷ []) (omega arith) in
    subst (λ (text : List ℕ). IsRead most (text ++ bs) (digits_on most (b - 48) bs)) one (digits_text most (b - 48) bs fits (omega arith) (omega arith))))
    (λ h. tt)

abbrev pub IsReadInt : List ℕ → ℤ × List ℕ → Type 0
IsReadInt bytes x = (is_wide x.0 ≡ true) × (bytes ≡ signed_decimal x.0 ++ x.1)

pub int_text : (bytes : List ℕ) → IfSome (int_at bytes) (IsReadInt bytes)
int_text [] = tt
int_text (b ∷ bs) =
    by_test (λ o. IfSome o (IsReadInt (b ∷ bs))) (b == 45) (number_at (2 ^ 63) bs >>= λ x. cond (x.0 == 0) None (Some (negsuc (x.0 - 1), x.1))) (number_at (2 ^ 63 - 1) (b ∷ bs) >>= λ x. Some (pos x.0, x.1))
    (λ h.
    let sign : b ≡ 45 = grind (arith, nat_tests) in
    if_bind (IsRead (2 ^ 63) bs) (IsReadInt (b ∷ bs)) (number_at (2 ^ 63) bs) (λ x. cond (x.0 == 0) None (Some (negsuc (x.0 - 1), x.1))) (number_text (2 ^ 63) bs (omega arith) (omega arith)) (λ x r.
    by_test (λ o. IfSome o (IsReadInt (b ∷ bs))) (x.0 == 0) None (Some (negsuc (x.0 - 1), x.1)) (λ z. tt) (λ z.
    let some : 0 < x.0 = grind (arith, nat_tests) in
    let value : suc (x.0 - 1) ≡ x.0 = omega arith in
    let small : nat_lt (x.0 - 1) (2 ^ 63) ≡ true = grind (arith, nat_tests, r.0) in
    let text : b ∷ bs ≡ 45 ∷ (decimal x.0 ++ x.1) = rw sign (ap (λ (t : List ℕ). 45 ∷ t) r.1) in
    (small, rw value text))))
    (λ h. if_bind (IsRead (2 ^ 63 - 1) (b ∷ bs)) (IsReadInt (b ∷ bs)) (number_at (2 ^ 63 - 1) (b ∷ bs)) (λ x. Some (pos x.0, x.1)) (number_text (2 ^ 63 - 1) (b ∷ bs) (omega arith) (omega arith)) (λ x r.
    let small : nat_lt x.0 (2 ^ 63) ≡ true = grind (arith, nat_tests, r.0) in
    (small, r.1)))

-- ---- texts, and numbers between them

pub after_text_is : (text bytes : List ℕ) → IfSome (after_text text bytes) (λ rest. bytes ≡ text ++ rest)
after_text_is text bytes =
    by_test (λ o. IfSome o (λ rest. bytes ≡ text ++ rest)) (bytes_eq (take (length text) bytes) text) (Some (drop (length text) bytes)) None
    (λ h. sym (take-append-drop (length text) bytes) ∙ ap (λ (t : List ℕ). t ++ drop (length text) bytes) ((bytes_eq-Decides (take (length text) bytes) text).0 h))
    (λ h. tt)

abbrev pub IsReadPid : List ℕ → Pid × List ℕ → Type 0
IsReadPid bytes x = (x.0.0 < 2 ^ 32) × (60 ∷ bytes ≡ pid_text x.0.0 ++ x.1)

pub pid_at_text : (bytes : List ℕ) → IfSome (pid_at bytes) (IsReadPid bytes)
pid_at_text bytes =
    if_bind (IsRead (2 ^ 32 - 1) bytes) (IsReadPid bytes) (number_at (2 ^ 32 - 1) bytes) (λ n. after_text (codes ">") n.1 >>= λ rest. Some (record { 0 = n.0 }, rest)) (number_text (2 ^ 32 - 1) bytes (omega arith) (omega arith)) (λ n r.
    if_bind (λ rest. n.1 ≡ codes ">" ++ rest) (IsReadPid bytes) (after_text (codes ">") n.1) (λ rest. Some (record { 0 = n.0 }, rest)) (after_text_is (codes ">") n.1) (λ rest e.
    let whole : bytes ≡ decimal n.0 ++ (codes ">" ++ rest) = r.1 ∙ ap (λ (t : List ℕ). decimal n.0 ++ t) e in
    (omega (arith, r.0), rw whole (ap (λ (t : List ℕ). 60 ∷ t) (sym (append_assoc (decimal n.0) (codes ">") rest))))))

abbrev pub IsReadRef : List ℕ → Ref × List ℕ → Type 0
IsReadRef bytes x = (x.0.owner.0 < 2 ^ 32) × (x.0.serial < 2 ^ 64) × (35 ∷ bytes ≡ reference_text x.0 ++ x.1)

reference_parts : (o s bytes digits more serial rest : List ℕ) → bytes ≡ codes "Ref<" ++ digits → digits ≡ o ++ (codes "." ++ more) → more ≡ s ++ (codes ">" ++ rest)
    → 35 ∷ bytes ≡ (codes "#Ref<" ++ o ++ codes "." ++ s ++ codes ">") ++ rest
reference_parts o s bytes digits more serial rest a b c = rw (a, b, c) (simp append_assoc)

pub reference_at_text : (bytes : List ℕ) → IfSome (reference_at bytes) (IsReadRef bytes)
reference_at_text bytes =
    if_bind (λ digits. bytes ≡ codes "Ref<" ++ digits) (IsReadRef bytes) (after_text (codes "Ref<") bytes) _ (after_text_is (codes "Ref<") bytes) (λ digits a.
    if_bind (IsRead (2 ^ 32 - 1) digits) (IsReadRef bytes) (number_at (2 ^ 32 - 1) digits) _ (number_text (2 ^ 32 - 1) digits (omega arith) (omega arith)) (λ owner o.
    if_bind (λ more. owner.1 ≡ codes "." ++ more) (IsReadRef bytes) (after_text (codes ".") owner.1) _ (after_text_is (codes ".") owner.1) (λ more b.
    if_bind (IsRead (2 ^ 64 - 1) more) (IsReadRef bytes) (number_at (2 ^ 64 - 1) more) _ (number_text (2 ^ 64 - 1) more (omega arith) (omega arith)) (λ serial s.
    if_bind (λ rest. serial.1 ≡ codes ">" ++ rest) (IsReadRef bytes) (after_text (codes ">") serial.1) _ (after_text_is (codes ">") serial.1) (λ rest c.
    let second : digits ≡ decimal owner.0 ++ (codes "." ++ more) = o.1 ∙ ap (λ (t : List ℕ). decimal owner.0 ++ t) b in
    let third : more ≡ decimal serial.0 ++ (codes ">" ++ rest) = s.1 ∙ ap (λ (t : List ℕ). decimal serial.0 ++ t) c in
    (omega (arith, o.0), omega (arith, s.0), reference_parts (decimal owner.0) (decimal serial.0) bytes digits more serial.1 rest a second third))))))

-- ---- atoms

abbrev pub IsReadAtom : List ℕ → List ℕ × List ℕ → Type 0
IsReadAtom bytes x = (is_atom x.0 ≡ true) × (bytes ≡ atom_text x.0 ++ x.1)

pub atom_of_is : (bytes : List ℕ) → IfSome (atom_of bytes) (λ a. (is_atom a ≡ true) × (a ≡ bytes))
atom_of_is bytes = by_test (λ o. IfSome o (λ a. (is_atom a ≡ true) × (a ≡ bytes))) (is_atom bytes) (Some bytes) None (λ h. (h, refl)) (λ h. tt)

-- what passes a test, up to a number of elements, passes it
pub front_passes : (p : ℕ → Bool) (k : ℕ) (xs : List ℕ) → list_all p (take (prefix_len p (take k xs)) xs) ≡ true
front_passes p zero xs = refl
front_passes p (suc k) [] = refl
front_passes p (suc k) (x ∷ xs) =
    elim (p x) as (λ b. p x ≡ b → list_all p (take (cond b (1 + prefix_len p (take k xs)) 0) (x ∷ xs)) ≡ true) [
      | true ↦ λ h. rw (one-add, h) (front_passes p k xs)
      | false ↦ λ h. refl
    ] refl

name_front : (k b : ℕ) (bs : List ℕ) → is_lower b ≡ true → is_name (take (prefix_len is_name_byte (take (suc k) (b ∷ bs))) (b ∷ bs)) ≡ true
name_front k b bs h =
    let first : is_name_byte b ≡ true = rw h refl in
    rw (first, one-add, h) (front_passes is_name_byte k bs)

pub name_at_text : (b : ℕ) (bs : List ℕ) → is_lower b ≡ true → IfSome (name_at (b ∷ bs)) (IsReadAtom (b ∷ bs))
name_at_text b bs h =
    let n : ℕ = prefix_len is_name_byte (take MOST_WORD_BYTES (b ∷ bs)) in
    if_bind (λ a. (is_atom a ≡ true) × (a ≡ take n (b ∷ bs))) (IsReadAtom (b ∷ bs)) (atom_of (take n (b ∷ bs))) (λ name. Some (name, drop n (b ∷ bs))) (atom_of_is (take n (b ∷ bs))) (λ name a.
    let named : is_name name ≡ true = rw a.1 (name_front 254 b bs h) in
    (a.0, rw (named, a.1) (sym (take-append-drop n (b ∷ bs)))))

pub quoted_at_text : (bytes : List ℕ) → IfSome (quoted_at bytes) (IsReadAtom (39 ∷ bytes))
quoted_at_text bytes =
    let n : ℕ = prefix_len is_atom_byte bytes in
    by_test (λ o. IfSome o (IsReadAtom (39 ∷ bytes))) (is_name (take n bytes)) None (after_text (codes "'") (drop n bytes) >>= λ rest. atom_of (take n bytes) >>= λ body. Some (body, rest)) (λ h. tt) (λ h.
    if_bind (λ rest. drop n bytes ≡ codes "'" ++ rest) (IsReadAtom (39 ∷ bytes)) (after_text (codes "'") (drop n bytes)) (λ rest. atom_of (take n bytes) >>= λ body. Some (body, rest)) (after_text_is (codes "'") (drop n bytes)) (λ rest e.
    if_bind (λ a. (is_atom a ≡ true) × (a ≡ take n bytes)) (IsReadAtom (39 ∷ bytes)) (atom_of (take n bytes)) (λ body. Some (body, rest)) (atom_of_is (take n bytes)) (λ body a.
    let other : is_name body ≡ false = rw a.1 h in
    let whole : bytes ≡ body ++ (39 ∷ rest) = rw a.1 (sym (take-append-drop n bytes) ∙ ap (λ (t : List ℕ). take n bytes ++ t) e) in
    (a.0, rw (other, whole) (ap (λ (t : List ℕ). 39 ∷ t) (sym (append_assoc body (39 ∷ []) rest)))))))
