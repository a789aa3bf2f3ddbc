-- A token that is written is read again, whatever follows that doesn't go on with it.
use Rattle.std.proofs.Common.{◌≡◌, ℕ, zero, suc, ◌+◌, ◌-◌, ◌*◌, ◌/◌, ◌%◌, ◌^◌, ◌<◌, ◌≤◌, Bool, true, false, List, [], ◌∷◌, ◌++◌, length, take, drop, Some, refl, ap, ◌∙◌, append_assoc, arith, length-append, length-drop, length-take}
use Rattle.std.specs.Prelude.{ℤ, pos, negsuc, ◌==◌, nat_le, decimal, codes, ◌&&◌, ◌||◌}
use Rattle.std.specs.Fmt.{signed_decimal}
use Rattle.std.specs.List.{list_all, prefix_len}
use Rattle.std.proofs.lemmas.Bool.Decides.{nat_tests}
use Rattle.std.proofs.lemmas.Fmt.{decimal_digit, decimal_by_steps}
use Rattle.std.proofs.lemmas.List.{take_at, drop_at}
use Rattle.std.proofs.lemmas.List.Sums.{prefix_len-le-length}
use Rattle.sig_terms.specs.Words.{is_lower, is_digit, is_name_byte, is_name, is_atom_byte, is_atom}
use Rattle.sig_terms.specs.Readable.{is_wide}
use Rattle.sig_terms.specs.declared.pid.Pid.{Pid}
use Rattle.sig_terms.specs.declared.reference.Ref.{Ref}
use Rattle.sig_terms.specs.Tokens.{◌>>=◌, digits_on, number_at, int_at, name_at, quoted_at, pid_at, reference_at}
use Rattle.sig_terms.proofs.Choices.{by_test, both_true}
use Rattle.sig_terms.proofs.TokenTexts.{front_passes}
use Rattle.sig_terms.specs.declared.bytes.TheConstants.{MOST_WORD_BYTES}

-- the first byte, if there is one, fails the test
abbrev pub StopsAt : (ℕ → Bool) → List ℕ → Type 0
StopsAt p [] = Unit {0}
StopsAt p (b ∷ bs) = p b ≡ false

-- nothing follows that goes on with a number or a name
abbrev pub Stops : List ℕ → Type 0
Stops rest = StopsAt is_name_byte rest

-- ---- numbers

no_digit : (b : ℕ) → is_name_byte b ≡ false → is_digit b ≡ false
no_digit b h = grind (arith, nat_tests)

digits_stop : (most n : ℕ) (rest : List ℕ) → Stops rest → digits_on most n rest ≡ (n, rest)
digits_stop most n [] h = refl
digits_stop most n (b ∷ bs) h = rw (no_digit b h) refl

digits_shorten : (most n : ℕ) (rest : List ℕ) → length (digits_on most n rest).1 ≤ length rest
digits_shorten most n [] = omega arith
digits_shorten most n (b ∷ bs) =
    by_test (λ (x : ℕ × List ℕ). length x.1 ≤ length (b ∷ bs)) (is_digit b && nat_le (10 * n + (b - 48)) most) (digits_on most (10 * n + (b - 48)) bs) (n, b ∷ bs)
    (λ _. let shorter = digits_shorten most (10 * n + (b - 48)) bs in omega arith)
    (λ _. omega arith)

digits_grow : (most n : ℕ) (rest : List ℕ) → n ≤ (digits_on most n rest).0
digits_grow most n [] = omega arith
digits_grow most n (b ∷ bs) =
    by_test (λ (x : ℕ × List ℕ). n ≤ x.0) (is_digit b && nat_le (10 * n + (b - 48)) most) (digits_on most (10 * n + (b - 48)) bs) (n, b ∷ bs)
    (λ _. let grown = digits_grow most (10 * n + (b - 48)) bs in omega arith)
    (λ _. omega arith)

-- reading the digits of n comes to n
abbrev ComesTo : ℕ → List ℕ → Type 0
ComesTo n ds = (most : ℕ) (rest : List ℕ) → 0 < n → n ≤ most → number_at most (ds ++ rest) ≡ Some (digits_on most n rest)

one_digit : (n : ℕ) → n < 10 → ComesTo n ((48 + n) ∷ [])
one_digit n small most rest above le =
    let digit : is_digit (48 + n) ≡ true = grind (arith, nat_tests) in
    let some : (48 + n == 48) ≡ false = grind (arith, nat_tests) in
    let value : (48 + n) - 48 ≡ n = omega arith in
    rw (digit, some, value) refl

one_more : (n : ℕ) (ds : List ℕ) → 10 ≤ n → ComesTo (n / 10) ds → ComesTo n (ds ++ ((48 + n % 10) ∷ []))
one_more n ds big so_far most rest above le =
    let digit : is_digit (48 + n % 10) ≡ true = grind (arith, nat_tests) in
    let value : 10 * (n / 10) + ((48 + n % 10) - 48) ≡ n = omega arith in
    let within : nat_le n most ≡ true = grind (arith, nat_tests) in
    let step : digits_on most (n / 10) ((48 + n % 10) ∷ rest) ≡ digits_on most n rest = rw (digit, value, within) refl in
    ap (number_at most) (append_assoc ds ((48 + n % 10) ∷ []) rest) ∙ so_far most ((48 + n % 10) ∷ rest) (omega arith) (omega arith) ∙ ap Some step

comes_to : (n : ℕ) → n < 2 ^ 64 → ComesTo n (decimal n)
comes_to n fits = decimal_by_steps ComesTo one_digit one_more n fits

-- a number is read up to its end, or further
pub record Reaches (most n : ℕ) (rest : List ℕ) : Type 0 where
  pub found : ℕ × List ℕ
  pub is : number_at most (decimal n ++ rest) ≡ Some found
  pub least : n ≤ found.0
  pub shorter : length found.1 ≤ length rest
  pub whole : Stops rest → found ≡ (n, rest)

number_reaches : (most n : ℕ) (rest : List ℕ) → n ≤ most → most < 2 ^ 64 → Reaches most n rest
number_reaches most zero rest le fits = record {
  found = (0, rest);
  is = rw (decimal_digit 0 (omega arith)) refl;
  least = omega arith;
  shorter = omega arith;
  whole = λ _. refl;
}
number_reaches most (suc n) rest le fits = record {
  found = digits_on most (suc n) rest;
  is = comes_to (suc n) (omega arith) most rest (omega arith) le;
  least = digits_grow most (suc n) rest;
  shorter = digits_shorten most (suc n) rest;
  whole = digits_stop most (suc n) rest;
}

pub number_again : (most n : ℕ) (rest : List ℕ) → n ≤ most → most < 2 ^ 64 → Stops rest → number_at most (decimal n ++ rest) ≡ Some (n, rest)
number_again most n rest le fits stops = let r = number_reaches most n rest le fits in r.is ∙ ap Some (r.whole stops)

-- ---- integers

-- the first byte is a digit
record BeginsByDigit (ds : List ℕ) : Type 0 where
  first : ℕ
  rest : List ℕ
  is : ds ≡ first ∷ rest
  digit : is_digit first ≡ true

decimal_begins : (n : ℕ) → n < 2 ^ 64 → BeginsByDigit (decimal n)
decimal_begins n fits =
    decimal_by_steps (λ _ ds. BeginsByDigit ds)
    (λ m small. record { first = 48 + m; rest = []; is = refl; digit = grind (arith, nat_tests) })
    (λ m ds big b. record { first = b.first; rest = b.rest ++ ((48 + m % 10) ∷ []); is = ap (λ (t : List ℕ). t ++ ((48 + m % 10) ∷ [])) b.is; digit = b.digit })
    n fits

-- an integer is read up to its end, or further, and behind a sign or a digit
pub record ReachesInt (z : ℤ) (rest : List ℕ) : Type 0 where
  pub found : ℤ × List ℕ
  pub is : int_at (signed_decimal z ++ rest) ≡ Some found
  pub shorter : length found.1 ≤ length rest
  pub whole : Stops rest → found ≡ (z, rest)
  pub first : ℕ
  pub others : List ℕ
  pub begins : signed_decimal z ≡ first ∷ others
  pub sign : (first == 45 || is_digit first) ≡ true

negative : (n : ℕ) (rest : List ℕ) (found : ℕ × List ℕ) → found ≡ (suc n, rest) → ◌≡◌ {A = ℤ × List ℕ} (negsuc (found.0 - 1), found.1) (negsuc n, rest)
negative n rest found e =
    let last : suc n - 1 ≡ n = omega arith in
    ap (λ (x : ℕ × List ℕ). (negsuc (x.0 - 1), x.1)) e ∙ ap (λ (k : ℕ). (negsuc k, rest)) last

pub int_reaches : (z : ℤ) (rest : List ℕ) → is_wide z ≡ true → ReachesInt z rest
int_reaches (pos n) rest wide =
    let fits : n < 2 ^ 63 = grind (arith, nat_tests) in
    let b = decimal_begins n (omega arith) in
    let r = number_reaches (2 ^ 63 - 1) n rest (omega arith) (omega arith) in
    let plain : (b.first == 45) ≡ false = grind (arith, nat_tests, b.digit) in
    let unsigned : int_at (decimal n ++ rest) ≡ (number_at (2 ^ 63 - 1) (decimal n ++ rest) >>= λ x. Some (pos x.0, x.1)) = rw (b.is, plain) refl in
    record {
      found = (pos r.found.0, r.found.1);
      is = unsigned ∙ rw r.is refl;
      shorter = r.shorter;
      whole = λ stops. ap (λ (x : ℕ × List ℕ). (pos x.0, x.1)) (r.whole stops);
      first = b.first;
      others = b.rest;
      begins = b.is;
      sign = rw (b.digit, plain) refl;
    }
int_reaches (negsuc n) rest wide =
    let fits : n < 2 ^ 63 = grind (arith, nat_tests) in
    let r = number_reaches (2 ^ 63) (suc n) rest (omega arith) (omega arith) in
    let some : (r.found.0 == 0) ≡ false = grind (arith, nat_tests, r.least) in
    record {
      found = (negsuc (r.found.0 - 1), r.found.1);
      is = rw (r.is, some) refl;
      shorter = r.shorter;
      whole = λ stops. negative n rest r.found (r.whole stops);
      first = 45;
      others = decimal (suc n);
      begins = refl;
      sign = refl;
    }

-- ---- texts, and numbers between them

pub pid_again : (p : Pid) (rest : List ℕ) → p.0 < 2 ^ 32 → pid_at (decimal p.0 ++ (62 ∷ rest)) ≡ Some (p, rest)
pid_again p rest fits = rw (number_again (2 ^ 32 - 1) p.0 (62 ∷ rest) (omega arith) (omega arith) refl) refl

pub reference_again : (r : Ref) (rest : List ℕ) → r.owner.0 < 2 ^ 32 → r.serial < 2 ^ 64
    → reference_at (codes "Ref<" ++ (decimal r.owner.0 ++ (46 ∷ (decimal r.serial ++ (62 ∷ rest))))) ≡ Some (r, rest)
reference_again r rest small fits =
    rw (number_again (2 ^ 32 - 1) r.owner.0 (46 ∷ (decimal r.serial ++ (62 ∷ rest))) (omega arith) (omega arith) refl, number_again (2 ^ 64 - 1) r.serial (62 ∷ rest) (omega arith) (omega arith) refl) refl

-- ---- atoms

name_byte_stands : (b : ℕ) → is_name_byte b ≡ true → is_atom_byte b ≡ true
name_byte_stands b h = grind (arith, nat_tests)

name_bytes_stand : (bs : List ℕ) → list_all is_name_byte bs ≡ true → list_all is_atom_byte bs ≡ true
name_bytes_stand [] h = refl
name_bytes_stand (b ∷ bs) h =
    let each = both_true (is_name_byte b) (list_all is_name_byte bs) h in
    rw (name_byte_stands b each.0) (name_bytes_stand bs each.1)

passes_more : (p : ℕ → Bool) (k : ℕ) (xs ys : List ℕ) → list_all p xs ≡ true → length xs ≤ k → length xs ≤ prefix_len p (take k (xs ++ ys))
passes_more p k [] ys h le = omega arith
passes_more p zero (x ∷ xs) ys h le = absurd (omega arith)
passes_more p (suc k) (x ∷ xs) ys h le =
    let each = both_true (p x) (list_all p xs) h in
    let rest = passes_more p k xs ys each.1 (omega arith) in
    rw each.0 (omega arith)

passes_none : (p : ℕ → Bool) (k : ℕ) (ys : List ℕ) → StopsAt p ys → prefix_len p (take k ys) ≡ 0
passes_none p zero ys h = refl
passes_none p (suc k) [] h = refl
passes_none p (suc k) (y ∷ ys) h = rw h refl

passes_these : (p : ℕ → Bool) (k : ℕ) (xs ys : List ℕ) → list_all p xs ≡ true → length xs ≤ k → StopsAt p ys → prefix_len p (take k (xs ++ ys)) ≡ length xs
passes_these p k [] ys h le stops = passes_none p k ys stops
passes_these p zero (x ∷ xs) ys h le stops = absurd (omega arith)
passes_these p (suc k) (x ∷ xs) ys h le stops =
    let each = both_true (p x) (list_all p xs) h in
    let rest = passes_these p k xs ys each.1 (omega arith) stops in
    rw each.0 (omega arith)

passes_up_to : (p : ℕ → Bool) (xs ys : List ℕ) → list_all p xs ≡ true → StopsAt p ys → prefix_len p (xs ++ ys) ≡ length xs
passes_up_to p [] [] h stops = refl
passes_up_to p [] (y ∷ ys) h stops = rw stops refl
passes_up_to p (x ∷ xs) ys h stops =
    let each = both_true (p x) (list_all p xs) h in
    let rest = passes_up_to p xs ys each.1 stops in
    rw each.0 (omega arith)

name_is : (bytes : List ℕ) → let n = prefix_len is_name_byte (take MOST_WORD_BYTES bytes) in name_at bytes ≡ Some (take n bytes, drop n bytes)
name_is bytes =
    let n : ℕ = prefix_len is_name_byte (take MOST_WORD_BYTES bytes) in
    let bound = prefix_len-le-length is_name_byte (take MOST_WORD_BYTES bytes) in
    let short : nat_le (length (take n bytes)) MOST_WORD_BYTES ≡ true = grind (arith, nat_tests, length-take n bytes, length-take MOST_WORD_BYTES bytes) in
    let stand : list_all is_atom_byte (take n bytes) ≡ true = name_bytes_stand (take n bytes) (front_passes is_name_byte MOST_WORD_BYTES bytes) in
    rw (short, stand) refl

-- a name is read up to its end, or further
pub record ReachesName (name rest : List ℕ) : Type 0 where
  pub found : List ℕ × List ℕ
  pub is : name_at (name ++ rest) ≡ Some found
  pub shorter : length found.1 ≤ length rest
  pub whole : Stops rest → found ≡ (name, rest)

all_of_name : (name : List ℕ) → is_name name ≡ true → list_all is_name_byte name ≡ true
all_of_name [] h = absurd cc
all_of_name (b ∷ bs) h =
    let each = both_true (is_lower b) (list_all is_name_byte bs) h in
    rw each.0 each.1

pub name_reaches : (name rest : List ℕ) → is_name name ≡ true → is_atom name ≡ true → ReachesName name rest
name_reaches name rest named atom =
    let bytes : List ℕ = name ++ rest in
    let n : ℕ = prefix_len is_name_byte (take MOST_WORD_BYTES bytes) in
    let each : list_all is_name_byte name ≡ true = all_of_name name named in
    let test = both_true (nat_le (length name) MOST_WORD_BYTES) (list_all is_atom_byte name) atom in
    let short : length name ≤ MOST_WORD_BYTES = grind (arith, nat_tests, test.0) in
    record {
      found = (take n bytes, drop n bytes);
      is = name_is bytes;
      shorter = omega (arith, length-drop n bytes, length-append name rest, passes_more is_name_byte MOST_WORD_BYTES name rest each short);
      whole = λ stops. rw (passes_these is_name_byte MOST_WORD_BYTES name rest each short stops, take_at name rest (length name) refl, drop_at name rest (length name) refl) refl;
    }

pub quoted_again : (body rest : List ℕ) → is_name body ≡ false → is_atom body ≡ true → quoted_at (body ++ (39 ∷ rest)) ≡ Some (body, rest)
quoted_again body rest other atom =
    let test = both_true (nat_le (length body) MOST_WORD_BYTES) (list_all is_atom_byte body) atom in
    let front : prefix_len is_atom_byte (body ++ (39 ∷ rest)) ≡ length body = passes_up_to is_atom_byte body (39 ∷ rest) test.1 refl in
    rw (front, take_at body (39 ∷ rest) (length body) refl, drop_at body (39 ∷ rest) (length body) refl, other, atom) refl
