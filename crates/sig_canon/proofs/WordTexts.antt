-- The words of the canonical text are cut as tokens, each whole.
use Rattle.std.proofs.Common.{◌≡◌, ℕ, suc, ◌+◌, ◌-◌, ◌*◌, ◌/◌, ◌%◌, ◌^◌, ◌<◌, ◌≤◌, Bool, true, false, cond, not, nat_le, nat_lt, ◌==◌, List, [], ◌∷◌, ◌++◌, length, take_while, drop, Some, refl, sym, ap, subst, ◌∙◌, arith, append_assoc, length-append}
use Rattle.std.specs.Prelude.{ℤ, pos, negsuc, decimal, codes}
use Rattle.std.specs.Fmt.{signed_decimal}
use Rattle.std.specs.List.{list_all}
use Rattle.std.proofs.lemmas.Bool.Decides.{nat_tests}
use Rattle.std.proofs.lemmas.Fmt.{decimal_by_steps}
use Rattle.std.proofs.lemmas.List.Folds.{list_all-append}
use Rattle.std.proofs.lemmas.List.Sums.{take_while-cons}
use Rattle.std.proofs.Math.Seq.{drop-append_seam}
use Rattle.sig_terms.specs.Words.{is_lower, is_upper, is_digit, is_name_byte, is_variable_byte, is_atom_byte, is_atom}
use Rattle.sig_terms.specs.Readable.{is_wide}
use Rattle.sig_terms.specs.declared.bytes.TheConstants.{MOST_WORD_BYTES}
use Rattle.sig_terms.proofs.Choices.{both_true}
use Rattle.sig_terms.proofs.TokenReads.{StopsAt, Stops}
use Rattle.sig_tokens.specs.declared.token.Sign.TheVariants as sign
use Rattle.sig_tokens.specs.declared.token.TokenKind.{TokenKind}
use Rattle.sig_tokens.specs.declared.token.TokenKind.TheVariants.{Name, Variable, Integer, Quoted, Process, Sign}
use Rattle.sig_tokens.specs.Tokens.{is_blank, front_run, front_token, short_word, is_token_in_range, unquoted, IsNameToken, IsVariableToken}
use Rattle.sig_tokens.specs.Numbers.{number_after, number, negative, int_of, count_of}
use Rattle.sig_program.specs.declared.version.Version.{Version}
use Rattle.sig_program.specs.declared.version.Version.TheVariants.{Two}

-- a byte that ends no line
abbrev pub is_inline : ℕ → Bool
is_inline b = not (b == 10)

abbrev pub Anything : List ℕ → Type 0
Anything rest = Unit {0}

-- The word is a token of this kind, whatever follows that lets it end.
pub record IsWord (version : Version) (Ends : List ℕ → Type 0) (kind : TokenKind) (word : List ℕ) : Type 0 where
  pub front : (rest : List ℕ) → Ends rest → front_token version (word ++ rest) ≡ Some (kind, length word)
  pub first : ℕ
  pub others : List ℕ
  pub is : word ≡ first ∷ others
  pub seen : is_blank first ≡ false
  pub plain : (first == 37) ≡ false
  pub range : is_token_in_range word kind ≡ true
  pub clean : list_all is_inline word ≡ true

-- ---- runs of bytes

-- those that pass a test, up to the first that fails it
run_of : (p : ℕ → Bool) (xs rest : List ℕ) → list_all p xs ≡ true → StopsAt p rest → take_while p (xs ++ rest) ≡ xs
run_of p [] [] h stops = refl
run_of p [] (b ∷ bs) h stops = take_while-cons p b bs ∙ ap (λ (v : Bool). cond v (b ∷ take_while p bs) []) stops
run_of p (x ∷ xs) rest h stops =
    let each = both_true (p x) (list_all p xs) h in
    take_while-cons p x (xs ++ rest) ∙ ap (λ (v : Bool). cond v (x ∷ take_while p (xs ++ rest)) []) each.0 ∙ ap (λ (ys : List ℕ). x ∷ ys) (run_of p xs rest each.1 stops)

run_length : (p : ℕ → Bool) (xs rest : List ℕ) → list_all p xs ≡ true → StopsAt p rest → front_run p (xs ++ rest) ≡ length xs
run_length p xs rest h stops = ap length (run_of p xs rest h stops)

all_pass : (p q : ℕ → Bool) → ((b : ℕ) → p b ≡ true → q b ≡ true) → (bs : List ℕ) → list_all p bs ≡ true → list_all q bs ≡ true
all_pass p q f [] h = refl
all_pass p q f (b ∷ bs) h =
    let each = both_true (p b) (list_all p bs) h in
    rw (f b each.0) (all_pass p q f bs each.1)

stops_sooner : (p q : ℕ → Bool) → ((b : ℕ) → p b ≡ false → q b ≡ false) → (rest : List ℕ) → StopsAt p rest → StopsAt q rest
stops_sooner p q f [] h = tt
stops_sooner p q f (b ∷ bs) h = f b h

name_ends_variable : (b : ℕ) → is_name_byte b ≡ false → is_variable_byte b ≡ false
name_ends_variable b h = grind (arith, nat_tests)

name_ends_digit : (b : ℕ) → is_name_byte b ≡ false → is_digit b ≡ false
name_ends_digit b h = grind (arith, nat_tests)

name_inline : (b : ℕ) → is_name_byte b ≡ true → is_inline b ≡ true
name_inline b h = grind (arith, nat_tests)

variable_inline : (b : ℕ) → is_variable_byte b ≡ true → is_inline b ≡ true
variable_inline b h = grind (arith, nat_tests)

digit_inline : (b : ℕ) → is_digit b ≡ true → is_inline b ≡ true
digit_inline b h = grind (arith, nat_tests)

atom_inline : (b : ℕ) → is_atom_byte b ≡ true → is_inline b ≡ true
atom_inline b h = grind (arith, nat_tests)

short : (kind : TokenKind) (around n m : ℕ) → n ≤ MOST_WORD_BYTES → around + n ≡ m → short_word kind around n ≡ Some (kind, m)
short kind around n m few e =
    let yes : nat_le n MOST_WORD_BYTES ≡ true = grind (arith, nat_tests) in
    rw (yes, e) refl

pub when_true : {X : Type 0} (v : Bool) (x y : X) → v ≡ true → cond v x y ≡ x
when_true true x y h = refl
when_true false x y h = absurd cc

pub when_false : {X : Type 0} (v : Bool) (x y : X) → v ≡ false → cond v x y ≡ y
when_false true x y h = absurd cc
when_false false x y h = refl

-- ---- names and variables

pub name_word : (version : Version) (word : List ℕ) → IsNameToken word → IsWord version Stops Name word
name_word version [] named = absurd cc
name_word version (b ∷ bs) named =
    let each = both_true (is_lower b) (list_all is_name_byte bs) named.1 in
    record {
      front = λ rest stops.
          let n : 1 + front_run is_name_byte (bs ++ rest) ≡ suc (length bs) = omega (arith, run_length is_name_byte bs rest each.1 stops) in
          let few : suc (length bs) ≤ MOST_WORD_BYTES = named.0 in
          when_true (is_lower b) _ _ each.0 ∙ ap (λ (k : ℕ). short_word Name 0 k) n ∙ short Name 0 (suc (length bs)) (suc (length bs)) few (omega arith);
      first = b;
      others = bs;
      is = refl;
      seen = grind (arith, nat_tests, each.0);
      plain = grind (arith, nat_tests, each.0);
      range = refl;
      clean = let inline : is_inline b ≡ true = grind (arith, nat_tests, each.0) in rw inline (all_pass is_name_byte is_inline name_inline bs each.1);
    }

upper_is_not_lower : (b : ℕ) → is_upper b ≡ true → is_lower b ≡ false
upper_is_not_lower b h = grind (arith, nat_tests)

pub variable_word : (version : Version) (word : List ℕ) → IsVariableToken word → IsWord version Stops Variable word
variable_word version [] named = absurd cc
variable_word version (b ∷ bs) named =
    let each = both_true (is_upper b) (list_all is_variable_byte bs) named.1 in
    record {
      front = λ rest stops.
          let n : 1 + front_run is_variable_byte (bs ++ rest) ≡ suc (length bs) = omega (arith, run_length is_variable_byte bs rest each.1 (stops_sooner is_name_byte is_variable_byte name_ends_variable rest stops)) in
          let few : suc (length bs) ≤ MOST_WORD_BYTES = named.0 in
          when_false (is_lower b) _ _ (upper_is_not_lower b each.0) ∙ when_true (is_upper b) _ _ each.0 ∙ ap (λ (k : ℕ). short_word Variable 0 k) n ∙ short Variable 0 (suc (length bs)) (suc (length bs)) few (omega arith);
      first = b;
      others = bs;
      is = refl;
      seen = grind (arith, nat_tests, each.0);
      plain = grind (arith, nat_tests, each.0);
      range = refl;
      clean = let inline : is_inline b ≡ true = grind (arith, nat_tests, each.0) in rw inline (all_pass is_variable_byte is_inline variable_inline bs each.1);
    }

-- `@` and a name
pub process_word : (version : Version) (word : List ℕ) → IsNameToken word → IsWord version Stops Process (64 ∷ word)
process_word version [] named = absurd cc
process_word version (b ∷ bs) named =
    let each = both_true (is_lower b) (list_all is_name_byte bs) named.1 in
    record {
      front = λ rest stops.
          let n : 1 + front_run is_name_byte (bs ++ rest) ≡ suc (length bs) = omega (arith, run_length is_name_byte bs rest each.1 stops) in
          let few : suc (length bs) ≤ MOST_WORD_BYTES = named.0 in
          when_true (is_lower b) _ _ each.0 ∙ ap (λ (k : ℕ). short_word Process 1 k) n ∙ short Process 1 (suc (length bs)) (suc (suc (length bs))) few (omega arith);
      first = 64;
      others = b ∷ bs;
      is = refl;
      seen = refl;
      plain = refl;
      range = refl;
      clean = let inline : is_inline b ≡ true = grind (arith, nat_tests, each.0) in rw inline (all_pass is_name_byte is_inline name_inline bs each.1);
    }

-- ---- quoted atoms

quote_found : (bytes rest : List ℕ) → list_all is_atom_byte bytes ≡ true → take_while is_atom_byte (bytes ++ 39 ∷ rest) ≡ bytes
quote_found bytes rest h = run_of is_atom_byte bytes (39 ∷ rest) h refl

pub quoted_word : (version : Version) (bytes : List ℕ) → is_atom bytes ≡ true → IsWord version Anything Quoted (39 ∷ (bytes ++ 39 ∷ []))
quoted_word version bytes atom =
    let each = both_true (nat_le (length bytes) MOST_WORD_BYTES) (list_all is_atom_byte bytes) atom in
    record {
      front = λ rest _.
          let n : front_run is_atom_byte (bytes ++ 39 ∷ rest) ≡ length bytes = ap length (quote_found bytes rest each.1) in
          let few : length bytes ≤ MOST_WORD_BYTES = grind (arith, nat_tests, each.0) in
          let behind : drop (length bytes) (bytes ++ 39 ∷ rest) ≡ 39 ∷ rest = drop-append_seam bytes (39 ∷ rest) in
          ap (λ (bs : List ℕ). front_token version (39 ∷ bs)) (append_assoc bytes (39 ∷ []) rest)
          ∙ rw (n, behind) (short Quoted 2 (length bytes) (length (39 ∷ (bytes ++ 39 ∷ []))) few (omega (arith, length-append bytes (39 ∷ []))));
      first = 39;
      others = bytes ++ 39 ∷ [];
      is = refl;
      seen = refl;
      plain = refl;
      range = refl;
      clean = list_all-append is_inline bytes (39 ∷ []) ∙ rw (all_pass is_atom_byte is_inline atom_inline bytes each.1) refl;
    }

pub unquoted_again : (bytes : List ℕ) → is_atom bytes ≡ true → unquoted (39 ∷ (bytes ++ 39 ∷ [])) ≡ bytes
unquoted_again bytes atom =
    let each = both_true (nat_le (length bytes) MOST_WORD_BYTES) (list_all is_atom_byte bytes) atom in
    quote_found bytes [] each.1

-- ---- integers

-- digits, of which the first is there, write this number
pub record Writes (n : ℕ) (ds : List ℕ) : Type 0 where
  pub first : ℕ
  pub others : List ℕ
  pub is : ds ≡ first ∷ others
  pub digits : list_all is_digit ds ≡ true
  pub value : number ds ≡ n

number_last : (n d : ℕ) (ds : List ℕ) → number_after n (ds ++ d ∷ []) ≡ number_after n ds * 10 + (d - 48)
unfolding number_after
number_last n d [] = refl
number_last n d (x ∷ xs) = number_last (n * 10 + (x - 48)) d xs

one_digit : (n : ℕ) → n < 10 → Writes n ((48 + n) ∷ [])
unfolding number_after
one_digit n small =
    let digit : is_digit (48 + n) ≡ true = grind (arith, nat_tests) in
    record { first = 48 + n; others = []; is = refl; digits = rw digit refl; value = omega arith }

one_digit_more : (n : ℕ) (ds : List ℕ) → 10 ≤ n → Writes (n / 10) ds → Writes n (ds ++ ((48 + n % 10) ∷ []))
one_digit_more n ds big w =
    let digit : is_digit (48 + n % 10) ≡ true = grind (arith, nat_tests) in
    record {
      first = w.first;
      others = w.others ++ ((48 + n % 10) ∷ []);
      is = ap (λ (xs : List ℕ). xs ++ ((48 + n % 10) ∷ [])) w.is;
      digits = list_all-append is_digit ds ((48 + n % 10) ∷ []) ∙ rw (w.digits, digit) refl;
      value = number_last 0 (48 + n % 10) ds ∙ rw w.value (omega arith);
    }

pub writes : (n : ℕ) → n < 2 ^ 64 → Writes n (decimal n)
writes n fits = decimal_by_steps Writes one_digit one_digit_more n fits

digit_front : (version : Version) (b : ℕ) (bs rest : List ℕ) → is_digit b ≡ true → list_all is_digit bs ≡ true → StopsAt is_digit rest → front_token version (b ∷ (bs ++ rest)) ≡ Some (Integer, suc (length bs))
digit_front version b bs rest first others stops =
    let n : 1 + front_run is_digit (bs ++ rest) ≡ suc (length bs) = omega (arith, run_length is_digit bs rest others stops) in
    let low : is_lower b ≡ false = grind (arith, nat_tests, first) in
    let up : is_upper b ≡ false = grind (arith, nat_tests, first) in
    when_false (is_lower b) _ _ low ∙ when_false (is_upper b) _ _ up ∙ when_true (is_digit b) _ _ first ∙ ap (λ (k : ℕ). Some (Integer, k)) n

minus_front : (version : Version) (b : ℕ) (bs rest : List ℕ) → is_digit b ≡ true → list_all is_digit bs ≡ true → StopsAt is_digit rest → front_token version (45 ∷ (b ∷ (bs ++ rest))) ≡ Some (Integer, suc (suc (length bs)))
minus_front version b bs rest first others stops =
    let n : 2 + front_run is_digit (bs ++ rest) ≡ suc (suc (length bs)) = omega (arith, run_length is_digit bs rest others stops) in
    when_true (is_digit b) _ _ first ∙ ap (λ (k : ℕ). Some (Integer, k)) n

digit_is_no_minus : (b : ℕ) → is_digit b ≡ true → (b == 45) ≡ false
digit_is_no_minus b h = grind (arith, nat_tests)

digits_word : (version : Version) (n : ℕ) (b : ℕ) (bs : List ℕ) → n < 2 ^ 63 → list_all is_digit (b ∷ bs) ≡ true → number (b ∷ bs) ≡ n → IsWord version Stops Integer (b ∷ bs)
digits_word version n b bs fits digits value =
    let each = both_true (is_digit b) (list_all is_digit bs) digits in
    let within : nat_le n (2 ^ 63 - 1) ≡ true = grind (arith, nat_tests) in
    record {
      front = λ rest stops. digit_front version b bs rest each.0 each.1 (stops_sooner is_name_byte is_digit name_ends_digit rest stops);
      first = b;
      others = bs;
      is = refl;
      seen = grind (arith, nat_tests, each.0);
      plain = grind (arith, nat_tests, each.0);
      range = when_false (b == 45) _ _ (digit_is_no_minus b each.0) ∙ ap (λ (k : ℕ). nat_le k (2 ^ 63 - 1)) value ∙ within;
      clean = all_pass is_digit is_inline digit_inline (b ∷ bs) digits;
    }

minus_word : (version : Version) (n : ℕ) (b : ℕ) (bs : List ℕ) → n ≤ 2 ^ 63 → list_all is_digit (b ∷ bs) ≡ true → number (b ∷ bs) ≡ n → IsWord version Stops Integer (45 ∷ (b ∷ bs))
minus_word version n b bs fits digits value =
    let each = both_true (is_digit b) (list_all is_digit bs) digits in
    let within : nat_le n (2 ^ 63) ≡ true = grind (arith, nat_tests) in
    record {
      front = λ rest stops. minus_front version b bs rest each.0 each.1 (stops_sooner is_name_byte is_digit name_ends_digit rest stops);
      first = 45;
      others = b ∷ bs;
      is = refl;
      seen = refl;
      plain = refl;
      range = ap (λ (k : ℕ). nat_le k (2 ^ 63)) value ∙ within;
      clean = all_pass is_digit is_inline digit_inline (b ∷ bs) digits;
    }

pub int_word : (version : Version) (z : ℤ) → is_wide z ≡ true → IsWord version Stops Integer (signed_decimal z)
int_word version (pos n) wide =
    let fits : n < 2 ^ 63 = grind (arith, nat_tests) in
    let w = writes n (omega arith) in
    subst (IsWord version Stops Integer) (sym w.is) (digits_word version n w.first w.others fits (ap (list_all is_digit) (sym w.is) ∙ w.digits) (ap number (sym w.is) ∙ w.value))
int_word version (negsuc n) wide =
    let fits : n < 2 ^ 63 = grind (arith, nat_tests) in
    let w = writes (suc n) (omega arith) in
    subst (λ (ds : List ℕ). IsWord version Stops Integer (45 ∷ ds)) (sym w.is) (minus_word version (suc n) w.first w.others (omega arith) (ap (list_all is_digit) (sym w.is) ∙ w.digits) (ap number (sym w.is) ∙ w.value))

unsigned : (n b : ℕ) (bs : List ℕ) → is_digit b ≡ true → number (b ∷ bs) ≡ n → int_of (b ∷ bs) ≡ pos n
unsigned n b bs digit value = when_false (b == 45) _ _ (digit_is_no_minus b digit) ∙ ap pos value

pub int_again : (z : ℤ) → is_wide z ≡ true → int_of (signed_decimal z) ≡ z
int_again (pos n) wide =
    let fits : n < 2 ^ 63 = grind (arith, nat_tests) in
    let w = writes n (omega arith) in
    let digits : list_all is_digit (w.first ∷ w.others) ≡ true = ap (list_all is_digit) (sym w.is) ∙ w.digits in
    ap int_of w.is ∙ unsigned n w.first w.others (both_true (is_digit w.first) (list_all is_digit w.others) digits).0 (ap number (sym w.is) ∙ w.value)
int_again (negsuc n) wide =
    let fits : n < 2 ^ 63 = grind (arith, nat_tests) in
    let w = writes (suc n) (omega arith) in
    let last : suc n - 1 ≡ n = omega arith in
    let some : (suc n == 0) ≡ false = grind (arith, nat_tests) in
    ap negative w.value ∙ when_false (suc n == 0) _ _ some ∙ ap negsuc last

count_of_digits : (n b : ℕ) (bs : List ℕ) → is_digit b ≡ true → number (b ∷ bs) ≡ n → count_of (b ∷ bs) ≡ Some n
count_of_digits n b bs digit value = when_false (b == 45) _ _ (digit_is_no_minus b digit) ∙ ap Some value

pub count_again : (n : ℕ) → n < 2 ^ 63 → count_of (decimal n) ≡ Some n
count_again n fits =
    let w = writes n (omega arith) in
    let digits : list_all is_digit (w.first ∷ w.others) ≡ true = ap (list_all is_digit) (sym w.is) ∙ w.digits in
    ap count_of w.is ∙ count_of_digits n w.first w.others (both_true (is_digit w.first) (list_all is_digit w.others) digits).0 (ap number (sym w.is) ∙ w.value)

pub count_word : (version : Version) (n : ℕ) → n < 2 ^ 63 → IsWord version Stops Integer (decimal n)
count_word version n fits = let wide : nat_lt n (2 ^ 63) ≡ true = grind (arith, nat_tests) in int_word version (pos n) wide

-- ---- signs

abbrev pub sign_word : Version → TokenKind → ℕ → Type 0
sign_word version kind b = IsWord version Anything kind (b ∷ [])

-- a word of which each fact is computed, whatever follows
computed : (version : Version) (kind : TokenKind) (first : ℕ) (others : List ℕ) → ((rest : List ℕ) → front_token version (first ∷ (others ++ rest)) ≡ Some (kind, length (first ∷ others))) →
    is_blank first ≡ false → (first == 37) ≡ false → is_token_in_range (first ∷ others) kind ≡ true → list_all is_inline (first ∷ others) ≡ true → IsWord version Anything kind (first ∷ others)
computed version kind first others front seen plain range clean = record { front = λ rest _. front rest; first = first; others = others; is = refl; seen = seen; plain = plain; range = range; clean = clean }

pub open_brace : (version : Version) → sign_word version (Sign sign.OpenBrace) 123
open_brace version = computed version (Sign sign.OpenBrace) 123 [] (λ rest. refl) refl refl refl refl

pub close_brace : (version : Version) → sign_word version (Sign sign.CloseBrace) 125
close_brace version = computed version (Sign sign.CloseBrace) 125 [] (λ rest. refl) refl refl refl refl

pub open_bracket : (version : Version) → sign_word version (Sign sign.OpenBracket) 91
open_bracket version = computed version (Sign sign.OpenBracket) 91 [] (λ rest. refl) refl refl refl refl

pub close_bracket : (version : Version) → sign_word version (Sign sign.CloseBracket) 93
close_bracket version = computed version (Sign sign.CloseBracket) 93 [] (λ rest. refl) refl refl refl refl

pub comma : (version : Version) → sign_word version (Sign sign.Comma) 44
comma version = computed version (Sign sign.Comma) 44 [] (λ rest. refl) refl refl refl refl

pub bar : (version : Version) → sign_word version (Sign sign.Bar) 124
bar version = computed version (Sign sign.Bar) 124 [] (λ rest. refl) refl refl refl refl

pub caret : (version : Version) → sign_word version (Sign sign.Caret) 94
caret version = computed version (Sign sign.Caret) 94 [] (λ rest. refl) refl refl refl refl

pub arrow : (version : Version) → IsWord version Anything (Sign sign.Arrow) (codes "->")
arrow version = computed version (Sign sign.Arrow) 45 (62 ∷ []) (λ rest. refl) refl refl refl refl

underscore_front : (version : Version) (rest : List ℕ) → Stops rest → front_token version (95 ∷ rest) ≡ Some (Sign sign.Underscore, 1)
underscore_front version [] stops = refl
underscore_front version (b ∷ bs) stops = rw stops refl

pub underscore : (version : Version) → IsWord version Stops (Sign sign.Underscore) (codes "_")
underscore version = record { front = underscore_front version; first = 95; others = []; is = refl; seen = refl; plain = refl; range = refl; clean = refl }

-- ---- signs of guards, which version 2 has

pub open_paren : sign_word Two (Sign sign.OpenParen) 40
open_paren = computed Two (Sign sign.OpenParen) 40 [] (λ rest. refl) refl refl refl refl

pub close_paren : sign_word Two (Sign sign.CloseParen) 41
close_paren = computed Two (Sign sign.CloseParen) 41 [] (λ rest. refl) refl refl refl refl

pub less_sign : IsWord Two Anything (Sign sign.Less) (codes "<")
less_sign = computed Two (Sign sign.Less) 60 [] (λ rest. refl) refl refl refl refl

pub at_most_sign : IsWord Two Anything (Sign sign.AtMost) (codes "=<")
at_most_sign = computed Two (Sign sign.AtMost) 61 (60 ∷ []) (λ rest. refl) refl refl refl refl

pub at_least_sign : IsWord Two Anything (Sign sign.AtLeast) (codes ">=")
at_least_sign = computed Two (Sign sign.AtLeast) 62 (61 ∷ []) (λ rest. refl) refl refl refl refl

pub equal_sign : IsWord Two Anything (Sign sign.EqualTo) (codes "==")
equal_sign = computed Two (Sign sign.EqualTo) 61 (61 ∷ []) (λ rest. refl) refl refl refl refl

pub unequal_sign : IsWord Two Anything (Sign sign.UnequalTo) (codes "/=")
unequal_sign = computed Two (Sign sign.UnequalTo) 47 (61 ∷ []) (λ rest. refl) refl refl refl refl

-- nothing follows, or a blank
abbrev pub BeforeBlank : List ℕ → Type 0
BeforeBlank rest = StopsAt (λ b. not (b == 32)) rest

blank_is_no_equals : (b : ℕ) → not (b == 32) ≡ false → (b == 61) ≡ false
blank_is_no_equals b h = grind (arith, nat_tests)

greater_front : (rest : List ℕ) → BeforeBlank rest → front_token Two (62 ∷ rest) ≡ Some (Sign sign.Greater, 1)
greater_front [] blank = refl
greater_front (b ∷ bs) blank = rw (blank_is_no_equals b blank) refl

-- behind it `=` would belong to the sign
pub greater_sign : IsWord Two BeforeBlank (Sign sign.Greater) (codes ">")
greater_sign = record { front = greater_front; first = 62; others = []; is = refl; seen = refl; plain = refl; range = refl; clean = refl }
