-- The words of a line: what is known of each token's bytes once the line is cut.
use Rattle.std.proofs.Common.{◌≡◌, ℕ, zero, suc, ◌+◌, ◌-◌, ◌≤◌, ◌^◌, ℤ, List, [], ◌∷◌, length, take, take_while, drop, true, false, nat_le, ◌==◌, if◌then◌else◌, Option, Some, None, refl, sym, ◌∙◌, ap, subst, arith, drop-drop}
use Rattle.std.specs.Prelude.{pos, negsuc, is_some}
use Rattle.std.specs.List.{list_all}
use Rattle.std.proofs.lemmas.Bool.Decides.{nat_tests}
use Rattle.sig_terms.proofs.Choices.{by_test}
use Rattle.sig_terms.specs.Words.{is_lower, is_upper, is_name_byte, is_variable_byte, is_name, is_variable, is_atom}
use Rattle.sig_terms.specs.Readable.{is_wide}
use Rattle.sig_terms.specs.declared.bytes.TheConstants.{MOST_WORD_BYTES}
use Rattle.sig_tokens.specs.declared.token.TokenKind.{TokenKind}
use Rattle.sig_tokens.specs.declared.token.TokenKind.TheVariants.{Name, Variable, Integer, Quoted}
use Rattle.sig_tokens.specs.declared.token.Token.{Token}
use Rattle.sig_tokens.specs.declared.token.Cut.{Cut}
use Rattle.sig_tokens.specs.Numbers.{number, is_in_range, negative, int_of}
use Rattle.sig_tokens.specs.Tokens.{is_blank, front_run, front_token, with_token, cut_of, text, unquoted, is_token_in_range, tokens_of, IsNameToken, IsVariableToken}
use Rattle.sig_tokens.proofs.FrontTokens.{AtFront, OfEach, at_front}
use Rattle.sig_tokens.proofs.SpellingLemmas.{and-first, and-second, run-passes, lower-in_atom, names-in_atom, front-word, front-length, quoted-spelled}
use Rattle.sig_reader.proofs.BoundTermLemmas.{Holds, holds-if}
use Rattle.sig_program.specs.declared.version.Version.{Version}

-- the bytes of a name, of a variable, and between the quotes of an atom
abbrev pub IsShaped : TokenKind → List ℕ → Type 0
IsShaped Name word = IsNameToken word × (is_atom word ≡ true)
IsShaped Variable word = IsVariableToken word
IsShaped Quoted word = is_atom (unquoted word) ≡ true
IsShaped _ word = Unit {0}

short-word : (n : ℕ) → nat_le n MOST_WORD_BYTES ≡ true → n ≤ MOST_WORD_BYTES
short-word n h = grind (arith, nat_tests)

name-shaped : (b : ℕ) (bs : List ℕ) → is_lower b ≡ true → nat_le (1 + front_run is_name_byte bs) MOST_WORD_BYTES ≡ true → IsShaped Name (take (1 + front_run is_name_byte bs) (b ∷ bs))
name-shaped b bs low short =
    let passes = run-passes is_name_byte bs in
    let few = front-length is_name_byte b bs short in
    let name : is_name (b ∷ take_while is_name_byte bs) ≡ true = rw (low, passes) refl in
    let atom : is_atom (b ∷ take_while is_name_byte bs) ≡ true = rw (few, lower-in_atom b low, names-in_atom (take_while is_name_byte bs) passes) refl in
    subst (IsShaped Name) (sym (front-word is_name_byte b bs)) ((short-word (length (b ∷ take_while is_name_byte bs)) few, name), atom)

variable-shaped : (b : ℕ) (bs : List ℕ) → is_upper b ≡ true → nat_le (1 + front_run is_variable_byte bs) MOST_WORD_BYTES ≡ true →
    IsShaped Variable (take (1 + front_run is_variable_byte bs) (b ∷ bs))
variable-shaped b bs up short =
    let passes = run-passes is_variable_byte bs in
    let few = front-length is_variable_byte b bs short in
    let word : is_variable (b ∷ take_while is_variable_byte bs) ≡ true = rw (up, passes) refl in
    subst (IsShaped Variable) (sym (front-word is_variable_byte b bs)) (short-word (length (b ∷ take_while is_variable_byte bs)) few, word)

-- a token at the front is of such a shape
each-shaped : OfEach IsShaped
each-shaped = record { name = name-shaped; variable = variable-shaped; quoted = quoted-spelled; integer = λ _. tt; process = λ _. tt; sign = λ _ _. tt }

-- each token of a line is of such a shape
abbrev AreShaped : List ℕ → List Token → Type 0
AreShaped line [] = Unit {0}
AreShaped line (t ∷ ts) = IsShaped t.kind (text line t) × AreShaped line ts

with_token-shaped : (line : List ℕ) (o : Option (TokenKind × ℕ)) (at : ℕ) (after : ℕ → Cut) → AtFront IsShaped (drop at line) o → ((skip : ℕ) → AreShaped line (after skip).tokens) →
    AreShaped line (with_token o at after).tokens
with_token-shaped line None at after h k = tt
with_token-shaped line (Some t) at after h k =
    let same : t.1 ≡ at + t.1 - at = omega arith in
    (subst (λ (n : ℕ). IsShaped t.0 (take n (drop at line))) same h, k (t.1 - 1))

cut-shaped : (version : Version) (line : List ℕ) (at skip : ℕ) (bs : List ℕ) → bs ≡ drop at line → AreShaped line (cut_of version at skip bs).tokens
unfolding cut_of
cut-shaped version line at skip [] e = tt
cut-shaped version line at (suc skip) (b ∷ bs) e = cut-shaped version line (at + 1) skip bs (ap (drop 1) e ∙ drop-drop 1 at line)
cut-shaped version line at zero (b ∷ bs) e =
    let next : bs ≡ drop (at + 1) line = ap (drop 1) e ∙ drop-drop 1 at line in
    let Shaped : Cut → Type 0 = λ c. AreShaped line c.tokens in
    by_test Shaped (is_blank b) _ _ (λ _. cut-shaped version line (at + 1) 0 bs next)
    (λ _. by_test Shaped (b == 37) _ _ (λ _. tt)
    (λ _. with_token-shaped line (front_token version (b ∷ bs)) at (λ skip. cut_of version (at + 1) skip bs)
    (subst (λ (xs : List ℕ). AtFront IsShaped xs (front_token version (b ∷ bs))) e (at_front IsShaped each-shaped version (b ∷ bs))) (λ skip. cut-shaped version line (at + 1) skip bs next)))

-- an integer that is in range is of 64 bits
negative-wide : (n : ℕ) → nat_le n (2 ^ 63) ≡ true → is_wide (negative n) ≡ true
negative-wide n h = by_test (λ (z : ℤ). is_wide z ≡ true) (n == 0) (pos 0) (negsuc (n - 1)) (λ _. refl) (λ k. grind (arith, nat_tests))

positive-wide : (n : ℕ) → nat_le n (2 ^ 63 - 1) ≡ true → is_wide (pos n) ≡ true
positive-wide n h = grind (arith, nat_tests)

range-wide : (word : List ℕ) → is_in_range word ≡ true → is_wide (int_of word) ≡ true
range-wide [] h = refl
range-wide (b ∷ bs) h =
    elim (b == 45) as (λ v. (if v then nat_le (number bs) (2 ^ 63) else nat_le (number (b ∷ bs)) (2 ^ 63 - 1)) ≡ true → is_wide (if v then negative (number bs) else pos (number (b ∷ bs))) ≡ true) [
      | true ↦ negative-wide (number bs)
      | false ↦ positive-wide (number (b ∷ bs))
    ] h

-- what is known of the words of a line
abbrev pub IsWord : TokenKind → List ℕ → Type 0
IsWord Integer word = is_wide (int_of word) ≡ true
IsWord kind word = IsShaped kind word

abbrev pub AreWords : List ℕ → List Token → Type 0
AreWords line [] = Unit {0}
AreWords line (t ∷ ts) = IsWord t.kind (text line t) × AreWords line ts

word-of : (kind : TokenKind) (word : List ℕ) → IsShaped kind word → is_token_in_range word kind ≡ true → IsWord kind word
word-of Integer word h e = range-wide word e
word-of kind word h e = h

words-of : (line : List ℕ) (ts : List Token) → AreShaped line ts → list_all (λ t. is_token_in_range (text line t) t.kind) ts ≡ true → AreWords line ts
words-of line [] h e = tt
words-of line (t ∷ ts) h e =
    let first = and-first (is_token_in_range (text line t) t.kind) (list_all (λ u. is_token_in_range (text line u) u.kind) ts) e in
    let rest = and-second (is_token_in_range (text line t) t.kind) (list_all (λ u. is_token_in_range (text line u) u.kind) ts) e in
    (word-of t.kind (text line t) h.0 first, words-of line ts h.1 rest)

pub tokens-words : (version : Version) (line : List ℕ) → Holds (AreWords line) (tokens_of version line)
tokens-words version line =
    let cut : Cut = cut_of version 0 0 line in
    holds-if (AreWords line) (list_all (λ t. is_token_in_range (text line t) t.kind) cut.tokens) _ _
    (λ e. holds-if (AreWords line) (is_some cut.stop) _ _ (λ _. tt) (λ _. words-of line cut.tokens (cut-shaped version line 0 0 line refl) e)) (λ _. tt)
