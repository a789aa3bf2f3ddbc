-- How tokens are spelled.
use Rattle.std.proofs.Common.{◌≡◌, ℕ, zero, suc, ◌+◌, ◌-◌, ◌≤◌, List, [], ◌∷◌, ◌++◌, length, take, take_while, drop, cond, Bool, true, false, ◌&&◌, ◌||◌, nat_le, Some, refl, sym, ◌∙◌, ap, subst, arith}
use Rattle.std.specs.List.{list_all}
use Rattle.std.proofs.lemmas.Bool.Decides.{nat_tests}
use Rattle.std.proofs.lemmas.List.Folds.{length-prefix_len}
use Rattle.std.proofs.lemmas.List.Sums.{take_while-cons}
use Rattle.sig_terms.specs.Words.{is_lower, is_upper, is_name_byte, is_variable_byte, is_atom_byte, is_name, is_variable, is_token, is_atom}
use Rattle.sig_tokens.specs.declared.token.TokenKind.{TokenKind}
use Rattle.sig_tokens.specs.declared.token.TokenKind.TheVariants.{Name, Variable, Quoted}
use Rattle.sig_tokens.specs.declared.token.Token.{Token}
use Rattle.sig_tokens.specs.Tokens.{text, front_run, front_token, is_token_in_range, IsSpelled, IsToken, AreTokens, AreWellSpelled}
use Rattle.sig_terms.specs.declared.bytes.TheConstants.{MOST_WORD_BYTES}
use Rattle.sig_program.specs.declared.version.Version.{Version}
use Rattle.sig_tokens.proofs.FrontTokens.{AtFront, OfEach, at_front}

-- the bytes at the front that pass a test pass it
passes-front : (p : ℕ → Bool) (b : ℕ) (bs : List ℕ) (v : Bool) → p b ≡ v → list_all p (take_while p bs) ≡ true → list_all p (cond v (b ∷ take_while p bs) []) ≡ true
passes-front p b bs true e h = rw (e, h) refl
passes-front p b bs false e h = refl

pub run-passes : (p : ℕ → Bool) (bs : List ℕ) → list_all p (take_while p bs) ≡ true
run-passes p [] = refl
run-passes p (b ∷ bs) = rw (take_while-cons p b bs) (passes-front p b bs (p b) refl (run-passes p bs))

pub and-first : (a b : Bool) → (a && b) ≡ true → a ≡ true
and-first true b h = refl
and-first false b h = h

pub and-second : (a b : Bool) → (a && b) ≡ true → b ≡ true
and-second true b h = h
and-second false b h = cc

name-in_atom : (b : ℕ) → is_name_byte b ≡ true → is_atom_byte b ≡ true
name-in_atom b h = grind (arith, nat_tests)

pub lower-in_atom : (b : ℕ) → is_lower b ≡ true → is_atom_byte b ≡ true
lower-in_atom b h = grind (arith, nat_tests)

pub names-in_atom : (bs : List ℕ) → list_all is_name_byte bs ≡ true → list_all is_atom_byte bs ≡ true
names-in_atom [] h = refl
names-in_atom (b ∷ bs) h =
    rw (name-in_atom b (and-first (is_name_byte b) (list_all is_name_byte bs) h), names-in_atom bs (and-second (is_name_byte b) (list_all is_name_byte bs) h)) refl

-- a byte, and the bytes behind it that pass a test
pub front-word : (p : ℕ → Bool) (b : ℕ) (bs : List ℕ) → take (1 + front_run p bs) (b ∷ bs) ≡ b ∷ take_while p bs
front-word p b bs =
    let one : 1 + front_run p bs ≡ suc (front_run p bs) = omega arith in
    ap (λ (n : ℕ). take n (b ∷ bs)) one ∙ ap (λ (n : ℕ). b ∷ take n bs) (length-prefix_len p bs)

pub front-length : (p : ℕ → Bool) (b : ℕ) (bs : List ℕ) → nat_le (1 + front_run p bs) MOST_WORD_BYTES ≡ true → nat_le (length (b ∷ take_while p bs)) MOST_WORD_BYTES ≡ true
front-length p b bs h =
    let one : suc (front_run p bs) ≡ 1 + front_run p bs = omega arith in
    ap (λ (n : ℕ). nat_le n MOST_WORD_BYTES) one ∙ h

name-front : (b : ℕ) (bs : List ℕ) → is_lower b ≡ true → nat_le (1 + front_run is_name_byte bs) MOST_WORD_BYTES ≡ true → IsSpelled Name (take (1 + front_run is_name_byte bs) (b ∷ bs))
name-front b bs low short =
    let passes = run-passes is_name_byte bs in
    let few = front-length is_name_byte b bs short in
    let token : is_token (b ∷ take_while is_name_byte bs) ≡ true = rw (few, low, passes) refl in
    let atom : is_atom (b ∷ take_while is_name_byte bs) ≡ true = rw (few, lower-in_atom b low, names-in_atom (take_while is_name_byte bs) passes) refl in
    subst (IsSpelled Name) (sym (front-word is_name_byte b bs)) (token, atom)

or-second : (a : Bool) → (a || true) ≡ true
or-second true = refl
or-second false = refl

variable-front : (b : ℕ) (bs : List ℕ) → is_upper b ≡ true → nat_le (1 + front_run is_variable_byte bs) MOST_WORD_BYTES ≡ true → IsSpelled Variable (take (1 + front_run is_variable_byte bs) (b ∷ bs))
variable-front b bs up short =
    let passes = run-passes is_variable_byte bs in
    let few = front-length is_variable_byte b bs short in
    let word : is_variable (b ∷ take_while is_variable_byte bs) ≡ true = rw (up, passes) refl in
    let token : is_token (b ∷ take_while is_variable_byte bs) ≡ true = rw few (ap (λ (v : Bool). is_name (b ∷ take_while is_variable_byte bs) || v) word ∙ or-second (is_name (b ∷ take_while is_variable_byte bs))) in
    subst (IsSpelled Variable) (sym (front-word is_variable_byte b bs)) token

-- the bytes between the quotes may stand in an atom
shorter-front : (p : ℕ → Bool) (b : ℕ) (xs ys : List ℕ) (v : Bool) → length xs ≤ length ys → length (cond v (b ∷ xs) []) ≤ length (cond v (b ∷ ys) [])
shorter-front p b xs ys true h = omega (arith, h)
shorter-front p b xs ys false h = omega arith

shorter-run : (p : ℕ → Bool) (m : ℕ) (bs : List ℕ) → length (take_while p (take m bs)) ≤ length (take_while p bs)
shorter-run p zero bs = omega arith
shorter-run p (suc m) [] = omega arith
shorter-run p (suc m) (b ∷ bs) =
    let h = shorter-run p m bs in
    rw (take_while-cons p b (take m bs), take_while-cons p b bs) (shorter-front p b (take_while p (take m bs)) (take_while p bs) (p b) h)

pub quoted-spelled : (b : ℕ) (bs : List ℕ) → nat_le (front_run is_atom_byte bs) MOST_WORD_BYTES ≡ true → IsSpelled Quoted (take (2 + front_run is_atom_byte bs) (b ∷ bs))
quoted-spelled b bs short =
    let n : ℕ = front_run is_atom_byte bs in
    let two : 2 + n ≡ suc (suc n) = omega arith in
    let cut : take (2 + n) (b ∷ bs) ≡ b ∷ take (suc n) bs = ap (λ (m : ℕ). take m (b ∷ bs)) two in
    let few : length (take_while is_atom_byte (take (suc n) bs)) ≤ n = shorter-run is_atom_byte (suc n) bs in
    let le : nat_le (length (take_while is_atom_byte (take (suc n) bs))) MOST_WORD_BYTES ≡ true = grind (arith, nat_tests) in
    let whole : is_atom (take_while is_atom_byte (take (suc n) bs)) ≡ true = rw (le, run-passes is_atom_byte (take (suc n) bs)) refl in
    subst (IsSpelled Quoted) (sym cut) whole

-- a token at the front is spelled as its kind says
each-spelled : OfEach IsSpelled
each-spelled = record { name = name-front; variable = variable-front; quoted = quoted-spelled; integer = λ _. tt; process = λ _. tt; sign = λ _ _. tt }

-- tokens that aren't refused by themselves
pub all_whole : (line : List ℕ) (ts : List Token) → AreTokens line ts → list_all (λ t. is_token_in_range (text line t) t.kind) ts ≡ true → AreWellSpelled line ts
all_whole line [] h e = tt
all_whole line (t ∷ ts) h e =
    let first = and-first (is_token_in_range (text line t) t.kind) (list_all (λ u. is_token_in_range (text line u) u.kind) ts) e in
    let rest = and-second (is_token_in_range (text line t) t.kind) (list_all (λ u. is_token_in_range (text line u) u.kind) ts) e in
    ((h.0, first), all_whole line ts h.1 rest)

-- tokens of a line, one after another
pub tokens-push : (line : List ℕ) (ts : List Token) (t : Token) → AreTokens line ts → IsToken line t → AreTokens line (ts ++ t ∷ [])
tokens-push line [] t h e = (e, tt)
tokens-push line (u ∷ us) t h e = (h.0, tokens-push line us t h.1 e)

-- the token at the front of the rest of a line
pub token-known : (v : Version) (line : List ℕ) (i : ℕ) (kind : TokenKind) (len : ℕ) (rest : List ℕ) → rest ≡ drop i line → front_token v rest ≡ Some (kind, len) → i + len ≤ length line →
    IsToken line (record { kind = kind; start = i; end = i + len })
token-known v line i kind len rest is some within =
    let good : IsSpelled kind (take len rest) = subst (AtFront IsSpelled rest) some (at_front IsSpelled each-spelled v rest) in
    let same : i + len - i ≡ len = omega arith in
    let above : i ≤ i + len = omega arith in
    (above, within, subst (IsSpelled kind) (ap (take len) is ∙ ap (λ (n : ℕ). take n (drop i line)) (sym same)) good)
