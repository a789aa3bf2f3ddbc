-- The tokens of a line, cut from left to right, each as long as possible.
use Rattle.std.specs.Prelude.{◌≡◌, ◌≤◌, ℕ, zero, suc, ◌+◌, ◌-◌, List, [], ◌∷◌, length, take_while, Bool, true, ◌||◌, nat_le, ◌==◌, if◌then◌else◌, Option, Some, None, is_some, Result, Ok, Err, drop, slice_range, AllPairs}
use Rattle.std.specs.List.{list_all}
use Rattle.sig_terms.specs.Words.{is_lower, is_upper, is_digit, is_name_byte, is_variable_byte, is_atom_byte, is_token, is_name, is_variable, is_atom}
use Rattle.sig_tokens.specs.declared.fault.FaultKind.{FaultKind}
use Rattle.sig_tokens.specs.declared.fault.FaultKind.TheVariants.{Syntax, IntRange}
use Rattle.sig_tokens.specs.Numbers.{is_in_range}
use Rattle.sig_tokens.specs.declared.token.Sign as signs
use Rattle.sig_tokens.specs.declared.token.TokenKind.{TokenKind}
use Rattle.sig_tokens.specs.declared.token.TokenKind.TheVariants.{Name, Variable, Integer, Quoted, Process, Sign}
use Rattle.sig_tokens.specs.declared.token.Sign.TheVariants as sign
use Rattle.sig_tokens.specs.declared.token.Token.{Token}
use Rattle.sig_tokens.specs.declared.token.Cut.{Cut}
use Rattle.sig_terms.specs.declared.bytes.TheConstants.{MOST_WORD_BYTES}
use Rattle.sig_program.specs.declared.version.Version.{Version}
use Rattle.sig_program.specs.declared.version.Version.TheVariants.{One, Two}

-- a space, a tab and a carriage return
abbrev pub is_blank : ℕ → Bool
is_blank b = b == 32 || b == 9 || b == 13

-- `{` `}` `[` `]` `,` `|` `^`
abbrev pub sign_of : ℕ → Option signs.Sign
sign_of b =
    if b == 123 then Some sign.OpenBrace
    else if b == 125 then Some sign.CloseBrace
    else if b == 91 then Some sign.OpenBracket
    else if b == 93 then Some sign.CloseBracket
    else if b == 44 then Some sign.Comma
    else if b == 124 then Some sign.Bar
    else if b == 94 then Some sign.Caret
    else None

-- how many bytes at the front pass the test
abbrev pub front_run : (ℕ → Bool) → List ℕ → ℕ
front_run test bytes = length (take_while test bytes)

-- a word of at most MOST_WORD_BYTES bytes is a token, with so many bytes before and behind it; a longer one is none
abbrev pub short_word : TokenKind → ℕ → ℕ → Option (TokenKind × ℕ)
short_word kind around n = if nat_le n MOST_WORD_BYTES then Some (kind, around + n) else None

-- behind `@`: a name
abbrev pub process_at : List ℕ → Option (TokenKind × ℕ)
process_at [] = None
process_at (b ∷ bs) = if is_lower b then short_word Process 1 (1 + front_run is_name_byte bs) else None

-- behind `-`: digits, or `>`
abbrev pub minus_at : List ℕ → Option (TokenKind × ℕ)
minus_at [] = None
minus_at (b ∷ bs) = if is_digit b then Some (Integer, 2 + front_run is_digit bs) else if b == 62 then Some (Sign sign.Arrow, 2) else None

-- behind `_`: no byte with which a name could go on
abbrev pub underscore_at : List ℕ → Option (TokenKind × ℕ)
underscore_at [] = Some (Sign sign.Underscore, 1)
underscore_at (b ∷ bs) = if is_name_byte b then None else Some (Sign sign.Underscore, 1)

-- behind so many bytes of a quoted atom: `'`
abbrev pub quote_at : ℕ → List ℕ → Option (TokenKind × ℕ)
quote_at n [] = None
quote_at n (b ∷ bs) = if b == 39 then short_word Quoted 2 n else None

-- behind `'`: the bytes of an atom, and `'`
abbrev pub quoted_at : List ℕ → Option (TokenKind × ℕ)
quoted_at bs = let n = front_run is_atom_byte bs in quote_at n (drop n bs)

-- behind `=`: `<` or `=` makes a comparison sign of both
abbrev pub equals_at : List ℕ → Option (TokenKind × ℕ)
equals_at [] = Some (Sign sign.Equals, 1)
equals_at (b ∷ bs) =
    if b == 60 then Some (Sign sign.AtMost, 2)
    else if b == 61 then Some (Sign sign.EqualTo, 2)
    else Some (Sign sign.Equals, 1)

-- behind `>`: `=` makes one sign of both
abbrev pub greater_at : List ℕ → Option (TokenKind × ℕ)
greater_at [] = Some (Sign sign.Greater, 1)
greater_at (b ∷ bs) = if b == 61 then Some (Sign sign.AtLeast, 2) else Some (Sign sign.Greater, 1)

-- behind `/`: `=`
abbrev pub slash_at : List ℕ → Option (TokenKind × ℕ)
slash_at [] = None
slash_at (b ∷ bs) = if b == 61 then Some (Sign sign.UnequalTo, 2) else None

-- `=`, the comparison signs `<` `>` `=<` `>=` `==` `/=` (Erlang Reference Manual, Expressions, Term Comparisons), `(` and `)`
abbrev pub guard_sign_at : ℕ → List ℕ → Option (TokenKind × ℕ)
guard_sign_at b bs =
    if b == 61 then equals_at bs
    else if b == 60 then Some (Sign sign.Less, 1)
    else if b == 62 then greater_at bs
    else if b == 47 then slash_at bs
    else if b == 40 then Some (Sign sign.OpenParen, 1)
    else if b == 41 then Some (Sign sign.CloseParen, 1)
    else None

-- of these version 1 has `=` alone
abbrev pub sign_by : Version → ℕ → List ℕ → Option (TokenKind × ℕ)
sign_by One b bs = if b == 61 then Some (Sign sign.Equals, 1) else None
sign_by Two b bs = guard_sign_at b bs

-- a sign of one byte, or else what stands there
abbrev pub sign_or : Option signs.Sign → Option (TokenKind × ℕ) → Option (TokenKind × ℕ)
sign_or (Some s) other = Some (Sign s, 1)
sign_or None other = other

-- a sign that begins with this byte
abbrev pub sign_front : Version → ℕ → List ℕ → Option (TokenKind × ℕ)
sign_front v b bs = sign_or (sign_of b) (sign_by v b bs)

-- the token at the front of the bytes, as long as possible: its kind and how many bytes it has
abbrev pub front_token : Version → List ℕ → Option (TokenKind × ℕ)
front_token v [] = None
front_token v (b ∷ bs) =
    if is_lower b then short_word Name 0 (1 + front_run is_name_byte bs)
    else if is_upper b then short_word Variable 0 (1 + front_run is_variable_byte bs)
    else if is_digit b then Some (Integer, 1 + front_run is_digit bs)
    else if b == 64 then process_at bs
    else if b == 45 then minus_at bs
    else if b == 95 then underscore_at bs
    else if b == 39 then quoted_at bs
    else sign_front v b bs

-- a token, and the tokens after it; a place at which none stands ends the tokens
abbrev pub with_token : Option (TokenKind × ℕ) → ℕ → (ℕ → Cut) → Cut
with_token None at after = record { tokens = []; stop = Some at }
with_token (Some t) at after =
    let cut = after (t.1 - 1) in
    record { tokens = record { kind = t.0; start = at; end = at + t.1 } ∷ cut.tokens; stop = cut.stop }

-- the tokens from this place of a line on, where so many bytes belong to the token before; `%` begins a comment
unfoldable pub cut_of : Version → ℕ → ℕ → List ℕ → Cut
cut_of v at skip [] = record { tokens = []; stop = None }
cut_of v at (suc skip) (b ∷ bs) = cut_of v (at + 1) skip bs
cut_of v at zero (b ∷ bs) =
    if is_blank b then cut_of v (at + 1) 0 bs
    else if b == 37 then record { tokens = []; stop = None }
    else with_token (front_token v (b ∷ bs)) at (λ skip. cut_of v (at + 1) skip bs)

-- the bytes of a token
abbrev pub text : List ℕ → Token → List ℕ
text line t = slice_range line t.start t.end

-- the bytes between the quotes of a quoted atom: behind the first quote those that may stand in an atom
abbrev pub unquoted : List ℕ → List ℕ
unquoted word = take_while is_atom_byte (drop 1 word)

-- an integer has 64 bits signed
abbrev pub is_token_in_range : List ℕ → TokenKind → Bool
is_token_in_range text Integer = is_in_range text
is_token_in_range text _ = true

-- what is known of these bytes: those of a name token or a variable token are a name or a variable, those of a name token
-- may stand in an atom, and those of a quoted atom do
abbrev pub IsSpelled : TokenKind → List ℕ → Type 0
IsSpelled Name word = (is_token word ≡ true) × (is_atom word ≡ true)
IsSpelled Variable word = is_token word ≡ true
IsSpelled Quoted word = is_atom (unquoted word) ≡ true
IsSpelled _ word = Unit {0}

-- a token lies in its line, and is spelled as its kind says
abbrev pub IsToken : List ℕ → Token → Type 0
IsToken line t = (t.start ≤ t.end) × (t.end ≤ length line) × IsSpelled t.kind (text line t)

-- each is a token of the line
abbrev pub AreTokens : List ℕ → List Token → Type 0
AreTokens line [] = Unit {0}
AreTokens line (t ∷ ts) = IsToken line t × AreTokens line ts

-- no token begins before one that stands to its left
abbrev pub AreRising : List Token → Type 0
AreRising tokens = AllPairs (λ (t u : Token). t.start ≤ u.start) tokens

-- a token that isn't refused by itself
abbrev pub IsWellSpelled : List ℕ → Token → Type 0
IsWellSpelled line t = IsToken line t × (is_token_in_range (text line t) t.kind ≡ true)

-- each is such a token of the line
abbrev pub AreWellSpelled : List ℕ → List Token → Type 0
AreWellSpelled line [] = Unit {0}
AreWellSpelled line (t ∷ ts) = IsWellSpelled line t × AreWellSpelled line ts

-- a line and its tokens, all of them or those from one of them on
pub record CutLine : Type 0 where
  pub text : List ℕ
  pub tokens : List Token

-- the first token, and the line behind it; or no token is left
abbrev pub Splits : CutLine → Option (Token × CutLine) → Type 0
Splits line None = line.tokens ≡ []
Splits line (Some x) = (line.tokens ≡ x.0 ∷ x.1.tokens) × (x.1.text ≡ line.text) × IsWellSpelled line.text x.0

-- A line is cut whole, and each integer is in range. The tokens that were cut stand to the left of a place at which none stands.
abbrev pub checked : List ℕ → Cut → Result (List Token) FaultKind
checked line cut =
    if list_all (λ t. is_token_in_range (text line t) t.kind) cut.tokens then (if is_some cut.stop then Err Syntax else Ok cut.tokens) else Err IntRange

-- the tokens of a line of a script of this version, or what is wrong with one of them
abbrev pub tokens_of : Version → List ℕ → Result (List Token) FaultKind
tokens_of v line = checked line (cut_of v 0 0 line)

-- a name token
abbrev pub IsNameToken : List ℕ → Type 0
IsNameToken word = (length word ≤ MOST_WORD_BYTES) × (is_name word ≡ true)

-- a variable token
abbrev pub IsVariableToken : List ℕ → Type 0
IsVariableToken word = (length word ≤ MOST_WORD_BYTES) × (is_variable word ≡ true)
