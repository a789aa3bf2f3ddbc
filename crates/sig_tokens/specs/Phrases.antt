-- Phrases, which are expressions and patterns: what stands at the front of the tokens, from left to right.
use Rattle.std.specs.Prelude.{ℕ, ℤ, zero, suc, List, [], ◌∷◌, ◌++◌, length, drop, Bool, ◌&&◌, ◌||◌, false, if◌then◌else◌, Result, Ok, Err}
use Rattle.sig_terms.specs.declared.pid.Pid.{Pid}
use Rattle.sig_patterns.specs.declared.var.Var.{Var}
use Rattle.sig_patterns.specs.declared.building.TheConstants.{MOST_NODES, MOST_DEPTH}
use Rattle.sig_tokens.specs.declared.fault.FaultKind.{FaultKind}
use Rattle.sig_tokens.specs.declared.fault.FaultKind.TheVariants.{Syntax, TermTooLarge}
use Rattle.sig_tokens.specs.declared.known.Known.{Known}
use Rattle.sig_tokens.specs.declared.token.Sign as signs
use Rattle.sig_tokens.specs.declared.token.Sign.TheVariants.{CloseBrace, CloseBracket}
use Rattle.sig_tokens.specs.declared.token.TokenKind.{TokenKind}
use Rattle.sig_tokens.specs.declared.token.TokenKind.TheVariants.{Name, Variable, Integer, Quoted, Process, Sign}
use Rattle.sig_tokens.specs.declared.token.Token.{Token}
use Rattle.sig_tokens.specs.Faults.{◌>>=◌, on_ok}
use Rattle.sig_tokens.specs.Names.{pid_of}
use Rattle.sig_tokens.specs.Numbers.{int_of}
use Rattle.sig_tokens.specs.Signs.{is_word, is_open_brace, is_open_bracket, is_comma, is_bar, closes}
use Rattle.sig_tokens.specs.Tokens.{text, unquoted, CutLine}

-- How phrases of one kind are made: of an integer, an atom, a variable and a process; whether a sign begins one that opens no
-- bracket, and what it begins, with the tokens behind; of elements, by the sign that closes them; and, where lists have tails, of
-- the first elements of a list and its tail
pub record Spelling (A : Type 0) : Type 0 where
  pub int : ℤ → A
  pub atom : List ℕ → A
  pub var : Var → A
  pub pid : Pid → A
  pub begins : TokenKind → Bool
  pub signed : List ℕ → TokenKind → List Token → Result (A × List Token) FaultKind
  pub enclosing : signs.Sign → List A → A
  pub has_tails : Bool
  pub nested : List A → A → A

-- what was read, the nodes that are left, and the tokens behind it; or what is wrong with the first token that can't stand
abbrev pub Read : Type 0 → Type 0
Read A = Result (A × ℕ × List Token) FaultKind

-- whether a phrase may begin with the token
abbrev pub begins_phrase : {A : Type 0} → Spelling A → TokenKind → Bool
begins_phrase s kind = is_open_brace kind || is_open_bracket kind || is_word kind || s.begins kind

-- No node or no depth is left: a token that begins one more is too much, and another can't stand here at all.
abbrev pub refusal_of : {A : Type 0} → Spelling A → List Token → FaultKind
refusal_of s [] = Syntax
refusal_of s (t ∷ ts) = if begins_phrase s t.kind then TermTooLarge else Syntax

-- behind an element: a comma and more, or what ends the elements
abbrev pub behind : {A B : Type 0} → (ℕ → List A → List Token → Read B) → (List A → ℕ → List Token → Read B) → ℕ → List A → List Token → Read B
behind more finish nodes items [] = Err Syntax
behind more finish nodes items (t ∷ ts) = if is_comma t.kind then more nodes items ts else finish items nodes (t ∷ ts)

-- elements behind those so far, with commas between them; there are no more of them than tokens
unfoldable pub elements : {A B : Type 0} → (ℕ → List Token → Read A) → (List A → ℕ → List Token → Read B) → ℕ → ℕ → List A → List Token → Read B
elements read finish zero nodes items ts = Err Syntax
elements read finish (suc room) nodes items ts = read nodes ts >>= λ x. behind (elements read finish room) finish x.1 (items ++ x.0 ∷ []) x.2

-- what was read ends with this token
abbrev pub closed : {A : Type 0} → (TokenKind → Bool) → A → ℕ → List Token → Read A
closed closes items nodes [] = Err Syntax
closed closes items nodes (t ∷ ts) = if closes t.kind then Ok (items, nodes, ts) else Err Syntax

-- whether the token stands before the tail of a list
abbrev pub is_before_tail : {A : Type 0} → Spelling A → signs.Sign → TokenKind → Bool
is_before_tail s CloseBracket kind = s.has_tails && is_bar kind
is_before_tail s _ kind = false

-- behind elements: the sign that closes them, or a bar, the tail, and that sign
abbrev pub ending : {A : Type 0} → Spelling A → signs.Sign → (ℕ → List Token → Read A) → List A → ℕ → List Token → Read A
ending s close read items nodes [] = Err Syntax
ending s close read items nodes (t ∷ ts) =
    if is_before_tail s close t.kind then (read nodes ts >>= λ x. closed (closes close) (s.nested items x.0) x.1 x.2)
    else closed (closes close) (s.enclosing close items) nodes (t ∷ ts)

-- behind an opening bracket: no elements, or some
unfoldable pub bracketed : {A : Type 0} → Spelling A → signs.Sign → (ℕ → List Token → Read A) → ℕ → List Token → Read A
bracketed s close read nodes [] = Err Syntax
bracketed s close read nodes (t ∷ ts) =
    if closes close t.kind then Ok (s.enclosing close [], nodes, ts) else elements read (ending s close read) (length (t ∷ ts)) nodes [] (t ∷ ts)

-- a phrase without elements, by its first token and the tokens behind
abbrev pub single : {A : Type 0} → Spelling A → Known → List ℕ → TokenKind → List ℕ → List Token → Result (A × List Token) FaultKind
single s known line Name word ts = Ok (s.atom word, ts)
single s known line Quoted word ts = Ok (s.atom (unquoted word), ts)
single s known line Integer word ts = Ok (s.int (int_of word), ts)
single s known line Variable word ts = Ok (s.var (record { 0 = word }), ts)
single s known line Process word ts = on_ok (λ n. (s.pid (record { 0 = n }), ts)) (pid_of known (drop 1 word))
single s known line (Sign g) word ts = s.signed line (Sign g) ts

-- by the token at the front, whose elements are read by read
abbrev pub phrase_by : {A : Type 0} → Spelling A → Known → List ℕ → (ℕ → List Token → Read A) → TokenKind → List ℕ → ℕ → List Token → Read A
phrase_by s known line read kind word nodes ts =
    if is_open_brace kind then bracketed s CloseBrace read nodes ts
    else if is_open_bracket kind then bracketed s CloseBracket read nodes ts
    else on_ok (λ x. (x.0, nodes, x.1)) (single s known line kind word ts)

unfoldable pub phrase_front : {A : Type 0} → Spelling A → Known → List ℕ → (ℕ → List Token → Read A) → ℕ → List Token → Read A
phrase_front s known line read zero ts = Err (refusal_of s ts)
phrase_front s known line read (suc nodes) [] = Err Syntax
phrase_front s known line read (suc nodes) (t ∷ ts) = phrase_by s known line read t.kind (text line t) nodes ts

-- the phrase at the front of the tokens, within this depth and so many nodes
unfoldable pub phrase_at : {A : Type 0} → Spelling A → Known → List ℕ → ℕ → ℕ → List Token → Read A
phrase_at s known line zero nodes ts = Err (refusal_of s ts)
phrase_at s known line (suc depth) nodes ts = phrase_front s known line (phrase_at s known line depth) nodes ts

-- a phrase of at most MOST_NODES nodes and depth MOST_DEPTH, and the tokens behind it
abbrev pub phrase_of : {A : Type 0} → Spelling A → Known → List ℕ → List Token → Result (A × List Token) FaultKind
phrase_of s known line ts = on_ok (λ x. (x.0, x.2)) (phrase_at s known line MOST_DEPTH MOST_NODES ts)

-- the same of a line: a phrase without elements, by its first token and the line behind; and by the depth that is left, what ends
-- elements, elements with what ends them, what stands behind an opening bracket, and the phrase that a token begins
abbrev pub single_in : {A : Type 0} → Spelling A → Known → Token → CutLine → Result (A × List Token) FaultKind
single_in s known t rest = single s known rest.text t.kind (text rest.text t) rest.tokens

abbrev pub ending_in : {A : Type 0} → Spelling A → Known → ℕ → signs.Sign → List A → ℕ → CutLine → Read A
ending_in s known depth close items nodes line = ending s close (phrase_at s known line.text depth) items nodes line.tokens

abbrev pub elements_in : {A : Type 0} → Spelling A → Known → ℕ → signs.Sign → ℕ → CutLine → Read A
elements_in s known depth close nodes line =
    let read = phrase_at s known line.text depth in
    elements read (ending s close read) (length line.tokens) nodes [] line.tokens

abbrev pub bracketed_in : {A : Type 0} → Spelling A → Known → ℕ → signs.Sign → ℕ → CutLine → Read A
bracketed_in s known depth close nodes line = bracketed s close (phrase_at s known line.text depth) nodes line.tokens

abbrev pub phrase_behind : {A : Type 0} → Spelling A → Known → ℕ → Token → ℕ → CutLine → Read A
phrase_behind s known depth t nodes rest =
    phrase_by s known rest.text (phrase_at s known rest.text depth) t.kind (text rest.text t) nodes rest.tokens
