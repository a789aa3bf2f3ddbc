-- What a reading of an expression leaves, by its steps.
use Rattle.std.proofs.Common.{◌≡◌, ℕ, ◌+◌, ◌-◌, ◌<◌, ◌≤◌, List, [], ◌∷◌, ◌++◌, length, get_or, take, drop, if◌then◌else◌, Option, Some, None, Result, Ok, Err, Bool, true, false, refl, sym, ap, ◌∙◌, arith}
use Rattle.std.proofs.Math.Seq.{take-length}
use Rattle.std.proofs.lemmas.List.{drop_all}
use Rattle.std.proofs.lemmas.Option.{some_pair_parts}
use Rattle.sig_patterns.specs.declared.building.TheConstants.{MOST_NODES, MOST_DEPTH}
use Rattle.sig_patterns.specs.declared.expression.Expr.{Expr}
use Rattle.sig_tokens.specs.declared.fault.FaultKind.{FaultKind}
use Rattle.sig_tokens.specs.declared.fault.FaultKind.TheVariants.{Syntax}
use Rattle.sig_tokens.specs.declared.known.Known.TheVariants.{Any}
use Rattle.sig_tokens.specs.declared.token.Sign as signs
use Rattle.sig_tokens.specs.declared.token.Sign.TheVariants.{CloseBrace, CloseBracket}
use Rattle.sig_tokens.specs.declared.token.TokenKind.{TokenKind}
use Rattle.sig_tokens.specs.declared.token.TokenKind.TheVariants.{Name, Variable, Integer, Quoted, Process, Sign}
use Rattle.sig_tokens.specs.declared.token.Token.{Token}
use Rattle.sig_tokens.specs.Expressions.{expr_spelling}
use Rattle.sig_tokens.specs.Faults.{◌>>=◌, on_ok}
use Rattle.sig_tokens.specs.Tokens.{text}
use Rattle.sig_tokens.specs.Phrases.{Read, elements, is_before_tail, ending, bracketed, single, phrase_at, phrase_by}
use Rattle.sig_tokens.specs.Signs.{is_word, is_open_brace, is_open_bracket, is_comma, closes}
use Rattle.sig_tokens.specs.Skipping.{left_by, left_behind, behind_comma, expression_end, index_behind}
use Rattle.sig_tokens.proofs.PhraseLemmas.{HasNoComma, bracketed_closed, bracketed_none, bracketed_some, one_more, last_element, goes_on, no_depth, no_nodes, no_tokens, phrase_step}

-- a phrase without elements is a word
pub single_left : (line : List ℕ) (kind : TokenKind) (word : List ℕ) (nodes : ℕ) (ts : List Token) →
    left_by (on_ok (λ x. (x.0, nodes, x.1)) (single expr_spelling Any line kind word ts)) ≡ (if is_word kind then Some (nodes, ts) else None)
single_left line Name word nodes ts = refl
single_left line Variable word nodes ts = refl
single_left line Integer word nodes ts = refl
single_left line Quoted word nodes ts = refl
single_left line Process word nodes ts = refl
single_left line (Sign s) word nodes ts = refl

-- a list of expressions has no tail
no_tail : (close : signs.Sign) (kind : TokenKind) → is_before_tail expr_spelling close kind ≡ false
no_tail CloseBracket kind = refl
no_tail _ kind = refl

closed_left : (b : Bool) (e : Expr) (nodes : ℕ) (ts : List Token) →
    left_by (if b then Ok (e, nodes, ts) else Err Syntax) ≡ (if b then Some (nodes, ts) else None)
closed_left true e nodes ts = refl
closed_left false e nodes ts = refl

pub ending_left : (close : signs.Sign) (read : ℕ → List Token → Read Expr) (items : List Expr) (nodes : ℕ) (ts : List Token) →
    left_by (ending expr_spelling close read items nodes ts) ≡ left_behind close nodes ts
ending_left close read items nodes [] = refl
ending_left close read items nodes (t ∷ ts) =
    rw (no_tail close t.kind) (closed_left (closes close t.kind) (expr_spelling.enclosing close items) nodes ts)

-- what was read, where something is left
pub was_read : (r : Read Expr) (n : ℕ) (ts : List Token) → Some (n, ts) ≡ left_by r → (e : Expr) × (r ≡ Ok (e, n, ts))
was_read (Ok x) n ts h =
    let parts = some_pair_parts n x.1 ts x.2 h in
    (x.0, ap (λ (m : ℕ). Ok (x.0, m, x.2)) (sym parts.0) ∙ ap (λ (us : List Token). Ok (x.0, n, us)) (sym parts.1))
was_read (Err kind) n ts h = absurd (let bad : Some (n, ts) ≡ None = h in cc)

-- where the first step is refused, all of them are
pub refused_first : {B : Type 0} (r : Read Expr) (f : Expr × ℕ × List Token → Read B) → None ≡ left_by r → None ≡ left_by (r >>= f)
refused_first (Ok x) f h = absurd (let bad : None ≡ Some (x.1, x.2) = h in cc)
refused_first (Err kind) f h = refl

without : (b : Bool) (ts : List Token) → None ≡ (if b then Some ts else None) → b ≡ false
without true ts h = absurd cc
without false ts h = refl

pub no_comma : (ts : List Token) → None ≡ behind_comma ts → HasNoComma ts
no_comma [] h = tt
no_comma (t ∷ ts) h = without (is_comma t.kind) ts h

with_comma : (b : Bool) (ts us : List Token) → Some us ≡ (if b then Some ts else None) → (ts ≡ us) × (b ≡ true)
with_comma true ts us h = (grind arith, refl)
with_comma false ts us h = absurd cc

pub comma_front : (ts us : List Token) → Some us ≡ behind_comma ts → (t : Token) × (ts ≡ t ∷ us) × (is_comma t.kind ≡ true)
comma_front [] us h = absurd cc
comma_front (t ∷ ts) us h =
    let both = with_comma (is_comma t.kind) ts us h in
    (t, ap (λ (xs : List Token). t ∷ xs) both.0, both.1)

-- the token at the front, and those behind it
pub front_token : (ts : List Token) (d : Token) → 1 ≤ length ts → ts ≡ get_or ts 0 d ∷ take (length ts - 1) (drop 1 ts)
front_token [] d h = absurd (omega arith)
front_token (t ∷ ts) d h =
    let n : length (t ∷ ts) - 1 ≡ length ts = omega arith in
    ap (λ (us : List Token). t ∷ us) (sym (ap (λ (m : ℕ). take m ts) n ∙ take-length ts))

no_token : (ts : List Token) → length ts < 1 → ts ≡ []
no_token [] h = refl
no_token (t ∷ ts) h = absurd (omega arith)

-- no depth, no node or no token is left
pub none_left : (line : List ℕ) (depth nodes : ℕ) (ts : List Token) → depth ≡ 0 → None ≡ left_by (phrase_at expr_spelling Any line depth nodes ts)
none_left line depth nodes ts h = rw (no_depth expr_spelling Any line depth nodes ts h) refl

pub no_node_left : (line : List ℕ) (depth nodes : ℕ) (ts : List Token) → nodes ≡ 0 → None ≡ left_by (phrase_at expr_spelling Any line depth nodes ts)
no_node_left line depth nodes ts h = rw (no_nodes expr_spelling Any line depth nodes ts h) refl

pub no_token_left : (line : List ℕ) (depth nodes : ℕ) (ts : List Token) → (depth ≡ 0 → ⊥) → (nodes ≡ 0 → ⊥) → length ts < 1 → None ≡ left_by (phrase_at expr_spelling Any line depth nodes ts)
no_token_left line depth nodes ts h k none = rw (no_tokens expr_spelling Any line depth nodes ts h k (no_token ts none)) refl

-- what the token at the front begins
pub brace_left : (line : List ℕ) (depth nodes : ℕ) (ts us : List Token) (t : Token) → (depth ≡ 0 → ⊥) → (nodes ≡ 0 → ⊥) → ts ≡ t ∷ us → true ≡ is_open_brace t.kind →
    left_by (phrase_at expr_spelling Any line depth nodes ts) ≡ left_by (bracketed expr_spelling CloseBrace (phrase_at expr_spelling Any line (depth - 1)) (nodes - 1) us)
brace_left line depth nodes ts us t h k is brace =
    ap (λ (r : Read Expr). left_by r) (phrase_step expr_spelling Any line depth nodes ts us t h k is) ∙ rw (← brace) refl

pub bracket_left : (line : List ℕ) (depth nodes : ℕ) (ts us : List Token) (t : Token) → (depth ≡ 0 → ⊥) → (nodes ≡ 0 → ⊥) → ts ≡ t ∷ us → false ≡ is_open_brace t.kind → true ≡ is_open_bracket t.kind →
    left_by (phrase_at expr_spelling Any line depth nodes ts) ≡ left_by (bracketed expr_spelling CloseBracket (phrase_at expr_spelling Any line (depth - 1)) (nodes - 1) us)
bracket_left line depth nodes ts us t h k is other bracket =
    ap (λ (r : Read Expr). left_by r) (phrase_step expr_spelling Any line depth nodes ts us t h k is) ∙ rw (← other, ← bracket) refl

pub word_left : (line : List ℕ) (depth nodes : ℕ) (ts us : List Token) (t : Token) → (depth ≡ 0 → ⊥) → (nodes ≡ 0 → ⊥) → ts ≡ t ∷ us → false ≡ is_open_brace t.kind → false ≡ is_open_bracket t.kind →
    left_by (phrase_at expr_spelling Any line depth nodes ts) ≡ left_by (on_ok (λ x. (x.0, nodes - 1, x.1)) (single expr_spelling Any line t.kind (text line t) us))
word_left line depth nodes ts us t h k is other neither =
    ap (λ (r : Read Expr). left_by r) (phrase_step expr_spelling Any line depth nodes ts us t h k is) ∙ rw (← other, ← neither) refl

-- behind a bracket
pub empty_left : (close : signs.Sign) (read : ℕ → List Token → Read Expr) (nodes : ℕ) (ts us : List Token) (t : Token) → ts ≡ t ∷ us → true ≡ closes close t.kind →
    Some (nodes, us) ≡ left_by (bracketed expr_spelling close read nodes ts)
empty_left close read nodes ts us t is h =
    rw (bracketed_closed expr_spelling close read nodes ts us t (expr_spelling.enclosing close []) is (sym h) refl) refl

pub some_left : (close : signs.Sign) (read : ℕ → List Token → Read Expr) (nodes : ℕ) (ts us : List Token) (t : Token) → ts ≡ t ∷ us → false ≡ closes close t.kind →
    left_by (bracketed expr_spelling close read nodes ts) ≡ left_by (elements read (ending expr_spelling close read) (length ts) nodes [] ts)
some_left close read nodes ts us t is h = ap (λ (r : Read Expr). left_by r) (bracketed_some expr_spelling close read nodes ts us t is (sym h))

pub nothing_left : (close : signs.Sign) (read : ℕ → List Token → Read Expr) (nodes : ℕ) (ts : List Token) → length ts < 1 → None ≡ left_by (bracketed expr_spelling close read nodes ts)
nothing_left close read nodes ts none = rw (bracketed_none expr_spelling close read nodes ts (no_token ts none)) refl

-- an element that is refused
pub element_refused : (close : signs.Sign) (read : ℕ → List Token → Read Expr) (n i left : ℕ) (items : List Expr) (ts : List Token) (total : Read Expr) →
    i < n → elements read (ending expr_spelling close read) (n - i) left items ts ≡ total → None ≡ left_by (read left ts) → None ≡ left_by total
element_refused close read n i left items ts total lt so_far h =
    refused_first (read left ts) _ h ∙ ap (λ (r : Read Expr). left_by r) (sym (one_more read (ending expr_spelling close read) n i left items ts total lt so_far))

-- behind the last element
pub elements_left : (close : signs.Sign) (read : ℕ → List Token → Read Expr) (n i left : ℕ) (items : List Expr) (ts : List Token) (fewer : ℕ) (after : List Token) (total : Read Expr) →
    i < n → Some (fewer, after) ≡ left_by (read left ts) → None ≡ behind_comma after →
    elements read (ending expr_spelling close read) (n - i) left items ts ≡ total → left_behind close fewer after ≡ left_by total
elements_left close read n i left items ts fewer after total lt some none so_far =
    let here = was_read (read left ts) fewer after some in
    sym (ending_left close read (items ++ here.0 ∷ []) fewer after)
    ∙ ap (λ (r : Read Expr). left_by r) (sym (last_element read (ending expr_spelling close read) n i left items ts here.0 fewer after total lt here.1 refl (no_comma after none) so_far))

-- behind another
pub elements_go_on : (close : signs.Sign) (read : ℕ → List Token → Read Expr) (n i left : ℕ) (items : List Expr) (ts : List Token) (fewer : ℕ) (after rest : List Token) (total : Read Expr) →
    i < n → Some (fewer, after) ≡ left_by (read left ts) → Some rest ≡ behind_comma after → elements read (ending expr_spelling close read) (n - i) left items ts ≡ total →
    (more : List Expr) × (elements read (ending expr_spelling close read) (n - (i + 1)) fewer more rest ≡ total)
elements_go_on close read n i left items ts fewer after rest total lt some comma so_far =
    let here = was_read (read left ts) fewer after some in
    let sign = comma_front after rest comma in
    (items ++ here.0 ∷ [], goes_on read (ending expr_spelling close read) n i left items ts here.0 fewer after rest sign.0 total lt sign.1 sign.2 here.1 so_far)

-- no expression begins behind the tokens
pub past_end : (line : List ℕ) (tokens : List Token) (first : ℕ) → length tokens < first → None ≡ expression_end line tokens first
past_end line tokens first h =
    let none : drop first tokens ≡ [] = drop_all first tokens (omega (arith, h)) in
    let depth : MOST_DEPTH ≡ 0 → ⊥ = λ e. absurd (omega (arith, e)) in
    let nodes : MOST_NODES ≡ 0 → ⊥ = λ e. absurd (omega (arith, e)) in
    sym (ap (λ (r : Read Expr). index_behind (length tokens) (on_ok (λ x. (x.0, x.2)) r)) (no_tokens expr_spelling Any line MOST_DEPTH MOST_NODES (drop first tokens) depth nodes none))
