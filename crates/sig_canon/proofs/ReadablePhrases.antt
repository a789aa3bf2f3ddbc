-- The expressions and patterns that a line's words give are readable.
use Rattle.std.proofs.Common.{◌≡◌, ℕ, ℤ, zero, suc, ◌+◌, ◌<◌, ◌≤◌, List, [], ◌∷◌, ◌++◌, length, drop, map, All, Bool, true, Result, Ok, Err, ◌∙◌, ap, subst, arith}
use Rattle.std.specs.Prelude.{sum}
use Rattle.std.proofs.lemmas.List.{map-append}
use Rattle.std.proofs.lemmas.List.Sums.{sum_by-append}
use Rattle.std.proofs.lemmas.List.Elements.{All-nil, All-push}
use Rattle.sig_terms.specs.Words.{is_atom}
use Rattle.sig_terms.specs.Readable.{is_wide}
use Rattle.sig_patterns.specs.declared.var.Var.{Var}
use Rattle.sig_patterns.specs.declared.building.TheConstants.{MOST_NODES, MOST_DEPTH}
use Rattle.sig_patterns.specs.declared.expression.Expr.{Expr}
use Rattle.sig_patterns.specs.declared.pattern.Pattern.{Pattern}
use Rattle.sig_patterns.specs.declared.pattern.Pattern.TheVariants as pattern
use Rattle.sig_tokens.specs.declared.token.Sign as signs
use Rattle.sig_tokens.specs.declared.token.Sign.TheVariants.{CloseBrace, CloseBracket}
use Rattle.sig_tokens.specs.declared.token.TokenKind.{TokenKind}
use Rattle.sig_tokens.specs.declared.token.TokenKind.TheVariants.{Name, Variable, Integer, Quoted, Process, Sign}
use Rattle.sig_tokens.specs.declared.token.Token.{Token}
use Rattle.sig_tokens.specs.declared.known.Known.TheVariants.{Among}
use Rattle.sig_program.specs.Scripts.{Program}
use Rattle.sig_tokens.specs.Tokens.{text, unquoted, IsNameToken, IsVariableToken}
use Rattle.sig_tokens.specs.Numbers.{int_of}
use Rattle.sig_tokens.specs.Names.{pid_of, name_of, variable_of, name_at, variable_at}
use Rattle.sig_tokens.specs.Signs.{is_open_brace, is_open_bracket, is_comma, is_caret, is_underscore, closes}
use Rattle.sig_tokens.specs.Phrases.{Read, Spelling, behind, elements, closed, is_before_tail, ending, bracketed, single, phrase_by, phrase_front, phrase_at, phrase_of}
use Rattle.sig_tokens.specs.Expressions.{expr_enclosing, expr_spelling, expr_of}
use Rattle.sig_tokens.specs.PatternTexts.{pattern_signed, pattern_enclosing, pattern_spelling, pattern_of}
use Rattle.sig_canon.specs.ReadableScript.{expr_nodes, expr_depth, is_plain_expr, IsReadableExpr, pattern_nodes, pattern_depth, is_plain_pattern, IsReadablePattern}
use Rattle.sig_reader.proofs.BoundTermLemmas.{Holds, holds-if, holds-on_ok, holds-then, pid-below}
use Rattle.sig_canon.proofs.WordLemmas.{AreWords, IsWord}
use Rattle.sig_canon.proofs.ReadableTerms.{sum-cons, IsExprWithin, int_expr, atom_expr, pid_expr, var_expr, tuple_expr, list_expr, IsPatternWithin, any_pattern, bind_pattern, pin_pattern, int_pattern, atom_pattern, pid_pattern, tuple_pattern, list_pattern, nested_pattern}

-- a weaker property
pub holds-weaker : {A E : Type 0} (P Q : A → Type 0) (r : Result A E) → Holds P r → ((x : A) → P x → Q x) → Holds Q r
holds-weaker P Q (Ok x) h k = k x h
holds-weaker P Q (Err e) h k = tt

-- a name at the front, and a variable
name-front : (line : List ℕ) (kind : TokenKind) (word : List ℕ) → IsWord kind word → Holds IsNameToken (name_of kind word)
name-front line Name word h = h.0
name-front line _ word h = tt

pub name-read : (line : List ℕ) (ts : List Token) → AreWords line ts → Holds (λ (x : List ℕ × List Token). IsNameToken x.0 × AreWords line x.1) (name_at line ts)
name-read line [] h = tt
name-read line (t ∷ ts) h =
    holds-on_ok IsNameToken (λ (x : List ℕ × List Token). IsNameToken x.0 × AreWords line x.1) (λ name. (name, ts)) (name_of t.kind (text line t)) (name-front line t.kind (text line t) h.0) (λ x k. (k, h.1))

variable-front : (line : List ℕ) (kind : TokenKind) (word : List ℕ) → IsWord kind word → Holds IsVariableToken (variable_of kind word)
variable-front line Variable word h = h
variable-front line _ word h = tt

pub variable-read : (line : List ℕ) (ts : List Token) → AreWords line ts → Holds (λ (x : List ℕ × List Token). IsVariableToken x.0 × AreWords line x.1) (variable_at line ts)
variable-read line [] h = tt
variable-read line (t ∷ ts) h =
    holds-on_ok IsVariableToken (λ (x : List ℕ × List Token). IsVariableToken x.0 × AreWords line x.1) (λ name. (name, ts)) (variable_of t.kind (text line t)) (variable-front line t.kind (text line t) h.0) (λ x k. (k, h.1))

-- Numbers of a phrase of one kind: how many nodes it has, and how deep they lie.
record Sizes (A : Type 0) : Type 0 where
  nodes : A → ℕ
  depth : A → ℕ

-- such a phrase, of so many nodes and of such a depth at the most
record IsSized {A : Type 0} (P : A → Type 0) (z : Sizes A) (most deepest : ℕ) (x : A) : Type 0 where
  plain : P x
  few : z.nodes x ≤ most
  low : z.depth x ≤ deepest

-- what holds of the phrases of one kind where it holds of their parts
record Grows {A : Type 0} (count : ℕ) (P : A → Type 0) (z : Sizes A) (s : Spelling A) : Type 0 where
  int : (n : ℤ) → is_wide n ≡ true → IsSized P z 1 1 (s.int n)
  atom : (a : List ℕ) → is_atom a ≡ true → IsSized P z 1 1 (s.atom a)
  var : (v : Var) → IsVariableToken v.0 → IsSized P z 1 1 (s.var v)
  pid : (n : ℕ) → n < count → IsSized P z 1 1 (s.pid (record { 0 = n }))
  signed : (line : List ℕ) (kind : TokenKind) (ts : List Token) → AreWords line ts → Holds (λ (x : A × List Token). IsSized P z 1 1 x.0 × AreWords line x.1) (s.signed line kind ts)
  enclosing : (most deepest : ℕ) (close : signs.Sign) (items : List A) → All P items → sum (map z.nodes items) ≤ most → All (λ x. z.depth x ≤ deepest) items →
      IsSized P z (1 + most) (1 + deepest) (s.enclosing close items)
  nested : (most deepest : ℕ) (items : List A) (tail : A) → All P items → P tail → sum (map z.nodes items) + z.nodes tail ≤ most → All (λ x. z.depth x ≤ deepest) items → z.depth tail ≤ deepest →
      IsSized P z (1 + most) (1 + deepest) (s.nested items tail)

sum-append : {A : Type 0} (f : A → ℕ) (xs : List A) (x : A) → sum (map f (xs ++ x ∷ [])) ≡ sum (map f xs) + f x
sum-append f xs x =
    ap sum (map-append f xs (x ∷ [])) ∙ sum_by-append (λ (n : ℕ). n) (map f xs) (f x ∷ []) ∙ ap (λ (n : ℕ). sum (map f xs) + n) (alone (f x))
  where
    alone : (n : ℕ) → sum (n ∷ []) ≡ n
    alone n = omega (arith, sum-cons n [])

-- what was read of these nodes, and what is left
abbrev IsRead : {A : Type 0} → (A → Type 0) → Sizes A → List ℕ → ℕ → ℕ → A × ℕ × List Token → Type 0
IsRead P z line most deepest x = P x.0 × (z.nodes x.0 + x.1 ≤ most) × (z.depth x.0 ≤ deepest) × AreWords line x.2

module _ {A : Type 0} (P : A → Type 0) (z : Sizes A) (s : Spelling A) (script : Program) (line : List ℕ) (grows : Grows (length script.procs) P z s) where
  single-read : (kind : TokenKind) (word : List ℕ) (ts : List Token) → IsWord kind word → AreWords line ts →
      Holds (λ (x : A × List Token). IsSized P z 1 1 x.0 × AreWords line x.1) (single s (Among script) line kind word ts)
  single-read Name word ts h k = (grows.atom word h.1, k)
  single-read Quoted word ts h k = (grows.atom (unquoted word) h, k)
  single-read Integer word ts h k = (grows.int (int_of word) h, k)
  single-read Variable word ts h k = (grows.var (record { 0 = word }) h, k)
  single-read Process word ts h k =
      holds-on_ok (λ n. n < length script.procs) (λ (x : A × List Token). IsSized P z 1 1 x.0 × AreWords line x.1) (λ n. (s.pid (record { 0 = n }), ts)) (pid_of (Among script) (drop 1 word)) (pid-below script (drop 1 word))
      (λ n e. (grows.pid n e, k))
  single-read (Sign g) word ts h k = grows.signed line (Sign g) ts k

  -- what the phrase is closed by
  closed-read : (most deepest : ℕ) (ends : TokenKind → Bool) (item : A) (left start : ℕ) (ts : List Token) → IsSized P z most deepest item → most + left ≤ start → AreWords line ts →
      Holds (IsRead P z line start deepest) (closed ends item left ts)
  closed-read most deepest ends item left start [] h e k = tt
  closed-read most deepest ends item left start (t ∷ ts) h e k =
      holds-if (IsRead P z line start deepest) (ends t.kind) _ _ (λ _. (h.plain, omega (arith, h.few, e), h.low, k.1)) (λ _. tt)

  module _ (deepest : ℕ) (read : ℕ → List Token → Read A) (reads : (nodes : ℕ) (ts : List Token) → AreWords line ts → Holds (IsRead P z line nodes deepest) (read nodes ts)) where
    -- elements so far, of which and the nodes left there are so many
    record AreItems (start : ℕ) (items : List A) (left : ℕ) (ts : List Token) : Type 0 where
      plain : All P items
      few : sum (map z.nodes items) + left ≤ start
      low : All (λ x. z.depth x ≤ deepest) items
      words : AreWords line ts

    ending-read : (start : ℕ) (close : signs.Sign) (items : List A) (left : ℕ) (ts : List Token) → AreItems start items left ts → Holds (IsRead P z line (1 + start) (1 + deepest)) (ending s close read items left ts)
    ending-read start close items left [] h = tt
    ending-read start close items left (t ∷ ts) h =
        let Done : A × ℕ × List Token → Type 0 = IsRead P z line (1 + start) (1 + deepest) in
        let total : ℕ = sum (map z.nodes items) in
        holds-if Done (is_before_tail s close t.kind) _ _
        (λ _. holds-then (IsRead P z line left deepest) Done (λ x. closed (closes close) (s.nested items x.0) x.1 x.2) (read left ts) (reads left ts h.words.1)
        (λ x k. closed-read (1 + (total + z.nodes x.0)) (1 + deepest) (closes close) (s.nested items x.0) x.1 (1 + start) x.2
        (grows.nested (total + z.nodes x.0) deepest items x.0 h.plain k.0 (omega arith) h.low k.2) (omega (arith, h.few, k.1)) k.3))
        (λ _. closed-read (1 + total) (1 + deepest) (closes close) (s.enclosing close items) left (1 + start) (t ∷ ts)
        (grows.enclosing total deepest close items h.plain (omega arith) h.low) (omega (arith, h.few)) h.words)

    behind-read : (start : ℕ) (close : signs.Sign) (more : ℕ → List A → List Token → Read A)
        → ((left : ℕ) (items : List A) (ts : List Token) → AreItems start items left ts → Holds (IsRead P z line (1 + start) (1 + deepest)) (more left items ts))
        → (left : ℕ) (items : List A) (ts : List Token) → AreItems start items left ts → Holds (IsRead P z line (1 + start) (1 + deepest)) (behind more (ending s close read) left items ts)
    behind-read start close more mores left items [] h = tt
    behind-read start close more mores left items (t ∷ ts) h =
        holds-if (IsRead P z line (1 + start) (1 + deepest)) (is_comma t.kind) _ _
        (λ _. mores left items ts (record { plain = h.plain; few = h.few; low = h.low; words = h.words.1 })) (λ _. ending-read start close items left (t ∷ ts) h)

    elements-read : (start : ℕ) (close : signs.Sign) (room left : ℕ) (items : List A) (ts : List Token) → AreItems start items left ts →
        Holds (IsRead P z line (1 + start) (1 + deepest)) (elements read (ending s close read) room left items ts)
    unfolding elements
    elements-read start close zero left items ts h = tt
    elements-read start close (suc room) left items ts h =
        holds-then (IsRead P z line left deepest) (IsRead P z line (1 + start) (1 + deepest))
        (λ x. behind (elements read (ending s close read) room) (ending s close read) x.1 (items ++ x.0 ∷ []) x.2) (read left ts) (reads left ts h.words)
        (λ x k. behind-read start close (elements read (ending s close read) room) (λ l is us g. elements-read start close room l is us g) x.1 (items ++ x.0 ∷ []) x.2
        (record {
          plain = All-push P items x.0 h.plain k.0;
          few = omega (arith, h.few, k.1, sum-append z.nodes items x.0);
          low = All-push (λ y. z.depth y ≤ deepest) items x.0 h.low k.2;
          words = k.3;
        }))

    bracketed-read : (close : signs.Sign) (nodes : ℕ) (ts : List Token) → AreWords line ts → Holds (IsRead P z line (1 + nodes) (1 + deepest)) (bracketed s close read nodes ts)
    unfolding bracketed
    bracketed-read close nodes [] h = tt
    bracketed-read close nodes (t ∷ ts) h =
        let none : IsSized P z (1 + 0) (1 + deepest) (s.enclosing close []) = grows.enclosing 0 deepest close [] (All-nil P) (omega arith) (All-nil (λ x. z.depth x ≤ deepest)) in
        holds-if (IsRead P z line (1 + nodes) (1 + deepest)) (closes close t.kind) _ _
        (λ _. (none.plain, omega (arith, none.few), none.low, h.1))
        (λ _. elements-read nodes close (length (t ∷ ts)) nodes [] (t ∷ ts)
        (record { plain = All-nil P; few = omega arith; low = All-nil (λ x. z.depth x ≤ deepest); words = h }))

    phrase_by-read : (kind : TokenKind) (word : List ℕ) (nodes : ℕ) (ts : List Token) → IsWord kind word → AreWords line ts →
        Holds (IsRead P z line (1 + nodes) (1 + deepest)) (phrase_by s (Among script) line read kind word nodes ts)
    phrase_by-read kind word nodes ts w h =
        let Done : A × ℕ × List Token → Type 0 = IsRead P z line (1 + nodes) (1 + deepest) in
        holds-if Done (is_open_brace kind) _ _ (λ _. bracketed-read CloseBrace nodes ts h)
        (λ _. holds-if Done (is_open_bracket kind) _ _ (λ _. bracketed-read CloseBracket nodes ts h)
        (λ _. holds-on_ok (λ (x : A × List Token). IsSized P z 1 1 x.0 × AreWords line x.1) Done (λ x. (x.0, nodes, x.1)) (single s (Among script) line kind word ts) (single-read kind word ts w h)
        (λ x k. (k.0.plain, omega (arith, k.0.few), omega (arith, k.0.low), k.1))))

    one-more : (n : ℕ) → 1 + n ≡ suc n
    one-more n = omega arith

    phrase_front-read : (nodes : ℕ) (ts : List Token) → AreWords line ts → Holds (IsRead P z line nodes (suc deepest)) (phrase_front s (Among script) line read nodes ts)
    unfolding phrase_front
    phrase_front-read zero ts h = tt
    phrase_front-read (suc nodes) [] h = tt
    phrase_front-read (suc nodes) (t ∷ ts) h =
        subst (λ (n : ℕ). Holds (IsRead P z line n (suc deepest)) (phrase_by s (Among script) line read t.kind (text line t) nodes ts)) (one-more nodes)
        (subst (λ (n : ℕ). Holds (IsRead P z line (1 + nodes) n) (phrase_by s (Among script) line read t.kind (text line t) nodes ts)) (one-more deepest)
        (phrase_by-read t.kind (text line t) nodes ts h.0 h.1))

  phrase_at-read : (deepest nodes : ℕ) (ts : List Token) → AreWords line ts → Holds (IsRead P z line nodes deepest) (phrase_at s (Among script) line deepest nodes ts)
  unfolding phrase_at
  phrase_at-read zero nodes ts h = tt
  phrase_at-read (suc deepest) nodes ts h = phrase_front-read deepest (phrase_at s (Among script) line deepest) (λ n us k. phrase_at-read deepest n us k) nodes ts h

  phrase_of-read : (ts : List Token) → AreWords line ts → Holds (λ (x : A × List Token). IsSized P z MOST_NODES MOST_DEPTH x.0 × AreWords line x.1) (phrase_of s (Among script) line ts)
  phrase_of-read ts h =
      holds-on_ok (IsRead P z line MOST_NODES MOST_DEPTH) (λ (x : A × List Token). IsSized P z MOST_NODES MOST_DEPTH x.0 × AreWords line x.1)
      (λ x. (x.0, x.2)) (phrase_at s (Among script) line MOST_DEPTH MOST_NODES ts) (phrase_at-read MOST_DEPTH MOST_NODES ts h)
      (λ x k. (record { plain = k.0; few = omega (arith, k.1); low = k.2 }, k.3))

-- ---- expressions

abbrev expr_sizes : Sizes Expr
expr_sizes = record { nodes = expr_nodes; depth = expr_depth }

abbrev IsPlainExpr : ℕ → Expr → Type 0
IsPlainExpr count e = is_plain_expr count e ≡ true

expr-within : (count most deepest : ℕ) (e : Expr) → IsExprWithin count most deepest e → IsSized (IsPlainExpr count) expr_sizes most deepest e
expr-within count most deepest e h = record { plain = h.plain; few = h.few; low = h.low }

expr_enclosing-within : (count most deepest : ℕ) (close : signs.Sign) (items : List Expr) → All (IsPlainExpr count) items → sum (map expr_nodes items) ≤ most → All (λ e. expr_depth e ≤ deepest) items →
    IsSized (IsPlainExpr count) expr_sizes (1 + most) (1 + deepest) (expr_enclosing close items)
expr_enclosing-within count most deepest CloseBrace items h k l = expr-within count (1 + most) (1 + deepest) _ (tuple_expr count most deepest items h k l)
expr_enclosing-within count most deepest _ items h k l = expr-within count (1 + most) (1 + deepest) _ (list_expr count most deepest items h k l)

exprs-grow : (count : ℕ) → Grows count (IsPlainExpr count) expr_sizes expr_spelling
exprs-grow count = record {
  int = λ n h. expr-within count 1 1 _ (int_expr count n h);
  atom = λ a h. expr-within count 1 1 _ (atom_expr count a h);
  var = λ v h. expr-within count 1 1 _ (var_expr count v h);
  pid = λ n h. expr-within count 1 1 _ (pid_expr count n h);
  signed = λ line kind ts h. tt;
  enclosing = expr_enclosing-within count;
  nested = λ most deepest items tail h k l m o.
      expr-within count (1 + most) (1 + deepest) _ (list_expr count most deepest items h (omega (arith, l)) m);
}

-- an expression that was read, and the words behind it
pub expr-read : (script : Program) (line : List ℕ) (ts : List Token) → AreWords line ts →
    Holds (λ (x : Expr × List Token). IsReadableExpr (length script.procs) x.0 × AreWords line x.1) (expr_of (Among script) line ts)
expr-read script line ts h =
    let count : ℕ = length script.procs in
    holds-weaker (λ (x : Expr × List Token). IsSized (IsPlainExpr count) expr_sizes MOST_NODES MOST_DEPTH x.0 × AreWords line x.1) (λ (x : Expr × List Token). IsReadableExpr count x.0 × AreWords line x.1)
    (expr_of (Among script) line ts) (phrase_of-read (IsPlainExpr count) expr_sizes expr_spelling script line (exprs-grow count) ts h)
    (λ x k. (record { plain = k.0.plain; nodes = k.0.few; depth = k.0.low }, k.1))

-- ---- patterns

abbrev pattern_sizes : Sizes Pattern
pattern_sizes = record { nodes = pattern_nodes; depth = pattern_depth }

abbrev IsPlainPattern : ℕ → Pattern → Type 0
IsPlainPattern count p = is_plain_pattern count p ≡ true

pattern-within : (count most deepest : ℕ) (p : Pattern) → IsPatternWithin count most deepest p → IsSized (IsPlainPattern count) pattern_sizes most deepest p
pattern-within count most deepest p h = record { plain = h.plain; few = h.few; low = h.low }

pattern_enclosing-within : (count most deepest : ℕ) (close : signs.Sign) (items : List Pattern) → All (IsPlainPattern count) items → sum (map pattern_nodes items) ≤ most → All (λ p. pattern_depth p ≤ deepest) items →
    IsSized (IsPlainPattern count) pattern_sizes (1 + most) (1 + deepest) (pattern_enclosing close items)
pattern_enclosing-within count most deepest CloseBrace items h k l = pattern-within count (1 + most) (1 + deepest) _ (tuple_pattern count most deepest items h k l)
pattern_enclosing-within count most deepest _ items h k l = pattern-within count (1 + most) (1 + deepest) _ (list_pattern count most deepest items h k l)

pattern_signed-within : (count : ℕ) (line : List ℕ) (kind : TokenKind) (ts : List Token) → AreWords line ts →
    Holds (λ (x : Pattern × List Token). IsSized (IsPlainPattern count) pattern_sizes 1 1 x.0 × AreWords line x.1) (pattern_signed line kind ts)
pattern_signed-within count line kind ts h =
    let Done : Pattern × List Token → Type 0 = λ x. IsSized (IsPlainPattern count) pattern_sizes 1 1 x.0 × AreWords line x.1 in
    holds-if Done (is_caret kind) _ _
    (λ _. holds-on_ok (λ (x : List ℕ × List Token). IsVariableToken x.0 × AreWords line x.1) Done (λ x. (pattern.Pin (record { 0 = x.0 }), x.1)) (variable_at line ts) (variable-read line ts h)
    (λ x k. (pattern-within count 1 1 _ (pin_pattern count (record { 0 = x.0 }) k.0), k.1)))
    (λ _. holds-if Done (is_underscore kind) _ _ (λ _. (pattern-within count 1 1 _ (any_pattern count), h)) (λ _. tt))

patterns-grow : (count : ℕ) → Grows count (IsPlainPattern count) pattern_sizes pattern_spelling
patterns-grow count = record {
  int = λ n h. pattern-within count 1 1 _ (int_pattern count n h);
  atom = λ a h. pattern-within count 1 1 _ (atom_pattern count a h);
  var = λ v h. pattern-within count 1 1 _ (bind_pattern count v h);
  pid = λ n h. pattern-within count 1 1 _ (pid_pattern count n h);
  signed = pattern_signed-within count;
  enclosing = pattern_enclosing-within count;
  nested = λ most deepest items tail h k l m o.
      pattern-within count (1 + most) (1 + deepest) _ (nested_pattern count most deepest items tail h k l m o);
}

-- a pattern that was read, and the words behind it
pub pattern-read : (script : Program) (line : List ℕ) (ts : List Token) → AreWords line ts →
    Holds (λ (x : Pattern × List Token). IsReadablePattern (length script.procs) x.0 × AreWords line x.1) (pattern_of (Among script) line ts)
pattern-read script line ts h =
    let count : ℕ = length script.procs in
    holds-weaker (λ (x : Pattern × List Token). IsSized (IsPlainPattern count) pattern_sizes MOST_NODES MOST_DEPTH x.0 × AreWords line x.1) (λ (x : Pattern × List Token). IsReadablePattern count x.0 × AreWords line x.1)
    (pattern_of (Among script) line ts) (phrase_of-read (IsPlainPattern count) pattern_sizes pattern_spelling script line (patterns-grow count) ts h)
    (λ x k. (record { plain = k.0.plain; nodes = k.0.few; depth = k.0.low }, k.1))
