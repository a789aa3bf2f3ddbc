-- What is read of tokens where the pids are known, and where the same names have other pids.
use Rattle.std.proofs.Common.{◌≡◌, ℕ, ℤ, zero, suc, List, [], ◌∷◌, ◌++◌, length, drop, map, Bool, true, false, if◌then◌else◌, Result, Ok, Err, refl, sym, ◌∙◌, ap, subst}
use Rattle.std.proofs.lemmas.List.{map-append}
use Rattle.sig_patterns.specs.declared.var.Var.{Var}
use Rattle.sig_patterns.specs.declared.expression.Expr.{Expr}
use Rattle.sig_patterns.specs.declared.expression.Expr.TheVariants as expr
use Rattle.sig_patterns.specs.declared.expression.Expr.TheOpen as expression
use Rattle.sig_patterns.specs.declared.expression.Expr.TheFolds.{fold-roll-Expr}
use Rattle.sig_patterns.specs.declared.pattern.Pattern.{Pattern}
use Rattle.sig_patterns.specs.declared.pattern.Pattern.TheVariants as pattern
use Rattle.sig_patterns.specs.declared.pattern.Pattern.TheOpen as layer
use Rattle.sig_patterns.specs.declared.pattern.Pattern.TheFolds.{fold-roll-Pattern}
use Rattle.sig_patterns.specs.declared.building.TheConstants.{MOST_NODES, MOST_DEPTH}
use Rattle.sig_tokens.specs.declared.known.Known.{Known}
use Rattle.sig_tokens.specs.declared.token.Sign as signs
use Rattle.sig_tokens.specs.declared.token.Sign.TheVariants.{CloseBrace, CloseBracket}
use Rattle.sig_tokens.specs.declared.token.TokenKind.{TokenKind}
use Rattle.sig_tokens.specs.declared.token.TokenKind.TheVariants.{Name, Variable, Integer, Quoted, Process, Sign}
use Rattle.sig_tokens.specs.declared.token.Token.{Token}
use Rattle.sig_tokens.specs.Faults.{◌>>=◌, on_ok}
use Rattle.sig_tokens.specs.Tokens.{text, unquoted}
use Rattle.sig_tokens.specs.Numbers.{int_of}
use Rattle.sig_tokens.specs.Names.{pid_of, variable_at}
use Rattle.sig_tokens.specs.Signs.{is_open_brace, is_open_bracket, is_comma, is_caret, is_underscore, closes}
use Rattle.sig_tokens.specs.Phrases.{Read, Spelling, behind, elements, closed, is_before_tail, ending, bracketed, single, phrase_by, phrase_front, phrase_at, phrase_of}
use Rattle.sig_tokens.specs.Expressions.{expr_enclosing, expr_spelling, expr_of}
use Rattle.sig_tokens.specs.PatternTexts.{nested, pattern_signed, pattern_enclosing, pattern_spelling, pattern_of}
use Rattle.sig_reader.proofs.Seen.{expr_seen, expr_seen_step, pattern_seen, pattern_seen_step}

-- Where the first is no refusal, the other is none either, and has the same seen by m.
abbrev pub Sees : {A B E : Type 0} → (A → B) → Result A E → Result B E → Type 0
Sees m (Ok x) other = other ≡ Ok (m x)
Sees m (Err e) other = Unit {0}

pub sees-of : {A B E : Type 0} (m : A → B) (r : Result A E) (q : Result B E) (x : A) → Sees m r q → r ≡ Ok x → q ≡ Ok (m x)
sees-of m (Ok y) q x h e = let same : y ≡ x = cc in subst (λ z. q ≡ Ok (m z)) same h
sees-of m (Err f) q x h e = cc

-- what tells nothing of names
pub sees-same : {A E : Type 0} (m : A → A) (r : Result A E) → ((x : A) → m x ≡ x) → Sees m r r
sees-same m (Ok x) same = ap (λ y. Ok y) (sym (same x))
sees-same m (Err e) same = tt

pub sees-if : {A B E : Type 0} (m : A → B) (v : Bool) (x y : Result A E) (p q : Result B E) → Sees m x p → Sees m y q → Sees m (if v then x else y) (if v then p else q)
sees-if m true x y p q h k = h
sees-if m false x y p q h k = k

pub sees-on_ok : {A B C D E : Type 0} (m : A → B) (k : C → D) (f : A → C) (g : B → D) (r : Result A E) (q : Result B E) →
    Sees m r q → ((x : A) → g (m x) ≡ k (f x)) → Sees k (on_ok f r) (on_ok g q)
sees-on_ok m k f g (Ok x) q h e = ap (on_ok g) h ∙ ap (λ y. Ok y) (e x)
sees-on_ok m k f g (Err e) q h _ = tt

pub sees-then : {A B C D E : Type 0} (m : A → B) (k : C → D) (f : A → Result C E) (g : B → Result D E) (r : Result A E) (q : Result B E) →
    Sees m r q → ((x : A) → Sees k (f x) (g (m x))) → Sees k (r >>= f) (q >>= g)
sees-then m k f g (Ok x) q h e = subst (λ z. Sees k (f x) (z >>= g)) (sym h) (e x)
sees-then m k f g (Err e) q h _ = tt

-- what was read, seen by m
abbrev pub read_seen : {A B : Type 0} → (A → B) → A × ℕ × List Token → B × ℕ × List Token
read_seen m x = (m x.0, x.1, x.2)

-- the same with nothing but the tokens behind it
abbrev pub first_seen : {A B : Type 0} → (A → B) → A × List Token → B × List Token
first_seen m x = (m x.0, x.1)

closed-sees : {A : Type 0} (m : A → A) (ends : TokenKind → Bool) (item other : A) (nodes : ℕ) (ts : List Token) → other ≡ m item →
    Sees (read_seen m) (closed ends item nodes ts) (closed ends other nodes ts)
closed-sees m ends item other nodes [] e = tt
closed-sees m ends item other nodes (t ∷ ts) e = sees-if (read_seen m) (ends t.kind) _ _ _ _ (ap (λ x. Ok (x, nodes, ts)) e) tt

-- from here on each element that is read is seen by m, and what the elements become by k
module _ {A B : Type 0} (m : A → A) (k : B → B) (read other : ℕ → List Token → Read A) (finish closing : List A → ℕ → List Token → Read B)
    (reads : (nodes : ℕ) (ts : List Token) → Sees (read_seen m) (read nodes ts) (other nodes ts))
    (finishes : (items : List A) (nodes : ℕ) (ts : List Token) → Sees (read_seen k) (finish items nodes ts) (closing (map m items) nodes ts)) where
  behind-sees : (more again : ℕ → List A → List Token → Read B) → ((nodes : ℕ) (items : List A) (ts : List Token) → Sees (read_seen k) (more nodes items ts) (again nodes (map m items) ts)) →
      (nodes : ℕ) (items : List A) (ts : List Token) → Sees (read_seen k) (behind more finish nodes items ts) (behind again closing nodes (map m items) ts)
  behind-sees more again mores nodes items [] = tt
  behind-sees more again mores nodes items (t ∷ ts) = sees-if (read_seen k) (is_comma t.kind) _ _ _ _ (mores nodes items ts) (finishes items nodes (t ∷ ts))

  elements-see : (room nodes : ℕ) (items : List A) (ts : List Token) → Sees (read_seen k) (elements read finish room nodes items ts) (elements other closing room nodes (map m items) ts)
  unfolding elements
  elements-see zero nodes items ts = tt
  elements-see (suc room) nodes items ts =
      sees-then (read_seen m) (read_seen k) (λ x. behind (elements read finish room) finish x.1 (items ++ x.0 ∷ []) x.2) (λ x. behind (elements other closing room) closing x.1 (map m items ++ x.0 ∷ []) x.2)
      (read nodes ts) (other nodes ts) (reads nodes ts)
      (λ x. subst (λ (xs : List A). Sees (read_seen k) (behind (elements read finish room) finish x.1 (items ++ x.0 ∷ []) x.2) (behind (elements other closing room) closing x.1 xs x.2))
      (map-append m items (x.0 ∷ [])) (behind-sees (elements read finish room) (elements other closing room) (elements-see room) x.1 (items ++ x.0 ∷ []) x.2))

-- How phrases of one kind are seen, where a pid is seen by f: by their parts.
record IsSeenBy {A : Type 0} (f : ℕ → ℕ) (m : A → A) (s : Spelling A) : Type 0 where
  int : (n : ℤ) → m (s.int n) ≡ s.int n
  atom : (a : List ℕ) → m (s.atom a) ≡ s.atom a
  var : (v : Var) → m (s.var v) ≡ s.var v
  pid : (n : ℕ) → m (s.pid (record { 0 = n })) ≡ s.pid (record { 0 = f n })
  signed : (line : List ℕ) (kind : TokenKind) (ts : List Token) → Sees (first_seen m) (s.signed line kind ts) (s.signed line kind ts)
  enclosing : (close : signs.Sign) (items : List A) → m (s.enclosing close items) ≡ s.enclosing close (map m items)
  nested : (items : List A) (tail : A) → m (s.nested items tail) ≡ s.nested (map m items) (m tail)

-- from here on the other reader gives pids that are seen by f
module _ {A : Type 0} (f : ℕ → ℕ) (m : A → A) (s : Spelling A) (known other : Known) (line : List ℕ) (seen : IsSeenBy f m s)
    (pids : (name : List ℕ) → Sees f (pid_of known name) (pid_of other name)) where
  single-sees : (kind : TokenKind) (word : List ℕ) (ts : List Token) → Sees (first_seen m) (single s known line kind word ts) (single s other line kind word ts)
  single-sees Name word ts = ap (λ x. Ok (x, ts)) (sym (seen.atom word))
  single-sees Quoted word ts = ap (λ x. Ok (x, ts)) (sym (seen.atom (unquoted word)))
  single-sees Integer word ts = ap (λ x. Ok (x, ts)) (sym (seen.int (int_of word)))
  single-sees Variable word ts = ap (λ x. Ok (x, ts)) (sym (seen.var (record { 0 = word })))
  single-sees Process word ts =
      sees-on_ok f (first_seen m) (λ n. (s.pid (record { 0 = n }), ts)) (λ n. (s.pid (record { 0 = n }), ts)) (pid_of known (drop 1 word)) (pid_of other (drop 1 word)) (pids (drop 1 word))
      (λ n. ap (λ x. (x, ts)) (sym (seen.pid n)))
  single-sees (Sign g) word ts = seen.signed line (Sign g) ts

  module _ (read again : ℕ → List Token → Read A) (reads : (nodes : ℕ) (ts : List Token) → Sees (read_seen m) (read nodes ts) (again nodes ts)) where
    ending-sees : (close : signs.Sign) (items : List A) (nodes : ℕ) (ts : List Token) → Sees (read_seen m) (ending s close read items nodes ts) (ending s close again (map m items) nodes ts)
    ending-sees close items nodes [] = tt
    ending-sees close items nodes (t ∷ ts) =
        sees-if (read_seen m) (is_before_tail s close t.kind) _ _ _ _
        (sees-then (read_seen m) (read_seen m) (λ x. closed (closes close) (s.nested items x.0) x.1 x.2) (λ x. closed (closes close) (s.nested (map m items) x.0) x.1 x.2) (read nodes ts) (again nodes ts) (reads nodes ts)
        (λ x. closed-sees m (closes close) (s.nested items x.0) (s.nested (map m items) (m x.0)) x.1 x.2 (sym (seen.nested items x.0))))
        (closed-sees m (closes close) (s.enclosing close items) (s.enclosing close (map m items)) nodes (t ∷ ts) (sym (seen.enclosing close items)))

    bracketed-sees : (close : signs.Sign) (nodes : ℕ) (ts : List Token) → Sees (read_seen m) (bracketed s close read nodes ts) (bracketed s close again nodes ts)
    unfolding bracketed
    bracketed-sees close nodes [] = tt
    bracketed-sees close nodes (t ∷ ts) =
        sees-if (read_seen m) (closes close t.kind) _ _ _ _ (ap (λ x. Ok (x, nodes, ts)) (sym (seen.enclosing close [])))
        (elements-see m m read again (ending s close read) (ending s close again) reads (ending-sees close) (length (t ∷ ts)) nodes [] (t ∷ ts))

    phrase_by-sees : (kind : TokenKind) (word : List ℕ) (nodes : ℕ) (ts : List Token) → Sees (read_seen m) (phrase_by s known line read kind word nodes ts) (phrase_by s other line again kind word nodes ts)
    phrase_by-sees kind word nodes ts =
        sees-if (read_seen m) (is_open_brace kind) _ _ _ _ (bracketed-sees CloseBrace nodes ts)
        (sees-if (read_seen m) (is_open_bracket kind) _ _ _ _ (bracketed-sees CloseBracket nodes ts)
        (sees-on_ok (first_seen m) (read_seen m) (λ x. (x.0, nodes, x.1)) (λ x. (x.0, nodes, x.1)) (single s known line kind word ts) (single s other line kind word ts) (single-sees kind word ts) (λ x. refl)))

    phrase_front-sees : (nodes : ℕ) (ts : List Token) → Sees (read_seen m) (phrase_front s known line read nodes ts) (phrase_front s other line again nodes ts)
    unfolding phrase_front
    phrase_front-sees zero ts = tt
    phrase_front-sees (suc nodes) [] = tt
    phrase_front-sees (suc nodes) (t ∷ ts) = phrase_by-sees t.kind (text line t) nodes ts

  phrase_at-sees : (depth nodes : ℕ) (ts : List Token) → Sees (read_seen m) (phrase_at s known line depth nodes ts) (phrase_at s other line depth nodes ts)
  unfolding phrase_at
  phrase_at-sees zero nodes ts = tt
  phrase_at-sees (suc depth) nodes ts = phrase_front-sees (phrase_at s known line depth) (phrase_at s other line depth) (phrase_at-sees depth) nodes ts

  phrase_of-sees : (ts : List Token) → Sees (first_seen m) (phrase_of s known line ts) (phrase_of s other line ts)
  phrase_of-sees ts =
      sees-on_ok (read_seen m) (first_seen m) (λ x. (x.0, x.2)) (λ x. (x.0, x.2)) (phrase_at s known line MOST_DEPTH MOST_NODES ts) (phrase_at s other line MOST_DEPTH MOST_NODES ts)
      (phrase_at-sees MOST_DEPTH MOST_NODES ts) (λ x. refl)

-- expressions
expr_enclosing-seen : (f : ℕ → ℕ) (close : signs.Sign) (items : List Expr) → expr_seen f (expr_enclosing close items) ≡ expr_enclosing close (map (expr_seen f) items)
expr_enclosing-seen f CloseBrace items = ap (expr_seen f) (sym (expr.rolls-Tuple items)) ∙ fold-roll-Expr Expr (expr_seen_step f) (expression.Tuple items)
expr_enclosing-seen f _ items = ap (expr_seen f) (sym (expr.rolls-List items)) ∙ fold-roll-Expr Expr (expr_seen_step f) (expression.List items)

exprs-seen : (f : ℕ → ℕ) → IsSeenBy f (expr_seen f) expr_spelling
exprs-seen f = record {
  int = λ n. ap (expr_seen f) (sym (expr.rolls-Int n)) ∙ fold-roll-Expr Expr (expr_seen_step f) (expression.Int n);
  atom = λ a. ap (expr_seen f) (sym (expr.rolls-Atom a)) ∙ fold-roll-Expr Expr (expr_seen_step f) (expression.Atom a);
  var = λ v. ap (expr_seen f) (sym (expr.rolls-Var v)) ∙ fold-roll-Expr Expr (expr_seen_step f) (expression.Var v);
  pid = λ n. ap (expr_seen f) (sym (expr.rolls-Pid (record { 0 = n }))) ∙ fold-roll-Expr Expr (expr_seen_step f) (expression.Pid (record { 0 = n }));
  signed = λ line kind ts. tt;
  enclosing = expr_enclosing-seen f;
  nested = λ items tail. ap (expr_seen f) (sym (expr.rolls-List items)) ∙ fold-roll-Expr Expr (expr_seen_step f) (expression.List items);
}

pub expr_of-sees : (f : ℕ → ℕ) (known other : Known) (line : List ℕ) → ((name : List ℕ) → Sees f (pid_of known name) (pid_of other name)) → (ts : List Token) →
    Sees (first_seen (expr_seen f)) (expr_of known line ts) (expr_of other line ts)
expr_of-sees f known other line pids ts = phrase_of-sees f (expr_seen f) expr_spelling known other line (exprs-seen f) pids ts

-- patterns
pattern_enclosing-seen : (f : ℕ → ℕ) (close : signs.Sign) (items : List Pattern) → pattern_seen f (pattern_enclosing close items) ≡ pattern_enclosing close (map (pattern_seen f) items)
pattern_enclosing-seen f CloseBrace items = ap (pattern_seen f) (sym (pattern.rolls-Tuple items)) ∙ fold-roll-Pattern Pattern (pattern_seen_step f) (layer.Tuple items)
pattern_enclosing-seen f _ items = ap (pattern_seen f) (sym (pattern.rolls-List items)) ∙ fold-roll-Pattern Pattern (pattern_seen_step f) (layer.List items)

nested-seen : (f : ℕ → ℕ) (items : List Pattern) (tail : Pattern) → pattern_seen f (nested items tail) ≡ nested (map (pattern_seen f) items) (pattern_seen f tail)
nested-seen f [] tail = refl
nested-seen f (p ∷ ps) tail =
    ap (pattern_seen f) (sym (pattern.rolls-Cons p (nested ps tail))) ∙ fold-roll-Pattern Pattern (pattern_seen_step f) (layer.Cons p (nested ps tail))
    ∙ ap (pattern.Cons (pattern_seen f p)) (nested-seen f ps tail)

pin-seen : (f : ℕ → ℕ) (v : Var) → pattern_seen f (pattern.Pin v) ≡ pattern.Pin v
pin-seen f v = ap (pattern_seen f) (sym (pattern.rolls-Pin v)) ∙ fold-roll-Pattern Pattern (pattern_seen_step f) (layer.Pin v)

any-seen : (f : ℕ → ℕ) → pattern_seen f pattern.Any ≡ pattern.Any
any-seen f = ap (pattern_seen f) (sym pattern.rolls-Any) ∙ fold-roll-Pattern Pattern (pattern_seen_step f) layer.Any

pattern_signed-sees : (f : ℕ → ℕ) (line : List ℕ) (kind : TokenKind) (ts : List Token) → Sees (first_seen (pattern_seen f)) (pattern_signed line kind ts) (pattern_signed line kind ts)
pattern_signed-sees f line kind ts =
    sees-if (first_seen (pattern_seen f)) (is_caret kind) _ _ _ _
    (sees-on_ok (λ x. x) (first_seen (pattern_seen f)) (λ x. (pattern.Pin (record { 0 = x.0 }), x.1)) (λ x. (pattern.Pin (record { 0 = x.0 }), x.1)) (variable_at line ts) (variable_at line ts)
    (sees-same (λ x. x) (variable_at line ts) (λ x. refl)) (λ x. ap (λ (p : Pattern). (p, x.1)) (sym (pin-seen f (record { 0 = x.0 })))))
    (sees-if (first_seen (pattern_seen f)) (is_underscore kind) _ _ _ _ (ap (λ (p : Pattern). Ok (p, ts)) (sym (any-seen f))) tt)

patterns-seen : (f : ℕ → ℕ) → IsSeenBy f (pattern_seen f) pattern_spelling
patterns-seen f = record {
  int = λ n. ap (pattern_seen f) (sym (pattern.rolls-Int n)) ∙ fold-roll-Pattern Pattern (pattern_seen_step f) (layer.Int n);
  atom = λ a. ap (pattern_seen f) (sym (pattern.rolls-Atom a)) ∙ fold-roll-Pattern Pattern (pattern_seen_step f) (layer.Atom a);
  var = λ v. ap (pattern_seen f) (sym (pattern.rolls-Bind v)) ∙ fold-roll-Pattern Pattern (pattern_seen_step f) (layer.Bind v);
  pid = λ n. ap (pattern_seen f) (sym (pattern.rolls-Pid (record { 0 = n }))) ∙ fold-roll-Pattern Pattern (pattern_seen_step f) (layer.Pid (record { 0 = n }));
  signed = pattern_signed-sees f;
  enclosing = pattern_enclosing-seen f;
  nested = nested-seen f;
}

pub pattern_of-sees : (f : ℕ → ℕ) (known other : Known) (line : List ℕ) → ((name : List ℕ) → Sees f (pid_of known name) (pid_of other name)) → (ts : List Token) →
    Sees (first_seen (pattern_seen f)) (pattern_of known line ts) (pattern_of other line ts)
pattern_of-sees f known other line pids ts = phrase_of-sees f (pattern_seen f) pattern_spelling known other line (patterns-seen f) pids ts
