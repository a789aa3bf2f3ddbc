-- Which expressions and patterns are readable, by their cases.
use Rattle.std.proofs.Common.{◌≡◌, ℕ, ℤ, ◌+◌, ◌<◌, ◌≤◌, List, [], ◌∷◌, map, All, Bool, true, refl, sym, ◌∙◌, ap, subst, arith}
use Rattle.std.specs.Prelude.{sum, max, nat_lt, length}
use Rattle.std.specs.List.{list_all}
use Rattle.std.proofs.lemmas.Bool.Decides.{nat_tests}
use Rattle.std.proofs.lemmas.List.Sums.{sum_by-cons}
use Rattle.std.proofs.lemmas.List.Elements.{All-head, All-tail}
use Rattle.sig_terms.specs.Words.{is_atom}
use Rattle.sig_terms.specs.Nodes.{greatest}
use Rattle.sig_terms.specs.Readable.{is_wide}
use Rattle.sig_terms.specs.declared.bytes.TheConstants.{MOST_WORD_BYTES}
use Rattle.sig_patterns.specs.declared.var.Var.{Var}
use Rattle.sig_patterns.specs.declared.expression.Expr.{Expr, roll-Expr, map-Expr}
use Rattle.sig_patterns.specs.declared.expression.Expr.TheVariants as expr
use Rattle.sig_patterns.specs.declared.expression.Expr.TheOpen.{Expr-F}
use Rattle.sig_patterns.specs.declared.expression.Expr.TheOpen as expression
use Rattle.sig_patterns.specs.declared.expression.Expr.TheFolds.{fold-Expr, fold-roll-Expr}
use Rattle.sig_patterns.specs.declared.pattern.Pattern.{Pattern, roll-Pattern, map-Pattern}
use Rattle.sig_patterns.specs.declared.pattern.Pattern.TheVariants as pat
use Rattle.sig_patterns.specs.declared.pattern.Pattern.TheOpen.{Pattern-F}
use Rattle.sig_patterns.specs.declared.pattern.Pattern.TheOpen as pattern
use Rattle.sig_patterns.specs.declared.pattern.Pattern.TheFolds.{fold-Pattern, fold-roll-Pattern, ind-Pattern}
use Rattle.sig_tokens.specs.PatternTexts.{nested}
use Rattle.sig_canon.specs.ReadableScript.{Counted, is_variable_token, expr_count_step, expr_nodes, expr_depth_step, expr_depth, expr_step_is_plain, is_plain_expr, pattern_count_step, pattern_nodes, pattern_depth_step, pattern_depth, pattern_step_is_plain, is_plain_pattern}
use Rattle.sig_tokens.specs.Tokens.{IsVariableToken}

-- what is said of an expression's layer
folded : (A : Type 0) (step : Expr-F A → A) (e : Expr) (x : Expr-F Expr) → roll-Expr x ≡ e → fold-Expr A step e ≡ step (map-Expr Expr A (fold-Expr A step) x)
folded A step e x is = ap (fold-Expr A step) (sym is) ∙ fold-roll-Expr A step x

-- an expression with so many nodes and of such a depth at the most
pub record IsExprWithin (count nodes depth : ℕ) (e : Expr) : Type 0 where
  pub plain : is_plain_expr count e ≡ true
  pub few : expr_nodes e ≤ nodes
  pub low : expr_depth e ≤ depth

expr_of_layer : (count nodes depth : ℕ) (e : Expr) (x : Expr-F Expr) → roll-Expr x ≡ e → expr_step_is_plain count (map-Expr Expr Bool (is_plain_expr count) x) ≡ true →
    expr_count_step (map-Expr Expr ℕ expr_nodes x) ≤ nodes → expr_depth_step (map-Expr Expr ℕ expr_depth x) ≤ depth → IsExprWithin count nodes depth e
expr_of_layer count nodes depth e x is plain few low = record {
  plain = folded Bool (expr_step_is_plain count) e x is ∙ plain;
  few = subst (λ (n : ℕ). n ≤ nodes) (sym (folded ℕ expr_count_step e x is)) few;
  low = subst (λ (n : ℕ). n ≤ depth) (sym (folded ℕ expr_depth_step e x is)) low;
}

-- sums, greatest numbers and tests of all
pub all_pass : {A : Type 0} (p : A → Bool) (xs : List A) → All (λ x. p x ≡ true) xs → list_all (λ b. b) (map p xs) ≡ true
all_pass p [] h = refl
all_pass p (x ∷ xs) h = rw (All-head (λ y. p y ≡ true) x xs h, all_pass p xs (All-tail (λ y. p y ≡ true) x xs h)) refl

pub greatest_within : {A : Type 0} (f : A → ℕ) (d : ℕ) (xs : List A) → All (λ x. f x ≤ d) xs → greatest (map f xs) ≤ d
greatest_within f d [] h = omega arith
greatest_within f d (x ∷ xs) h =
    let first : f x ≤ d = All-head (λ y. f y ≤ d) x xs h in
    let rest : greatest (map f xs) ≤ d = greatest_within f d xs (All-tail (λ y. f y ≤ d) x xs h) in
    omega arith

pub sum-cons : (n : ℕ) (ns : List ℕ) → sum (n ∷ ns) ≡ n + sum ns
sum-cons n ns = sum_by-cons (λ (m : ℕ). m) n ns

one-within : 1 ≤ 1
one-within = omega arith

below-passes : (n count : ℕ) → n < count → nat_lt n count ≡ true
below-passes n count h = grind (arith, nat_tests)

variable-passes : (word : List ℕ) → IsVariableToken word → is_variable_token word ≡ true
variable-passes word h =
    let short : nat_lt (length word) (MOST_WORD_BYTES + 1) ≡ true = below-passes _ _ (omega (arith, h.0)) in
    rw (short, h.1) refl

module _ (count : ℕ) where
  pub int_expr : (n : ℤ) → is_wide n ≡ true → IsExprWithin count 1 1 (expr.Int n)
  int_expr n h = expr_of_layer count 1 1 (expr.Int n) (expression.Int n) (expr.rolls-Int n) h one-within one-within

  pub atom_expr : (a : List ℕ) → is_atom a ≡ true → IsExprWithin count 1 1 (expr.Atom a)
  atom_expr a h = expr_of_layer count 1 1 (expr.Atom a) (expression.Atom a) (expr.rolls-Atom a) h one-within one-within

  pub pid_expr : (n : ℕ) → n < count → IsExprWithin count 1 1 (expr.Pid (record { 0 = n }))
  pid_expr n h =
      expr_of_layer count 1 1 (expr.Pid (record { 0 = n })) (expression.Pid (record { 0 = n })) (expr.rolls-Pid (record { 0 = n })) (below-passes n count h) one-within one-within

  pub var_expr : (v : Var) → IsVariableToken v.0 → IsExprWithin count 1 1 (expr.Var v)
  var_expr v h = expr_of_layer count 1 1 (expr.Var v) (expression.Var v) (expr.rolls-Var v) (variable-passes v.0 h) one-within one-within

  abbrev IsPlain : Expr → Type 0
  IsPlain e = is_plain_expr count e ≡ true

  pub tuple_expr : (nodes depth : ℕ) (es : List Expr) → All IsPlain es → sum (map expr_nodes es) ≤ nodes → All (λ e. expr_depth e ≤ depth) es →
      IsExprWithin count (1 + nodes) (1 + depth) (expr.Tuple es)
  tuple_expr nodes depth es plain few low =
      let deep : greatest (map expr_depth es) ≤ depth = greatest_within expr_depth depth es low in
      expr_of_layer count (1 + nodes) (1 + depth) (expr.Tuple es) (expression.Tuple es) (expr.rolls-Tuple es) (all_pass (is_plain_expr count) es plain) (omega arith) (omega arith)

  pub list_expr : (nodes depth : ℕ) (es : List Expr) → All IsPlain es → sum (map expr_nodes es) ≤ nodes → All (λ e. expr_depth e ≤ depth) es →
      IsExprWithin count (1 + nodes) (1 + depth) (expr.List es)
  list_expr nodes depth es plain few low =
      let deep : greatest (map expr_depth es) ≤ depth = greatest_within expr_depth depth es low in
      expr_of_layer count (1 + nodes) (1 + depth) (expr.List es) (expression.List es) (expr.rolls-List es) (all_pass (is_plain_expr count) es plain) (omega arith) (omega arith)

-- ---- patterns

pattern_folded : (A : Type 0) (step : Pattern-F A → A) (p : Pattern) (x : Pattern-F Pattern) → roll-Pattern x ≡ p → fold-Pattern A step p ≡ step (map-Pattern Pattern A (fold-Pattern A step) x)
pattern_folded A step p x is = ap (fold-Pattern A step) (sym is) ∙ fold-roll-Pattern A step x

-- the two numbers of a pattern
abbrev pub counted : Pattern → Counted
counted = fold-Pattern Counted pattern_count_step

abbrev pub deepened : Pattern → Counted
deepened = fold-Pattern Counted pattern_depth_step

-- as a tail a pattern has no more nodes, and isn't deeper
count-tail : (x : Pattern-F Counted) → (pattern_count_step x).tail ≤ (pattern_count_step x).whole
count-tail (pattern.Cons head tail) = omega arith
count-tail _ = omega arith

depth-tail : (x : Pattern-F Counted) → (pattern_depth_step x).tail ≤ (pattern_depth_step x).whole
depth-tail (pattern.Cons head tail) = omega arith
depth-tail _ = omega arith

pub counted-tail : (p : Pattern) → (counted p).tail ≤ (counted p).whole
counted-tail = ind-Pattern (λ p. (counted p).tail ≤ (counted p).whole)
    (λ x y is. subst (λ (c : Counted). c.tail ≤ c.whole) (sym (fold-roll-Pattern Counted pattern_count_step x)) (count-tail (map-Pattern Pattern Counted counted x)))

pub deepened-tail : (p : Pattern) → (deepened p).tail ≤ (deepened p).whole
deepened-tail = ind-Pattern (λ p. (deepened p).tail ≤ (deepened p).whole)
    (λ x y is. subst (λ (c : Counted). c.tail ≤ c.whole) (sym (fold-roll-Pattern Counted pattern_depth_step x)) (depth-tail (map-Pattern Pattern Counted deepened x)))

-- a pattern with so many nodes and of such a depth at the most
pub record IsPatternWithin (count nodes depth : ℕ) (p : Pattern) : Type 0 where
  pub plain : is_plain_pattern count p ≡ true
  pub few : pattern_nodes p ≤ nodes
  pub low : pattern_depth p ≤ depth

pattern_of_layer : (count nodes depth : ℕ) (p : Pattern) (x : Pattern-F Pattern) → roll-Pattern x ≡ p → pattern_step_is_plain count (map-Pattern Pattern Bool (is_plain_pattern count) x) ≡ true →
    (pattern_count_step (map-Pattern Pattern Counted counted x)).whole ≤ nodes → (pattern_depth_step (map-Pattern Pattern Counted deepened x)).whole ≤ depth → IsPatternWithin count nodes depth p
pattern_of_layer count nodes depth p x is plain few low = record {
  plain = pattern_folded Bool (pattern_step_is_plain count) p x is ∙ plain;
  few = subst (λ (c : Counted). c.whole ≤ nodes) (sym (pattern_folded Counted pattern_count_step p x is)) few;
  low = subst (λ (c : Counted). c.whole ≤ depth) (sym (pattern_folded Counted pattern_depth_step p x is)) low;
}

-- [P | Q] by its parts
cons-counted : (head tail : Pattern) → counted (pat.Cons head tail) ≡ record { whole = 1 + (pattern_nodes head + (counted tail).tail); tail = pattern_nodes head + (counted tail).tail }
cons-counted head tail = pattern_folded Counted pattern_count_step (pat.Cons head tail) (pattern.Cons head tail) (pat.rolls-Cons head tail)

cons-deepened : (head tail : Pattern) → deepened (pat.Cons head tail) ≡ record { whole = 1 + max (pattern_depth head) (deepened tail).tail; tail = max (pattern_depth head) (deepened tail).tail }
cons-deepened head tail = pattern_folded Counted pattern_depth_step (pat.Cons head tail) (pattern.Cons head tail) (pat.rolls-Cons head tail)

wholes : (f : Pattern → Counted) (ps : List Pattern) → map (λ (n : Counted). n.whole) (map f ps) ≡ map (λ p. (f p).whole) ps
wholes f [] = refl
wholes f (p ∷ ps) = ap (λ (ns : List ℕ). (f p).whole ∷ ns) (wholes f ps)

module _ (count : ℕ) where
  pub any_pattern : IsPatternWithin count 1 1 pat.Any
  any_pattern = pattern_of_layer count 1 1 pat.Any pattern.Any pat.rolls-Any refl one-within one-within

  pub bind_pattern : (v : Var) → IsVariableToken v.0 → IsPatternWithin count 1 1 (pat.Bind v)
  bind_pattern v h = pattern_of_layer count 1 1 (pat.Bind v) (pattern.Bind v) (pat.rolls-Bind v) (variable-passes v.0 h) one-within one-within

  pub pin_pattern : (v : Var) → IsVariableToken v.0 → IsPatternWithin count 1 1 (pat.Pin v)
  pin_pattern v h = pattern_of_layer count 1 1 (pat.Pin v) (pattern.Pin v) (pat.rolls-Pin v) (variable-passes v.0 h) one-within one-within

  pub int_pattern : (n : ℤ) → is_wide n ≡ true → IsPatternWithin count 1 1 (pat.Int n)
  int_pattern n h = pattern_of_layer count 1 1 (pat.Int n) (pattern.Int n) (pat.rolls-Int n) h one-within one-within

  pub atom_pattern : (a : List ℕ) → is_atom a ≡ true → IsPatternWithin count 1 1 (pat.Atom a)
  atom_pattern a h = pattern_of_layer count 1 1 (pat.Atom a) (pattern.Atom a) (pat.rolls-Atom a) h one-within one-within

  pub pid_pattern : (n : ℕ) → n < count → IsPatternWithin count 1 1 (pat.Pid (record { 0 = n }))
  pid_pattern n h =
      pattern_of_layer count 1 1 (pat.Pid (record { 0 = n })) (pattern.Pid (record { 0 = n })) (pat.rolls-Pid (record { 0 = n })) (below-passes n count h) one-within one-within

  abbrev IsPlainPattern : Pattern → Type 0
  IsPlainPattern p = is_plain_pattern count p ≡ true

  pub tuple_pattern : (nodes depth : ℕ) (ps : List Pattern) → All IsPlainPattern ps → sum (map pattern_nodes ps) ≤ nodes → All (λ p. pattern_depth p ≤ depth) ps →
      IsPatternWithin count (1 + nodes) (1 + depth) (pat.Tuple ps)
  tuple_pattern nodes depth ps plain few low =
      let deep : greatest (map pattern_depth ps) ≤ depth = greatest_within pattern_depth depth ps low in
      pattern_of_layer count (1 + nodes) (1 + depth) (pat.Tuple ps) (pattern.Tuple ps) (pat.rolls-Tuple ps) (all_pass (is_plain_pattern count) ps plain)
      (omega (arith, ap sum (wholes counted ps))) (omega (arith, ap greatest (wholes deepened ps)))

  pub list_pattern : (nodes depth : ℕ) (ps : List Pattern) → All IsPlainPattern ps → sum (map pattern_nodes ps) ≤ nodes → All (λ p. pattern_depth p ≤ depth) ps →
      IsPatternWithin count (1 + nodes) (1 + depth) (pat.List ps)
  list_pattern nodes depth ps plain few low =
      let deep : greatest (map pattern_depth ps) ≤ depth = greatest_within pattern_depth depth ps low in
      pattern_of_layer count (1 + nodes) (1 + depth) (pat.List ps) (pattern.List ps) (pat.rolls-List ps) (all_pass (is_plain_pattern count) ps plain)
      (omega (arith, ap sum (wholes counted ps))) (omega (arith, ap greatest (wholes deepened ps)))

  -- items and a tail, as a tail of so many nodes and of such a depth
  record IsTail (nodes depth : ℕ) (p : Pattern) : Type 0 where
    plain : IsPlainPattern p
    few : (counted p).tail ≤ nodes
    low : (deepened p).tail ≤ depth

  cons_tail : (nodes depth : ℕ) (head tail : Pattern) → IsPlainPattern head → pattern_depth head ≤ depth → IsTail nodes depth tail → IsTail (pattern_nodes head + nodes) depth (pat.Cons head tail)
  cons_tail nodes depth head tail plain low t = record {
    plain = pattern_folded Bool (pattern_step_is_plain count) (pat.Cons head tail) (pattern.Cons head tail) (pat.rolls-Cons head tail) ∙ rw (plain, t.plain) refl;
    few = omega (arith, ap (λ (c : Counted). c.tail) (cons-counted head tail), t.few);
    low = omega (arith, ap (λ (c : Counted). c.tail) (cons-deepened head tail), t.low);
  }

  nested_tail : (nodes depth : ℕ) (ps : List Pattern) (tail : Pattern) → All IsPlainPattern ps → IsPlainPattern tail → sum (map pattern_nodes ps) + pattern_nodes tail ≤ nodes →
      All (λ p. pattern_depth p ≤ depth) ps → pattern_depth tail ≤ depth → IsTail nodes depth (nested ps tail)
  nested_tail nodes depth [] tail plain also few low deep = record {
    plain = also;
    few = omega (arith, counted-tail tail);
    low = omega (arith, deepened-tail tail);
  }
  nested_tail nodes depth (p ∷ ps) tail plain also few low deep =
      let whole : sum (map pattern_nodes (p ∷ ps)) ≡ pattern_nodes p + sum (map pattern_nodes ps) = sum-cons (pattern_nodes p) (map pattern_nodes ps) in
      let rest : IsTail (sum (map pattern_nodes ps) + pattern_nodes tail) depth (nested ps tail) =
      nested_tail (sum (map pattern_nodes ps) + pattern_nodes tail) depth ps tail (All-tail IsPlainPattern p ps plain) also (omega arith) (All-tail (λ q. pattern_depth q ≤ depth) p ps low) deep in
      let t = cons_tail (sum (map pattern_nodes ps) + pattern_nodes tail) depth p (nested ps tail) (All-head IsPlainPattern p ps plain) (All-head (λ q. pattern_depth q ≤ depth) p ps low) rest in
      record { plain = t.plain; few = omega (arith, t.few, few, whole); low = t.low }

  pub nested_pattern : (nodes depth : ℕ) (ps : List Pattern) (tail : Pattern) → All IsPlainPattern ps → IsPlainPattern tail → sum (map pattern_nodes ps) + pattern_nodes tail ≤ nodes →
      All (λ p. pattern_depth p ≤ depth) ps → pattern_depth tail ≤ depth → IsPatternWithin count (1 + nodes) (1 + depth) (nested ps tail)
  nested_pattern nodes depth [] tail plain also few low deep = record { plain = also; few = omega (arith, few); low = omega (arith, deep) }
  nested_pattern nodes depth (p ∷ ps) tail plain also few low deep =
      let t : IsTail nodes depth (nested (p ∷ ps) tail) = nested_tail nodes depth (p ∷ ps) tail plain also few low deep in
      record {
        plain = t.plain;
        few = omega (arith, t.few, ap (λ (c : Counted). c.tail) (cons-counted p (nested ps tail)), ap (λ (c : Counted). c.whole) (cons-counted p (nested ps tail)));
        low = omega (arith, t.low, ap (λ (c : Counted). c.tail) (cons-deepened p (nested ps tail)), ap (λ (c : Counted). c.whole) (cons-deepened p (nested ps tail)));
      }
