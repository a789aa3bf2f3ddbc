-- The pids in expressions and patterns, by their cases; and what holds of each of them, both ways.
use Rattle.std.proofs.Common.{◌≡◌, ℕ, ℤ, List, [], ◌∷◌, ◌++◌, map, All, sym, ◌∙◌, ap}
use Rattle.std.specs.List.{concat}
use Rattle.std.proofs.lemmas.List.Elements.{All-nil, All-cons, All-head, All-tail, All-append, All-same}
use Rattle.sig_patterns.specs.declared.var.Var.{Var}
use Rattle.sig_patterns.specs.declared.expression.Expr.{Expr, roll-Expr, map-Expr}
use Rattle.sig_patterns.specs.declared.expression.Expr.TheVariants as expr
use Rattle.sig_patterns.specs.declared.expression.Expr.TheOpen.{Expr-F}
use Rattle.sig_patterns.specs.declared.expression.Expr.TheOpen as expression
use Rattle.sig_patterns.specs.declared.expression.Expr.TheFolds.{fold-roll-Expr}
use Rattle.sig_patterns.specs.declared.pattern.Pattern.{Pattern, roll-Pattern, map-Pattern}
use Rattle.sig_patterns.specs.declared.pattern.Pattern.TheVariants as pat
use Rattle.sig_patterns.specs.declared.pattern.Pattern.TheOpen.{Pattern-F}
use Rattle.sig_patterns.specs.declared.pattern.Pattern.TheOpen as pattern
use Rattle.sig_patterns.specs.declared.pattern.Pattern.TheFolds.{fold-roll-Pattern}
use Rattle.sig_patterns.specs.Pids.{expr_pids, pids_of, pattern_pids, pids_of_pattern}

-- a layer at a time
pub pids_of-roll : (x : Expr-F Expr) → pids_of (roll-Expr x) ≡ expr_pids (map-Expr Expr (List ℕ) pids_of x)
pids_of-roll x = fold-roll-Expr (List ℕ) expr_pids x

pub pids_of_pattern-roll : (x : Pattern-F Pattern) → pids_of_pattern (roll-Pattern x) ≡ pattern_pids (map-Pattern Pattern (List ℕ) pids_of_pattern x)
pids_of_pattern-roll x = fold-roll-Pattern (List ℕ) pattern_pids x

-- the cases of expressions
pub pids_of-Int : (n : ℤ) → pids_of (expr.Int n) ≡ []
pids_of-Int n = ap pids_of (sym (expr.rolls-Int n)) ∙ pids_of-roll (expression.Int n)

pub pids_of-Atom : (a : List ℕ) → pids_of (expr.Atom a) ≡ []
pids_of-Atom a = ap pids_of (sym (expr.rolls-Atom a)) ∙ pids_of-roll (expression.Atom a)

pub pids_of-Var : (v : Var) → pids_of (expr.Var v) ≡ []
pids_of-Var v = ap pids_of (sym (expr.rolls-Var v)) ∙ pids_of-roll (expression.Var v)

pub pids_of-Pid : (n : ℕ) → pids_of (expr.Pid (record { 0 = n })) ≡ n ∷ []
pids_of-Pid n = ap pids_of (sym (expr.rolls-Pid (record { 0 = n }))) ∙ pids_of-roll (expression.Pid (record { 0 = n }))

pub pids_of-Tuple : (es : List Expr) → pids_of (expr.Tuple es) ≡ concat (map pids_of es)
pids_of-Tuple es = ap pids_of (sym (expr.rolls-Tuple es)) ∙ pids_of-roll (expression.Tuple es)

pub pids_of-List : (es : List Expr) → pids_of (expr.List es) ≡ concat (map pids_of es)
pids_of-List es = ap pids_of (sym (expr.rolls-List es)) ∙ pids_of-roll (expression.List es)

-- the cases of patterns
pub pids_of_pattern-Any : pids_of_pattern pat.Any ≡ []
pids_of_pattern-Any = ap pids_of_pattern (sym pat.rolls-Any) ∙ pids_of_pattern-roll pattern.Any

pub pids_of_pattern-Bind : (v : Var) → pids_of_pattern (pat.Bind v) ≡ []
pids_of_pattern-Bind v = ap pids_of_pattern (sym (pat.rolls-Bind v)) ∙ pids_of_pattern-roll (pattern.Bind v)

pub pids_of_pattern-Pin : (v : Var) → pids_of_pattern (pat.Pin v) ≡ []
pids_of_pattern-Pin v = ap pids_of_pattern (sym (pat.rolls-Pin v)) ∙ pids_of_pattern-roll (pattern.Pin v)

pub pids_of_pattern-Int : (n : ℤ) → pids_of_pattern (pat.Int n) ≡ []
pids_of_pattern-Int n = ap pids_of_pattern (sym (pat.rolls-Int n)) ∙ pids_of_pattern-roll (pattern.Int n)

pub pids_of_pattern-Atom : (a : List ℕ) → pids_of_pattern (pat.Atom a) ≡ []
pids_of_pattern-Atom a = ap pids_of_pattern (sym (pat.rolls-Atom a)) ∙ pids_of_pattern-roll (pattern.Atom a)

pub pids_of_pattern-Pid : (n : ℕ) → pids_of_pattern (pat.Pid (record { 0 = n })) ≡ n ∷ []
pids_of_pattern-Pid n = ap pids_of_pattern (sym (pat.rolls-Pid (record { 0 = n }))) ∙ pids_of_pattern-roll (pattern.Pid (record { 0 = n }))

pub pids_of_pattern-Tuple : (ps : List Pattern) → pids_of_pattern (pat.Tuple ps) ≡ concat (map pids_of_pattern ps)
pids_of_pattern-Tuple ps = ap pids_of_pattern (sym (pat.rolls-Tuple ps)) ∙ pids_of_pattern-roll (pattern.Tuple ps)

pub pids_of_pattern-List : (ps : List Pattern) → pids_of_pattern (pat.List ps) ≡ concat (map pids_of_pattern ps)
pids_of_pattern-List ps = ap pids_of_pattern (sym (pat.rolls-List ps)) ∙ pids_of_pattern-roll (pattern.List ps)

pub pids_of_pattern-Cons : (head tail : Pattern) → pids_of_pattern (pat.Cons head tail) ≡ pids_of_pattern head ++ pids_of_pattern tail
pids_of_pattern-Cons head tail = ap pids_of_pattern (sym (pat.rolls-Cons head tail)) ∙ pids_of_pattern-roll (pattern.Cons head tail)

-- from here on P is said of pids
module _ (P : ℕ → Type 0) where
  pub all_front : (xs ys : List ℕ) → All P (xs ++ ys) → All P xs
  all_front [] ys h = All-nil P
  all_front (x ∷ xs) ys h = All-cons P x xs (All-head P x (xs ++ ys) h) (all_front xs ys (All-tail P x (xs ++ ys) h))

  pub all_behind : (xs ys : List ℕ) → All P (xs ++ ys) → All P ys
  all_behind [] ys h = h
  all_behind (x ∷ xs) ys h = all_behind xs ys (All-tail P x (xs ++ ys) h)

  -- the pids of elements
  module _ {A : Type 0} (pids : A → List ℕ) where
    abbrev EachAll : A → Type 0
    EachAll x = All P (pids x)

    pub concat_all : (xs : List A) → All EachAll xs → All P (concat (map pids xs))
    concat_all [] h = All-nil P
    concat_all (x ∷ xs) h = All-append P (pids x) (concat (map pids xs)) (All-head EachAll x xs h) (concat_all xs (All-tail EachAll x xs h))

    pub each_all : (xs : List A) → All P (concat (map pids xs)) → All EachAll xs
    each_all [] h = All-nil EachAll
    each_all (x ∷ xs) h =
        All-cons EachAll x xs (all_front (pids x) (concat (map pids xs)) h) (each_all xs (all_behind (pids x) (concat (map pids xs)) h))

  -- of the pids of an expression
  abbrev OfExpr : Expr → Type 0
  OfExpr e = All P (pids_of e)

  pub int_pids : (n : ℤ) → OfExpr (expr.Int n)
  int_pids n = All-same P (pids_of (expr.Int n)) [] (pids_of-Int n) (All-nil P)

  pub atom_pids : (a : List ℕ) → OfExpr (expr.Atom a)
  atom_pids a = All-same P (pids_of (expr.Atom a)) [] (pids_of-Atom a) (All-nil P)

  pub var_pids : (v : Var) → OfExpr (expr.Var v)
  var_pids v = All-same P (pids_of (expr.Var v)) [] (pids_of-Var v) (All-nil P)

  pub pid_pids : (n : ℕ) → P n → OfExpr (expr.Pid (record { 0 = n }))
  pid_pids n h = All-same P (pids_of (expr.Pid (record { 0 = n }))) (n ∷ []) (pids_of-Pid n) (All-cons P n [] h (All-nil P))

  pub pid_tells : (n : ℕ) → OfExpr (expr.Pid (record { 0 = n })) → P n
  pid_tells n h = All-head P n [] (All-same P (n ∷ []) (pids_of (expr.Pid (record { 0 = n }))) (sym (pids_of-Pid n)) h)

  pub tuple_pids : (es : List Expr) → All OfExpr es → OfExpr (expr.Tuple es)
  tuple_pids es h = All-same P (pids_of (expr.Tuple es)) (concat (map pids_of es)) (pids_of-Tuple es) (concat_all pids_of es h)

  pub list_pids : (es : List Expr) → All OfExpr es → OfExpr (expr.List es)
  list_pids es h = All-same P (pids_of (expr.List es)) (concat (map pids_of es)) (pids_of-List es) (concat_all pids_of es h)

  pub tuple_tells : (es : List Expr) → OfExpr (expr.Tuple es) → All OfExpr es
  tuple_tells es h = each_all pids_of es (All-same P (concat (map pids_of es)) (pids_of (expr.Tuple es)) (sym (pids_of-Tuple es)) h)

  pub list_tells : (es : List Expr) → OfExpr (expr.List es) → All OfExpr es
  list_tells es h = each_all pids_of es (All-same P (concat (map pids_of es)) (pids_of (expr.List es)) (sym (pids_of-List es)) h)

  -- of the pids of a pattern
  abbrev pub OfPattern : Pattern → Type 0
  OfPattern p = All P (pids_of_pattern p)

  pub any_pattern_pids : OfPattern pat.Any
  any_pattern_pids = All-same P (pids_of_pattern pat.Any) [] pids_of_pattern-Any (All-nil P)

  pub bind_pattern_pids : (v : Var) → OfPattern (pat.Bind v)
  bind_pattern_pids v = All-same P (pids_of_pattern (pat.Bind v)) [] (pids_of_pattern-Bind v) (All-nil P)

  pub pin_pattern_pids : (v : Var) → OfPattern (pat.Pin v)
  pin_pattern_pids v = All-same P (pids_of_pattern (pat.Pin v)) [] (pids_of_pattern-Pin v) (All-nil P)

  pub int_pattern_pids : (n : ℤ) → OfPattern (pat.Int n)
  int_pattern_pids n = All-same P (pids_of_pattern (pat.Int n)) [] (pids_of_pattern-Int n) (All-nil P)

  pub atom_pattern_pids : (a : List ℕ) → OfPattern (pat.Atom a)
  atom_pattern_pids a = All-same P (pids_of_pattern (pat.Atom a)) [] (pids_of_pattern-Atom a) (All-nil P)

  pub pid_pattern_pids : (n : ℕ) → P n → OfPattern (pat.Pid (record { 0 = n }))
  pid_pattern_pids n h = All-same P (pids_of_pattern (pat.Pid (record { 0 = n }))) (n ∷ []) (pids_of_pattern-Pid n) (All-cons P n [] h (All-nil P))

  pub tuple_pattern_pids : (ps : List Pattern) → All OfPattern ps → OfPattern (pat.Tuple ps)
  tuple_pattern_pids ps h = All-same P (pids_of_pattern (pat.Tuple ps)) (concat (map pids_of_pattern ps)) (pids_of_pattern-Tuple ps) (concat_all pids_of_pattern ps h)

  pub list_pattern_pids : (ps : List Pattern) → All OfPattern ps → OfPattern (pat.List ps)
  list_pattern_pids ps h = All-same P (pids_of_pattern (pat.List ps)) (concat (map pids_of_pattern ps)) (pids_of_pattern-List ps) (concat_all pids_of_pattern ps h)

  pub cons_pattern_pids : (head tail : Pattern) → OfPattern head → OfPattern tail → OfPattern (pat.Cons head tail)
  cons_pattern_pids head tail h k =
      All-same P (pids_of_pattern (pat.Cons head tail)) (pids_of_pattern head ++ pids_of_pattern tail) (pids_of_pattern-Cons head tail)
      (All-append P (pids_of_pattern head) (pids_of_pattern tail) h k)
