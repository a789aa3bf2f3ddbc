-- The texts of expressions and patterns, as their parts are put one after another.
use Rattle.std.proofs.Common.{◌≡◌, ℕ, suc, ◌+◌, ◌-◌, ◌<◌, ◌≤◌, List, [], ◌∷◌, ◌++◌, map, take, drop, length, get_or, append_assoc, append-nil, refl, sym, subst, ap, ◌∙◌, arith, codes}
use Rattle.std.proofs.lemmas.List.{take_all, drop_more, drop_all}
use Rattle.std.specs.List.{concat}
use Rattle.std.specs.Prelude.{Result, Ok, Err, OnOk}
use Rattle.sig_terms.specs.TermText.{after_comma, atom_text, joined}
use Rattle.sig_terms.specs.declared.pid.Pid.{Pid}
use Rattle.sig_patterns.specs.declared.var.Var.{Var}
use Rattle.sig_patterns.specs.declared.expression.Expr.{Expr, roll-Expr, map-Expr}
use Rattle.sig_patterns.specs.declared.expression.Expr.TheVariants as expr
use Rattle.sig_patterns.specs.declared.expression.Expr.TheOpen.{Expr-F}
use Rattle.sig_patterns.specs.declared.expression.Expr.TheOpen as expression
use Rattle.sig_patterns.specs.declared.expression.Expr.TheFolds.{fold-roll-Expr}
use Rattle.sig_patterns.specs.declared.pattern.Pattern.{Pattern, roll-Pattern, map-Pattern}
use Rattle.sig_patterns.specs.declared.pattern.Pattern.TheVariants as pat
use Rattle.sig_patterns.specs.declared.pattern.Pattern.TheOpen.{Pattern-F}
use Rattle.sig_patterns.specs.declared.pattern.Pattern.TheOpen as pattern
use Rattle.sig_patterns.specs.declared.pattern.Pattern.TheFolds.{fold-roll-Pattern, ind-Pattern}
use Rattle.sig_canon.specs.ScriptText.{Written, alone, process_text, expr_step, expr_text, pattern_step, pattern_written}
use Rattle.sig_canon.proofs.PrintLemmas.{kept_one, kept_more, last_text}

-- a list, by its first item and the rest
pub first_and_rest : {X : Type 0} (xs : List X) (x : X) → 1 ≤ length xs → x ≡ get_or xs 0 x → xs ≡ x ∷ take (length xs - 1) (drop 1 xs)
first_and_rest [] x long is = absurd (omega arith)
first_and_rest {X} (y ∷ ys) x long is = ap (λ (z : X). z ∷ ys) (sym is) ∙ ap (λ (zs : List X). x ∷ zs) (sym (take_all (suc (length ys) - 1) ys (omega arith)))

module _ {X : Type 0} (text : X → List ℕ) (texts : List X → List (List ℕ)) where
  -- behind a text, those that are left
  abbrev pub left : List X → List ℕ
  left xs = concat (map after_comma (texts xs))

  -- the first text
  pub first_put : (xs : List X) (x : X) (a b : List ℕ) → ((y : X) (ys : List X) → texts (y ∷ ys) ≡ text y ∷ texts ys) → 1 ≤ length xs → x ≡ get_or xs 0 x → b ≡ a ++ text x →
      (b ++ left (take (length xs - 1) (drop 1 xs)) ≡ a ++ joined (texts xs)) × (take (length a) b ≡ a)
  first_put xs x a b law long is put =
      let rest : List X = take (length xs - 1) (drop 1 xs) in
      let whole : texts xs ≡ text x ∷ texts rest = ap texts (first_and_rest xs x long is) ∙ law x rest in
      (ap (λ (bs : List ℕ). bs ++ left rest) put ∙ append_assoc a (text x) (left rest) ∙ ap (λ (ts : List (List ℕ)). a ++ joined ts) (sym whole), kept_one a b (text x) put)

  -- a comma and a text more
  pub next_put : (rest : List X) (i : ℕ) (x : X) (a b c d whole : List ℕ) → ((y : X) (ys : List X) → texts (y ∷ ys) ≡ text y ∷ texts ys) → i < length rest → x ≡ get_or rest i x →
      c ≡ b ++ codes "," → d ≡ c ++ text x → (b ++ left (drop i rest) ≡ whole) × (take (length a) b ≡ a) →
      (d ++ left (drop (i + 1) rest) ≡ whole) × (take (length a) d ≡ a)
  next_put rest i x a b c d whole law lt is p q h =
      let more : List X = drop (i + 1) rest in
      let these : texts (drop i rest) ≡ text x ∷ texts more = ap texts (drop_more rest i x lt ∙ ap (λ (y : X). y ∷ more) (sym is)) ∙ law x more in
      let put : d ≡ b ++ after_comma (text x) = q ∙ ap (λ (ys : List ℕ). ys ++ text x) p ∙ append_assoc b (codes ",") (text x) in (
        ap (λ (ys : List ℕ). ys ++ left more) put ∙ append_assoc b (after_comma (text x)) (left more) ∙ ap (λ (ts : List (List ℕ)). b ++ concat (map after_comma ts)) (sym these) ∙ h.0,
        kept_more a c (text x) d (kept_more a b (codes ",") c h.1 p) q,
      )

  -- no text is left
  pub none_left : (rest : List X) (i : ℕ) (b whole : List ℕ) → texts [] ≡ [] → length rest ≤ i → b ++ left (drop i rest) ≡ whole → b ≡ whole
  none_left rest i b whole none le h = sym (append-nil b) ∙ ap (λ (ts : List (List ℕ)). b ++ concat (map after_comma ts)) (sym (ap texts (drop_all i rest le) ∙ none)) ∙ h

-- what is put is the text
pub text_put : {T E : Type 0} (r : Result T E) (a b text said : List ℕ) → text ≡ said → OnOk r (b ≡ a ++ said) → OnOk r (b ≡ a ++ text)
text_put (Ok v) a b text said e h = h ∙ ap (λ (xs : List ℕ). a ++ xs) (sym e)
text_put (Err y) a b text said e h = tt

-- the same of three pieces
pub three_pieces : {T E : Type 0} (r : Result T E) (a b text x y z : List ℕ) → text ≡ (x ++ y) ++ z → OnOk r (b ≡ ((a ++ x) ++ y) ++ z) → OnOk r (b ≡ a ++ text)
three_pieces (Ok v) a b text x y z e h = h ∙ ap (λ (xs : List ℕ). xs ++ z) (append_assoc a x y) ∙ append_assoc a (x ++ y) z ∙ ap (λ (xs : List ℕ). a ++ xs) (sym e)
three_pieces (Err v) a b text x y z e h = tt

-- the same where the last piece is put by itself
pub last_piece : {T E : Type 0} (r : Result T E) (a b d text x y z : List ℕ) → text ≡ (x ++ y) ++ z → b ≡ (a ++ x) ++ y → OnOk r (d ≡ b ++ z) → OnOk r (d ≡ a ++ text)
last_piece r a b d text x y z e p h = three_pieces r a d text x y z e (last_text r b d ((a ++ x) ++ y) z h p)

module _ (names : List (List ℕ)) where
  -- the text of an expression, by its cases
  expr-roll : (e : Expr-F Expr) → expr_text names (roll-Expr e) ≡ expr_step names (map-Expr Expr (List ℕ) (expr_text names) e)
  expr-roll e = fold-roll-Expr (List ℕ) (expr_step names) e

  pub expr-Atom : (a : List ℕ) → expr_text names (expr.Atom a) ≡ atom_text a
  expr-Atom a = ap (expr_text names) (sym (expr.rolls-Atom a)) ∙ expr-roll (expression.Atom a)

  pub expr-Pid : (p : Pid) → expr_text names (expr.Pid p) ≡ process_text names p.0
  expr-Pid p = ap (expr_text names) (sym (expr.rolls-Pid p)) ∙ expr-roll (expression.Pid p)

  pub expr-Var : (x : Var) → expr_text names (expr.Var x) ≡ x.0
  expr-Var x = ap (expr_text names) (sym (expr.rolls-Var x)) ∙ expr-roll (expression.Var x)

  pub expr-Tuple : (es : List Expr) → expr_text names (expr.Tuple es) ≡ codes "{" ++ joined (map (expr_text names) es) ++ codes "}"
  expr-Tuple es = ap (expr_text names) (sym (expr.rolls-Tuple es)) ∙ expr-roll (expression.Tuple es)

  pub expr-List : (es : List Expr) → expr_text names (expr.List es) ≡ codes "[" ++ joined (map (expr_text names) es) ++ codes "]"
  expr-List es = ap (expr_text names) (sym (expr.rolls-List es)) ∙ expr-roll (expression.List es)

  -- the text of a pattern, by its cases
  pattern-roll : (p : Pattern-F Pattern) → pattern_written names (roll-Pattern p) ≡ pattern_step names (map-Pattern Pattern Written (pattern_written names) p)
  pattern-roll p = fold-roll-Pattern Written (pattern_step names) p

  pub pattern-Any : pattern_written names pat.Any ≡ alone (codes "_")
  pattern-Any = ap (pattern_written names) (sym pat.rolls-Any) ∙ pattern-roll pattern.Any

  pub pattern-Bind : (x : Var) → pattern_written names (pat.Bind x) ≡ alone x.0
  pattern-Bind x = ap (pattern_written names) (sym (pat.rolls-Bind x)) ∙ pattern-roll (pattern.Bind x)

  pub pattern-Pin : (x : Var) → pattern_written names (pat.Pin x) ≡ alone (codes "^" ++ x.0)
  pattern-Pin x = ap (pattern_written names) (sym (pat.rolls-Pin x)) ∙ pattern-roll (pattern.Pin x)

  pub pattern-Atom : (a : List ℕ) → pattern_written names (pat.Atom a) ≡ alone (atom_text a)
  pattern-Atom a = ap (pattern_written names) (sym (pat.rolls-Atom a)) ∙ pattern-roll (pattern.Atom a)

  pub pattern-Pid : (p : Pid) → pattern_written names (pat.Pid p) ≡ alone (process_text names p.0)
  pattern-Pid p = ap (pattern_written names) (sym (pat.rolls-Pid p)) ∙ pattern-roll (pattern.Pid p)

  pub pattern-Tuple : (ps : List Pattern) → pattern_written names (pat.Tuple ps) ≡ alone (codes "{" ++ joined (map (λ w. w.whole) (map (pattern_written names) ps)) ++ codes "}")
  pattern-Tuple ps = ap (pattern_written names) (sym (pat.rolls-Tuple ps)) ∙ pattern-roll (pattern.Tuple ps)

  pub pattern-List : (ps : List Pattern) → pattern_written names (pat.List ps) ≡ alone (codes "[" ++ joined (map (λ w. w.whole) (map (pattern_written names) ps)) ++ codes "]")
  pattern-List ps = ap (pattern_written names) (sym (pat.rolls-List ps)) ∙ pattern-roll (pattern.List ps)

  pub pattern-Cons : (head tail : Pattern) → pattern_written names (pat.Cons head tail)
      ≡ record { whole = codes "[" ++ (pattern_written names head).whole ++ (pattern_written names tail).tail; tail = codes "," ++ (pattern_written names head).whole ++ (pattern_written names tail).tail }
  pattern-Cons head tail = ap (pattern_written names) (sym (pat.rolls-Cons head tail)) ∙ pattern-roll (pattern.Cons head tail)

  -- a pattern that is no list with a tail stands between a bar and a bracket
  abbrev IsAlone : Written → Type 0
  IsAlone w = w.tail ≡ codes "|" ++ w.whole ++ codes "]"

  abbrev IsNoCons : Pattern → Type 0
  IsNoCons p = (head tail : Pattern) → p ≡ pat.Cons head tail → ⊥

  layer_alone : (p : Pattern-F Pattern) → IsNoCons (roll-Pattern p) → IsAlone (pattern_step names (map-Pattern Pattern Written (pattern_written names) p))
  layer_alone pattern.Any other = refl
  layer_alone (pattern.Bind x) other = refl
  layer_alone (pattern.Pin x) other = refl
  layer_alone (pattern.Int n) other = refl
  layer_alone (pattern.Atom bytes) other = refl
  layer_alone (pattern.Pid p) other = refl
  layer_alone (pattern.Tuple ps) other = refl
  layer_alone (pattern.List ps) other = refl
  layer_alone (pattern.Cons head tail) other = absurd (other head tail (pat.rolls-Cons head tail))

  pub tail_alone : (p : Pattern) → IsNoCons p → IsAlone (pattern_written names p)
  tail_alone = ind-Pattern (λ p. IsNoCons p → IsAlone (pattern_written names p)) (λ x y is other. subst IsAlone (sym (pattern-roll x)) (layer_alone x other))
