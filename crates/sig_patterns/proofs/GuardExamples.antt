-- What the definition of a clause gives at some guards.
use Rattle.std.proofs.Common.{◌≡◌, ℕ, ℤ, Bool, true, false, ◌&&◌, ◌||◌, cond, List, [], ◌∷◌, refl, sym, ap, ◌∙◌, Option, Some, None, option_and_then, pos}
use Rattle.std.specs.Option.{option_map, unwrap_or}
use Rattle.std.specs.FinMap.{get, insert}
use Rattle.sig_terms.specs.declared.term.Term.{Term}
use Rattle.sig_terms.specs.declared.term.Term.TheVariants as term
use Rattle.sig_terms.specs.declared.term.Term.TheOpen as layer
use Rattle.sig_terms.specs.declared.term.Term.TheViews.{out-roll-Term}
use Rattle.sig_patterns.specs.declared.clause.Clause.{Clause}
use Rattle.sig_patterns.specs.declared.guard.Guard.{Guard}
use Rattle.sig_patterns.specs.declared.guard.Op.TheVariants as sign
use Rattle.sig_patterns.specs.declared.guard.Operand.TheVariants as operand
use Rattle.sig_patterns.specs.declared.guard.Test.{Test}
use Rattle.sig_patterns.specs.declared.guard.Test.TheVariants as test
use Rattle.sig_patterns.specs.declared.guard.TermKind.TheVariants as kind
use Rattle.sig_patterns.specs.declared.pattern.Pattern.{Pattern}
use Rattle.sig_patterns.specs.declared.pattern.Pattern.TheVariants as pattern
use Rattle.sig_patterns.specs.declared.pattern.Pattern.TheOpen as pattern_layer
use Rattle.sig_patterns.specs.declared.pattern.Pattern.TheFolds.{fold-roll-Pattern}
use Rattle.sig_patterns.specs.declared.var.Var.{Var}
use Rattle.sig_patterns.specs.Environment.{Environment, undefined, value_of_var}
use Rattle.sig_patterns.specs.Matching.{Matcher, match_cons, match_step, matching, match_of, overlaid}
use Rattle.sig_patterns.specs.Guarding.{int_layer, int_value, compares_both, compares, is_kind, guard_holds}
use Rattle.sig_patterns.specs.Scanning.{takes}
use Rattle.sig_patterns.proofs.Examples.{items_of_list, cons_is, bind_is}
use Rattle.sig_patterns.proofs.EnvironmentLemmas.{get-inserted_here}
use Rattle.sig_patterns.proofs.Taking.{guarded}
use Rattle.sig_patterns.proofs.Comparing.{compares_integers, kind_is, undefined_is_atom}

abbrev alternatives : List (List Test) → Option Guard
alternatives tests = Some (record { alternatives = tests })

abbrev guarding : Pattern → List (List Test) → Clause
guarding p tests = record { pattern = p; guard = alternatives tests; target = None }

abbrev just_five : Var → List (List Test)
just_five x = (test.Compare (operand.Var x) sign.AtLeast (operand.Int (pos 5)) ∷ test.Compare (operand.Var x) sign.AtMost (operand.Int (pos 5)) ∷ []) ∷ []

abbrev above_nine : Var → List (List Test)
above_nine x = (test.Compare (operand.Var x) sign.Greater (operand.Int (pos 9)) ∷ []) ∷ []

abbrev above_nine_or_atom : Var → List (List Test)
above_nine_or_atom x = (test.Compare (operand.Var x) sign.Greater (operand.Int (pos 9)) ∷ []) ∷ (test.Is kind.Atom x ∷ []) ∷ []

abbrev below_nine : Var → List (List Test)
below_nine x = (test.Compare (operand.Var x) sign.Less (operand.Int (pos 9)) ∷ []) ∷ []

abbrev a_list : Var → List (List Test)
a_list x = (test.Is kind.List x ∷ []) ∷ []

abbrev atom : Var → List (List Test)
atom x = (test.Is kind.Atom x ∷ []) ∷ []

abbrev seven : Var → List (List Test)
seven x = (test.Compare (operand.Var x) sign.Equal (operand.Int (pos 7)) ∷ []) ∷ []

abbrev int : ℕ → Term
int n = term.Int (pos n)

as_it_is : (b : Bool) → ((b && true) || false) ≡ b
as_it_is true = refl
as_it_is false = refl

-- an atom compares with nothing, and is an atom
no_integer : (a : List ℕ) → int_value (term.Atom a) ≡ None
no_integer a = ap int_value (sym (term.rolls-Atom a)) ∙ ap int_layer (out-roll-Term (layer.Atom a))

module _ (env : Environment) where
  -- `_` binds nothing, and a variable binds the whole
  any_matches : (t : Term) → match_of pattern.Any env t ≡ Some env
  any_matches t = ap (λ (m : Matcher). option_map (overlaid env) (m t [])) (ap (matching env) (sym pattern.rolls-Any) ∙ fold-roll-Pattern Matcher (match_step env) pattern_layer.Any)

  bind_matches : (x : Var) (t : Term) → match_of (pattern.Bind x) env t ≡ Some (insert env x.0 t)
  bind_matches x t = ap (λ (m : Matcher). option_map (overlaid env) (m t [])) (bind_is env x)

  -- `[_ | X]` binds the list of the rest
  rest_matches : (x : Var) (t : Term) (ts : List Term) → match_of (pattern.Cons pattern.Any (pattern.Bind x)) env (term.List (t ∷ ts)) ≡ Some (insert env x.0 (term.List ts))
  rest_matches x t ts =
      ap (option_map (overlaid env))
      (cons_is env pattern.Any (pattern.Bind x) (term.List (t ∷ ts)) []
      ∙ ap (option_and_then (λ us. match_cons (matching env pattern.Any) (matching env (pattern.Bind x)) us [])) (items_of_list (t ∷ ts))
      ∙ ap (λ (m : Matcher). option_and_then (matching env (pattern.Bind x) (term.List ts)) (m t [])) (ap (matching env) (sym pattern.rolls-Any) ∙ fold-roll-Pattern Matcher (match_step env) pattern_layer.Any)
      ∙ ap (λ (m : Matcher). m (term.List ts) []) (bind_is env x))

  value_bound : (x : Var) (t : Term) → value_of_var (insert env x.0 t) x.0 ≡ t
  value_bound x t = ap (λ (o : Option Term). unwrap_or o undefined) (get-inserted_here env x.0 t)

  -- a match, and what the guard says after it
  by_match : (p : Pattern) (tests : List (List Test)) (t : Term) (after : Environment) (b : Bool) → match_of p env t ≡ Some after → guard_holds (value_of_var after) (alternatives tests) ≡ b
      → takes (guarding p tests) env t ≡ cond b (Some after) None
  by_match p tests t after b is holds = ap (guarded (alternatives tests)) is ∙ ap (λ (c : Bool). cond c (Some after) None) holds

  -- `N when N >= 5 and N =< 5` takes 5
  five : (x : Var) →
      takes (guarding (pattern.Bind x) (just_five x)) env (int 5)
      ≡ Some (insert env x.0 (int 5))
  five x =
      by_match (pattern.Bind x) (just_five x) (int 5) (insert env x.0 (int 5)) true (bind_matches x (int 5))
      (ap (λ (t : Term). (compares sign.AtLeast t (int 5) && (compares sign.AtMost t (int 5) && true)) || false) (value_bound x (int 5))
      ∙ ap (λ (b : Bool). (b && (compares sign.AtMost (int 5) (int 5) && true)) || false) (compares_integers sign.AtLeast (pos 5) (pos 5))
      ∙ ap (λ (b : Bool). (b && true) || false) (compares_integers sign.AtMost (pos 5) (pos 5)))

  -- `N when N > 9` takes 12, and not 5
  above : (x : Var) (n : ℕ) (b : Bool) → compares sign.Greater (int n) (int 9) ≡ b →
      takes (guarding (pattern.Bind x) (above_nine x)) env (int n) ≡ cond b (Some (insert env x.0 (int n))) None
  above x n b is =
      by_match (pattern.Bind x) (above_nine x) (int n) (insert env x.0 (int n)) b (bind_matches x (int n))
      (ap (λ (t : Term). (compares sign.Greater t (int 9) && true) || false) (value_bound x (int n)) ∙ ap (λ (c : Bool). (c && true) || false) is ∙ as_it_is b)

  twelve : (x : Var) → takes (guarding (pattern.Bind x) (above_nine x)) env (int 12) ≡ Some (insert env x.0 (int 12))
  twelve x = above x 12 true (compares_integers sign.Greater (pos 12) (pos 9))

  not_five : (x : Var) → takes (guarding (pattern.Bind x) (above_nine x)) env (int 5) ≡ None
  not_five x = above x 5 false (compares_integers sign.Greater (pos 5) (pos 9))

  -- `N when N > 9 or is_atom(N)` takes an atom
  an_atom : (x : Var) (a : List ℕ) →
      takes (guarding (pattern.Bind x) (above_nine_or_atom x)) env (term.Atom a)
      ≡ Some (insert env x.0 (term.Atom a))
  an_atom x a =
      by_match (pattern.Bind x) (above_nine_or_atom x) (term.Atom a) (insert env x.0 (term.Atom a)) true (bind_matches x (term.Atom a))
      (ap (λ (t : Term). (compares sign.Greater t (int 9) && true) || ((is_kind kind.Atom t && true) || false)) (value_bound x (term.Atom a))
      ∙ ap (λ (o : Option ℤ). (compares_both sign.Greater o (int_value (int 9)) && true) || ((is_kind kind.Atom (term.Atom a) && true) || false)) (no_integer a)
      ∙ ap (λ (b : Bool). (b && true) || false) (kind_is kind.Atom (layer.Atom a) (term.Atom a) (term.rolls-Atom a)))

  -- `N when N < 9` doesn't
  no_atom : (x : Var) (a : List ℕ) →
      takes (guarding (pattern.Bind x) (below_nine x)) env (term.Atom a) ≡ None
  no_atom x a =
      by_match (pattern.Bind x) (below_nine x) (term.Atom a) (insert env x.0 (term.Atom a)) false (bind_matches x (term.Atom a))
      (ap (λ (t : Term). (compares sign.Less t (int 9) && true) || false) (value_bound x (term.Atom a))
      ∙ ap (λ (o : Option ℤ). (compares_both sign.Less o (int_value (int 9)) && true) || false) (no_integer a))

  -- `[_ | T] when is_list(T)` takes a list of at least one element
  a_rest : (x : Var) (t : Term) (ts : List Term) →
      takes (guarding (pattern.Cons pattern.Any (pattern.Bind x)) (a_list x)) env (term.List (t ∷ ts)) ≡ Some (insert env x.0 (term.List ts))
  a_rest x t ts =
      by_match (pattern.Cons pattern.Any (pattern.Bind x)) (a_list x) (term.List (t ∷ ts)) (insert env x.0 (term.List ts)) true (rest_matches x t ts)
      (ap (λ (u : Term). (is_kind kind.List u && true) || false) (value_bound x (term.List ts))
      ∙ ap (λ (b : Bool). (b && true) || false) (kind_is kind.List (layer.List ts) (term.List ts) (term.rolls-List ts)))

  -- `_ when is_atom(Y)` takes every message, where Y has no entry
  no_entry : (y : Var) (t : Term) → get env y.0 ≡ None → takes (guarding pattern.Any (atom y)) env t ≡ Some env
  no_entry y t none =
      by_match pattern.Any (atom y) t env true (any_matches t) (ap (λ (b : Bool). (b && true) || false) (undefined_is_atom env y.0 none))

  -- `_ when Y == 7` takes every message, where the entry of Y is 7
  an_entry : (y : Var) (t : Term) → get env y.0 ≡ Some (int 7) → takes (guarding pattern.Any (seven y)) env t ≡ Some env
  an_entry y t is =
      by_match pattern.Any (seven y) t env true (any_matches t)
      (ap (λ (o : Option Term). (compares sign.Equal (unwrap_or o undefined) (int 7) && true) || false) is
      ∙ ap (λ (b : Bool). (b && true) || false) (compares_integers sign.Equal (pos 7) (pos 7)))
