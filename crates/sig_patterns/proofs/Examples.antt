-- What the definition of a match gives at some patterns.
use Rattle.std.proofs.Common.{◌≡◌, Bool, true, false, cond, List, [], ◌∷◌, map, refl, sym, ap, ◌∙◌, Option, Some, None, option_and_then}
use Rattle.std.proofs.lemmas.Slice.Eq.{bytes_eq-Decides}
use Rattle.std.specs.Option.{option_map}
use Rattle.std.specs.FinMap.{insert}
use Rattle.sig_terms.specs.TermTest.{same_term}
use Rattle.sig_terms.specs.declared.term.Term.{Term}
use Rattle.sig_terms.specs.declared.term.Term.TheVariants as term
use Rattle.sig_terms.specs.declared.term.Term.TheOpen as layer
use Rattle.sig_terms.specs.declared.term.Term.TheViews.{out-roll-Term}
use Rattle.sig_patterns.specs.declared.var.Var.{Var}
use Rattle.sig_patterns.specs.declared.pattern.Pattern.{Pattern}
use Rattle.sig_patterns.specs.declared.pattern.Pattern.TheVariants as pattern
use Rattle.sig_patterns.specs.declared.pattern.Pattern.TheOpen as pattern_layer
use Rattle.sig_patterns.specs.declared.pattern.Pattern.TheFolds.{fold-roll-Pattern}
use Rattle.sig_patterns.specs.Environment.{Environment, value_of_var}
use Rattle.sig_patterns.specs.Matching.{Bindings, Matcher, asking, binding, bound_to, match_each, match_cons, match_step, matching, match_of, overlaid, tuple_layer, list_layer, tuple_items, list_items}

pub items_of_list : (ts : List Term) → list_items (term.List ts) ≡ Some ts
items_of_list ts = ap list_items (sym (term.rolls-List ts)) ∙ ap list_layer (out-roll-Term (layer.List ts))

items_of_tuple : (ts : List Term) → tuple_items (term.Tuple ts) ≡ Some ts
items_of_tuple ts = ap tuple_items (sym (term.rolls-Tuple ts)) ∙ ap tuple_layer (out-roll-Term (layer.Tuple ts))

pub cons_is : (env : Environment) (head tail : Pattern) (t : Term) (bound : Bindings)
    → matching env (pattern.Cons head tail) t bound ≡ option_and_then (λ ts. match_cons (matching env head) (matching env tail) ts bound) (list_items t)
cons_is env head tail t bound =
    ap (λ (m : Matcher). m t bound) (ap (matching env) (sym (pattern.rolls-Cons head tail)) ∙ fold-roll-Pattern Matcher (match_step env) (pattern_layer.Cons head tail))

list_is : (env : Environment) (ps : List Pattern) (t : Term) (bound : Bindings) → matching env (pattern.List ps) t bound ≡ option_and_then (λ ts. match_each (map (matching env) ps) ts bound) (list_items t)
list_is env ps t bound =
    ap (λ (m : Matcher). m t bound) (ap (matching env) (sym (pattern.rolls-List ps)) ∙ fold-roll-Pattern Matcher (match_step env) (pattern_layer.List ps))

tuple_is : (env : Environment) (ps : List Pattern) (t : Term) (bound : Bindings) → matching env (pattern.Tuple ps) t bound ≡ option_and_then (λ ts. match_each (map (matching env) ps) ts bound) (tuple_items t)
tuple_is env ps t bound =
    ap (λ (m : Matcher). m t bound) (ap (matching env) (sym (pattern.rolls-Tuple ps)) ∙ fold-roll-Pattern Matcher (match_step env) (pattern_layer.Tuple ps))

pub bind_is : (env : Environment) (x : Var) → matching env (pattern.Bind x) ≡ (λ t bound. binding (bound_to bound x.0) x.0 t bound)
bind_is env x = ap (matching env) (sym (pattern.rolls-Bind x)) ∙ fold-roll-Pattern Matcher (match_step env) (pattern_layer.Bind x)

pin_is : (env : Environment) (x : Var) → matching env (pattern.Pin x) ≡ (λ t bound. asking (value_of_var env x.0) t bound)
pin_is env x = ap (matching env) (sym (pattern.rolls-Pin x)) ∙ fold-roll-Pattern Matcher (match_step env) (pattern_layer.Pin x)

-- a first element, and the list of the rest
one_head : (m : Option Bindings) (next last : Bindings → Option Bindings) → ((b : Bindings) → next b ≡ last b) → option_and_then next m ≡ option_and_then last m
one_head None next last same = refl
one_head (Some b) next last same = same b

headed : (m : Matcher) (ms : List Matcher) (rest : Matcher) (bound : Bindings) (o : Option (List Term)) → ((ts : List Term) (b : Bindings) → rest (term.List ts) b ≡ match_each ms ts b)
    → option_and_then (λ ts. match_cons m rest ts bound) o ≡ option_and_then (λ ts. match_each (m ∷ ms) ts bound) o
headed m ms rest bound None same = refl
headed m ms rest bound (Some []) same = refl
headed m ms rest bound (Some (t ∷ ts)) same = one_head (m t bound) _ _ (λ b. same ts b)

pub head_and_list : (env : Environment) (p : Pattern) (ps : List Pattern) (t : Term) → match_of (pattern.Cons p (pattern.List ps)) env t ≡ match_of (pattern.List (p ∷ ps)) env t
head_and_list env p ps t =
    let same : (ts : List Term) (b : Bindings) → matching env (pattern.List ps) (term.List ts) b ≡ match_each (map (matching env) ps) ts b =
    λ ts b. list_is env ps (term.List ts) b ∙ ap (option_and_then (λ us. match_each (map (matching env) ps) us b)) (items_of_list ts) in
    ap (option_map (overlaid env))
    (cons_is env p (pattern.List ps) t []
    ∙ headed (matching env p) (map (matching env) ps) (matching env (pattern.List ps)) [] (list_items t) same
    ∙ sym (list_is env (p ∷ ps) t []))

-- the match of a pair
pair_is : (env : Environment) (p q : Pattern) (t u : Term) → match_of (pattern.Tuple (p ∷ q ∷ [])) env (term.Tuple (t ∷ u ∷ [])) ≡ option_map (overlaid env) (match_each (matching env p ∷ matching env q ∷ []) (t ∷ u ∷ []) [])
pair_is env p q t u = ap (option_map (overlaid env))
    (tuple_is env (p ∷ q ∷ []) (term.Tuple (t ∷ u ∷ [])) [] ∙ ap (λ o. option_and_then (λ ts. match_each (matching env p ∷ matching env q ∷ []) ts []) o) (items_of_tuple (t ∷ u ∷ [])))

ends : (b : Bool) (env : Environment) (bound : Bindings) → option_map (overlaid env) (option_and_then (match_each [] []) (cond b (Some bound) None)) ≡ cond b (Some (overlaid env bound)) None
ends true env bound = refl
ends false env bound = refl

pub repeated : (env : Environment) (x : Var) (t u : Term) → match_of (pattern.Tuple (pattern.Bind x ∷ pattern.Bind x ∷ [])) env (term.Tuple (t ∷ u ∷ [])) ≡ cond (same_term t u) (Some (insert env x.0 t)) None
repeated env x t u =
    pair_is env (pattern.Bind x) (pattern.Bind x) t u
    ∙ ap (λ (m : Matcher). option_map (overlaid env) (match_each (m ∷ m ∷ []) (t ∷ u ∷ []) [])) (bind_is env x)
    ∙ ap (λ b. option_map (overlaid env) (option_and_then (match_each [] []) (binding (cond b (Some t) None) x.0 u ((x.0, t) ∷ [])))) ((bytes_eq-Decides x.0 x.0).1 refl)
    ∙ ends (same_term t u) env ((x.0, t) ∷ [])

pub pinned : (env : Environment) (x : Var) (t u : Term) → match_of (pattern.Tuple (pattern.Bind x ∷ pattern.Pin x ∷ [])) env (term.Tuple (t ∷ u ∷ [])) ≡ cond (same_term (value_of_var env x.0) u) (Some (insert env x.0 t)) None
pinned env x t u =
    pair_is env (pattern.Bind x) (pattern.Pin x) t u
    ∙ ap (λ (m : Matcher). option_map (overlaid env) (match_each (m ∷ matching env (pattern.Pin x) ∷ []) (t ∷ u ∷ []) [])) (bind_is env x)
    ∙ ap (λ (m : Matcher). option_map (overlaid env) (match_each ((λ s bound. binding (bound_to bound x.0) x.0 s bound) ∷ m ∷ []) (t ∷ u ∷ []) [])) (pin_is env x)
    ∙ ends (same_term (value_of_var env x.0) u) env ((x.0, t) ∷ [])
