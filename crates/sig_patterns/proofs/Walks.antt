-- The walk without bindings is the match: each part of a pattern goes by its test and its first places.
use Rattle.std.proofs.Common.{◌≡◌, ℕ, suc, ◌==◌, Bool, true, false, ◌&&◌, cond, List, [], ◌∷◌, map, refl, sym, ap, subst, ◌∙◌, Option, Some, None, option_and_then, arith, is_some}
use Rattle.std.proofs.lemmas.Grind.{common_steps}
use Rattle.std.proofs.lemmas.Slice.Eq.{bytes_eq-Decides}
use Rattle.std.specs.Option.{option_or, option_map, option_map_or}
use Rattle.std.specs.Str.{bytes_eq}
use Rattle.sig_terms.specs.TermTest.{same_term}
use Rattle.sig_terms.specs.declared.term.Term.{Term}
use Rattle.sig_terms.specs.declared.term.Term.TheVariants as term
use Rattle.sig_patterns.specs.declared.pattern.Pattern.{Pattern, roll-Pattern, map-Pattern}
use Rattle.sig_patterns.specs.declared.pattern.Pattern.TheOpen.{Pattern-F}
use Rattle.sig_patterns.specs.declared.pattern.Pattern.TheOpen as pattern
use Rattle.sig_patterns.specs.declared.pattern.Pattern.TheFolds.{fold-roll-Pattern, ind-Pattern}
use Rattle.sig_patterns.specs.Environment.{Environment, value_of_var}
use Rattle.sig_patterns.specs.Matching.{Bindings, Matcher, bound_to, asking, binding, match_each, match_cons, match_step, matching, overlaid, match_of, tuple_items, list_items}
use Rattle.sig_patterns.specs.Fitting.{Places, first_each, first_cons, first_step, first_in, fits_all, fits_cons, fits_step, fits}
use Rattle.sig_terms.proofs.SameTerms.{same_self}
use Rattle.sig_patterns.proofs.Bindings.{Covers, Goes, or_none, goes_along, covers_first, covers_next, goes_then, goes_asking}

-- a matcher, its first places, and its test under all first places
abbrev pub Alike : Matcher → (Term → Places) → (Places → Term → Bool) → Type 0
Alike m first fit = (t : Term) (bound : Bindings) (g : Places) → Covers g bound (first t) → Goes (m t bound) bound (first t) (fit g t)

all_more : (a b : ℕ) (k r : Bool) → ((suc a == suc b) && (k && r)) ≡ (k && ((a == b) && r))
all_more a b true r = grind (arith, common_steps)
all_more a b false r = grind (arith, common_steps)

-- a variable: bound here, or asking for what it is bound to
new_here : (b : Bool) (v x : List ℕ) (t : Term) (bound : Bindings) → bytes_eq x v ≡ b → bound_to bound v ≡ None → cond b (Some t) (bound_to bound x) ≡ option_or (bound_to bound x) (cond b (Some t) None)
new_here true v x t bound e free = sym (ap (λ o. option_or o (Some t)) (ap (bound_to bound) ((bytes_eq-Decides x v).0 e) ∙ free))
new_here false v x t bound e free = sym (or_none (bound_to bound x))

old_here : (b : Bool) (v x : List ℕ) (t u : Term) (bound : Bindings) → bytes_eq x v ≡ b → bound_to bound v ≡ Some u → option_or (bound_to bound x) (cond b (Some t) None) ≡ bound_to bound x
old_here true v x t u bound e is =
    let here : bound_to bound x ≡ Some u = ap (bound_to bound) ((bytes_eq-Decides x v).0 e) ∙ is in
    ap (λ o. option_or o (Some t)) here ∙ sym here
old_here false v x t u bound e is = or_none (bound_to bound x)

bind_at : (v : List ℕ) (t : Term) (bound : Bindings) (g : Places) (o : Option Term) → bound_to bound v ≡ o → Covers g bound (λ x. cond (bytes_eq x v) (Some t) None)
    → Goes (binding o v t bound) bound (λ x. cond (bytes_eq x v) (Some t) None) (option_map_or (λ u. same_term u t) (g v) false)
bind_at v t bound g None e c =
    let first : g v ≡ Some t = c v t (ap (λ o. option_or o (cond (bytes_eq v v) (Some t) None)) e ∙ ap (λ b. cond b (Some t) None) ((bytes_eq-Decides v v).1 refl)) in
    (ap (λ o. option_map_or (λ u. same_term u t) o false) first ∙ same_self t, λ x. new_here (bytes_eq x v) v x t bound refl e)
bind_at v t bound g (Some u) e c =
    let first : g v ≡ Some u = c v u (ap (λ o. option_or o (cond (bytes_eq v v) (Some t) None)) e) in
    goes_along (asking u t bound) bound _ _ (same_term u t) _ (λ x. refl) (ap (λ o. option_map_or (λ w. same_term w t) o false) (sym first))
    (goes_asking u t bound (λ x. cond (bytes_eq x v) (Some t) None) (λ x. old_here (bytes_eq x v) v x t u bound refl e))

is_some-goes : {A : Type 0} (f : Bindings → A) (o : Option Bindings) (first : Places) (b : Bool) → Goes o [] first b → is_some (option_map f o) ≡ b
is_some-goes f None first b h = sym h
is_some-goes f (Some after) first b h = sym h.0

module _ (env : Environment) where
  abbrev IsWalk : Pattern → Type 0
  IsWalk p = Alike (matching env p) (first_in p) (λ g. fits env g p)

  abbrev Walks : Type 0
  Walks = List ((p : Pattern) × IsWalk p)

  abbrev patterns : Walks → List Pattern
  patterns es = map (λ e. e.0) es

  each : (es : Walks) (ts : List Term) (bound : Bindings) (g : Places) → Covers g bound (first_each (map first_in (patterns es)) ts)
      → Goes (match_each (map (matching env) (patterns es)) ts bound) bound (first_each (map first_in (patterns es)) ts) (fits_all (map (fits env g) (patterns es)) ts)
  each [] [] bound g c = (refl, λ x. sym (or_none (bound_to bound x)))
  each [] (t ∷ ts) bound g c = grind (arith, common_steps)
  each (e ∷ es) [] bound g c = grind (arith, common_steps)
  each (e ∷ es) (t ∷ ts) bound g c =
      let f : Places = first_in e.0 t in
      let h : Places = first_each (map first_in (patterns es)) ts in
      goes_along _ bound (λ x. option_or (f x) (h x)) (λ x. option_or (f x) (h x)) _ _ (λ x. refl)
      (sym (all_more _ _ (fits env g e.0 t) _))
      (goes_then (matching env e.0 t bound) (match_each (map (matching env) (patterns es)) ts) bound f h (fits env g e.0 t) (fits_all (map (fits env g) (patterns es)) ts)
      (e.1 t bound g (covers_first g bound f h c))
      (λ after is. each es ts after g (covers_next g bound after f h is c)))

  cons : (e q : (p : Pattern) × IsWalk p) (ts : List Term) (bound : Bindings) (g : Places) → Covers g bound (first_cons (first_in e.0) (first_in q.0) ts)
      → Goes (match_cons (matching env e.0) (matching env q.0) ts bound) bound (first_cons (first_in e.0) (first_in q.0) ts) (fits_cons (fits env g e.0) (fits env g q.0) ts)
  cons e q [] bound g c = refl
  cons e q (t ∷ ts) bound g c =
      let f : Places = first_in e.0 t in
      let h : Places = first_in q.0 (term.List ts) in
      goes_then (matching env e.0 t bound) (matching env q.0 (term.List ts)) bound f h (fits env g e.0 t) (fits env g q.0 (term.List ts))
      (e.1 t bound g (covers_first g bound f h c))
      (λ after is. q.1 (term.List ts) after g (covers_next g bound after f h is c))

  each_of : (es : Walks) (o : Option (List Term)) (bound : Bindings) (g : Places) → Covers g bound (λ x. option_and_then (λ ts. first_each (map first_in (patterns es)) ts x) o)
      → Goes (option_and_then (λ ts. match_each (map (matching env) (patterns es)) ts bound) o) bound (λ x. option_and_then (λ ts. first_each (map first_in (patterns es)) ts x) o) (option_map_or (fits_all (map (fits env g) (patterns es))) o false)
  each_of es None bound g c = refl
  each_of es (Some ts) bound g c = each es ts bound g c

  cons_of : (e q : (p : Pattern) × IsWalk p) (o : Option (List Term)) (bound : Bindings) (g : Places) → Covers g bound (λ x. option_and_then (λ ts. first_cons (first_in e.0) (first_in q.0) ts x) o)
      → Goes (option_and_then (λ ts. match_cons (matching env e.0) (matching env q.0) ts bound) o) bound (λ x. option_and_then (λ ts. first_cons (first_in e.0) (first_in q.0) ts x) o)
      (option_map_or (fits_cons (fits env g e.0) (fits env g q.0)) o false)
  cons_of e q None bound g c = refl
  cons_of e q (Some ts) bound g c = cons e q ts bound g c

  at : (x : Pattern-F Pattern) → Alike (match_step env (map-Pattern Pattern Matcher (matching env) x)) (first_step (map-Pattern Pattern (Term → Places) first_in x)) (λ g. fits_step env g (map-Pattern Pattern (Term → Bool) (fits env g) x))
      → IsWalk (roll-Pattern x)
  at x =
      subst {A = Matcher × (Term → Places) × (Places → Term → Bool)} (λ w. Alike w.0 w.1 w.2)
      (λ i. (sym (fold-roll-Pattern Matcher (match_step env) x) i, sym (fold-roll-Pattern (Term → Places) first_step x) i, λ g. sym (fold-roll-Pattern (Term → Bool) (fits_step env g) x) i))

  step : (y : Pattern-F ((p : Pattern) × IsWalk p)) → IsWalk (roll-Pattern (map-Pattern ((p : Pattern) × IsWalk p) Pattern (λ e. e.0) y))
  step pattern.Any = at pattern.Any (λ t bound g c. (refl, λ x. sym (or_none (bound_to bound x))))
  step (pattern.Bind var) = at (pattern.Bind var) (λ t bound g c. bind_at var.0 t bound g (bound_to bound var.0) refl c)
  step (pattern.Pin var) = at (pattern.Pin var) (λ t bound g c. goes_asking (value_of_var env var.0) t bound (λ _. None) (λ x. or_none (bound_to bound x)))
  step (pattern.Int n) = at (pattern.Int n) (λ t bound g c. goes_asking (term.Int n) t bound (λ _. None) (λ x. or_none (bound_to bound x)))
  step (pattern.Atom a) = at (pattern.Atom a) (λ t bound g c. goes_asking (term.Atom a) t bound (λ _. None) (λ x. or_none (bound_to bound x)))
  step (pattern.Pid p) = at (pattern.Pid p) (λ t bound g c. goes_asking (term.Pid p) t bound (λ _. None) (λ x. or_none (bound_to bound x)))
  step (pattern.Tuple es) = at (pattern.Tuple (patterns es)) (λ t bound g c. each_of es (tuple_items t) bound g c)
  step (pattern.List es) = at (pattern.List (patterns es)) (λ t bound g c. each_of es (list_items t) bound g c)
  step (pattern.Cons e q) = at (pattern.Cons e.0 q.0) (λ t bound g c. cons_of e q (list_items t) bound g c)

  pub walks : (p : Pattern) → Alike (matching env p) (first_in p) (λ g. fits env g p)
  walks = ind-Pattern IsWalk (λ x y is. subst (λ z. IsWalk (roll-Pattern z)) is (step y))

  pub whole_walk : (p : Pattern) (t : Term) → Goes (matching env p t []) [] (first_in p t) (fits env (first_in p t) p t)
  whole_walk p t = walks p t [] (first_in p t) (λ x u e. e)

  pub is_some-match_of : (p : Pattern) (t : Term) → is_some (match_of p env t) ≡ fits env (first_in p t) p t
  is_some-match_of p t = is_some-goes (overlaid env) (matching env p t []) (first_in p t) (fits env (first_in p t) p t) (whole_walk p t)
