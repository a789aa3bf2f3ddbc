-- What is placed binds each variable to the term at its first place. So where the pattern matches, the environment of the match
-- is the one with what is placed laid over it.
use Rattle.std.proofs.Common.{◌≡◌, ℕ, Bool, true, false, cond, List, [], ◌∷◌, ◌++◌, map, refl, sym, ap, subst, ◌∙◌, Option, Some, None, option_and_then, is_some, Result, Ok, Err, OnOk, OnErr, MatchResult}
use Rattle.std.proofs.lemmas.Bool.{true≢false}
use Rattle.std.proofs.lemmas.List.{map-append}
use Rattle.std.proofs.lemmas.Map.Text.{is_eq-slice_cmp}
use Rattle.std.specs.Option.{option_or, option_map, option_map_or}
use Rattle.std.specs.Cmp.Lexicographic.{nat_list_cmp_total}
use Rattle.std.specs.FinMap.{get, insert, get-insert, same_map, slice_cmp-IsAntisymmetric, nat_cmp-IsAntisymmetric}
use Rattle.std.specs.Str.{bytes_eq}
use Rattle.sig_terms.specs.declared.term.Term.{Term}
use Rattle.sig_terms.specs.declared.term.Term.TheVariants as term
use Rattle.sig_patterns.specs.declared.binding.Binding.{Binding}
use Rattle.sig_patterns.specs.declared.pattern.Pattern.{Pattern, roll-Pattern, map-Pattern}
use Rattle.sig_patterns.specs.declared.pattern.Pattern.TheOpen.{Pattern-F}
use Rattle.sig_patterns.specs.declared.pattern.Pattern.TheOpen as pattern
use Rattle.sig_patterns.specs.declared.pattern.Pattern.TheFolds.{fold-roll-Pattern, ind-Pattern}
use Rattle.sig_patterns.specs.Environment.{Environment}
use Rattle.sig_patterns.specs.Matching.{Bindings, bound_to, matching, overlaid, match_of, tuple_items, list_items}
use Rattle.sig_patterns.specs.Fitting.{Places, Placer, first_each, first_cons, first_step, first_in, placed_each, placed_cons, placed_step, placed, bindings_of, fits}
use Rattle.sig_patterns.proofs.Bindings.{Goes}
use Rattle.sig_patterns.proofs.Walks.{whole_walk}

abbrev BindsFirst : Placer → (Term → Places) → Type 0
BindsFirst f first = (t : Term) (x : List ℕ) → bound_to (f t) x ≡ first t x

abbrev IsPlacing : Pattern → Type 0
IsPlacing p = BindsFirst (placed p) (first_in p)

abbrev Placings : Type 0
Placings = List ((p : Pattern) × IsPlacing p)

abbrev patterns : Placings → List Pattern
patterns es = map (λ e. e.0) es

or_cond : (b : Bool) (t : Term) (o p : Option Term) → cond b (Some t) (option_or o p) ≡ option_or (cond b (Some t) o) p
or_cond true t o p = refl
or_cond false t o p = refl

bound_to-append : (a b : Bindings) (x : List ℕ) → bound_to (a ++ b) x ≡ option_or (bound_to a x) (bound_to b x)
bound_to-append [] b x = refl
bound_to-append (c ∷ a) b x = ap (cond (bytes_eq x c.0) (Some c.1)) (bound_to-append a b x) ∙ or_cond (bytes_eq x c.0) c.1 (bound_to a x) (bound_to b x)

get-inserted : (env : Environment) (v : List ℕ) (t : Term) (x : List ℕ) → get (insert env v t) x ≡ cond (bytes_eq x v) (Some t) (get env x)
get-inserted env v t x = get-insert nat_list_cmp_total env v t x ∙ ap (λ b. cond b (Some t) (get env x)) (is_eq-slice_cmp x v)

each : (es : Placings) (ts : List Term) (x : List ℕ) → bound_to (placed_each (map placed (patterns es)) ts) x ≡ first_each (map first_in (patterns es)) ts x
each [] ts x = refl
each (e ∷ es) [] x = refl
each (e ∷ es) (t ∷ ts) x =
    bound_to-append (placed e.0 t) (placed_each (map placed (patterns es)) ts) x
    ∙ ap (option_or (bound_to (placed e.0 t) x)) (each es ts x)
    ∙ ap (λ o. option_or o (first_each (map first_in (patterns es)) ts x)) (e.1 t x)

cons : (e q : (p : Pattern) × IsPlacing p) (ts : List Term) (x : List ℕ) → bound_to (placed_cons (placed e.0) (placed q.0) ts) x ≡ first_cons (first_in e.0) (first_in q.0) ts x
cons e q [] x = refl
cons e q (t ∷ ts) x =
    bound_to-append (placed e.0 t) (placed q.0 (term.List ts)) x
    ∙ ap (option_or (bound_to (placed e.0 t) x)) (q.1 (term.List ts) x)
    ∙ ap (λ o. option_or o (first_in q.0 (term.List ts) x)) (e.1 t x)

each_of : (es : Placings) (o : Option (List Term)) (x : List ℕ) → bound_to (option_map_or (placed_each (map placed (patterns es))) o []) x ≡ option_and_then (λ ts. first_each (map first_in (patterns es)) ts x) o
each_of es None x = refl
each_of es (Some ts) x = each es ts x

cons_of : (e q : (p : Pattern) × IsPlacing p) (o : Option (List Term)) (x : List ℕ)
    → bound_to (option_map_or (placed_cons (placed e.0) (placed q.0)) o []) x ≡ option_and_then (λ ts. first_cons (first_in e.0) (first_in q.0) ts x) o
cons_of e q None x = refl
cons_of e q (Some ts) x = cons e q ts x

at : (x : Pattern-F Pattern) → BindsFirst (placed_step (map-Pattern Pattern Placer placed x)) (first_step (map-Pattern Pattern (Term → Places) first_in x)) → IsPlacing (roll-Pattern x)
at x =
    subst {A = Placer × (Term → Places)} (λ w. BindsFirst w.0 w.1)
    (λ i. (sym (fold-roll-Pattern Placer placed_step x) i, sym (fold-roll-Pattern (Term → Places) first_step x) i))

step : (y : Pattern-F ((p : Pattern) × IsPlacing p)) → IsPlacing (roll-Pattern (map-Pattern ((p : Pattern) × IsPlacing p) Pattern (λ e. e.0) y))
step pattern.Any = at pattern.Any (λ t x. refl)
step (pattern.Bind var) = at (pattern.Bind var) (λ t x. refl)
step (pattern.Pin var) = at (pattern.Pin var) (λ t x. refl)
step (pattern.Int n) = at (pattern.Int n) (λ t x. refl)
step (pattern.Atom a) = at (pattern.Atom a) (λ t x. refl)
step (pattern.Pid p) = at (pattern.Pid p) (λ t x. refl)
step (pattern.Tuple es) = at (pattern.Tuple (patterns es)) (λ t x. each_of es (tuple_items t) x)
step (pattern.List es) = at (pattern.List (patterns es)) (λ t x. each_of es (list_items t) x)
step (pattern.Cons e q) = at (pattern.Cons e.0 q.0) (λ t x. cons_of e q (list_items t) x)

placings : (p : Pattern) → IsPlacing p
placings = ind-Pattern IsPlacing (λ x y is. subst (λ z. IsPlacing (roll-Pattern z)) is (step y))

pub get-overlaid : (env : Environment) (bound : Bindings) (x : List ℕ) → get (overlaid env bound) x ≡ option_or (bound_to bound x) (get env x)
get-overlaid env [] x = refl
get-overlaid env (b ∷ bound) x =
    get-inserted (overlaid env bound) b.0 b.1 x
    ∙ ap (cond (bytes_eq x b.0) (Some b.1)) (get-overlaid env bound x)
    ∙ or_cond (bytes_eq x b.0) b.1 (bound_to bound x) (get env x)

placed_goes : (p : Pattern) (env : Environment) (t : Term) (o : Option Bindings) (b : Bool) → Goes o [] (first_in p t) b → is_some (option_map (overlaid env) o) ≡ true → Some (overlaid env (placed p t)) ≡ option_map (overlaid env) o
placed_goes p env t None b h is = absurd (true≢false (sym is))
placed_goes p env t (Some after) b h is =
    ap Some (same_map nat_list_cmp_total (slice_cmp-IsAntisymmetric nat_cmp-IsAntisymmetric) (overlaid env (placed p t)) (overlaid env after)
    (λ x. get-overlaid env (placed p t) x ∙ ap (λ o. option_or o (get env x)) (placings p t x ∙ sym (h.1 x)) ∙ sym (get-overlaid env after x)))

pub placed-match_of : (p : Pattern) (env : Environment) (t : Term) → is_some (match_of p env t) ≡ true → Some (overlaid env (placed p t)) ≡ match_of p env t
placed-match_of p env t is = placed_goes p env t (matching env p t []) (fits env (first_in p t) p t) (whole_walk env p t) is

-- one more binding at the end is put in first
overlaid-last : (env : Environment) (bound : Bindings) (var : List ℕ) (t : Term) → overlaid env (bound ++ (var, t) ∷ []) ≡ overlaid (insert env var t) bound
overlaid-last env [] var t = refl
overlaid-last env (b ∷ bound) var t = ap (λ e. insert e b.0 b.1) (overlaid-last env bound var t)

pub overlaid-bindings : (env : Environment) (bindings : List Binding) (b : Binding) → overlaid env (bindings_of (bindings ++ b ∷ [])) ≡ overlaid (insert env b.var.now.0 b.value) (bindings_of bindings)
overlaid-bindings env bindings b = ap (overlaid env) (map-append (λ (c : Binding). (c.var.now.0, c.value)) bindings (b ∷ [])) ∙ overlaid-last env (bindings_of bindings) b.var.now.0 b.value

-- the environment becomes the match's, or it stays
pub bound_or_as_before : {A E : Type 0} (r : Result A E) (now before after : Environment) (o : Option Environment) → OnOk r (now ≡ after) → OnErr r (now ≡ before) → Some after ≡ o
    → MatchResult r (λ _. Some now ≡ o) (λ _. now ≡ before)
bound_or_as_before (Ok a) now before after o ok err e = ap Some ok ∙ e
bound_or_as_before (Err b) now before after o ok err e = err
