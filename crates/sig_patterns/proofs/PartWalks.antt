-- What the walks over a pattern give at a variable, at a tuple or a list, and at a list that is cut behind its first element.
use Rattle.std.proofs.Common.{◌≡◌, ℕ, Bool, false, List, [], ◌∷◌, ◌++◌, map, refl, sym, ap, ◌∙◌, Option, Some, None, option_and_then}
use Rattle.std.specs.Option.{option_map_or}
use Rattle.sig_terms.specs.declared.term.Term.{Term}
use Rattle.sig_terms.specs.declared.term.Term.TheVariants as term
use Rattle.sig_patterns.specs.declared.var.Var.{Var}
use Rattle.sig_patterns.specs.declared.pattern.Pattern.{Pattern, roll-Pattern, map-Pattern}
use Rattle.sig_patterns.specs.declared.pattern.Pattern.TheVariants as pattern
use Rattle.sig_patterns.specs.declared.pattern.Pattern.TheOpen.{Pattern-F}
use Rattle.sig_patterns.specs.declared.pattern.Pattern.TheOpen as layer
use Rattle.sig_patterns.specs.declared.pattern.Pattern.TheFolds.{fold-roll-Pattern}
use Rattle.sig_patterns.specs.Environment.{Environment}
use Rattle.sig_patterns.specs.Matching.{Bindings, tuple_items, list_items}
use Rattle.sig_patterns.specs.Fitting.{Places, first_each, first_step, first_in, fits_all, fits_cons, fits_step, fits, Placer, placed_each, placed_cons, placed_step, placed, split}

fits_at : (env : Environment) (first : Places) (x : Pattern-F Pattern) (t : Term) → fits_step env first (map-Pattern Pattern (Term → Bool) (fits env first) x) t ≡ fits env first (roll-Pattern x) t
fits_at env first x t = sym (ap (λ (f : Term → Bool). f t) (fold-roll-Pattern (Term → Bool) (fits_step env first) x))

pub fits_case : (env : Environment) (first : Places) (x : Pattern-F Pattern) (p : Pattern) (t : Term) → p ≡ roll-Pattern x → fits_step env first (map-Pattern Pattern (Term → Bool) (fits env first) x) t ≡ fits env first p t
fits_case env first x p t is = fits_at env first x t ∙ ap (λ (q : Pattern). fits env first q t) (sym is)

pub fits_tuple : (env : Environment) (first : Places) (p : Pattern) (ps : List Pattern) (t : Term) (items : Option (List Term)) → p ≡ pattern.Tuple ps → items ≡ tuple_items t
    → option_map_or (fits_all (map (fits env first) ps)) items false ≡ fits env first p t
fits_tuple env first p ps t items is met =
    ap (λ o. option_map_or (fits_all (map (fits env first) ps)) o false) met ∙ fits_at env first (layer.Tuple ps) t ∙ ap (λ (q : Pattern). fits env first q t) (pattern.rolls-Tuple ps ∙ sym is)

pub fits_list : (env : Environment) (first : Places) (p : Pattern) (ps : List Pattern) (t : Term) (items : Option (List Term)) → p ≡ pattern.List ps → items ≡ list_items t
    → option_map_or (fits_all (map (fits env first) ps)) items false ≡ fits env first p t
fits_list env first p ps t items is met =
    ap (λ o. option_map_or (fits_all (map (fits env first) ps)) o false) met ∙ fits_at env first (layer.List ps) t ∙ ap (λ (q : Pattern). fits env first q t) (pattern.rolls-List ps ∙ sym is)

-- no list that has a first element
no_head : (head tail : Term → Bool) (o : Option (List Term)) → ◌≡◌ {A = Option (Term × List Term)} None (option_and_then split o) → false ≡ option_map_or (fits_cons head tail) o false
no_head head tail None e = refl
no_head head tail (Some []) e = refl
no_head head tail (Some (t ∷ ts)) e = absurd cc

pub fits_uncut : (env : Environment) (first : Places) (p head tail : Pattern) (t : Term) → p ≡ pattern.Cons head tail → ◌≡◌ {A = Option (Term × List Term)} None (option_and_then split (list_items t)) → false ≡ fits env first p t
fits_uncut env first p head tail t is none =
    no_head (fits env first head) (fits env first tail) (list_items t) none ∙ fits_case env first (layer.Cons head tail) p t (is ∙ sym (pattern.rolls-Cons head tail))

first_at : (x : Pattern-F Pattern) (t : Term) (var : List ℕ) → first_step (map-Pattern Pattern (Term → Places) first_in x) t var ≡ first_in (roll-Pattern x) t var
first_at x t var = sym (ap (λ (f : Term → Places). f t var) (fold-roll-Pattern (Term → Places) first_step x))

pub first_tuple : (p : Pattern) (ps : List Pattern) (t : Term) (var : List ℕ) (items : Option (List Term)) → p ≡ pattern.Tuple ps → items ≡ tuple_items t
    → option_and_then (λ ts. first_each (map first_in ps) ts var) items ≡ first_in p t var
first_tuple p ps t var items is met =
    ap (option_and_then (λ ts. first_each (map first_in ps) ts var)) met ∙ first_at (layer.Tuple ps) t var ∙ ap (λ (q : Pattern). first_in q t var) (pattern.rolls-Tuple ps ∙ sym is)

pub first_list : (p : Pattern) (ps : List Pattern) (t : Term) (var : List ℕ) (items : Option (List Term)) → p ≡ pattern.List ps → items ≡ list_items t
    → option_and_then (λ ts. first_each (map first_in ps) ts var) items ≡ first_in p t var
first_list p ps t var items is met =
    ap (option_and_then (λ ts. first_each (map first_in ps) ts var)) met ∙ first_at (layer.List ps) t var ∙ ap (λ (q : Pattern). first_in q t var) (pattern.rolls-List ps ∙ sym is)

placed_at : (x : Pattern-F Pattern) (t : Term) → placed_step (map-Pattern Pattern Placer placed x) t ≡ placed (roll-Pattern x) t
placed_at x t = sym (ap (λ (f : Placer). f t) (fold-roll-Pattern Placer placed_step x))

pub placed_bind : (p : Pattern) (var : Var) (t : Term) → p ≡ pattern.Bind var → (var.0, t) ∷ [] ≡ placed p t
placed_bind p var t is = placed_at (layer.Bind var) t ∙ ap (λ (q : Pattern). placed q t) (pattern.rolls-Bind var ∙ sym is)

pub placed_tuple : (p : Pattern) (ps : List Pattern) (t : Term) (items : Option (List Term)) → p ≡ pattern.Tuple ps → items ≡ tuple_items t → option_map_or (placed_each (map placed ps)) items [] ≡ placed p t
placed_tuple p ps t items is met =
    ap (λ o. option_map_or (placed_each (map placed ps)) o []) met ∙ placed_at (layer.Tuple ps) t ∙ ap (λ (q : Pattern). placed q t) (pattern.rolls-Tuple ps ∙ sym is)

pub placed_list : (p : Pattern) (ps : List Pattern) (t : Term) (items : Option (List Term)) → p ≡ pattern.List ps → items ≡ list_items t → option_map_or (placed_each (map placed ps)) items [] ≡ placed p t
placed_list p ps t items is met =
    ap (λ o. option_map_or (placed_each (map placed ps)) o []) met ∙ placed_at (layer.List ps) t ∙ ap (λ (q : Pattern). placed q t) (pattern.rolls-List ps ∙ sym is)

-- what is placed where there are a first element and a rest
abbrev both : Pattern → Pattern → Option (Term × List Term) → Bindings
both head tail parts = option_map_or (λ (w : Term × List Term). placed head w.0 ++ placed tail (term.List w.1)) parts []

split_places : (head tail : Pattern) (o : Option (List Term)) → both head tail (option_and_then split o) ≡ option_map_or (placed_cons (placed head) (placed tail)) o []
split_places head tail None = refl
split_places head tail (Some []) = refl
split_places head tail (Some (t ∷ ts)) = refl

pub placed_cut : (p head tail : Pattern) (seen t : Term) (ts : List Term) → p ≡ pattern.Cons head tail → ◌≡◌ {A = Option (Term × List Term)} (Some (t, ts)) (option_and_then split (list_items seen))
    → placed head t ++ placed tail (term.List ts) ≡ placed p seen
placed_cut p head tail seen t ts is parts =
    ap (both head tail) parts ∙ split_places head tail (list_items seen) ∙ placed_at (layer.Cons head tail) seen ∙ ap (λ (q : Pattern). placed q seen) (pattern.rolls-Cons head tail ∙ sym is)
