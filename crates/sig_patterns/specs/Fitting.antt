-- The match once more, for a walk that carries no bindings: at each variable it compares with the term at the variable's
-- first place in the whole pattern. And what a match binds, place by place.
use Rattle.std.specs.Prelude.{ℕ, List, [], ◌∷◌, ◌++◌, map, Bool, true, false, ◌&&◌, ◌==◌, length, if◌then◌else◌, Option, Some, None, option_and_then}
use Rattle.std.specs.Option.{option_or, option_map_or, unwrap_or}
use Rattle.std.specs.Str.{bytes_eq}
use Rattle.sig_terms.specs.TermTest.{same_term}
use Rattle.sig_terms.specs.declared.term.Term.{Term}
use Rattle.sig_terms.specs.declared.term.Term.TheVariants as term
use Rattle.sig_patterns.specs.declared.pattern.Pattern.{Pattern}
use Rattle.sig_patterns.specs.declared.pattern.Pattern.TheOpen.{Pattern-F}
use Rattle.sig_patterns.specs.declared.pattern.Pattern.TheOpen as pattern
use Rattle.sig_patterns.specs.declared.pattern.Pattern.TheFolds.{fold-Pattern}
use Rattle.sig_patterns.specs.declared.binding.Binding.{Binding}
use Rattle.sig_patterns.specs.declared.matching.Against.{Against}
use Rattle.sig_patterns.specs.declared.seen.Seen.{Seen}
use Rattle.sig_patterns.specs.declared.seen.Seen.TheVariants.{Whole, Rest}
use Rattle.sig_patterns.specs.Environment.{Environment, value_of_var}
use Rattle.sig_patterns.specs.Matching.{Bindings, tuple_items, list_items}
use Rattle.sig_patterns.specs.Guarding.{Values}

-- the rest of a list is a list
abbrev pub term_seen : Seen → Term
term_seen (Whole t) = t.now
term_seen (Rest ts) = term.List ts.now

-- the first one and the rest
abbrev pub split : List Term → Option (Term × List Term)
split [] = None
split (t ∷ ts) = Some (t, ts)

-- the first place of each variable in a pattern
abbrev pub Places : Type 0
Places = List ℕ → Option Term

abbrev pub first_each : List (Term → Places) → List Term → Places
first_each (f ∷ fs) (t ∷ ts) x = option_or (f t x) (first_each fs ts x)
first_each _ _ x = None

abbrev pub first_cons : (Term → Places) → (Term → Places) → List Term → Places
first_cons head tail [] x = None
first_cons head tail (t ∷ ts) x = option_or (head t x) (tail (term.List ts) x)

abbrev pub first_step : Pattern-F (Term → Places) → Term → Places
first_step (pattern.Bind var) t x = if bytes_eq x var.0 then Some t else None
first_step (pattern.Tuple fs) t x = option_and_then (λ ts. first_each fs ts x) (tuple_items t)
first_step (pattern.List fs) t x = option_and_then (λ ts. first_each fs ts x) (list_items t)
first_step (pattern.Cons head tail) t x = option_and_then (λ ts. first_cons head tail ts x) (list_items t)
first_step _ t x = None

abbrev pub first_in : Pattern → Term → Places
first_in = fold-Pattern (Term → Places) first_step

abbrev pub fits_each : List (Term → Bool) → List Term → Bool
fits_each (k ∷ ks) (t ∷ ts) = k t && fits_each ks ts
fits_each _ _ = true

abbrev pub fits_all : List (Term → Bool) → List Term → Bool
fits_all ks ts = (length ks == length ts) && fits_each ks ts

abbrev pub fits_cons : (Term → Bool) → (Term → Bool) → List Term → Bool
fits_cons head tail [] = false
fits_cons head tail (t ∷ ts) = head t && tail (term.List ts)

abbrev pub fits_step : Environment → Places → Pattern-F (Term → Bool) → Term → Bool
fits_step env first pattern.Any t = true
fits_step env first (pattern.Bind var) t = option_map_or (λ u. same_term u t) (first var.0) false
fits_step env first (pattern.Pin var) t = same_term (value_of_var env var.0) t
fits_step env first (pattern.Int n) t = same_term (term.Int n) t
fits_step env first (pattern.Atom a) t = same_term (term.Atom a) t
fits_step env first (pattern.Pid p) t = same_term (term.Pid p) t
fits_step env first (pattern.Tuple ks) t = option_map_or (fits_all ks) (tuple_items t) false
fits_step env first (pattern.List ks) t = option_map_or (fits_all ks) (list_items t) false
fits_step env first (pattern.Cons head tail) t = option_map_or (fits_cons head tail) (list_items t) false

abbrev pub fits : Environment → Places → Pattern → Term → Bool
fits env first = fold-Pattern (Term → Bool) (fits_step env first)

-- the values of the variables after a match: what each meets at its first place, else its value before the match
abbrev pub values_met : Places → Environment → Values
values_met first env x = unwrap_or (first x) (value_of_var env x)

abbrev pub values_in : Against → Values
values_in whole = values_met (first_in whole.pattern.now (term_seen whole.seen)) whole.env.now

-- the variables of a pattern, each with the term at each of its places, in the order of the places
abbrev pub Placer : Type 0
Placer = Term → Bindings

abbrev pub placed_each : List Placer → List Term → Bindings
placed_each (f ∷ fs) (t ∷ ts) = f t ++ placed_each fs ts
placed_each _ _ = []

abbrev pub placed_cons : Placer → Placer → List Term → Bindings
placed_cons head tail [] = []
placed_cons head tail (t ∷ ts) = head t ++ tail (term.List ts)

abbrev pub placed_step : Pattern-F Placer → Placer
placed_step (pattern.Bind var) t = (var.0, t) ∷ []
placed_step (pattern.Tuple fs) t = option_map_or (placed_each fs) (tuple_items t) []
placed_step (pattern.List fs) t = option_map_or (placed_each fs) (list_items t) []
placed_step (pattern.Cons head tail) t = option_map_or (placed_cons head tail) (list_items t) []
placed_step _ t = []

abbrev pub placed : Pattern → Placer
placed = fold-Pattern Placer placed_step

abbrev pub bindings_of : List Binding → Bindings
bindings_of bindings = map (λ b. (b.var.now.0, b.value)) bindings
