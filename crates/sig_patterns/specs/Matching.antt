-- Whether a pattern matches a term, and what it binds (Erlang Reference Manual, Pattern Matching; Expressions, Receive).
-- The variables of a pattern are bound from the left to the right.
use Rattle.std.specs.Prelude.{ℕ, List, [], ◌∷◌, if◌then◌else◌, Option, Some, None, option_and_then}
use Rattle.std.specs.Option.{option_map}
use Rattle.std.specs.Str.{bytes_eq}
use Rattle.std.specs.Map.{lookup}
use Rattle.std.specs.FinMap.{insert}
use Rattle.sig_terms.specs.TermTest.{same_term}
use Rattle.sig_terms.specs.declared.term.Term.{Term, out-Term}
use Rattle.sig_terms.specs.declared.term.Term.TheVariants as term
use Rattle.sig_terms.specs.declared.term.Term.TheOpen.{Term-F}
use Rattle.sig_terms.specs.declared.term.Term.TheOpen as layer
use Rattle.sig_patterns.specs.declared.pattern.Pattern.{Pattern}
use Rattle.sig_patterns.specs.declared.pattern.Pattern.TheOpen.{Pattern-F}
use Rattle.sig_patterns.specs.declared.pattern.Pattern.TheOpen as pattern
use Rattle.sig_patterns.specs.declared.pattern.Pattern.TheFolds.{fold-Pattern}
use Rattle.sig_patterns.specs.Environment.{Environment, value_of_var}

-- the elements of a tuple, and of a list
abbrev pub tuple_layer : Term-F Term → Option (List Term)
tuple_layer (layer.Tuple ts) = Some ts
tuple_layer _ = None

abbrev pub list_layer : Term-F Term → Option (List Term)
list_layer (layer.List ts) = Some ts
list_layer _ = None

abbrev pub tuple_items : Term → Option (List Term)
tuple_items t = tuple_layer (out-Term t)

abbrev pub list_items : Term → Option (List Term)
list_items t = list_layer (out-Term t)

-- what the pattern has bound so far, the newest first
abbrev pub Bindings : Type 0
Bindings = List (List ℕ × Term)

abbrev pub bound_to : Bindings → List ℕ → Option Term
bound_to bound var = lookup (bytes_eq var) bound

-- from a term and what is bound so far: what is bound then, or none
abbrev pub Matcher : Type 0
Matcher = Term → Bindings → Option Bindings

-- a term that is asked for
abbrev pub asking : Term → Matcher
asking wanted t bound = if same_term wanted t then Some bound else None

-- a variable that stands in the pattern for the first time is bound; one that is bound there asks for an equal term
abbrev pub binding : Option Term → List ℕ → Matcher
binding None var t bound = Some ((var, t) ∷ bound)
binding (Some first) var t bound = asking first t bound

-- as many terms, each of which matches at its place
abbrev pub match_each : List Matcher → List Term → Bindings → Option Bindings
match_each [] [] bound = Some bound
match_each (m ∷ ms) (t ∷ ts) bound = option_and_then (match_each ms ts) (m t bound)
match_each _ _ bound = None

-- the first term, and then the list of the rest
abbrev pub match_cons : Matcher → Matcher → List Term → Bindings → Option Bindings
match_cons head tail [] bound = None
match_cons head tail (t ∷ ts) bound = option_and_then (tail (term.List ts)) (head t bound)

-- by cases on the pattern, from what its parts match; `^X` asks for the value that X had before the match
abbrev pub match_step : Environment → Pattern-F Matcher → Matcher
match_step env pattern.Any t bound = Some bound
match_step env (pattern.Bind var) t bound = binding (bound_to bound var.0) var.0 t bound
match_step env (pattern.Pin var) t bound = asking (value_of_var env var.0) t bound
match_step env (pattern.Int n) t bound = asking (term.Int n) t bound
match_step env (pattern.Atom a) t bound = asking (term.Atom a) t bound
match_step env (pattern.Pid p) t bound = asking (term.Pid p) t bound
match_step env (pattern.Tuple ms) t bound = option_and_then (λ ts. match_each ms ts bound) (tuple_items t)
match_step env (pattern.List ms) t bound = option_and_then (λ ts. match_each ms ts bound) (list_items t)
match_step env (pattern.Cons head tail) t bound = option_and_then (λ ts. match_cons head tail ts bound) (list_items t)

abbrev pub matching : Environment → Pattern → Matcher
matching env = fold-Pattern Matcher (match_step env)

-- the environment with the bindings in the place of what its variables had
abbrev pub overlaid : Environment → Bindings → Environment
overlaid env [] = env
overlaid env (b ∷ bound) = insert (overlaid env bound) b.0 b.1

-- none, or the environment after the match
abbrev pub match_of : Pattern → Environment → Term → Option Environment
match_of p env t = option_map (overlaid env) (matching env p t [])
