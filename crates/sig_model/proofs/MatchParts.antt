-- What holds of the values of the variables, and of the messages, holds of all that a match binds and of the message that a scan
-- finds, where it holds of the parts of a term of which it holds: so of the names in terms, and of how large terms are.
use Rattle.std.proofs.Common.{◌≡◌, refl, ℕ, List, [], ◌∷◌, map, All, IfSome, Option, Some, None, option_and_then, sym, subst}
use Rattle.std.specs.Option.{option_map, option_or}
use Rattle.std.specs.Ordering.{nat_cmp, eq_by_cmp}
use Rattle.std.specs.Cmp.Lexicographic.{slice_cmp, nat_list_cmp_total}
use Rattle.std.specs.FinMap.{empty, get, insert, get-empty, get-insert}
use Rattle.std.proofs.lemmas.Bool.{cond_both}
use Rattle.std.proofs.lemmas.List.Elements.{All-nil, All-cons, All-head, All-tail}
use Rattle.sig_terms.specs.TermTest.{same_term}
use Rattle.sig_terms.specs.declared.reading.TheConstants.{READ_DEPTH, READ_NODES}
use Rattle.sig_terms.specs.declared.term.Term.{Term, out-Term}
use Rattle.sig_terms.specs.declared.term.Term.TheVariants as term
use Rattle.sig_terms.specs.declared.term.Term.TheOpen.{Term-F}
use Rattle.sig_terms.specs.declared.term.Term.TheOpen as layer
use Rattle.sig_terms.specs.Names.{Named, AllNames}
use Rattle.sig_terms.proofs.NameLemmas.{list_names, AllOfLayer, elements_tell}
use Rattle.sig_patterns.specs.declared.clause.Clause.{Clause}
use Rattle.sig_patterns.specs.declared.pattern.Pattern.{Pattern, roll-Pattern, map-Pattern}
use Rattle.sig_patterns.specs.declared.pattern.Pattern.TheOpen.{Pattern-F}
use Rattle.sig_patterns.specs.declared.pattern.Pattern.TheOpen as pattern
use Rattle.sig_patterns.specs.declared.pattern.Pattern.TheFolds.{fold-roll-Pattern, ind-Pattern}
use Rattle.sig_patterns.specs.Environment.{Environment, value_of_var}
use Rattle.sig_patterns.specs.Matching.{Bindings, Matcher, bound_to, asking, binding, match_each, match_cons, match_step, matching, overlaid, match_of, tuple_layer, list_layer, tuple_items, list_items}
use Rattle.sig_patterns.specs.Scanning.{Hit, takes, hit_by, behind_clause, behind_message, hit_here, hit}
use Rattle.sig_patterns.proofs.Taking.{takes_match}
use Rattle.sig_model.specs.TermSizes.{IsKeptTerm, AllValues}
use Rattle.sig_model.proofs.TermSizeLemmas.{AreWithin, PartsWithin, list_within, head_within, tail_within, parts_within}

-- what holds of the value, where there is one, through a step that may fail, and through a function
some_then : {A B : Type 0} (P : A → Type 0) (Q : B → Type 0) (f : A → Option B) (o : Option A) → IfSome o P → ((x : A) → P x → IfSome (f x) Q)
    → IfSome (option_and_then f o) Q
some_then P Q f None h g = tt
some_then P Q f (Some x) h g = g x h

some_mapped : {A B : Type 0} (P : A → Type 0) (Q : B → Type 0) (f : A → B) (o : Option A) → IfSome o P → ((x : A) → P x → Q (f x)) → IfSome (option_map f o) Q
some_mapped P Q f None h g = tt
some_mapped P Q f (Some x) h g = g x h

some_or : {A : Type 0} (P : A → Type 0) (o p : Option A) → IfSome o P → IfSome p P → IfSome (option_or o p) P
some_or P None p h k = k
some_or P (Some x) p h k = h

-- of a term to its elements Q, from them to the first and to those behind it, and from these to their list
pub record GoesToParts (P : Term → Type 0) (Q : List Term → Type 0) : Type 0 where
  pub tuple : (t : Term) → P t → IfSome (tuple_items t) Q
  pub list : (t : Term) → P t → IfSome (list_items t) Q
  pub head : (t : Term) (ts : List Term) → Q (t ∷ ts) → P t
  pub tail : (t : Term) (ts : List Term) → Q (t ∷ ts) → Q ts
  pub whole : (ts : List Term) → Q ts → P (term.List ts)

module _ (P : Term → Type 0) where
  -- the environment after a hit, and its message
  pub record HitValues (h : Hit) : Type 0 where
    pub env : AllValues P h.env
    pub message : P h.message

  pub empty_values : AllValues P empty
  empty_values var = subst (λ o. IfSome o P) (sym (get-empty {X = Term} (slice_cmp nat_cmp) var)) tt

  -- a variable gets a value
  pub insert_values : (env : Environment) (var : List ℕ) (t : Term) → AllValues P env → P t → AllValues P (insert env var t)
  insert_values env var t values h q =
      subst (λ o. IfSome o P) (sym (get-insert nat_list_cmp_total env var t q))
      (cond_both (eq_by_cmp (slice_cmp nat_cmp) q var) (Some t) (get env q) (λ o. IfSome o P) (λ e. h) (λ e. values q))

  -- the terms that are bound
  abbrev AllBound : Bindings → Type 0
  AllBound bound = All (λ (b : List ℕ × Term). P b.1) bound

  overlaid_values : (env : Environment) (bound : Bindings) → AllValues P env → AllBound bound → AllValues P (overlaid env bound)
  overlaid_values env [] values h = values
  overlaid_values env (b ∷ bound) values h =
      insert_values (overlaid env bound) b.0 b.1 (overlaid_values env bound values (All-tail (λ (c : List ℕ × Term). P c.1) b bound h))
      (All-head (λ (c : List ℕ × Term). P c.1) b bound h)

  -- a matcher binds such terms
  abbrev BindsOnly : Matcher → Type 0
  BindsOnly m = (t : Term) (bound : Bindings) → P t → AllBound bound → IfSome (m t bound) AllBound

  asking_binds : (wanted : Term) → BindsOnly (asking wanted)
  asking_binds wanted t bound k h = cond_both (same_term wanted t) (Some bound) None (λ o. IfSome o AllBound) (λ e. h) (λ e. tt)

  binding_binds : (o : Option Term) (var : List ℕ) → BindsOnly (binding o var)
  binding_binds None var t bound k h = All-cons (λ (b : List ℕ × Term). P b.1) (var, t) bound k h
  binding_binds (Some first) var t bound k h = asking_binds first t bound k h

  module _ (Q : List Term → Type 0) (goes : GoesToParts P Q) (env : Environment) where
    abbrev Matched : Type 0
    Matched = (p : Pattern) × BindsOnly (matching env p)

    abbrev patterns : List Matched → List Pattern
    patterns es = map (λ e. e.0) es

    each_binds : (es : List Matched) (ts : List Term) (bound : Bindings) → Q ts → AllBound bound → IfSome (match_each (map (matching env) (patterns es)) ts bound) AllBound
    each_binds [] [] bound k h = h
    each_binds [] (t ∷ ts) bound k h = tt
    each_binds (e ∷ es) [] bound k h = tt
    each_binds (e ∷ es) (t ∷ ts) bound k h =
        some_then AllBound AllBound (match_each (map (matching env) (patterns es)) ts) (matching env e.0 t bound) (e.1 t bound (goes.head t ts k) h)
        (λ after g. each_binds es ts after (goes.tail t ts k) g)

    cons_binds : (e q : Matched) (ts : List Term) (bound : Bindings) → Q ts → AllBound bound → IfSome (match_cons (matching env e.0) (matching env q.0) ts bound) AllBound
    cons_binds e q [] bound k h = tt
    cons_binds e q (t ∷ ts) bound k h =
        some_then AllBound AllBound (matching env q.0 (term.List ts)) (matching env e.0 t bound) (e.1 t bound (goes.head t ts k) h)
        (λ after g. q.1 (term.List ts) after (goes.whole ts (goes.tail t ts k)) g)

    at : (x : Pattern-F Pattern) → BindsOnly (match_step env (map-Pattern Pattern Matcher (matching env) x)) → BindsOnly (matching env (roll-Pattern x))
    at x = subst BindsOnly (sym (fold-roll-Pattern Matcher (match_step env) x))

    step : (y : Pattern-F Matched) → BindsOnly (matching env (roll-Pattern (map-Pattern Matched Pattern (λ e. e.0) y)))
    step pattern.Any = at pattern.Any (λ t bound k h. h)
    step (pattern.Bind var) = at (pattern.Bind var) (λ t bound k h. binding_binds (bound_to bound var.0) var.0 t bound k h)
    step (pattern.Pin var) = at (pattern.Pin var) (asking_binds (value_of_var env var.0))
    step (pattern.Int n) = at (pattern.Int n) (asking_binds (term.Int n))
    step (pattern.Atom a) = at (pattern.Atom a) (asking_binds (term.Atom a))
    step (pattern.Pid p) = at (pattern.Pid p) (asking_binds (term.Pid p))
    step (pattern.Tuple es) = at (pattern.Tuple (patterns es)) (λ t bound k h.
        some_then Q AllBound (λ ts. match_each (map (matching env) (patterns es)) ts bound) (tuple_items t) (goes.tuple t k) (λ ts g. each_binds es ts bound g h))
    step (pattern.List es) = at (pattern.List (patterns es)) (λ t bound k h.
        some_then Q AllBound (λ ts. match_each (map (matching env) (patterns es)) ts bound) (list_items t) (goes.list t k) (λ ts g. each_binds es ts bound g h))
    step (pattern.Cons e q) = at (pattern.Cons e.0 q.0) (λ t bound k h.
        some_then Q AllBound (λ ts. match_cons (matching env e.0) (matching env q.0) ts bound) (list_items t) (goes.list t k) (λ ts g. cons_binds e q ts bound g h))

    matching_binds : (p : Pattern) → BindsOnly (matching env p)
    matching_binds = ind-Pattern (λ p. BindsOnly (matching env p)) (λ x y is. subst (λ z. BindsOnly (matching env (roll-Pattern z))) is (step y))

    module _ (values : AllValues P env) where
      -- the environment after a match
      match_values : (p : Pattern) (t : Term) → P t → IfSome (match_of p env t) (AllValues P)
      match_values p t k =
          some_mapped AllBound (AllValues P) (overlaid env) (matching env p t []) (matching_binds p t [] k (All-nil (λ (b : List ℕ × Term). P b.1)))
          (λ bound h. overlaid_values env bound values h)

      taken : (c : Clause) (message : Term) (o : Option Environment) → takes c env message ≡ o → IfSome (match_of c.pattern env message) (AllValues P) → IfSome o (AllValues P)
      taken c message None e h = tt
      taken c message (Some after) e h = subst (λ o. IfSome o (AllValues P)) (takes_match c env message after e) h

      -- the environment after what a clause takes
      taken_values : (c : Clause) (message : Term) → P message → IfSome (takes c env message) (AllValues P)
      taken_values c message k = taken c message (takes c env message) refl (match_values c.pattern message k)

      here_values : (clauses : List Clause) (message : Term) → P message → IfSome (hit_here clauses env message) HitValues
      here_values [] message k = tt
      here_values (c ∷ clauses) message k =
          some_or HitValues (option_map (hit_by c message) (takes c env message)) (option_map behind_clause (hit_here clauses env message))
          (some_mapped (AllValues P) HitValues (hit_by c message) (takes c env message) (taken_values c message k) (λ after g. record { env = g; message = k }))
          (some_mapped HitValues HitValues behind_clause (hit_here clauses env message) (here_values clauses message k) (λ h g. record { env = g.env; message = g.message }))

      pub hit_values : (clauses : List Clause) (messages : List Term) → All P messages → IfSome (hit clauses env messages) HitValues
      unfolding hit
      hit_values clauses [] k = tt
      hit_values clauses (m ∷ ms) k =
          some_or HitValues (hit_here clauses env m) (option_map behind_message (hit clauses env ms)) (here_values clauses m (All-head P m ms k))
          (some_mapped HitValues HitValues behind_message (hit clauses env ms) (hit_values clauses ms (All-tail P m ms k)) (λ h g. record { env = g.env; message = g.message }))

-- the names in a term, and in its elements
module _ (P : Named → Type 0) where
  tuple_names : (x : Term-F Term) → AllOfLayer P x → IfSome (tuple_layer x) (All (AllNames P))
  tuple_names (layer.Tuple ts) h = h
  tuple_names _ h = tt

  elements_names : (x : Term-F Term) → AllOfLayer P x → IfSome (list_layer x) (All (AllNames P))
  elements_names (layer.List ts) h = h
  elements_names _ h = tt

  pub name_parts : GoesToParts (AllNames P) (All (AllNames P))
  name_parts = record {
    tuple = λ t h. tuple_names (out-Term t) (elements_tell P t h);
    list = λ t h. elements_names (out-Term t) (elements_tell P t h);
    head = λ t ts h. All-head (AllNames P) t ts h;
    tail = λ t ts h. All-tail (AllNames P) t ts h;
    whole = list_names P;
  }

-- the nodes of a term and its depth, and those of its elements
tuple_parts : (x : Term-F Term) → PartsWithin READ_NODES READ_DEPTH x → IfSome (tuple_layer x) (AreWithin READ_NODES READ_DEPTH)
tuple_parts (layer.Tuple ts) h = h
tuple_parts _ h = tt

list_parts : (x : Term-F Term) → PartsWithin READ_NODES READ_DEPTH x → IfSome (list_layer x) (AreWithin READ_NODES READ_DEPTH)
list_parts (layer.List ts) h = h
list_parts _ h = tt

pub size_parts : GoesToParts IsKeptTerm (AreWithin READ_NODES READ_DEPTH)
size_parts = record {
  tuple = λ t h. tuple_parts (out-Term t) (parts_within READ_NODES READ_DEPTH t h);
  list = λ t h. list_parts (out-Term t) (parts_within READ_NODES READ_DEPTH t h);
  head = head_within READ_NODES READ_DEPTH;
  tail = tail_within READ_NODES READ_DEPTH;
  whole = list_within READ_NODES READ_DEPTH;
}
