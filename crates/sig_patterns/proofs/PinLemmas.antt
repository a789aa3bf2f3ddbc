-- A pattern that pins a variable whose value is a reference matches only terms that hold the reference. So where every clause
-- asks for a reference, a scan skips the messages that don't hold it.
use Rattle.std.proofs.Common.{◌≡◌, ℕ, suc, Bool, true, false, ◌||◌, List, [], ◌∷◌, ◌++◌, All, map, length, refl, sym, ap, subst, ◌∙◌, ⊎_elim, Option, Some, None, arith}
use Rattle.std.proofs.lemmas.Bool.{or_cases, or_left, or_right, both_ways}
use Rattle.std.proofs.lemmas.Option.{cond_some, option_and_then_some}
use Rattle.std.proofs.lemmas.List.Elements.{All-head, All-tail}
use Rattle.std.proofs.lemmas.Slice.Eq.{bytes_eq-Decides}
use Rattle.std.specs.List.{list_any}
use Rattle.std.specs.Option.{option_map, option_or}
use Rattle.std.specs.Str.{bytes_eq}
use Rattle.sig_terms.specs.Nodes.{holds_step, holds}
use Rattle.sig_terms.specs.TermTest.{same_term}
use Rattle.sig_terms.specs.declared.reference.Ref.{Ref}
use Rattle.sig_terms.specs.declared.term.Term.{Term, map-Term}
use Rattle.sig_terms.specs.declared.term.Term.TheVariants as term
use Rattle.sig_terms.specs.declared.term.Term.TheOpen.{Term-F}
use Rattle.sig_terms.specs.declared.term.Term.TheOpen as layer
use Rattle.sig_terms.specs.declared.term.Term.TheFolds.{fold-roll-Term, ind-Term}
use Rattle.sig_terms.specs.declared.term.Term.TheViews.{out-roll-Term}
use Rattle.sig_terms.proofs.SameTerms.{same_apart}
use Rattle.sig_terms.proofs.ReferenceLemmas.{same_ref_equiv}
use Rattle.sig_patterns.specs.declared.clause.Clause.{Clause}
use Rattle.sig_patterns.specs.declared.var.Var.{Var}
use Rattle.sig_patterns.specs.declared.pattern.Pattern.{Pattern, roll-Pattern, map-Pattern}
use Rattle.sig_patterns.specs.declared.pattern.Pattern.TheOpen.{Pattern-F}
use Rattle.sig_patterns.specs.declared.pattern.Pattern.TheOpen as pattern
use Rattle.sig_patterns.specs.declared.pattern.Pattern.TheFolds.{fold-roll-Pattern, ind-Pattern}
use Rattle.sig_patterns.specs.Environment.{Environment, value_of_var}
use Rattle.sig_patterns.specs.Matching.{Bindings, Matcher, asking, match_each, match_cons, match_step, matching, overlaid, match_of, tuple_layer, list_layer, tuple_items, list_items}
use Rattle.sig_patterns.specs.Pinning.{pins_step, pins, AskFor}
use Rattle.sig_patterns.proofs.Taking.{takes_none}
use Rattle.sig_patterns.specs.Scanning.{Hit, takes, hit_by, behind_clause, behind_message, behind_messages, found_behind, hit_here, hit, places_of, scan}

module _ (r : Ref) where
  -- what holds the reference: it itself, a tuple or a list with an element that holds it
  ref_holds : holds r (term.Ref r) ≡ true
  ref_holds = ap (holds r) (sym (term.rolls-Ref r)) ∙ fold-roll-Term Bool (holds_step r) (layer.Ref r) ∙ same_ref_equiv.refl r

  tuple_at : (z : Term-F Term) (ts : List Term) → tuple_layer z ≡ Some ts → list_any (λ b. b) (map (holds r) ts) ≡ true → holds_step r (map-Term Term Bool (holds r) z) ≡ true
  tuple_at (layer.Tuple us) ts e h = cc
  tuple_at _ ts e h = absurd cc

  list_at : (z : Term-F Term) (ts : List Term) → list_layer z ≡ Some ts → list_any (λ b. b) (map (holds r) ts) ≡ true → holds_step r (map-Term Term Bool (holds r) z) ≡ true
  list_at (layer.List us) ts e h = cc
  list_at _ ts e h = absurd cc

  tuple_holds : (t : Term) (ts : List Term) → tuple_items t ≡ Some ts → list_any (λ b. b) (map (holds r) ts) ≡ true → holds r t ≡ true
  tuple_holds = ind-Term (λ t. (ts : List Term) → tuple_items t ≡ Some ts → list_any (λ b. b) (map (holds r) ts) ≡ true → holds r t ≡ true)
      (λ z _ _ ts e h. fold-roll-Term Bool (holds_step r) z ∙ tuple_at z ts (ap tuple_layer (sym (out-roll-Term z)) ∙ e) h)

  list_holds : (t : Term) (ts : List Term) → list_items t ≡ Some ts → list_any (λ b. b) (map (holds r) ts) ≡ true → holds r t ≡ true
  list_holds = ind-Term (λ t. (ts : List Term) → list_items t ≡ Some ts → list_any (λ b. b) (map (holds r) ts) ≡ true → holds r t ≡ true)
      (λ z _ _ ts e h. fold-roll-Term Bool (holds_step r) z ∙ list_at z ts (ap list_layer (sym (out-roll-Term z)) ∙ e) h)

  in_list : (ts : List Term) → holds r (term.List ts) ≡ list_any (λ b. b) (map (holds r) ts)
  in_list ts = ap (holds r) (sym (term.rolls-List ts)) ∙ fold-roll-Term Bool (holds_step r) (layer.List ts)

  module _ (env : Environment) (x : Var) (value : value_of_var env x.0 ≡ term.Ref r) where
    -- what a matcher matches holds the reference, where its pattern pins the variable
    abbrev Held : Matcher → Bool → Type 0
    Held m pinned = (t : Term) (bound after : Bindings) → m t bound ≡ Some after → pinned ≡ true → holds r t ≡ true

    abbrev IsHeld : Pattern → Type 0
    IsHeld p = Held (matching env p) (pins p x)

    abbrev Helds : Type 0
    Helds = List ((p : Pattern) × IsHeld p)

    abbrev patterns : Helds → List Pattern
    patterns es = map (λ e. e.0) es

    never : (m : Matcher) → Held m false
    never m t bound after e h = absurd cc

    pin_held : (var : Var) → Held (asking (value_of_var env var.0)) (bytes_eq var.0 x.0)
    pin_held var t bound after e h =
        let same : var.0 ≡ x.0 = (bytes_eq-Decides var.0 x.0).0 h in
        let equal : value_of_var env var.0 ≡ t = same_apart (value_of_var env var.0) t (cond_some (same_term (value_of_var env var.0) t) bound after e).0 in
        ap (holds r) (sym equal ∙ ap (value_of_var env) same ∙ value) ∙ ref_holds

    each : (es : Helds) (ts : List Term) (bound after : Bindings) → match_each (map (matching env) (patterns es)) ts bound ≡ Some after
        → list_any (λ b. b) (map (λ p. pins p x) (patterns es)) ≡ true → list_any (λ b. b) (map (holds r) ts) ≡ true
    each [] ts bound after e h = absurd cc
    each (p ∷ es) [] bound after e h = absurd cc
    each (p ∷ es) (t ∷ ts) bound after e h =
        option_and_then_some (match_each (map (matching env) (patterns es)) ts) (matching env p.0 t bound) after e
        (λ mid here later. ⊎_elim
        (λ a. or_left (holds r t) _ (p.1 t bound mid here a))
        (λ b. or_right (holds r t) _ (each es ts mid after later b))
        (or_cases (pins p.0 x) (list_any (λ b. b) (map (λ q. pins q x) (patterns es))) h))

    cons : (e q : (p : Pattern) × IsHeld p) (ts : List Term) (bound after : Bindings) → match_cons (matching env e.0) (matching env q.0) ts bound ≡ Some after
        → (pins e.0 x || pins q.0 x) ≡ true → list_any (λ b. b) (map (holds r) ts) ≡ true
    cons e q [] bound after is h = absurd cc
    cons e q (t ∷ ts) bound after is h =
        option_and_then_some (matching env q.0 (term.List ts)) (matching env e.0 t bound) after is
        (λ mid here later. ⊎_elim
        (λ a. or_left (holds r t) _ (e.1 t bound mid here a))
        (λ b. or_right (holds r t) _ (sym (in_list ts) ∙ q.1 (term.List ts) mid after later b))
        (or_cases (pins e.0 x) (pins q.0 x) h))

    at : (z : Pattern-F Pattern) → Held (match_step env (map-Pattern Pattern Matcher (matching env) z)) (pins_step x (map-Pattern Pattern Bool (λ p. pins p x) z)) → IsHeld (roll-Pattern z)
    at z = subst {A = Matcher × Bool} (λ w. Held w.0 w.1)
        (λ i. (sym (fold-roll-Pattern Matcher (match_step env) z) i, sym (fold-roll-Pattern Bool (pins_step x) z) i))

    step : (y : Pattern-F ((p : Pattern) × IsHeld p)) → IsHeld (roll-Pattern (map-Pattern ((p : Pattern) × IsHeld p) Pattern (λ e. e.0) y))
    step pattern.Any = at pattern.Any (never (match_step env pattern.Any))
    step (pattern.Bind var) = at (pattern.Bind var) (never (match_step env (pattern.Bind var)))
    step (pattern.Pin var) = at (pattern.Pin var) (pin_held var)
    step (pattern.Int n) = at (pattern.Int n) (never (match_step env (pattern.Int n)))
    step (pattern.Atom a) = at (pattern.Atom a) (never (match_step env (pattern.Atom a)))
    step (pattern.Pid p) = at (pattern.Pid p) (never (match_step env (pattern.Pid p)))
    step (pattern.Tuple es) = at (pattern.Tuple (patterns es))
        (λ t bound after e h. option_and_then_some (λ ts. match_each (map (matching env) (patterns es)) ts bound) (tuple_items t) after e
        (λ ts is matched. tuple_holds t ts is (each es ts bound after matched h)))
    step (pattern.List es) = at (pattern.List (patterns es))
        (λ t bound after e h. option_and_then_some (λ ts. match_each (map (matching env) (patterns es)) ts bound) (list_items t) after e
        (λ ts is matched. list_holds t ts is (each es ts bound after matched h)))
    step (pattern.Cons e q) = at (pattern.Cons e.0 q.0)
        (λ t bound after is h. option_and_then_some (λ ts. match_cons (matching env e.0) (matching env q.0) ts bound) (list_items t) after is
        (λ ts items matched. list_holds t ts items (cons e q ts bound after matched h)))

    held : (p : Pattern) → IsHeld p
    held = ind-Pattern IsHeld (λ w y is. subst (λ z. IsHeld (roll-Pattern z)) is (step y))

    held_by : (p : Pattern) (t : Term) (o : Option Bindings) (e : Environment) → matching env p t [] ≡ o → option_map (overlaid env) o ≡ Some e → pins p x ≡ true → holds r t ≡ true
    held_by p t None e is some pinned = absurd cc
    held_by p t (Some after) e is some pinned = held p t [] after is pinned

  pub pinned_is_held : (p : Pattern) (env : Environment) (t : Term) (e : Environment) (x : Var) → match_of p env t ≡ Some e → pins p x ≡ true → value_of_var env x.0 ≡ term.Ref r → holds r t ≡ true
  pinned_is_held p env t e x is pinned value = held_by env x value p t (matching env p t []) e refl is pinned

  module _ (env : Environment) where
    unmatched : (p : Pattern) (t : Term) (x : Var) (o : Option Environment) → match_of p env t ≡ o → pins p x ≡ true → value_of_var env x.0 ≡ term.Ref r → holds r t ≡ false → o ≡ None
    unmatched p t x None is pinned value without = refl
    unmatched p t x (Some e) is pinned value without = absurd (both_ways (holds r t) without (pinned_is_held p env t e x is pinned value))

    -- no clause takes a message that doesn't hold the reference
    none_here : (clauses : List Clause) (t : Term) → AskFor env r clauses → holds r t ≡ false → hit_here clauses env t ≡ None
    none_here [] t asked without = refl
    none_here (c ∷ clauses) t asked without =
        let own = All-head (λ (d : Clause). (x : Var) × (pins d.pattern x ≡ true) × (value_of_var env x.0 ≡ term.Ref r)) c clauses asked in
        let others = All-tail (λ (d : Clause). (x : Var) × (pins d.pattern x ≡ true) × (value_of_var env x.0 ≡ term.Ref r)) c clauses asked in
        let first : takes c env t ≡ None = takes_none c env t (unmatched c.pattern t own.0 (match_of c.pattern env t) refl own.1 own.2 without) in
        ap (λ (o : Option Environment). option_or (option_map (hit_by c t) o) (option_map behind_clause (hit_here clauses env t))) first
        ∙ ap (option_map behind_clause) (none_here clauses t others without)

    further : (n : ℕ) (o : Option Hit) → option_map behind_message (option_map (behind_messages n) o) ≡ option_map (behind_messages (suc n)) o
    further n None = refl
    further n (Some h) = ap (λ (k : ℕ). Some (record h { at = k })) (omega arith)

    at_once : (o : Option Hit) → o ≡ option_map (behind_messages 0) o
    at_once None = refl
    at_once (Some h) = ap (λ (k : ℕ). Some (record h { at = k })) (omega arith)

    -- where every clause asks for the reference, and none of the older messages holds it
    pub older_skipped : (clauses : List Clause) (older rest : List Term) → AskFor env r clauses → All (λ t. holds r t ≡ false) older →
        hit clauses env (older ++ rest) ≡ option_map (behind_messages (length older)) (hit clauses env rest)
    unfolding hit
    older_skipped clauses [] rest asked without = at_once (hit clauses env rest)
    older_skipped clauses (t ∷ older) rest asked without =
        ap (λ (o : Option Hit). option_or o (option_map behind_message (hit clauses env (older ++ rest)))) (none_here clauses t asked (All-head (λ u. holds r u ≡ false) t older without))
        ∙ ap (option_map behind_message) (older_skipped clauses older rest asked (All-tail (λ u. holds r u ≡ false) t older without))
        ∙ further (length older) (hit clauses env rest)

    placed_behind : (n : ℕ) (o : Option Hit) → option_map places_of (option_map (behind_messages n) o) ≡ option_map (found_behind n) (option_map places_of o)
    placed_behind n None = refl
    placed_behind n (Some h) = refl

    pub older_scanned : (clauses : List Clause) (older rest : List Term) → AskFor env r clauses → All (λ t. holds r t ≡ false) older →
        scan clauses env (older ++ rest) ≡ option_map (found_behind (length older)) (scan clauses env rest)
    older_scanned clauses older rest asked without =
        ap (option_map places_of) (older_skipped clauses older rest asked without) ∙ placed_behind (length older) (hit clauses env rest)
