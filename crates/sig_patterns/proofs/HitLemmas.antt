-- What a hit tells, and how the scan of a receive goes from a message to the next.
use Rattle.std.proofs.Common.{◌≡◌, ℕ, suc, ◌+◌, ◌<◌, Bool, true, false, not, nat_lt, cond, List, [], ◌∷◌, length, drop, get_or, refl, sym, ap, subst, ◌∙◌, Option, Some, None, is_some, arith, add-one}
use Rattle.std.proofs.lemmas.Grind.{common_steps}
use Rattle.std.proofs.lemmas.List.{drop_more}
use Rattle.std.specs.Prelude.{IfSome, position, slice_get}
use Rattle.std.specs.List.{position_or_len}
use Rattle.std.specs.Option.{option_map, option_or}
use Rattle.sig_terms.specs.declared.term.Term.{Term}
use Rattle.sig_patterns.specs.declared.clause.Clause.{Clause}
use Rattle.sig_patterns.specs.declared.found.Found.{Found}
use Rattle.sig_patterns.specs.Environment.{Environment}
use Rattle.sig_patterns.specs.Scanning.{Hit, takes, hit_by, behind_clause, behind_message, hit_here, hit, places_of, scan, first_clause}

-- the front message by this clause, or else what is found behind it
abbrev pub or_later : Option ℕ → Option Found → Option Found
or_later (Some clause) later = Some (record { at = 0; clause = clause })
or_later None later = option_map (λ f. record { at = f.at + 1; clause = f.clause }) later

abbrev at_front : ℕ → Found
at_front clause = record { at = 0; clause = clause }

-- the first place, by whether the first element passes
place_at : (b : Bool) (q n : ℕ) → cond (nat_lt (cond (not b) (1 + q) 0) (suc n)) (Some (cond (not b) (1 + q) 0)) None ≡ cond b (Some 0) (option_map (λ i. i + 1) (cond (nat_lt q n) (Some q) None))
place_at true q n = grind (arith, common_steps)
place_at false q n = grind (arith, common_steps)

position-cons : {A : Type 0} (p : A → Bool) (x : A) (xs : List A) → position p (x ∷ xs) ≡ cond (p x) (Some 0) (option_map (λ i. i + 1) (position p xs))
position-cons p x xs = place_at (p x) (position_or_len p xs) (length xs)

-- a clause that doesn't take the message, at a place
one_further : (at : ℕ) (o : Option ℕ) → option_map (λ n. n + at) (option_map (λ i. i + 1) o) ≡ option_map (λ n. n + (at + 1)) o
one_further at None = refl
one_further at (Some n) = ap Some (omega arith)

pub first_clause_next : (clauses : List Clause) (env : Environment) (message : Term) (at : ℕ) (d : Clause) → at < length clauses → is_some (takes (get_or clauses at d) env message) ≡ false
    → option_map (λ n. n + at) (first_clause (drop at clauses) env message) ≡ option_map (λ n. n + (at + 1)) (first_clause (drop (at + 1) clauses) env message)
first_clause_next clauses env message at d within fails =
    let rest = drop (at + 1) clauses in
    let later : Option ℕ = option_map (λ i. i + 1) (first_clause rest env message) in
    ap (option_map (λ n. n + at))
    (ap (λ (cs : List Clause). first_clause cs env message) (drop_more clauses at d within)
    ∙ position-cons (λ c. is_some (takes c env message)) (get_or clauses at d) rest
    ∙ ap (λ (b : Bool). cond b (Some 0) later) fails)
    ∙ one_further at (first_clause rest env message)

further_places : (found : Option Hit) (first : Option ℕ) → option_map places_of found ≡ option_map at_front first
    → option_map places_of (option_map behind_clause found) ≡ option_map at_front (option_map (λ i. i + 1) first)
further_places None None e = refl
further_places None (Some i) e = cc
further_places (Some h) None e = cc
further_places (Some h) (Some i) e = ap (option_map (λ (f : Found). record f { clause = f.clause + 1 })) e

later_places : (found : Option Hit) → option_map places_of (option_map behind_message found) ≡ option_map (λ f. record { at = f.at + 1; clause = f.clause }) (option_map places_of found)
later_places None = refl
later_places (Some h) = refl

-- the hit of a message is at its first clause
module _ (env : Environment) (message : Term) where
  places_at : (c : Clause) (clauses : List Clause) (o : Option Environment) → option_map places_of (hit_here clauses env message) ≡ option_map at_front (first_clause clauses env message)
      → option_map places_of (option_or (option_map (hit_by c message) o) (option_map behind_clause (hit_here clauses env message)))
      ≡ option_map at_front (cond (is_some o) (Some 0) (option_map (λ i. i + 1) (first_clause clauses env message)))
  places_at c clauses None e = further_places (hit_here clauses env message) (first_clause clauses env message) e
  places_at c clauses (Some after) e = refl

  places_here : (clauses : List Clause) → option_map places_of (hit_here clauses env message) ≡ option_map at_front (first_clause clauses env message)
  places_here [] = refl
  places_here (c ∷ clauses) =
      places_at c clauses (takes c env message) (places_here clauses)
      ∙ ap (option_map at_front) (sym (position-cons (λ d. is_some (takes d env message)) c clauses))

next_places : (here : Option Hit) (first : Option ℕ) (later : Option Hit) → option_map places_of here ≡ option_map at_front first
    → option_map places_of (option_or here (option_map behind_message later)) ≡ or_later first (option_map places_of later)
next_places None None later e = later_places later
next_places None (Some i) later e = cc
next_places (Some h) None later e = cc
next_places (Some h) (Some i) later e = e

module _ (clauses : List Clause) (env : Environment) where
  pub scan_nothing : scan clauses env [] ≡ None
  unfolding hit
  scan_nothing = refl

  pub scan_next : (message : Term) (messages : List Term) → scan clauses env (message ∷ messages) ≡ or_later (first_clause clauses env message) (scan clauses env messages)
  unfolding hit
  scan_next message messages = next_places (hit_here clauses env message) (first_clause clauses env message) (hit clauses env messages) (places_here env message clauses)

-- the clause of a hit, and what it makes of the message
abbrev pub IsByClause : List Clause → Environment → Hit → Type 0
IsByClause clauses env h = (c : Clause) × ((slice_get clauses h.clause ≡ Some c) × (h.target ≡ c.target) × (takes c env h.message ≡ Some h.env))

abbrev IsHitHere : List Clause → Environment → Term → Hit → Type 0
IsHitHere clauses env message h = (h.at ≡ 0) × (h.message ≡ message) × IsByClause clauses env h

abbrev IsHit : List Clause → Environment → List Term → Hit → Type 0
IsHit clauses env messages h = (slice_get messages h.at ≡ Some h.message) × IsByClause clauses env h

module _ (env : Environment) where
  here_by : (message : Term) (c : Clause) (clauses : List Clause) (o : Option Environment) (later : Option Hit) → takes c env message ≡ o → IfSome later (IsHitHere clauses env message)
      → IfSome (option_or (option_map (hit_by c message) o) (option_map behind_clause later)) (IsHitHere (c ∷ clauses) env message)
  here_by message c clauses (Some after) later e is = (refl, refl, (c, (refl, refl, e)))
  here_by message c clauses None None e is = tt
  here_by message c clauses None (Some h) e is = (is.0, is.1, (is.2.0, (rw add-one is.2.1.0, is.2.1.1, is.2.1.2)))

  hit_tells_here : (message : Term) (clauses : List Clause) → IfSome (hit_here clauses env message) (IsHitHere clauses env message)
  hit_tells_here message [] = tt
  hit_tells_here message (c ∷ clauses) = here_by message c clauses (takes c env message) (hit_here clauses env message) refl (hit_tells_here message clauses)

  next_by : (clauses : List Clause) (message : Term) (messages : List Term) (here later : Option Hit) → IfSome here (IsHitHere clauses env message) → IfSome later (IsHit clauses env messages)
      → IfSome (option_or here (option_map behind_message later)) (IsHit clauses env (message ∷ messages))
  next_by clauses message messages (Some h) later is more = (ap (slice_get (message ∷ messages)) is.0 ∙ ap Some (sym is.1), is.2)
  next_by clauses message messages None None is more = tt
  next_by clauses message messages None (Some h) is more = (rw add-one more.0, more.1)

  hit_tells : (clauses : List Clause) (messages : List Term) → IfSome (hit clauses env messages) (IsHit clauses env messages)
  unfolding hit
  hit_tells clauses [] = tt
  hit_tells clauses (message ∷ messages) =
      next_by clauses message messages (hit_here clauses env message) (hit clauses env messages) (hit_tells_here message clauses) (hit_tells clauses messages)

  pub hit_message : (clauses : List Clause) (messages : List Term) (h : Hit) → hit clauses env messages ≡ Some h → slice_get messages h.at ≡ Some h.message
  hit_message clauses messages h e = (subst (λ (o : Option Hit). IfSome o (IsHit clauses env messages)) e (hit_tells clauses messages)).0

  pub hit_clause : (clauses : List Clause) (messages : List Term) (h : Hit) → hit clauses env messages ≡ Some h → IsByClause clauses env h
  hit_clause clauses messages h e = (subst (λ (o : Option Hit). IfSome o (IsHit clauses env messages)) e (hit_tells clauses messages)).1
