-- A sorted list of keys that has each event of a crew once gives the order of its events.
use Rattle.std.proofs.Common.{◌≡◌, ℕ, zero, suc, ◌+◌, ◌≤◌, Bool, true, false, cond, ◌&&◌, List, [], ◌∷◌, map, length, get_or, refl, sym, ap, ◌∙◌, subst, inl, inr, ⊎_elim, arith}
use Rattle.std.specs.Prelude.{◌==◌, is_some}
use Rattle.std.specs.List.{count_by, AllAdjacentBelow, All}
use Rattle.std.proofs.lemmas.Bool.{eq-eqb, cases_order}
use Rattle.std.proofs.lemmas.List.Sums.{sum_by-cons}
use Rattle.std.proofs.lemmas.List.Elements.{All-head, All-tail}
use Rattle.sig_runs.specs.Rules.{Rules}
use Rattle.sig_runs.specs.Crew.{Member}
use Rattle.sig_runs.proofs.Chains.{Chain, chain_from, adjacent_from}
use Rattle.sig_runs.specs.Order.{Place, is_at, act_at, stamp_at, IsBefore, IsOrder, NotAfter, counts}

module _ {S X E K : Type 0} (rules : Rules S X E) (crew : List (Member S X E)) (stamp : K → ℕ) (place : K → Place) where
  count_by-map : (a : Place) (ks : List K) → count_by (is_at a) (map place ks) ≡ count_by (counts place a) ks
  count_by-map a [] = refl
  count_by-map a (k ∷ ks) =
      sum_by-cons (λ x. cond (is_at a x) 1 0) (place k) (map place ks) ∙ ap (λ z. cond (is_at a (place k)) 1 0 + z) (count_by-map a ks) ∙ sym (sum_by-cons (λ x. cond (counts place a x) 1 0) k ks)

  at_itself : (a : Place) → is_at a a ≡ true
  at_itself a = ap (λ c. c && (a.place == a.place)) (eq-eqb a.pid a.pid refl) ∙ eq-eqb a.place a.place refl

  -- the first of the list is counted
  count-first : (k : K) (ks : List K) → count_by (counts place (place k)) (k ∷ ks) ≡ 1 + count_by (counts place (place k)) ks
  count-first k ks = sum_by-cons (λ x. cond (counts place (place k) x) 1 0) k ks ∙ ap (λ c. cond c 1 0 + count_by (counts place (place k)) ks) (at_itself (place k))

  count-more : (a : Place) (k : K) (ks : List K) → count_by (counts place a) ks ≤ count_by (counts place a) (k ∷ ks)
  count-more a k ks = let e : count_by (counts place a) (k ∷ ks) ≡ cond (counts place a k) 1 0 + count_by (counts place a) ks = sum_by-cons (λ x. cond (counts place a x) 1 0) k ks in omega arith

  -- neighbours differ, since each place is there once
  strictly : (k l : K) (ks : List K) → ((a : Place) → count_by (counts place a) (k ∷ l ∷ ks) ≤ 1) → stamp k ≡ stamp_at rules crew (place k) → stamp l ≡ stamp_at rules crew (place l) → NotAfter stamp place k l → IsBefore rules crew (place k) (place l)
  strictly k l ks once ek el (inl h) = inl (omega arith)
  strictly k l ks once ek el (inr (e, inl h)) = inr (sym ek ∙ e ∙ el, inl h)
  strictly k l ks once ek el (inr (e, inr (p, q))) =
      ⊎_elim
      (λ same.
      let at : place k ≡ place l = λ i. record { pid = p i; place = same i } in
      let one : count_by (counts place (place k)) (k ∷ l ∷ ks) ≡ 1 + count_by (counts place (place k)) (l ∷ ks) = count-first k (l ∷ ks) in
      let two : count_by (counts place (place k)) (l ∷ ks) ≡ 1 + count_by (counts place (place k)) ks = subst (λ z. count_by (counts place z) (l ∷ ks) ≡ 1 + count_by (counts place z) ks) (sym at) (count-first l ks) in
      let most : count_by (counts place (place k)) (k ∷ l ∷ ks) ≤ 1 = once (place k) in
      absurd (omega arith))
      (λ other. inr (sym ek ∙ e ∙ el, inr (p, ⊎_elim (λ w. w) (λ w. absurd (omega arith)) other)))
      (cases_order (place k).place (place l).place)

  chain_strictly : (ks : List K) → ((a : Place) → count_by (counts place a) ks ≤ 1) → All (λ k. stamp k ≡ stamp_at rules crew (place k)) ks → Chain (NotAfter stamp place) ks → Chain (IsBefore rules crew) (map place ks)
  chain_strictly [] once ties h = tt
  chain_strictly (k ∷ []) once ties h = tt
  chain_strictly (k ∷ l ∷ ks) once ties h = (
    strictly k l ks once (All-head (λ k. stamp k ≡ stamp_at rules crew (place k)) k (l ∷ ks) ties)
        (All-head (λ k. stamp k ≡ stamp_at rules crew (place k)) l ks (All-tail (λ k. stamp k ≡ stamp_at rules crew (place k)) k (l ∷ ks) ties)) h.0,
    chain_strictly (l ∷ ks) (λ a. let m : count_by (counts place a) (l ∷ ks) ≤ count_by (counts place a) (k ∷ l ∷ ks) = count-more a k (l ∷ ks) in let o : count_by (counts place a) (k ∷ l ∷ ks) ≤ 1 = once a in omega arith)
        (All-tail (λ k. stamp k ≡ stamp_at rules crew (place k)) k (l ∷ ks) ties) h.1,
  )

  -- keys that are sorted, that have the stamps of their places, and that have each event of the crew once
  pub sorted_is_order : (ks : List K) → ((a : Place) → count_by (counts place a) ks ≡ cond (is_some (act_at crew a)) 1 0) → All (λ k. stamp k ≡ stamp_at rules crew (place k)) ks → AllAdjacentBelow (NotAfter stamp place) ks (length ks) →
      IsOrder rules crew (map place ks)
  sorted_is_order ks once ties order = record {
    once = λ a. count_by-map a ks ∙ once a;
    rising = adjacent_from (IsBefore rules crew) (map place ks) (chain_strictly ks at_most ties (chain_from (NotAfter stamp place) ks order));
  }
    where
      one_or_none : (b : Bool) → cond b 1 0 ≤ 1
      one_or_none true = omega arith
      one_or_none false = omega arith

      at_most : (a : Place) → count_by (counts place a) ks ≤ 1
      at_most a = subst (λ n. n ≤ 1) (sym (once a)) (one_or_none (is_some (act_at crew a)))
