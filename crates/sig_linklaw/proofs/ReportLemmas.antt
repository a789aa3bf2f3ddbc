-- What is listed in the report of links.
use Rattle.std.proofs.Common.{◌≡◌, ◌≢◌, ◌↔◌, ℕ, zero, suc, ◌<◌, true, cond, ◌&&◌, nat_lt, List, [], ◌∷◌, get_or, All, Some, slice_get, refl, sym, ap, ◌∙◌, subst, arith}
use Rattle.std.specs.List.{Contains, flat_map}
use Rattle.std.proofs.lemmas.Bool.{cond_both, and_parts, and_from, lt-ltb}
use Rattle.std.proofs.lemmas.List.Elements.{All-nil, All-cons, All-head, All-tail, All-append, All-contains, Contains-append_left, Contains-append_right}
use Rattle.std.proofs.lemmas.Option.{same_Some, none-some, slice_get-get_or}
use Rattle.sig_kinds.specs.LinkRules.{is_active}
use Rattle.sig_program.specs.Scripts.{Program}
use Rattle.sig_model.specs.PrintedState.{is_waiting}
use Rattle.sig_model.specs.Running.{Running}
use Rattle.sig_linklaw.specs.declared.pair.Pair.{Pair}
use Rattle.sig_linklaw.specs.LinkLaw.{AreOfOneMind}
use Rattle.sig_linklaw.specs.LinkReport.{HasComeToRest, pair, are_linked, pairs_of, linked_pairs, IsLinked}
use Rattle.sig_linklaw.proofs.CrewLemmas.{crew_of_one_mind}

module _ (crew : List Running) (placed : (p : ℕ) (r : Running) → slice_get crew p ≡ Some r → r.pid ≡ p) where
  -- a process of the crew, by its pid
  abbrev IsIn : Running → Type 0
  IsIn r = slice_get crew r.pid ≡ Some r

  each_in : All IsIn crew
  each_in i d lt =
      let at : slice_get crew i ≡ Some (get_or crew i d) = slice_get-get_or crew i d lt in
      subst (λ n. slice_get crew n ≡ Some (get_or crew i d)) (sym (placed i (get_or crew i d) at)) at

  abbrev IsRight : Pair → Type 0
  IsRight z = IsLinked crew z.low.0 z.high.0

  right : (r t : Running) → IsIn r → IsIn t → are_linked r t ≡ true → IsRight (pair r.pid t.pid)
  right r t here there h =
      let a : ((nat_lt r.pid t.pid && is_waiting r && is_waiting t) ≡ true) × (is_active r.state.tables.links t.pid ≡ true) =
      and_parts (nat_lt r.pid t.pid && is_waiting r && is_waiting t) (is_active r.state.tables.links t.pid) h in
      let b : ((nat_lt r.pid t.pid && is_waiting r) ≡ true) × (is_waiting t ≡ true) = and_parts (nat_lt r.pid t.pid && is_waiting r) (is_waiting t) a.0 in
      let c : (nat_lt r.pid t.pid ≡ true) × (is_waiting r ≡ true) = and_parts (nat_lt r.pid t.pid) (is_waiting r) b.0 in
      record { one = r; other = t; here = here; there = there; waits = c.1; rests = b.1; active = a.1 }

  -- only what is so is listed
  all_of : (r : Running) → IsIn r → (ts : List Running) → All IsIn ts → All IsRight (pairs_of r ts)
  all_of r here [] h = All-nil IsRight
  all_of r here (t ∷ ts) h =
      let later : All IsRight (pairs_of r ts) = all_of r here ts (All-tail IsIn t ts h) in
      cond_both (are_linked r t) (pair r.pid t.pid ∷ pairs_of r ts) (pairs_of r ts) (All IsRight)
      (λ e. All-cons IsRight (pair r.pid t.pid) (pairs_of r ts) (right r t here (All-head IsIn t ts h) e) later) (λ e. later)

  all_listed : (rs : List Running) → All IsIn rs → All IsRight (flat_map (λ r. pairs_of r crew) rs)
  all_listed [] h = All-nil IsRight
  all_listed (r ∷ rs) h =
      All-append IsRight (pairs_of r crew) (flat_map (λ r. pairs_of r crew) rs) (all_of r (All-head IsIn r rs h) crew each_in) (all_listed rs (All-tail IsIn r rs h))

  pub listed_is : (p q : ℕ) → Contains (linked_pairs crew) (pair p q) → IsLinked crew p q
  listed_is p q h = All-contains IsRight (linked_pairs crew) (pair p q) (all_listed crew each_in) h

  -- and all that is so
  listed_here : (r t : Running) (ts : List Running) (j : ℕ) → slice_get ts j ≡ Some t → are_linked r t ≡ true → Contains (pairs_of r ts) (pair r.pid t.pid)
  listed_here r t [] j at h = absurd (none-some t at)
  listed_here r t (x ∷ ts) zero at h =
      subst (λ (y : Running). are_linked r y ≡ true → Contains (cond (are_linked r y) (pair r.pid y.pid ∷ pairs_of r ts) (pairs_of r ts)) (pair r.pid t.pid)) (sym (same_Some x t at))
      (λ e. subst (λ c. Contains (cond c (pair r.pid t.pid ∷ pairs_of r ts) (pairs_of r ts)) (pair r.pid t.pid)) (sym e) (0, omega arith, refl))
      (subst (λ (y : Running). are_linked r y ≡ true) (sym (same_Some x t at)) h)
  listed_here r t (x ∷ ts) (suc j) at h =
      let later : Contains (pairs_of r ts) (pair r.pid t.pid) = listed_here r t ts j at h in
      cond_both (are_linked r x) (pair r.pid x.pid ∷ pairs_of r ts) (pairs_of r ts) (λ zs. Contains zs (pair r.pid t.pid))
      (λ e. Contains-append_right (pair r.pid x.pid ∷ []) (pairs_of r ts) (pair r.pid t.pid) later) (λ e. later)

  listed_there : (r : Running) (z : Pair) (rs : List Running) (i : ℕ) → slice_get rs i ≡ Some r → Contains (pairs_of r crew) z → Contains (flat_map (λ r. pairs_of r crew) rs) z
  listed_there r z [] i at h = absurd (none-some r at)
  listed_there r z (x ∷ rs) zero at h =
      Contains-append_left (pairs_of x crew) (flat_map (λ r. pairs_of r crew) rs) z (subst (λ (y : Running). Contains (pairs_of y crew) z) (sym (same_Some x r at)) h)
  listed_there r z (x ∷ rs) (suc i) at h = Contains-append_right (pairs_of x crew) (flat_map (λ r. pairs_of r crew) rs) z (listed_there r z rs i at h)

  pub is_listed : (p q : ℕ) → p < q → IsLinked crew p q → Contains (linked_pairs crew) (pair p q)
  is_listed p q lt l =
      let one : l.one.pid ≡ p = placed p l.one l.here in
      let other : l.other.pid ≡ q = placed q l.other l.there in
      let linked : are_linked l.one l.other ≡ true =
      and_from (nat_lt l.one.pid l.other.pid && is_waiting l.one && is_waiting l.other) (is_active l.one.state.tables.links l.other.pid)
      (and_from (nat_lt l.one.pid l.other.pid && is_waiting l.one) (is_waiting l.other)
      (and_from (nat_lt l.one.pid l.other.pid) (is_waiting l.one) (lt-ltb l.one.pid l.other.pid (omega (arith, lt, one, other))) l.waits) l.rests)
      (ap (λ n. is_active l.one.state.tables.links n) other ∙ l.active) in
      subst (λ n. Contains (linked_pairs crew) (pair n q)) one
      (subst (λ n. Contains (linked_pairs crew) (pair l.one.pid n)) other
      (listed_there l.one (pair l.one.pid l.other.pid) crew p l.here (listed_here l.one l.other crew q l.there linked)))

module _ (script : Program) (crew : List Running) (h : HasComeToRest script crew) where
  by_pid : (p : ℕ) (r : Running) → slice_get crew p ≡ Some r → r.pid ≡ p
  by_pid p r at = (h.lawful.placed p r at).0

  -- a pair is listed exactly where the first has the second as an active peer, and exactly where the second has the first
  pub listed_first : (p q : ℕ) → p < q → Contains (linked_pairs crew) (pair p q) ↔ IsLinked crew p q
  listed_first p q lt = (listed_is crew by_pid p q, is_listed crew by_pid p q lt)

  turned : (p q : ℕ) → p ≢ q → IsLinked crew p q → IsLinked crew q p
  turned p q n l =
      let mind : AreOfOneMind p q l.one.state.tables.links l.other.state.tables.links = crew_of_one_mind script crew h p q l.one l.other n l.here l.there l.waits l.rests in
      record { one = l.other; other = l.one; here = l.there; there = l.here; waits = l.rests; rests = l.waits; active = sym mind.active ∙ l.active }

  pub listed_second : (p q : ℕ) → p < q → Contains (linked_pairs crew) (pair p q) ↔ IsLinked crew q p
  listed_second p q lt =
      (λ listed. turned p q (λ e. absurd (omega (arith, lt, e))) (listed_is crew by_pid p q listed), λ l. is_listed crew by_pid p q lt (turned q p (λ e. absurd (omega (arith, lt, e))) l))
