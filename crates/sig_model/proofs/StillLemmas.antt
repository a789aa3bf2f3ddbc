-- A pass without an event finds no process that could go on.
use Rattle.std.proofs.Common.{◌≡◌, ℕ, zero, suc, ◌+◌, ◌<◌, ◌≤◌, List, [], ◌∷◌, length, length-append, Bool, true, false, ◌||◌, Option, Some, None, refl, sym, ap, ◌∙◌, subst, inl, inr, ◌⊎◌, arith}
use Rattle.std.specs.Prelude.{slice_get, slice_set, unwrap_or}
use Rattle.std.proofs.lemmas.Bool.{eqb-true, not-false, or_parts}
use Rattle.std.proofs.lemmas.Bool.Decides.{eqb_tells}
use Rattle.std.proofs.lemmas.Option.{same_Some, slice_get_within}
use Rattle.sig_kinds.specs.declared.signal.Signal.{Signal}
use Rattle.sig_runs.proofs.Lists.{slice_get-set_same}
use Rattle.sig_model.specs.Running.{Running, can_handle, next_of, handled_one, handled_first, handle_next, exec_next}
use Rattle.sig_model.specs.OneWorker.{or_stay, handle_all, exec_or_stay, visited, deliver_all, settled_visit, visit_at, visit, event_count, has_moved, pass_from, pass, RunsTo, rests, goes, IsClear}
use Rattle.sig_model.specs.Still.{IsStill, IsStillCrew}
use Rattle.sig_model.proofs.ClearLemmas.{clear_at, visit_clear}
use Rattle.sig_model.proofs.CountLemmas.{events_get, delivered_events}
use Rattle.sig_model.proofs.Guards.{CanHandle, Executed, Handled, can_handle_tells, handle_due, handle_refused, exec_next_tells, handle_next_tells}
use Rattle.sig_model.proofs.EventLemmas.{IsStep}
use Rattle.sig_model.proofs.GoingLemmas.{Goes, stays, on, goes_trans, goes_handle, goes_exec}
use Rattle.sig_model.proofs.ReachLemmas.{set_here}

-- handling that may happen happens
first_there : (r : Running) (own taken : List Signal) (x : Signal) → next_of own taken ≡ Some x → (u : Running) × (handled_first r own taken ≡ Some u)
first_there r (y ∷ own) taken x h = (handled_one (record r { own = own }) y, refl)
first_there r [] (y ∷ taken) x h = (handled_one (record r { taken_in = taken }) y, refl)
first_there r [] [] x h = cc

handles : (r : Running) → can_handle r ≡ true → (u : Running) × (handle_next r ≡ Some u)
handles r h =
    let can : CanHandle r = can_handle_tells r h in
    let w : (u : Running) × (handled_first r r.own r.taken_in ≡ Some u) = first_there r r.own r.taken_in can.next can.is_next in
    (w.0, handle_due r h ∙ w.1)

stays_all : (n : ℕ) (r : Running) → handle_next r ≡ None → handle_all n r ≡ r
unfolding handle_all
stays_all zero r h = refl
stays_all (suc n) r h = ap (λ o. or_stay o r (λ t. handle_all n t)) h

none_all : (n : ℕ) (r : Running) → n ≡ 0 → handle_all n r ≡ r
unfolding handle_all
none_all n r e = ap (λ k. handle_all k r) e

-- the first of n handlings, and then the others
first_of_all : (n : ℕ) (r u : Running) → 0 < n → handle_next r ≡ Some u → Goes u (handle_all n r)
unfolding handle_all
first_of_all zero r u lt h = (let f : ⊥ = omega (arith, lt) in absurd f)
first_of_all (suc n) r u lt h = subst (λ o. Goes u (or_stay o r (λ t. handle_all n t))) (sym h) (goes_handle n u)

-- the first handling of a visit, and then the rest of it
first_of_visit : (r u : Running) (own taken : List Signal) → r.own ≡ own → r.taken_in ≡ taken → (x : Signal) → next_of r.own r.taken_in ≡ Some x → handle_next r ≡ Some u → Goes u (visited r)
unfolding visited
first_of_visit r u (y ∷ own) taken o i x h e =
    let one : Running = handle_all (length r.own) r in
    let two : Running = handle_all (length r.taken_in) one in
    goes_trans u one (exec_or_stay two) (first_of_all (length r.own) r u (subst (λ xs. 0 < length xs) (sym o) (omega arith)) e) (goes_trans one two (exec_or_stay two) (goes_handle (length r.taken_in) one) (goes_exec two))
first_of_visit r u [] (y ∷ taken) o i x h e =
    let one : Running = handle_all (length r.own) r in
    let two : Running = handle_all (length r.taken_in) one in
    let same : one ≡ r = none_all (length r.own) r (ap (λ (xs : List Signal). length xs) o) in
    goes_trans u two (exec_or_stay two) (subst (λ z. Goes u (handle_all (length r.taken_in) z)) (sym same) (first_of_all (length r.taken_in) r u (subst (λ xs. 0 < length xs) (sym i) (omega arith)) e)) (goes_exec two)
first_of_visit r u [] [] o i x h e = let f : None ≡ Some x = sym (ap (λ xs. next_of xs r.taken_in) o ∙ ap (λ xs. next_of [] xs) i) ∙ h in cc

-- a visit of a process that handles nothing
visited_exec : (r : Running) → handle_next r ≡ None → visited r ≡ exec_or_stay r
unfolding visited
visited_exec r h =
    ap (λ z. exec_or_stay z) (ap (λ z. handle_all (length r.taken_in) z) (stays_all (length r.own) r h) ∙ stays_all (length r.taken_in) r h)

visited_still : (r : Running) → IsStill r → visited r ≡ r
visited_still r s = visited_exec r (handle_refused r s.handle) ∙ ap (λ o. unwrap_or o r) s.exec

-- steps add events
step_more : (r t : Running) → IsStep r t → length t.events ≡ length r.events + 1
step_more r t (inl e) =
    let h : Handled r t = handle_next_tells r t e in
    ap (λ (z : Running). length z.events) (sym h.is) ∙ length-append r.events _
step_more r t (inr e) =
    let h : Executed r t = exec_next_tells r t e in
    ap (λ (z : Running). length z.events) (sym h.is) ∙ length-append r.events (h.effect.event ∷ [])

goes_more : (r t : Running) → Goes r t → length r.events ≤ length t.events
goes_more r _ (stays _) = omega arith
goes_more r _ (on _ u t step later) = let more : length u.events ≤ length t.events = goes_more u t later in omega (arith, step_more r u step, more)

step_first : (r u t : Running) → IsStep r u → Goes u t → length r.events < length t.events
step_first r u t step later = omega (arith, step_more r u step, goes_more u t later)

-- a process that a visit finds is still, or it has an event
module _ (r : Running) where
  exec_or_still : (o : Option Running) → can_handle r ≡ false → exec_next r ≡ o → IsStill r ⊎ (length r.events < length (visited r).events)
  exec_or_still None h e = inl (record { handle = h; exec = e })
  exec_or_still (Some u) h e =
      inr (step_first r u (visited r) (inr e) (subst (λ z. Goes u z) (sym (visited_exec r (handle_refused r h) ∙ ap (λ o. unwrap_or o r) e)) (stays u)))

  handle_or_still : (b : Bool) → can_handle r ≡ b → IsStill r ⊎ (length r.events < length (visited r).events)
  handle_or_still true h =
      let can : CanHandle r = can_handle_tells r h in
      let w : (u : Running) × (handle_next r ≡ Some u) = handles r h in
      inr (step_first r w.0 (visited r) (inl w.1) (first_of_visit r w.0 r.own r.taken_in refl refl can.next can.is_next w.1))
  handle_or_still false h = exec_or_still (exec_next r) h refl

-- where a visit has no event, it leaves the crew, and the process is still
leaves : (at : ℕ) (r : Running) (crew : List Running) → slice_get crew at ≡ Some r → r.outbox ≡ [] → settled_visit at r crew ≡ crew
unfolding deliver_all
leaves at r crew there empty =
    ap (λ xs. deliver_all xs (slice_set crew at (record r { outbox = [] }))) empty
    ∙ ap (λ (b : List Signal). slice_set crew at (record r { outbox = b })) (sym empty)
    ∙ set_here crew at r there

-- what a visit without an event tells
abbrev pub LeftStill : ℕ → List Running → List Running → Type 0
LeftStill at crew after = (after ≡ crew) × ((r : Running) → slice_get crew at ≡ Some r → IsStill r)

still_case : (at : ℕ) (o : Option Running) (crew : List Running) → IsClear crew → slice_get crew at ≡ o
    → has_moved at crew (visit_at at o crew) ≡ false → LeftStill at crew (visit_at at o crew)
still_case at None crew clear there h = (refl, λ r e. let f : None ≡ Some r = sym there ∙ e in absurd cc)
still_case at (Some r) crew clear there h = go (handle_or_still r (can_handle r) refl)
  where
    v : Running
    v = visited r

    after : List Running
    after = slice_set crew at (record v { outbox = [] })

    go : IsStill r ⊎ (length r.events < length v.events) → LeftStill at crew (visit_at at (Some r) crew)
    go (inl s) = (
      ap (λ z. settled_visit at z crew) (visited_still r s) ∙ leaves at r crew there (clear_at crew at r there clear),
      λ u e. subst IsStill (same_Some r u (sym there ∙ e)) s,
    )
    go (inr lt) =
        let now : event_count at (settled_visit at v crew) ≡ length v.events =
        delivered_events v.outbox after at ∙ events_get after at (record v { outbox = [] }) (slice_get-set_same crew at (record v { outbox = [] }) r there) in
        let was : event_count at crew ≡ length r.events = events_get crew at r there in
        let same : event_count at crew ≡ event_count at (settled_visit at v crew) = eqb-true _ _ (not-false _ h) in
        let f : ⊥ = omega (arith, now, was, lt, same) in
        absurd f

still_visit : (at : ℕ) (crew : List Running) → IsClear crew → has_moved at crew (visit at crew) ≡ false → LeftStill at crew (visit at crew)
unfolding visit
still_visit at crew clear h = still_case at (slice_get crew at) crew clear refl h

unmoved : (n at : ℕ) (moved : Bool) (crew : List Running) → (pass_from n at moved crew).1 ≡ false → moved ≡ false
unfolding pass_from
unmoved zero at moved crew h = h
unmoved (suc n) at moved crew h =
    (or_parts moved (has_moved at crew (visit at crew)) (unmoved n (at + 1) (moved || has_moved at crew (visit at crew)) (visit at crew) h)).0

-- a pass without an event leaves the crew, and each process is still
pub still_pass : (n at : ℕ) (moved : Bool) (crew : List Running) → IsClear crew → length crew ≤ at + n → (pass_from n at moved crew).1 ≡ false →
    ((pass_from n at moved crew).0 ≡ crew) × ((q : ℕ) (r : Running) → at ≤ q → slice_get crew q ≡ Some r → IsStill r)
unfolding pass_from
still_pass zero at moved crew clear le h =
    (refl, λ q r from e. let lt : q < length crew = slice_get_within crew q r e in (let f : ⊥ = omega (arith, lt, from, le) in absurd f))
still_pass (suc n) at moved crew clear le h =
    let b : Bool = moved || has_moved at crew (visit at crew) in
    let s : LeftStill at crew (visit at crew) =
    still_visit at crew clear (or_parts moved (has_moved at crew (visit at crew)) (unmoved n (at + 1) b (visit at crew) h)).1 in
    let rest : ((pass_from n (at + 1) b crew).0 ≡ crew) × ((q : ℕ) (r : Running) → at + 1 ≤ q → slice_get crew q ≡ Some r → IsStill r) =
    still_pass n (at + 1) b crew clear (omega (arith, le)) (subst (λ xs. (pass_from n (at + 1) b xs).1 ≡ false) s.0 h) in (
      ap (λ xs. (pass_from n (at + 1) b xs).0) s.0 ∙ rest.0,
      λ q r from e. elim (eqb_tells at q) [
        | inl w ↦ s.1 r (subst (λ z. slice_get crew z ≡ Some r) (sym w.1) e)
        | inr w ↦ rest.1 q r (omega (arith, from, w.1)) e
      ],
    )

pass_clear : (n at : ℕ) (moved : Bool) (crew : List Running) → IsClear crew → IsClear (pass_from n at moved crew).0
unfolding pass_from
pass_clear zero at moved crew clear = clear
pass_clear (suc n) at moved crew clear = pass_clear n (at + 1) (moved || has_moved at crew (visit at crew)) (visit at crew) (visit_clear at crew clear)

-- the outboxes stay empty
pub run_clear : (crew last : List Running) → RunsTo crew last → IsClear crew → IsClear last
run_clear _ _ (rests crew h) clear = pass_clear (length crew) 0 false crew clear
run_clear _ last (goes crew _ h more) clear = run_clear (pass crew).0 last more (pass_clear (length crew) 0 false crew clear)

-- at the end of a run no process can do anything
pub run_still : (crew last : List Running) → RunsTo crew last → IsClear crew → IsStillCrew last
run_still _ _ (rests crew h) clear =
    let s : ((pass crew).0 ≡ crew) × ((q : ℕ) (r : Running) → 0 ≤ q → slice_get crew q ≡ Some r → IsStill r) =
    still_pass (length crew) 0 false crew clear (omega arith) h in
    λ q r e. s.1 q r (omega arith) (subst (λ xs. slice_get xs q ≡ Some r) s.0 e)
run_still _ last (goes crew _ h more) clear = run_still (pass crew).0 last more (pass_clear (length crew) 0 false crew clear)
