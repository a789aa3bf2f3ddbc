-- Each event raises a stamp: a pass with an event leaves less room below the last stamp.
use Rattle.std.proofs.Common.{◌≡◌, ℕ, zero, suc, ◌+◌, ◌<◌, ◌≤◌, List, [], ◌∷◌, length, Bool, true, false, cond, not, ◌||◌, ◌==◌, Option, Some, None, refl, sym, ◌∙◌, ap, subst, arith, slice_get, set, inl, inr, ◌⊎◌}
use Rattle.std.specs.Option.{option_map}
use Rattle.std.proofs.lemmas.Bool.Decides.{nat_tests, eqb_tells}
use Rattle.std.proofs.lemmas.List.Sums.{sum_by-set}
use Rattle.std.proofs.lemmas.Option.{slice_get_within, get_or_from_slice_get, same_Some, none-some}
use Rattle.sig_kinds.specs.declared.signal.Signal.{Signal}
use Rattle.sig_runs.specs.Rules.{Effect}
use Rattle.sig_model.specs.declared.event.Event.{Event}
use Rattle.sig_model.specs.declared.state.TheConstants.{LAST_STAMP}
use Rattle.sig_model.specs.ProcessState.{ProcessState}
use Rattle.sig_model.specs.Bodies.{Body}
use Rattle.sig_model.specs.Executing.{executing}
use Rattle.sig_model.specs.Finishing.{finished_exec}
use Rattle.sig_model.specs.Running.{Running, advanced, handled_one}
use Rattle.sig_model.specs.OneWorker.{visited, arrived, deliver_to, deliver_all, visit_at, visit, event_count, has_moved}
use Rattle.sig_model.proofs.CountLemmas.{events_get, delivered_events}
use Rattle.sig_model.proofs.Guards.{Executed, Handled, exec_next_tells, handle_next_tells}
use Rattle.sig_model.proofs.EventLemmas.{IsStep}
use Rattle.sig_model.proofs.GoingLemmas.{Goes, stays, on, goes_visited}
use Rattle.sig_workers.specs.Room.{room_of, room}

-- t has no more room than r, and less where it has other events
pub record IsLater (r t : Running) : Type 0 where
  pub room : room_of t ≤ room_of r
  pub moved : (length r.events ≡ length t.events → ⊥) → room_of t < room_of r

later_refl : (r : Running) → IsLater r r
later_refl r = record { room = omega arith; moved = λ n. absurd (n refl) }

later_trans : (r t u : Running) → IsLater r t → IsLater t u → IsLater r u
later_trans r t u p q = record {
  room = omega (arith, p.room, q.room);
  moved = λ n. elim (eqb_tells (length r.events) (length t.events)) [
    | inl e ↦ (let less : room_of u < room_of t = q.moved (λ same. n (e.1 ∙ same)) in omega (arith, less, p.room))
    | inr e ↦ (let less : room_of t < room_of r = p.moved e.1 in omega (arith, less, q.room))
  ];
}

-- an event of a process whose last stamp isn't the last one has a later stamp
advance : (r t : Running) → r.state.counts.stamp < LAST_STAMP → r.state.counts.stamp < t.state.counts.stamp → IsLater r t
advance r t h k = record { room = omega (arith, h, k); moved = λ _. omega (arith, h, k) }

handled_later : (r t : Running) → Handled r t → IsLater r t
handled_later r t h =
    subst (λ (z : Running). IsLater r z) h.is
    (advance r (handled_one (record r { own = cond h.mine h.rest r.own; taken_in = cond h.mine r.taken_in h.rest }) h.signal) h.can.stamp (omega arith))

exec_stamp : (pid : ℕ) (s : ProcessState) (o : Option Body) (e : Effect ProcessState Signal Event) → option_map (finished_exec pid s) o ≡ Some e →
    e.state.counts.stamp ≡ s.counts.stamp + 1
exec_stamp pid s None e h = absurd (none-some e h)
exec_stamp pid s (Some body) e h = ap (λ (f : Effect ProcessState Signal Event). f.state.counts.stamp) (sym (same_Some (finished_exec pid s body) e h))

step_later : (r t : Running) → IsStep r t → IsLater r t
step_later r t (inl e) = handled_later r t (handle_next_tells r t e)
step_later r t (inr e) =
    let h : Executed r t = exec_next_tells r t e in
    let next : h.effect.state.counts.stamp ≡ r.state.counts.stamp + 1 = exec_stamp r.pid r.state (executing r.proc r.state) h.effect h.is_effect in
    subst (λ (z : Running). IsLater r z) h.is (advance r (advanced r h.effect) h.can.stamp (omega (arith, next)))

goes_later : (r t : Running) → Goes r t → IsLater r t
goes_later r _ (stays _) = later_refl r
goes_later r _ (on _ u t step more) = later_trans r u t (step_later r u step) (goes_later u t more)

visited_later : (r : Running) → IsLater r (visited r)
visited_later r = goes_later r (visited r) (goes_visited r)

-- lists of processes
get_set : (xs : List Running) (i : ℕ) (r x : Running) → slice_get xs i ≡ Some r → slice_get (set xs i x) i ≡ Some x
get_set [] i r x e = cc
get_set (y ∷ ys) zero r x e = refl
get_set (y ∷ ys) (suc i) r x e = get_set ys i r x e

room_set : (xs : List Running) (i : ℕ) (r x : Running) → slice_get xs i ≡ Some r → room (set xs i x) + room_of r ≡ room xs + room_of x
room_set xs i r x e =
    subst (λ (z : Running). room (set xs i x) + room_of z ≡ room xs + room_of x) (get_or_from_slice_get xs i r r e) (sum_by-set room_of xs i x r (slice_get_within xs i r e))

one_room : (o : Option Running) (x : Signal) (xs : List Running) → slice_get xs x.to.0 ≡ o → room (deliver_to o x xs) ≡ room xs
one_room None x xs e = refl
one_room (Some r) x xs e = omega (arith, room_set xs x.to.0 r (arrived r x) e)

delivered_room : (signals : List Signal) (xs : List Running) → room (deliver_all signals xs) ≡ room xs
unfolding deliver_all
delivered_room [] xs = refl
delivered_room (x ∷ signals) xs =
    delivered_room signals (deliver_to (slice_get xs x.to.0) x xs) ∙ one_room (slice_get xs x.to.0) x xs refl

-- no more room than before, and less where the process had an event
pub record IsFalling (at : ℕ) (before after : List Running) : Type 0 where
  pub most : room after ≤ room before
  pub moved : has_moved at before after ≡ true → room after < room before

differ : (a b : ℕ) → not (a == b) ≡ true → a ≡ b → ⊥
differ a b h e = grind (arith, nat_tests)

falls : (at : ℕ) (o : Option Running) (xs : List Running) → slice_get xs at ≡ o → IsFalling at xs (visit_at at o xs)
falls at None xs e = record { most = omega arith; moved = λ h. absurd (differ (event_count at xs) (event_count at xs) h refl) }
falls at (Some r) xs e =
    let v : Running = visited r in
    let w : Running = record v { outbox = [] } in
    let ys : List Running = set xs at w in
    let later : IsLater r v = visited_later r in
    let sum : room ys + room_of r ≡ room xs + room_of w = room_set xs at r w e in
    let same : room (deliver_all v.outbox ys) ≡ room ys = delivered_room v.outbox ys in
    let after : event_count at (deliver_all v.outbox ys) ≡ length v.events = delivered_events v.outbox ys at ∙ events_get ys at w (get_set xs at r w e) in
    let before : event_count at xs ≡ length r.events = events_get xs at r e in
    record {
      most = omega (arith, sum, same, later.room);
      moved = λ h.
          let other : length r.events ≡ length v.events → ⊥ = λ q. differ (event_count at xs) (event_count at (deliver_all v.outbox ys)) h (before ∙ q ∙ sym after) in
          let less : room_of v < room_of r = later.moved other in
          omega (arith, sum, same, less);
    }

-- a visit leaves no more room, and less where it had an event
pub visit_falls : (at : ℕ) (xs : List Running) → IsFalling at xs (visit at xs)
unfolding visit
visit_falls at xs = falls at (slice_get xs at) xs refl

either : (a b : Bool) → (a || b) ≡ true → (a ≡ true) ⊎ (b ≡ true)
either true b h = inl refl
either false b h = inr h

-- one more visit of a pass
pub pass_falls : (at : ℕ) (crew after : List Running) (moved here : Bool) (start : ℕ) → after ≡ visit at crew → here ≡ has_moved at crew after →
    room crew ≤ start → (moved ≡ true → room crew < start) → (room after ≤ start) × ((moved || here) ≡ true → room after < start)
pass_falls at crew after moved here start is_after is_here le lt =
    let f : IsFalling at crew after = subst (λ (xs : List Running). IsFalling at crew xs) (sym is_after) (visit_falls at crew) in (
      omega (arith, f.most, le),
      λ h. elim (either moved here h) [
        | inl m ↦ (let l : room crew < start = lt m in omega (arith, l, f.most))
        | inr n ↦ (let l : room after < room crew = f.moved (sym is_here ∙ n) in omega (arith, l, le))
      ],
    )
