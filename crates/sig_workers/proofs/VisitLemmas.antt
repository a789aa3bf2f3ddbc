-- The steps of a visit.
use Rattle.std.proofs.Common.{◌≡◌, ℕ, ◌+◌, ◌<◌, ◌≤◌, List, [], ◌∷◌, length, Bool, true, false, ◌||◌, Some, None, sym, ap, ◌∙◌, subst, inl, inr, arith, length-append}
use Rattle.std.specs.Bool.{MatchBool}
use Rattle.std.specs.Option.{option_map}
use Rattle.sig_model.specs.declared.event.Event.{Event}
use Rattle.sig_model.specs.Running.{Running, can_handle, can_exec, exec_next, advanced}
use Rattle.sig_model.specs.Still.{IsStill}
use Rattle.sig_model.specs.Finishing.{finished_exec}
use Rattle.sig_model.proofs.Guards.{exec_due}
use Rattle.sig_model.proofs.Waiting.{waiting_iff}
use Rattle.sig_process.specs.declared.executing.Exec.{Exec}
use Rattle.sig_process.specs.declared.executing.Exec.TheVariants.{Stepped, Waiting}
use Rattle.sig_process.specs.Standing.{Standing}
use Rattle.sig_process.specs.Steps.{IsExec}
use Rattle.sig_queue.specs.Seats.{Queue, Seated}
use Rattle.sig_workers.specs.Gone.{IsReady, Goes}
use Rattle.sig_workers.specs.Visits.{HasMoved, HaveHandled, HaveExecuted}
use Rattle.sig_workers.specs.Acting.{HasActed}
use Rattle.sig_workers.proofs.OneEvent.{IsOneEvent}
use Rattle.sig_workers.proofs.Going.{goes_event, goes_trans}

-- an instruction was executed, or the process waits
pub stepped : (p q : Standing) (how : Exec) → how ≡ Stepped → IsExec p q how → exec_next p.running ≡ Some q.running
stepped p q Stepped e h = h.0
stepped p q Waiting e h = cc

pub waited : (p q : Standing) (how : Exec) → how ≡ Waiting → can_exec p.running ≡ true → IsExec p q how → (q.running ≡ p.running) × (exec_next p.running ≡ None) × (p.saved ≤ q.saved)
waited p q Stepped e can h = cc
waited p q Waiting e can h =
    let r : Running = p.running in
    (h.1, exec_due r can ∙ ap (λ o. option_map (advanced r) (option_map (finished_exec r.pid r.state) o)) ((waiting_iff r.proc r.state).1 h.0), h.3)

-- one event, and then what it sent was put
module _ (queues : List Queue) (pid : ℕ) (r t u : Running) (seats later : List Seated) (e : IsOneEvent r t) (h : IsReady queues pid r seats) where
  pub event_ready : IsReady queues pid t seats
  event_ready = (goes_event queues pid r seats h t e).ready

  pub event_goes : Goes queues pid t seats u later → Goes queues pid r seats u later
  event_goes g = goes_trans queues pid r t u seats seats later (goes_event queues pid r seats h t e) g

  pub event_more : u ≡ record t { outbox = [] } → length r.events < length u.events
  event_more same =
      let n : length t.events ≡ length r.events + 1 = ap (λ (z : List Event). length z) e.events ∙ length-append r.events (e.event ∷ []) in
      let m : length u.events ≡ length t.events = ap (λ (z : Running). length z.events) same in
      omega (arith, n, m)

  pub event_stamp : u ≡ record t { outbox = [] } → r.state.counts.stamp < u.state.counts.stamp
  event_stamp same = let m : u.state.counts.stamp ≡ t.state.counts.stamp = ap (λ (z : Running). z.state.counts.stamp) same in omega (arith, m, e.stamp)

-- one more handling
pub handled_more : (a : Bool) (start r t : Standing) → MatchBool a (length start.running.events < length r.running.events) (r ≡ start) → length r.running.events < length t.running.events →
    length start.running.events < length t.running.events
handled_more true start r t h lt = omega (arith, h, lt)
handled_more false start r t h lt = let e : length r.running.events ≡ length start.running.events = ap (λ (z : Standing). length z.running.events) h in omega (arith, e, lt)

-- what the handlings and the execution of a visit come to
module _ (r a b t : Standing) (same : a.running.events ≡ r.running.events) (none : can_handle b.running ≡ false) (le : length b.running.events ≤ length t.running.events) where
  as_many : length a.running.events ≡ length r.running.events
  as_many = ap (λ (es : List Event). length es) same

  unhandled : b ≡ a → length b.running.events ≡ length r.running.events
  unhandled is = ap (λ (z : Standing). length z.running.events) is ∙ as_many

  still_now : (t.running ≡ b.running) × (exec_next b.running ≡ None) × (b.saved ≤ t.saved) → IsStill t.running
  still_now later = subst IsStill (sym later.0) (record { handle = none; exec = later.1 })

  pub visit_moved : (h e : Bool) → HaveHandled a b h → HaveExecuted b t e → HasMoved r.running t.running (h || e)
  visit_moved true e more later = omega (arith, as_many, more, le)
  visit_moved false true is more = omega (arith, unhandled is, more)
  visit_moved false false is later = (ap (λ (z : Running). length z.events) later.0 ∙ unhandled is, still_now later)

  pub visit_acted : (h e : Bool) → a.saved ≡ r.saved → HaveHandled a b h → HaveExecuted b t e → HasActed r t
  visit_acted true e saved more later = inl (omega (arith, as_many, more, le))
  visit_acted false true saved is more = inl (omega (arith, unhandled is, more))
  visit_acted false false saved is later =
      let kept : b.saved ≡ a.saved = ap (λ (z : Standing). z.saved) is in
      inr (ap (λ (z : Running). length z.events) later.0 ∙ unhandled is, still_now later, omega (arith, saved, kept, later.2))
