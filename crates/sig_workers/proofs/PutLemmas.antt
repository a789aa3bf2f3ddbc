-- What a process sends is put.
use Rattle.std.proofs.Common.{◌≡◌, ◌≢◌, ℕ, ◌+◌, ◌<◌, List, ◌∷◌, ◌++◌, length, true, cond, Some, refl, sym, ap, ◌∙◌, subst, arith}
use Rattle.std.specs.Prelude.{All, get_or, slice_get, slice_set, Result, Ok, Err, IfOk}
use Rattle.std.specs.declared.alloc.AllocError.{AllocError}
use Rattle.std.proofs.lemmas.Bool.{eq-eqb}
use Rattle.std.proofs.lemmas.List.Elements.{All-head, All-tail}
use Rattle.std.proofs.lemmas.Option.{slice_get-get_or, same_Some}
use Rattle.sig_terms.specs.declared.pid.Pid.{Pid}
use Rattle.sig_kinds.specs.declared.signal.Signal.{Signal}
use Rattle.sig_kinds.specs.SignalNames.{IsSignalBelow}
use Rattle.sig_kinds.specs.Counting.{IsCounting}
use Rattle.sig_model.specs.Running.{Running}
use Rattle.sig_model.specs.Keeping.{IsKeeping, IsLeaving}
use Rattle.sig_model.specs.Accounts.{bound_for}
use Rattle.sig_model.proofs.KeepLemmas.{outbox_keeps}
use Rattle.sig_model.proofs.NumberLemmas.{keeping_numbered}
use Rattle.sig_layout.specs.declared.via.Via.{Via}
use Rattle.sig_layout.specs.Sets.{has}
use Rattle.sig_layout.specs.Sent.{putter, of}
use Rattle.sig_layout.specs.Openings.{first_of, IsNext}
use Rattle.sig_queue.specs.Seats.{Queue, Seated}
use Rattle.sig_queue.specs.Parts.{item}
use Rattle.sig_workers.specs.Gone.{PutsFor, IsReady, IsSameSeat, Goes}
use Rattle.sig_workers.specs.Visits.{MayPut, HasPut, WasPut}
use Rattle.sig_workers.proofs.SeatLists.{items_length, counting-next}
use Rattle.sig_workers.proofs.Going.{goes_put}

-- the first signal of the outbox leaves
module _ (queues : List Queue) (pid : ℕ) (r t : Running) (x : Signal) (seats : List Seated) (h : IsReady queues pid r seats) (first : r ≡ record t { outbox = x ∷ t.outbox }) where
  box : r.outbox ≡ x ∷ t.outbox
  box = ap (λ (z : Running). z.outbox) first

  leaving : IsLeaving r.pid r.state.counts.stamp x
  leaving = All-head (IsLeaving r.pid r.state.counts.stamp) x t.outbox (subst (All (IsLeaving r.pid r.state.counts.stamp)) box h.keeping.outbox)

  below : IsSignalBelow r.count x
  below = All-head (IsSignalBelow r.count) x t.outbox (subst (All (IsSignalBelow r.count)) box h.keeping.below.outbox)

  from_pid : x.from.0 ≡ pid
  from_pid = leaving.from ∙ h.pid_is

  apart : x.to.0 ≢ pid
  apart e = leaving.to (e ∙ sym h.pid_is)

  mine_first : bound_for x.to.0 r.outbox ≡ x ∷ bound_for x.to.0 t.outbox
  mine_first = ap (λ z. bound_for x.to.0 z) box ∙ ap (λ c. cond c (x ∷ bound_for x.to.0 t.outbox) (bound_for x.to.0 t.outbox)) (eq-eqb x.to.0 x.to.0 refl)

  pub may_put : (v : Seated) → slice_get seats x.to.0 ≡ Some v → MayPut queues v x
  may_put v there =
      let f : PutsFor queues pid x.to.0 r v = h.puts x.to.0 v apart there in
      let b : x.to.0 < r.count = below.to in
      let counts : IsCounting 1 (f.sent.0 ++ x ∷ bound_for x.to.0 t.outbox) = subst (IsCounting 1) (f.sent.1 ∙ ap (λ z. f.sent.0 ++ z) mine_first) ((keeping_numbered r h.keeping).counted x.to.0 b) in
      let number : x.number ≡ 1 + length f.sent.0 = counting-next 1 f.sent.0 (bound_for x.to.0 t.outbox) x counts in
      record {
        queue = f.queue;
        here = f.here;
        own = f.own;
        sender = ap (λ s. has v.knows.senders s) from_pid ∙ f.sender;
        next = record {
          carried = record {
            from = ap (λ s. has f.queue.setup.senders s) from_pid ∙ f.asked;
            to = to_pid x.to f.queue.setup.opening.receiver (sym f.receiver);
            early = omega (arith, leaving.stamp, h.keeping.low);
            below = subst (λ n. IsSignalBelow n x) (sym f.count) below;
          };
          number = number ∙ (let e : 1 + length f.sent.0 ≡ length f.sent.0 + 1 = omega arith in e) ∙ f.sent.2
              ∙ ap (λ n. first_of f.queue.setup pid + n) (sym (items_length pid v.knows.put))
              ∙ ap (λ s. first_of f.queue.setup s + length (of putter s v.knows.put)) (sym from_pid);
        };
      }
    where
      to_pid : (a b : Pid) → a.0 ≡ b.0 → a ≡ b
      to_pid a b e = ap (λ n. record { 0 = n }) e

  left_keeps : IsKeeping t
  left_keeps =
      let same : record r { outbox = t.outbox } ≡ t = ap (λ (z : Running). record z { outbox = t.outbox }) first in
      subst IsKeeping same
      (outbox_keeps r t.outbox h.keeping (All-tail (IsLeaving r.pid r.state.counts.stamp) x t.outbox (subst (All (IsLeaving r.pid r.state.counts.stamp)) box h.keeping.outbox))
      (All-tail (IsSignalBelow r.count) x t.outbox (subst (All (IsSignalBelow r.count)) box h.keeping.below.outbox)))

  pub put_goes : (way : Via) (later : List Seated) → WasPut seats x way later → Goes queues pid r seats t later
  put_goes way later w =
      let same : IsSameSeat w.old w.new = record { queue = w.put.queue; senders = w.put.senders; role = w.put.role } in
      let go : Goes queues pid (record t { outbox = x ∷ t.outbox }) seats t (slice_set seats x.to.0 w.new) =
      goes_put queues pid t x seats (subst (λ z. IsReady queues pid z seats) first h) x.to.0 w.old w.new w.there same from_pid refl apart (item way x) refl w.put.put w.put.taken left_keeps in
      subst (λ ks. Goes queues pid r seats t ks) (sym w.set) (subst (λ z. Goes queues pid z seats t (slice_set seats x.to.0 w.new)) (sym first) go)

  -- what the loop over the outbox keeps
  pub kept_but_outbox : (start : Running) → r ≡ record start { outbox = r.outbox } → t ≡ record start { outbox = t.outbox }
  kept_but_outbox start e =
      let same : record r { outbox = t.outbox } ≡ t = ap (λ (z : Running). record z { outbox = t.outbox }) first in
      sym same ∙ ap (λ (z : Running). record z { outbox = t.outbox }) e

-- an element that was read stands at its place
pub at_place : {X : Type 0} (xs : List X) (i : ℕ) (x : X) → i < length xs → x ≡ get_or xs i x → slice_get xs i ≡ Some x
at_place xs i x lt is = slice_get-get_or xs i x lt ∙ ap (λ z. Some z) (sym is)

-- the conditions of a put, at the queue and the seat that were read
pub record PutAt (q : Queue) (v : Seated) (x : Signal) : Type 0 where
  pub own : v.queue ≡ q.id
  pub from : has v.knows.senders x.from.0 ≡ true
  pub next : IsNext q.setup v.knows.put x

pub may_put_at : (queues : List Queue) (q : Queue) (v : Seated) (x : Signal) → slice_get queues x.to.0 ≡ Some q → MayPut queues v x → PutAt q v x
may_put_at queues q v x there m =
    let same : m.queue ≡ q = same_Some m.queue q (sym m.here ∙ there) in
    record {
      own = m.own ∙ ap (λ (z : Queue). z.id) same;
      from = m.sender;
      next = subst (λ (z : Queue). IsNext z.setup v.knows.put x) same m.next;
    }

pub was_put : (seats : List Seated) (x : Signal) (v w : Seated) (o : Result Via AllocError) → slice_get seats x.to.0 ≡ Some v → IfOk o (λ way. HasPut v x way w) → IfOk o (λ way. WasPut seats x way (slice_set seats x.to.0 w))
was_put seats x v w (Ok way) there e = record { old = v; there = there; new = w; set = refl; put = e }
was_put seats x v w (Err f) there e = tt
