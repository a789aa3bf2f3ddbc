-- The numbers of the signals that a process sends count up from 1, for each receiver: a law of two processes, the sender and the
-- receiver, in every run.
use Rattle.std.proofs.Common.{◌≡◌, ◌≢◌, ℕ, zero, suc, ◌+◌, ◌<◌, max, List, [], ◌∷◌, ◌++◌, length, set, true, false, cond, All, Option, Some, None, slice_get, refl, sym, ap, ◌∙◌, subst, inl, inr, ◌⊎◌, arith, length-append, length-set}
use Rattle.std.specs.Prelude.{◌==◌, slice_index}
use Rattle.std.proofs.lemmas.Bool.Decides.{eqb_tells}
use Rattle.std.proofs.lemmas.List.{get_or-set_same, get_or-set_other, length-replicate, get_or-replicate}
use Rattle.std.proofs.lemmas.List.Elements.{All-nil}
use Rattle.std.proofs.lemmas.Option.{same_Some, none-some}
use Rattle.sig_kinds.specs.declared.signal.Signal.{Signal}
use Rattle.sig_kinds.specs.Counting.{IsCounting}
use Rattle.sig_program.specs.Scripts.{Declared, Program}
use Rattle.sig_runs.specs.Rules.{Effect}
use Rattle.sig_runs.specs.Machine.{Machine, At, IsRun}
use Rattle.sig_runs.specs.Crew.{opening_machine}
use Rattle.sig_runs.specs.Replay.{acts_told}
use Rattle.sig_runs.specs.PairFacts.{turned, HoldOfPairs, KeepSenders, HoldsAfter, FirstKeeps}
use Rattle.sig_runs.proofs.PairFacts.{run_keeps_pairs, alone_keeps}
use Rattle.sig_model.specs.declared.event.Event.{Event}
use Rattle.sig_model.specs.declared.event.Did.{Did}
use Rattle.sig_model.specs.declared.event.Did.TheVariants as did
use Rattle.sig_model.specs.ProcessState.{ProcessState, Post, opening_state}
use Rattle.sig_model.specs.Bodies.{Body}
use Rattle.sig_model.specs.Executing.{executing}
use Rattle.sig_model.specs.Handling.{handling}
use Rattle.sig_model.specs.Finishing.{drawn, numbers_after, numbered, finished, finished_exec}
use Rattle.sig_model.specs.Machine.{execution_of, rules_with, rules_of, opening_from, opening_of}
use Rattle.sig_model.specs.Running.{Running, opened}
use Rattle.sig_model.specs.Keeping.{own_rules, opening_local, local_of, IsKeeping}
use Rattle.sig_model.specs.Accounts.{sent_by, bound_for, went, IsNumbered}
use Rattle.sig_model.specs.PairNumbers.{HasNumbersFor, numbers_for}
use Rattle.sig_model.proofs.Lookups.{mapped_tells}
use Rattle.sig_model.proofs.StampLemmas.{numbered_sent}
use Rattle.sig_model.proofs.EventLemmas.{IsStep}
use Rattle.sig_model.proofs.KeepLemmas.{step_keeps}

pub counting-append : (n : ℕ) (xs ys : List Signal) → IsCounting n xs → IsCounting (n + length xs) ys → IsCounting n (xs ++ ys)
counting-append n [] ys a b = subst (λ m. IsCounting m ys) (let e : n + 0 ≡ n = omega arith in e) b
counting-append n (x ∷ xs) ys a b =
    (a.0, counting-append (n + 1) xs ys a.1 (subst (λ m. IsCounting m ys) (let e : n + length (x ∷ xs) ≡ n + 1 + length xs = omega arith in e) b))

pub length_numbers : (numbers : List ℕ) (posts : List Post) → length (numbers_after numbers posts) ≡ length numbers
length_numbers numbers [] = refl
length_numbers numbers (q ∷ posts) = length_numbers (drawn numbers q.to) posts ∙ length-set numbers q.to (slice_index numbers q.to + 1)

-- the signals to p have the numbers from n on, and the next number for p is the one after them
pub record Draws (p n : ℕ) (after : List ℕ) (sends : List Signal) : Type 0 where
  pub counts : IsCounting n (bound_for p sends)
  pub next : slice_index after p ≡ n + length (bound_for p sends)

draws_more : (pid stamp p n : ℕ) (numbers : List ℕ) (q : Post) (posts : List Post) → p < length numbers → slice_index numbers p ≡ n →
    ((m : ℕ) → slice_index (drawn numbers q.to) p ≡ m → Draws p m (numbers_after (drawn numbers q.to) posts) (numbered pid stamp (drawn numbers q.to) posts)) →
    Draws p n (numbers_after numbers (q ∷ posts)) (numbered pid stamp numbers (q ∷ posts))
draws_more pid stamp p n numbers q posts lt at rest = go (eqb_tells q.to p)
  where
    tail : List Signal
    tail = numbered pid stamp (drawn numbers q.to) posts

    first : Signal
    first = record { from = record { 0 = pid }; to = record { 0 = q.to }; number = slice_index numbers q.to; stamp = stamp; kind = q.kind }

    go : (((q.to == p) ≡ true) × (q.to ≡ p)) ⊎ (((q.to == p) ≡ false) × (q.to ≢ p)) → Draws p n (numbers_after numbers (q ∷ posts)) (numbered pid stamp numbers (q ∷ posts))
    go (inl e) =
        let here : slice_index (drawn numbers q.to) p ≡ n + 1 =
        ap (λ z. slice_index (set numbers z (slice_index numbers z + 1)) p) e.1 ∙ get_or-set_same numbers p (slice_index numbers p + 1) 0 lt ∙ ap (λ z. z + 1) at in
        let d : Draws p (n + 1) (numbers_after (drawn numbers q.to) posts) tail = rest (n + 1) here in
        let all : bound_for p (first ∷ tail) ≡ first ∷ bound_for p tail = ap (λ c. cond c (first ∷ bound_for p tail) (bound_for p tail)) e.0 in
        record {
          counts = subst (IsCounting n) (sym all) (ap (λ z. slice_index numbers z) e.1 ∙ at, d.counts);
          next = d.next ∙ (let k : n + 1 + length (bound_for p tail) ≡ n + length (first ∷ bound_for p tail) = omega arith in k) ∙ ap (λ z. n + length z) (sym all);
        }
    go (inr e) =
        let here : slice_index (drawn numbers q.to) p ≡ n = get_or-set_other numbers q.to p (slice_index numbers q.to + 1) 0 (λ z. e.1 (sym z)) ∙ at in
        let d : Draws p n (numbers_after (drawn numbers q.to) posts) tail = rest n here in
        let all : bound_for p (first ∷ tail) ≡ bound_for p tail = ap (λ c. cond c (first ∷ bound_for p tail) (bound_for p tail)) e.0 in
        record { counts = subst (IsCounting n) (sym all) d.counts; next = d.next ∙ ap (λ z. n + length z) (sym all) }

pub draws : (pid stamp p n : ℕ) (numbers : List ℕ) (posts : List Post) → p < length numbers → slice_index numbers p ≡ n → Draws p n (numbers_after numbers posts) (numbered pid stamp numbers posts)
draws pid stamp p n numbers [] lt at = record { counts = tt; next = at ∙ (let e : n ≡ n + 0 = omega arith in e) }
draws pid stamp p n numbers (q ∷ posts) lt at =
    draws_more pid stamp p n numbers q posts lt at (λ m here. draws pid stamp p m (drawn numbers q.to) posts (subst (λ z. p < z) (sym (length-set numbers q.to (slice_index numbers q.to + 1))) lt) here)

-- an event of the sender
sent_numbers : (count pid q : ℕ) (s t : ProcessState) (out : List Signal) → HasNumbersFor count q s t out → (executed stamp : ℕ) (what : Did) (body : Body) →
    HasNumbersFor count q (finished pid s executed stamp what body).state t (out ++ bound_for q (finished pid s executed stamp what body).sends)
sent_numbers count pid q s t out h executed stamp what body =
    let numbers : List ℕ = s.counts.next_numbers in
    let sent : List Signal = bound_for q (numbered pid stamp numbers body.posts) in
    let d : Draws q (h.first + length out) (numbers_after numbers body.posts) (numbered pid stamp numbers body.posts) =
    draws pid stamp q (h.first + length out) numbers body.posts (subst (λ m. q < m) (sym h.many) h.there) h.next in
    record {
      there = h.there;
      many = length_numbers numbers body.posts ∙ h.many;
      first = h.first;
      counted = counting-append h.first out sent h.counted d.counts;
      next = d.next ∙ (let e : h.first + length out + length sent ≡ h.first + length (out ++ sent) = omega (arith, length-append out sent) in e);
      begins = h.begins;
    }

-- an event of the receiver, which may handle the oldest signal
not_first : {C : Type 0} (n stamp : ℕ) → n ≡ stamp + 1 → n ≡ 0 → C
not_first n stamp e z = absurd (omega (arith, e, z))

came_later : (count q : ℕ) (s t u : ProcessState) (out : List Signal) (stamp : ℕ) → u.counts.stamp ≡ stamp + 1 → HasNumbersFor count q s t out → HasNumbersFor count q s u out
came_later count q s t u out stamp later h =
    record { there = h.there; many = h.many; first = h.first; counted = h.counted; next = h.next; begins = λ z. not_first u.counts.stamp stamp later z }

came_first : (count q : ℕ) (s t u : ProcessState) (x : Signal) (out : List Signal) (stamp : ℕ) → u.counts.stamp ≡ stamp + 1 → HasNumbersFor count q s t (x ∷ out) → HasNumbersFor count q s u out
came_first count q s t u x out stamp later h = record {
  there = h.there;
  many = h.many;
  first = h.first + 1;
  counted = h.counted.1;
  next = h.next ∙ (let e : h.first + length (x ∷ out) ≡ h.first + 1 + length out = omega arith in e);
  begins = λ z. not_first u.counts.stamp stamp later z;
}

module _ (turns : ℕ) (part : ℕ → Option Declared) where
  -- what is so of each finished body is so of each execution
  by_body : (P : Effect ProcessState Signal Event → Type 0) (pid : ℕ) (s : ProcessState) →
      ((executed stamp : ℕ) (what : Did) (body : Body) → P (finished pid s executed (stamp + 1) what body)) → (o : Option Declared) (effect : Effect ProcessState Signal Event) →
      execution_of pid o s ≡ Some effect → P effect
  by_body P pid s each None effect e = absurd (none-some effect e)
  by_body P pid s each (Some d) effect e =
      let w : (body : Body) × (executing d s ≡ Some body) × (finished_exec pid s body ≡ effect) = mapped_tells (finished_exec pid s) (executing d s) effect e in
      subst P w.2 (each (s.counts.executed + 1) s.counts.stamp (did.Exec s.counts.place) w.0)

  senders_kept : KeepSenders (rules_with turns part)
  unfolding rules_with
  senders_kept = record {
    executed = λ p s effect e.
        by_body (λ f. All (λ (x : Signal). x.from.0 ≡ p) f.sends) p s (λ executed stamp what body i d lt. (numbered_sent p (stamp + 1) s.counts.next_numbers body.posts i d lt).0) (part p) effect e;
    handled = λ p s x i d lt. (numbered_sent p (max s.counts.stamp x.stamp + 1) s.counts.next_numbers (handling p s x).posts i d lt).0;
  }

  by_sender : (count : ℕ) → FirstKeeps (numbers_for count) (rules_with turns part)
  unfolding rules_with
  by_sender count = record {
    executed = λ p q s t out back effect alive e h.
        by_body (λ f. HoldsAfter (numbers_for count) (rules_with turns part) p q f t out back) p s (λ executed stamp what body. sent_numbers count p q s t out h executed (stamp + 1) what body) (part p) effect e;
    handled = λ p q s t x out back from h.
        sent_numbers count p q s t out h s.counts.executed (max s.counts.stamp x.stamp + 1) (did.From x.from x.number) (handling p s x);
    handled_other = λ p q s t x out back apart h.
        sent_numbers count p q s t out h s.counts.executed (max s.counts.stamp x.stamp + 1) (did.From x.from x.number) (handling p s x);
  }

  by_receiver : (count : ℕ) → FirstKeeps (turned (numbers_for count)) (rules_with turns part)
  unfolding rules_with
  by_receiver count = record {
    executed = λ p q s t out back effect alive e h.
        by_body (λ f. HasNumbersFor count p t f.state back) p s (λ executed stamp what body. came_later count p t s (finished p s executed (stamp + 1) what body).state back stamp refl h) (part p) effect e;
    handled = λ p q s t x out back from h.
        came_first count p t s (finished p s s.counts.executed (max s.counts.stamp x.stamp + 1) (did.From x.from x.number) (handling p s x)).state x back (max s.counts.stamp x.stamp) refl h;
    handled_other = λ p q s t x out back apart h.
        came_later count p t s (finished p s s.counts.executed (max s.counts.stamp x.stamp + 1) (did.From x.from x.number) (handling p s x)).state back (max s.counts.stamp x.stamp) refl h;
  }

-- the opening: nothing was sent
opening_numbers : (pid count q : ℕ) (t : ProcessState) → q < count → HasNumbersFor count q (opening_state pid count) t []
opening_numbers pid count q t lt = record { there = lt; many = length-replicate count 1; first = 1; counted = tt; next = get_or-replicate count q 1 0 lt; begins = λ e. refl }

from_opening : (pid count : ℕ) (ps : List Declared) (p : ℕ) (s : ProcessState) → slice_get (opening_from pid count ps) p ≡ Some s →
    ((p < length ps) × ((q : ℕ) (t : ProcessState) → q < count → HasNumbersFor count q s t []))
from_opening pid count [] p s e = absurd (none-some s e)
from_opening pid count (d ∷ ps) zero s e = (
  let lt : 0 < length (d ∷ ps) = omega arith in lt,
  λ q t lt. subst (λ (z : ProcessState). HasNumbersFor count q z t []) (same_Some (opening_state pid count) s e) (opening_numbers pid count q t lt),
)
from_opening pid count (d ∷ ps) (suc p) s e =
    let w : (p < length ps) × ((q : ℕ) (t : ProcessState) → q < count → HasNumbersFor count q s t []) = from_opening (pid + 1) count ps p s e in
    (let lt : suc p < length (d ∷ ps) = omega (arith, w.0) in lt, w.1)

-- the numbers of the signals on their way, in every run
pub numbers_on_the_way : (script : Program) (events : List (At Event)) (end : Machine ProcessState Signal) → IsRun (rules_of script) (opening_machine (opening_of script)) events end →
    HoldOfPairs (numbers_for (length script.procs)) (rules_of script) end
numbers_on_the_way script events end run =
    run_keeps_pairs (rules_of script) (numbers_for (length script.procs)) (senders_kept script.turns (slice_get script.procs))
    (record { first = by_sender script.turns (slice_get script.procs) (length script.procs); second = by_receiver script.turns (slice_get script.procs) (length script.procs) })
    events (opening_machine (opening_of script)) end
    (record {
      senders = λ s t. All-nil (λ (x : Signal). (rules_of script).from x ≡ s);
      pairs = λ p q s t apart here there.
          (from_opening 0 (length script.procs) script.procs p s here).1 q t (from_opening 0 (length script.procs) script.procs q t there).0;
    }) run

-- What a process that keeps what it has to keep sent to q, where q does nothing: nothing of it has left the way.
module _ (r : Running) (k : IsKeeping r) where
  went_numbers : (q : ℕ) → q < r.count → HasNumbersFor r.count q r.state (opening_state q r.count) (went q r)
  unfolding sent_by rules_with
  went_numbers q lt =
      alone_keeps (own_rules r) (numbers_for r.count) (by_sender r.turns (λ p. Some r.proc) r.count) r.pid q (opening_state q r.count)
      (acts_told (own_rules r) r.pid (opening_local r) r.events r.handled) (opening_local r) (local_of r) [] [] (opening_numbers r.pid r.count q (opening_state q r.count) lt) k.ran.runs

  pub keeping_numbered : IsNumbered r
  keeping_numbered = record {
    many = (went_numbers r.pid k.below.pid).many;
    counted = λ q lt. subst (λ n. IsCounting n (went q r)) ((went_numbers q lt).begins refl) (went_numbers q lt).counted;
    next = λ q lt. (went_numbers q lt).next ∙ (let e : (went_numbers q lt).first + length (went q r) ≡ length (went q r) + 1 = omega (arith, (went_numbers q lt).begins refl) in e);
  }

-- the next instruction is executed, or the next signal handled
pub step_numbered : (r t : Running) → IsKeeping r → IsStep r t → IsNumbered t
step_numbered r t k step = keeping_numbered t (step_keeps r t k step)

-- the process as the script opens it has sent nothing
pub opened_numbered : (pid count turns : ℕ) (p : Declared) → IsNumbered (opened pid count turns p)
unfolding sent_by
opened_numbered pid count turns p = record { many = length-replicate count 1; counted = λ q lt. tt; next = λ q lt. get_or-replicate count q 1 0 lt }

-- signals that come to it, and signals that leave its outbox
pub lists_numbered : (r : Running) (taken out : List Signal) → IsNumbered r → IsNumbered (record r { taken_in = taken; outbox = out })
unfolding sent_by
lists_numbered r taken out n = record { many = n.many; counted = n.counted; next = n.next }
