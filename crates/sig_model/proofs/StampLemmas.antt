-- What one event gives: its stamp, and the signals that it sends; and the stamps of all events.
use Rattle.std.proofs.Common.{◌≡◌, ℕ, ◌+◌, ◌≤◌, ◌<◌, max, List, [], ◌∷◌, All, IfSome, Option, Some, None, refl, subst, arith}
use Rattle.std.specs.Prelude.{slice_index}
use Rattle.std.proofs.lemmas.List.Elements.{All-nil, All-cons, All-head, All-tail, All-weaker}
use Rattle.std.proofs.lemmas.Option.{MatchOption-at_some}
use Rattle.sig_kinds.specs.declared.signal.Signal.{Signal}
use Rattle.sig_runs.specs.Rules.{Effect, IsStamped, KeepStamps}
use Rattle.sig_runs.specs.Rules.Did.{Exec}
use Rattle.sig_runs.specs.LocalRun.{Input, CanDo, handled_in}
use Rattle.sig_runs.specs.LocalRun.Input.{Execute, Handle}
use Rattle.sig_program.specs.Scripts.{Declared}
use Rattle.sig_model.specs.declared.event.Event.{Event}
use Rattle.sig_model.specs.declared.event.Did.{Did}
use Rattle.sig_model.specs.declared.event.Did.TheVariants as did
use Rattle.sig_model.specs.declared.state.TheConstants.{LAST_STAMP}
use Rattle.sig_model.specs.ProcessState.{ProcessState, Post}
use Rattle.sig_model.specs.Bodies.{Body}
use Rattle.sig_model.specs.Executing.{executing}
use Rattle.sig_model.specs.Handling.{handling}
use Rattle.sig_model.specs.Finishing.{drawn, numbered, finished, finished_exec}
use Rattle.sig_model.specs.Machine.{execution_of, rules_with}
use Rattle.sig_model.specs.Keeping.{IsKeeping, own_rules, opening_local, local_of}
use Rattle.sig_model.specs.Running.{Running}
use Rattle.sig_runs.proofs.Stamps.{events_by_last, handled_before_last}
use Rattle.sig_model.proofs.Lookups.{mapped_tells}
use Rattle.sig_model.proofs.Guards.{uncut_stamp}

module _ (pid stamp : ℕ) where
  -- what holds of a signal to be sent, with each number, holds of all that are sent
  pub numbered_all : (P : Signal → Type 0) (Q : Post → Type 0) →
      ((q : Post) (n : ℕ) → Q q → P (record { from = record { 0 = pid }; to = record { 0 = q.to }; number = n; stamp = stamp; kind = q.kind })) →
      (numbers : List ℕ) (posts : List Post) → All Q posts → All P (numbered pid stamp numbers posts)
  numbered_all P Q each numbers [] h = All-nil P
  numbered_all P Q each numbers (q ∷ qs) h =
      All-cons P _ _ (each q (slice_index numbers q.to) (All-head Q q qs h)) (numbered_all P Q each (drawn numbers q.to) qs (All-tail Q q qs h))

  -- they have this sender and this stamp
  pub numbered_sent : (numbers : List ℕ) (posts : List Post) → All (λ (x : Signal). (x.from.0 ≡ pid) × (x.stamp ≡ stamp)) (numbered pid stamp numbers posts)
  numbered_sent numbers posts =
      numbered_all (λ (x : Signal). (x.from.0 ≡ pid) × (x.stamp ≡ stamp)) (λ (q : Post). Unit {0}) (λ q n h. (refl, refl)) numbers posts (λ i d lt. tt)

-- an effect of the process pid at s: that of a body of which Q holds, with a later stamp, which is at most 2^62
pub record IsFinished (Q : Body → Type 0) (pid : ℕ) (s : ProcessState) (e : Effect ProcessState Signal Event) : Type 0 where
  pub body : Body
  pub holds : Q body
  pub executed : ℕ
  pub stamp : ℕ
  pub what : Did
  pub later : s.counts.stamp < stamp
  pub low : stamp ≤ LAST_STAMP
  pub is : finished pid s executed stamp what body ≡ e

-- stamps, by numbers alone
next_later : (n : ℕ) → n < n + 1
next_later n = omega arith

next_low : (n : ℕ) → n < LAST_STAMP → n + 1 ≤ LAST_STAMP
next_low n low = omega (arith, low)

max_later : (n m : ℕ) → n < max n m + 1
max_later n m = omega arith

max_low : (n m : ℕ) → n < LAST_STAMP → m < LAST_STAMP → max n m + 1 ≤ LAST_STAMP
max_low n m low early = omega (arith, low, early)

none_given : {A : Type 0} {C : Type 0} (x : A) → None ≡ Some x → C
none_given x e = cc

-- what an act does, where Q holds of what the instruction does, if it can be executed, and of what the signal does
module _ (limit : ℕ) (part : ℕ → Option Declared) (pid : ℕ) (s : ProcessState) (own : List Signal) (Q : Body → Type 0) (e : Effect ProcessState Signal Event) where
  exec_finished : (o : Option Declared) → IfSome o (λ p. IfSome (executing p s) Q) → s.counts.stamp < LAST_STAMP → execution_of pid o s ≡ Some e
      → IsFinished Q pid s e
  exec_finished None h low is = none_given e is
  exec_finished (Some p) h low is =
      let w : (body : Body) × (executing p s ≡ Some body) × (finished_exec pid s body ≡ e) = mapped_tells (finished_exec pid s) (executing p s) e is in
      record {
        body = w.0;
        holds = MatchOption-at_some (Unit {0}) Q w.0 w.1 h;
        executed = s.counts.executed + 1;
        stamp = s.counts.stamp + 1;
        what = did.Exec s.counts.place;
        later = next_later s.counts.stamp;
        low = next_low s.counts.stamp low;
        is = w.2;
      }

  pub act_finished : (i : Input Signal) → IfSome (part pid) (λ p. IfSome (executing p s) Q) → All (λ (x : Signal). Q (handling pid s x)) (handled_in i) →
      CanDo (rules_with limit part) pid (record { state = s; own = own }) i e → IsFinished Q pid s e
  unfolding rules_with
  act_finished Execute h g can = exec_finished (part pid) h (uncut_stamp limit s can.1) can.3
  act_finished (Handle x) h g can =
      let low : s.counts.stamp < LAST_STAMP = uncut_stamp limit s can.0 in
      let early : x.stamp < LAST_STAMP = can.1 in
      record {
        body = handling pid s x;
        holds = All-head (λ (y : Signal). Q (handling pid s y)) x [] g;
        executed = s.counts.executed;
        stamp = max s.counts.stamp x.stamp + 1;
        what = did.From x.from x.number;
        later = max_later s.counts.stamp x.stamp;
        low = max_low s.counts.stamp x.stamp low early;
        is = can.3;
      }

-- the stamps of the rules
module _ (turns : ℕ) (part : ℕ → Option Declared) where
  exec_stamped : (pid : ℕ) (o : Option Declared) (s : ProcessState) (effect : Effect ProcessState Signal Event) →
      execution_of pid o s ≡ Some effect → IsStamped (rules_with turns part) effect (s.counts.stamp + 1) Exec
  unfolding rules_with
  exec_stamped pid None s effect e = none_given effect e
  exec_stamped pid (Some p) s effect e =
      let w : (body : Body) × (executing p s ≡ Some body) × (finished_exec pid s body ≡ effect) = mapped_tells (finished_exec pid s) (executing p s) effect e in
      subst (λ (x : Effect ProcessState Signal Event). IsStamped (rules_with turns part) x (s.counts.stamp + 1) Exec) w.2
      (record { event = refl; last = refl; sends = λ i d lt. (numbered_sent pid (s.counts.stamp + 1) s.counts.next_numbers w.0.posts i d lt).1; told = refl })

  pub stamps_kept : KeepStamps (rules_with turns part)
  unfolding rules_with
  stamps_kept = record {
    executed = λ pid s effect e. exec_stamped pid (part pid) s effect e;
    handled = λ pid s x. record {
      event = refl;
      last = refl;
      sends = λ i d lt. (numbered_sent pid (max s.counts.stamp x.stamp + 1) s.counts.next_numbers (handling pid s x).posts i d lt).1;
      told = refl;
    };
  }

-- no event of a running process has a stamp above 2^62, and each signal that it handled had a lower one
module _ (r : Running) (keeping : IsKeeping r) where
  stamped : KeepStamps (own_rules r)
  stamped = stamps_kept r.turns (λ p. Some r.proc)

  at_most : (n : ℕ) → n ≤ r.state.counts.stamp → n ≤ LAST_STAMP
  at_most n le = let low : r.state.counts.stamp ≤ LAST_STAMP = keeping.low in omega (arith, le, low)

  below : (n : ℕ) → n < r.state.counts.stamp → n < LAST_STAMP
  below n lt = let low : r.state.counts.stamp ≤ LAST_STAMP = keeping.low in omega (arith, lt, low)

  pub events_low : All (λ (e : Event). e.stamp ≤ LAST_STAMP) r.events
  unfolding rules_with
  events_low =
      All-weaker (λ (e : Event). e.stamp ≤ r.state.counts.stamp) (λ (e : Event). e.stamp ≤ LAST_STAMP) (λ e le. at_most e.stamp le) r.events
      (events_by_last (own_rules r) stamped r.pid (opening_local r) (local_of r) r.events r.handled keeping.ran)

  pub handled_low : All (λ (x : Signal). x.stamp < LAST_STAMP) r.handled
  unfolding rules_with
  handled_low =
      All-weaker (λ (x : Signal). x.stamp < r.state.counts.stamp) (λ (x : Signal). x.stamp < LAST_STAMP) (λ x lt. below x.stamp lt) r.handled
      (handled_before_last (own_rules r) stamped r.pid (opening_local r) (local_of r) r.events r.handled keeping.ran)
