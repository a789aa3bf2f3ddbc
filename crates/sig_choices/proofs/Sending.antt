-- What a process sends by a choice, and the origins of these signals.
use Rattle.std.proofs.Common.{◌≡◌, ℕ, ◌+◌, ◌<◌, Bool, true, false, cond, List, [], ◌∷◌, ◌++◌, map, length, Some, refl, sym, ap, ◌∙◌, subst, inl, inr, ◌⊎◌, ◌≢◌, ◌-◌, arith, length-append}
use Rattle.std.specs.Prelude.{All, ◌==◌, slice_get, slice_index}
use Rattle.std.specs.Bool.{MatchBool}
use Rattle.std.proofs.Math.Path.{ap₂}
use Rattle.std.proofs.lemmas.Bool.{eq-eqb, ne_eqb}
use Rattle.std.proofs.lemmas.Bool.Decides.{eqb_tells}
use Rattle.std.proofs.lemmas.List.{map-append}
use Rattle.std.proofs.lemmas.List.Elements.{All-nil, All-cons, All-head, All-tail, All-weaker}
use Rattle.sig_kinds.specs.declared.signal.Signal.{Signal}
use Rattle.sig_kinds.specs.Counting.{IsCounting}
use Rattle.sig_program.specs.Scripts.{Program}
use Rattle.sig_runs.specs.Rules.{Effect}
use Rattle.sig_runs.specs.Machine.{Choice, choice}
use Rattle.sig_runs.specs.Machine.Choice.{Executes, Handles}
use Rattle.sig_model.specs.declared.event.Event.{Event}
use Rattle.sig_model.specs.declared.event.Did.{Did}
use Rattle.sig_model.specs.declared.event.Did.TheVariants.{Exec, From}
use Rattle.sig_model.specs.declared.origin.Origin.{Origin}
use Rattle.sig_model.specs.ProcessState.{ProcessState}
use Rattle.sig_model.specs.Bodies.{Body}
use Rattle.sig_model.specs.Executing.{executing}
use Rattle.sig_model.specs.Handling.{handling}
use Rattle.sig_model.specs.Finishing.{finished, finished_exec}
use Rattle.sig_model.specs.Machine.{acted_at, rules_of, rules_with, execution, handling_of}
use Rattle.sig_model.specs.Keeping.{IsToItself, IsArriving}
use Rattle.sig_model.specs.Running.{Running, advanced, exec_next, handled_one, to_itself, to_others}
use Rattle.sig_model.specs.SettledRun.{waiting_of}
use Rattle.sig_model.specs.Accounts.{coming_from}
use Rattle.sig_model.specs.CrewLaw.{IsLawfulCrew, machine_of}
use Rattle.sig_model.proofs.Lookups.{mapped_tells}
use Rattle.sig_model.proofs.Guards.{Executed, Handled, exec_next_tells, handle_next_tells}
use Rattle.sig_model.proofs.StampLemmas.{numbered_sent}
use Rattle.sig_model.proofs.NumberLemmas.{Draws, draws}
use Rattle.sig_choices.specs.Waiting.{AreAlike}
use Rattle.sig_choices.specs.Choosing.{Acts, AreEmptied, HasHandledOf}
use Rattle.sig_choices.specs.Origins.{sent_in, executing_sends, handling_sends, sent_at, origin_of, origins_in, HasSent, own_origins}
use Rattle.sig_choices.proofs.Clear.{M, clear_machine, state_at, queued_is, part_is}
use Rattle.sig_choices.proofs.Steps.{first_is, from_s}

-- the event of a body
pub finished_sent : (r : Running) → r.pid < length r.state.counts.next_numbers → (executed stamp : ℕ) (what : Did) (body : Body) →
    HasSent r (advanced r (finished r.pid r.state executed stamp what body)) (finished r.pid r.state executed stamp what body).sends
finished_sent r lt executed stamp what body =
    let d : Draws r.pid (slice_index r.state.counts.next_numbers r.pid) (finished r.pid r.state executed stamp what body).state.counts.next_numbers (finished r.pid r.state executed stamp what body).sends =
    draws r.pid stamp r.pid (slice_index r.state.counts.next_numbers r.pid) r.state.counts.next_numbers body.posts lt refl in
    record {
      from = λ i d lt. (numbered_sent r.pid stamp r.state.counts.next_numbers body.posts i d lt).0;
      outbox = refl;
      own = d.counts;
      next = d.next;
      events = length-append r.events ((finished r.pid r.state executed stamp what body).event ∷ []);
    }

-- the handling of a signal
pub handled_one_sent : (r : Running) → r.pid < length r.state.counts.next_numbers → (own taken : List Signal) (x : Signal) →
    HasSent r (handled_one (record r { own = own; taken_in = taken }) x) (handling_of r.pid r.state x).sends
handled_one_sent r lt own taken x =
    let h : HasSent (record r { own = own; taken_in = taken; handled = r.handled ++ x ∷ [] }) (handled_one (record r { own = own; taken_in = taken }) x) (handling_of r.pid r.state x).sends =
    finished_sent (record r { own = own; taken_in = taken; handled = r.handled ++ x ∷ [] }) lt r.state.counts.executed _ _ (handling r.pid r.state x) in
    record { from = h.from; outbox = h.outbox; own = h.own; next = h.next; events = h.events }

module _ (script : Program) (crew : List Running) (p : ℕ) (r : Running) (there : slice_get crew p ≡ Some r) (law : IsLawfulCrew script crew) where
  own_number : r.pid < length r.state.counts.next_numbers
  own_number = subst (λ n. r.pid < n) (sym (law.numbered p r there).many) (law.keeping p r there).below.pid

  -- what the machine sends by an execution, and by the handling of the first signal that waits of s
  exec_sends : (effect : Effect ProcessState Signal Event) → execution r.pid r.proc r.state ≡ Some effect → sent_at (rules_of script) (M script crew) (Executes p) ≡ effect.sends
  unfolding rules_with
  exec_sends effect e =
      ap (λ o. executing_sends (rules_of script) p o) (state_at script crew p r there (law.processes p r there))
      ∙ ap (λ o. sent_in o) (part_is script crew p r there (law.processes p r there) ∙ e)

  handle_sends : (s : ℕ) (x : Signal) (rest : List Signal) → waiting_of s p r ≡ x ∷ rest → sent_at (rules_of script) (M script crew) (Handles p s) ≡ (handling_of r.pid r.state x).sends
  unfolding rules_with
  handle_sends s x rest e =
      ap (λ o. handling_sends (rules_of script) p o ((M script crew).queued s p)) (state_at script crew p r there (law.processes p r there))
      ∙ ap (λ xs. handling_sends (rules_of script) p (Some r.state) xs) (queued_is script crew p r there s ∙ e)
      ∙ ap (λ q. (handling_of q r.state x).sends) (sym (law.processes p r there).pid)

  -- the signal that is handled is the first that waits of its sender
  waits_first : (s : ℕ) (waits rest : List Signal) (x : Signal) (mine : Bool) → x.from.0 ≡ s → AreAlike waits r.taken_in → All (IsArriving r.pid r.count) waits →
      MatchBool mine (r.own ≡ x ∷ rest) ((r.own ≡ []) × (waits ≡ x ∷ rest)) → (more : List Signal) × (waiting_of s p r ≡ x ∷ more)
  waits_first s waits rest x true from alike arriving first =
      let own : IsToItself r.pid r.state.counts.stamp x =
      All-head (IsToItself r.pid r.state.counts.stamp) x rest (subst (λ xs. All (IsToItself r.pid r.state.counts.stamp) xs) first (law.keeping p r there).own) in
      (rest, ap (λ c. cond c r.own (coming_from s r.taken_in)) (eq-eqb s p (sym from ∙ own.from ∙ (law.processes p r there).pid)) ∙ first)
  waits_first s waits rest x false from alike arriving first =
      let a : IsArriving r.pid r.count x = All-head (IsArriving r.pid r.count) x rest (subst (λ xs. All (IsArriving r.pid r.count) xs) first.1 arriving) in
      let other : s ≢ p = λ e. a.from (from ∙ e ∙ sym (law.processes p r there).pid) in (
        coming_from s rest,
        ap (λ c. cond c r.own (coming_from s r.taken_in)) (ne_eqb s p other)
            ∙ sym (alike s) ∙ ap (λ xs. coming_from s xs) first.1 ∙ ap (λ c. cond c (x ∷ coming_from s rest) (coming_from s rest)) (eq-eqb x.from.0 s from),
      )

  module _ (t : Running) where
    executed_sent : exec_next r ≡ Some t → HasSent r t (sent_at (rules_of script) (M script crew) (Executes p))
    executed_sent h =
        let w : Executed r t = exec_next_tells r t h in
        let b : (body : Body) × (executing r.proc r.state ≡ Some body) × (finished_exec r.pid r.state body ≡ w.effect) =
        mapped_tells (finished_exec r.pid r.state) (executing r.proc r.state) w.effect w.is_effect in
        let k : HasSent r (advanced r w.effect) w.effect.sends =
        subst (λ (f : Effect ProcessState Signal Event). HasSent r (advanced r f) f.sends) b.2 (finished_sent r own_number (r.state.counts.executed + 1) (r.state.counts.stamp + 1) (Exec (r.state.counts.place)) b.0) in
        subst (λ xs. HasSent r t xs) (sym (exec_sends w.effect w.is_effect)) (subst (λ z. HasSent r z w.effect.sends) w.is k)

    handled_sent : (s : ℕ) → HasHandledOf s r t → HasSent r t (sent_at (rules_of script) (M script crew) (Handles p s))
    handled_sent s h =
        let w : Handled (record r { taken_in = h.waits }) t = handle_next_tells (record r { taken_in = h.waits }) t h.handled in
        let first : w.signal ≡ h.signal = first_is script crew p r t there law w.mine r.own h.waits w.rest w.signal h.signal w.first h.next in
        let from : w.signal.from.0 ≡ s = ap (λ (x : Signal). x.from.0) first ∙ from_s script crew p r t there law s h in
        let q : (more : List Signal) × (waiting_of s p r ≡ w.signal ∷ more) = waits_first s h.waits w.rest w.signal w.mine from h.alike h.arriving w.first in
        let k : HasSent r (handled_one (record r { own = cond w.mine w.rest r.own; taken_in = cond w.mine h.waits w.rest }) w.signal) (handling_of r.pid r.state w.signal).sends =
        handled_one_sent r own_number (cond w.mine w.rest r.own) (cond w.mine h.waits w.rest) w.signal in
        subst (λ xs. HasSent r t xs) (sym (handle_sends s w.signal q.0 q.1)) (subst (λ z. HasSent r z (handling_of r.pid r.state w.signal).sends) w.is k)

    acted_sent_clear : (did : Did) → Acts did r t → HasSent r t (sent_at (rules_of script) (M script crew) (choice p (acted_at did)))
    acted_sent_clear (Exec place) h = executed_sent h
    acted_sent_clear (From sender number) h = handled_sent sender.0 h

    -- what it did sends what the machine's choice sends
    pub acted_sent : AreEmptied crew → (did : Did) → Acts did r t → HasSent r t (sent_at (rules_of script) (machine_of script crew) (choice p (acted_at did)))
    acted_sent empty did h =
        subst (λ m. HasSent r t (sent_at (rules_of script) m (choice p (acted_at did)))) (sym (clear_machine script crew empty)) (acted_sent_clear did h)

-- signals to itself are of the process and to it
itself_more : (p : ℕ) (x : Signal) (xs : List Signal) → x.from.0 ≡ p → All (λ (y : Signal). (y.from.0 ≡ p) × (y.to.0 ≡ p)) (to_itself p xs) → All (λ (y : Signal). (y.from.0 ≡ p) × (y.to.0 ≡ p)) (to_itself p (x ∷ xs))
itself_more p x xs from rest = elim (eqb_tells x.to.0 p) [
  | inl e ↦
      subst (All (λ (y : Signal). (y.from.0 ≡ p) × (y.to.0 ≡ p))) (sym (ap (λ c. cond c (x ∷ to_itself p xs) (to_itself p xs)) e.0))
      (All-cons (λ (y : Signal). (y.from.0 ≡ p) × (y.to.0 ≡ p)) x (to_itself p xs) (from, e.1) rest)
  | inr e ↦ subst (All (λ (y : Signal). (y.from.0 ≡ p) × (y.to.0 ≡ p))) (sym (ap (λ c. cond c (x ∷ to_itself p xs) (to_itself p xs)) e.0)) rest
]

itself_own : (p : ℕ) (sends : List Signal) → All (λ (x : Signal). x.from.0 ≡ p) sends → All (λ (x : Signal). (x.from.0 ≡ p) × (x.to.0 ≡ p)) (to_itself p sends)
itself_own p [] h = All-nil (λ (x : Signal). (x.from.0 ≡ p) × (x.to.0 ≡ p))
itself_own p (x ∷ xs) h =
    itself_more p x xs (All-head (λ (y : Signal). y.from.0 ≡ p) x xs h) (itself_own p xs (All-tail (λ (y : Signal). y.from.0 ≡ p) x xs h))

own_told : (p event first : ℕ) (xs : List Signal) → All (λ (x : Signal). (x.from.0 ≡ p) × (x.to.0 ≡ p)) xs → IsCounting first xs → map (origin_of event) xs ≡ own_origins p event first (length xs)
own_told p event first [] all h = refl
own_told p event first (x ∷ xs) all h =
    let w : (x.from.0 ≡ p) × (x.to.0 ≡ p) = All-head (λ (y : Signal). (y.from.0 ≡ p) × (y.to.0 ≡ p)) x xs all in
    let rest : map (origin_of event) xs ≡ own_origins p event (first + 1) (length xs) = own_told p event (first + 1) xs (All-tail (λ (y : Signal). (y.from.0 ≡ p) × (y.to.0 ≡ p)) x xs all) h.1 in
    ap (λ os. origin_of event x ∷ os) rest
    ∙ ap (λ n. record { from = record { 0 = n }; to = x.to; number = x.number; event = event } ∷ own_origins p event (first + 1) (length xs)) w.0
    ∙ ap (λ n. record { from = record { 0 = p }; to = record { 0 = n }; number = x.number; event = event } ∷ own_origins p event (first + 1) (length xs)) w.1
    ∙ ap (λ n. record { from = record { 0 = p }; to = record { 0 = p }; number = n; event = event } ∷ own_origins p event (first + 1) (length xs)) h.0

-- The origins of what a process with an empty outbox has sent, told by its next numbers before and after and by its outbox.
pub told_origins : (r t : Running) (sends : List Signal) → HasSent r t sends → r.outbox ≡ [] →
    origins_in r.pid (length r.events + 1) sends
    ≡ own_origins r.pid (length t.events) (slice_index r.state.counts.next_numbers r.pid) (slice_index t.state.counts.next_numbers r.pid - slice_index r.state.counts.next_numbers r.pid)
    ++ map (origin_of (length t.events)) t.outbox
told_origins r t sends h empty =
    ap (λ n. origins_in r.pid n sends) (sym h.events)
    ∙ map-append (origin_of (length t.events)) (to_itself r.pid sends) (to_others r.pid sends)
    ∙ ap₂ (λ xs ys. xs ++ ys)
    (own_told r.pid (length t.events) (slice_index r.state.counts.next_numbers r.pid) (to_itself r.pid sends) (itself_own r.pid sends h.from) h.own
    ∙ ap (λ n. own_origins r.pid (length t.events) (slice_index r.state.counts.next_numbers r.pid) n) many)
    (ap (λ xs. map (origin_of (length t.events)) xs) (sym (h.outbox ∙ ap (λ xs. xs ++ to_others r.pid sends) empty)))
  where
    many : length (to_itself r.pid sends) ≡ slice_index t.state.counts.next_numbers r.pid - slice_index r.state.counts.next_numbers r.pid
    many = omega (arith, h.next)
