-- One event of a process that runs is one event of the machine's process.
use Rattle.std.proofs.Common.{◌≡◌, ◌≢◌, ℕ, ◌<◌, List, [], ◌∷◌, ◌++◌, drop, Bool, true, false, cond, not, IfSome, Option, Some, refl, sym, ap, ◌∙◌, subst, inl, inr, ◌⊎◌, arith, is_some}
use Rattle.std.specs.Prelude.{All, ◌==◌, slice_get}
use Rattle.std.specs.Bool.{MatchBool}
use Rattle.std.proofs.lemmas.Bool.{eq-eqb, ne_eqb, eqb-true, eqb-false, not-true}
use Rattle.std.proofs.lemmas.List.{append-nil}
use Rattle.std.proofs.lemmas.List.Elements.{All-append, All-filter, All-weaker, All-head, All-drop, filter_passes}
use Rattle.sig_kinds.specs.declared.signal.Signal.{Signal}
use Rattle.sig_runs.specs.Rules.{Effect, addressed}
use Rattle.sig_runs.specs.LocalRun.{Input, CanDo, own_left, handled_in}
use Rattle.sig_runs.specs.LocalRun.Input.{Execute, Handle}
use Rattle.sig_runs.specs.Crew.{Member}
use Rattle.sig_runs.specs.OnTheWay.{IsHandledNext, outgoing, taken_in_left}
use Rattle.sig_program.specs.Scripts.{Declared, Program}
use Rattle.sig_model.specs.declared.event.Event.{Event}
use Rattle.sig_model.specs.ProcessState.{ProcessState, is_cut}
use Rattle.sig_model.specs.Bodies.{Body}
use Rattle.sig_model.specs.Executing.{executing}
use Rattle.sig_model.specs.Machine.{execution_of, handling_of, rules_with}
use Rattle.sig_model.specs.Running.{Running, advanced, exec_next, handled_one, handle_next}
use Rattle.sig_model.specs.Keeping.{IsToItself, IsLeaving}
use Rattle.sig_model.proofs.Lookups.{some_any}
use Rattle.sig_model.proofs.StampLemmas.{IsFinished, act_finished, numbered_sent}
use Rattle.sig_model.proofs.Guards.{Executed, Handled, exec_next_tells, handle_next_tells}

-- the process as the theory of merged runs has it
abbrev pub member_of : Running → Member ProcessState Signal Event
member_of r = record { local = record { state = r.state; own = r.own }; taken_in = r.taken_in; acts = [] }

-- the process with this pid runs its part, and has this bound on its turns
abbrev pub IsPartOf : ℕ → (ℕ → Option Declared) → ℕ → Running → Type 0
IsPartOf limit part p r = (r.pid ≡ p) × (r.turns ≡ limit) × (part p ≡ Some r.proc)

-- What a process keeps: it runs its part; its own signals and those in its outbox come from it, and are not later than its last
-- event; those that it has taken in come from others.
pub record IsKept (limit : ℕ) (part : ℕ → Option Declared) (p : ℕ) (r : Running) : Type 0 where
  pub process : IsPartOf limit part p r
  pub own : All (IsToItself p r.state.counts.stamp) r.own
  pub others : All (λ (x : Signal). x.from.0 ≢ p) r.taken_in
  pub outbox : All (IsLeaving p r.state.counts.stamp) r.outbox

-- r after one event, of the process p
abbrev pub with_event : ℕ → (ℕ → Option Declared) → ℕ → Running → Input Signal → Effect ProcessState Signal Event → Running
with_event limit part p r input effect = record r {
  state = effect.state;
  events = r.events ++ effect.event ∷ [];
  handled = r.handled ++ handled_in input;
  own = own_left (rules_with limit part) p input r.own ++ addressed (rules_with limit part) p effect.sends;
  taken_in = taken_in_left (rules_with limit part) p input r.taken_in;
  outbox = r.outbox ++ outgoing (rules_with limit part) p effect.sends;
}

-- r has become t by one event
pub record IsEvent (limit : ℕ) (part : ℕ → Option Declared) (p : ℕ) (r t : Running) : Type 0 where
  pub input : Input Signal
  pub effect : Effect ProcessState Signal Event
  pub can : CanDo (rules_with limit part) p (record { state = r.state; own = r.own }) input effect
  pub next : IsHandledNext (rules_with limit part) p (member_of r) input
  pub is : t ≡ with_event limit part p r input effect

-- of the processes of a script
abbrev pub IsKeptOf : Program → ℕ → Running → Type 0
IsKeptOf script p r = IsKept script.turns (slice_get script.procs) p r

abbrev pub IsEventOf : Program → ℕ → Running → Running → Type 0
IsEventOf script p r t = IsEvent script.turns (slice_get script.procs) p r t

module _ (limit : ℕ) (part : ℕ → Option Declared) (r : Running) (k : IsKept limit part r.pid r) where
  uncut_at : is_cut r.turns r.state ≡ false → (rules_with limit part).is_cut r.state ≡ false
  unfolding rules_with
  uncut_at h = subst (λ n. is_cut n r.state ≡ false) k.process.1 h

  -- what the machine asks of a signal x that is handled, where it is the process's own and where it isn't, and what is left then
  abbrev Turn : Signal → Running → Bool → Type 0
  Turn x left c =
      MatchBool c ((rest : List Signal) × (r.own ≡ x ∷ rest)) (r.own ≡ [])
      × MatchBool c ((rest : List Signal) × (r.own ≡ x ∷ rest)) ((rest : List Signal) × (r.taken_in ≡ x ∷ rest))
      × (left ≡ record r { own = cond c (drop 1 r.own) r.own; taken_in = cond c r.taken_in (drop 1 r.taken_in) })

  turn : (x : Signal) (mine : Bool) (rest : List Signal) → MatchBool mine (r.own ≡ x ∷ rest) ((r.own ≡ []) × (r.taken_in ≡ x ∷ rest)) →
      Turn x (record r { own = cond mine rest r.own; taken_in = cond mine r.taken_in rest }) (x.from.0 == r.pid)
  turn x true rest o =
      let first : IsToItself r.pid r.state.counts.stamp x =
      All-head (IsToItself r.pid r.state.counts.stamp) x rest (subst (λ xs. All (IsToItself r.pid r.state.counts.stamp) xs) o k.own) in
      subst (Turn x (record r { own = rest })) (sym (eq-eqb x.from.0 r.pid first.from))
      ((rest, o), (rest, o), ap (λ (xs : List Signal). record r { own = drop 1 xs }) (sym o))
  turn x false rest w =
      let first : x.from.0 ≢ r.pid =
      All-head (λ (y : Signal). y.from.0 ≢ r.pid) x rest (subst (λ xs. All (λ (y : Signal). y.from.0 ≢ r.pid) xs) w.1 k.others) in
      subst (Turn x (record r { taken_in = rest })) (sym (ne_eqb x.from.0 r.pid first))
      (w.0, (rest, w.1), ap (λ (xs : List Signal). record r { taken_in = drop 1 xs }) (sym w.1))

  -- its next signal is handled
  handled_event : (t : Running) → Handled r t → IsEvent limit part r.pid r t
  unfolding rules_with
  handled_event t h =
      let x : Signal = h.signal in
      let w : Turn x (record r { own = cond h.mine h.rest r.own; taken_in = cond h.mine r.taken_in h.rest }) (x.from.0 == r.pid) =
      turn x h.mine h.rest h.first in
      record {
        input = Handle x;
        effect = handling_of r.pid r.state x;
        can = (uncut_at h.can.uncut, h.early, w.0, refl);
        next = w.1;
        is = sym h.is ∙ ap (λ (z : Running). handled_one z x) w.2;
      }

  -- its next instruction is executed
  executed_event : (t : Running) → Executed r t → IsEvent limit part r.pid r t
  unfolding rules_with
  executed_event t h =
      let alive : (rules_with limit part).is_ended r.state ≡ false = ap (λ o. is_some o) h.can.alive in
      record {
        input = Execute;
        effect = h.effect;
        can = (alive, uncut_at h.can.uncut, h.can.alone, ap (λ o. execution_of r.pid o r.state) k.process.2 ∙ h.is_effect);
        next = tt;
        is = sym h.is ∙ ap (λ z. record (advanced r h.effect) { handled = z }) (sym (append-nil r.handled));
      }

-- one step of a process: it handles its next signal, or executes its next instruction
abbrev pub IsStep : Running → Running → Type 0
IsStep r t = (handle_next r ≡ Some t) ⊎ (exec_next r ≡ Some t)

step_here : (limit : ℕ) (part : ℕ → Option Declared) (r t : Running) → IsKept limit part r.pid r → IsStep r t → IsEvent limit part r.pid r t
step_here limit part r t k (inl e) = handled_event limit part r k t (handle_next_tells r t e)
step_here limit part r t k (inr e) = executed_event limit part r k t (exec_next_tells r t e)

-- a step is an event
pub step_event : (limit : ℕ) (part : ℕ → Option Declared) (p : ℕ) (r t : Running) → IsKept limit part p r → IsStep r t → IsEvent limit part p r t
step_event limit part p r t k e = subst (λ q. IsKept limit part q r → IsEvent limit part q r t) k.process.0 (λ j. step_here limit part r t j e) k

module _ (limit : ℕ) (part : ℕ → Option Declared) (p : ℕ) (r t : Running) (e : IsEvent limit part p r t) where
  pub own_left_all : (P : Signal → Type 0) (i : Input Signal) (own : List Signal) → All P own → All P (own_left (rules_with limit part) p i own)
  own_left_all P Execute own h = h
  own_left_all P (Handle x) own h = elim ((rules_with limit part).from x == p) as (λ c. All P (cond c (drop 1 own) own)) [ true ↦ All-drop P 1 own h | false ↦ h ]

  pub taken_in_all : (P : Signal → Type 0) (i : Input Signal) (xs : List Signal) → All P xs → All P (taken_in_left (rules_with limit part) p i xs)
  taken_in_all P Execute xs h = h
  taken_in_all P (Handle x) xs h = elim ((rules_with limit part).from x == p) as (λ c. All P (cond c xs (drop 1 xs))) [ true ↦ h | false ↦ All-drop P 1 xs h ]

  abbrev last : ℕ
  last = e.effect.state.counts.stamp

  finished : IsFinished (λ (b : Body). Unit {0}) p r.state e.effect
  finished =
      act_finished limit part p r.state r.own (λ (b : Body). Unit {0}) e.effect e.input
      (some_any (λ (q : Declared). IfSome (executing q r.state) (λ (b : Body). Unit {0})) (part p) (λ q. some_any (λ (b : Body). Unit {0}) (executing q r.state) (λ b. tt))) (λ i d lt. tt) e.can

  later : r.state.counts.stamp < last
  later = subst (λ (z : Effect ProcessState Signal Event). r.state.counts.stamp < z.state.counts.stamp) finished.is finished.later

  -- the signals that it sends come from it, and have its stamp
  sent : All (λ (x : Signal). (x.from.0 ≡ p) × (x.stamp ≡ last)) e.effect.sends
  sent =
      subst (λ (z : Effect ProcessState Signal Event). All (λ (x : Signal). (x.from.0 ≡ p) × (x.stamp ≡ z.state.counts.stamp)) z.sends) finished.is
      (numbered_sent p finished.stamp r.state.counts.next_numbers finished.body.posts)

  -- an event keeps what a process keeps
  pub event_keeps : IsKept limit part p r → IsKept limit part p (with_event limit part p r e.input e.effect)
  unfolding rules_with
  event_keeps k =
      let own : All (IsToItself p last) r.own =
      All-weaker (IsToItself p r.state.counts.stamp) (IsToItself p last)
      (λ x h. record { from = h.from; to = h.to; stamp = omega (arith, h.stamp, later) }) r.own k.own in
      let out : All (IsLeaving p last) r.outbox =
      All-weaker (IsLeaving p r.state.counts.stamp) (IsLeaving p last)
      (λ x h. record { from = h.from; to = h.to; stamp = omega (arith, h.stamp, later) }) r.outbox k.outbox in
      let here : Signal → Bool = λ x. x.to.0 == p in
      let away : Signal → Bool = λ x. not (x.to.0 == p) in
      let is_sent : Signal → Type 0 = λ x. (x.from.0 ≡ p) × (x.stamp ≡ last) in
      let mine : All is_sent (addressed (rules_with limit part) p e.effect.sends) = All-filter here is_sent e.effect.sends sent in
      let gone : All is_sent (outgoing (rules_with limit part) p e.effect.sends) = All-filter away is_sent e.effect.sends sent in
      record {
        process = k.process;
        own = All-append (IsToItself p last) _ _ (own_left_all (IsToItself p last) e.input r.own own)
            (λ i d lt. record { from = (mine i d lt).0; to = eqb-true _ p (filter_passes here e.effect.sends i d lt); stamp = omega (arith, (mine i d lt).1) });
        others = taken_in_all (λ x. x.from.0 ≢ p) e.input r.taken_in k.others;
        outbox = All-append (IsLeaving p last) r.outbox _ out
            (λ i d lt. record { from = (gone i d lt).0; to = eqb-false _ p (not-true _ (filter_passes away e.effect.sends i d lt)); stamp = omega (arith, (gone i d lt).1) });
      }

  pub event_kept : IsKept limit part p r → IsKept limit part p t
  event_kept k = subst (λ z. IsKept limit part p z) (sym e.is) (event_keeps k)
