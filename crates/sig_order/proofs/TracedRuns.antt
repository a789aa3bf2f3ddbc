-- A run keeps what is said of its events and its origins: by each choice, and from the opening to the end.
use Rattle.std.proofs.Common.{append_assoc, ◌≡◌, ℕ, ◌+◌, ◌<◌, Bool, true, false, ◌&&◌, List, [], ◌∷◌, ◌++◌, drop, length, All, Option, Some, None, IfSome, refl, sym, ap, ◌∙◌, subst, arith}
use Rattle.std.specs.Prelude.{◌==◌, slice_get, if◌then◌else◌}
use Rattle.std.specs.List.{Contains}
use Rattle.std.proofs.lemmas.List.{append-nil, length-replicate}
use Rattle.std.proofs.lemmas.List.Elements.{All-nil, All-head, All-drop}
use Rattle.std.proofs.lemmas.Option.{none-some}
use Rattle.sig_terms.specs.declared.pid.Pid.{Pid}
use Rattle.sig_kinds.specs.declared.signal.Signal.{Signal}
use Rattle.sig_kinds.specs.SignalNames.{IsSignalBelow}
use Rattle.sig_program.specs.Scripts.{Declared, Program, IsProcBelow, IsScriptWithin}
use Rattle.sig_runs.specs.Rules.{Effect, Rules}
use Rattle.sig_runs.specs.Rules.{Did as Acted}
use Rattle.sig_runs.specs.Rules.Did.{Exec as Executed, From as Handled}
use Rattle.sig_runs.specs.Machine.{Machine, At, Applied, IsRun, apply, choice, without_oldest}
use Rattle.sig_runs.specs.Machine.Choice.{Executes, Handles}
use Rattle.sig_runs.specs.Crew.{opening_machine}
use Rattle.sig_runs.specs.Order.{events_by}
use Rattle.sig_runs.specs.Everywhere.{HoldEverywhere, EventKeeps}
use Rattle.sig_runs.proofs.Choices.{DidExecute, DidHandle, did_execute, did_handle}
use Rattle.sig_runs.proofs.Everywhere.{run_keeps_facts}
use Rattle.sig_model.specs.declared.event.Event.{Event}
use Rattle.sig_model.specs.declared.event.Did.TheVariants as did
use Rattle.sig_model.specs.declared.origin.Origin.{Origin}
use Rattle.sig_model.specs.ProcessState.{ProcessState}
use Rattle.sig_model.specs.Machine.{acted_at, handling_of, rules_with, rules_of, opening_of}
use Rattle.sig_model.specs.NameLaw.{names_below}
use Rattle.sig_model.proofs.Lookups.{at_place}
use Rattle.sig_model.proofs.MarkerLemmas.{opened_state}
use Rattle.sig_model.proofs.NameLawLemmas.{event_keeps_names, opening_below}
use Rattle.sig_choices.specs.Origins.{sent_in, executing_sends, handling_sends, sent_at, origins_in, origins_after, origins_of}
use Rattle.sig_order.proofs.OneEvent.{IsExecutionOf, executed_event, handled_event, handled_later}
use Rattle.sig_order.proofs.RunTraces.{IsSent, IsTold, IsTracedTo, traced_now}

module _ (turns : ℕ) (part : ℕ → Option Declared) (count : ℕ) (parts : (pid : ℕ) → IfSome (part pid) (IsProcBelow count)) where
  abbrev rules : Rules ProcessState Signal Event
  rules = rules_with turns part

  abbrev Named : Machine ProcessState Signal → Type 0
  Named m = HoldEverywhere (names_below count) m

  law : EventKeeps (names_below count) rules
  law = event_keeps_names count turns part parts

  -- a signal that names none but these processes goes to one of them
  receivers : (xs : List Signal) → All (IsSignalBelow count) xs → All (λ (x : Signal). x.to.0 < count) xs
  receivers xs h i d lt = (h i d lt).to

  module _ (es : List (At Event)) (m : Machine ProcessState Signal) (os : List Origin) (inv : IsTracedTo count es m os) (named : Named m) (p : ℕ) where
    -- after an event of p that sent these signals
    abbrev TracedWith : Applied ProcessState Signal Event → List Signal → Type 0
    TracedWith next sends = IsTracedTo count (es ++ record { pid = p; event = next.event } ∷ []) next.machine (os ++ origins_in p (length (events_by p es) + 1) sends)

    execution : (next : Applied ProcessState Signal Event) → apply rules m (Executes p) ≡ Some next → TracedWith next (sent_at rules m (Executes p))
    unfolding rules_with
    execution next e =
        let d : DidExecute rules m p (slice_get m.procs p) next = did_execute rules m p (slice_get m.procs p) next e in
        let done : IsExecutionOf p d.state d.effect = executed_event p d.state (part p) d.effect d.defined in
        let sends : executing_sends rules p (slice_get m.procs p) ≡ d.effect.sends = ap (λ o. executing_sends rules p o) d.at ∙ ap (λ o. sent_in o) d.defined in
        let below : All (IsSignalBelow count) d.effect.sends = (law.executed p d.state d.effect d.defined (named.states p d.state d.at)).1 in
        subst (λ xs. TracedWith next xs) (sym sends)
        (subst (λ z. TracedWith z d.effect.sends) (sym d.is)
        (traced_now count es m os inv p d.state d.at d.effect done.0 m.queued inv.queued (receivers d.effect.sends below)
        (λ sender number g. absurd (not_handled d.state.counts.place sender number (sym done.1 ∙ g)))))
      where
        not_handled : (place : ℕ) (sender : Pid) (number : ℕ) → did.Exec place ≡ did.From sender number → ⊥
        not_handled place sender number g = cc

    handling : (f : ℕ) (next : Applied ProcessState Signal Event) → apply rules m (Handles p f) ≡ Some next → TracedWith next (sent_at rules m (Handles p f))
    unfolding rules_with
    handling f next e =
        let d : DidHandle rules m p f (slice_get m.procs p) (m.queued f p) next = did_handle rules m p f (slice_get m.procs p) (m.queued f p) next e in
        let effect : Effect ProcessState Signal Event = handling_of p d.state d.signal in
        let sends : handling_sends rules p (slice_get m.procs p) (m.queued f p) ≡ effect.sends = ap (λ o. handling_sends rules p o (m.queued f p)) d.at ∙ ap (λ xs. handling_sends rules p (Some d.state) xs) d.oldest in
        let its : IsSignalBelow count d.signal = All-head (IsSignalBelow count) d.signal d.rest (subst (λ xs. All (IsSignalBelow count) xs) d.oldest (named.signals f p)) in
        let below : All (IsSignalBelow count) effect.sends = (law.handled p d.state d.signal (named.states p d.state d.at) its).1 in
        let sent : IsSent es os f p d.signal = All-head (IsSent es os f p) d.signal d.rest (subst (λ xs. All (IsSent es os f p) xs) d.oldest (inv.queued f p)) in
        subst (λ xs. TracedWith next xs) (sym sends)
        (subst (λ z. TracedWith z effect.sends) (sym d.is)
        (traced_now count es m os inv p d.state d.at effect (handled_event p d.state d.signal) (without_oldest f p m.queued) (λ s t. without s t (f == s && p == t)) (receivers effect.sends below)
        (λ sender number g. told d.signal effect.event.stamp sent (handled_later p d.state d.signal) sender number g)))
      where
        without : (s t : ℕ) (b : Bool) → All (IsSent es os s t) (if b then drop 1 (m.queued s t) else m.queued s t)
        without s t true = All-drop (IsSent es os s t) 1 (m.queued s t) (inv.queued s t)
        without s t false = inv.queued s t

        told : (x : Signal) (stamp : ℕ) → IsSent es os f p x → x.stamp < stamp → (sender : Pid) (number : ℕ) → did.From x.from x.number ≡ did.From sender number → IsTold es os sender.0 p number stamp
        told x stamp sent later sender number g =
            let from : x.from ≡ sender = cc in
            let named : x.number ≡ number = cc in
            subst (λ n. IsTold es os sender.0 p n stamp) named
            (subst (λ q. IsTold es os q p x.number stamp) (sym sent.from ∙ ap (λ (z : Pid). z.0) from)
            (record { place = sent.place; sender = sent.sender; there = sent.there; lower = omega (arith, sent.stamp, later); told = sent.told }))

    -- by the choice that an event of p tells
    chosen : (did : Acted) (next : Applied ProcessState Signal Event) → apply rules m (choice p did) ≡ Some next → TracedWith next (sent_at rules m (choice p did))
    chosen Executed next e = execution next e
    chosen (Handled f) next e = handling f next e

  -- the events after these, each of which the machine made
  pub traced_after : (later es : List (At Event)) (m : Machine ProcessState Signal) (os : List Origin) (end : Machine ProcessState Signal) → IsTracedTo count es m os → Named m → IsRun rules m later end →
      IsTracedTo count (es ++ later) end (os ++ origins_after rules es m later)
  unfolding rules_with
  traced_after [] es m os end inv named run =
      subst (λ z. IsTracedTo count (es ++ []) z (os ++ [])) run (subst (λ xs. IsTracedTo count xs m (os ++ [])) (sym (append-nil es)) (subst (λ xs. IsTracedTo count es m xs) (sym (append-nil os)) inv))
  traced_after (a ∷ later) es m os end inv named run =
      let next : Machine ProcessState Signal = run.0 in
      let sent : List Signal = sent_at rules m (choice a.pid (acted_at a.event.did)) in
      let new : List Origin = origins_in a.pid (length (events_by a.pid es) + 1) sent in
      let now : IsTracedTo count (es ++ a ∷ []) next (os ++ new) = chosen es m os inv named a.pid (acted_at a.event.did) (record { machine = next; event = a.event }) run.1 in
      let names : Named next = run_keeps_facts rules (names_below count) law (a ∷ []) m next named (next, run.1, refl) in
      let rest : List Origin = origins_after rules (es ++ a ∷ []) next later in
      let ends : IsTracedTo count ((es ++ a ∷ []) ++ later) end ((os ++ new) ++ rest) = traced_after later (es ++ a ∷ []) next (os ++ new) end now names run.2 in
      let told : origins_after rules es m (a ∷ later) ≡ new ++ rest = ap (λ o. told_by es a later new o) run.1 in
      subst (λ xs. IsTracedTo count xs end (os ++ origins_after rules es m (a ∷ later))) (append_assoc es (a ∷ []) later)
      (subst (λ xs. IsTracedTo count ((es ++ a ∷ []) ++ later) end xs) (append_assoc os new rest ∙ ap (λ xs. os ++ xs) (sym told)) ends)
    where
      -- the origins from this event on, by what its choice leads to
      told_by : (es : List (At Event)) (a : At Event) (later : List (At Event)) (new : List Origin) → Option (Applied ProcessState Signal Event) → List Origin
      told_by es a later new o = elim o as (λ z. List Origin) [ None ↦ [] | Some next ↦ new ++ origins_after rules (es ++ a ∷ []) next.machine later ]

-- the opening: no event, no signal
module _ (script : Program) where
  opening_traced : IsTracedTo (length script.procs) [] (opening_machine (opening_of script)) []
  opening_traced = record {
    many = λ p s e. subst (λ (z : ProcessState). length z.counts.next_numbers ≡ length script.procs) (opened_state script p s e) (length-replicate (length script.procs) 1);
    rising = λ p i j a b lt g h. absurd (none-some a g);
    last = λ p i a g. absurd (none-some a g);
    queued = λ s t. All-nil (IsSent [] [] s t);
    below = λ o h. absurd (nowhere o h);
    one = λ a b h g e f n. absurd (nowhere a h);
    handled = λ t i f s number g e. absurd (none-some f g);
  }
    where
      nowhere : (o : Origin) → Contains [] o → ⊥
      nowhere o h = omega (arith, h.1)

  pub run_traced : IsScriptWithin script → (events : List (At Event)) (end : Machine ProcessState Signal) → IsRun (rules_of script) (opening_machine (opening_of script)) events end →
      IsTracedTo (length script.procs) events end (origins_of script events)
  run_traced sound events end run =
      traced_after script.turns (slice_get script.procs) (length script.procs) (λ pid. at_place (IsProcBelow (length script.procs)) script.procs pid sound.pids)
      events [] (opening_machine (opening_of script)) [] end opening_traced (opening_below script) run
