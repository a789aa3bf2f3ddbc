-- In each run of a script the terms that the events tell of are no larger than what is read.
use Rattle.std.proofs.Common.{◌≡◌, ℕ, List, [], ◌∷◌, ◌++◌, Option, Some, None, refl, sym, subst}
use Rattle.std.specs.Prelude.{All, slice_get}
use Rattle.std.proofs.lemmas.List.Elements.{All-nil, All-cons, All-head}
use Rattle.std.proofs.lemmas.Option.{MatchOption-at_some}
use Rattle.sig_kinds.specs.declared.signal.Signal.{Signal}
use Rattle.sig_runs.specs.Rules.{Effect}
use Rattle.sig_runs.specs.Machine.{Machine, At, Applied, Choice, apply, choice, IsRun}
use Rattle.sig_runs.specs.Machine.Choice.{Executes, Handles}
use Rattle.sig_runs.specs.Crew.{opening_machine}
use Rattle.sig_runs.specs.Everywhere.{HoldEverywhere}
use Rattle.sig_runs.proofs.Choices.{DidExecute, DidHandle, did_execute, did_handle}
use Rattle.sig_runs.proofs.Runs.{run-push}
use Rattle.sig_program.specs.Scripts.{Declared, Program}
use Rattle.sig_model.specs.declared.event.Event.{Event}
use Rattle.sig_model.specs.ProcessState.{ProcessState}
use Rattle.sig_model.specs.Bodies.{Body}
use Rattle.sig_model.specs.Executing.{executing}
use Rattle.sig_model.specs.Handling.{handling}
use Rattle.sig_model.specs.Finishing.{finished_exec}
use Rattle.sig_model.specs.Machine.{execution_of, rules_with, rules_of, opening_of}
use Rattle.sig_model.specs.TermSizes.{KindSizes, TableSizes, BodySizes, term_sizes}
use Rattle.sig_model.proofs.ExecutingLemmas.{executing_sizes}
use Rattle.sig_model.proofs.HandlingLemmas.{handling_sizes}
use Rattle.sig_model.proofs.Lookups.{mapped_tells}
use Rattle.sig_model.proofs.SizeLaw.{sizes_everywhere}
use Rattle.sig_record.specs.SizedRecord.{IsSizedEvent}
use Rattle.sig_record.proofs.PhraseRows.{told_outcome}

exec_told : (pid : ℕ) (o : Option Declared) (s : ProcessState) (effect : Effect ProcessState Signal Event) → execution_of pid o s ≡ Some effect → TableSizes s.tables
    → IsSizedEvent effect.event
exec_told pid None s effect e k = cc
exec_told pid (Some p) s effect e k =
    let w : (body : Body) × (executing p s ≡ Some body) × (finished_exec pid s body ≡ effect) = mapped_tells (finished_exec pid s) (executing p s) effect e in
    subst (λ (x : Effect ProcessState Signal Event). IsSizedEvent x.event) w.2
    (told_outcome w.0.outcome (MatchOption-at_some (Unit {0}) BodySizes w.0 w.1 (executing_sizes p s k)).outcome)

module _ (turns : ℕ) (part : ℕ → Option Declared) where
  -- one event
  pub step_told : (m : Machine ProcessState Signal) (c : Choice) (r : Applied ProcessState Signal Event) → HoldEverywhere term_sizes m → apply (rules_with turns part) m c ≡ Some r
      → IsSizedEvent r.event
  unfolding rules_with
  step_told m (Executes p) r h e =
      let d : DidExecute (rules_with turns part) m p (slice_get m.procs p) r = did_execute (rules_with turns part) m p (slice_get m.procs p) r e in
      subst (λ (z : Applied ProcessState Signal Event). IsSizedEvent z.event) (sym d.is) (exec_told p (part p) d.state d.effect d.defined (h.states p d.state d.at))
  step_told m (Handles p f) r h e =
      let d : DidHandle (rules_with turns part) m p f (slice_get m.procs p) (m.queued f p) r = did_handle (rules_with turns part) m p f (slice_get m.procs p) (m.queued f p) r e in
      let fine : KindSizes d.signal.kind = All-head (λ (x : Signal). KindSizes x.kind) d.signal d.rest (subst (λ z. All (λ (x : Signal). KindSizes x.kind) z) d.oldest (h.signals f p)) in
      let sizes : BodySizes (handling p d.state d.signal) = handling_sizes p d.state d.signal (h.states p d.state d.at) fine in
      subst (λ (z : Applied ProcessState Signal Event). IsSizedEvent z.event) (sym d.is) (told_outcome (handling p d.state d.signal).outcome sizes.outcome)

module _ (script : Program) where
  abbrev TellsSized : At Event → Type 0
  TellsSized a = IsSizedEvent a.event

  -- the events behind these
  later_told : (before later : List (At Event)) (mid end : Machine ProcessState Signal) → IsRun (rules_of script) (opening_machine (opening_of script)) before mid → IsRun (rules_of script) mid later end
      → All TellsSized later
  later_told before [] mid end run rest = All-nil TellsSized
  later_told before (a ∷ later) mid end run rest =
      let applied : Applied ProcessState Signal Event = record { machine = rest.0; event = a.event } in
      All-cons TellsSized a later (step_told script.turns (slice_get script.procs) mid (choice a.pid ((rules_of script).did a.event)) applied (sizes_everywhere script before mid run) rest.1)
      (later_told (before ++ a ∷ []) later rest.0 end (run-push (rules_of script) before a (opening_machine (opening_of script)) mid rest.0 run rest.1) rest.2)

  -- all events of a run
  pub run_told : (events : List (At Event)) (end : Machine ProcessState Signal) → IsRun (rules_of script) (opening_machine (opening_of script)) events end → All TellsSized events
  run_told events end run = later_told [] events (opening_machine (opening_of script)) end refl run
