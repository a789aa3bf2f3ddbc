-- Where the marks are sound, the rules that look from the marks and those that look at all messages allow the same choices.
use Rattle.std.proofs.Common.{◌≡◌, ℕ, List, [], ◌∷◌, All, Option, Some, None, not, ◌||◌, if◌then◌else◌, slice_get, refl, sym, ap, ◌∙◌}
use Rattle.sig_kinds.specs.declared.signal.Signal.{Signal}
use Rattle.sig_program.specs.Scripts.{Program, IsWithin}
use Rattle.sig_runs.specs.Rules.{Effect, Rules}
use Rattle.sig_runs.specs.Machine.{Machine, Choice, At, IsRun, is_empty, executed, execute, handle, apply}
use Rattle.sig_runs.specs.Machine.Choice.{Executes, Handles}
use Rattle.sig_runs.specs.Crew.{opening_machine}
use Rattle.sig_runs.specs.Marks.{AllMarksSound, by_whole}
use Rattle.sig_model.specs.declared.event.Event.{Event}
use Rattle.sig_model.specs.ProcessState.{ProcessState}
use Rattle.sig_model.specs.Machine.{rules_of, opening_of}
use Rattle.sig_model.specs.Marking.{marking, whole_of}
use Rattle.sig_model.proofs.MarkerLemmas.{keeps_sound}
use Rattle.sig_model.proofs.MarkedRuns.{end_sound, from_head}
use Rattle.sig_choices.specs.Origins.{sent_in, executing_sends, handling_sends, sent_at}
use Rattle.sig_record.specs.RunRecord.{whole_rules}
use Rattle.sig_order.specs.OneMachine.{AllowTheSame}

module _ (rules : Rules ProcessState Signal Event) (whole : ℕ → ProcessState → Option (Effect ProcessState Signal Event)) (m : Machine ProcessState Signal) where
  executed_same : (p : ℕ) (o : Option (Effect ProcessState Signal Event)) → executed rules m p o ≡ executed (by_whole rules whole) m p o
  executed_same p None = refl
  executed_same p (Some effect) = refl

  handle_same : (p f : ℕ) (o : Option ProcessState) (xs : List Signal) → handle rules m p f o xs ≡ handle (by_whole rules whole) m p f o xs
  handle_same p f None xs = refl
  handle_same p f (Some s) [] = refl
  handle_same p f (Some s) (x ∷ rest) = refl

  handling_sent : (p : ℕ) (o : Option ProcessState) (xs : List Signal) → handling_sends rules p o xs ≡ handling_sends (by_whole rules whole) p o xs
  handling_sent p None xs = refl
  handling_sent p (Some s) [] = refl
  handling_sent p (Some s) (x ∷ xs) = refl

  module _ (agrees : (p : ℕ) (s : ProcessState) → slice_get m.procs p ≡ Some s → rules.exec p s ≡ whole p s) where
    execute_same : (p : ℕ) (o : Option ProcessState) → slice_get m.procs p ≡ o → execute rules m p o ≡ execute (by_whole rules whole) m p o
    execute_same p None at = refl
    execute_same p (Some s) at =
        ap (λ (o : Option (Effect ProcessState Signal Event)). if rules.is_ended s || (rules.is_cut s || not (is_empty (m.queued p p))) then None else executed rules m p o) (agrees p s at)
        ∙ ap (λ o. if rules.is_ended s || (rules.is_cut s || not (is_empty (m.queued p p))) then None else o) (executed_same p (whole p s))

    executing_sent : (p : ℕ) (o : Option ProcessState) → slice_get m.procs p ≡ o → executing_sends rules p o ≡ executing_sends (by_whole rules whole) p o
    executing_sent p None at = refl
    executing_sent p (Some s) at = ap sent_in (agrees p s at)

    same_choice : (c : Choice) → apply rules m c ≡ apply (by_whole rules whole) m c
    same_choice (Executes p) = execute_same p (slice_get m.procs p) refl
    same_choice (Handles p f) = handle_same p f (slice_get m.procs p) (m.queued f p)

    same_sent : (c : Choice) → sent_at rules m c ≡ sent_at (by_whole rules whole) m c
    same_sent (Executes p) = executing_sent p (slice_get m.procs p) refl
    same_sent (Handles p f) = handling_sent p (slice_get m.procs p) (m.queued f p)

module _ (script : Program) (within : All IsWithin script.procs) where
  sound_same : (m : Machine ProcessState Signal) → AllMarksSound marking m → AllowTheSame script m
  sound_same m sound =
      let agrees : (p : ℕ) (s : ProcessState) → slice_get m.procs p ≡ Some s → (rules_of script).exec p s ≡ whole_of script p s = λ p s at. sym ((keeps_sound script within).agrees p s (sound.marks p s at)) in
      record { possible = same_choice (rules_of script) (whole_of script) m agrees; sent = same_sent (rules_of script) (whole_of script) m agrees }

  module _ (events : List (At Event)) (end : Machine ProcessState Signal) where
    pub whole_same : IsRun (whole_rules script) (opening_machine (opening_of script)) events end → AllowTheSame script end
    whole_same run = sound_same end (end_sound script events end within run)

    pub marked_same : IsRun (rules_of script) (opening_machine (opening_of script)) events end → AllowTheSame script end
    marked_same run = whole_same (from_head script events end within run)
