-- How a command ends, and that what is answered is due where nothing fails.
use Rattle.std.proofs.Common.{◌≡◌, ◌⊎◌, ℕ, ◌<◌, Bool, true, false, List, length, length-append, Option, Some, inl, inr, refl, sym, ap, ◌∙◌, subst, arith}
use Rattle.std.specs.Prelude.{IfSome}
use Rattle.sig_base.specs.Flow.{one_more, Rose, Took, Adds}
use Rattle.sig_base.proofs.Faults.{risen}
use Rattle.sig_edge.specs.Streams.{IsUnwritten, Reading, Writing}
use Rattle.sig_program.specs.Scripts.{Program}
use Rattle.sig_record.specs.declared.report.Report.{Report}
use Rattle.sig_tool.specs.declared.given.TheConstants.{MOST_INPUT}
use Rattle.sig_tool.specs.declared.status.ToolStatus.{ToolStatus}
use Rattle.sig_tool.specs.declared.status.ToolStatus.TheVariants as tool
use Rattle.sig_tool.specs.Inputs.{IsFault, IsOver, IsWhole}
use Rattle.sig_view.specs.declared.command.Command.{Command}
use Rattle.sig_view.specs.declared.command.Command.TheVariants.{Chart, Concurrent, Outcomes, OutcomeRecord}
use Rattle.sig_view.specs.declared.status.ViewStatus.{ViewStatus}
use Rattle.sig_view.specs.declared.status.ViewStatus.TheVariants.{Done, BadScript, Usage, ReadFault, WriteFault, Memory, No, BadRecord, TooLong, NoEvent, TooManyEvents, NoOutcome, NotFound, Unfinished}
use Rattle.sig_view.specs.Commands.{IsFit, IsTextOf}
use Rattle.sig_view.specs.Inputs.{IsRecordRefused, IsRecordText, IsUnfitRecord}
use Rattle.sig_view.specs.Outcomes.{end_with, IsNoOutcomeFor, IsNoScript, IsScript, IsSpelled, LacksScript}
use Rattle.sig_view.specs.Texts.{IsTextFor, IsUnfitFor}
use Rattle.sig_view.specs.Answers.{as_done, IsAnswer, IsAnswerTo, IsDue, IsRanSo, IsRecordDue, IsWellGiven}
use Rattle.sig_view.proofs.DueLemmas.{one_due, spelled_once}
use Rattle.sig_view.proofs.WordLemmas.{one_command}

-- ---- nothing was written

never_done : (command : Command) (r : Reading) → IsUnfitFor command r Done → ⊥
never_done (Chart window) r h = h
never_done (Concurrent event) r h = h
never_done (Outcomes states) r h = h
never_done (OutcomeRecord states number) r h = h

never_cut_off : (command : Command) (r : Reading) → IsUnfitFor command r WriteFault → ⊥
never_cut_off (Chart window) r h = h
never_cut_off (Concurrent event) r h = h
never_cut_off (Outcomes states) r h = h
never_cut_off (OutcomeRecord states number) r h = h

never_unfinished : (command : Command) (r : Reading) (seen : ℕ) → IsUnfitFor command r (Unfinished seen) → ⊥
never_unfinished (Chart window) r seen h = h
never_unfinished (Concurrent event) r seen h = h
never_unfinished (Outcomes states) r seen h = h
never_unfinished (OutcomeRecord states number) r seen h = h

-- where there was nothing to write, it ended so
pub unfit_ran : (command : Command) (r : Reading) (w : Writing) (status : ViewStatus) → IsUnfitFor command r status → IsUnwritten w → IsRanSo command r w status
unfit_ran command r w Done h none = absurd (never_done command r h)
unfit_ran command r w (BadScript line kind) h none = (h, none)
unfit_ran command r w Usage h none = (h, none)
unfit_ran command r w ReadFault h none = (h, none)
unfit_ran command r w WriteFault h none = absurd (never_cut_off command r h)
unfit_ran command r w Memory h none = (h, none)
unfit_ran command r w (No event) h none = (h, none)
unfit_ran command r w (BadRecord line) h none = (h, none)
unfit_ran command r w TooLong h none = (h, none)
unfit_ran command r w NoEvent h none = (h, none)
unfit_ran command r w TooManyEvents h none = (h, none)
unfit_ran command r w NoOutcome h none = (h, none)
unfit_ran command r w (NotFound met) h none = (h, none)
unfit_ran command r w (Unfinished states) h none = absurd (never_unfinished command r states h)

-- ---- the whole text was written

-- all is done then, or outcomes were listed and there may be more
abbrev Ends : ViewStatus → Type 0
Ends end = (end ≡ Done) ⊎ ((states : ℕ) × (end ≡ Unfinished states))

listed_ends : (all : Bool) (states : ℕ) (end : ViewStatus) → end ≡ end_with all states → Ends end
listed_ends true states end h = inl h
listed_ends false states end h = inr (states, h)

text_ends : (command : Command) (r : Reading) (text : List ℕ) (end : ViewStatus) → IsTextFor command r text end → Ends end
text_ends (Chart window) r text end h = inl h.0
text_ends (Concurrent event) r text end h = inl h.0
text_ends (Outcomes most) r text end h = listed_ends h.2.all h.2.states end h.2.ends
text_ends (OutcomeRecord most number) r text end h = listed_ends h.2.all h.2.states end h.2.ends

pub printed_ran : (command : Command) (r : Reading) (w : Writing) (text : List ℕ) (end : ViewStatus) → IsTextFor command r text end → Adds w.held w.new text
    → w.after ≡ w.before → IsRanSo command r w end
printed_ran command r w text end h adds same = by (text_ends command r text end h)
  where
    by : Ends end → IsRanSo command r w end
    by (inl e) = subst (λ (s : ViewStatus). IsRanSo command r w s) (sym e) (same, (text, subst (λ (s : ViewStatus). IsTextFor command r text s) e h, adds))
    by (inr e) = subst (λ (s : ViewStatus). IsRanSo command r w s) (sym e.1) (same, (text, subst (λ (s : ViewStatus). IsTextFor command r text s) e.1 h, adds))

ends_done : (end : ViewStatus) → Ends end → as_done end ≡ Done
ends_done end (inl e) = ap as_done e
ends_done end (inr e) = ap as_done e.1

-- ---- what is due

-- a command that writes is fit
fit : (command : Command) (script : Program) (reports : List Report) (text : List ℕ) → IsTextOf command script reports text → IsFit command reports
fit (Chart window) script reports text h = (h.2.shown, h.2.of_window, h.2.few)
fit (Concurrent event) script reports text h = h.2.there
fit (Outcomes states) script reports text h = h
fit (OutcomeRecord states number) script reports text h = h

module _ (r : Reading) (bytes : List ℕ) (left : r.left ≡ Some bytes) where
  -- what was read is what the source had
  read_all_of : (other : List ℕ) → IsWhole r other → other ≡ bytes
  read_all_of other h = subst (λ (o : Option (List ℕ)). IfSome o (λ all. other ≡ all)) left h.all

  over_due : IsOver MOST_INPUT r → MOST_INPUT < length bytes
  over_due h =
      let took : Took (Some bytes) r.rest h.0 = subst (λ (o : Option (List ℕ)). Took o r.rest h.0) left h.1 in
      omega (arith, ap length took.1 ∙ length-append {A = ℕ} h.0 took.0, h.2)

  -- of a script with a record behind it
  record_text_due : (command : Command) (text : List ℕ) → IsRecordText command r text → IsRecordDue command bytes Done
  record_text_due command text h =
      subst (λ (bs : List ℕ). IsRecordDue command bs Done) (read_all_of h.2.bytes h.2.whole) (h.0, h.1, h.2.pair, h.2.settled, fit command h.0 h.1 text h.3)

  no_event_due : (command : Command) → IsRecordRefused command r NoEvent → IsRecordDue command bytes NoEvent
  no_event_due command h = subst (λ (bs : List ℕ). IsRecordDue command bs NoEvent) (read_all_of h.2.bytes h.2.whole) (h.0, h.1, h.2.pair, h.2.settled, h.3)

  many_due : (command : Command) → IsRecordRefused command r TooManyEvents → IsRecordDue command bytes TooManyEvents
  many_due command h = subst (λ (bs : List ℕ). IsRecordDue command bs TooManyEvents) (read_all_of h.2.bytes h.2.whole) (h.0, h.1, h.2.pair, h.2.settled, h.3)

  fault_due : (status : ToolStatus) → (other : List ℕ) × IsWhole r other × IsFault other status → IsFault bytes status
  fault_due status h = subst (λ (bs : List ℕ). IsFault bs status) (read_all_of h.0 h.1) h.2

  -- of a script alone
  spelled_by : (script : Program) → IsScript r script → IsSpelled bytes script
  spelled_by script h = subst (λ (bs : List ℕ). IsSpelled bs script) (read_all_of h.0 h.1) h.2

  none_spelled : (status : ViewStatus) → (other : List ℕ) × IsWhole r other × IsNoScript other status → IsNoScript bytes status
  none_spelled status h = subst (λ (bs : List ℕ). IsNoScript bs status) (read_all_of h.0 h.1) h.2

  -- the status is due; or memory was wanting, or a read failed
  abbrev IsDueOr : Type 0 → ViewStatus → Type 0
  IsDueOr P status = P ⊎ ((status ≡ Memory) ⊎ (r.after ≡ one_more r.before))

  record_due : (command : Command) (status : ViewStatus) → IsUnfitRecord command r status → IsDueOr (IsRecordDue command bytes status) status
  record_due command Done h = absurd h
  record_due command (BadScript line kind) h = inl (fault_due (tool.BadScript line kind) h)
  record_due command Usage h = absurd h
  record_due command ReadFault h = inr (inr h)
  record_due command WriteFault h = absurd h
  record_due command Memory h = inr (inl refl)
  record_due command (No event) h = inl (fault_due (tool.No event) h)
  record_due command (BadRecord line) h = inl (fault_due (tool.BadRecord line) h)
  record_due command TooLong h = inl (over_due h.0)
  record_due command NoEvent h = inl (no_event_due command h)
  record_due command TooManyEvents h = inl (many_due command h)
  record_due command NoOutcome h = absurd h
  record_due command (NotFound met) h = absurd h
  record_due command (Unfinished states) h = absurd h

  script_due : (status : ViewStatus) → LacksScript r status → IsDueOr (IsNoScript bytes status) status
  script_due Done h = absurd h
  script_due (BadScript line kind) h = inl (none_spelled (BadScript line kind) h)
  script_due Usage h = absurd h
  script_due ReadFault h = inr (inr h)
  script_due WriteFault h = absurd h
  script_due Memory h = inr (inl refl)
  script_due (No event) h = absurd h
  script_due (BadRecord line) h = absurd h
  script_due TooLong h = inl (over_due h.0)
  script_due NoEvent h = absurd h
  script_due TooManyEvents h = absurd h
  script_due NoOutcome h = absurd h
  script_due (NotFound met) h = absurd h
  script_due (Unfinished states) h = absurd h

  list_due : (states : ℕ) (status : ViewStatus) → LacksScript r status → IsDueOr (IsDue (Outcomes states) bytes status) status
  list_due states Done h = absurd h
  list_due states (BadScript line kind) h = script_due (BadScript line kind) h
  list_due states Usage h = absurd h
  list_due states ReadFault h = inr (inr h)
  list_due states WriteFault h = absurd h
  list_due states Memory h = inr (inl refl)
  list_due states (No event) h = absurd h
  list_due states (BadRecord line) h = absurd h
  list_due states TooLong h = script_due TooLong h
  list_due states NoEvent h = absurd h
  list_due states TooManyEvents h = absurd h
  list_due states NoOutcome h = absurd h
  list_due states (NotFound met) h = absurd h
  list_due states (Unfinished seen) h = absurd h

  -- where none of these bytes' scripts can be found, one is missing
  numbered_due : (most number : ℕ) (due status : ViewStatus) → IsNoScript bytes due → IsNoOutcomeFor most number r status → IsDueOr (IsNoScript bytes status) status
  numbered_due most number due Done is_due h = absurd h
  numbered_due most number due (BadScript line kind) is_due h = script_due (BadScript line kind) h
  numbered_due most number due Usage is_due h = absurd h
  numbered_due most number due ReadFault is_due h = inr (inr h)
  numbered_due most number due WriteFault is_due h = absurd h
  numbered_due most number due Memory is_due h = inr (inl refl)
  numbered_due most number due (No event) is_due h = absurd h
  numbered_due most number due (BadRecord line) is_due h = absurd h
  numbered_due most number due TooLong is_due h = script_due TooLong h
  numbered_due most number due NoEvent is_due h = absurd h
  numbered_due most number due TooManyEvents is_due h = absurd h
  numbered_due most number due NoOutcome is_due h = absurd (spelled_once bytes h.0 due (spelled_by h.0 h.1) is_due)
  numbered_due most number due (NotFound met) is_due h = absurd (spelled_once bytes h.0 due (spelled_by h.0 h.1) is_due)
  numbered_due most number due (Unfinished states) is_due h = absurd h

  unfit_due : (command : Command) (due status : ViewStatus) → IsDue command bytes due → IsUnfitFor command r status → IsDueOr (IsDue command bytes status) status
  unfit_due (Chart window) due status is_due h = record_due (Chart window) status h
  unfit_due (Concurrent event) due status is_due h = record_due (Concurrent event) status h
  unfit_due (Outcomes states) due status is_due h = list_due states status h
  unfit_due (OutcomeRecord states number) due status is_due h = numbered_due states number due status is_due h

  text_due : (command : Command) (due : ViewStatus) (text : List ℕ) (end : ViewStatus) → IsDue command bytes due → IsTextFor command r text end → Done ≡ due
  text_due (Chart window) due text end is_due h = one_due (Chart window) bytes Done due (record_text_due (Chart window) text h.1) is_due
  text_due (Concurrent event) due text end is_due h = one_due (Concurrent event) bytes Done due (record_text_due (Concurrent event) text h.1) is_due
  text_due (Outcomes states) due text end is_due h = one_due (Outcomes states) bytes Done due (h.0, spelled_by h.0 h.1) is_due
  text_due (OutcomeRecord states number) due text end is_due h = absurd (spelled_once bytes h.0 due (spelled_by h.0 h.1) is_due)

  -- no command is unfit with a status of its own
  plain : (command : Command) (due status : ViewStatus) → IsDue command bytes due → (Rose r.before r.after → ⊥) → IsDueOr (IsDue command bytes status) status
      → (status ≡ due) ⊎ (status ≡ Memory)
  plain command due status is_due source (inl h) = inl (one_due command bytes status due h is_due)
  plain command due status is_due source (inr (inl h)) = inr h
  plain command due status is_due source (inr (inr h)) = absurd (source (risen r.before r.after h))

  module _ (w : Writing) (command : Command) (due : ViewStatus) (is_due : IsDue command bytes due) (source : Rose r.before r.after → ⊥) (out : due ≡ Done → Rose w.before w.after → ⊥) where
    unfit : (status : ViewStatus) → IsUnfitFor command r status → (status ≡ due) ⊎ (status ≡ Memory)
    unfit status h = plain command due status is_due source (unfit_due command due status is_due h)

    printed : (text : List ℕ) (end : ViewStatus) → IsTextFor command r text end → as_done end ≡ due
    printed text end h = ends_done end (text_ends command r text end h) ∙ text_due command due text end is_due h

    ran : (status : ViewStatus) → IsRanSo command r w status → (as_done status ≡ due) ⊎ (status ≡ Memory)
    ran Done h = inl (printed h.1.0 Done h.1.1)
    ran (BadScript line kind) h = unfit (BadScript line kind) h.0
    ran Usage h = unfit Usage h.0
    ran ReadFault h = unfit ReadFault h.0
    ran WriteFault h = absurd (out (sym (text_due command due h.1.0 h.1.1 is_due h.1.3)) (risen w.before w.after h.0))
    ran Memory h = inr refl
    ran (No event) h = unfit (No event) h.0
    ran (BadRecord line) h = unfit (BadRecord line) h.0
    ran TooLong h = unfit TooLong h.0
    ran NoEvent h = unfit NoEvent h.0
    ran TooManyEvents h = unfit TooManyEvents h.0
    ran NoOutcome h = unfit NoOutcome h.0
    ran (NotFound met) h = unfit (NotFound met) h.0
    ran (Unfinished states) h = inl (printed h.1.0 (Unfinished states) h.1.1)

pub complete : (command : Command) (words : List (List ℕ)) (bytes : List ℕ) (due status : ViewStatus) (r : Reading) (w : Writing) → IsDue command bytes due
    → IsWellGiven command words bytes due r w → IsAnswer words r w status → (as_done status ≡ due) ⊎ (status ≡ Memory)
complete command words bytes due status r w is_due given h =
    ran r bytes given.left w command due is_due given.source given.out status
    (subst (λ (c : Option Command). IsAnswerTo c r w status) (one_command words command h.0 given.named h.1) h.2)
