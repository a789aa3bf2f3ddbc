-- Where nothing fails, what is answered is due.
use Rattle.std.proofs.Common.{◌≡◌, ◌⊎◌, ℕ, ◌<◌, List, length, length-append, Option, Some, inl, inr, refl, sym, ap, ◌∙◌, subst, arith}
use Rattle.std.specs.Prelude.{IfSome}
use Rattle.sig_base.specs.Flow.{one_more, Rose, Took}
use Rattle.sig_base.proofs.Faults.{risen}
use Rattle.sig_edge.specs.Streams.{IsUnwritten, Reading, Writing}
use Rattle.sig_program.specs.Scripts.{Program}
use Rattle.sig_reader.specs.declared.reader.TheConstants.{MOST_BYTES}
use Rattle.sig_record.specs.declared.report.Report.{Report}
use Rattle.sig_tool.specs.declared.command.Command.{Command}
use Rattle.sig_tool.specs.declared.command.Command.TheVariants.{Check, Replay, Links, Before, Expand}
use Rattle.sig_tool.specs.declared.given.TheConstants.{MOST_INPUT}
use Rattle.sig_tool.specs.declared.status.ToolStatus.{ToolStatus}
use Rattle.sig_tool.specs.declared.status.ToolStatus.TheVariants.{Done, BadScript, Usage, ReadFault, WriteFault, Memory, No, BadRecord, TooLong, NoEvent, BadCall}
use Rattle.sig_tool.specs.Commands.{IsTextOf, HasEvents}
use Rattle.sig_tool.specs.Expanding.{IsCallsDue, IsCallsFault, IsUnexpanded}
use Rattle.sig_tool.specs.Inputs.{HasNoSuchEvent, IsFault, IsOver, IsRecordText, IsUnfitRecord, IsWhole}
use Rattle.sig_tool.specs.Texts.{IsTextFor, IsUnfitFor}
use Rattle.sig_tool.specs.Answers.{IsAnswer, IsAnswerTo, IsDue, IsRanSo, IsRecordDue, IsWellGiven}
use Rattle.sig_tool.proofs.DueLemmas.{one_due}

-- ---- nothing was written

never_done : (command : Command) (r : Reading) → IsUnfitFor command r Done → ⊥
never_done Check r h = h.2
never_done Replay r h = h.2
never_done Links r h = h.2
never_done (Before first second) r h = h.2
never_done Expand r h = h.2

never_cut_off : (command : Command) (r : Reading) → IsUnfitFor command r WriteFault → ⊥
never_cut_off Check r h = h.2
never_cut_off Replay r h = h.2
never_cut_off Links r h = h.2
never_cut_off (Before first second) r h = h.2
never_cut_off Expand r h = h.2

-- where there was nothing to write, it ended so
pub unfit_ran : (command : Command) (r : Reading) (w : Writing) (status : ToolStatus) → IsUnfitFor command r status → IsUnwritten w → IsRanSo command r w status
unfit_ran command r w Done h none = absurd (never_done command r h)
unfit_ran command r w (BadScript line kind) h none = (h, none)
unfit_ran command r w Usage h none = (h, none)
unfit_ran command r w ReadFault h none = (h, none)
unfit_ran command r w WriteFault h none = absurd (never_cut_off command r h)
unfit_ran command r w Memory h none = (h, none)
unfit_ran command r w (No event) h none = (h, none)
unfit_ran command r w (BadRecord line) h none = (h, none)
unfit_ran command r w TooLong h none = (h, none)
unfit_ran command r w NoEvent h none = (h, none)
unfit_ran command r w (BadCall line kind) h none = (h, none)

-- ---- what is due

-- a command that writes has the events of which it asks
has_events : (command : Command) (script : Program) (reports : List Report) (text : List ℕ) → IsTextOf command script reports text → HasEvents command reports
has_events Check script reports text h = tt
has_events Replay script reports text h = tt
has_events Links script reports text h = tt
has_events (Before first second) script reports text h = h.both
has_events Expand script reports text h = tt

module _ (r : Reading) (bytes : List ℕ) (left : r.left ≡ Some bytes) where
  -- what was read is what the source had
  read_all_of : (other : List ℕ) → IsWhole r other → other ≡ bytes
  read_all_of other h = subst (λ (o : Option (List ℕ)). IfSome o (λ all. other ≡ all)) left h.all

  over_long : (most : ℕ) → IsOver most r → most < length bytes
  over_long most h =
      let took : Took (Some bytes) r.rest h.0 = subst (λ (o : Option (List ℕ)). Took o r.rest h.0) left h.1 in
      omega (arith, ap length took.1 ∙ length-append {A = ℕ} h.0 took.0, h.2)

  -- the text is due
  record_text_due : (command : Command) (text : List ℕ) → IsRecordText command r text → IsRecordDue command bytes Done
  record_text_due command text h =
      subst (λ (bs : List ℕ). IsRecordDue command bs Done) (read_all_of h.2.bytes h.2.whole) (h.0, h.1, h.2.pair, h.2.settled, has_events command h.0 h.1 text h.3)

  text_due : (command : Command) (text : List ℕ) → IsTextFor command r text → IsDue command bytes Done
  text_due Check text h = record_text_due Check text h
  text_due Replay text h = record_text_due Replay text h
  text_due Links text h = record_text_due Links text h
  text_due (Before first second) text h = record_text_due (Before first second) text h
  text_due Expand text h = subst (λ (bs : List ℕ). IsCallsDue bs Done) (read_all_of h.0 h.1) (h.2.0, h.2.1)

  -- the status is due; or memory was wanting, or a read failed
  abbrev IsDueOr : Type 0 → ToolStatus → Type 0
  IsDueOr P status = P ⊎ ((status ≡ Memory) ⊎ (r.after ≡ one_more r.before))

  missing_due : (command : Command) → HasNoSuchEvent command r → IsRecordDue command bytes NoEvent
  missing_due command h = subst (λ (bs : List ℕ). IsRecordDue command bs NoEvent) (read_all_of h.2.bytes h.2.whole) (h.0, h.1, h.2.pair, h.2.settled, h.3)

  fault_due : (status : ToolStatus) → (other : List ℕ) × IsWhole r other × IsFault other status → IsFault bytes status
  fault_due status h = subst (λ (bs : List ℕ). IsFault bs status) (read_all_of h.0 h.1) h.2

  record_due : (command : Command) (status : ToolStatus) → IsUnfitRecord command r status → IsDueOr (IsRecordDue command bytes status) status
  record_due command Done h = absurd h.2
  record_due command (BadScript line kind) h = inl (fault_due (BadScript line kind) h)
  record_due command Usage h = absurd h.2
  record_due command ReadFault h = inr (inr h)
  record_due command WriteFault h = absurd h.2
  record_due command Memory h = inr (inl refl)
  record_due command (No event) h = inl (fault_due (No event) h)
  record_due command (BadRecord line) h = inl (fault_due (BadRecord line) h)
  record_due command TooLong h = inl (over_long MOST_INPUT h.0)
  record_due command NoEvent h = inl (missing_due command h)
  record_due command (BadCall line kind) h = absurd h.2

  calls_fault_due : (status : ToolStatus) → (other : List ℕ) × IsWhole r other × IsCallsFault other status → IsCallsFault bytes status
  calls_fault_due status h = subst (λ (bs : List ℕ). IsCallsFault bs status) (read_all_of h.0 h.1) h.2

  calls_due : (status : ToolStatus) → IsUnexpanded r status → IsDueOr (IsCallsDue bytes status) status
  calls_due Done h = absurd h.2
  calls_due (BadScript line kind) h = inl (calls_fault_due (BadScript line kind) h)
  calls_due Usage h = absurd h.2
  calls_due ReadFault h = inr (inr h)
  calls_due WriteFault h = absurd h.2
  calls_due Memory h = inr (inl refl)
  calls_due (No event) h = absurd h.2
  calls_due (BadRecord line) h = absurd h.2
  calls_due TooLong h = inl (over_long MOST_BYTES h.0)
  calls_due NoEvent h = absurd h.2
  calls_due (BadCall line kind) h = inl (calls_fault_due (BadCall line kind) h)

  unfit_due : (command : Command) (status : ToolStatus) → IsUnfitFor command r status → IsDueOr (IsDue command bytes status) status
  unfit_due Check status h = record_due Check status h
  unfit_due Replay status h = record_due Replay status h
  unfit_due Links status h = record_due Links status h
  unfit_due (Before first second) status h = record_due (Before first second) status h
  unfit_due Expand status h = calls_due status h

  module _ (w : Writing) (command : Command) (due : ToolStatus) (is_due : IsDue command bytes due) (source : Rose r.before r.after → ⊥) (out : due ≡ Done → Rose w.before w.after → ⊥) where
    it_is : (status : ToolStatus) → IsDueOr (IsDue command bytes status) status → (status ≡ due) ⊎ (status ≡ Memory)
    it_is status (inl h) = inl (one_due command bytes status due h is_due)
    it_is status (inr (inl h)) = inr h
    it_is status (inr (inr h)) = absurd (source (risen r.before r.after h))

    unfit : (status : ToolStatus) → IsUnfitFor command r status → (status ≡ due) ⊎ (status ≡ Memory)
    unfit status h = it_is status (unfit_due command status h)

    ran : (status : ToolStatus) → IsRanSo command r w status → (status ≡ due) ⊎ (status ≡ Memory)
    ran Done h = inl (one_due command bytes Done due (text_due command h.1.0 h.1.1) is_due)
    ran (BadScript line kind) h = unfit (BadScript line kind) h.0
    ran Usage h = unfit Usage h.0
    ran ReadFault h = unfit ReadFault h.0
    ran WriteFault h = absurd (out (sym (one_due command bytes Done due (text_due command h.1.0 h.1.2) is_due)) (risen w.before w.after h.0))
    ran Memory h = unfit Memory h.0
    ran (No event) h = unfit (No event) h.0
    ran (BadRecord line) h = unfit (BadRecord line) h.0
    ran TooLong h = unfit TooLong h.0
    ran NoEvent h = unfit NoEvent h.0
    ran (BadCall line kind) h = unfit (BadCall line kind) h.0

pub complete : (command : Command) (words : List (List ℕ)) (bytes : List ℕ) (due status : ToolStatus) (r : Reading) (w : Writing) → IsDue command bytes due
    → IsWellGiven command words bytes due r w → IsAnswer words r w status → (status ≡ due) ⊎ (status ≡ Memory)
complete command words bytes due status r w is_due given h =
    ran r bytes given.left w command due is_due given.source given.out status (subst (λ (c : Option Command). IsAnswerTo c r w status) given.named h)
