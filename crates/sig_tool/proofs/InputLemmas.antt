-- What is known of an input that was read, and of why there is none.
use Rattle.std.proofs.Common.{◌≡◌, ◌≢◌, ℕ, List, Option, Result, Ok, Err, refl, sym, subst}
use Rattle.std.specs.Prelude.{IsErrOf}
use Rattle.sig_base.specs.Reading.{IsRead}
use Rattle.sig_base.specs.declared.reading.ReadAll.TheVariants as read
use Rattle.sig_edge.specs.Streams.{Reading, reading}
use Rattle.sig_edge.proofs.ReadLemmas.{to_end}
use Rattle.sig_program.specs.Scripts.{Program}
use Rattle.sig_reader.specs.Grammar.{script_of}
use Rattle.sig_record.specs.declared.refusal.RecordError.{RecordError}
use Rattle.sig_record.specs.declared.refusal.RecordError.TheVariants as wrong
use Rattle.sig_record.specs.declared.report.Report.{Report}
use Rattle.sig_record.specs.FaultLine.{IsFaultLine}
use Rattle.sig_record.specs.ReadableRecord.{IsReadableRecord}
use Rattle.sig_record.specs.RecordText.{record_text}
use Rattle.sig_tool.specs.declared.command.Command.{Command}
use Rattle.sig_tool.specs.declared.given.Given.{Given}
use Rattle.sig_tool.specs.declared.given.TheConstants.{MOST_INPUT}
use Rattle.sig_tool.specs.declared.status.ToolStatus.{ToolStatus}
use Rattle.sig_tool.specs.declared.status.ToolStatus.TheVariants.{Done, BadScript, Usage, ReadFault, WriteFault, Memory, No, BadRecord, TooLong, NoEvent, BadCall}
use Rattle.sig_tool.specs.Inputs.{ArePartsOf, IsApproved, IsChecked, IsInput, IsNoRecord, IsPair, IsShort, IsUnfit, IsUnfitRecord, IsWhole}
use Rattle.sig_tool.specs.Split.{script_part, record_part}
use Rattle.sig_tool.specs.Statuses.{of_record_error}

-- all of the source was read
pub whole : (left rest : Option (List ℕ)) (before after most : ℕ) (into : List ℕ) → IsRead left rest before after most into read.Whole → IsWhole (reading left rest before after) into
whole left rest before after most into h = record { all = h.2; ended = to_end left rest before after into h.0 h.2; fine = h.3 }

pub no_input : (r : Reading) (status : ToolStatus) → IsInput MOST_INPUT r (Err status) → IsUnfit r status
no_input r Done h = absurd h
no_input r (BadScript line kind) h = absurd h
no_input r Usage h = absurd h
no_input r ReadFault h = h
no_input r WriteFault h = absurd h
no_input r Memory h = h
no_input r (No event) h = absurd h
no_input r (BadRecord line) h = absurd h
no_input r TooLong h = h
no_input r NoEvent h = absurd h
no_input r (BadCall line kind) h = absurd h

-- the record's part is refused behind a script
pub told_fault : (bytes part : List ℕ) (e : RecordError) (script : Program) → IsShort bytes → part ≡ record_part bytes → script_of (script_part bytes) ≡ Ok script
    → ((line : ℕ) → IsErrOf {T = List Report} (Err e) (wrong.BadRecord line) → (reports : List Report) → IsReadableRecord reports → part ≢ record_text reports)
    → ((line : ℕ) → IsErrOf {T = List Report} (Err e) (wrong.BadRecord line) → IsFaultLine part line) → ArePartsOf bytes (Err (of_record_error e))
told_fault bytes part (wrong.BadRecord line) script short is spelled bad first =
    (short, (script, spelled), subst (λ (p : List ℕ). IsNoRecord p line) is (record { none = bad line refl; first = first line refl }))
told_fault bytes part wrong.Memory script short is spelled bad first = tt

module _ (r : Reading) (bytes : List ℕ) (all : IsWhole r bytes) where
  pub no_parts : (status : ToolStatus) → ArePartsOf bytes (Err status) → IsUnfit r status
  no_parts Done h = absurd h
  no_parts (BadScript line kind) h = (bytes, all, h)
  no_parts Usage h = absurd h
  no_parts ReadFault h = absurd h
  no_parts WriteFault h = absurd h
  no_parts Memory h = all.fine
  no_parts (No event) h = (bytes, all, h)
  no_parts (BadRecord line) h = (bytes, all, h)
  no_parts TooLong h = absurd h
  no_parts NoEvent h = absurd h
  no_parts (BadCall line kind) h = absurd h

  pub checked : (given : Given) (result : Result Given ToolStatus) → IsPair bytes given.script given.told → IsApproved given result → IsChecked r result
  checked given (Ok same) pair h =
      subst (λ (g : Given). IsChecked r (Ok g)) (sym h.0) (record { bytes = bytes; whole = all; pair = pair; settled = h.1 })
  checked given (Err Done) pair h = absurd h
  checked given (Err (BadScript line kind)) pair h = absurd h
  checked given (Err Usage) pair h = absurd h
  checked given (Err ReadFault) pair h = absurd h
  checked given (Err WriteFault) pair h = absurd h
  checked given (Err Memory) pair h = all.fine
  checked given (Err (No event)) pair h = (bytes, all, (given.script, given.told, pair, h))
  checked given (Err (BadRecord line)) pair h = absurd h
  checked given (Err TooLong) pair h = absurd h
  checked given (Err NoEvent) pair h = absurd h
  checked given (Err (BadCall line kind)) pair h = absurd h

-- where there is no pair of a script and a settled record, no command has anything to write of one
pub unfit_for : (command : Command) (r : Reading) (status : ToolStatus) → IsUnfit r status → IsUnfitRecord command r status
unfit_for command r Done h = h
unfit_for command r (BadScript line kind) h = h
unfit_for command r Usage h = h
unfit_for command r ReadFault h = h
unfit_for command r WriteFault h = h
unfit_for command r Memory h = h
unfit_for command r (No event) h = h
unfit_for command r (BadRecord line) h = h
unfit_for command r TooLong h = h
unfit_for command r NoEvent h = absurd h.2
unfit_for command r (BadCall line kind) h = h
