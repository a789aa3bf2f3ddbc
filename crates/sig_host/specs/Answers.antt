-- What each answer of a run says of the bytes that were read and written.
use Rattle.std.specs.Prelude.{◌≡◌, ◌≢◌, ℕ, ◌<◌, Bool, List, length, take, true, false, Option, Some, None, IfSome, Result, Ok, Err, ⊤}
use Rattle.sig_base.specs.Flow.{one_more, Rose, Adds}
use Rattle.sig_tokens.specs.declared.fault.FaultKind.TheVariants.{TooLong}
use Rattle.sig_edge.specs.Streams.{IsFine, IsReadToEnd, IsRefused, IsUnread, IsUnwritten, Reading, Spells, Writing}
use Rattle.sig_program.specs.Scripts.{Program}
use Rattle.sig_reader.specs.Grammar.{script_of}
use Rattle.sig_model.specs.Running.{Running}
use Rattle.sig_model.specs.OneWorker.{RunsTo, opened_crew}
use Rattle.sig_record.specs.declared.report.Report.{Report}
use Rattle.sig_record.specs.RecordOf.{record_of}
use Rattle.sig_record.specs.RunRecord.{IsOfSettledRun}
use Rattle.sig_record.specs.RecordText.{record_text}
use Rattle.sig_record.specs.ReadableRecord.{IsReadableRecord}
use Rattle.sig_canon.specs.Generated.{generated}
use Rattle.sig_record.specs.Summarizing.{summary_of}
use Rattle.sig_host.specs.declared.settings.Settings.{Settings}
use Rattle.sig_host.specs.declared.texts.Texts.{Texts}
use Rattle.sig_host.specs.Told.{summary_text, text_in}
use Rattle.sig_host.specs.Words.{AreRefused, AreSettings, plain_settings, settings_in}
use Rattle.sig_host.specs.declared.status.Status.{Status}
use Rattle.sig_host.specs.declared.status.Status.TheVariants.{Done, BadScript, Usage, ReadFault, WriteFault, Memory}

-- the reports are the record of the run of one worker on the script, of which it has one
abbrev pub IsRecordAlone : Program → List Report → Type 0
IsRecordAlone script reports = (last : List Running) × RunsTo (opened_crew script) last × (reports ≡ record_of last)

-- The reports are the record of a run of the plain machine on the script: its events, in the order of their stamps, are possible
-- one after another from the opening, each receive looks at all messages, each signal was handled once, in the order of its sender,
-- or is reported as queued, and the machine has come to rest (Erlang Reference Manual, Processes, Delivery of Signals;
-- Expressions, Receive). With one worker it is the record of the run of one worker. It can be read, so its text is that of no other
-- record that can be read (`texts_tell_records_apart` of sig_record).
pub record IsRecordOf (workers : ℕ) (script : Program) (reports : List Report) : Type 0 where
  pub run : IsOfSettledRun script reports
  pub alone : workers ≡ 1 → IsRecordAlone script reports
  pub readable : IsReadableRecord reports

-- the text of the summary of these reports, where one is asked for
abbrev pub summary_for : Bool → List Report → Option (List ℕ)
summary_for true reports = Some (summary_text (summary_of reports))
summary_for false reports = None

-- the texts of a record of a run of the script with so many workers, and of its summary where one is asked for
abbrev pub AreTexts : ℕ → Program → Bool → Texts → Type 0
AreTexts workers script asked t =
    (reports : List Report) × IsRecordOf workers script reports × (t.record.items ≡ record_text reports) × (text_in t.summary ≡ summary_for asked reports)

-- Reading the script: it is what the source spells, or this is why there is none. The source was read to its end, but for a script that
-- is too long, a failed read, and want of memory.
abbrev pub IsSourceRead : Reading → Result Program Status → Type 0
IsSourceRead r (Ok script) = IfSome r.left (λ bytes. script_of bytes ≡ Ok script) × IsFine r × IsReadToEnd r
IsSourceRead r (Err (BadScript line kind)) = IfSome r.left (IsRefused line kind) × IsFine r × (kind ≢ TooLong → IsReadToEnd r)
IsSourceRead r (Err ReadFault) = r.after ≡ one_more r.before
IsSourceRead r (Err Memory) = IsFine r
IsSourceRead r (Err _) = ⊥

-- making generated work of so many calls: it is that script, or there was no memory
abbrev pub IsMade : ℕ → Result Program Status → Type 0
IsMade calls (Ok script) = script ≡ generated calls
IsMade calls (Err Memory) = ⊤
IsMade calls (Err _) = ⊥

-- the script that is to be run, or why there is none: generated work of so many calls, for which the source isn't read, or what the
-- source spells
abbrev pub IsScriptFor : Option ℕ → Reading → Result Program Status → Type 0
IsScriptFor (Some calls) r result = IsUnread r × IsMade calls result
IsScriptFor None r result = IsSourceRead r result

-- the whole text of the record of a run of the script with so many workers was written, and no write failed; this text of its summary, if
-- one is asked for, is to be told
abbrev pub IsPrinted : ℕ → Program → Bool → Writing → Option (List ℕ) → Type 0
IsPrinted workers script asked w summary =
    (w.after ≡ w.before)
    × ((reports : List Report) × IsRecordOf workers script reports × Adds w.held w.new (record_text reports) × (summary ≡ summary_for asked reports))

-- one write failed, and only the beginning of that text was written
abbrev pub IsCutOff : ℕ → Program → Writing → Type 0
IsCutOff workers script w =
    (w.after ≡ one_more w.before)
    × ((reports : List Report) × (n : ℕ) × IsRecordOf workers script reports × (n < length (record_text reports)) × Adds w.held w.new (take n (record_text reports)))

-- running a script with so many workers and writing its record, and how that ended: with this text of a summary or none
abbrev pub IsScriptRun : ℕ → Program → Bool → Writing → Status → Option (List ℕ) → Type 0
IsScriptRun workers script asked w Done summary = IsPrinted workers script asked w summary
IsScriptRun workers script asked w WriteFault summary = IsCutOff workers script w
IsScriptRun workers script asked w Memory summary = IsUnwritten w
IsScriptRun workers script asked w _ summary = ⊥

-- running the script that the source spells, with so many workers
abbrev pub IsSourceRun : ℕ → Reading → Writing → Status → Option (List ℕ) → Type 0
IsSourceRun workers r w Done summary =
    Spells r (λ script. IsPrinted workers script false w summary) × (w.after ≡ w.before) × IsFine r × IsReadToEnd r × (summary ≡ None)
IsSourceRun workers r w (BadScript line kind) summary = IfSome r.left (IsRefused line kind) × IsFine r × (kind ≢ TooLong → IsReadToEnd r) × IsUnwritten w
IsSourceRun workers r w ReadFault summary = (r.after ≡ one_more r.before) × IsUnwritten w
IsSourceRun workers r w WriteFault summary = Spells r (λ script. IsCutOff workers script w) × (w.after ≡ one_more w.before) × IsFine r × IsReadToEnd r
IsSourceRun workers r w Memory summary = IsFine r × IsUnwritten w
IsSourceRun workers r w Usage summary = ⊥

-- running with so many workers the script that is asked for: generated work, for which the source isn't read, or what the source spells
abbrev pub IsRun : ℕ → Option ℕ → Reading → Writing → Status → Option (List ℕ) → Type 0
IsRun workers (Some calls) r w status summary = IsUnread r × IsScriptRun workers (generated calls) true w status summary
IsRun workers None r w status summary = IsSourceRun workers r w status summary

-- the words have settings, and this is a run that they ask for
abbrev pub IsRunAsked : List (List ℕ) → Reading → Writing → Status → Option (List ℕ) → Type 0
IsRunAsked words r w status summary = (settings : Settings) × AreSettings words settings × IsRun settings.workers settings.generate r w status summary

-- the settings of the words ask for generated work
abbrev pub AskForWork : List (List ℕ) → Type 0
AskForWork words = (settings : Settings) × (calls : ℕ) × (settings_in words ≡ Some settings) × (settings.generate ≡ Some calls)

-- what each status says of the words, of what was read, and of what was written
abbrev pub IsAnswer : List (List ℕ) → Reading → Writing → Status → Option (List ℕ) → Type 0
IsAnswer words r w Usage summary = AreRefused words × IsUnread r × IsUnwritten w
IsAnswer words r w Memory summary = IsFine r × IsUnwritten w × (AskForWork words → IsUnread r)
IsAnswer words r w status summary = IsRunAsked words r w status summary

-- there is a script to be run: it is generated, or the source spells it
abbrev pub HasScript : Option ℕ → Reading → Type 0
HasScript (Some calls) r = ⊤
HasScript None r = (bytes : List ℕ) × (script : Program) × (r.left ≡ Some bytes) × (script_of bytes ≡ Ok script)

-- the words are in the plain form, there is a script to be run, and no read and no write to `out` failed
pub record IsWellGiven (words : List (List ℕ)) (r : Reading) (w : Writing) : Type 0 where
  pub settings : Settings
  pub plain : plain_settings words ≡ Some settings
  pub script : HasScript settings.generate r
  pub source : Rose r.before r.after → ⊥
  pub out : Rose w.before w.after → ⊥
