-- What a run wrote is the text of one record, which a reader gives back (this project's own).
use Rattle.std.specs.Prelude.{◌≡◌, ℕ, List, Option, Some, None, Ok}
use Rattle.sig_program.specs.Scripts.{Program}
use Rattle.sig_reader.specs.Grammar.{script_of}
use Rattle.sig_canon.specs.Generated.{generated}
use Rattle.sig_record.specs.declared.report.Report.{Report}
use Rattle.sig_record.specs.RecordFronts.{record_in}
use Rattle.sig_record.specs.RecordText.{record_text}
use Rattle.sig_record.specs.ReadableRecord.{IsReadableRecord}
use Rattle.sig_host.specs.declared.settings.Settings.{Settings}
use Rattle.sig_host.specs.Words.{AreSettings}
use Rattle.sig_host.specs.Answers.{IsRecordOf}

-- the script is the generated one of so many calls, or else the one that the bytes spell
abbrev pub IsScriptOf : Option ℕ → List ℕ → Program → Type 0
IsScriptOf (Some calls) bytes script = script ≡ generated calls
IsScriptOf None bytes script = script_of bytes ≡ Ok script

-- of the run that the words ask for of this input the output is the record: the text of this record, which a reader gives back, and
-- of no other
pub record IsReadBack (words : List (List ℕ)) (input output : List ℕ) : Type 0 where
  pub settings : Settings
  pub asked : AreSettings words settings
  pub script : Program
  pub spelled : IsScriptOf settings.generate input script
  pub reports : List Report
  pub run : IsRecordOf settings.workers script reports
  pub printed : output ≡ record_text reports
  pub again : record_in output ≡ Some reports
  pub only : (other : List Report) → IsReadableRecord other → output ≡ record_text other → other ≡ reports
