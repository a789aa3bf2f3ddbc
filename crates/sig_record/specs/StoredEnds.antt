-- What the types of what is told of ends keep (this project's own): pids have their 32 bits, and terms can lie in memory.
use Rattle.std.specs.Prelude.{List, All}
use Rattle.sig_terms.specs.Readable.{IsTerm}
use Rattle.sig_kinds.specs.declared.signal.Signal.{Signal}
use Rattle.sig_record.specs.declared.report.Left.{Left}
use Rattle.sig_record.specs.declared.report.Report.{Report}
use Rattle.sig_record.specs.Phrases.{IsNarrow}
use Rattle.sig_record.specs.StoredRecord.{IsStoredKind, IsStoredState}

abbrev pub IsStoredMessage : Left → Type 0
IsStoredMessage l = IsTerm l.message

abbrev pub IsStoredWaiting : Signal → Type 0
IsStoredWaiting x = IsNarrow x.from.0 × IsStoredKind x.kind

pub record IsStoredEnd (r : Report) : Type 0 where
  pub pid : IsNarrow r.pid.0
  pub left : All IsStoredMessage r.left
  pub queued : All IsStoredWaiting r.queued
  pub state : IsStoredState r.state

abbrev pub AreStoredEnds : List Report → Type 0
AreStoredEnds reports = All IsStoredEnd reports
