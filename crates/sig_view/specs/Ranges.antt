-- What the command `concurrent` writes (this project's own).
use Rattle.std.specs.Prelude.{◌≡◌, ℕ, ◌+◌, ◌<◌, true, false, List, [], ◌∷◌, ◌++◌, length, get_or, Option, Some, None, Result, Ok, Err, Vec, ⊤, codes, decimal}
use Rattle.std.specs.Global.{Global}
use Rattle.sig_program.specs.Scripts.{Program}
use Rattle.sig_model.specs.declared.origin.Origin.{Origin}
use Rattle.sig_record.specs.declared.report.Report.{Report}
use Rattle.sig_order.specs.declared.at.At.{At}
use Rattle.sig_order.specs.declared.span.Span.{Span}
use Rattle.sig_order.specs.Happening.{is_there}
use Rattle.sig_order.specs.Concurrent.{IsRange}
use Rattle.sig_view.specs.declared.status.ViewStatus.{ViewStatus}
use Rattle.sig_view.specs.declared.status.ViewStatus.TheVariants.{Memory, NoEvent}
use Rattle.sig_tool.specs.Origins.{AreOrigins}

-- the numbers of the first and the last of these events, and the end of a line
abbrev pub span_text : Span → List ℕ
span_text span = codes " " ++ decimal span.first ++ codes " " ++ decimal span.last ++ codes "\n"

-- the line of a process that has such events
abbrev pub span_line : ℕ → Span → List ℕ
span_line pid span = codes "concurrent " ++ decimal pid ++ span_text span

-- none, where it has no such event
abbrev pub range_line : ℕ → Option Span → List ℕ
range_line pid None = []
range_line pid (Some span) = span_line pid span

-- the lines of the processes from this pid on
abbrev pub range_lines : ℕ → List (Option Span) → List ℕ
range_lines pid [] = []
range_lines pid (range ∷ ranges) = range_line pid range ++ range_lines (pid + 1) ranges

-- for each process of the record, by pid from 0, the events that are concurrent with this one
pub record AreRanges (reports : List Report) (origins : List Origin) (event : At) (ranges : List (Option Span)) : Type 0 where
  pub many : length ranges ≡ length reports
  pub each : (pid : ℕ) → pid < length reports → IsRange reports origins event pid (get_or ranges pid None)

-- the text has the lines of these ranges
pub record IsRangesText (reports : List Report) (origins : List Origin) (event : At) (text : List ℕ) : Type 0 where
  pub there : is_there reports event ≡ true
  pub ranges : List (Option Span)
  pub are : AreRanges reports origins event ranges
  pub lines : text ≡ range_lines 0 ranges

-- the record has the event, and the text has a line for each process with events that are concurrent with it
abbrev pub IsConcurrentText : Program → List Report → At → List ℕ → Type 0
IsConcurrentText script reports event text = (origins : List Origin) × AreOrigins script reports origins × IsRangesText reports origins event text

-- the same of origins that are at hand; without the event that is told
abbrev pub IsAnswered : List Report → List Origin → At → Result (Vec ℕ Global) ViewStatus → Type 0
IsAnswered reports origins event (Ok text) = IsRangesText reports origins event text.items
IsAnswered reports origins event (Err NoEvent) = is_there reports event ≡ false
IsAnswered reports origins event (Err Memory) = ⊤
IsAnswered reports origins event (Err _) = ⊥
