-- Where the events of a process begin that happened after a given event, by the counts (this project's own).
use Rattle.std.specs.Prelude.{◌≡◌, ℕ, ◌+◌, ◌<◌, ◌≤◌, List, Option, Some, None}
use Rattle.sig_order.specs.declared.at.At.{At}
use Rattle.sig_order.specs.declared.counts.Rows.{Rows}
use Rattle.sig_order.specs.declared.span.Span.{Span}
use Rattle.sig_order.specs.Concurrent.{numbered}
use Rattle.sig_order.specs.Counting.{counted_of, count_at}

-- The event of the process with this number doesn't count e, or the number is 0; and the next one does, if there is a next one.
pub record IsLastWithout (rows : List Rows) (e : At) (pid last : ℕ) : Type 0 where
  pub within : last ≤ counted_of rows pid
  pub without : 0 < last → count_at rows (numbered pid last) e.pid < e.event
  pub next : last < counted_of rows pid → e.event ≤ count_at rows (numbered pid (last + 1)) e.pid

-- the events of the process that e doesn't count, up to the last one that doesn't count e; none where there is no such event
abbrev pub IsSpan : List Rows → At → ℕ → Option Span → Type 0
IsSpan rows e pid None = (last : ℕ) × IsLastWithout rows e pid last × (last ≤ count_at rows e pid)
IsSpan rows e pid (Some span) = IsLastWithout rows e pid span.last × (span.first ≡ count_at rows e pid + 1) × (span.first ≤ span.last)
