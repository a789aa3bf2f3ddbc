-- Which events are concurrent (Lamport's word), and which of a process are so with a given event. That these follow on one another is this
-- project's own.
use Rattle.std.specs.Prelude.{◌≡◌, ◌≢◌, ℕ, ◌≤◌, ◌↔◌, true, List, Option, Some, None}
use Rattle.sig_model.specs.declared.origin.Origin.{Origin}
use Rattle.sig_record.specs.declared.report.Report.{Report}
use Rattle.sig_order.specs.declared.at.At.{At}
use Rattle.sig_order.specs.declared.span.Span.{Span}
use Rattle.sig_order.specs.Happening.{is_there, HappenedBefore}

-- two events of which neither happened before the other
pub record AreConcurrent (reports : List Report) (origins : List Origin) (e f : At) : Type 0 where
  pub two : e ≢ f
  pub not_before : HappenedBefore reports origins e f → ⊥
  pub not_after : HappenedBefore reports origins f e → ⊥

-- the event of this process with this number
abbrev pub numbered : ℕ → ℕ → At
numbered pid event = record { pid = pid; event = event }

-- the record has this event of the process, and it is concurrent with e
abbrev pub IsBeside : List Report → List Origin → At → ℕ → ℕ → Type 0
IsBeside reports origins e pid event = (is_there reports (numbered pid event) ≡ true) × AreConcurrent reports origins e (numbered pid event)

-- the number is one of the range
abbrev pub IsOf : Span → ℕ → Type 0
IsOf span event = (span.first ≤ event) × (event ≤ span.last)

-- the events of the process that are concurrent with e: none, or those of this range, which has one or more
abbrev pub IsRange : List Report → List Origin → At → ℕ → Option Span → Type 0
IsRange reports origins e pid None = (event : ℕ) → IsBeside reports origins e pid event → ⊥
IsRange reports origins e pid (Some span) = (span.first ≤ span.last) × ((event : ℕ) → IsBeside reports origins e pid event ↔ IsOf span event)
