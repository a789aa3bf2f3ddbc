-- What the types of a record keep (this project's own): numbers have the bits of their types, names are words, and terms can lie in
-- memory.
use Rattle.std.specs.Prelude.{◌≡◌, List, All, true}
use Rattle.sig_terms.specs.Words.{is_token}
use Rattle.sig_terms.specs.Readable.{IsTerm}
use Rattle.sig_kinds.specs.declared.signal.Kind.{Kind}
use Rattle.sig_kinds.specs.declared.signal.Signal.{Signal}
use Rattle.sig_model.specs.declared.event.Did.{Did}
use Rattle.sig_model.specs.declared.event.Outcome.{Outcome}
use Rattle.sig_model.specs.declared.event.Event.{Event}
use Rattle.sig_model.specs.declared.state.State.{State}
use Rattle.sig_record.specs.declared.report.Left.{Left}
use Rattle.sig_record.specs.declared.report.Report.{Report}
use Rattle.sig_record.specs.Phrases.{IsNarrow, IsWide, IsStoredPhrase}
use Rattle.sig_record.specs.EventRows.{did_phrase, outcome_phrase, state_phrase}
use Rattle.sig_record.specs.KindRows.{kind_phrase}

abbrev pub IsStoredDid : Did → Type 0
IsStoredDid d = IsStoredPhrase (did_phrase d)

abbrev pub IsStoredOutcome : Outcome → Type 0
IsStoredOutcome o = IsStoredPhrase (outcome_phrase o)

abbrev pub IsStoredEvent : Event → Type 0
IsStoredEvent e = (IsWide e.stamp × IsStoredDid e.did) × IsStoredOutcome e.outcome

abbrev pub IsStoredLeft : Left → Type 0
IsStoredLeft l = IsWide l.arrival × IsTerm l.message

abbrev pub IsStoredKind : Kind → Type 0
IsStoredKind k = IsStoredPhrase (kind_phrase k)

abbrev pub IsStoredSignal : Signal → Type 0
IsStoredSignal s = ((IsNarrow s.from.0 × IsWide s.number) × IsWide s.stamp) × IsStoredKind s.kind

abbrev pub IsStoredState : State → Type 0
IsStoredState s = IsStoredPhrase (state_phrase s)

pub record IsStoredReport (r : Report) : Type 0 where
  pub pid : IsNarrow r.pid.0
  pub name : is_token r.name ≡ true
  pub events : All IsStoredEvent r.events
  pub left : All IsStoredLeft r.left
  pub queued : All IsStoredSignal r.queued
  pub state : IsStoredState r.state

abbrev pub IsStoredRecord : List Report → Type 0
IsStoredRecord reports = All IsStoredReport reports
