-- Records whose names are name tokens, and whose terms are no larger than what is read (the bounds are this project's own). So is the
-- record of each run of a script whose processes have such names.
use Rattle.std.specs.Prelude.{◌≡◌, List, All, true}
use Rattle.sig_terms.specs.Words.{is_name}
use Rattle.sig_kinds.specs.declared.signal.Kind.{Kind}
use Rattle.sig_kinds.specs.declared.signal.Signal.{Signal}
use Rattle.sig_model.specs.declared.event.Outcome.{Outcome}
use Rattle.sig_model.specs.declared.event.Event.{Event}
use Rattle.sig_model.specs.declared.state.State.{State}
use Rattle.sig_model.specs.TermSizes.{IsKeptTerm}
use Rattle.sig_record.specs.declared.report.Left.{Left}
use Rattle.sig_record.specs.declared.report.Report.{Report}
use Rattle.sig_record.specs.Phrases.{Phrase, terms_of, Each}
use Rattle.sig_record.specs.EventRows.{outcome_phrase, state_phrase}
use Rattle.sig_record.specs.KindRows.{kind_phrase}

abbrev pub IsSizedPhrase : Phrase → Type 0
IsSizedPhrase p = Each IsKeptTerm (terms_of p.values)

abbrev pub IsSizedOutcome : Outcome → Type 0
IsSizedOutcome o = IsSizedPhrase (outcome_phrase o)

abbrev pub IsSizedEvent : Event → Type 0
IsSizedEvent e = IsSizedOutcome e.outcome

abbrev pub IsSizedLeft : Left → Type 0
IsSizedLeft l = IsKeptTerm l.message

abbrev pub IsSizedKind : Kind → Type 0
IsSizedKind k = IsSizedPhrase (kind_phrase k)

abbrev pub IsSizedSignal : Signal → Type 0
IsSizedSignal s = IsSizedKind s.kind

abbrev pub IsSizedState : State → Type 0
IsSizedState s = IsSizedPhrase (state_phrase s)

pub record IsSizedReport (r : Report) : Type 0 where
  pub name : is_name r.name ≡ true
  pub events : All IsSizedEvent r.events
  pub left : All IsSizedLeft r.left
  pub queued : All IsSizedSignal r.queued
  pub state : IsSizedState r.state

abbrev pub IsSizedRecord : List Report → Type 0
IsSizedRecord reports = All IsSizedReport reports
