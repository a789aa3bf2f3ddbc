-- The text of how processes ended (this project's own): of a record's text what stands below their events, without arrival numbers,
-- numbers and stamps.
use Rattle.std.specs.Prelude.{ℕ, List, ◌++◌, codes, decimal}
use Rattle.std.specs.List.{flat_map}
use Rattle.sig_terms.specs.TermText.{term_text}
use Rattle.sig_terms.specs.declared.term.Term.{Term}
use Rattle.sig_kinds.specs.declared.signal.Kind.{Kind}
use Rattle.sig_kinds.specs.declared.signal.Signal.{Signal}
use Rattle.sig_record.specs.declared.report.Left.{Left}
use Rattle.sig_record.specs.declared.report.Report.{Report}
use Rattle.sig_record.specs.KindRows.{kind_text}
use Rattle.sig_record.specs.RecordText.{head_text, state_text}

-- a message that no receive has taken
unfoldable pub message_text : Term → List ℕ
message_text message = codes "left " ++ term_text message ++ codes "\n"

-- a signal of this sender that was not handled
unfoldable pub waiting_text : ℕ → Kind → List ℕ
waiting_text sender kind = codes "queued " ++ decimal sender ++ codes " " ++ kind_text kind ++ codes "\n"

abbrev pub left_end : Left → List ℕ
left_end l = message_text l.message

abbrev pub queued_end : Signal → List ℕ
queued_end x = waiting_text x.from.0 x.kind

-- one process's part
unfoldable pub end_text : Report → List ℕ
end_text r = head_text r.pid.0 r.name ++ flat_map left_end r.left ++ flat_map queued_end r.queued ++ state_text r.state

-- the parts of these processes
abbrev pub ends_text : List Report → List ℕ
ends_text reports = flat_map end_text reports
