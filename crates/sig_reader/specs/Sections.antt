-- Where the next line stands behind a form that begins no process and tells no turns; by the version behind a clause, and behind the
-- line of where messages are kept.
use Rattle.std.specs.Prelude.{Bool, if◌then◌else◌, Option, Some, Result, Ok, Err}
use Rattle.sig_kinds.specs.declared.queue_data.QueueData.{QueueData}
use Rattle.sig_patterns.specs.declared.clause.Clause.{Clause}
use Rattle.sig_patterns.specs.declared.var.Var.{Var}
use Rattle.sig_tokens.specs.declared.fault.FaultKind.{FaultKind}
use Rattle.sig_tokens.specs.declared.fault.FaultKind.TheVariants.{Syntax}
use Rattle.sig_reader.specs.declared.draft.Section.{Section}
use Rattle.sig_reader.specs.declared.draft.Section.TheVariants.{Outside, Inside}
use Rattle.sig_reader.specs.declared.form.Form.{Form}
use Rattle.sig_reader.specs.declared.form.Form.TheVariants as form
use Rattle.sig_tokens.specs.Faults.{on_ok}
use Rattle.sig_reader.specs.Drafts.{may_tell, labelled, with_instr, with_clause, bare_receive}
use Rattle.sig_program.specs.declared.instruction.Instr.TheVariants as instr
use Rattle.sig_program.specs.declared.version.Version.{Version}

-- a receive begins in the process that is being read
abbrev pub inside_of : Section → Option Var → Section
inside_of (Outside p) using = Inside p (bare_receive using)
inside_of section using = section

-- a receive ends, which is one instruction
abbrev pub outside_of : Section → Section
outside_of (Inside p r) = Outside (with_instr p (instr.Receive r))
outside_of section = section

-- behind each other form
abbrev pub section_taken : Section → Form → Result Section FaultKind
section_taken (Outside p) (form.Label name) = on_ok Outside (labelled p name)
section_taken (Outside p) (form.Do i) = Ok (Outside (with_instr p i))
section_taken (Outside p) (form.Receive using) = Ok (Inside p (bare_receive using))
section_taken (Inside p r) (form.After next) = Ok (Inside p (record r { after = Some next }))
section_taken (Inside p r) form.End = Ok (Outside (with_instr p (instr.Receive r)))
section_taken _ _ = Err Syntax

-- a clause more in the receive that is open
abbrev pub clause_placed : Version → Section → Clause → Result Section FaultKind
clause_placed version (Inside p r) c = on_ok (λ more. Inside p (record r { clauses = more })) (with_clause version r.using r.clauses c)
clause_placed version _ c = Err Syntax

-- where the process keeps its messages, if it has told that or not
abbrev pub data_placed : Version → Bool → Section → QueueData → Result Section FaultKind
data_placed version told (Outside p) q = if may_tell version told p then Ok (Outside (record p { queue_data = q })) else Err Syntax
data_placed version told _ q = Err Syntax
