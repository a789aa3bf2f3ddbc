-- What was read so far, and with one form more.
use Rattle.std.specs.Prelude.{ℕ, ◌+◌, ◌==◌, List, [], ◌∷◌, ◌++◌, length, nat_le, Bool, true, false, not, ◌&&◌, if◌then◌else◌, Option, Some, None, Result, Ok, Err}
use Rattle.std.specs.Option.{option_map_or}
use Rattle.std.specs.List.{list_any}
use Rattle.std.specs.Str.{bytes_eq}
use Rattle.sig_kinds.specs.declared.queue_data.QueueData.{QueueData}
use Rattle.sig_kinds.specs.declared.queue_data.QueueData.TheVariants.{OnHeap, OffHeap}
use Rattle.sig_patterns.specs.declared.clause.Clause.{Clause}
use Rattle.sig_patterns.specs.declared.guard.Guard.{Guard}
use Rattle.sig_patterns.specs.declared.pattern.Pattern.{Pattern}
use Rattle.sig_patterns.specs.declared.var.Var.{Var}
use Rattle.sig_patterns.specs.Pinning.{pins}
use Rattle.sig_program.specs.declared.version.Version.{Version}
use Rattle.sig_program.specs.declared.version.Version.TheVariants.{One, Two}
use Rattle.sig_program.specs.declared.label.Label.{Label}
use Rattle.sig_program.specs.declared.instruction.Receiving.{Receiving}
use Rattle.sig_program.specs.declared.instruction.Instr.{Instr}
use Rattle.sig_program.specs.declared.instruction.Instr.TheVariants as instr
use Rattle.sig_tokens.specs.declared.fault.FaultKind.{FaultKind}
use Rattle.sig_tokens.specs.declared.fault.FaultKind.TheVariants.{Syntax, DuplicateName, TooManyProcesses, DuplicateLabel, TooManyTurns, MarkerNotInClause}
use Rattle.sig_reader.specs.declared.draft.Section.{Section}
use Rattle.sig_reader.specs.declared.draft.Section.TheVariants.{Before, Outside, Inside}
use Rattle.sig_reader.specs.declared.draft.Draft.{Draft}
use Rattle.sig_reader.specs.declared.form.Form.{Form}
use Rattle.sig_reader.specs.declared.form.Form.TheVariants as form
use Rattle.sig_program.specs.Scripts.{Declared, Program, bare_process, most_processes}
use Rattle.sig_tokens.specs.Faults.{on_ok}
use Rattle.sig_program.specs.declared.script.TheConstants.{DEFAULT_TURNS, MOST_TURNS}

-- before the first line
abbrev pub blank : Version → Draft
blank version = record { version = version; turns = None; procs = []; section = Before; told = false }

-- the process that is being read
abbrev pub open_proc : Section → List Declared
open_proc Before = []
open_proc (Outside p) = p ∷ []
open_proc (Inside p r) = p ∷ []

-- the processes so far
abbrev pub all_procs : Draft → List Declared
all_procs d = d.procs ++ open_proc d.section

-- each process may execute DEFAULT_TURNS instructions where nothing else is said
abbrev pub program_of : Draft → Program
program_of d = record { version = d.version; turns = option_map_or (λ n. n) d.turns DEFAULT_TURNS; procs = all_procs d }

-- where a process keeps its messages that doesn't tell it
abbrev pub kept_in : Version → QueueData
kept_in One = OffHeap
kept_in Two = OnHeap

-- a process of which only its first line was read
abbrev pub bare_proc : Version → List ℕ → Declared
bare_proc version name = bare_process (kept_in version) name

-- a process begins: its name is a new one, and there are at most as many processes as the version allows
abbrev pub begun : Draft → List ℕ → Result Draft FaultKind
begun d name =
    if list_any (λ (p : Declared). bytes_eq p.name name) (all_procs d) then Err DuplicateName
    else if nat_le (most_processes d.version) (length (all_procs d)) then Err TooManyProcesses
    else Ok (record d { procs = all_procs d; section = Outside (bare_proc d.version name); told = false })

-- the same of the processes so far alone
abbrev pub has_room : Version → List Declared → List ℕ → Result (Unit {0}) FaultKind
has_room version procs name =
    if list_any (λ (p : Declared). bytes_eq p.name name) procs then Err DuplicateName
    else if nat_le (most_processes version) (length procs) then Err TooManyProcesses
    else Ok tt

-- nothing stands in the process yet
abbrev pub is_bare : Declared → Bool
is_bare p = (length p.labels == 0) && (length p.instrs == 0)

-- In version 2 a process tells where it keeps its messages at most once, before its first label and its first instruction.
abbrev pub may_tell : Version → Bool → Declared → Bool
may_tell One told p = false
may_tell Two told p = not told && is_bare p

-- a label before the next instruction: its name is a new one in its process
abbrev pub labelled : Declared → List ℕ → Result Declared FaultKind
labelled p name =
    if list_any (λ (l : Label). bytes_eq l.name name) p.labels then Err DuplicateLabel
    else Ok (record p { labels = p.labels ++ record { name = name; place = length p.instrs + 1 } ∷ [] })

-- one instruction more
abbrev pub with_instr : Declared → Instr → Declared
with_instr p i = record p { instrs = p.instrs ++ i ∷ [] }

-- the marker's variable is pinned in the pattern; a receive without a marker asks for none
abbrev pub is_marked : Option Var → Pattern → Bool
is_marked None pattern = true
is_marked (Some x) pattern = pins pattern x

-- version 1 has no guards
abbrev pub may_guard : Version → Option Guard → Bool
may_guard version None = true
may_guard One (Some guard) = false
may_guard Two (Some guard) = true

-- one clause more; what its guard names is no matter of the marker
abbrev pub with_clause : Version → Option Var → List Clause → Clause → Result (List Clause) FaultKind
with_clause version using clauses c =
    if may_guard version c.guard then (if is_marked using c.pattern then Ok (clauses ++ c ∷ []) else Err MarkerNotInClause) else Err Syntax

-- a receive of which only its first line was read
abbrev pub bare_receive : Option Var → Receiving
bare_receive using = record { using = using; clauses = []; after = None }

-- a form behind what was read so far
abbrev pub taken_at : Draft → Section → Form → Result Draft FaultKind
taken_at d Before (form.Turns n) = if nat_le n MOST_TURNS then Ok (record d { turns = Some n }) else Err TooManyTurns
taken_at d Before (form.Process name) = begun d name
taken_at d (Outside p) (form.Process name) = begun d name
taken_at d (Outside p) (form.QueueData q) =
    if may_tell d.version d.told p then Ok (record d { section = Outside (record p { queue_data = q }); told = true }) else Err Syntax
taken_at d (Outside p) (form.Label name) = on_ok (λ q. record d { section = Outside q }) (labelled p name)
taken_at d (Outside p) (form.Do i) = Ok (record d { section = Outside (with_instr p i) })
taken_at d (Outside p) (form.Receive using) = Ok (record d { section = Inside p (bare_receive using) })
taken_at d (Inside p r) (form.On c) =
    on_ok (λ more. record d { section = Inside p (record r { clauses = more }) }) (with_clause d.version r.using r.clauses c)
taken_at d (Inside p r) (form.After next) = Ok (record d { section = Inside p (record r { after = Some next }) })
taken_at d (Inside p r) form.End = Ok (record d { section = Outside (with_instr p (instr.Receive r)) })
taken_at d _ _ = Err Syntax

abbrev pub taken : Draft → Form → Result Draft FaultKind
taken d f = taken_at d d.section f
