-- What the command `expand` reads and writes: a text of calls, and the canonical text of the script that it spells (this project's own).
use Rattle.std.specs.Prelude.{◌≡◌, ◌<◌, ℕ, List, length, Result, Ok, Err, Vec, ⊤}
use Rattle.std.specs.Global.{Global}
use Rattle.sig_base.specs.Flow.{one_more}
use Rattle.sig_edge.specs.Streams.{IsFine, Reading}
use Rattle.sig_program.specs.Scripts.{Program}
use Rattle.sig_reader.specs.declared.reader.TheConstants.{MOST_BYTES}
use Rattle.sig_canon.specs.ScriptText.{script_text}
use Rattle.sig_call.specs.declared.fault.CallError.TheVariants as calls
use Rattle.sig_call.specs.Expansion.{expansion}
use Rattle.sig_tool.specs.declared.status.ToolStatus.{ToolStatus}
use Rattle.sig_tool.specs.declared.status.ToolStatus.TheVariants.{Done, BadScript, ReadFault, Memory, TooLong, BadCall}
use Rattle.sig_tool.specs.Inputs.{IsOver, IsWhole}

-- ---- of the bytes

-- the bytes spell a script as a text of calls, and this is its canonical text
abbrev pub IsCallsText : List ℕ → List ℕ → Type 0
IsCallsText bytes text = (script : Program) × (expansion bytes ≡ Ok script) × (text ≡ script_text script)

-- What is wrong with a text of calls: a line can't stand in one; or each can, and the expanded text spells no script. The line is one of the
-- bytes.
abbrev pub IsCallsFault : List ℕ → ToolStatus → Type 0
IsCallsFault bytes (BadCall line kind) = expansion bytes ≡ Err (calls.Call line kind)
IsCallsFault bytes (BadScript line kind) = expansion bytes ≡ Err (calls.Script line kind)
IsCallsFault bytes _ = ⊥

-- what is due for a text of calls, where nothing fails and there is memory; there is one such answer
abbrev pub IsCallsDue : List ℕ → ToolStatus → Type 0
IsCallsDue bytes Done = (script : Program) × (expansion bytes ≡ Ok script)
IsCallsDue bytes TooLong = MOST_BYTES < length bytes
IsCallsDue bytes status = IsCallsFault bytes status

-- ---- of the source

-- this is the text of the script that the source spells as a text of calls
abbrev pub IsExpandedText : Reading → List ℕ → Type 0
IsExpandedText r text = (bytes : List ℕ) × IsWhole r bytes × IsCallsText bytes text

-- why there is none
abbrev pub IsUnexpanded : Reading → ToolStatus → Type 0
IsUnexpanded r ReadFault = r.after ≡ one_more r.before
IsUnexpanded r Memory = IsFine r
IsUnexpanded r TooLong = IsOver MOST_BYTES r × IsFine r
IsUnexpanded r status = (bytes : List ℕ) × IsWhole r bytes × IsCallsFault bytes status

-- ---- a step

-- expanding the bytes of a text of calls
abbrev pub IsExpandedOf : List ℕ → Result (Vec ℕ Global) ToolStatus → Type 0
IsExpandedOf bytes (Ok text) = IsCallsText bytes text.items
IsExpandedOf bytes (Err Memory) = ⊤
IsExpandedOf bytes (Err status) = IsCallsFault bytes status
