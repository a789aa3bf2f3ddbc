-- The generated script: a hub that answers calls, and eight clients, each of which makes so many. (A call over a monitor that is
-- an alias too, with a marker before its messages: Erlang Reference Manual, Processes, Process Aliases; module `erlang`, `monitor/3`.)
use Rattle.std.specs.Prelude.{ℕ, List, [], ◌∷◌, Some, None, codes, pos, map}
use Rattle.std.specs.List.{flat_map, range_with_len}
use Rattle.sig_kinds.specs.declared.alias_mode.AliasMode.TheVariants as alias_mode
use Rattle.sig_kinds.specs.declared.queue_data.QueueData.TheVariants.{OffHeap}
use Rattle.sig_patterns.specs.declared.var.Var.{Var}
use Rattle.sig_patterns.specs.declared.clause.Clause.{Clause}
use Rattle.sig_patterns.specs.declared.expression.Expr.{Expr}
use Rattle.sig_patterns.specs.declared.expression.Expr.TheVariants as expr
use Rattle.sig_patterns.specs.declared.pattern.Pattern.{Pattern}
use Rattle.sig_patterns.specs.declared.pattern.Pattern.TheVariants as pattern
use Rattle.sig_program.specs.declared.instruction.Instr.{Instr}
use Rattle.sig_program.specs.declared.instruction.Instr.TheVariants as instr
use Rattle.sig_program.specs.declared.script.TheConstants.{MOST_TURNS}
use Rattle.sig_program.specs.declared.version.Version.TheVariants.{One}
use Rattle.sig_program.specs.Parts.{plain_clause}
use Rattle.sig_program.specs.Scripts.{Declared, Program, bare_process}

abbrev pub var_named : List ℕ → Var
var_named word = record { 0 = word }

abbrev pub call_parts : List Pattern
call_parts = pattern.Atom (codes "call") ∷ pattern.Bind (var_named (codes "R")) ∷ pattern.Bind (var_named (codes "V")) ∷ []

-- `receive`, `on {call,R,V} -> answer`, `end`, where `answer` is label 1
abbrev pub call_clause : Clause
call_clause = plain_clause (pattern.Tuple call_parts) (Some 1)

abbrev pub hub_receive : Instr
hub_receive = instr.Receive (record { using = None; clauses = call_clause ∷ []; after = None })

abbrev pub answer_message : Expr
answer_message = expr.Tuple (expr.Var (var_named (codes "R")) ∷ expr.Var (var_named (codes "V")) ∷ [])

-- `send R {R,V}`
abbrev pub hub_answer : Instr
hub_answer = instr.Send (expr.Var (var_named (codes "R"))) answer_message

-- it answers each call, and goes on at label 0
unfoldable pub hub : Declared
hub = record {
  name = codes "hub";
  queue_data = OffHeap;
  labels = record { name = codes "loop"; place = 1 } ∷ record { name = codes "answer"; place = 2 } ∷ [];
  instrs = hub_receive ∷ hub_answer ∷ instr.Goto 0 ∷ [];
}

-- the hub is process 0
abbrev pub to_hub : Expr
to_hub = expr.Pid (record { 0 = 0 })

-- `monitor M @hub reply_demonitor`
abbrev pub watch_hub : Instr
watch_hub = instr.Monitor (var_named (codes "M")) to_hub (Some alias_mode.ReplyDemonitor)

-- `bind M`
abbrev pub bind_mark : Instr
bind_mark = instr.Bind (var_named (codes "M"))

abbrev pub call_message : ℕ → Expr
call_message k = expr.Tuple (expr.Atom (codes "call") ∷ expr.Var (var_named (codes "M")) ∷ expr.Int (pos k) ∷ [])

-- `send @hub {call,M,K}`
abbrev pub send_call : ℕ → Instr
send_call k = instr.Send to_hub (call_message k)

-- `on {^M,V}`
abbrev pub answer_clause : Clause
answer_clause = plain_clause (pattern.Tuple (pattern.Pin (var_named (codes "M")) ∷ pattern.Bind (var_named (codes "V")) ∷ [])) None

-- `on {'DOWN',^M,process,_,V}`
abbrev pub down_clause : Clause
down_clause =
    plain_clause (pattern.Tuple (pattern.Atom (codes "DOWN") ∷ pattern.Pin (var_named (codes "M")) ∷ pattern.Atom (codes "process") ∷ pattern.Any ∷ pattern.Bind (var_named (codes "V")) ∷ [])) None

-- `receive using M`, the two clauses, `end`
abbrev pub await_answer : Instr
await_answer = instr.Receive (record { using = Some (var_named (codes "M")); clauses = answer_clause ∷ down_clause ∷ []; after = None })

-- call number k
abbrev pub call : ℕ → List Instr
call k = instr.Reserve ∷ watch_hub ∷ bind_mark ∷ send_call k ∷ await_answer ∷ []

-- calls 1 to n
unfoldable pub client : ℕ → List ℕ → Declared
client n name = record (bare_process OffHeap name) { instrs = flat_map call (range_with_len 1 n) }

abbrev pub client_names : List (List ℕ)
client_names = codes "c0" ∷ codes "c1" ∷ codes "c2" ∷ codes "c3" ∷ codes "c4" ∷ codes "c5" ∷ codes "c6" ∷ codes "c7" ∷ []

unfoldable pub generated : ℕ → Program
generated n = record { version = One; turns = MOST_TURNS; procs = hub ∷ map (client n) client_names }
