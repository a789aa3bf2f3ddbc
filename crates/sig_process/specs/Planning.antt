-- What planning an instruction answers.
use Rattle.std.specs.Prelude.{◌≡◌, Bool, true, false, Option, Some, None, Result, Ok, Err}
use Rattle.sig_terms.specs.declared.reference.Ref.{Ref}
use Rattle.sig_kinds.specs.declared.signal.Kind.{Kind}
use Rattle.sig_kinds.specs.declared.signal.Kind.TheVariants as kind
use Rattle.sig_program.specs.declared.instruction.Instr.{Instr}
use Rattle.sig_program.specs.declared.instruction.Instr.TheVariants as instr
use Rattle.sig_program.specs.Scripts.{Declared}
use Rattle.sig_model.specs.ProcessState.{ProcessState}
use Rattle.sig_model.specs.Bodies.{Body, ending, badarg, system_limit, noproc}
use Rattle.sig_model.specs.Executing.{from_mark, exec_body}
use Rattle.sig_process.specs.declared.values.ValueFault.{ValueFault}
use Rattle.sig_process.specs.declared.values.ValueFault.TheVariants.{TooLarge, BadArg, Memory}
use Rattle.sig_process.specs.declared.plan.Execution.{Execution}
use Rattle.sig_process.specs.Plans.{executed_body}

-- What the fault of a value tells of the body: it is the end with `system_limit`, or the end with `badarg`. A want of memory tells nothing.
abbrev pub IsRefused : ProcessState → Option Body → ValueFault → Type 0
IsRefused s body TooLarge = body ≡ Some (ending s system_limit)
IsRefused s body BadArg = body ≡ Some (ending s badarg)
IsRefused s body Memory = Unit {0}

-- the execution does what the body says, or the fault of a value tells of the body
abbrev pub IsPlanned : ProcessState → Option Body → Result Execution ValueFault → Type 0
IsPlanned s body (Ok x) = body ≡ Some (executed_body s x)
IsPlanned s body (Err fault) = IsRefused s body fault

-- the same of the row of this instruction
abbrev pub IsRow : Declared → ProcessState → Instr → Result Execution ValueFault → Type 0
IsRow proc s i r = IsPlanned s (exec_body from_mark proc s (Some i)) r

-- what answers a link signal, or the monitor signal of a reference, where the process has ended
abbrev pub noproc_answer : Option Ref → Kind
noproc_answer None = kind.Exit noproc true
noproc_answer (Some reference) = kind.Down reference noproc

-- the instruction is a receive
abbrev pub is_receive : Option Instr → Bool
is_receive (Some (instr.Receive r)) = true
is_receive _ = false
