use Rattle.std.proofs.Common.{rules}
use Rattle.sig_program.proofs.instruction.Instr.copy_with_two.Goals as goal

pub returns-in-ExitTo : goal.returns-in-ExitTo
returns-in-ExitTo c = search rules
