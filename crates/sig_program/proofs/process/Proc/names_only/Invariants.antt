use Rattle.std.proofs.Common.{All, take}
use Rattle.sig_program.specs.Parts.{IsInstrAmong}
use Rattle.sig_program.proofs.process.Proc.names_only.Given as goal

-- the instructions so far name known processes alone
abbrev pub invariant-loop-instr : goal.invariant-loop-instr
invariant-loop-instr l = All (IsInstrAmong l.known) (take l.instr-index l.self.instrs)
