-- What a queue without a saved place says of an instruction.
use Rattle.std.proofs.Common.{◌≡◌, false, Option, Some, refl}
use Rattle.sig_patterns.specs.Environment.{Environment}
use Rattle.sig_patterns.specs.Inbox.{start_of}
use Rattle.sig_inner.specs.declared.last_scan.LastScan.{LastScan}
use Rattle.sig_inner.specs.declared.last_scan.LastScan.TheVariants as last
use Rattle.sig_inner.specs.InnerQueue.{InnerQueue}
use Rattle.sig_inner.specs.Receiving.{is_saved, passed}
use Rattle.sig_inner.proofs.Resuming.{passed_unsaved}
use Rattle.sig_program.specs.declared.instruction.Instr.{Instr}
use Rattle.sig_program.specs.declared.instruction.Instr.TheVariants as instr
use Rattle.sig_model.specs.Executing.{using_ref}
use Rattle.sig_process.specs.Soundness.{HasPassedAt}

-- where no place is saved, no message lies before it
pub unsaved_none : (l : LastScan) → is_saved l ≡ false → passed l ≡ 0
unsaved_none last.Gone e = refl
unsaved_none (last.Found at) e = refl
unsaved_none (last.Passed count) e = cc

-- whatever the instruction is
pub unsaved_passes : (i : Option Instr) (q : InnerQueue) (env : Environment) → is_saved q.last ≡ false → HasPassedAt i q env
unsaved_passes (Some (instr.Receive r)) q env e = passed_unsaved r.clauses env q (start_of q.inbox (using_ref env r.using)) e
unsaved_passes _ q env e = tt
