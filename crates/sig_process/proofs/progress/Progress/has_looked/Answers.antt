use Rattle.std.proofs.Common.{◌-◌, refl, sym, ap, ◌∙◌, arith, length, ◌≤◌}
use Rattle.std.specs.Prelude.{slice_get}
use Rattle.sig_inner.specs.Receiving.{passed}
use Rattle.sig_process.specs.Idling.{is_bare_receive}
use Rattle.sig_process.proofs.IdleLemmas.{looked_waits}
use Rattle.sig_process.proofs.progress.Progress.has_looked.Goals as goal

pub returns-clause-waits : goal.returns-clause-waits
returns-clause-waits c = λ bare.
    let p = c.args.self.now in
    let le : length p.tables.inner.queue.inbox.messages ≤ passed p.tables.inner.queue.last = omega (arith, c.passed.ensures.count, c.len.ensures) in
    looked_waits c.args.proc.now p (slice_get c.args.proc.now.instrs (p.counts.place - 1)) refl (ap is_bare_receive (sym c.instr.ensures.value) ∙ sym c.is_bare_receive.ensures ∙ bare) c.requires.saved le
