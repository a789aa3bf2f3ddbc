use Rattle.std.proofs.Common.{sym, subst}
use Rattle.sig_order.specs.Happening.{IsTraced, HandledAreTold, QueuedAreTold}
use Rattle.sig_order.proofs.OriginsTraced.{traced, handled_told, queued_told}
use Rattle.sig_order.proofs.traced.origins_of_a_run_are_traced.Goals as goal

pub returns-clause-traced : goal.returns-clause-traced
returns-clause-traced c = λ script machine reports origins sound within run told.
    subst (λ os. IsTraced reports os) (sym told) (traced script machine reports sound within run)

pub returns-clause-told : goal.returns-clause-told
returns-clause-told c = λ script machine reports origins sound within run told.
    subst (λ os. HandledAreTold reports os) (sym told) (handled_told script machine reports sound within run)

pub returns-clause-queued : goal.returns-clause-queued
returns-clause-queued c = λ script machine reports origins sound within run told.
    subst (λ os. QueuedAreTold reports os) (sym told) (queued_told script machine reports sound within run)
