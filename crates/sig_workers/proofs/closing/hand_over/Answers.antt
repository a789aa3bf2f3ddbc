use Rattle.std.proofs.Common.{sym, subst, All}
use Rattle.sig_model.specs.Accounts.{Continues}
use Rattle.sig_model.specs.Keeping.{IsArriving}
use Rattle.sig_workers.proofs.closing.hand_over.Goals as goal

pub take_in-requires-clause-arriving : goal.take_in-requires-clause-arriving
take_in-requires-clause-arriving c = subst (All (IsArriving c.args.process.now.running.pid c.args.process.now.running.count)) (sym c.in_ok-gather.ensures) c.requires.arriving

pub take_in-requires-clause-continues : goal.take_in-requires-clause-continues
take_in-requires-clause-continues c = subst (Continues c.args.process.now.running) (sym c.in_ok-gather.ensures) c.requires.continues
