use Rattle.sig_process.proofs.process.beginning.Goals as goal

pub returns-clause-running : goal.returns-clause-running
returns-clause-running c = λ turns proc. c.before_all.ensures.running c.args.pid.0 c.args.count turns proc c.in_ok-tables.ensures.tables c.in_ok-numbers.ensures
