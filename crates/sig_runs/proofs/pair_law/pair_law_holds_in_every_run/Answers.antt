use Rattle.sig_runs.proofs.PairFacts.{run_keeps_pairs, symmetric_keeps, alone_keeps}
use Rattle.sig_runs.proofs.pair_law.pair_law_holds_in_every_run.Goals as goal

pub returns-clause-run : goal.returns-clause-run
returns-clause-run g c = λ rules opening end events senders law holds run. run_keeps_pairs rules g.F.StatedOfPairs.facts senders law events opening end holds run

pub returns-clause-symmetric : goal.returns-clause-symmetric
returns-clause-symmetric g c = λ rules symmetric law. symmetric_keeps rules g.F.StatedOfPairs.facts symmetric law

pub returns-clause-alone : goal.returns-clause-alone
returns-clause-alone g c = λ rules p q t acts local end out back law holds run. alone_keeps rules g.F.StatedOfPairs.facts law p q t acts local end out back holds run
