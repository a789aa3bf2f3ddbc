use Rattle.std.proofs.Common.{rules}
use Rattle.sig_process.proofs.waiting.pop_next.Goals as goal

pub returns-in-Some-clause-signal : goal.returns-in-Some-clause-signal
returns-in-Some-clause-signal c = search rules

pub returns-in-Some-clause-own : goal.returns-in-Some-clause-own
returns-in-Some-clause-own c = search rules

pub returns-in-Some-clause-taken_in : goal.returns-in-Some-clause-taken_in
returns-in-Some-clause-taken_in c = search rules

pub returns-in-None-clause-signal : goal.returns-in-None-clause-signal
returns-in-None-clause-signal c = search rules

pub returns-in-None-clause-own : goal.returns-in-None-clause-own
returns-in-None-clause-own c = search rules
