use Rattle.sig_process.proofs.SoundLemmas.{opened_sound}
use Rattle.sig_process.proofs.process.Process.start.Goals as goal

pub invariant_of-result : goal.invariant_of-result
invariant_of-result c =
    opened_sound c.args.pid.0 c.args.count c.args.turns c.args.proc c.in-Ok.progress c.requires.pid c.count.ensures.within c.requires.below
    (c.in-Ok.ensures.running c.args.turns c.args.proc) c.in-Ok.ensures.queue

pub returns-in-Ok-clause-opened : goal.returns-in-Ok-clause-opened
returns-in-Ok-clause-opened c = c.in-Ok.ensures.running c.args.turns c.args.proc

pub returns-in-Ok-clause-keeps : goal.returns-in-Ok-clause-keeps
returns-in-Ok-clause-keeps c =
    (opened_sound c.args.pid.0 c.args.count c.args.turns c.args.proc c.in-Ok.progress c.requires.pid c.count.ensures.within c.requires.below
    (c.in-Ok.ensures.running c.args.turns c.args.proc) c.in-Ok.ensures.queue).keeps
