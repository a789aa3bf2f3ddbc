use Rattle.sig_host.proofs.RunLemmas.{of_one_worker}
use Rattle.sig_host.proofs.alone.record_alone.Goals as goal

pub record_of-requires-clause-lawful : goal.record_of-requires-clause-lawful
record_of-requires-clause-lawful c = (c.args.script, c.in_ok-crew-2.ensures.lawful c.args.script c.in_ok-crew.ensures.lawful)

pub returns-clause-run : goal.returns-clause-run
returns-clause-run c =
    let before = c.in_ok-crew.ensures.lawful in
    c.record_of.ensures.run c.args.script (c.in_ok-crew-2.ensures.lawful c.args.script before) (c.in_ok-crew-2.ensures.settled c.args.script before)

pub returns-clause-alone : goal.returns-clause-alone
returns-clause-alone c =
    of_one_worker c.args.script _ _ c.record_of.result c.in_ok-crew.ensures.opened c.in_ok-crew-2.ensures.run
    (c.record_of.ensures.record c.args.script (c.in_ok-crew-2.ensures.lawful c.args.script c.in_ok-crew.ensures.lawful))

pub returns-clause-sized : goal.returns-clause-sized
returns-clause-sized c =
    c.record_of.ensures.sized c.args.script (c.in_ok-crew-2.ensures.lawful c.args.script c.in_ok-crew.ensures.lawful) c.requires.names
