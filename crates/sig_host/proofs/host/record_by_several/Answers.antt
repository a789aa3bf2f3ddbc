use Rattle.sig_host.proofs.host.record_by_several.Goals as goal

pub run_crew-requires-clause-lawful : goal.run_crew-requires-clause-lawful
run_crew-requires-clause-lawful g c κs out = (c.args.script, c.count.ensures.sound, c.in_ok-crew.ensures.lawful)

pub record_of-requires-clause-lawful : goal.record_of-requires-clause-lawful
record_of-requires-clause-lawful g c = (c.args.script, c.in_ok-crew-2.ensures.lawful c.args.script c.in_ok-crew.ensures.lawful)

pub returns-clause-run : goal.returns-clause-run
returns-clause-run g c =
    let before = c.in_ok-crew.ensures.lawful in
    c.record_of.ensures.run c.args.script (c.in_ok-crew-2.ensures.lawful c.args.script before) (c.in_ok-crew-2.ensures.settled c.args.script before)

pub returns-clause-sized : goal.returns-clause-sized
returns-clause-sized g c =
    c.record_of.ensures.sized c.args.script (c.in_ok-crew-2.ensures.lawful c.args.script c.in_ok-crew.ensures.lawful) c.requires.names
