use Rattle.std.proofs.Common.{subst, sym}
use Rattle.sig_record.specs.SizedRecord.{IsSizedRecord}
use Rattle.sig_host.proofs.gathering.record_of.Goals as goal

pub returns-clause-run : goal.returns-clause-run
returns-clause-run c script lawful settled = record {
  machine = _;
  run = c.in_ok-given.ensures.run script lawful;
  settled = c.a_lawful_crew_tells_a_run.ensures.settled script _ lawful c.requires.clear settled;
}

pub returns-clause-sized : goal.returns-clause-sized
returns-clause-sized c script lawful names =
    subst IsSizedRecord (sym (c.in_ok-given.ensures.lawful script lawful))
    (c.a_lawful_crew_tells_a_readable_record.ensures.sized script _ lawful c.requires.clear names)
