use Rattle.std.proofs.Common.{◌≡◌, ◌≤◌, false}
use Rattle.sig_program.specs.Scripts.{Program}
use Rattle.sig_model.specs.CrewLaw.{IsLawfulCrew}
use Rattle.sig_model.specs.Still.{IsStillCrew}
use Rattle.sig_process.specs.Standing.{runnings_of}
use Rattle.sig_workers.specs.Rounds.{IsRounds, HasSettled, room_left}
use Rattle.sig_workers.proofs.rounds.run_rounds.Given as goal

abbrev pub invariant-loop-moved : goal.invariant-loop-moved
invariant-loop-moved g l = record {
  longer : 1 ≤ l.longer;
  rounds : (script : Program) → IsLawfulCrew script (runnings_of l.fn.crew) → IsRounds script l.policy (runnings_of l.fn.crew) (runnings_of l.now) l.receipts;
  settled : (script : Program) → IsLawfulCrew script (runnings_of l.fn.crew) → l.moved ≡ false → HasSettled script (runnings_of l.now);
  still : l.moved ≡ false → IsStillCrew (runnings_of l.now);
}

abbrev pub decreases-loop-moved : goal.decreases-loop-moved
decreases-loop-moved g l = room_left (runnings_of l.now) l.moved
