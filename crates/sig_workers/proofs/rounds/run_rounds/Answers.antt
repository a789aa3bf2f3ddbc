use Rattle.std.proofs.Common.{◌≡◌, ℕ, ◌<◌, ◌≤◌, sym, subst, arith}
use Rattle.std.specs.Prelude.{max}
use Rattle.std.proofs.Math.Nat.{le-max_left}
use Rattle.sig_process.specs.Standing.{runnings_of}
use Rattle.sig_workers.specs.Rounds.{IsRounds, room_left}
use Rattle.sig_workers.proofs.RoundsLemmas.{first_round, less_room, may_follow, one_more_round, round_still}
use Rattle.sig_workers.proofs.rounds.run_rounds.Goals as goal

-- the quota is no less than before
longer_yet : (quota next most : ℕ) → next ≡ max quota most → 1 ≤ quota → 1 ≤ next
longer_yet quota next most is le =
    let more : quota ≤ max quota most = le-max_left quota most in
    subst (λ z. 1 ≤ z) (sym is) (omega (arith, le, more))

pub loop-moved-init : goal.loop-moved-init
loop-moved-init g c = record {
  longer = c.requires.quota;
  rounds = λ script law. first_round script c.args.policy c.args.crew c.in_ok-now.now c.in_ok-now.receipts c.in_ok-now.moved (c.in_ok-now.ensures script law);
  settled = λ script law. (c.in_ok-now.ensures script law).settled;
  still =
      let law = c.requires.lawful in
      round_still law.0 c.args.policy c.args.crew c.in_ok-now.now c.in_ok-now.receipts c.in_ok-now.moved (c.in_ok-now.ensures law.0 law.2);
}

pub round-requires-in-loop-moved-clause-lawful : goal.round-requires-in-loop-moved-clause-lawful
round-requires-in-loop-moved-clause-lawful g c κs within =
    let law = c.requires.lawful in
    (law.0, law.1, (c.loop-moved.invariant.rounds law.0 law.2).lawful)

pub round-requires-in-loop-moved-clause-clear : goal.round-requires-in-loop-moved-clause-clear
round-requires-in-loop-moved-clause-clear g c κs within =
    let law = c.requires.lawful in
    (c.loop-moved.invariant.rounds law.0 law.2).clear

pub follow-requires : goal.follow-requires
follow-requires g c =
    let law = c.requires.lawful in
    let rounds = c.loop-moved.invariant.rounds law.0 law.2 in
    may_follow law.0 c.args.policy (runnings_of c.args.crew) c.loop-moved.now c.in_ok-later.later c.loop-moved.receipts c.in_ok-later.more c.in_ok-later.again law.2 rounds (c.in_ok-later.ensures law.0 rounds.lawful)

pub loop-moved-smaller : goal.loop-moved-smaller
loop-moved-smaller g c =
    let law = c.requires.lawful in
    let rounds = c.loop-moved.invariant.rounds law.0 law.2 in
    subst (λ z. room_left (runnings_of c.in_ok-later.later) c.in_ok-later.again < room_left (runnings_of c.loop-moved.now) z) (sym c.loop-moved-test.true)
    (less_room law.0 c.args.policy c.loop-moved.now c.in_ok-later.later c.in_ok-later.more c.in_ok-later.again rounds.lawful (c.in_ok-later.ensures law.0 rounds.lawful))

pub loop-moved-preserved : goal.loop-moved-preserved
loop-moved-preserved g c = record {
  longer = longer_yet c.loop-moved.longer c.doubled-longer.result _ c.doubled-longer.ensures c.loop-moved.invariant.longer;
  rounds = λ script law.
      let rounds = c.loop-moved.invariant.rounds script law in
      subst (IsRounds script c.args.policy (runnings_of c.args.crew) (runnings_of c.in_ok-later.later)) (sym c.follow.ensures)
      (one_more_round script c.args.policy (runnings_of c.args.crew) c.loop-moved.now c.in_ok-later.later c.loop-moved.receipts c.in_ok-later.more c.in_ok-later.again law rounds (c.in_ok-later.ensures script rounds.lawful));
  settled = λ script law. (c.in_ok-later.ensures script (c.loop-moved.invariant.rounds script law).lawful).settled;
  still =
      let law = c.requires.lawful in
      let rounds = c.loop-moved.invariant.rounds law.0 law.2 in
      round_still law.0 c.args.policy c.loop-moved.now c.in_ok-later.later c.in_ok-later.more c.in_ok-later.again (c.in_ok-later.ensures law.0 rounds.lawful);
}

pub returns-clause-rounds : goal.returns-clause-rounds
returns-clause-rounds g c = c.loop-moved.invariant.rounds

pub returns-clause-settled : goal.returns-clause-settled
returns-clause-settled g c script law = c.loop-moved.invariant.settled script law c.loop-moved-test.false

pub returns-clause-still : goal.returns-clause-still
returns-clause-still g c = c.loop-moved.invariant.still c.loop-moved-test.false
