use Rattle.sig_model.proofs.LawfulRunLemmas.{run_lawful}
use Rattle.sig_model.proofs.StillLemmas.{run_still}
use Rattle.sig_process.specs.Standing.{runnings_of}
use Rattle.sig_workers.proofs.RunLemmas.{run_rests, run_goes}
use Rattle.sig_workers.proofs.one_worker.run_passes.Goals as goal

pub returns-then-not-moved-clause-run : goal.returns-then-not-moved-clause-run
returns-then-not-moved-clause-run g c =
    c.loop-sent.invariant.leads _ (run_rests (runnings_of c.loop-sent.procs.items) (runnings_of c.pass_all.new.procs.items) c.in_ok-moved.moved c.in_ok-moved.ensures.pass c.if-not-moved.true)

pub returns-then-not-moved-clause-lawful : goal.returns-then-not-moved-clause-lawful
returns-then-not-moved-clause-lawful g c = λ script law.
    let last = runnings_of c.pass_all.new.procs.items in
    run_lawful script (runnings_of c.args.crew) last
    (c.loop-sent.invariant.leads last (run_rests (runnings_of c.loop-sent.procs.items) last c.in_ok-moved.moved c.in_ok-moved.ensures.pass c.if-not-moved.true)) law

pub returns-then-not-moved-clause-still : goal.returns-then-not-moved-clause-still
returns-then-not-moved-clause-still g c =
    let last = runnings_of c.pass_all.new.procs.items in
    run_still (runnings_of c.args.crew) last
    (c.loop-sent.invariant.leads last (run_rests (runnings_of c.loop-sent.procs.items) last c.in_ok-moved.moved c.in_ok-moved.ensures.pass c.if-not-moved.true)) c.requires.clear

pub loop-sent-preserved : goal.loop-sent-preserved
loop-sent-preserved g c = record {
  leads = λ last r.
      c.loop-sent.invariant.leads last (run_goes (runnings_of c.loop-sent.procs.items) (runnings_of c.pass_all.new.procs.items) last c.in_ok-moved.moved c.in_ok-moved.ensures.pass c.if-not-moved.false r);
  placed = c.in_ok-moved.ensures.placed;
  empty = c.in_ok-moved.ensures.empty;
  clear = c.in_ok-moved.ensures.clear c.loop-sent.invariant.clear;
}
