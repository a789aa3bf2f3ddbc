use Rattle.std.proofs.Common.{◌≡◌, sym, ◌∙◌, subst, arith, List, length, ◌<◌, ◌≤◌}
use Rattle.std.proofs.lemmas.List.Elements.{All-push}
use Rattle.sig_model.specs.OneWorker.{IsClear, opened_crew}
use Rattle.sig_model.specs.Keeping.{IsPlaced}
use Rattle.sig_model.proofs.OpeningLemmas.{clear_from}
use Rattle.sig_model.proofs.PlacedLemmas.{opened_placed}
use Rattle.sig_model.proofs.LawfulRunLemmas.{opened_keeping_lawful}
use Rattle.sig_program.specs.Scripts.{Declared}
use Rattle.sig_process.specs.Standing.{Standing, runnings_of}
use Rattle.sig_process.proofs.Lists.{opened_more, all_opened, keeping_more}
use Rattle.sig_process.proofs.crew.Crew.open.Goals as goal

pub loop-pid-preserved : goal.loop-pid-preserved
loop-pid-preserved c =
    let procs = c.args.script.now.procs in
    let lt : c.loop-pid.pid < length procs = omega arith in
    rw c.in_ok-push.ensures.items
    (record {
      rest = opened_more procs c.loop-pid.pid (length procs) c.args.script.now.turns c.in_ok-process.process.running.proc c.in_ok-process.process c.loop-pid.procs.items lt c.in_ok-process.ensures.opened
          ∙ c.loop-pid.invariant.rest;
      keeping = keeping_more c.loop-pid.procs.items c.in_ok-process.process c.loop-pid.invariant.keeping c.in_ok-process.ensures.keeps;
      saved = All-push (λ (p : Standing). p.saved ≡ 0) c.loop-pid.procs.items c.in_ok-process.process c.loop-pid.invariant.saved c.in_ok-process.ensures.saved;
    })

pub returns-clause-opened : goal.returns-clause-opened
returns-clause-opened c =
    let procs : List Declared = c.args.script.now.procs in
    let le : length procs ≤ c.loop-pid.pid = omega arith in
    all_opened procs c.loop-pid.pid c.args.script.now.turns (runnings_of c.loop-pid.procs.items) le c.loop-pid.invariant.rest

pub returns-clause-clear : goal.returns-clause-clear
returns-clause-clear c =
    let procs : List Declared = c.args.script.now.procs in
    let turns = c.args.script.now.turns in
    let le : length procs ≤ c.loop-pid.pid = omega arith in
    subst IsClear (sym (all_opened procs c.loop-pid.pid turns (runnings_of c.loop-pid.procs.items) le c.loop-pid.invariant.rest)) (clear_from 0 (length procs) turns procs)

pub returns-clause-placed : goal.returns-clause-placed
returns-clause-placed c =
    let procs : List Declared = c.args.script.now.procs in
    let turns = c.args.script.now.turns in
    let le : length procs ≤ c.loop-pid.pid = omega arith in
    subst IsPlaced (sym (all_opened procs c.loop-pid.pid turns (runnings_of c.loop-pid.procs.items) le c.loop-pid.invariant.rest)) (opened_placed c.args.script.now)

pub returns-clause-lawful : goal.returns-clause-lawful
returns-clause-lawful c =
    let procs : List Declared = c.args.script.now.procs in
    let le : length procs ≤ c.loop-pid.pid = omega arith in
    let all : runnings_of c.loop-pid.procs.items ≡ opened_crew c.args.script.now =
    all_opened procs c.loop-pid.pid c.args.script.now.turns (runnings_of c.loop-pid.procs.items) le c.loop-pid.invariant.rest in
    opened_keeping_lawful c.args.script.now (runnings_of c.loop-pid.procs.items) all c.loop-pid.invariant.keeping
