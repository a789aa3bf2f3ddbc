use Rattle.std.proofs.Common.{◌≡◌, ◌+◌, ◌++◌, ◌∷◌, [], List, length, ap, refl, sym, subst, ◌∙◌, arith}
use Rattle.std.proofs.lemmas.Grind.{common_steps}
use Rattle.std.proofs.lemmas.List.{append-nil, length-append}
use Rattle.std.proofs.lemmas.List.Elements.{All-nil, All-head, All-tail, All-push}
use Rattle.std.specs.Prelude.{All}
use Rattle.std.specs.Vec.Iter.{into_iter_items}
use Rattle.sig_program.specs.Scripts.{Declared, Program, IsProcBelow}
use Rattle.sig_model.specs.Keeping.{IsKeeping, IsPlaced}
use Rattle.sig_model.specs.OneWorker.{IsClear, opened_from}
use Rattle.sig_model.specs.Running.{Running}
use Rattle.sig_model.proofs.OpeningLemmas.{clear_from}
use Rattle.sig_model.proofs.PlacedLemmas.{opened_placed}
use Rattle.sig_model.proofs.LawfulRunLemmas.{opened_keeping_lawful}
use Rattle.sig_process.specs.Standing.{Standing, runnings_of}
use Rattle.sig_process.proofs.Lists.{started_more, keeping_more}
use Rattle.sig_process.proofs.crew.Crew.start.Goals as goal

pub loop-proc-init : goal.loop-proc-init
loop-proc-init c =
    let all : List Declared = c.args.script.procs in
    let whole : into_iter_items c.into_iter-proc-iterator.result ≡ all =
    (c.into_iter-proc-iterator.ensures.into_iter_gives).0 ∙ c.into_vec-proc-items.ensures ∙ ap (λ (s : Program). s.procs) c.script.view_is in
    rw (whole, c.new-procs.ensures.items) (record { rest = refl; count = (let e : 0 + length all ≡ length all = omega arith in e); below = c.count-count.ensures.sound.pids; keeping = All-nil IsKeeping; saved = All-nil (λ (p : Standing). p.saved ≡ 0) })

pub start-requires-clause-below : goal.start-requires-clause-below
start-requires-clause-below c =
    let all : List Declared = c.args.script.procs in
    subst (λ n. IsProcBelow n c.in-Some.proc) (sym c.count-count.ensures.count)
    (All-head (IsProcBelow (length all)) c.in-Some.proc (into_iter_items c.next.new.self) (subst (All (IsProcBelow (length all))) (c.in-Some.ensures.steps).0 c.loop-proc.invariant.below))

pub loop-proc-preserved : goal.loop-proc-preserved
loop-proc-preserved c =
    let all : List Declared = c.args.script.procs in
    let before : List Standing = c.loop-proc.procs.items in
    let left : List Declared = into_iter_items c.next.new.self in
    let step = (c.in-Some.ensures.steps).0 in
    let grown : c.push.new.self.items ≡ before ++ c.in_ok-process.process ∷ [] = c.in_ok-push.ensures.items in
    let len : length c.push.new.self.items ≡ length before + 1 = ap length grown ∙ length-append before (c.in_ok-process.process ∷ []) in
    let pid : c.len.result ≡ length before = grind (arith, common_steps) in
    record {
      rest = started_more (length all) c.args.script.turns c.len.result c.count-count.result c.turns-turns.result c.in-Some.proc left _ c.in_ok-process.process before c.push.new.self.items _
          c.in_ok-process.ensures.opened pid c.count-count.ensures.count c.turns-turns.ensures.turns grown step c.loop-proc.invariant.rest;
      count = omega (arith, len, ap length step, c.loop-proc.invariant.count);
      below = All-tail (IsProcBelow (length all)) c.in-Some.proc left (subst (All (IsProcBelow (length all))) step c.loop-proc.invariant.below);
      keeping = rw grown (keeping_more before c.in_ok-process.process c.loop-proc.invariant.keeping c.in_ok-process.ensures.keeps);
      saved = rw grown (All-push (λ (p : Standing). p.saved ≡ 0) before c.in_ok-process.process c.loop-proc.invariant.saved c.in_ok-process.ensures.saved);
    }

pub returns-clause-opened : goal.returns-clause-opened
returns-clause-opened c =
    let all : List Declared = c.args.script.procs in
    let so_far : List Running = runnings_of c.loop-proc.procs.items in
    let empty : into_iter_items c.loop-proc.proc-iterator ≡ [] = grind (arith, common_steps) in
    sym (append-nil so_far)
    ∙ ap (λ (ds : List Declared). so_far ++ opened_from (length c.loop-proc.procs.items) (length all) c.args.script.turns ds) (sym empty)
    ∙ c.loop-proc.invariant.rest

pub returns-clause-clear : goal.returns-clause-clear
returns-clause-clear c =
    let all : List Declared = c.args.script.procs in
    subst IsClear (sym (returns-clause-opened c)) (clear_from 0 (length all) c.args.script.turns all)

pub returns-clause-placed : goal.returns-clause-placed
returns-clause-placed c = subst IsPlaced (sym (returns-clause-opened c)) (opened_placed c.args.script)

pub returns-clause-lawful : goal.returns-clause-lawful
returns-clause-lawful c =
    opened_keeping_lawful c.args.script (runnings_of c.loop-proc.procs.items) (returns-clause-opened c) c.loop-proc.invariant.keeping
