use Rattle.std.proofs.Common.{◌≡◌, List, [], ◌∷◌, ap, sym, subst, ◌++◌, ◌∙◌, append_assoc, arith}
use Rattle.std.proofs.lemmas.Grind.{common_steps}
use Rattle.std.specs.Vec.Iter.{into_iter_items}
use Rattle.std.specs.Prelude.{All}
use Rattle.std.proofs.lemmas.List.{map-append, append-nil}
use Rattle.std.proofs.lemmas.List.Elements.{All-push}
use Rattle.sig_model.specs.Running.{Running}
use Rattle.sig_model.specs.Keeping.{IsKeeping}
use Rattle.sig_process.specs.Standing.{Standing, runnings_of}
use Rattle.sig_record.proofs.Lists.{all_first, all_later}
use Rattle.sig_record.proofs.Reports.{one_more}
use Rattle.sig_record.proofs.gathering.gather_all.Goals as goal

pub loop-process-preserved : goal.loop-process-preserved
loop-process-preserved c = record {
  reports = one_more c.loop-process.yielded c.in-Some.process c.loop-process.reports c.add.new.self c.in_ok-report.field-0 c.loop-process.invariant.reports
      c.in_ok-report.ensures.report c.in_ok-add.ensures;
  keeping = subst (All IsKeeping) (sym (map-append (λ (p : Standing). p.running) c.loop-process.yielded (c.in-Some.process ∷ [])))
      (All-push IsKeeping (runnings_of c.loop-process.yielded) c.in-Some.process.running c.loop-process.invariant.keeping c.in_ok-report.ensures.keeps);
  whole = append_assoc c.loop-process.yielded (c.in-Some.process ∷ []) _ ∙ ap (λ (procs : List Standing). c.loop-process.yielded ++ procs) (sym (c.in-Some.ensures.steps).0)
      ∙ c.loop-process.invariant.whole;
  clear = all_later (λ (r : Running). r.outbox ≡ []) _ c.in-Some.process.running _ (ap runnings_of (c.in-Some.ensures.steps).0) c.loop-process.invariant.clear;
}

pub report-requires : goal.report-requires
report-requires c = all_first (λ (r : Running). r.outbox ≡ []) _ c.in-Some.process.running _ (ap runnings_of (c.in-Some.ensures.steps).0) c.loop-process.invariant.clear

pub returns-clause-keeping : goal.returns-clause-keeping
returns-clause-keeping c =
    let empty : into_iter_items c.loop-process.process-iterator ≡ [] = grind (arith, common_steps) in
    let whole : c.loop-process.yielded ≡ c.args.procs.items =
    sym (append-nil c.loop-process.yielded) ∙ ap (λ (procs : List Standing). c.loop-process.yielded ++ procs) (sym empty) ∙ c.loop-process.invariant.whole in
    subst (λ (procs : List Standing). All IsKeeping (runnings_of procs)) whole c.loop-process.invariant.keeping
