use Rattle.std.proofs.Common.{List, ap, ◌∙◌}
use Rattle.sig_record.specs.declared.report.Report.{Report}
use Rattle.sig_view.specs.OutcomeText.{endings_text}
use Rattle.sig_view.proofs.OutcomeLemmas.{listed_text}
use Rattle.sig_view.proofs.searching.list_text.Goals as goal

pub returns : goal.returns
returns g c = λ names.
    listed_text c.args.script.now c.args.states c.in_ok-found.found.endings.items c.in_ok-found.found.states c.in_ok-found.found.all c.in_ok-found.ensures.found c.in_ok-found.ensures.seen
    c.in_ok-found.ensures.ascending c.in_ok-found.ensures.stored names c.in_ok-bytes.bytes.items c.end_of-end.result
    (c.in_ok-bytes.ensures ∙ ap (λ (es : List (List Report)). endings_text es c.in_ok-found.found.all) c.as_slice.ensures.value) c.end_of-end.ensures
