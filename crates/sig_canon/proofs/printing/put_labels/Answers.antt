use Rattle.std.proofs.Common.{arith, ◌≡◌, ◌==◌, ◌∷◌, ◌+◌, ◌≤◌, ◌∙◌, sym, All, true, false}
use Rattle.std.proofs.lemmas.Bool.Decides.{nat_tests}
use Rattle.sig_program.specs.declared.label.Label.{Label}
use Rattle.sig_canon.specs.ScriptText.{label_line, line_text}
use Rattle.sig_canon.proofs.PrintLemmas.{refused, front_on, kept_more}
use Rattle.sig_canon.proofs.LabelTextLemmas.{stop_behind, stop_from, stop_text, step_text, step_from, step_rising, step_behind}
use Rattle.sig_canon.proofs.printing.put_labels.Goals as goal

pub returns-then-label-place-clause-put : goal.returns-then-label-place-clause-put
returns-then-label-place-clause-put c =
    let ne : (c.in-Some.label.now.place == c.args.place) ≡ false = grind (arith, nat_tests, c.if-label-place.true) in
    let behind : All (λ (m : Label). c.args.place + 1 ≤ m.place) c.loop-label.rest.now =
    stop_behind c.args.place c.loop-label.rest.now c.in-Some.others.now c.in-Some.label.now c.in-Some.ensures.cases.0 ne c.loop-label.invariant.2 c.loop-label.invariant.3 in
    (stop_text c.args.place c.loop-label.rest.now c.loop-label.into.items _ behind c.loop-label.invariant.0, tt)

pub returns-then-label-place-clause-rest : goal.returns-then-label-place-clause-rest
returns-then-label-place-clause-rest c =
    let ne : (c.in-Some.label.now.place == c.args.place) ≡ false = grind (arith, nat_tests, c.if-label-place.true) in
    let behind : All (λ (m : Label). c.args.place + 1 ≤ m.place) c.loop-label.rest.now =
    stop_behind c.args.place c.loop-label.rest.now c.in-Some.others.now c.in-Some.label.now c.in-Some.ensures.cases.0 ne c.loop-label.invariant.2 c.loop-label.invariant.3 in
    let is = stop_from c.args.place c.loop-label.rest.now behind in
    is ∙ c.loop-label.invariant.1

pub returns-in_err-put_named-clause-put : goal.returns-in_err-put_named-clause-put
returns-in_err-put_named-clause-put c =
    refused c.args.into.now.items c.put_named.new.into.items _ c.from_residual.result c.from_residual.ensures.0
    (front_on c.args.into.now.items c.loop-label.into.items c.put_named.new.into.items c.loop-label.invariant.4 c.in_err-put_named.ensures.1)

pub loop-label-preserved : goal.loop-label-preserved
loop-label-preserved c =
    let eq : (c.in-Some.label.now.place == c.args.place) ≡ true = grind (arith, nat_tests, c.if-label-place.false) in
    let is : c.loop-label.rest.now ≡ c.in-Some.label.now ∷ c.in-Some.others.now = c.in-Some.ensures.cases.0 in (
      step_text c.args.place c.loop-label.rest.now c.in-Some.others.now c.in-Some.label.now c.loop-label.into.items c.put_named.new.into.items _ is eq c.in_ok-put_named.ensures.0 c.loop-label.invariant.0,
      sym (step_from c.args.place c.loop-label.rest.now c.in-Some.others.now c.in-Some.label.now is eq) ∙ c.loop-label.invariant.1,
      step_rising c.loop-label.rest.now c.in-Some.others.now c.in-Some.label.now is c.loop-label.invariant.2,
      step_behind c.args.place c.loop-label.rest.now c.in-Some.others.now c.in-Some.label.now is c.loop-label.invariant.3,
      kept_more c.args.into.now.items c.loop-label.into.items (line_text (label_line c.in-Some.label.now)) c.put_named.new.into.items c.loop-label.invariant.4 c.in_ok-put_named.ensures.0,
    )
