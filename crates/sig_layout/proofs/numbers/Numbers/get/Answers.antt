use Rattle.std.proofs.Common.{◌≡◌, ◌∙◌, ◌<◌, ◌≤◌, ℕ, List, length, sym, ap, arith, Some}
use Rattle.std.specs.Prelude.{slice_get}
use Rattle.std.proofs.lemmas.Option.{slice_get_within}
use Rattle.sig_layout.proofs.Numbering.{in_run, at_number, past_run, in_last, past_last}
use Rattle.sig_layout.proofs.numbers.Numbers.get.Goals as goal

pub returns-then-left-run-clause-value : goal.returns-then-left-run-clause-value
returns-then-left-run-clause-value c =
    let lt : c.loop-at.at < length c.self.inside.runs.items = omega (arith, c.loop-at-test.true, c.len-at-end.ensures, c.self.inside.runs.ok.0, c.loop-at.auto.at-end) in
    ap (λ (z : ℕ). Some z) c.self.invariant.1
    ∙ sym (in_run c.self.inside.runs.items c.self.inside.ones c.loop-at.at c.loop-at.left c.index-run.result.now lt c.index-run.ensures c.if-left-run.true)
    ∙ sym c.loop-at.invariant ∙ ap (λ (z : List ℕ). slice_get z c.args.index) c.self.view_is

pub returns-then-left-run-clause-within : goal.returns-then-left-run-clause-within
returns-then-left-run-clause-within c =
    let lt : c.loop-at.at < length c.self.inside.runs.items = omega (arith, c.loop-at-test.true, c.len-at-end.ensures, c.self.inside.runs.ok.0, c.loop-at.auto.at-end) in
    slice_get_within c.args.self.now c.args.index 1 (sym (ap (λ (z : List ℕ). slice_get z c.args.index) c.self.view_is) ∙ c.loop-at.invariant
    ∙ in_run c.self.inside.runs.items c.self.inside.ones c.loop-at.at c.loop-at.left c.index-run.result.now lt c.index-run.ensures c.if-left-run.true)

pub returns-then-left-eq0-clause-value : goal.returns-then-left-eq0-clause-value
returns-then-left-eq0-clause-value c =
    let lt : c.loop-at.at < length c.self.inside.runs.items = omega (arith, c.loop-at-test.true, c.len-at-end.ensures, c.self.inside.runs.ok.0, c.loop-at.auto.at-end) in
    let e : c.loop-at.left ≡ c.index-run.result.now.ones = omega (arith, c.if-left-run.false, c.if-left-eq0.true) in
    sym (at_number c.self.inside.runs.items c.self.inside.ones c.loop-at.at c.loop-at.left c.index-run.result.now lt c.index-run.ensures e)
    ∙ sym c.loop-at.invariant ∙ ap (λ (z : List ℕ). slice_get z c.args.index) c.self.view_is

pub returns-then-left-eq0-clause-within : goal.returns-then-left-eq0-clause-within
returns-then-left-eq0-clause-within c =
    let lt : c.loop-at.at < length c.self.inside.runs.items = omega (arith, c.loop-at-test.true, c.len-at-end.ensures, c.self.inside.runs.ok.0, c.loop-at.auto.at-end) in
    let e : c.loop-at.left ≡ c.index-run.result.now.ones = omega (arith, c.if-left-run.false, c.if-left-eq0.true) in
    slice_get_within c.args.self.now c.args.index c.index-run.result.now.number (sym (ap (λ (z : List ℕ). slice_get z c.args.index) c.self.view_is) ∙ c.loop-at.invariant
    ∙ at_number c.self.inside.runs.items c.self.inside.ones c.loop-at.at c.loop-at.left c.index-run.result.now lt c.index-run.ensures e)

pub loop-at-preserved : goal.loop-at-preserved
loop-at-preserved c =
    let lt : c.loop-at.at < length c.self.inside.runs.items = omega (arith, c.loop-at-test.true, c.len-at-end.ensures, c.self.inside.runs.ok.0, c.loop-at.auto.at-end) in
    let more : c.index-run.result.now.ones < c.loop-at.left = omega (arith, c.if-left-run.false, c.if-left-eq0.false) in
    c.loop-at.invariant ∙ past_run c.self.inside.runs.items c.self.inside.ones c.loop-at.at c.loop-at.left c.index-run.result.now lt c.index-run.ensures more

pub returns-then-left-self-clause-value : goal.returns-then-left-self-clause-value
returns-then-left-self-clause-value c =
    let end : length c.self.inside.runs.items ≤ c.loop-at.at = omega (arith, c.loop-at-test.false, c.len-at-end.ensures, c.self.inside.runs.ok.0) in
    ap (λ (z : ℕ). Some z) c.self.invariant.1
    ∙ sym (in_last c.self.inside.runs.items c.self.inside.ones c.loop-at.at c.loop-at.left end c.if-left-self.true)
    ∙ sym c.loop-at.invariant ∙ ap (λ (z : List ℕ). slice_get z c.args.index) c.self.view_is

pub returns-then-left-self-clause-within : goal.returns-then-left-self-clause-within
returns-then-left-self-clause-within c =
    let end : length c.self.inside.runs.items ≤ c.loop-at.at = omega (arith, c.loop-at-test.false, c.len-at-end.ensures, c.self.inside.runs.ok.0) in
    slice_get_within c.args.self.now c.args.index 1 (sym (ap (λ (z : List ℕ). slice_get z c.args.index) c.self.view_is) ∙ c.loop-at.invariant
    ∙ in_last c.self.inside.runs.items c.self.inside.ones c.loop-at.at c.loop-at.left end c.if-left-self.true)

pub returns-else-left-self-clause-value : goal.returns-else-left-self-clause-value
returns-else-left-self-clause-value c =
    let end : length c.self.inside.runs.items ≤ c.loop-at.at = omega (arith, c.loop-at-test.false, c.len-at-end.ensures, c.self.inside.runs.ok.0) in
    sym (past_last c.self.inside.runs.items c.self.inside.ones c.loop-at.at c.loop-at.left end c.if-left-self.false)
    ∙ sym c.loop-at.invariant ∙ ap (λ (z : List ℕ). slice_get z c.args.index) c.self.view_is
