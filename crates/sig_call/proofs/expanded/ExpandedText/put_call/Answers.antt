use Rattle.std.proofs.Common.{◌≡◌, ℕ, List, ◌∙◌, subst}
use Rattle.std.specs.Prelude.{OnOk, decimal}
use Rattle.sig_call.specs.Expanding.{with_lines}
use Rattle.sig_call.specs.Expansion.{lines_with}
use Rattle.sig_call.proofs.expanded.ExpandedText.put_call.Goals as goal

pub returns : goal.returns
returns c =
    let digits : c.as_bytes.result.now ≡ decimal c.args.k = c.as_bytes.ensures.value ∙ c.format.ensures.text in
    let P : List ℕ → Type 0 = λ ds. OnOk c.put_lines.result (c.put_lines.new.self ≡ with_lines c.args.self.now c.args.n (lines_with ds c.args.call.now)) in
    subst P digits c.put_lines.ensures
