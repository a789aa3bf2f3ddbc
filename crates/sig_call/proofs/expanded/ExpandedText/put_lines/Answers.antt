use Rattle.std.proofs.Common.{◌≡◌, sym, subst}
use Rattle.std.specs.Prelude.{OnOk}
use Rattle.sig_call.specs.CallLine.{CallLine}
use Rattle.sig_call.specs.Expanding.{with_line, with_lines}
use Rattle.sig_call.specs.Expansion.{down_line, lines_with}
use Rattle.sig_call.proofs.ExpansionLemmas.{eight}
use Rattle.sig_call.proofs.expanded.ExpandedText.put_lines.Goals as goal

pub returns : goal.returns
returns c =
    let P : CallLine → Type 0 = λ x. OnOk c.put_line-7.result (c.put_line-7.new.self ≡ with_lines c.args.self.now c.args.n (lines_with c.args.k.now x)) in
    let Q : CallLine → Type 0 = λ x. c.put_down.new.self ≡ with_line c.put_line-6.new.self c.args.n (down_line c.args.k.now x) in
    subst P c.call.view_is (eight c.args.n _ _ _ _ _ _ _ _ c.args.self.now _ _ _ _ _ _ _ _ c.put_line-7.result
    c.in_ok-put_line.ensures c.in_ok-put_line-2.ensures c.in_ok-put_line-3.ensures c.in_ok-put_line-4.ensures c.in_ok-put_line-5.ensures c.in_ok-put_line-6.ensures
    (subst Q (sym c.call.view_is) c.in_ok-put_down.ensures) c.put_line-7.ensures)
