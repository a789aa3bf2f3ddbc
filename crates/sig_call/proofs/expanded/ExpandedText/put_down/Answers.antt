use Rattle.std.proofs.Common.{◌≡◌, subst}
use Rattle.std.specs.Prelude.{OnOk}
use Rattle.sig_call.specs.CallLine.{CallLine}
use Rattle.sig_call.specs.Expanding.{with_line}
use Rattle.sig_call.specs.Expansion.{down_line}
use Rattle.sig_call.proofs.expanded.ExpandedText.put_down.Goals as goal

pub returns-in-None : goal.returns-in-None
returns-in-None c =
    let P : CallLine → Type 0 = λ x. OnOk c.put_line.result (c.put_line.new.self ≡ with_line c.args.self.now c.args.n (down_line c.args.k.now x)) in
    subst P c.call.view_is (rw c.in-None.is c.put_line.ensures)

pub returns-in-Some : goal.returns-in-Some
returns-in-Some c =
    let P : CallLine → Type 0 = λ x. OnOk c.put_line-in-Some.result (c.put_line-in-Some.new.self ≡ with_line c.args.self.now c.args.n (down_line c.args.k.now x)) in
    subst P c.call.view_is (rw c.in-Some.is c.put_line-in-Some.ensures)
