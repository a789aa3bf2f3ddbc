use Rattle.std.proofs.Common.{◌≡◌, ℕ, true, All, length, List, sym, subst, ap, ◌∙◌, rules}
use Rattle.std.specs.Prelude.{IsTrue}
use Rattle.sig_patterns.specs.declared.clause.Clause.{Clause}
use Rattle.sig_patterns.specs.Pinning.{pins}
use Rattle.test_calls.proofs.flushing.receive_marked.Goals as goal

pub receive-requires-clause-asked : goal.receive-requires-clause-asked
receive-requires-clause-asked g c = λ stands k d lt.
    let P : Clause → Type 0 = λ x. pins x.pattern c.args.var.now ≡ true in
    let yes : IsTrue c.each_pins.result = search rules in
    let all : All P c.args.clauses.now = subst (λ (xs : List Clause). All P xs) c.as_slice-else-as_slice-ge1000.ensures (c.each_pins.ensures yes) in
    (c.args.var.now, all k d lt, c.in_ok-reference.ensures)
