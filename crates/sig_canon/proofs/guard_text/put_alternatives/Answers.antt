use Rattle.std.proofs.Common.{◌++◌, ◌∙◌, ap, List}
use Rattle.sig_patterns.specs.declared.guard.Test.{Test}
use Rattle.sig_canon.specs.Printing.{tests_behind}
use Rattle.sig_canon.proofs.GuardPrints.{alternatives_put}
use Rattle.sig_canon.proofs.guard_text.put_alternatives.Goals as goal

pub returns-in_ok-put_tests-in-len1-up : goal.returns-in_ok-put_tests-in-len1-up
returns-in_ok-put_tests-in-len1-up c =
    alternatives_put c.put_more_alternatives.result c.args.word.now c.args.alternatives.now c.first-item.result c.args.into.now.items c.put_tests.new.into.items c.put_more_alternatives.new.into.items
    c.in-len1-up.len_at_least c.first-item.is
    (c.in_ok-put_tests-in-len1-up.ensures.0 ∙ ap (λ (ts : List Test). c.args.into.now.items ++ tests_behind c.args.word.now ts) c.as_slice.ensures) c.put_more_alternatives.ensures
