use Rattle.sig_canon.proofs.GuardPrints.{tests_put}
use Rattle.sig_canon.proofs.guard_text.put_tests.Goals as goal

pub returns-in_ok-put_joined-in-len1-up : goal.returns-in_ok-put_joined-in-len1-up
returns-in_ok-put_joined-in-len1-up c =
    tests_put c.put_more_tests.result c.args.word.now c.args.tests.now c.first-item.result c.args.into.now.items c.put_joined.new.into.items c.put_more_tests.new.into.items
    c.in-len1-up.len_at_least c.first-item.is c.in_ok-put_joined-in-len1-up.ensures.0 c.put_more_tests.ensures
