use Rattle.std.proofs.Common.{ℕ, List, subst}
use Rattle.sig_layout.specs.Sets.{no_senders}
use Rattle.test_calls.proofs.PidSets.{More, more_it, one_only}
use Rattle.test_calls.proofs.pids.only.Goals as goal

pub returns : goal.returns
returns c = let m : More c.with.result no_senders c.args.pid.0 = subst (λ (l : List ℕ). More c.with.result l c.args.pid.0) c.none.ensures c.with.ensures in record { it = more_it c.with.result no_senders c.args.pid.0 m; alone = λ s h. one_only c.with.result c.args.pid.0 s m h }
