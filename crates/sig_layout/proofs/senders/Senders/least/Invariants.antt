use Rattle.sig_layout.proofs.Members.{NoneBelow}
use Rattle.sig_layout.proofs.senders.Senders.least.Given as goal

abbrev pub invariant-loop-at : goal.invariant-loop-at
invariant-loop-at l = NoneBelow l.at l.fn.self
