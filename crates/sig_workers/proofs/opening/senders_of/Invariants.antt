use Rattle.std.proofs.Common.{◌≡◌, ℕ}
use Rattle.sig_layout.specs.Sets.{has}
use Rattle.sig_workers.specs.Parts.{is_in}
use Rattle.sig_workers.proofs.opening.senders_of.Given as goal

abbrev pub invariant-loop-at : goal.invariant-loop-at
invariant-loop-at l = (s : ℕ) → has l.senders s ≡ is_in l.first l.at s
