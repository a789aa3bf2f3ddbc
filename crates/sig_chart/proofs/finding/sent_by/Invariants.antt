use Rattle.std.proofs.Common.{◌≡◌, drop}
use Rattle.sig_chart.specs.Finding.{sent_by}
use Rattle.sig_chart.proofs.finding.sent_by.Given as goal

-- none of the origins so far is that of the signal
abbrev pub invariant-loop-origin : goal.invariant-loop-origin
invariant-loop-origin l = sent_by (drop l.origin-index l.origins) l.from l.to l.number ≡ sent_by l.origins l.from l.to l.number
