use Rattle.std.proofs.Common.{◌+◌, ◌*◌}
use Rattle.sig_host.proofs.printing.+apart.Given as goal

abbrev pub decreases-add_apart : goal.decreases-add_apart
decreases-add_apart g l = 2 * l.threads

abbrev pub decreases-behind : goal.decreases-behind
decreases-behind g l = 2 * l.half + 1

abbrev pub decreases-before : goal.decreases-before
decreases-before g l = 2 * l.others + 1
