use Rattle.std.proofs.Common.{◌≡◌, ◌≤◌, ◌⊎◌, ◌++◌, ◌-◌}
use Rattle.sig_choices.specs.Origins.{own_origins}
use Rattle.sig_players.proofs.telling.tell_own.Given as goal

abbrev pub invariant-loop-number : goal.invariant-loop-number
invariant-loop-number l = record {
  least : l.first ≤ l.number;
  most : (l.number ≡ l.first) ⊎ (l.number ≤ l.end);
  told : l.origins ≡ l.fn.origins ++ own_origins l.pid.0 l.event l.first (l.number - l.first);
}
