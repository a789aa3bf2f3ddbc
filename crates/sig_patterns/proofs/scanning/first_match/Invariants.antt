use Rattle.std.proofs.Common.{◌≡◌, ◌+◌, ◌-◌, ◌≤◌, length, drop}
use Rattle.std.specs.Option.{option_map}
use Rattle.sig_patterns.specs.Scanning.{first_clause}
use Rattle.sig_patterns.proofs.scanning.first_match.Given as goal

abbrev pub invariant-loop-at : goal.invariant-loop-at
invariant-loop-at g l = record {
  within : l.at ≤ length l.clauses;
  rest : first_clause l.clauses l.env l.message ≡ option_map (λ n. n + l.at) (first_clause (drop l.at l.clauses) l.env l.message);
  ticks : l.steps ≡ l.fn.steps + l.at;
}

abbrev pub decreases-loop-at : goal.decreases-loop-at
decreases-loop-at g l = length l.clauses - l.at
