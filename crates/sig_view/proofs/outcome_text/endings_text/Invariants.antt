use Rattle.std.proofs.Common.{◌≡◌, ◌+◌, ◌++◌, drop}
use Rattle.sig_view.specs.OutcomeText.{endings_from, endings_text}
use Rattle.sig_view.proofs.outcome_text.endings_text.Given as goal

-- the outcomes so far, and those that are left, are all
abbrev pub invariant-loop-at : goal.invariant-loop-at
invariant-loop-at l = l.text.items ++ endings_from (l.at + 1) (drop l.at l.fn.endings) ≡ endings_text l.fn.endings l.fn.all
