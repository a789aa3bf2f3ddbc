use Rattle.std.proofs.Common.{ℕ, List, ◌++◌}
use Rattle.std.specs.Prelude.{codes, decimal}
use Rattle.sig_kinds.specs.declared.signal.Signal.{Signal}
use Rattle.sig_record.proofs.Fronts.{two_put, put_with_gap}
use Rattle.sig_record.proofs.printing.put_signal_numbers.Goals as goal

pub returns-clause-text : goal.returns-clause-text
returns-clause-text c =
    let old : List ℕ = c.args.into.now.items in
    let now : List ℕ = c.put_spaced_number.new.into.items in
    let s : Signal = c.args.signal.now in
    let from : List ℕ = codes "queued " ++ decimal s.from.0 in
    put_with_gap c.put_spaced_number-2.result old now c.put_spaced_number-2.new.into.items (from ++ codes " " ++ decimal s.number) (codes " ") (decimal s.stamp)
    (two_put old c.put_pid.new.into.items now from (codes " ") (decimal s.number) c.in_ok-put_pid.ensures.text.0 c.in_ok-put_spaced_number.ensures.text.0)
    c.put_spaced_number-2.ensures.text
