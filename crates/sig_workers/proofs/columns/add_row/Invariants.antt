use Rattle.sig_workers.proofs.ColumnLemmas.{Added}
use Rattle.sig_workers.proofs.columns.add_row.Given as goal

abbrev pub invariant-loop-to : goal.invariant-loop-to
invariant-loop-to l = Added l.at l.process.running.state.counts.next_numbers l.fn.columns.items l.to l.columns.items
