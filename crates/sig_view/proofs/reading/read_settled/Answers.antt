use Rattle.sig_edge.specs.Streams.{reading}
use Rattle.sig_view.proofs.InputLemmas.{said_input}
use Rattle.sig_view.proofs.reading.read_settled.Goals as goal

pub returns-in-Err-clause-settled : goal.returns-in-Err-clause-settled
returns-in-Err-clause-settled g c =
    said_input (reading (g.S.Source.left c.args.input.now) (g.S.Source.left c.read_checked.new.input) (g.S.Source.faults c.args.input.now) (g.S.Source.faults c.read_checked.new.input))
    _ _ c.of_tool.ensures c.in-Err.ensures.checked
