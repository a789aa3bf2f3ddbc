use Rattle.std.proofs.Common.{◌∙◌}
use Rattle.sig_process.specs.Standing.{runnings_of}
use Rattle.sig_tool.proofs.LinkLemmas.{comes_to_rest, text_so}
use Rattle.sig_tool.proofs.linking.text_of_links.Goals as goal

pub report-requires : goal.report-requires
report-requires c =
    let w = c.in_ok-made.ensures.made in
    record { rest = (c.args.given.now.script, comes_to_rest c.args.given.now.script c.args.given.now.told (runnings_of c.in_ok-made.made.0) w.order w.merged w.retraced w.clear c.requires) }

pub returns : goal.returns
returns c =
    text_so c.args.given.now.script c.args.given.now.told (runnings_of c.in_ok-made.made.0) c.in_ok-made.made.1 c.in_ok-made.ensures.made c.requires c.as_slice.result.now c.lines_of.result
    c.in_ok-made.ensures.again
    (c.as_slice.ensures ∙ c.in_ok-pairs.ensures.pairs)
    c.lines_of.ensures
