use Rattle.std.proofs.Common.{ap, sym}
use Rattle.sig_svg.specs.Markups.{markup_text, svg_head, legend}
use Rattle.sig_svg.proofs.markup.Markup.text.Goals as goal

pub returns-in-SvgHead : goal.returns-in-SvgHead
unfolding markup_text svg_head
returns-in-SvgHead c = sym (ap markup_text c.in-SvgHead.is)

pub returns-in-Legend : goal.returns-in-Legend
unfolding markup_text legend
returns-in-Legend c = sym (ap markup_text c.in-Legend.is)

pub returns-in-ExecutedX : goal.returns-in-ExecutedX
unfolding markup_text
returns-in-ExecutedX c = sym (ap markup_text c.in-ExecutedX.is)

pub returns-in-HandledX : goal.returns-in-HandledX
unfolding markup_text
returns-in-HandledX c = sym (ap markup_text c.in-HandledX.is)
