use Rattle.sig_call.proofs.TextLines.{lines_stand}
use Rattle.sig_call.proofs.line_law.the_lines_of_an_expanded_text.Goals as goal

pub returns : goal.returns
returns c = lines_stand
