use Rattle.sig_tool.proofs.CallLemmas.{read_back}
use Rattle.sig_tool.proofs.piping.an_expanded_script_is_read_back.Goals as goal

pub returns : goal.returns
returns c = read_back
