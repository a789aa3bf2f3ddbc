use Rattle.sig_runs.proofs.Choices.{is_execution, is_handling}
use Rattle.sig_runs.proofs.nothing_else_is_possible.Goals as goal

pub returns-clause-executed : goal.returns-clause-executed
returns-clause-executed g c = λ rules m p next is. is_execution rules m p next is

pub returns-clause-handled : goal.returns-clause-handled
returns-clause-handled g c = λ rules m p f next is. is_handling rules m p next f is
