use Rattle.sig_canon.proofs.ScriptNames.{read_names, generated_names}
use Rattle.sig_canon.proofs.laws.names_of_scripts_are_name_tokens.Goals as goal

pub returns-clause-read : goal.returns-clause-read
returns-clause-read c = read_names

pub returns-clause-generated : goal.returns-clause-generated
returns-clause-generated c = generated_names
