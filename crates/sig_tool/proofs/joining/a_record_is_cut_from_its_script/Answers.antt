use Rattle.sig_tool.proofs.ScriptLines.{record_cut, script_cut, whole_due}
use Rattle.sig_tool.proofs.joining.a_record_is_cut_from_its_script.Goals as goal

pub returns-clause-cut : goal.returns-clause-cut
returns-clause-cut c = λ text front script reports ends spelled. (script_cut text front ends script spelled reports, record_cut text front ends script spelled reports)

pub returns-clause-due : goal.returns-clause-due
returns-clause-due c = whole_due
