use Rattle.sig_view.proofs.WholeLists.{one_whole_list, one_whole_text, record_of_whole}
use Rattle.sig_view.proofs.laws.a_whole_list_is_told_by_the_script.Goals as goal

pub returns-clause-list : goal.returns-clause-list
returns-clause-list c = one_whole_list

pub returns-clause-text : goal.returns-clause-text
returns-clause-text c = one_whole_text

pub returns-clause-told : goal.returns-clause-told
returns-clause-told c = record_of_whole
