use Rattle.sig_runs.proofs.Marks.{order_is_whole_run, order_is_sound}
use Rattle.sig_runs.proofs.merge_from_marks_is_a_run.Goals as goal

pub returns-clause-run : goal.returns-clause-run
returns-clause-run g c = λ rules whole opening crew order fresh keeps sound stamped lawful o. order_is_whole_run rules g.M.Marked.marking fresh whole keeps stamped opening crew order sound lawful o

pub returns-clause-sound : goal.returns-clause-sound
returns-clause-sound g c = λ rules whole opening crew order fresh keeps sound stamped lawful o. order_is_sound rules g.M.Marked.marking fresh whole keeps stamped opening crew order sound lawful o
