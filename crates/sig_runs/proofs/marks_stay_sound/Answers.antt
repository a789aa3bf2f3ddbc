use Rattle.sig_runs.proofs.Marks.{run_sound, marked_run, whole_run}
use Rattle.sig_runs.proofs.marks_stay_sound.Goals as goal

pub returns-clause-sound : goal.returns-clause-sound
returns-clause-sound g c = λ rules whole opening end events fresh keeps sound run. run_sound rules g.M.Marked.marking fresh whole keeps events opening end sound (marked_run rules g.M.Marked.marking fresh whole keeps events opening end sound run)

pub returns-clause-from_the_mark : goal.returns-clause-from_the_mark
returns-clause-from_the_mark g c = λ rules whole opening end events fresh keeps sound run. marked_run rules g.M.Marked.marking fresh whole keeps events opening end sound run

pub returns-clause-from_the_head : goal.returns-clause-from_the_head
returns-clause-from_the_head g c = λ rules whole opening end events fresh keeps sound run. whole_run rules g.M.Marked.marking fresh whole keeps events opening end sound run
