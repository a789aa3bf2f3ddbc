use Rattle.sig_workers.proofs.one_worker.run_one.Given as goal

abbrev pub ghosts-run_passes : goal.ghosts-run_passes
ghosts-run_passes a = record { name = a.blank.name; parts = a.blank.parts }
