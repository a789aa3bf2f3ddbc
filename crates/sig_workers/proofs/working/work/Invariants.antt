use Rattle.sig_workers.proofs.working.work.Given as goal

abbrev pub ghosts-work_with : goal.ghosts-work_with
ghosts-work_with g a = record { name = a.blank.name; parts = a.blank.parts }
