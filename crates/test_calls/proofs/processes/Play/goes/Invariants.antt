use Rattle.test_calls.proofs.processes.Play.goes.Given as goal

abbrev pub ghosts-stand : goal.ghosts-stand
ghosts-stand a = record { name = a.blank.name; parts = a.blank.parts }
