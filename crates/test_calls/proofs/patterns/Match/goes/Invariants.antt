use Rattle.test_calls.proofs.patterns.Match.goes.Given as goal

abbrev pub ghosts-bound : goal.ghosts-bound
ghosts-bound a = record { name = a.blank.name; parts = a.blank.parts }
