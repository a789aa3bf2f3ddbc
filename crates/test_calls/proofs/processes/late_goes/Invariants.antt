use Rattle.test_calls.proofs.processes.late_goes.Given as goal

abbrev pub ghosts-late_is_dropped : goal.ghosts-late_is_dropped
ghosts-late_is_dropped a = record { name = a.blank.name; parts = a.blank.parts }
