use Rattle.test_calls.proofs.flushing.row_holds.Given as goal

abbrev pub ghosts-row_holds_with : goal.ghosts-row_holds_with
ghosts-row_holds_with a = record { name = a.blank.name; parts = a.blank.parts }
