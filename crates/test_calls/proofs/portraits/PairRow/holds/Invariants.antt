use Rattle.test_calls.proofs.portraits.PairRow.holds.Given as goal

abbrev pub ghosts-compares : goal.ghosts-compares
ghosts-compares a = record { name = a.blank.name; parts = a.blank.parts }
