use Rattle.sig_reader.proofs.guards.+take_alternatives.Given as goal

abbrev pub decreases-take_alternatives : goal.decreases-take_alternatives
decreases-take_alternatives l = l.room
