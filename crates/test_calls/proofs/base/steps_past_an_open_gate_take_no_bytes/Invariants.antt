use Rattle.test_calls.proofs.base.steps_past_an_open_gate_take_no_bytes.Given as goal

abbrev pub ghosts-bytes_of_two_steps : goal.ghosts-bytes_of_two_steps
ghosts-bytes_of_two_steps g a = record { name = a.blank.name; parts = a.blank.parts }
