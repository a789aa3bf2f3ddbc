use Rattle.sig_queue.specs.SeatWords.{key_of}
use Rattle.sig_queue.proofs.words.steps.try_outer.Given as goal

-- what the queue was opened with
abbrev pub ghosts-step_outer : goal.ghosts-step_outer
ghosts-step_outer a = record { setup = key_of a.words.now }
