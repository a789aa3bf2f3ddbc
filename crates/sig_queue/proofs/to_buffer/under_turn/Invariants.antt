use Rattle.sig_queue.specs.SeatWords.{key_of}
use Rattle.sig_queue.proofs.to_buffer.under_turn.Given as goal

-- the policy of the queue
abbrev pub ghosts-load_under : goal.ghosts-load_under
ghosts-load_under a = record { policy = (key_of a.words.now).policy }
