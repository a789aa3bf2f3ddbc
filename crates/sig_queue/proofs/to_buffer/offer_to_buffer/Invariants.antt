use Rattle.sig_queue.specs.SeatWords.{key_of}
use Rattle.sig_queue.proofs.to_buffer.offer_to_buffer.Given as goal

-- the policy of the queue
abbrev pub ghosts-load_mode : goal.ghosts-load_mode
ghosts-load_mode a = record { policy = (key_of a.words.now).policy }
