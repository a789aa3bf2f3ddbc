use Rattle.sig_queue.specs.SeatWords.{key_of}
use Rattle.sig_queue.proofs.fetch_settle.finish.Given as goal

-- whether a removal is due, and what the queue was opened with
abbrev pub ghosts-leave_fetch : goal.ghosts-leave_fetch
ghosts-leave_fetch a = record { due = a.due; setup = key_of a.words.now }
