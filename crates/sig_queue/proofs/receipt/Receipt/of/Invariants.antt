use Rattle.sig_queue.specs.Accounts.{account_of}
use Rattle.sig_queue.specs.SeatWords.{key_of}
use Rattle.sig_queue.proofs.receipt.Receipt.of.Given as goal

-- what the queue was opened with, and what was put
abbrev pub ghosts-state_of : goal.ghosts-state_of
ghosts-state_of a = record { account = account_of (key_of a._words.now) a.like.now.me.0.put }
