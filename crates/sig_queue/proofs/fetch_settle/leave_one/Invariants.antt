use Rattle.sig_queue.proofs.fetch_settle.leave_one.Given as goal

-- the buffer whose bit is set again
abbrev pub ghosts-set_back : goal.ghosts-set_back
ghosts-set_back a = record { buffer = a.buffer }
