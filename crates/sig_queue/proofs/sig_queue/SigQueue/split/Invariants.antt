use Rattle.sig_queue.proofs.sig_queue.SigQueue.split.Given as goal

-- what is given away
abbrev pub ghosts-cut : goal.ghosts-cut
ghosts-cut a = record { given = a.given; role = a.role }
