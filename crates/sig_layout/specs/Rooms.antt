-- Lists with their room, and lists in pieces.
use Rattle.std.specs.Prelude.{ℕ, List, [], ◌∷◌, ◌++◌}
use Rattle.sig_kinds.specs.declared.signal.Signal.{Signal}

pub record Roomy : Type 0 where
  pub list : List Signal
  -- how many pieces more it takes without memory
  pub spare : ℕ

-- the signals of all pieces, one piece behind the other
abbrev pub all_pieces : List (List Signal) → List Signal
all_pieces [] = []
all_pieces (l ∷ ls) = l ++ all_pieces ls
