-- A list of numbers of which most are 1, by runs of ones.
use Rattle.std.specs.Prelude.{ℕ, zero, suc, List, [], ◌∷◌}
use Rattle.sig_layout.specs.declared.run.Run.{Run}

-- so many ones, and then these
abbrev pub ones_before : ℕ → List ℕ → List ℕ
ones_before zero xs = xs
ones_before (suc n) xs = 1 ∷ ones_before n xs

-- the numbers of these runs, and then so many ones
abbrev pub listed : List Run → ℕ → List ℕ
listed [] ones = ones_before ones []
listed (r ∷ rs) ones = ones_before r.ones (r.number ∷ listed rs ones)
