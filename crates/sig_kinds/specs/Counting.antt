-- Numbers in order, of signals (this project's own).
use Rattle.std.specs.Prelude.{◌≡◌, ℕ, ◌+◌, List, [], ◌∷◌}
use Rattle.sig_kinds.specs.declared.signal.Signal.{Signal}

-- the numbers of these signals are this one and the next ones in order
abbrev pub IsCounting : ℕ → List Signal → Type 0
IsCounting n [] = Unit {0}
IsCounting n (x ∷ xs) = (x.number ≡ n) × IsCounting (n + 1) xs
