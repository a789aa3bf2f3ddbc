-- The numbers of the next signals to one process, by their senders, where ones at the end may be left out.
use Rattle.std.specs.Prelude.{◌≡◌, ℕ, ◌+◌, ◌-◌, ◌≤◌, List, [], ◌∷◌, ◌++◌, length, replicate}
use Rattle.sig_model.specs.Running.{Running}
use Rattle.sig_workers.specs.Opening.{numbers_to}

-- with ones behind it, until there are so many
abbrev pub padded : ℕ → List ℕ → List ℕ
padded n xs = xs ++ replicate (n - length xs) 1

-- the number n has come to this place
pub record HasNext (at n : ℕ) (old new : List ℕ) : Type 0 where
  pub short : length new ≤ at + 1
  pub is : padded (at + 1) new ≡ padded at old ++ n ∷ []

-- the numbers to p of the first n processes, which these are
pub record IsColumn (n p : ℕ) (crew : List Running) (xs : List ℕ) : Type 0 where
  pub short : length xs ≤ n
  pub is : padded n xs ≡ numbers_to p crew
