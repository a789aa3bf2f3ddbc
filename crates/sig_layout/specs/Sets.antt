-- Sets of pids below PIDS, as four words of bits.
use Rattle.std.specs.Prelude.{ℕ, zero, suc, ◌-◌, ◌/◌, ◌%◌, ◌==◌, ◌&&◌, ltb, Bool, if◌then◌else◌, List, [], ◌∷◌, slice_index_or, bit_and, bit_or, bit_xor}
use Rattle.std.specs.Int.{bit_at}
use Rattle.sig_layout.specs.declared.senders.TheConstants.{PIDS}

abbrev pub has : List ℕ → ℕ → Bool
has set pid = ltb pid PIDS && (bit_at (slice_index_or set (pid / 64) 0) (pid % 64) == 1)

abbrev pub no_senders : List ℕ
no_senders = 0 ∷ 0 ∷ 0 ∷ 0 ∷ []

-- the pids of the first set that the second has not
abbrev pub minus : List ℕ → List ℕ → List ℕ
minus [] ys = []
minus (x ∷ xs) [] = x ∷ xs
minus (x ∷ xs) (y ∷ ys) = bit_xor x (bit_and x y) ∷ minus xs ys

-- the pids of both sets
abbrev pub plus : List ℕ → List ℕ → List ℕ
plus [] ys = ys
plus (x ∷ xs) [] = x ∷ xs
plus (x ∷ xs) (y ∷ ys) = bit_or x y ∷ plus xs ys

-- the first pid of the set among the n from k on, or else PIDS
abbrev pub first_from : ℕ → ℕ → List ℕ → ℕ
first_from k zero set = PIDS
first_from k (suc n) set = if has set k then k else first_from (suc k) n set

-- the least pid of the set from k on, or PIDS where it has none there
unfoldable pub least_from : ℕ → List ℕ → ℕ
least_from k set = first_from k (PIDS - k) set

abbrev pub least : List ℕ → ℕ
least set = least_from 0 set
