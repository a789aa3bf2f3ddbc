-- Keys in 32 bits, and the room that they leave. No contract of another crate cites this.
use Rattle.std.specs.Prelude.{◌≡◌, ℕ, zero, suc, ◌-◌, leb, if◌then◌else◌, Option, Some, None, refl}

-- 0 stands for none, and each other number for the key below it
abbrev pub key_in : ℕ → Option ℕ
key_in zero = None
key_in (suc key) = Some key

abbrev pub number_of : Option ℕ → ℕ
number_of None = zero
number_of (Some key) = suc key

abbrev pub number_back : (number : ℕ) → number_of (key_in number) ≡ number
number_back zero = refl
number_back (suc key) = refl

-- for how many further cells there is room; where not each of them would have a number, none is promised
abbrev pub room_for : ℕ → ℕ → ℕ
room_for capacity len = if leb capacity 4294967295 then capacity - len else 0
