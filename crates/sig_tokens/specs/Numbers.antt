-- The integers that tokens write. Leading zeros count for nothing.
use Rattle.std.specs.Prelude.{ℕ, ◌+◌, ◌-◌, ◌*◌, ◌^◌, ℤ, pos, negsuc, List, [], ◌∷◌, Bool, false, ◌&&◌, not, nat_le, ◌==◌, if◌then◌else◌, Option, Some, None}

-- the number that the digits write behind those of n
unfoldable pub number_after : ℕ → List ℕ → ℕ
number_after n [] = n
number_after n (d ∷ ds) = number_after (n * 10 + (d - 48)) ds

-- the number that the digits write
abbrev pub number : List ℕ → ℕ
number digits = number_after 0 digits

-- the number, where it isn't above the bound
abbrev pub up_to : ℕ → ℕ → Option ℕ
up_to most n = if nat_le n most then Some n else None

-- digits, with or without `-`, of 64 bits signed
abbrev pub is_in_range : List ℕ → Bool
is_in_range [] = false
is_in_range (b ∷ bs) = if b == 45 then nat_le (number bs) (2 ^ 63) else nat_le (number (b ∷ bs)) (2 ^ 63 - 1)

-- digits of this value
abbrev pub is_value : ℕ → List ℕ → Bool
is_value n [] = false
is_value n (b ∷ bs) = not (b == 45) && number (b ∷ bs) == n

abbrev pub is_one : List ℕ → Bool
is_one digits = is_value 1 digits

abbrev pub is_two : List ℕ → Bool
is_two digits = is_value 2 digits

-- n below 0
abbrev pub negative : ℕ → ℤ
negative n = if n == 0 then pos 0 else negsuc (n - 1)

-- the integer that digits write, with or without `-`
abbrev pub int_of : List ℕ → ℤ
int_of [] = pos 0
int_of (b ∷ bs) = if b == 45 then negative (number bs) else pos (number (b ∷ bs))

-- the same, where it isn't below 0
abbrev pub count_of : List ℕ → Option ℕ
count_of [] = None
count_of (b ∷ bs) = if b == 45 then (if number bs == 0 then Some 0 else None) else Some (number (b ∷ bs))
