-- What stands at the front of bytes: a number, an integer, an atom, a pid or a reference, each as long as it can be, and
-- the bytes behind it.
use Rattle.std.specs.Prelude.{ℕ, ◌+◌, ◌-◌, ◌*◌, ◌^◌, ℤ, pos, negsuc, List, [], ◌∷◌, length, take, drop, ◌&&◌, ◌==◌, nat_le, if◌then◌else◌, Option, Some, None, codes}
use Rattle.std.specs.List.{prefix_len}
use Rattle.std.specs.Str.{bytes_eq}
use Rattle.sig_terms.specs.Words.{is_digit, is_name_byte, is_name, is_atom_byte, is_atom}
use Rattle.sig_terms.specs.declared.pid.Pid.{Pid}
use Rattle.sig_terms.specs.declared.reference.Ref.{Ref}
use Rattle.sig_terms.specs.declared.bytes.TheConstants.{MOST_WORD_BYTES}

infixl 10 ◌>>=◌
abbrev pub ◌>>=◌ : {A B : Type 0} → Option A → (A → Option B) → Option B
None >>= f = None
(Some x) >>= f = f x

-- the digits that follow those of n, while the number is at most most
abbrev pub digits_on : ℕ → ℕ → List ℕ → ℕ × List ℕ
digits_on most n [] = (n, [])
digits_on most n (b ∷ bs) =
    if is_digit b && nat_le (10 * n + (b - 48)) most then digits_on most (10 * n + (b - 48)) bs else (n, b ∷ bs)

-- a number of at most most, which is 9 or more, without leading zeros
abbrev pub number_at : ℕ → List ℕ → Option (ℕ × List ℕ)
number_at most [] = None
number_at most (b ∷ bs) = if is_digit b then (if b == 48 then Some (0, bs) else Some (digits_on most (b - 48) bs)) else None

-- behind `-`, an integer of 64 bits below zero
abbrev pub negative_at : List ℕ → Option (ℤ × List ℕ)
negative_at bytes = number_at (2 ^ 63) bytes >>= λ x. if x.0 == 0 then None else Some (negsuc (x.0 - 1), x.1)

-- an integer of 64 bits, signed
abbrev pub int_at : List ℕ → Option (ℤ × List ℕ)
int_at [] = None
int_at (b ∷ bs) = if b == 45 then negative_at bs else (number_at (2 ^ 63 - 1) (b ∷ bs) >>= λ x. Some (pos x.0, x.1))

-- what follows the text
abbrev pub after_text : List ℕ → List ℕ → Option (List ℕ)
after_text text bytes = if bytes_eq (take (length text) bytes) text then Some (drop (length text) bytes) else None

abbrev pub atom_of : List ℕ → Option (List ℕ)
atom_of bytes = if is_atom bytes then Some bytes else None

-- the bytes of a name, as many as it may have
abbrev pub name_at : List ℕ → Option (List ℕ × List ℕ)
name_at bytes =
    let n = prefix_len is_name_byte (take MOST_WORD_BYTES bytes) in
    atom_of (take n bytes) >>= λ name. Some (name, drop n bytes)

-- behind the first quote, the bytes of an atom that is no name, and a second quote
abbrev pub quoted_at : List ℕ → Option (List ℕ × List ℕ)
quoted_at bytes =
    let n = prefix_len is_atom_byte bytes in
    if is_name (take n bytes) then None else (do
      rest ← after_text (codes "'") (drop n bytes)
      body ← atom_of (take n bytes)
      Some (body, rest))

-- behind `<`
abbrev pub pid_at : List ℕ → Option (Pid × List ℕ)
pid_at bytes = do
  n ← number_at (2 ^ 32 - 1) bytes
  rest ← after_text (codes ">") n.1
  Some (record { 0 = n.0 }, rest)

-- behind the owner of a reference
abbrev pub serial_at : Pid → List ℕ → Option (Ref × List ℕ)
serial_at owner bytes = do
  more ← after_text (codes ".") bytes
  serial ← number_at (2 ^ 64 - 1) more
  rest ← after_text (codes ">") serial.1
  Some (record { owner = owner; serial = serial.0 }, rest)

-- behind `#`
abbrev pub reference_at : List ℕ → Option (Ref × List ℕ)
reference_at bytes = do
  digits ← after_text (codes "Ref<") bytes
  owner ← number_at (2 ^ 32 - 1) digits
  serial_at (record { 0 = owner.0 }) owner.1
