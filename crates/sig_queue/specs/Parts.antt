-- The buffer that a seat took first, and the outer value that it holds.
use Rattle.std.specs.Prelude.{◌≡◌, ℕ, ◌+◌, Bool, true, false, All, List, [], ◌∷◌, ◌++◌, Option, Some, None}
use Rattle.sig_kinds.specs.declared.signal.Signal.{Signal}
use Rattle.sig_layout.specs.declared.via.Via.{Via}
use Rattle.sig_layout.specs.declared.item.Item.{Item}
use Rattle.sig_layout.specs.declared.outer.Outer.{Outer}
use Rattle.sig_layout.specs.declared.held_buffer.HeldBuffer.{HeldBuffer}
use Rattle.sig_layout.specs.declared.knows.Knows.{Knows}
use Rattle.sig_layout.specs.Views.{part, tail, mode_word}
use Rattle.sig_layout.specs.Core.{buffer_of}

abbrev pub first_part : List HeldBuffer → HeldBuffer
first_part [] = part 0 []
first_part (p ∷ ps) = p

abbrev pub held_or : Option Outer → Outer
held_or (Some o) = o
held_or None = record { signals = []; journal = [] }

-- the first of these is buffer b, and there are no others
abbrev pub IsOne : List HeldBuffer → ℕ → Type 0
IsOne ps b = (ps ≡ first_part ps ∷ []) × ((first_part ps).number ≡ b)

abbrev pub IsFirst : List HeldBuffer → ℕ → Type 0
IsFirst ps b = (ps ≡ first_part ps ∷ tail ps) × ((first_part ps).number ≡ b)

-- the signals of buffer b alone: of senders whose pid is b modulo BUFFERS
abbrev pub OfBuffer : ℕ → List Signal → Type 0
OfBuffer b = All (λ (x : Signal). buffer_of x.from.0 ≡ b)

-- a signal with the way by which it was put
abbrev pub item : Via → Signal → Item
item way x = record { signal = x; via = way }

-- loads of the mode
abbrev pub mode_loads : List Bool → List (ℕ × ℕ)
mode_loads [] = []
mode_loads (b ∷ bs) = (1, mode_word b) ∷ mode_loads bs

-- the seat has loaded the mode besides, with these results
abbrev pub looked : Knows → List Bool → Knows
looked v bs = record v { loads = v.loads ++ mode_loads bs }

-- the seat has tried the turn of this word besides, and found n: 0 where it was free
abbrev pub tried : Knows → ℕ → ℕ → Knows
tried v word n = record v { tries = v.tries ++ (word, n) ∷ [] }

-- the seat has loaded the mode besides, with these results, and tried these turns, with what it found
abbrev pub went : Knows → List Bool → List (ℕ × ℕ) → Knows
went v bs ts = record (looked v bs) { tries = v.tries ++ ts }

-- The mode was off at the first look; or it was on, the turn of buffer b was free, and the mode was off at the second look, under
-- that turn. There is no third
abbrev pub looks_off : Bool → List Bool
looks_off false = false ∷ []
looks_off true = true ∷ false ∷ []

abbrev pub tries_off : ℕ → Bool → List (ℕ × ℕ)
tries_off b false = []
tries_off b true = (b + 3, 0) ∷ []
