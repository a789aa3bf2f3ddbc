-- Lists of signals and of items, seen sender by sender. The order of the signals of one sender to one receiver is what is kept;
-- between senders there is none (Erlang Reference Manual, Processes, Delivery of Signals).
use Rattle.std.specs.Prelude.{◌≡◌, ℕ, Bool, if◌then◌else◌, ◌==◌, List, [], ◌∷◌, ◌++◌, map}
use Rattle.sig_kinds.specs.declared.signal.Signal.{Signal}
use Rattle.sig_layout.specs.declared.item.Item.{Item}

-- who sent it
abbrev pub sender : Signal → ℕ
sender x = x.from.0

abbrev pub putter : Item → ℕ
putter i = i.signal.from.0

abbrev pub signals : List Item → List Signal
signals = map (λ (i : Item). i.signal)

-- those of one sender, in order
abbrev pub of : {X : Type 0} → (X → ℕ) → ℕ → List X → List X
of key s [] = []
of key s (x ∷ xs) = if key x == s then x ∷ of key s xs else of key s xs

-- those of the senders that pass
abbrev pub keep : {X : Type 0} → (X → ℕ) → (ℕ → Bool) → List X → List X
keep key p [] = []
keep key p (x ∷ xs) = if p (key x) then x ∷ keep key p xs else keep key p xs

abbrev pub Prefix : {X : Type 0} → List X → List X → Type 0
Prefix {X} xs ys = (rest : List X) × (xs ++ rest ≡ ys)

-- of each sender, xs has no more than ys has, in the same order
abbrev pub Within : List Item → List Item → Type 0
Within xs ys = (s : ℕ) → Prefix (of putter s xs) (of putter s ys)

abbrev pub AllWithin : List (List Item) → List Item → Type 0
AllWithin [] ys = Unit {0}
AllWithin (xs ∷ rest) ys = Within xs ys × AllWithin rest ys
