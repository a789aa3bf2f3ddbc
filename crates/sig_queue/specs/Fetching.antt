-- What a seat has while it fetches many buffers at once.
use Rattle.std.specs.Prelude.{◌≡◌, ℕ, zero, suc, ◌+◌, ◌<◌, ◌≤◌, ◌&&◌, Bool, true, false, not, if◌then◌else◌, All, List, [], ◌∷◌, ◌++◌, length, Option, Some, None, IfSome}
use Rattle.sig_kinds.specs.declared.signal.Signal.{Signal}
use Rattle.sig_layout.specs.declared.layout.TheConstants.{BUFFERS}
use Rattle.sig_layout.specs.declared.entry.Entry.{Entry}
use Rattle.sig_layout.specs.declared.outer.Outer.{Outer}
use Rattle.sig_queue.specs.declared.slot.Slot.{Slot}
use Rattle.sig_queue.specs.declared.slot.Slot.TheVariants as slot
use Rattle.sig_layout.specs.declared.held_buffer.HeldBuffer.{HeldBuffer}
use Rattle.sig_layout.specs.declared.knows.Knows.{Knows}
use Rattle.sig_layout.specs.Views.{filled_at, flag, signals_of}
use Rattle.sig_queue.specs.declared.fetch_find.Caught.{Caught}
use Rattle.sig_queue.specs.Tied.{Held, Foreign}
use Rattle.sig_queue.specs.Parts.{OfBuffer}

-- f c for each c from k on, n of them, that p holds of
unfoldable pub picked : {X : Type 0} → (ℕ → X) → (ℕ → Bool) → ℕ → ℕ → List X
picked f p k zero = []
picked f p k (suc n) = if p k then f k ∷ picked f p (suc k) n else picked f p (suc k) n

abbrev pub same_number : ℕ → ℕ
same_number c = c

abbrev pub numbers : List HeldBuffer → List ℕ
numbers [] = []
numbers (p ∷ ps) = p.number ∷ numbers ps

abbrev pub all_of : List HeldBuffer → List Signal
all_of [] = []
all_of (p ∷ ps) = p.list ++ all_of ps

-- each has signals of its own senders alone
abbrev pub EachOwn : List HeldBuffer → Type 0
EachOwn = All (λ (p : HeldBuffer). OfBuffer p.number p.list)

-- of the bits n, the buffer c has one, and wasn't skipped
abbrev pub kept_of : ℕ → ℕ → ℕ → Bool
kept_of n skipped c = filled_at n c && not (filled_at skipped c)

-- the slots that are out with the seat: the one that it took last stands first
abbrev pub slots_of : List HeldBuffer → List (ℕ × Slot)
slots_of [] = []
slots_of (p ∷ ps) = slots_of ps ++ (p.number + 1, slot.List p.list) ∷ []

abbrev pub outer_out : ℕ × Slot
outer_out = (0, slot.Out)

abbrev pub journal_of : Option Outer → List Entry
journal_of (Some o) = o.journal
journal_of None = []

-- one try of each buffer below n whose bit was taken, by ascending number, with what it found
abbrev pub each_try : (ℕ → ℕ) → ℕ → ℕ → List (ℕ × ℕ)
each_try f bits n = picked (λ c. (c + 3, f c)) (filled_at bits) 0 n

-- the view v, but for the buffers
abbrev pub fetching_as : Knows → Knows → Knows
fetching_as v w = record v { parts = w.parts; mask = w.mask; back = w.back; tries = w.tries }

-- A fetch that took the bits n has tried the buffers below k. The seat had the view v before the first
pub record Finding (v : Knows) (n k : ℕ) (me : Held) (z : Caught) : Type 0 where
  pub view : me.0 ≡ fetching_as v me.0
  pub slots : me.1 ≡ slots_of me.0.parts ++ outer_out ∷ []
  pub numbers_are : numbers me.0.parts ≡ picked same_number (filled_at z.held) 0 k
  pub count : z.count ≡ length me.0.parts
  pub to_come : (c : ℕ) → c < BUFFERS → k ≤ c → flag me.0.mask c ≡ filled_at n c
  pub kept : (c : ℕ) → c < k → flag me.0.mask c ≡ filled_at z.held c
  pub back : me.0.back ≡ z.skipped
  pub values : ℕ → ℕ
  pub tries : me.0.tries ≡ v.tries ++ each_try values n k
  pub others : (c : ℕ) → filled_at z.skipped c ≡ true → Foreign v (values c)
  pub free : (c : ℕ) → filled_at z.skipped c ≡ false → values c ≡ 0
  pub none_held : (c : ℕ) → k ≤ c → filled_at z.held c ≡ false
  pub none_skipped : (c : ℕ) → k ≤ c → filled_at z.skipped c ≡ false
  pub total : IfSome z.total (λ t. t ≡ length (all_of me.0.parts))
  pub own : EachOwn me.0.parts
  pub parted : (c : ℕ) → c < k → filled_at z.held c ≡ kept_of n z.skipped c
  pub had : (c : ℕ) → filled_at z.skipped c ≡ true → filled_at n c ≡ true

-- the buffers of `held` from k on are still held, with their slots, and are in the mask. No other buffer is
pub record Standing (held k : ℕ) (me : Held) (count : ℕ) : Type 0 where
  pub slots : me.1 ≡ outer_out ∷ slots_of me.0.parts
  pub numbers_are : (m : ℕ) → k + m ≡ BUFFERS → numbers me.0.parts ≡ picked same_number (filled_at held) k m
  pub counted : count ≡ length me.0.parts
  pub masks : (c : ℕ) → c < BUFFERS → k ≤ c → flag me.0.mask c ≡ filled_at held c
  pub dropped : (c : ℕ) → c < k → flag me.0.mask c ≡ false

-- the lists of buffers below k came behind the outer list. The seat had the view u before the first
pub record Emptying (u : Knows) (me : Held) : Type 0 where
  pub view : me.0 ≡ record u { parts = me.0.parts; mask = me.0.mask; held = me.0.held; moved = me.0.moved; emptied = me.0.emptied }
  pub outer : Outer
  pub holds : me.0.held ≡ Some outer
  pub signals : outer.signals ++ all_of me.0.parts ≡ signals_of u.held ++ all_of u.parts
  pub journal : outer.journal ≡ journal_of u.held
  pub moved : me.0.moved + length (all_of me.0.parts) ≡ u.moved + length (all_of u.parts)
  pub emptied : me.0.emptied ++ me.0.parts ≡ u.emptied ++ u.parts

-- the buffers below k were left as they were, and their bits are set again
pub record Leaving (u : Knows) (me : Held) : Type 0 where
  pub view : me.0 ≡ record u { parts = me.0.parts; mask = me.0.mask; back = me.0.back }
