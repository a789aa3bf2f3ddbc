-- The table as threads see it is a state of the core.
use Rattle.std.specs.Prelude.{◌≡◌, ◌≢◌, ℕ, zero, suc, ◌+◌, ◌*◌, Bool, true, false, List, [], ◌∷◌, All, Some}
use mathlib.Core.Option as maybe
use mathlib.Core.Option.{none, some}
use lib.ListN.{get_elem?}
use Rattle.atomic_table.specs.Table.{State, Me, Step, rest}
use Rattle.sig_kinds.specs.declared.queue_data.QueueData.TheVariants.{OffHeap}
use Rattle.sig_kinds.specs.declared.signal.Signal.{Signal}
use Rattle.sig_layout.specs.declared.layout.TheConstants.{BUFFERS}
use Rattle.sig_layout.specs.declared.senders.TheConstants.{PIDS}
use Rattle.sig_layout.specs.declared.setup.Setup.{Setup}
use Rattle.sig_layout.specs.declared.outer.Outer.{Outer}
use Rattle.sig_layout.specs.declared.item.Item.{Item}
use Rattle.sig_layout.specs.declared.policy.Policy.{Policy}
use Rattle.sig_layout.specs.declared.policy.Policy.TheVariants.{Never}
use Rattle.sig_layout.specs.Policies.{IsPolicy, AllowsMode}
use Rattle.sig_layout.specs.Openings.{IsCarried, IsCounted}
use Rattle.sig_layout.specs.Sets.{has}
use Rattle.sig_layout.specs.Sent.{sender, of, signals, Prefix}
use Rattle.sig_queue.specs.declared.slot.Slot.{Slot}
use Rattle.sig_queue.specs.declared.slot.Slot.TheVariants as slot
use Rattle.sig_layout.specs.declared.held_buffer.HeldBuffer.{HeldBuffer}
use Rattle.sig_layout.specs.declared.knows.Knows.{Knows}
use Rattle.sig_layout.specs.Views.{table_from, filled_at, mode_word, holding, turned_away, after_put, after_same, with_bits, after_fetch, switched_on, switched_off, after_remove, saw, counted, gains, turned_away_at, saw_under, marked, given_back, loses, put_to_buffer, took_part, passed}
use Rattle.sig_layout.specs.Core.{Cell, QState, Reached, buffer_of}
use Rattle.sig_queue.specs.Parts.{OfBuffer}

-- a value is at home where its turn is free
abbrev pub home : ℕ → Slot → maybe.Option Slot
home zero x = some x
home (suc n) x = none

abbrev pub cell_home : Cell → maybe.Option Slot
cell_home x = home x.word (slot.List x.list)

-- words that stand 8 apart, so that no two lie in one line of a cache. Those between are not used
abbrev pub apart : List ℕ → List ℕ
apart [] = []
apart (w ∷ ws) = w ∷ 0 ∷ 0 ∷ 0 ∷ 0 ∷ 0 ∷ 0 ∷ 0 ∷ apart ws

abbrev pub words_of : QState → List ℕ
words_of q = apart (q.turn ∷ mode_word q.mode ∷ q.filled ∷ table_from 0 BUFFERS (λ c. (q.cells c).word))

abbrev pub homes_of : QState → List (maybe.Option Slot)
homes_of q = home q.turn (slot.Outer q.outer) ∷ table_from 0 BUFFERS (λ c. cell_home (q.cells c))

-- the words, the values at home and the views of a state
abbrev pub shown : QState → State Slot Knows
shown q = record { words = words_of q; homes = homes_of q; views = q.seats }

-- The rule of the table: it shows a state that core steps reach from the opening
pub record Tied (z : Setup) (s : State Slot Knows) : Type 0 where
  pub core : QState
  pub reached : Reached z core
  pub is : s ≡ shown core
  pub proper : IsPolicy z.policy

abbrev pub Held : Type 0
Held = Me Slot Knows

-- the number of another seat, and not of one that has a sender or the role of this one
pub record Foreign (v : Knows) (n : ℕ) : Type 0 where
  pub taken : n ≢ 0
  pub other : (s : ℕ) → has v.senders s ≡ true → n ≢ s + 1
  pub not_role : v.role ≡ true → n ≢ PIDS + 1

-- of the sender s, the seat took all of these
abbrev pub HasTaken : Knows → ℕ → List Item → Type 0
HasTaken v s put = Prefix (of sender s (signals put)) (of sender s v.taken)

-- all that the seat put, and all that it was told of, is among what it took, but of senders of these buffers
pub record FreshBut (skipped : ℕ) (v : Knows) : Type 0 where
  pub own : (s : ℕ) → filled_at skipped (buffer_of s) ≡ false → HasTaken v s v.put
  pub told : (s : ℕ) → filled_at skipped (buffer_of s) ≡ false → All (HasTaken v s) v.told

-- all that the seat took is of senders of the queue, and goes to its receiver, and each sender's numbers count up from its first
pub record TookCarried (z : Setup) (v : Knows) : Type 0 where
  pub all : All (IsCarried z) v.taken
  pub counted : IsCounted z v.taken

abbrev pub outer_or : Slot → Outer
outer_or (slot.Outer o) = o
outer_or (slot.List l) = record { signals = []; journal = [] }
outer_or slot.Out = record { signals = []; journal = [] }

abbrev pub list_or : Slot → List Signal
list_or (slot.Outer o) = []
list_or (slot.List l) = l
list_or slot.Out = []

-- the value that stands in front of those that are out with a seat
abbrev pub outer_in : List (ℕ × Slot) → Outer
outer_in [] = record { signals = []; journal = [] }
outer_in (x ∷ xs) = outer_or x.1

abbrev pub list_in : List (ℕ × Slot) → List Signal
list_in [] = []
list_in (x ∷ xs) = list_or x.1

abbrev pub no_setup : Setup
no_setup = record {
  policy = Never;
  given = Never;
  queue_data = OffHeap;
  senders = [];
  opening = record { receiver = record { 0 = 0 }; count = 0; first = [] };
}

-- Where the seat had the view v and found the outer turn free, the core was in a state that it reaches from the opening z, and this
-- is the outer value that lay there
pub record FoundOuter (z : Setup) (v : Knows) (o : Outer) : Type 0 where
  pub core : QState
  pub reached : Reached z core
  pub seat : ℕ
  pub seen : get_elem? core.seats seat ≡ some v
  pub free : core.turn ≡ 0
  pub outer_is : o ≡ core.outer

-- what each step tells
abbrev pub Tells : Type 1
Tells = Step Slot → Held → ℕ → Held → Type 0

abbrev pub tried_outer : Setup → Tells
tried_outer z st m n m' = (n ≡ 0 → (o : Outer) × (m' ≡ (holding m.0 o, (0, slot.Outer o) ∷ m.1)))
    × (n ≢ 0 → (m' ≡ (turned_away m.0 n, m.1)) × Foreign m.0 n)
    × (n ≡ 0 → FoundOuter z m.0 (outer_in m'.1))

abbrev pub tried_buffer : Tells
tried_buffer st m n m' = (b : ℕ) → st.word ≡ 8 * (b + 3)
    → (n ≡ 0 → (l : List Signal) × (m' ≡ (gains m.0 b l, (b + 1, slot.List l) ∷ m.1)) × OfBuffer b l)
    × (n ≢ 0 → (m' ≡ (turned_away_at m.0 (b + 3) n, m.1)) × Foreign m.0 n)

abbrev pub loaded_mode : Policy → Tells
loaded_mode policy st m n m' = (on : Bool) × (n ≡ mode_word on) × (m' ≡ (saw m.0 on, m.1)) × AllowsMode policy on

abbrev pub loaded_under : Policy → Tells
loaded_under policy st m n m' = (p : HeldBuffer) → m.0.parts ≡ p ∷ [] → (on : Bool) × (n ≡ mode_word on)
    × (m' ≡ (saw_under m.0 p on, m.1)) × AllowsMode policy on

abbrev pub loaded_filled : Tells
loaded_filled st m n m' = m' ≡ (counted m.0 n, m.1)

abbrev pub bit_set : Tells
bit_set st m n m' = (p : HeldBuffer) → m.0.parts ≡ p ∷ [] → m' ≡ (marked m.0 p, m.1)

abbrev pub bits_taken : Tells
bits_taken st m n m' = m' ≡ (with_bits m.0 n, m.1)

abbrev pub bit_back : ℕ → Tells
bit_back c st m n m' = m' ≡ (given_back m.0 c, m.1)

abbrev pub stored_on : Tells
stored_on st m n m' = m' ≡ (switched_on m.0, m.1)

abbrev pub stored_off : Tells
stored_off st m n m' = m' ≡ (switched_off m.0, m.1)

abbrev pub left_put : Tells
left_put st m n m' = m' ≡ (after_put m.0 (outer_in m.1), rest m.1)

abbrev pub left_same : Tells
left_same st m n m' = m' ≡ (after_same m.0, rest m.1)

abbrev pub left_fetch : Setup → Bool → Tells
left_fetch z due st m n m' = (m' ≡ (after_fetch m.0 due, rest m.1)) × FreshBut m.0.back (after_fetch m.0 due)
    × TookCarried z (after_fetch m.0 due)

abbrev pub left_remove : Tells
left_remove st m n m' = m' ≡ (after_remove m.0, rest m.1)

abbrev pub left_buffer_put : Tells
left_buffer_put st m n m' = m' ≡ (put_to_buffer m.0 (list_in m.1), rest m.1)

abbrev pub left_buffer : Tells
left_buffer st m n m' = m' ≡ (loses m.0, rest m.1)

abbrev pub left_part : Tells
left_part st m n m' = (p : HeldBuffer) (ps : List HeldBuffer) (o : Outer) → m.0.parts ≡ p ∷ ps → m.0.held ≡ Some o
    → m' ≡ (took_part m.0 o p, rest m.1)

abbrev pub left_passed : Tells
left_passed st m n m' = (p : HeldBuffer) (ps : List HeldBuffer) (o : Outer) → m.0.parts ≡ p ∷ ps → m.0.held ≡ Some o
    → m' ≡ (passed m.0 o p, rest m.1)

abbrev pub looked_only : Tells
looked_only st m n m' = m' ≡ m
