-- What seats know of the machine is so, and who holds a turn knows it.
use Rattle.std.specs.Prelude.{◌≡◌, ◌≢◌, ◌⊎◌, ℕ, suc, ◌<◌, ◌≤◌, Bool, true, false, List, [], ◌∷◌, length, Option, Some, None}
use mathlib.Core.Option.{some}
use lib.ListN.{get_elem?}
use Rattle.sig_layout.specs.declared.layout.TheConstants.{BUFFERS}
use Rattle.sig_layout.specs.declared.outer.Outer.{Outer}
use Rattle.sig_layout.specs.declared.held_buffer.HeldBuffer.{HeldBuffer}
use Rattle.sig_layout.specs.declared.knows.Knows.{Knows}
use Rattle.sig_layout.specs.Views.{number, IsSomebody, flag}
use Rattle.sig_layout.specs.Core.{Cell, QState}

-- the buffer c is none of these, or one of them
abbrev pub Apart : ℕ → List HeldBuffer → Type 0
Apart c [] = Unit {0}
Apart c (p ∷ ps) = (p.number ≢ c) × Apart c ps

abbrev pub Among : ℕ → List HeldBuffer → Type 0
Among c [] = ⊥
Among c (p ∷ ps) = (p.number ≡ c) ⊎ Among c ps

-- the seat i has the turn of this buffer, and knows what lies there and what it did under the turn
pub record HeldBy (i : ℕ) (p : HeldBuffer) (x : Cell) : Type 0 where
  pub holder : x.holder ≡ Some i
  pub list : x.list ≡ p.list
  pub set : x.set ≡ p.set
  pub sure : x.sure ≡ p.sure

-- the seat i holds each of these, once, with this list
abbrev pub HoldsAll : (ℕ → Cell) → ℕ → List HeldBuffer → Type 0
HoldsAll cells i [] = Unit {0}
HoldsAll cells i (p ∷ ps) = HeldBy i p (cells p.number) × Apart p.number ps × HoldsAll cells i ps

-- The seat i has the outer turn with the value o, and knows what it does with it: first what the machine says, then what the
-- seat knows. It is a record of what it speaks of, and not of the state and the view, so that a step that changes nothing of this
-- needs no proof.
pub record DoingAs (holder : Option ℕ) (outer : Outer) (fetching : Bool) (cells : ℕ → Cell) (back : ℕ) (removing : Bool)
    (progress : ℕ) (switched : Bool) (i : ℕ) (o : Outer) (v_fetching : Bool) (v_mask : List Bool) (v_back : ℕ) (v_removing : Bool)
    (v_progress : ℕ) (v_switched : Bool) : Type 0 where
  pub mine : holder ≡ Some i
  pub value : outer ≡ o
  pub fetch : fetching ≡ v_fetching
  pub masks : fetching ≡ true → (c : ℕ) → c < BUFFERS → (cells c).mask ≡ flag v_mask c
  pub given : fetching ≡ true → back ≡ v_back
  pub remove : removing ≡ v_removing
  pub passed : removing ≡ true → progress ≡ v_progress
  pub switch : switched ≡ v_switched

abbrev pub Doing : QState → ℕ → Knows → Outer → Type 0
Doing q i v o = DoingAs q.holder q.outer q.fetching q.cells q.back q.removing q.progress q.switched i o v.fetching v.mask v.back
    v.removing v.progress v.switched

-- nothing is under way
abbrev pub Nothing : Bool → Bool → Bool → Type 0
Nothing fetching removing switched = (fetching ≡ false) × (removing ≡ false) × (switched ≡ false)

-- what the seat i knows is so
pub record SeatAgrees (q : QState) (i : ℕ) (v : Knows) : Type 0 where
  pub outer : (o : Outer) → v.held ≡ Some o → Doing q i v o
  pub rest : v.held ≡ None → Nothing v.fetching v.removing v.switched
  pub saw : q.saw_off i ≡ v.saw_off
  pub parts : HoldsAll q.cells i v.parts

pub record FreeTurn (word : ℕ) (holder : Option ℕ) : Type 0 where
  pub none : holder ≡ None
  pub zero : word ≡ 0

-- one seat holds the turn and knows it, and its number is in the word
pub record HeldTurn (seats : List Knows) (word : ℕ) (holder : Option ℕ) (Has : Knows → Type 0) : Type 0 where
  pub by : ℕ
  pub view : Knows
  pub is : holder ≡ Some by
  pub here : get_elem? seats by ≡ some view
  pub word_is : word ≡ suc (number view)
  pub somebody : IsSomebody view
  pub has : Has view

abbrev pub Turn : List Knows → ℕ → Option ℕ → (Knows → Type 0) → Type 0
Turn seats word holder Has = FreeTurn word holder ⊎ HeldTurn seats word holder Has

-- what a holder knows: that it has the outer turn, or the turn of the buffer c
abbrev pub HasOuter : Knows → Type 0
HasOuter v = (o : Outer) × (v.held ≡ Some o)

abbrev pub HasBuffer : ℕ → Knows → Type 0
HasBuffer c v = Among c v.parts

pub record Agrees (q : QState) : Type 0 where
  pub each : (i : ℕ) (v : Knows) → get_elem? q.seats i ≡ some v → SeatAgrees q i v
  pub turn : Turn q.seats q.turn q.holder HasOuter
  pub cells : (c : ℕ) → Turn q.seats (q.cells c).word (q.cells c).holder (HasBuffer c)
  pub idle : q.holder ≡ None → Nothing q.fetching q.removing q.switched
  -- a seat that isn't there yet saw nothing
  pub unseen : (i : ℕ) → length q.seats ≤ i → q.saw_off i ≡ false
