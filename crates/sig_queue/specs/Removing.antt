-- What a seat has while it removes the buffers.
use Rattle.std.specs.Prelude.{◌≡◌, ℕ, ◌+◌, ◌≤◌, All, List, [], ◌∷◌, ◌++◌, map, length, Some}
use Rattle.sig_kinds.specs.declared.signal.Signal.{Signal}
use Rattle.sig_layout.specs.declared.layout.TheConstants.{BUFFERS}
use Rattle.sig_layout.specs.Rooms.{Roomy}
use Rattle.sig_layout.specs.declared.knows.Knows.{Knows}
use Rattle.sig_queue.specs.Tied.{Held, Foreign}
use Rattle.sig_queue.specs.Parts.{held_or}
use Rattle.sig_queue.specs.Fetching.{outer_out}

-- the view v, with the tries of w and its count of refusals
abbrev pub waited : Knows → Knows → Knows
waited v w = record v { refused = w.refused; tries = w.tries }

-- the view v, with the tries of w
abbrev pub waits : Knows → Knows → Knows
waits v w = record v { tries = w.tries }

-- tries of the turn of this word, which found these numbers
abbrev pub refusals : ℕ → List ℕ → List (ℕ × ℕ)
refusals word = map (λ (n : ℕ). (word, n))

-- the same, and one more, which found the turn free
abbrev pub until_free : ℕ → List ℕ → List (ℕ × ℕ)
until_free word found = refusals word found ++ (word, 0) ∷ []

-- A seat with the view v tried the turn of this word until it was free. Before that each try found the number of another seat
pub record WaitedFor (word : ℕ) (v w : Knows) : Type 0 where
  pub found : List ℕ
  pub others : All (Foreign v) found
  pub tries : w.tries ≡ v.tries ++ until_free word found

-- the outer turn, whose refusals are counted
pub record WaitedForOuter (v w : Knows) : Type 0 where
  pub found : List ℕ
  pub others : All (Foreign v) found
  pub tries : w.tries ≡ v.tries ++ until_free 0 found
  pub refused : w.refused ≡ v.refused + length found

-- The tries of the turns of the buffers below k by a seat with the view v: of one after another, by ascending number, each until
-- it was free. Before that each try found the number of another seat
pub data OneByOne (v : Knows) : ℕ → List (ℕ × ℕ) → Type 0 where
  none : OneByOne v 0 []
  next : (k : ℕ) (tries : List (ℕ × ℕ)) (found : List ℕ) → OneByOne v k tries → All (Foreign v) found
      → OneByOne v (k + 1) (tries ++ until_free (k + 3) found)

-- and the seat has these tries more
abbrev pub WaitedOneByOne : ℕ → Knows → Knows → Type 0
WaitedOneByOne k v w = (tries : List (ℕ × ℕ)) × OneByOne v k tries × (w.tries ≡ v.tries ++ tries)

-- the outer turn, and then the turns of all buffers
pub record WaitedForAll (v w : Knows) : Type 0 where
  pub found : List ℕ
  pub others : All (Foreign v) found
  pub later : List (ℕ × ℕ)
  pub each : OneByOne v BUFFERS later
  pub tries : w.tries ≡ v.tries ++ until_free 0 found ++ later
  pub refused : w.refused ≡ v.refused + length found

-- The removal of a seat that had the view u has passed the buffers below k. What came behind the outer list is in `out`
pub record Passing (u : Knows) (k : ℕ) (me : Held) (out : List Signal) : Type 0 where
  pub view : me.0 ≡ record u { held = me.0.held; progress = k; tries = me.0.tries }
  pub slots : me.1 ≡ outer_out ∷ []
  pub holds : me.0.held ≡ Some (held_or me.0.held)
  pub signals : (held_or me.0.held).signals ≡ out
  pub journal : (held_or me.0.held).journal ≡ (held_or u.held).journal

-- room for the lists of buffers from k on
abbrev pub WithRoom : ℕ → Roomy → Type 0
WithRoom k g = BUFFERS ≤ g.spare + k
