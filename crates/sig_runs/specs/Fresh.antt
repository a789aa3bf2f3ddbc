-- References, and the law that each was made by its owner before it stands anywhere.
use Rattle.std.specs.Prelude.{ℕ, ◌≡◌, ◌<◌, ◌≤◌, ◌⊎◌, List, [], ◌∷◌, Some, slice_get}
use Rattle.sig_runs.specs.Rules.{Effect, Rules}
use Rattle.sig_runs.specs.Machine.{Machine}

-- What the laws on references and marks read: R is a reference. A reference is unique among all that are made (Erlang
-- Reference Manual, Data Types, Reference); that its owner counts its serials up is this project's own.
pub record Marking (S X R : Type 0) : Type 1 where
  pub owner : R → ℕ
  pub serial : R → ℕ
  -- the serial that the process gives to the next reference that it makes
  pub next : S → ℕ
  -- the reference stands somewhere in the state, or in the signal
  pub stands : S → R → Type 0
  pub carried : X → R → Type 0
  -- the marks of the process p are sound: no message before a mark holds the mark's reference
  pub sound : ℕ → S → Type 0

module _ {S X R : Type 0} (marking : Marking S X R) where
  -- some signal of the list carries r
  abbrev pub Holds : List X → R → Type 0
  Holds [] r = ⊥
  Holds (x ∷ xs) r = marking.carried x r ⊎ Holds xs r

  -- the owner of r is there and has made it
  pub record IsMade (procs : List S) (r : R) : Type 0 where
    pub state : S
    pub at : slice_get procs (marking.owner r) ≡ Some state
    pub below : marking.serial r < marking.next state

  -- each reference that stands in a process or in a queued signal was made
  pub record AllMade (m : Machine S X) : Type 0 where
    pub states : (p : ℕ) (s : S) → slice_get m.procs p ≡ Some s → (r : R) → marking.stands s r → IsMade m.procs r
    pub signals : (s t : ℕ) (r : R) → Holds (m.queued s t) r → IsMade m.procs r

module _ {S X E R : Type 0} (marking : Marking S X R) where
  -- after this effect r stands in the state, or in a signal sent
  abbrev pub StandsAfter : Effect S X E → R → Type 0
  StandsAfter effect r = marking.stands effect.state r ⊎ Holds marking effect.sends r

  -- the process p made r by this effect: r is its own, with a serial that was not below its next one in the state before, and that
  -- is below the next one after
  abbrev pub IsNew : ℕ → S → Effect S X E → R → Type 0
  IsNew p s effect r = (marking.owner r ≡ p) × ((marking.next s ≤ marking.serial r) × (marking.serial r < marking.next effect.state))

  -- The law of freshness, on one event: the next serial never falls. What stands in the process or in a sent signal after an
  -- execution stood in the process before, or the execution made it; and after a handling, it stood there before, or the signal that
  -- was handled carried it. An execution has to keep that only where the marks of the process are sound.
  pub record MakesFresh (rules : Rules S X E) : Type 0 where
    pub exec_next : (p : ℕ) (s : S) (effect : Effect S X E) → rules.exec p s ≡ Some effect → marking.next s ≤ marking.next effect.state
    pub handle_next : (p : ℕ) (s : S) (x : X) → marking.next s ≤ marking.next (rules.handle p s x).state
    pub exec_stands : (p : ℕ) (s : S) (effect : Effect S X E) → rules.exec p s ≡ Some effect → marking.sound p s → (r : R) → StandsAfter effect r → marking.stands s r ⊎ IsNew p s effect r
    pub handle_stands : (p : ℕ) (s : S) (x : X) (r : R) → StandsAfter (rules.handle p s x) r → marking.stands s r ⊎ marking.carried x r
