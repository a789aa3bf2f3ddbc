-- Rules that execute from a mark on, and the rules that look at the whole list of messages.
use Rattle.std.specs.Prelude.{ℕ, ◌≡◌, ◌<◌, Option, Some, slice_get}
use Rattle.sig_runs.specs.Rules.{Effect, Rules}
use Rattle.sig_runs.specs.Machine.{Machine}
use Rattle.sig_runs.specs.Fresh.{Marking, AllMade}

-- The same rules, where an instruction is executed by `whole`: a receive goes through the messages from the oldest one on
-- (Erlang Reference Manual, Expressions, Receive), while marks are an aid of the runtime.
abbrev pub by_whole : {S X E : Type 0} → Rules S X E → (ℕ → S → Option (Effect S X E)) → Rules S X E
by_whole rules whole = record rules { exec = whole }

module _ {S X R : Type 0} (marking : Marking S X R) where
  -- each reference of its own that stands in the process p was made
  abbrev pub OwnMade : ℕ → S → Type 0
  OwnMade p s = (r : R) → marking.stands s r → marking.owner r ≡ p → marking.serial r < marking.next s

  -- all references were made, and all marks are sound
  pub record AllMarksSound (m : Machine S X) : Type 0 where
    pub made : AllMade marking m
    pub marks : (p : ℕ) (s : S) → slice_get m.procs p ≡ Some s → marking.sound p s

module _ {S X E R : Type 0} (marking : Marking S X R) where
  -- The law of sound marks, on one event: it keeps the marks sound where the own references that stand in the process
  -- were made, and where the marks are sound, executing from the mark is executing over the whole list.
  pub record KeepsMarksSound (rules : Rules S X E) (whole : ℕ → S → Option (Effect S X E)) : Type 0 where
    pub exec_sound : (p : ℕ) (s : S) (effect : Effect S X E) → rules.exec p s ≡ Some effect → marking.sound p s → OwnMade marking p s → marking.sound p effect.state
    pub handle_sound : (p : ℕ) (s : S) (x : X) → marking.sound p s → OwnMade marking p s → marking.sound p (rules.handle p s x).state
    pub agrees : (p : ℕ) (s : S) → marking.sound p s → whole p s ≡ rules.exec p s
