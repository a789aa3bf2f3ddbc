-- A fact of each two processes and of the signals on their way between them that every event keeps.
use Rattle.std.specs.Prelude.{ℕ, false, ◌≡◌, ◌≢◌, List, ◌∷◌, ◌++◌, Some, slice_get}
use Rattle.std.specs.List.{All}
use Rattle.sig_runs.specs.Rules.{Effect, Rules, addressed}
use Rattle.sig_runs.specs.Machine.{Machine}

-- a fact of the processes p and q in their states s and t, with the signals on their way from p to q and back, the oldest first
pub record PairFacts (S X : Type 0) : Type 1 where
  pub of_pair : (p q : ℕ) (s t : S) (out back : List X) → Type 0

-- the facts with the two processes in the other order
abbrev pub turned : {S X : Type 0} → PairFacts S X → PairFacts S X
turned facts = record { of_pair = λ p q s t out back. facts.of_pair q p t s back out }

-- they hold in both orders, or in none
abbrev pub AreSymmetric : {S X : Type 0} → PairFacts S X → Type 0
AreSymmetric {S} {X} facts = (p q : ℕ) (s t : S) (out back : List X) → facts.of_pair p q s t out back → facts.of_pair q p t s back out

-- Each queued signal comes from the process whose list it stands in, and the facts hold of each two different processes.
pub record HoldOfPairs {S X E : Type 0} (facts : PairFacts S X) (rules : Rules S X E) (m : Machine S X) : Type 0 where
  pub senders : (s t : ℕ) → All (λ x. rules.from x ≡ s) (m.queued s t)
  pub pairs : (p q : ℕ) (s t : S) → p ≢ q → slice_get m.procs p ≡ Some s → slice_get m.procs q ≡ Some t → facts.of_pair p q s t (m.queued p q) (m.queued q p)

-- what a process sends comes from it
pub record KeepSenders {S X E : Type 0} (rules : Rules S X E) : Type 0 where
  pub executed : (p : ℕ) (s : S) (effect : Effect S X E) → rules.exec p s ≡ Some effect → All (λ x. rules.from x ≡ p) effect.sends
  pub handled : (p : ℕ) (s : S) (x : X) → All (λ x. rules.from x ≡ p) (rules.handle p s x).sends

-- the facts hold of p after this effect and of q: what p sent to q comes behind what is on its way
abbrev pub HoldsAfter : {S X E : Type 0} → PairFacts S X → Rules S X E → (p q : ℕ) → Effect S X E → S → (out back : List X) → Type 0
HoldsAfter facts rules p q effect t out back = facts.of_pair p q effect.state t (out ++ addressed rules q effect.sends) back

-- The law on one event of p, the first of the two: where the facts hold before it, they hold after it.
pub record FirstKeeps {S X E : Type 0} (facts : PairFacts S X) (rules : Rules S X E) : Type 0 where
  -- p executes
  pub executed : (p q : ℕ) (s t : S) (out back : List X) (effect : Effect S X E) → rules.is_ended s ≡ false → rules.exec p s ≡ Some effect →
      facts.of_pair p q s t out back → HoldsAfter facts rules p q effect t out back
  -- p handles the oldest signal of q
  pub handled : (p q : ℕ) (s t : S) (x : X) (out back : List X) → rules.from x ≡ q →
      facts.of_pair p q s t out (x ∷ back) → HoldsAfter facts rules p q (rules.handle p s x) t out back
  -- p handles a signal of its own or of a third process
  pub handled_other : (p q : ℕ) (s t : S) (x : X) (out back : List X) → rules.from x ≢ q →
      facts.of_pair p q s t out back → HoldsAfter facts rules p q (rules.handle p s x) t out back

-- The law on one event of either. An event of a third process changes neither state and neither list, so it asks for nothing.
pub record PairKeeps {S X E : Type 0} (facts : PairFacts S X) (rules : Rules S X E) : Type 0 where
  pub first : FirstKeeps facts rules
  pub second : FirstKeeps (turned facts) rules
