-- The numbers of the signals on their way between two processes (this project's own).
use Rattle.std.specs.Prelude.{◌≡◌, ℕ, ◌+◌, ◌<◌, List, length, slice_index}
use Rattle.sig_kinds.specs.declared.signal.Signal.{Signal}
use Rattle.sig_kinds.specs.Counting.{IsCounting}
use Rattle.sig_runs.specs.PairFacts.{PairFacts}
use Rattle.sig_model.specs.ProcessState.{ProcessState}

-- The signals `out` on their way to the process q, one of so many, from a process in the state s: their numbers count up by one, and
-- the sender's next number for q is the one after them. Where q, in the state t, had no event yet, the first of them is 1.
pub record HasNumbersFor (count q : ℕ) (s t : ProcessState) (out : List Signal) : Type 0 where
  pub there : q < count
  pub many : length s.counts.next_numbers ≡ count
  pub first : ℕ
  pub counted : IsCounting first out
  pub next : slice_index s.counts.next_numbers q ≡ first + length out
  pub begins : t.counts.stamp ≡ 0 → first ≡ 1

-- so it is of each two processes of so many
abbrev pub numbers_for : ℕ → PairFacts ProcessState Signal
numbers_for count = record { of_pair = λ p q s t out back. HasNumbersFor count q s t out }
