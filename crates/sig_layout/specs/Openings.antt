-- What a queue is opened with, and what it therefore carries. (The numbers, the stamps and the count are this project's own.)
use Rattle.std.specs.Prelude.{◌≡◌, ℕ, ◌+◌, ◌^◌, ◌<◌, ◌≤◌, true, List, length, slice_index_or, All}
use Rattle.sig_kinds.specs.declared.signal.Signal.{Signal}
use Rattle.sig_kinds.specs.SignalNames.{IsSignalBelow}
use Rattle.sig_kinds.specs.Counting.{IsCounting}
use Rattle.sig_layout.specs.declared.item.Item.{Item}
use Rattle.sig_layout.specs.declared.setup.Setup.{Setup}
use Rattle.sig_layout.specs.Sets.{has}
use Rattle.sig_layout.specs.Sent.{sender, putter, of}
use Rattle.sig_layout.specs.Policies.{IsPolicy}

-- the number of the first signal of the sender s
abbrev pub first_of : Setup → ℕ → ℕ
first_of z s = slice_index_or z.opening.first s 0

pub record IsSetup (z : Setup) : Type 0 where
  pub policy : IsPolicy z.policy
  pub below : (s : ℕ) → has z.senders s ≡ true → s < z.opening.count
  pub places : length z.opening.first ≡ z.opening.count
  pub numbers : All (λ n. (1 ≤ n) × (n < 2 ^ 63)) z.opening.first

-- a signal that the queue carries
pub record IsCarried (z : Setup) (x : Signal) : Type 0 where
  pub from : has z.senders x.from.0 ≡ true
  pub to : x.to ≡ z.opening.receiver
  pub early : x.stamp ≤ 2 ^ 62
  pub below : IsSignalBelow z.opening.count x

-- the numbers of each sender's signals count up from its first
abbrev pub IsCounted : Setup → List Signal → Type 0
IsCounted z xs = (s : ℕ) → has z.senders s ≡ true → IsCounting (first_of z s) (of sender s xs)

-- what was put so far may be followed by this signal
pub record IsNext (z : Setup) (put : List Item) (x : Signal) : Type 0 where
  pub carried : IsCarried z x
  pub number : x.number ≡ first_of z x.from.0 + length (of putter x.from.0 put)
