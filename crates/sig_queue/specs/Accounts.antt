-- What receipts say.
use Rattle.std.specs.Prelude.{◌≡◌, ℕ, ◌+◌, true, List, [], ◌∷◌, ◌++◌, length, slice_index_or}
use Rattle.sig_kinds.specs.declared.queue_data.QueueData.TheVariants.{OffHeap}
use Rattle.sig_layout.specs.declared.item.Item.{Item}
use Rattle.sig_layout.specs.declared.policy.Policy.TheVariants.{Never}
use Rattle.sig_layout.specs.declared.setup.Setup.{Setup}
use Rattle.sig_layout.specs.Sets.{has, no_senders}
use Rattle.sig_layout.specs.Sent.{putter, of}
use Rattle.sig_queue.specs.declared.account.Account.{Account}

abbrev pub no_account : Account
no_account = record { receiver = record { 0 = 0 }; senders = no_senders; policy = Never; queue_data = OffHeap; first = []; put = [] }

-- the receipt of a queue into which this was put
abbrev pub account_of : Setup → List Item → Account
account_of z put = record {
  receiver = z.opening.receiver;
  senders = z.senders;
  policy = z.given;
  queue_data = z.queue_data;
  first = z.opening.first;
  put = put;
}

-- the number that the next signal of the sender s has
abbrev pub next_number : Account → ℕ → ℕ
next_number a s = slice_index_or a.first s 0 + length (of putter s a.put)

-- b is of the same receiver, senders and policy, and of messages kept in the same place, and the numbers go on there
pub record MayFollow (a b : Account) : Type 0 where
  pub receiver : b.receiver ≡ a.receiver
  pub senders : (s : ℕ) → has b.senders s ≡ has a.senders s
  pub policy : b.policy ≡ a.policy
  pub queue_data : b.queue_data ≡ a.queue_data
  pub numbers : (s : ℕ) → has a.senders s ≡ true → slice_index_or b.first s 0 ≡ next_number a s

abbrev pub followed : Account → Account → Account
followed a b = record a { put = a.put ++ b.put }

abbrev pub EachMayFollow : List Account → List Account → Type 0
EachMayFollow [] [] = Unit {0}
EachMayFollow [] (y ∷ ys) = ⊥
EachMayFollow (x ∷ xs) [] = ⊥
EachMayFollow (x ∷ xs) (y ∷ ys) = MayFollow x y × EachMayFollow xs ys

abbrev pub all_followed : List Account → List Account → List Account
all_followed [] ys = []
all_followed (x ∷ xs) [] = x ∷ xs
all_followed (x ∷ xs) (y ∷ ys) = followed x y ∷ all_followed xs ys
