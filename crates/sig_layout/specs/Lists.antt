-- What seats put, took and were told is so.
use Rattle.std.specs.Prelude.{◌≡◌, ℕ, Bool, true, false, List, []}
use mathlib.Core.Option.{some}
use lib.ListN.{get_elem?}
use Rattle.sig_kinds.specs.declared.signal.Signal.{Signal}
use Rattle.sig_layout.specs.declared.item.Item.{Item}
use Rattle.sig_layout.specs.declared.knows.Knows.{Knows}
use Rattle.sig_layout.specs.Sets.{has}
use Rattle.sig_layout.specs.Sent.{putter, of, Within, AllWithin}
use Rattle.sig_layout.specs.Core.{QState}

-- what the seat i with these senders, this role and these lists knows. Each sender has one owner, and the role has one reader
pub record SeatListsAs (all : List ℕ) (owner : ℕ → ℕ) (reader : ℕ) (log : List Item) (all_taken : List Signal) (base : List Item)
    (i : ℕ) (senders : List ℕ) (role : Bool) (put : List Item) (told_of : List (List Item)) (taken : List Signal)
    (fetching : Bool) : Type 0 where
  -- its senders are the queue's, and its own
  pub known : (s : ℕ) → has senders s ≡ true → has all s ≡ true
  pub owns : (s : ℕ) → has senders s ≡ true → owner s ≡ i
  pub reads : role ≡ true → reader ≡ i
  -- it put all of its own senders' signals and no others
  pub own : (s : ℕ) → has senders s ≡ true → of putter s put ≡ of putter s log
  pub only : (s : ℕ) → has senders s ≡ false → of putter s put ≡ []
  -- what it was told was put
  pub told : AllWithin told_of log
  -- with the role it took all that was taken
  pub took : role ≡ true → taken ≡ all_taken
  pub took_none : role ≡ false → taken ≡ []
  -- while it fetches, all that it put and was told had been put when it took the bits
  pub based : fetching ≡ true → Within put base × AllWithin told_of base

abbrev pub SeatLists : QState → ℕ → Knows → Type 0
SeatLists q i v = SeatListsAs q.setup.senders q.owner q.reader q.log q.taken q.base i v.senders v.role v.put v.told v.taken v.fetching

pub record ListsAs (all : List ℕ) (owner : ℕ → ℕ) (reader : ℕ) (log : List Item) (all_taken : List Signal) (base : List Item)
    (seats : List Knows) : Type 0 where
  pub each : (i : ℕ) (v : Knows) → get_elem? seats i ≡ some v
      → SeatListsAs all owner reader log all_taken base i v.senders v.role v.put v.told v.taken v.fetching
  -- no signal comes from anyone else
  pub strange : (s : ℕ) → has all s ≡ false → of putter s log ≡ []

abbrev pub Lists : QState → Type 0
Lists q = ListsAs q.setup.senders q.owner q.reader q.log q.taken q.base q.seats
