-- The queue rule. It holds between any two steps, whatever threads do meanwhile.
use Rattle.std.specs.Prelude.{◌≡◌, ◌⊎◌, ◌↔◌, ℕ, true, false, List, [], ◌++◌, All, Some, None}
use Rattle.sig_kinds.specs.declared.signal.Signal.{Signal}
use Rattle.sig_layout.specs.declared.entry.Entry.{Entry}
use Rattle.sig_layout.specs.declared.outer.Outer.{Outer}
use Rattle.sig_layout.specs.declared.knows.Knows.{Knows}
use Rattle.sig_layout.specs.declared.item.Item.{Item}
use Rattle.sig_layout.specs.Sets.{has}
use Rattle.sig_layout.specs.Sent.{sender, putter, of, signals, Prefix, Within, AllWithin}
use Rattle.sig_layout.specs.Policies.{AllowsMode, AllowsWay, IsPeriod, RemoveDue, IsLawfulJournal, direct_count, fetch_count}
use Rattle.sig_layout.specs.Openings.{IsCarried, IsCounted}
use Rattle.sig_layout.specs.Views.{filled_at}
use Rattle.sig_layout.specs.Core.{QState, buffer_of, At}
use Rattle.sig_layout.specs.Agree.{Turn, HasOuter, HasBuffer, SeatAgrees}
use Rattle.sig_layout.specs.Law.{Ahead}
use Rattle.sig_layout.specs.Carried.{outer_count}

module _ (q : QState) where
  -- a remover has the outer turn, and has yet to pass this buffer
  abbrev pub Unpassed : ℕ → Type 0
  Unpassed c = Ahead q.removing q.progress c

  -- what is taken and what lies in the outer list
  abbrev pub come : List Signal
  come = q.taken ++ q.outer.signals

  -- s has nothing in its buffer
  abbrev pub IsClear : ℕ → Type 0
  IsClear s = of sender s (q.cells (buffer_of s)).list ≡ []

  -- the bit of the buffer stood in the mask that the fetch took: it is there yet, or was set again
  abbrev pub Stood : ℕ → Type 0
  Stood c = ((q.cells c).mask ≡ true) ⊎ (filled_at q.back c ≡ true)

  -- all of these that s put have come, or the buffer of s stood in the mask
  abbrev pub HasCome : ℕ → List Item → Type 0
  HasCome s put = Prefix (of sender s (signals put)) (of sender s come) ⊎ Stood (buffer_of s)

pub record Rule (q : QState) : Type 0 where
  -- Turns. The word of a turn is 0 where it is free. Else one seat holds the turn and knows what lies there, the word is 1 more
  -- than its number, and it has a sender or the role. No two seats have the same sender, and no two the role.
  pub outer_turn : Turn q.seats q.turn q.holder HasOuter
  pub buffer_turns : (c : ℕ) → Turn q.seats (q.cells c).word (q.cells c).holder (HasBuffer c)
  pub views : (i : ℕ) (v : Knows) → At q i v → SeatAgrees q i v
  pub one_sender : (i j : ℕ) (v w : Knows) (s : ℕ) → At q i v → At q j w → has v.senders s ≡ true → has w.senders s ≡ true → i ≡ j
  pub one_role : (i j : ℕ) (v w : Knows) → At q i v → At q j w → v.role ≡ true → w.role ≡ true → i ≡ j
  -- The queue equation. What a sender put is what was taken of it, then what the outer list has of it, then what its buffer has of
  -- it. All of it goes to the receiver, comes from a sender of the queue, and is numbered on from the sender's first number.
  pub equation : (s : ℕ) → of sender s (signals q.log) ≡ of sender s (come q) ++ of sender s (q.cells (buffer_of s)).list
  pub carried : All (IsCarried q.setup) (signals q.log)
  pub counted : IsCounted q.setup (signals q.log)
  -- Removals. While the mode is off, each buffer is empty that no remover has yet to pass.
  pub shut : (c : ℕ) → q.mode ≡ false → ((q.cells c).list ≡ []) ⊎ Unpassed q c
  -- The mode seen off. Where a seat saw it off, its senders have nothing in their buffers, or a remover has yet to pass them.
  -- Where the seat then holds the outer turn, to append there, they have nothing in their buffers.
  pub saw_off : (i : ℕ) (v : Knows) (s : ℕ) → At q i v → v.saw_off ≡ true → has v.senders s ≡ true
      → IsClear q s ⊎ Unpassed q (buffer_of s)
  pub appends : (i : ℕ) (v : Knows) (o : Outer) (s : ℕ) → At q i v → v.held ≡ Some o → v.saw_off ≡ true → has v.senders s ≡ true
      → IsClear q s
  -- The mode seen on. Where the holder of a buffer saw it on under this turn, it is on, or a remover has yet to pass the buffer.
  -- (Only such a holder appends there: the conditions of the steps say so.)
  pub saw_on : (c : ℕ) → (q.cells c).sure ≡ true → (q.mode ≡ true) ⊎ Unpassed q c
  -- Bits. Where a buffer isn't empty, or its holder has set its bit, the bit is set, or the fetch that has the outer turn has it,
  -- or a remover has yet to pass the buffer. (A holder appends only after it has set the bit, and a fetch ends only with an empty
  -- mask: so say the conditions.)
  pub marked : (c : ℕ) → (((q.cells c).list ≡ []) × ((q.cells c).set ≡ false)) ⊎
      ((filled_at q.filled c ≡ true) ⊎ (((q.fetching ≡ true) × ((q.cells c).mask ≡ true)) ⊎ Unpassed q c))
  -- The journal. It is lawful, and while the outer turn is free the mode is on exactly where the journal is in the installed state.
  -- It has a Direct entry for each put into the outer list and a Fetch entry for each fetch of the seat with the role, which knows
  -- a removal to be due exactly where one is.
  pub lawful : IsLawfulJournal q.setup.policy q.outer.journal
  pub mode : q.holder ≡ None → (p : List Entry) × IsPeriod q.outer.journal q.mode p
  pub directs : direct_count q.outer.journal ≡ outer_count q.log
  pub fetches : (i : ℕ) (v : Knows) → At q i v → v.role ≡ true → v.fetches ≡ fetch_count q.outer.journal
  pub due : (i : ℕ) (v : Knows) → At q i v → v.role ≡ true → (v.due ≡ true) ↔ RemoveDue q.setup.policy q.outer.journal
  -- The policies that never switch. Under Never the mode is off for ever, so that no seat sees it on, and all that is put goes into
  -- the outer list. Under Always it is on for ever, so that no seat sees it off, and all that is put goes into buffers.
  pub steady : AllowsMode q.setup.policy q.mode
  pub steady_on : (c : ℕ) → (q.cells c).sure ≡ true → AllowsMode q.setup.policy true
  pub steady_off : (i : ℕ) (v : Knows) → At q i v → v.saw_off ≡ true → AllowsMode q.setup.policy false
  pub ways : All (λ (x : Item). AllowsWay q.setup.policy x.via) q.log
  -- Freshness. What a seat put, and what it was told, are fronts of what each sender put; for its own senders, what it put is all
  -- of that. What the seat with the role took is what was taken. Where a seat has taken the bits, all that it put and was told has
  -- come, but of senders whose buffers stood in the mask that it took.
  pub put : (i : ℕ) (v : Knows) → At q i v → Within v.put q.log
  pub told : (i : ℕ) (v : Knows) → At q i v → AllWithin v.told q.log
  pub own : (i : ℕ) (v : Knows) (s : ℕ) → At q i v → has v.senders s ≡ true → of putter s v.put ≡ of putter s q.log
  pub took : (i : ℕ) (v : Knows) → At q i v → v.role ≡ true → v.taken ≡ q.taken
  pub fresh_put : (i : ℕ) (v : Knows) (s : ℕ) → At q i v → v.fetching ≡ true → HasCome q s v.put
  pub fresh_told : (i : ℕ) (v : Knows) (s : ℕ) → At q i v → v.fetching ≡ true → All (HasCome q s) v.told
