-- The buffers, the bits and the mode are in order.
use Rattle.std.specs.Prelude.{◌≡◌, ◌≢◌, ◌⊎◌, ℕ, ◌≤◌, Bool, true, false, [], ◌++◌, Some}
use Rattle.sig_layout.specs.declared.layout.TheConstants.{BUFFERS}
use Rattle.sig_layout.specs.Sent.{sender, of, signals, Prefix}
use Rattle.sig_layout.specs.Views.{filled_at}
use Rattle.sig_layout.specs.Core.{Cell, QState, buffer_of}

-- a removal is under way, and has not passed c
abbrev pub Ahead : Bool → ℕ → ℕ → Type 0
Ahead removing progress c = (removing ≡ true) × (progress ≤ c)

pub record CellOk (mode fetching removing : Bool) (progress c : ℕ) (filled : Bool) (x : Cell) : Type 0 where
  pub far : BUFFERS ≤ c → (x.list ≡ []) × (x.set ≡ false) × (x.sure ≡ false)
  -- a buffer has the signals of its own senders
  pub near : (s : ℕ) → buffer_of s ≢ c → of sender s x.list ≡ []
  -- while the mode is off, a buffer is empty, or a removal has yet to pass it
  pub shut : mode ≡ false → (x.list ≡ []) ⊎ Ahead removing progress c
  -- where a holder saw the mode on, it is on, or a removal has yet to pass the buffer
  pub knows_on : x.sure ≡ true → (mode ≡ true) ⊎ Ahead removing progress c
  -- what isn't empty, or will not be, is marked
  pub marked : ((x.list ≡ []) × (x.set ≡ false)) ⊎
      ((filled ≡ true) ⊎ (((fetching ≡ true) × (x.mask ≡ true)) ⊎ Ahead removing progress c))

pub record Law (q : QState) : Type 0 where
  pub each : (c : ℕ) → CellOk q.mode q.fetching q.removing q.progress c (filled_at q.filled c) (q.cells c)
  -- what a sender put is what was taken of it, then what the outer list has of it, and then what its buffer has of it
  pub flows : (s : ℕ) → of sender s (signals q.log) ≡ of sender s (q.taken ++ q.outer.signals) ++ of sender s
      (q.cells (buffer_of s)).list
  -- where a seat saw the mode off, its senders have nothing in their buffers, or a removal has yet to pass them
  pub knows_off : (s : ℕ) → q.saw_off (q.owner s) ≡ true
      → (of sender s (q.cells (buffer_of s)).list ≡ []) ⊎ Ahead q.removing q.progress (buffer_of s)
  pub off : q.removing ≡ true → q.mode ≡ false
  pub one : q.removing ≡ true → q.fetching ≡ false
  -- a remover never saw the mode off
  pub quiet : (i : ℕ) → q.removing ≡ true → q.holder ≡ Some i → q.saw_off i ≡ false
  -- a fetch that took the bits: all that had been put is taken or in the outer list, or the bit of its buffer is still in the
  -- mask, or was set again
  pub fresh : q.fetching ≡ true → (s : ℕ) → Prefix (of sender s (signals q.base)) (of sender s (q.taken ++ q.outer.signals)) ⊎
      (((q.cells (buffer_of s)).mask ≡ true) ⊎ (filled_at q.back (buffer_of s) ≡ true))
  -- what had been put when the bits were taken is still the front of what was put
  pub grown : q.fetching ≡ true → (s : ℕ) → Prefix (of sender s (signals q.base)) (of sender s (signals q.log))
