-- The table at the start and at the end: its words and slots, and the seat that ends it.
use Rattle.std.specs.Prelude.{◌≡◌, ℕ, true, List, [], ◌∷◌, replicate, slice_index_or}
use Rattle.sig_kinds.specs.declared.signal.Signal.{Signal}
use Rattle.sig_layout.specs.declared.layout.TheConstants.{BUFFERS}
use Rattle.sig_layout.specs.declared.policy.Policy.{Policy}
use Rattle.sig_layout.specs.declared.outer.Outer.{Outer}
use Rattle.sig_layout.specs.declared.setup.Setup.{Setup}
use Rattle.sig_layout.specs.Policies.{begins_on, first_journal}
use Rattle.sig_layout.specs.Sets.{has}
use Rattle.sig_layout.specs.Core.{Idle}
use Rattle.sig_queue.specs.declared.slot.Slot.{Slot}
use Rattle.sig_queue.specs.declared.slot.Slot.TheVariants as slot
use Rattle.sig_layout.specs.Views.{mode_word, table_from}
use Rattle.sig_queue.specs.Tied.{Held, apart, list_or}

-- the words of all turns
unfoldable pub zeros : List ℕ
zeros = replicate BUFFERS 0

abbrev pub first_words : Policy → List ℕ
first_words p = apart (0 ∷ mode_word (begins_on p) ∷ 0 ∷ zeros)

abbrev pub first_outer : Policy → Outer
first_outer p = record { signals = []; journal = first_journal p }

-- so many empty buffers
abbrev pub buffers : ℕ → List Slot
buffers n = replicate n (slot.List [])

unfoldable pub all_buffers : List Slot
all_buffers = buffers BUFFERS

-- the lists of the slots from k on, n of them
abbrev pub lists_in : List Slot → ℕ → ℕ → List (List Signal)
lists_in xs k n = table_from k n (λ c. list_or (slice_index_or xs c slot.Out))

-- a seat that may end its queue: it has all senders and the role, and holds nothing
pub record IsEnding (z : Setup) (me : Held) : Type 0 where
  pub idle : Idle me.0
  pub bare : me.1 ≡ []
  pub role : me.0.role ≡ true
  pub every : (s : ℕ) → has z.senders s ≡ true → has me.0.senders s ≡ true
