-- What contracts see of queues and of the tokens of one queue, and what is true of each.
use Rattle.std.specs.Prelude.{◌≡◌, ◌≤◌, false, [], ◌∷◌}
use Rattle.atomic_table.specs.Seated.{TableId}
use Rattle.sig_layout.specs.declared.senders.TheConstants.{PIDS}
use Rattle.sig_layout.specs.declared.setup.Setup.{Setup}
use Rattle.sig_queue.specs.declared.kept.Kept.{Kept}
use Rattle.sig_queue.specs.declared.slot.Slot.TheVariants as slot
use Rattle.sig_layout.specs.declared.knows.Knows.{Knows}
use Rattle.sig_layout.specs.Sets.{no_senders}
use Rattle.sig_layout.specs.Views.{number}
use Rattle.sig_layout.specs.Core.{some_refused, Idle, Begins}
use Rattle.sig_queue.specs.Tied.{Held}
use Rattle.sig_queue.specs.Parts.{held_or}

-- a queue: which it is, and what it was opened with
pub record Queue : Type 0 where
  pub id : TableId
  pub setup : Setup

-- a token: of which queue it is, and what it knows
pub record Seated : Type 0 where
  pub queue : TableId
  pub knows : Knows

-- what the running seat keeps is what contracts see
pub record Keeps (v : Knows) (k : Kept) : Type 0 where
  pub senders_are : v.senders ≡ k.senders
  pub number_is : number v ≡ k.number
  pub low : k.number ≤ PIDS
  pub role_is : v.role ≡ k.role
  pub due_is : v.due ≡ k.due
  pub refused_is : k.refused ≡ some_refused v.refused

-- a seat between two calls
pub record IsSeat (me : Held) (k : Kept) : Type 0 where
  pub idle : Idle me.0
  pub bare : me.1 ≡ []
  pub keeps : Keeps me.0 k

-- a note: it has no sender and no role, and knows only what it was told
pub record IsNote (me : Held) : Type 0 where
  pub idle : Idle me.0
  pub bare : me.1 ≡ []
  pub nobody : me.0.senders ≡ no_senders
  pub no_role : me.0.role ≡ false
  pub not_due : me.0.due ≡ false
  pub nothing_put : me.0.put ≡ []
  pub nothing_taken : me.0.taken ≡ []
  pub no_fetches : me.0.fetches ≡ 0
  pub no_bits : me.0.bits ≡ 0
  pub nothing_emptied : me.0.emptied ≡ []
  pub unrefused : me.0.refused ≡ 0
  pub no_tries : me.0.tries ≡ []
  pub no_loads : me.0.loads ≡ []

-- a seat that holds the outer turn between two calls, for tests
pub record IsHolder (me : Held) (k : Kept) : Type 0 where
  pub begins : Begins me.0 (held_or me.0.held)
  pub slots : me.1 ≡ (0, slot.Outer (held_or me.0.held)) ∷ []
  pub parts : me.0.parts ≡ []
  pub saw : me.0.saw_off ≡ false
  pub mask : me.0.mask ≡ []
  pub back : me.0.back ≡ 0
  pub moved : me.0.moved ≡ 0
  pub progress : me.0.progress ≡ 0
  pub keeps : Keeps me.0 k
