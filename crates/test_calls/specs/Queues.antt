-- The queues of the tests of threads.
use Rattle.std.specs.Prelude.{◌≡◌, ℕ, ◌++◌, Bool, true, false, List, [], ◌∷◌, Option, Some, None}
use Rattle.sig_kinds.specs.declared.signal.Signal.{Signal}
use Rattle.sig_layout.specs.declared.opening.Opening.{Opening}
use Rattle.sig_layout.specs.declared.item.Item.{Item}
use Rattle.sig_layout.specs.declared.via.Via.{Via}
use Rattle.sig_layout.specs.declared.knows.Knows.{Knows}
use Rattle.sig_layout.specs.Sets.{has}
use Rattle.sig_layout.specs.Views.{first_seat}
use Rattle.sig_queue.specs.Parts.{item}
use Rattle.example_relay.specs.declared.relaying.Line.{Line}
use Rattle.example_relay.specs.Relays.{Sender}
use Rattle.sig_queue.specs.Seats.{Queue, Seated}
use Rattle.sig_queue.specs.declared.offer.Offer.{Offer}
use Rattle.sig_queue.specs.declared.offer.Offer.TheVariants as offer

-- a seat that has put nothing, and may put messages of this line
pub record Puts (q : Queue) (l : Line) (s : Seated) : Type 0 where
  pub own : s.queue ≡ q.id
  pub sender : Sender q.setup l
  pub can : has s.knows.senders l.from.0 ≡ true
  pub none_put : s.knows.put ≡ []

-- a seat of this queue, with these senders
abbrev pub Keeps : Queue → List ℕ → Seated → Type 0
Keeps q senders s = (s.queue ≡ q.id) × (s.knows.senders ≡ senders)

-- the seat has the queue, the senders and the role as before
abbrev pub Stays : Seated → Seated → Type 0
Stays s t = (t.queue ≡ s.queue) × (t.knows.senders ≡ s.knows.senders) × (t.knows.role ≡ s.knows.role)

-- four processes, the first of which receives, and each sender's numbers are from 1 on
abbrev pub IsOfFour : Opening → Type 0
IsOfFour o = (o.receiver.0 ≡ 0) × (o.count ≡ 4) × (o.first ≡ 1 ∷ 1 ∷ 1 ∷ 1 ∷ [])

-- the first seat of a queue for these processes and senders
pub record IsFresh (q : Queue) (senders : List ℕ) (s : Seated) : Type 0 where
  pub own : s.queue ≡ q.id
  pub senders_are : q.setup.senders ≡ senders
  pub four : IsOfFour q.setup.opening
  pub first : s.knows ≡ first_seat senders

-- the seat has the role, and all senders of the queue
pub record HasAll (q : Queue) (s : Seated) : Type 0 where
  pub own : s.queue ≡ q.id
  pub role : s.knows.role ≡ true
  pub all : (t : ℕ) → has q.setup.senders t ≡ true → has s.knows.senders t ≡ true

-- what was put once the signal was put this way, or wasn't
abbrev pub put_after : List Item → Signal → Option Via → List Item
put_after put x None = put
put_after put x (Some way) = put ++ item way x ∷ []

-- the way of an offer that was put
abbrev pub via_by : Offer → Option Via
via_by (offer.Put way) = Some way
via_by (offer.Busy y n) = None
via_by (offer.Memory y) = None

abbrev pub is_put : Option Via → Bool
is_put None = false
is_put (Some way) = true

-- the senders, the role and whether a removal is due are as before
abbrev pub SameHand : Knows → Knows → Type 0
SameHand v w = (w.senders ≡ v.senders) × (w.role ≡ v.role) × (w.due ≡ v.due)
