-- How a queue is opened and how it ends, as its callers see it.
use Rattle.std.specs.Prelude.{◌≡◌, ℕ, All, List, ◌++◌}
use mathlib.Core.Option.{some}
use lib.ListN.{get_elem?}
use Rattle.sig_kinds.specs.declared.queue_data.QueueData.{QueueData}
use Rattle.sig_kinds.specs.declared.signal.Signal.{Signal}
use Rattle.sig_layout.specs.declared.layout.TheConstants.{BUFFERS}
use Rattle.sig_layout.specs.declared.policy.Policy.{Policy}
use Rattle.sig_layout.specs.declared.item.Item.{Item}
use Rattle.sig_layout.specs.declared.entry.Entry.{Entry}
use Rattle.sig_layout.specs.declared.opening.Opening.{Opening}
use Rattle.sig_layout.specs.declared.setup.Setup.{Setup}
use Rattle.sig_layout.specs.declared.knows.Knows.{Knows}
use Rattle.sig_layout.specs.Policies.{ruled, AllowsWay, IsLawfulJournal, direct_count, fetch_count}
use Rattle.sig_layout.specs.Openings.{IsCarried, IsCounted}
use Rattle.sig_layout.specs.Carried.{outer_count}
use Rattle.sig_layout.specs.Sent.{sender, of, signals}
use Rattle.sig_layout.specs.Core.{QState, Reached}
use Rattle.sig_layout.specs.Rooms.{all_pieces}
use Rattle.sig_layout.specs.Views.{table_from}
use Rattle.sig_queue.specs.Parts.{OfBuffer}

-- what a queue is opened with. On the heap it goes by Never, whatever policy is given
abbrev pub setup_of : Policy → QueueData → List ℕ → Opening → Setup
setup_of policy queue_data senders opening = record {
  policy = ruled policy queue_data;
  given = policy;
  queue_data = queue_data;
  senders = senders;
  opening = opening;
}

-- what lies in a state of the core: the outer list, and then buffers 0 to 63
abbrev pub left_in : QState → List Signal
left_in q = q.outer.signals ++ all_pieces (table_from 0 BUFFERS (λ c. (q.cells c).list))

-- The end of a queue that was opened with z, by a seat that had the view v
pub record EndsAs (z : Setup) (v : Knows) (rest : List Signal) (journal : List Entry) : Type 0 where
  -- what each sender put is what was taken of it, and then what is left of it
  pub order : (s : ℕ) → of sender s (signals v.put) ≡ of sender s (v.taken ++ rest)
  -- all of it comes from senders of the queue and goes to its receiver, and the numbers of each sender count up from its first
  pub carried : All (IsCarried z) (signals v.put)
  pub counted : IsCounted z (signals v.put)
  pub left : All (IsCarried z) rest
  -- under Never, and on the heap, none of it was put into a buffer, and under Always off the heap none into the outer list
  pub ways : All (λ (x : Item). AllowsWay z.policy x.via) v.put
  -- the journal has an Install and a Remove where one was due, a Direct for each put into the outer list, and a Fetch for each fetch
  pub lawful : IsLawfulJournal z.policy journal
  pub directs : direct_count journal ≡ outer_count v.put
  pub fetches : fetch_count journal ≡ v.fetches
  -- the core ended in this state, in which the seat had the view v. What lies there is left, each buffer with its own signals
  pub core : QState
  pub reached : Reached z core
  pub seat : ℕ
  pub seen : get_elem? core.seats seat ≡ some v
  pub rest_is : rest ≡ left_in core
  pub journal_is : journal ≡ core.outer.journal
  pub near : (b : ℕ) → OfBuffer b (core.cells b).list
