-- Queues are closed, and what they have left is handed over.
use Rattle.std.specs.Prelude.{◌≡◌, ℕ, true, false, List, ◌++◌, slice_get, Some, All}
use Rattle.sig_kinds.specs.declared.signal.Signal.{Signal}
use Rattle.sig_model.specs.Running.{Running}
use Rattle.sig_model.specs.Keeping.{IsKeeping}
use Rattle.sig_model.specs.Accounts.{coming_from}
use Rattle.sig_layout.specs.Sets.{has}
use Rattle.sig_layout.specs.Sent.{signals}
use Rattle.sig_layout.specs.Openings.{IsCarried}
use Rattle.sig_queue.specs.Seats.{Queue, Seated}
use Rattle.sig_queue.specs.declared.account.Account.{Account}
use Rattle.sig_queue.specs.Accounts.{account_of}
use Rattle.sig_workers.specs.Gone.{Continued}

-- the queue of this process may be closed with this seat
pub record CanClose (q : Queue) (v : Seated) (r : Running) : Type 0 where
  pub own : v.queue ≡ q.id
  pub role : v.knows.role ≡ true
  pub all : (s : ℕ) → has q.setup.senders s ≡ true → has v.knows.senders s ≡ true
  pub receiver : q.setup.opening.receiver.0 ≡ r.pid
  pub count : q.setup.opening.count ≡ r.count
  pub strange : has q.setup.senders r.pid ≡ false
  pub continued : Continued q r v

-- it was closed: what it had left waits for the process, and the receipt says all that was put
pub record HasClosed (q : Queue) (v : Seated) (r : Running) (a : Account) (t : Running) : Type 0 where
  pub left : List Signal
  pub given : t ≡ record r { taken_in = r.taken_in ++ left }
  pub order : (s : ℕ) → coming_from s (signals v.knows.put) ≡ coming_from s (v.knows.taken ++ left)
  pub carried : All (IsCarried q.setup) (signals v.knows.put)
  pub account : a ≡ account_of q.setup v.knows.put
  pub keeping : IsKeeping r → IsKeeping t

-- the process p of the later crew has what its queue had left
pub record IsClosedAt (queues : List Queue) (seats : List Seated) (procs : List Running) (p : ℕ) (a : Account) (t : Running) : Type 0 where
  pub q : Queue
  pub v : Seated
  pub r : Running
  pub queue : slice_get queues p ≡ Some q
  pub seat : slice_get seats p ≡ Some v
  pub process : slice_get procs p ≡ Some r
  pub closed : HasClosed q v r a t
