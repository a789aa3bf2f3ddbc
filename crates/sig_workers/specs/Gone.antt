-- How far a process has gone in a round.
use Rattle.std.specs.Prelude.{◌≡◌, ◌≢◌, ℕ, ◌+◌, ◌<◌, ◌≤◌, true, false, List, [], ◌++◌, length, Some, slice_get}
use Rattle.sig_kinds.specs.declared.signal.Signal.{Signal}
use Rattle.sig_model.specs.declared.event.Event.{Event}
use Rattle.sig_model.specs.Running.{Running}
use Rattle.sig_model.specs.Keeping.{IsKeeping}
use Rattle.sig_model.specs.Accounts.{came, went, bound_for, coming_from}
use Rattle.sig_layout.specs.Sets.{has}
use Rattle.sig_layout.specs.Sent.{signals}
use Rattle.sig_layout.specs.Openings.{first_of}
use Rattle.sig_queue.specs.Seats.{Queue, Seated}
use Rattle.sig_workers.specs.SeatAccounts.{put_by, taken_at}

-- the process b is r now, perhaps with more events
pub record HasGoneOn (b r : Running) : Type 0 where
  pub count : r.count ≡ b.count
  pub turns : r.turns ≡ b.turns
  pub proc : r.proc ≡ b.proc
  pub events : (more : List Event) × (r.events ≡ b.events ++ more)
  pub stamp : b.state.counts.stamp ≤ r.state.counts.stamp
  pub later : length b.events < length r.events → b.state.counts.stamp < r.state.counts.stamp

-- The process pid was b when the round began, and is r now, with these seats: what came to it since then is what its seat took, and
-- what it sent since then is what its seats put, and then what lies in its outbox.
pub record HasGone (pid : ℕ) (b r : Running) (seats : List Seated) : Type 0 where
  pub clear : b.outbox ≡ []
  pub on : HasGoneOn b r
  pub came : (s : ℕ) → s ≢ pid → came s r ≡ came s b ++ coming_from s (taken_at pid seats)
  pub went : (p : ℕ) → p ≢ pid → went p r ≡ (went p b ++ put_by pid p seats) ++ bound_for p r.outbox
  -- without an event it has only taken in
  pub still : length r.events ≡ length b.events → r ≡ record b { taken_in = b.taken_in ++ taken_at pid seats }

-- of the signals of r to p those that lie in its outbox are the last, and the number of the first of these is this one more than so many
abbrev pub HasSent : ℕ → Running → ℕ → ℕ → Type 0
HasSent p r first many = (before : List Signal) × (went p r ≡ before ++ bound_for p r.outbox) × (length before + 1 ≡ first + many)

-- The seat v of the queue of p puts for the process pid: what it put is all that pid sent in the round but what lies in pid's outbox,
-- and the next number is the one after.
pub record PutsFor (queues : List Queue) (pid p : ℕ) (r : Running) (v : Seated) : Type 0 where
  pub queue : Queue
  pub here : slice_get queues p ≡ Some queue
  pub own : v.queue ≡ queue.id
  pub sender : has v.knows.senders pid ≡ true
  pub asked : has queue.setup.senders pid ≡ true
  pub receiver : queue.setup.opening.receiver.0 ≡ p
  pub count : queue.setup.opening.count ≡ r.count
  pub sent : HasSent p r (first_of queue.setup pid) (length (coming_from pid (signals v.knows.put)))

-- what came to the process of s is as much as s had sent to it before the round, and then what the seat took of it
abbrev pub Continued : Queue → Running → Seated → Type 0
Continued q r v = (s : ℕ) → has q.setup.senders s ≡ true → length (came s r) + 1 ≡ first_of q.setup s + length (coming_from s v.knows.taken)

-- the seat v of the queue of pid takes for the process pid
pub record TakesFor (queues : List Queue) (pid : ℕ) (r : Running) (v : Seated) : Type 0 where
  pub queue : Queue
  pub here : slice_get queues pid ≡ Some queue
  pub own : v.queue ≡ queue.id
  pub role : v.knows.role ≡ true
  pub receiver : queue.setup.opening.receiver.0 ≡ pid
  pub count : queue.setup.opening.count ≡ r.count
  pub strange : has queue.setup.senders pid ≡ false
  pub continued : Continued queue r v

-- the process and the seats are ready for a visit
pub record IsReady (queues : List Queue) (pid : ℕ) (r : Running) (seats : List Seated) : Type 0 where
  pub pid_is : r.pid ≡ pid
  pub keeping : IsKeeping r
  pub many : length seats ≡ length queues
  pub count : r.count ≡ length queues
  pub few : length queues ≤ 256
  pub puts : (p : ℕ) (v : Seated) → p ≢ pid → slice_get seats p ≡ Some v → PutsFor queues pid p r v
  pub takes : (v : Seated) → slice_get seats pid ≡ Some v → TakesFor queues pid r v

-- the seat is of the same queue, and has the same senders and role
pub record IsSameSeat (v w : Seated) : Type 0 where
  pub queue : w.queue ≡ v.queue
  pub senders : w.knows.senders ≡ v.knows.senders
  pub role : w.knows.role ≡ v.knows.role

-- other seats, in which nothing was put for another process, or taken for another
pub record KeepOthers (pid : ℕ) (seats later : List Seated) : Type 0 where
  pub many : length later ≡ length seats
  pub seat : (p : ℕ) (w : Seated) → slice_get later p ≡ Some w → (v : Seated) × (slice_get seats p ≡ Some v) × IsSameSeat v w
  pub puts : (s p : ℕ) → s ≢ pid → put_by s p later ≡ put_by s p seats
  pub takes : (p : ℕ) → p ≢ pid → taken_at p later ≡ taken_at p seats

-- the process goes from r to t, and its seats from `seats` to `later`
pub record Goes (queues : List Queue) (pid : ℕ) (r : Running) (seats : List Seated) (t : Running) (later : List Seated) : Type 0 where
  pub ready : IsReady queues pid t later
  pub others : KeepOthers pid seats later
  pub gone : (b : Running) → HasGone pid b r seats → HasGone pid b t later
  pub events : length r.events ≤ length t.events
