-- Workers' parts.
use Rattle.std.specs.Prelude.{◌≡◌, ◌==◌, ℕ, ◌+◌, ◌≤◌, ◌<◌, nat_le, nat_lt, List, [], ◌++◌, length, Bool, true, false, not, ◌&&◌, IfOk, slice_index_or, slice_get, slice_set, Some, Result}
use Rattle.std.specs.Bool.{MatchBool}
use Rattle.std.specs.declared.alloc.AllocError.{AllocError}
use Rattle.sig_model.specs.Running.{Running}
use Rattle.sig_model.specs.Still.{IsStill}
use Rattle.sig_process.specs.Standing.{Standing, runnings_of}
use Rattle.sig_layout.specs.Sets.{has}
use Rattle.sig_layout.specs.Views.{joined}
use Rattle.sig_queue.specs.Seats.{Queue, Seated}
use Rattle.sig_workers.specs.SeatAccounts.{put_by, taken_at}
use Rattle.sig_workers.specs.Gone.{HasGone, IsReady}
use Rattle.sig_workers.specs.Visits.{HasMoved}
use Rattle.sig_workers.specs.Acting.{ActBelow}
use Rattle.sig_workers.specs.declared.part.Part.{Part}
use Rattle.sig_workers.specs.declared.part.Worked.{Worked}

-- the processes of a part, and those of the crew when the round began
abbrev pub procs_of : Part → List Running
procs_of part = runnings_of part.procs.items

abbrev pub crew_of : Part → List Standing
crew_of part = part.base.crew.value.items

abbrev pub base_of : Part → List Running
base_of part = runnings_of (crew_of part)

-- the process s is one of these, of which there are so many from the first one on
unfoldable pub is_in : ℕ → ℕ → ℕ → Bool
is_in first count s = nat_le first s && nat_lt s (first + count)

-- the seat is of the queue of p
pub record IsOwn (queues : List Queue) (p : ℕ) (v : Seated) : Type 0 where
  pub queue : Queue
  pub here : slice_get queues p ≡ Some queue
  pub own : v.queue ≡ queue.id

-- the seat at the queue of p of the part that has these processes
pub record IsSeat (queues : List Queue) (first count p : ℕ) (v : Seated) : Type 0 where
  pub own : IsOwn queues p v
  pub senders : (s : ℕ) → has v.knows.senders s ≡ (is_in first count s && not (s == p))
  pub role : v.knows.role ≡ is_in first count p

-- the seats of the part that has these processes: at each queue one, where nothing was put or taken for others
pub record AreSeats (queues : List Queue) (first count : ℕ) (seats : List Seated) : Type 0 where
  pub many : length seats ≡ length queues
  pub seat : (p : ℕ) (v : Seated) → slice_get seats p ≡ Some v → IsSeat queues first count p v
  pub no_put : (s p : ℕ) → is_in first count s ≡ false → put_by s p seats ≡ []
  pub no_take : (p : ℕ) → is_in first count p ≡ false → taken_at p seats ≡ []

-- For the process q the later seats are as good: at the same queues, for it where they were, and with what was put for it and taken
-- for it.
pub record LooksSame (q : ℕ) (seats later : List Seated) : Type 0 where
  pub many : length later ≡ length seats
  pub old : (p : ℕ) (w : Seated) → slice_get later p ≡ Some w → Seated
  pub there : (p : ℕ) (w : Seated) (at : slice_get later p ≡ Some w) → slice_get seats p ≡ Some (old p w at)
  pub queue : (p : ℕ) (w : Seated) (at : slice_get later p ≡ Some w) → w.queue ≡ (old p w at).queue
  pub sender : (p : ℕ) (w : Seated) (at : slice_get later p ≡ Some w) → has (old p w at).knows.senders q ≡ true → has w.knows.senders q ≡ true
  pub role : (w : Seated) (at : slice_get later q ≡ Some w) → (old q w at).knows.role ≡ true → w.knows.role ≡ true
  pub puts : (p : ℕ) → put_by q p later ≡ put_by q p seats
  pub takes : taken_at q later ≡ taken_at q seats

-- the process pid is ready, has nothing in its outbox, and has gone on from what it was when the round began
pub record HasPlace (queues : List Queue) (base : List Running) (seats : List Seated) (pid : ℕ) (r : Running) : Type 0 where
  pub ready : IsReady queues pid r seats
  pub clear : r.outbox ≡ []
  pub was : Running
  pub there : slice_get base pid ≡ Some was
  pub gone : HasGone pid was r seats

pub record IsPart (queues : List Queue) (part : Part) : Type 0 where
  pub few : length queues ≤ 256
  pub within : part.first + length (procs_of part) ≤ length queues
  pub seats : AreSeats queues part.first (length (procs_of part)) part.seats.items
  pub procs : (i : ℕ) (r : Running) → slice_get (procs_of part) i ≡ Some r → HasPlace queues (base_of part) part.seats.items (part.first + i) r

-- the later part has the same processes, and began with the same crew
pub record IsSamePart (part later : Part) : Type 0 where
  pub first : later.first ≡ part.first
  pub count : length (procs_of later) ≡ length (procs_of part)
  pub base : crew_of later ≡ crew_of part

-- the process at this place was visited
pub record HasVisited (at : ℕ) (procs later : List Running) (moved : Bool) : Type 0 where
  pub old : Running
  pub there : slice_get procs at ≡ Some old
  pub new : Running
  pub set : later ≡ slice_set procs at new
  pub moved_is : HasMoved old new moved
  pub events : length old.events ≤ length new.events

-- each process has the events that it had
abbrev pub Grow : List Running → List Running → Type 0
Grow procs later = (i : ℕ) (t : Running) → slice_get later i ≡ Some t → (r : Running) × (slice_get procs i ≡ Some r) × (length r.events ≤ length t.events)

-- some process has more
pub record AnyMore (procs later : List Running) : Type 0 where
  pub at : ℕ
  pub old : Running
  pub there : slice_get procs at ≡ Some old
  pub new : Running
  pub here : slice_get later at ≡ Some new
  pub more : length old.events < length new.events

-- none of the first n has more, and they can do nothing
abbrev pub StillBelow : ℕ → List Running → List Running → Type 0
StillBelow n procs later = (i : ℕ) (t : Running) → i < n → slice_get later i ≡ Some t → (r : Running) × (slice_get procs i ≡ Some r) × (length t.events ≡ length r.events) × IsStill t

abbrev pub HavePassed : List Running → List Running → Bool → Type 0
HavePassed procs later moved = MatchBool moved (AnyMore procs later) (StillBelow (length later) procs later)

pub record HasWorked (queues : List Queue) (given : Part) (w : Worked) : Type 0 where
  pub part : IsPart queues w.part
  pub same : IsSamePart given w.part
  pub passed : HavePassed (procs_of given) (procs_of w.part) w.moved
  pub acted : ActBelow (length w.part.procs.items) given.procs.items w.part.procs.items

-- the result of each part's work
abbrev pub HaveWorked : List Queue → List Part → List (Result Worked AllocError) → Type 0
HaveWorked queues parts done =
    (i : ℕ) (p : Part) (d : Result Worked AllocError) → i < length parts → IfOk (slice_index_or done i d) (HasWorked queues (slice_index_or parts i p))

-- the later seat is these two, joined
pub record IsJoined (v u w : Seated) : Type 0 where
  pub queue : w.queue ≡ v.queue
  pub knows : w.knows ≡ joined v.knows u.knows

-- the later seats are these and those, joined
pub record AreJoined (seats others later : List Seated) : Type 0 where
  pub many : length later ≡ length seats
  pub here : (p : ℕ) (w : Seated) → slice_get later p ≡ Some w → (v : Seated) × (u : Seated) × (slice_get seats p ≡ Some v) × (slice_get others p ≡ Some u) × IsJoined v u w

-- the later part has the processes of both
pub record HasJoined (part other later : Part) : Type 0 where
  pub first : later.first ≡ part.first
  pub base : crew_of later ≡ crew_of part
  pub procs : later.procs.items ≡ part.procs.items ++ other.procs.items
