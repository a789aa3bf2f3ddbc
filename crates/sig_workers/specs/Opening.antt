-- Queues are opened for a crew, and its seats are cut.
use Rattle.std.specs.Prelude.{◌≡◌, ◌==◌, ℕ, ◌<◌, ◌≤◌, ◌^◌, not, ◌&&◌, List, [], length, map, slice_get, slice_index, Some}
use Rattle.sig_model.specs.Running.{Running}
use Rattle.sig_layout.specs.declared.policy.Policy.{Policy}
use Rattle.sig_layout.specs.Sets.{has}
use Rattle.sig_layout.specs.Views.{first_seat}
use Rattle.sig_queue.specs.Seats.{Queue, Seated}
use Rattle.sig_workers.specs.Parts.{is_in}

-- the number of the next signal of each process to p
abbrev pub numbers_to : ℕ → List Running → List ℕ
numbers_to p crew = map (λ (r : Running). slice_index r.state.counts.next_numbers p) crew

-- the numbers of the next signals lie between 1 and 2^63
abbrev pub AreNumbered : List Running → Type 0
AreNumbered crew = (p s : ℕ) (r : Running) → slice_get crew s ≡ Some r → p < length crew → (1 ≤ slice_index r.state.counts.next_numbers p) × (slice_index r.state.counts.next_numbers p < 2 ^ 63)

-- the seat that has all senders of a queue, and the role
abbrev pub first_seated : Queue → Seated
first_seated q = record { queue = q.id; knows = first_seat q.setup.senders }

-- the queue of p, of a crew: it keeps messages where the process does
pub record IsQueueOf (policy : Policy) (crew : List Running) (p : ℕ) (q : Queue) : Type 0 where
  pub policy_is : q.setup.given ≡ policy
  pub queue_data_is : (r : Running) → slice_get crew p ≡ Some r → q.setup.queue_data ≡ r.proc.queue_data
  pub receiver : q.setup.opening.receiver.0 ≡ p
  pub count : q.setup.opening.count ≡ length crew
  pub senders : (s : ℕ) → has q.setup.senders s ≡ (is_in 0 (length crew) s && not (s == p))
  pub first : q.setup.opening.first ≡ numbers_to p crew

-- the queues of a crew, each with the seat that has all
pub record AreOpened (policy : Policy) (crew : List Running) (queues : List Queue) (seats : List Seated) : Type 0 where
  pub many : length seats ≡ length queues
  pub each : (p : ℕ) (q : Queue) → slice_get queues p ≡ Some q → IsQueueOf policy crew p q × (slice_get seats p ≡ Some (first_seated q))

-- a seat at the queue of p for these processes, with which nothing was done yet
pub record IsFreshSeat (q : Queue) (first count p : ℕ) (v : Seated) : Type 0 where
  pub queue : v.queue ≡ q.id
  pub senders : (s : ℕ) → has v.knows.senders s ≡ (is_in first count s && not (s == p))
  pub role : v.knows.role ≡ is_in first count p
  pub put : v.knows.put ≡ []
  pub taken : v.knows.taken ≡ []

-- such a seat at each queue
pub record AreFresh (queues : List Queue) (first count : ℕ) (seats : List Seated) : Type 0 where
  pub many : length seats ≡ length queues
  pub each : (p : ℕ) (v : Seated) → slice_get seats p ≡ Some v → (q : Queue) × (slice_get queues p ≡ Some q) × IsFreshSeat q first count p v
