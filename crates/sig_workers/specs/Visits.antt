-- What the calls of a visit do.
use Rattle.std.specs.Prelude.{◌≡◌, ℕ, ◌+◌, ◌<◌, ◌≤◌, Bool, true, false, List, [], ◌∷◌, ◌++◌, length, All, None, Some, slice_get, slice_set}
use Rattle.std.specs.Bool.{MatchBool}
use Rattle.sig_kinds.specs.declared.signal.Signal.{Signal}
use Rattle.sig_kinds.specs.Counting.{IsCounting}
use Rattle.sig_model.specs.Running.{Running, exec_next}
use Rattle.sig_process.specs.Standing.{Standing}
use Rattle.sig_model.specs.Still.{IsStill}
use Rattle.sig_model.specs.Accounts.{coming_from}
use Rattle.sig_layout.specs.declared.via.Via.{Via}
use Rattle.sig_layout.specs.Sets.{has}
use Rattle.sig_layout.specs.Openings.{first_of, IsNext, IsCarried}
use Rattle.sig_queue.specs.Seats.{Queue, Seated}
use Rattle.sig_queue.specs.Parts.{item}

-- the seat v may put the signal
pub record MayPut (queues : List Queue) (v : Seated) (x : Signal) : Type 0 where
  pub queue : Queue
  pub here : slice_get queues x.to.0 ≡ Some queue
  pub own : v.queue ≡ queue.id
  pub sender : has v.knows.senders x.from.0 ≡ true
  pub next : IsNext queue.setup v.knows.put x

-- the seat has put it
pub record HasPut (v : Seated) (x : Signal) (way : Via) (w : Seated) : Type 0 where
  pub queue : w.queue ≡ v.queue
  pub senders : w.knows.senders ≡ v.knows.senders
  pub role : w.knows.role ≡ v.knows.role
  pub put : w.knows.put ≡ v.knows.put ++ item way x ∷ []
  pub taken : w.knows.taken ≡ v.knows.taken

-- the seat at the receiver's place has put it
pub record WasPut (seats : List Seated) (x : Signal) (way : Via) (later : List Seated) : Type 0 where
  pub old : Seated
  pub there : slice_get seats x.to.0 ≡ Some old
  pub new : Seated
  pub set : later ≡ slice_set seats x.to.0 new
  pub put : HasPut old x way new

-- no removal is due at the seat, which is as before but for that
pub record IsRemoved (v w : Seated) : Type 0 where
  pub queue : w.queue ≡ v.queue
  pub senders : w.knows.senders ≡ v.knows.senders
  pub role : w.knows.role ≡ v.knows.role
  pub put : w.knows.put ≡ v.knows.put
  pub taken : w.knows.taken ≡ v.knows.taken
  pub due : w.knows.due ≡ false

-- The seat has taken these: they are signals of the queue, and the numbers of each sender go on from those that were taken before.
pub record IsFetched (q : Queue) (v : Seated) (xs : List Signal) (w : Seated) : Type 0 where
  pub queue : w.queue ≡ v.queue
  pub senders : w.knows.senders ≡ v.knows.senders
  pub role : w.knows.role ≡ v.knows.role
  pub put : w.knows.put ≡ v.knows.put
  pub taken : w.knows.taken ≡ v.knows.taken ++ xs
  pub carried : All (IsCarried q.setup) xs
  pub counted : (s : ℕ) → has q.setup.senders s ≡ true → IsCounting (first_of q.setup s + length (coming_from s v.knows.taken)) (coming_from s xs)

-- there was an event; or there was none, and the process can do nothing
abbrev pub HasMoved : Running → Running → Bool → Type 0
HasMoved r t moved = MatchBool moved (length r.events < length t.events) ((length t.events ≡ length r.events) × IsStill t)

-- signals were handled, each an event; or none was, and all is as before
abbrev pub HaveHandled : Standing → Standing → Bool → Type 0
HaveHandled p q moved = MatchBool moved (length p.running.events < length q.running.events) (q ≡ p)

-- an instruction was executed; or none can be, and the saved place lies no earlier
abbrev pub HaveExecuted : Standing → Standing → Bool → Type 0
HaveExecuted p q moved = MatchBool moved (length p.running.events < length q.running.events)
    ((q.running ≡ p.running) × (exec_next p.running ≡ None) × (p.saved ≤ q.saved))
