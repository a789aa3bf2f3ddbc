-- A crew: processes that ran apart.
use Rattle.std.specs.Prelude.{ℕ, ◌==◌, ◌≡◌, List, [], ◌++◌, map, Option, Some, None, slice_get, if◌then◌else◌}
use Rattle.sig_runs.specs.Rules.{Rules, addressed, coming_from}
use Rattle.sig_runs.specs.Machine.{Machine}
use Rattle.sig_runs.specs.LocalRun.{Local, Act, IsLocalRun, handles, sends}

-- One process after its run: its state with its own signals, the signals of others that are queued at it, and its acts.
-- Signals are received asynchronously, so they may be queued at a process that does nothing about them (Erlang Reference
-- Manual, Processes, Receiving Signals).
pub record Member (S X E : Type 0) : Type 0 where
  pub local : Local S X
  pub taken_in : List X
  pub acts : List (Act S X E)

-- the acts of a process, none where there is no process
abbrev pub acts_of : {S X E : Type 0} → Option (Member S X E) → List (Act S X E)
acts_of None = []
acts_of (Some m) = m.acts

-- the signals of s that are queued at t
abbrev pub queued_at : {S X E : Type 0} → Rules S X E → ℕ → ℕ → Option (Member S X E) → List X
queued_at rules s t None = []
queued_at rules s t (Some m) = if s == t then m.local.own else coming_from rules s m.taken_in

-- the machine in which the states and the queued signals are the crew's
abbrev pub crew_machine : {S X E : Type 0} → Rules S X E → List (Member S X E) → Machine S X
crew_machine rules crew = record { procs = map (λ m. m.local.state) crew; queued = λ s t. queued_at rules s t (slice_get crew t) }

-- the machine before the first event: no signal was sent
abbrev pub opening_machine : {S X : Type 0} → List S → Machine S X
opening_machine opening = record { procs = opening; queued = λ s t. [] }

-- the process p of the crew has a local run from its opening
abbrev pub HasLocalRun : {S X E : Type 0} → Rules S X E → ℕ → Option S → Option (Member S X E) → Type 0
HasLocalRun rules p None None = Unit {0}
HasLocalRun rules p (Some s) (Some m) = IsLocalRun rules p (record { state = s; own = [] }) m.acts m.local
HasLocalRun rules p None (Some m) = ⊥
HasLocalRun rules p (Some s) None = ⊥

-- Each process has a local run, and for each pair every signal sent is handled once, in the order in which it was sent, or
-- is queued (Erlang Reference Manual, Processes, Delivery of Signals).
pub record IsLawful {S X E : Type 0} (rules : Rules S X E) (opening : List S) (crew : List (Member S X E)) : Type 0 where
  pub runs : (p : ℕ) → HasLocalRun rules p (slice_get opening p) (slice_get crew p)
  -- what t handled of s, and then what is queued at t of s, is what s sent to t
  pub pairs : (s t : ℕ) →
      coming_from rules s (handles (acts_of (slice_get crew t))) ++ queued_at rules s t (slice_get crew t) ≡ addressed rules t (sends (acts_of (slice_get crew s)))

-- the signals from a process to itself are those that it has of its own
abbrev pub HasOwn : {S X E : Type 0} → List X → Option (Member S X E) → Type 0
HasOwn own None = Unit {0}
HasOwn own (Some m) = own ≡ m.local.own

-- A crew that is lawful with these lists between its processes, told apart from the crew: the same three laws, where not
-- all that is sent and not handled is queued at its receiver.
pub record IsLawfulWith {S X E : Type 0} (rules : Rules S X E) (opening : List S) (crew : List (Member S X E)) (queued : ℕ → ℕ → List X) : Type 0 where
  pub runs : (p : ℕ) → HasLocalRun rules p (slice_get opening p) (slice_get crew p)
  pub own : (p : ℕ) → HasOwn (queued p p) (slice_get crew p)
  pub pairs : (s t : ℕ) → coming_from rules s (handles (acts_of (slice_get crew t))) ++ queued s t ≡ addressed rules t (sends (acts_of (slice_get crew s)))

-- the machine of the crew's states with these lists
abbrev pub machine_with : {S X E : Type 0} → List (Member S X E) → (ℕ → ℕ → List X) → Machine S X
machine_with crew queued = record { procs = map (λ m. m.local.state) crew; queued = queued }
