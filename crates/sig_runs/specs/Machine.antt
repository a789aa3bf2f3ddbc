-- The machine: the processes by pid, and one list of signals for each ordered pair of pids.
use Rattle.std.specs.Prelude.{ℕ, Bool, true, false, not, ◌==◌, ◌≡◌, ◌^◌, ◌&&◌, ◌||◌, nat_lt, List, [], ◌∷◌, ◌++◌, drop, Option, Some, None, slice_get, slice_set, if◌then◌else◌}
use Rattle.sig_runs.specs.Rules.{Did, Effect, Rules, addressed}
use Rattle.sig_runs.specs.Rules.Did.{Exec, From}

-- The order of signals is kept between one sender and one receiver, and between no others: so there is one list for each
-- ordered pair (Erlang Reference Manual, Processes, Delivery of Signals).
pub record Machine (S X : Type 0) : Type 0 where
  pub procs : List S
  -- the signals from s to t that t has not handled, the oldest first
  pub queued : ℕ → ℕ → List X

-- One process goes on: it executes its instruction, or it handles a signal. A process handles its signals at any moment,
-- and not only at a receive (Erlang Reference Manual, Processes, Receiving Signals).
pub data Choice : Type 0 where
  -- p executes
  Executes : (p : ℕ) → Choice
  -- p handles the oldest signal of s
  Handles : (p s : ℕ) → Choice

-- an event of the process pid
pub record At (E : Type 0) : Type 0 where
  pub pid : ℕ
  pub event : E

-- what a choice leads to: the new machine and the event
pub record Applied (S X E : Type 0) : Type 0 where
  pub machine : Machine S X
  pub event : E

-- the list has nothing in it
abbrev pub is_empty : {A : Type 0} → List A → Bool
is_empty [] = true
is_empty (x ∷ xs) = false

-- The lists after p sent these signals: a signal comes behind all that p sent to the same receiver before (Erlang
-- Reference Manual, Processes, Delivery of Signals).
abbrev pub posted : {S X E : Type 0} → Rules S X E → ℕ → List X → (ℕ → ℕ → List X) → ℕ → ℕ → List X
posted rules p sends queued s t = if p == s then queued s t ++ addressed rules t sends else queued s t

-- the lists without the oldest signal from f to p
abbrev pub without_oldest : {X : Type 0} → ℕ → ℕ → (ℕ → ℕ → List X) → ℕ → ℕ → List X
without_oldest f p queued s t = if f == s && p == t then drop 1 (queued s t) else queued s t

-- p has come to this state and sent these signals
abbrev pub moved : {S X E : Type 0} → Rules S X E → Machine S X → ℕ → (ℕ → ℕ → List X) → Effect S X E → Applied S X E
moved rules m p queued effect = record {
  machine = record { procs = slice_set m.procs p effect.state; queued = posted rules p effect.sends queued };
  event = effect.event;
}

-- p has executed its instruction, where that is defined
abbrev pub executed : {S X E : Type 0} → Rules S X E → Machine S X → ℕ → Option (Effect S X E) → Option (Applied S X E)
executed rules m p None = None
executed rules m p (Some effect) = Some (moved rules m p m.queued effect)

-- possible where p is neither ended nor cut, has no signal of its own to handle, and its instruction is defined
abbrev pub execute : {S X E : Type 0} → Rules S X E → Machine S X → ℕ → Option S → Option (Applied S X E)
execute rules m p None = None
execute rules m p (Some s) =
    if rules.is_ended s || (rules.is_cut s || not (is_empty (m.queued p p))) then None else executed rules m p (rules.exec p s)

-- possible where p is not cut, the oldest signal of f has a stamp below 2 ^ 62, and f is p or p has no signal of its own
abbrev pub handle : {S X E : Type 0} → Rules S X E → Machine S X → ℕ → ℕ → Option S → List X → Option (Applied S X E)
handle rules m p f None xs = None
handle rules m p f (Some s) [] = None
handle rules m p f (Some s) (x ∷ rest) =
    if rules.is_cut s || (not (nat_lt (rules.stamp x) (2 ^ 62)) || not (f == p || is_empty (m.queued p p)))
    then None
    else Some (moved rules m p (without_oldest f p m.queued) (rules.handle p s x))

-- what the choice leads to, where it is possible
abbrev pub apply : {S X E : Type 0} → Rules S X E → Machine S X → Choice → Option (Applied S X E)
apply rules m (Executes p) = execute rules m p (slice_get m.procs p)
apply rules m (Handles p s) = handle rules m p s (slice_get m.procs p) (m.queued s p)

-- the choice that an event of p tells
abbrev pub choice : ℕ → Did → Choice
choice p Exec = Executes p
choice p (From s) = Handles p s

-- From the machine m the choices that these events tell are possible one after another, they give exactly these
-- events, and they end in `end`.
abbrev pub IsRun : {S X E : Type 0} → Rules S X E → Machine S X → List (At E) → Machine S X → Type 0
IsRun rules m [] end = m ≡ end
IsRun {S} {X} {E} rules m (a ∷ later) end =
    (next : Machine S X) × (apply rules m (choice a.pid (rules.did a.event)) ≡ Some (record { machine = next; event = a.event })) × IsRun rules next later end
