-- What a round makes of a crew, and what several rounds make.
use Rattle.std.specs.Prelude.{◌≡◌, ◌≢◌, ◌⊎◌, ℕ, ◌+◌, ◌<◌, ◌≤◌, Bool, true, false, List, ◌++◌, length, map, slice_get, slice_index_or, Some, cond}
use Rattle.std.specs.Bool.{MatchBool}
use Rattle.sig_program.specs.Scripts.{Program}
use Rattle.sig_runs.specs.Crew.{crew_machine}
use Rattle.sig_runs.specs.Settled.{IsSettled}
use Rattle.sig_model.specs.declared.event.Event.{Event}
use Rattle.sig_model.specs.Machine.{rules_of}
use Rattle.sig_model.specs.Running.{Running}
use Rattle.sig_model.specs.OneWorker.{IsClear}
use Rattle.sig_process.specs.Standing.{Standing, runnings_of}
use Rattle.sig_model.specs.Still.{IsStill, IsStillCrew}
use Rattle.sig_model.specs.Accounts.{went, coming_from}
use Rattle.sig_model.specs.CrewLaw.{IsLawfulCrew, whole_member}
use Rattle.sig_layout.specs.declared.policy.Policy.{Policy}
use Rattle.sig_layout.specs.Sets.{has}
use Rattle.sig_layout.specs.Sent.{signals}
use Rattle.sig_queue.specs.declared.account.Account.{Account}
use Rattle.sig_workers.specs.Room.{room}

-- each process's events begin with those that it had
abbrev pub Begin : List Running → List Running → Type 0
Begin crew later = (p : ℕ) (r : Running) → slice_get crew p ≡ Some r → (t : Running) × (slice_get later p ≡ Some t) × (more : List Event) × (t.events ≡ r.events ++ more)

-- no process has an event beyond those that it had
abbrev pub NoneMore : List Running → List Running → Type 0
NoneMore crew later = (p : ℕ) (r t : Running) → slice_get crew p ≡ Some r → slice_get later p ≡ Some t → t.events ≡ r.events

-- The receipt at place p: its receiver is p, which keeps its messages where the receipt says, its senders are all others, and for each
-- of them it has what that one sent to p between the two crews, in order.
pub record IsReceiptOf (policy : Policy) (crew later : List Running) (p : ℕ) (a : Account) : Type 0 where
  pub receiver : a.receiver.0 ≡ p
  pub policy_is : a.policy ≡ policy
  pub queue_data_is : (r : Running) → slice_get crew p ≡ Some r → a.queue_data ≡ r.proc.queue_data
  pub senders : (s : ℕ) → has a.senders s ≡ true → (s < length crew) × (s ≢ p)
  pub all : (s : ℕ) → s < length crew → s ≢ p → has a.senders s ≡ true
  -- the number of each one's first signal is the one after those that it had sent
  pub first : (s : ℕ) (r : Running) → slice_get crew s ≡ Some r → slice_index_or a.first s 0 ≡ length (went p r) + 1
  pub sent : (s : ℕ) (r t : Running) → s ≢ p → slice_get crew s ≡ Some r → slice_get later s ≡ Some t → went p t ≡ went p r ++ coming_from s (signals a.put)

-- some process has an event beyond those that it had; or none has, and none can do anything
abbrev pub IsPassFlag : List Running → List Running → Bool → Type 0
IsPassFlag crew procs moved =
    MatchBool moved ((p : ℕ) × (r : Running) × (t : Running) × (slice_get crew p ≡ Some r) × (slice_get procs p ≡ Some t) × (length r.events < length t.events))
    ((p : ℕ) (t : Running) → slice_get procs p ≡ Some t → (r : Running) × (slice_get crew p ≡ Some r) × (length t.events ≡ length r.events) × IsStill t)

-- what the flag of a round tells: false exactly where no process has an event beyond those that it had, and then none can do anything
abbrev pub IsFlag : List Running → List Running → Bool → Type 0
IsFlag crew later moved = MatchBool moved (NoneMore crew later → ⊥) (NoneMore crew later × IsStillCrew later)

-- the crew is settled: no process can do anything, but a late one that may handle a signal
abbrev pub HasSettled : Program → List Running → Type 0
HasSettled script later = IsSettled (rules_of script) (crew_machine (rules_of script) (map whole_member later))

-- What a round makes of a lawful crew of the script: a lawful crew of the same script, whose events begin with those that they had;
-- the receipts, one a process; and the flag. Each process that could do something has done something.
pub record IsRound (script : Program) (policy : Policy) (crew later : List Standing) (receipts : List Account) (moved : Bool) : Type 0 where
  pub lawful : IsLawfulCrew script (runnings_of later)
  pub clear : IsClear (runnings_of later)
  pub begin : Begin (runnings_of crew) (runnings_of later)
  pub count : length receipts ≡ length (runnings_of crew)
  pub receipt : (p : ℕ) (a : Account) → slice_get receipts p ≡ Some a → IsReceiptOf policy (runnings_of crew) (runnings_of later) p a
  pub flag : IsFlag (runnings_of crew) (runnings_of later) moved
  -- a process that can do something when the round begins has an event more when it ends
  pub acted : (p : ℕ) (s t : Standing) → slice_get crew p ≡ Some s → slice_get later p ≡ Some t →
      IsStill s.running ⊎ (length s.running.events < length t.running.events)
  -- the saved place of a process without an event more lies no earlier
  pub saved : (p : ℕ) (s t : Standing) → slice_get crew p ≡ Some s → slice_get later p ≡ Some t →
      length t.running.events ≡ length s.running.events → s.saved ≤ t.saved
  -- the stamps don't fall, and rise with the events
  pub stamp : (p : ℕ) (r t : Running) → slice_get (runnings_of crew) p ≡ Some r → slice_get (runnings_of later) p ≡ Some t →
      (r.state.counts.stamp ≤ t.state.counts.stamp) × (length r.events < length t.events → r.state.counts.stamp < t.state.counts.stamp)
  -- it has settled where it had no event
  pub settled : moved ≡ false → HasSettled script (runnings_of later)

-- What rounds make of a lawful crew: a lawful crew of the same script, whose processes' events begin with those that they had, and for
-- each process a receipt of all that was sent to it in these rounds.
pub record IsRounds (script : Program) (policy : Policy) (crew later : List Running) (receipts : List Account) : Type 0 where
  pub lawful : IsLawfulCrew script later
  pub clear : IsClear later
  pub begin : Begin crew later
  pub count : length receipts ≡ length crew
  pub receipt : (p : ℕ) (a : Account) → slice_get receipts p ≡ Some a → IsReceiptOf policy crew later p a

-- how far the stamps are from the last, and one more where there is another round to come
abbrev pub room_left : List Running → Bool → ℕ
room_left crew moved = room crew + cond moved 1 0
