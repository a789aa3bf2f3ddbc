-- What the marker law reads of a process and of a signal: the references that stand in them, and whether the marks of a process are
-- sound (Erlang Reference Manual, Data Types, Reference; Expressions, Receive). Serials, arrival numbers and marks are this
-- project's own.
use Rattle.std.specs.Prelude.{◌≡◌, ◌≢◌, ℕ, ◌<◌, ◌≤◌, List, All, AllPairs, IfSome, false, Option, Some, None, slice_get}
use Rattle.sig_terms.specs.declared.reference.Ref.{Ref}
use Rattle.sig_terms.specs.declared.term.Term.{Term}
use Rattle.sig_terms.specs.Names.{Named, reference}
use Rattle.sig_terms.specs.Nodes.{holds}
use Rattle.sig_kinds.specs.declared.signal.Signal.{Signal}
use Rattle.sig_kinds.specs.SignalNames.{names_of_kind}
use Rattle.sig_patterns.specs.declared.mark.Reserve.{Reserve}
use Rattle.sig_patterns.specs.declared.mark.Mark.{Mark}
use Rattle.sig_patterns.specs.Inbox.{Inbox}
use Rattle.sig_program.specs.Scripts.{Declared, Program}
use Rattle.sig_runs.specs.Rules.{Effect}
use Rattle.sig_runs.specs.Fresh.{Marking}
use Rattle.sig_model.specs.declared.event.Event.{Event}
use Rattle.sig_model.specs.ProcessState.{ProcessState, owner_of, TableNames}
use Rattle.sig_model.specs.Machine.{execution_whole}

-- a name is another one than the reference
abbrev pub IsOther : Ref → Named → Type 0
IsOther r name = name ≢ reference r

-- the reference stands in the tables of the process, and in what the signal says: not every name there is another one
abbrev pub StandsIn : ProcessState → Ref → Type 0
StandsIn s r = TableNames (IsOther r) s.tables → ⊥

abbrev pub IsSaid : Signal → Ref → Type 0
IsSaid x r = All (IsOther r) (names_of_kind x.kind) → ⊥

-- no message that is older than this arrival number holds the reference
abbrev pub NoneOlder : List (ℕ × Term) → ℕ → Ref → Type 0
NoneOlder messages arrival r = All (λ (m : ℕ × Term). m.0 < arrival → holds r m.1 ≡ false) messages

-- a mark: no message before it holds its reference
pub record IsSoundMark (inbox : Inbox) (mark : Mark) : Type 0 where
  pub early : mark.arrival ≤ inbox.next_arrival
  pub none : NoneOlder inbox.messages mark.arrival mark.reference

-- the pending reserve: no message before it holds a reference that its process can have made since
pub record IsSoundReserve (owner : ℕ) (inbox : Inbox) (reserve : Reserve) : Type 0 where
  pub early : reserve.arrival ≤ inbox.next_arrival
  pub none : (r : Ref) → r.owner.0 ≡ owner → reserve.serial ≤ r.serial → NoneOlder inbox.messages reserve.arrival r

-- the messages and marks of a process: the arrival numbers rise, and the next one is above all of them
pub record IsSoundInbox (owner : ℕ) (inbox : Inbox) : Type 0 where
  pub rising : AllPairs (λ m n. m.0 < n.0) inbox.messages
  pub below : All (λ m. m.0 < inbox.next_arrival) inbox.messages
  pub reserve : IfSome inbox.reserve (IsSoundReserve owner inbox)
  pub marks : All (IsSoundMark inbox) inbox.marks

-- the process pid, which makes references of its own
pub record HasSoundMarks (pid : ℕ) (s : ProcessState) : Type 0 where
  pub owner : owner_of s.tables ≡ pid
  pub inbox : IsSoundInbox pid s.tables.inbox

-- what the theory of runs from marks reads
abbrev pub marking : Marking ProcessState Signal Ref
marking = record {
  owner = λ r. r.owner.0;
  serial = λ r. r.serial;
  next = λ s. s.counts.next_serial;
  stands = StandsIn;
  carried = IsSaid;
  sound = HasSoundMarks;
}

-- what a process of the script does with its next instruction, by a scan of all messages
abbrev pub execution_whole_of : ℕ → Option Declared → ProcessState → Option (Effect ProcessState Signal Event)
execution_whole_of pid None s = None
execution_whole_of pid (Some p) s = execution_whole pid p s

abbrev pub whole_of : Program → ℕ → ProcessState → Option (Effect ProcessState Signal Event)
whole_of script pid s = execution_whole_of pid (slice_get script.procs pid) s
