-- The call law: of the messages through the alias of one monitor made with `reply_demonitor`, and its down, at most one enters the
-- mailbox of its maker (Erlang Reference Manual, Processes, Process Aliases; module `erlang`, `monitor/3`).
use Rattle.std.specs.Prelude.{◌≡◌, ◌⊎◌, ℕ, ◌+◌, ◌-◌, ◌≤◌, ◌==◌, ◌&&◌, Bool, true, false, List, [], ◌∷◌, ◌++◌, Some, slice_get, if◌then◌else◌}
use Rattle.std.specs.List.{Contains}
use Rattle.sig_terms.specs.declared.reference.Ref.{Ref}
use Rattle.sig_terms.specs.declared.term.Term.{Term}
use Rattle.sig_terms.specs.declared.term.Term.TheVariants as term
use Rattle.sig_terms.specs.Nodes.{same_ref}
use Rattle.sig_kinds.specs.declared.alias_mode.AliasMode.TheVariants.{ReplyDemonitor}
use Rattle.sig_kinds.specs.declared.signal.Kind.{Kind}
use Rattle.sig_kinds.specs.declared.signal.Kind.TheVariants.{AliasMessage, Down}
use Rattle.sig_kinds.specs.declared.signal.Signal.{Signal}
use Rattle.sig_patterns.specs.declared.expression.Expr.{Expr}
use Rattle.sig_patterns.specs.declared.var.Var.{Var}
use Rattle.sig_program.specs.declared.instruction.Instr.TheVariants.{Monitor}
use Rattle.sig_program.specs.Scripts.{Declared, Program}
use Rattle.sig_runs.specs.Rules.{Rules}
use Rattle.sig_runs.specs.Machine.{Machine, At, IsRun}
use Rattle.sig_runs.specs.Crew.{opening_machine}
use Rattle.sig_runs.specs.Marks.{by_whole}
use Rattle.sig_model.specs.declared.event.Event.{Event}
use Rattle.sig_model.specs.declared.event.Did.{Did}
use Rattle.sig_model.specs.declared.event.Did.TheVariants.{Exec, From}
use Rattle.sig_model.specs.declared.event.Outcome.{Outcome}
use Rattle.sig_model.specs.declared.event.Outcome.TheVariants.{Set, Took, Kept}
use Rattle.sig_model.specs.ProcessState.{ProcessState}
use Rattle.sig_model.specs.Machine.{rules_of, opening_of}
use Rattle.sig_model.specs.Marking.{whole_of}

-- an answer of r: a message through its alias, or the down of its monitor
abbrev pub is_answer : Ref → Kind → Bool
is_answer r (AliasMessage q message) = same_ref r q
is_answer r (Down q reason) = same_ref r q
is_answer r _ = false

-- the oldest of these signals is one
abbrev pub answer_first : Ref → List Signal → Bool
answer_first r [] = false
answer_first r (x ∷ xs) = is_answer r x.kind

-- what the process did was to handle one, of the signals that were queued for it by their senders
abbrev pub handles_answer : Ref → (ℕ → List Signal) → Did → Bool
handles_answer r queued (Exec place) = false
handles_answer r queued (From sender number) = answer_first r (queued sender.0)

-- a message came into the mailbox
abbrev pub is_kept : Outcome → Bool
is_kept (Kept message) = true
is_kept _ = false

-- at this machine the event is one by which an answer of r enters the mailbox of the process that made r
abbrev pub enters : Ref → Machine ProcessState Signal → At Event → Bool
enters r m a = a.pid == r.owner.0 && (is_kept a.event.outcome && handles_answer r (λ sender. m.queued sender a.pid) a.event.did)

-- how many events of a run are
module _ (rules : Rules ProcessState Signal Event) (r : Ref) where
  abbrev pub entries : (m : Machine ProcessState Signal) (events : List (At Event)) (end : Machine ProcessState Signal) → IsRun rules m events end → ℕ
  entries m [] end run = 0
  entries m (a ∷ later) end run = (if enters r m a then 1 else 0) + entries run.0 later end run.2

-- by one of these events an answer of r entered with this message
module _ (rules : Rules ProcessState Signal Event) (r : Ref) (message : Term) where
  abbrev pub HasEntered : (m : Machine ProcessState Signal) (events : List (At Event)) (end : Machine ProcessState Signal) → IsRun rules m events end → Type 0
  HasEntered m [] end run = ⊥
  HasEntered m (a ∷ later) end run = ((enters r m a ≡ true) × (a.event.outcome ≡ Kept message)) ⊎ HasEntered run.0 later end run.2

-- by the event a receive of the process that made r took this message (Expressions, Receive)
pub record TakesMessage (r : Ref) (message : Term) (a : At Event) : Type 0 where
  pub clause : ℕ
  pub looked : ℕ
  pub taker : a.pid ≡ r.owner.0
  pub took : a.event.outcome ≡ Took clause looked message

-- the event made r by `monitor` with `reply_demonitor`
pub record MakesCall (script : Program) (r : Ref) (a : At Event) : Type 0 where
  pub process : Declared
  pub place : ℕ
  pub var : Var
  pub target : Expr
  pub maker : a.pid ≡ r.owner.0
  pub part : slice_get script.procs r.owner.0 ≡ Some process
  pub did : a.event.did ≡ Exec place
  pub instr : slice_get process.instrs (place - 1) ≡ Some (Monitor var target (Some ReplyDemonitor))
  pub made : a.event.outcome ≡ Set (term.Ref r)

-- What the runs of these rules from the script's opening make of the answers of each call.
pub record EnterOnce (script : Program) (rules : Rules ProcessState Signal Event) : Type 0 where
  -- in a run at most one of them enters
  pub once : (events : List (At Event)) (end : Machine ProcessState Signal)
      (run : IsRun rules (opening_machine (opening_of script)) events end)
      (r : Ref) (a : At Event) → Contains events a → MakesCall script r a →
      entries rules r (opening_machine (opening_of script)) events end run ≤ 1
  -- In a run that is cut in two, at most one enters in both parts together: so none enters behind one that has entered.
  pub behind : (earlier later : List (At Event)) (middle end : Machine ProcessState Signal)
      (first : IsRun rules (opening_machine (opening_of script)) earlier middle) (second : IsRun rules middle later end)
      (r : Ref) (a : At Event) → Contains (earlier ++ later) a → MakesCall script r a →
      entries rules r (opening_machine (opening_of script)) earlier middle first + entries rules r middle later end second ≤ 1
  -- Where the event t takes a message with which an answer had entered, none enters by t or behind it.
  pub taken : (earlier later : List (At Event)) (middle end : Machine ProcessState Signal) (t : At Event)
      (first : IsRun rules (opening_machine (opening_of script)) earlier middle) (second : IsRun rules middle (t ∷ later) end)
      (r : Ref) (a : At Event) → Contains (earlier ++ t ∷ later) a → MakesCall script r a →
      (message : Term) → HasEntered rules r message (opening_machine (opening_of script)) earlier middle first → TakesMessage r message t →
      entries rules r middle (t ∷ later) end second ≡ 0

-- In each run of the script, by the receive that looks at all messages, of the answers of each call at most one enters.
abbrev pub CallsEnterOnce : Program → Type 0
CallsEnterOnce script = EnterOnce script (by_whole (rules_of script) (whole_of script))
