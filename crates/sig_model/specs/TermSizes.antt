-- How large the terms of a process and of its signals are (the bounds are this project's own). A term that is built is small. The
-- message that tells of an exit signal or of a down has a few nodes more than its reason, and is one deeper.
use Rattle.std.specs.Prelude.{ℕ, ◌≤◌, List, All, IfSome}
use Rattle.std.specs.FinMap.{get}
use Rattle.sig_terms.specs.declared.term.Term.{Term}
use Rattle.sig_terms.specs.declared.reading.TheConstants.{READ_DEPTH, READ_NODES}
use Rattle.sig_terms.specs.Nodes.{node_count, depth_of}
use Rattle.sig_kinds.specs.declared.signal.Kind.{Kind}
use Rattle.sig_kinds.specs.declared.signal.Kind.TheVariants.{Message, AliasMessage, Exit, Down}
use Rattle.sig_kinds.specs.declared.signal.Signal.{Signal}
use Rattle.sig_patterns.specs.declared.building.TheConstants.{MOST_NODES, MOST_DEPTH}
use Rattle.sig_patterns.specs.Environment.{Environment}
use Rattle.sig_runs.specs.Everywhere.{Facts}
use Rattle.sig_model.specs.declared.event.Outcome.{Outcome}
use Rattle.sig_model.specs.declared.event.Outcome.TheVariants.{Sent, Set, Took, Ended, Kept}
use Rattle.sig_model.specs.ProcessState.{Tables, ProcessState, Post}
use Rattle.sig_model.specs.Bodies.{Body}

-- at most so many nodes, and at most so deep
pub record IsNoLarger (most deepest : ℕ) (t : Term) : Type 0 where
  pub nodes : node_count t ≤ most
  pub depth : depth_of t ≤ deepest

-- no larger than what is built
abbrev pub IsSmallTerm : Term → Type 0
IsSmallTerm t = IsNoLarger MOST_NODES MOST_DEPTH t

-- no larger than what is read
abbrev pub IsKeptTerm : Term → Type 0
IsKeptTerm t = IsNoLarger READ_NODES READ_DEPTH t

-- this holds of the value of each variable that has one (Expressions, Variables)
abbrev pub AllValues : (Term → Type 0) → Environment → Type 0
AllValues P env = (var : List ℕ) → IfSome (get env var) P

-- the terms in what a signal says: messages and reasons (Processes, Signals)
abbrev pub KindSizes : Kind → Type 0
KindSizes (Message term) = IsSmallTerm term
KindSizes (AliasMessage r term) = IsSmallTerm term
KindSizes (Exit reason linked) = IsSmallTerm reason
KindSizes (Down r reason) = IsSmallTerm reason
KindSizes _ = Unit {0}

-- the terms that a process holds: the values of its variables, its messages, and the reason for which it has ended
pub record TableSizes (t : Tables) : Type 0 where
  pub env : AllValues IsKeptTerm t.env
  pub messages : All (λ (m : ℕ × Term). IsKeptTerm m.1) t.inbox.messages
  pub end : IfSome t.end IsSmallTerm

-- the terms of a signal to be sent
abbrev pub PostSizes : Post → Type 0
PostSizes p = KindSizes p.kind

-- the terms that an event tells of
abbrev pub OutcomeSizes : Outcome → Type 0
OutcomeSizes (Sent to message) = IsKeptTerm to × IsKeptTerm message
OutcomeSizes (Set value) = IsKeptTerm value
OutcomeSizes (Took clause looked message) = IsKeptTerm message
OutcomeSizes (Ended reason) = IsKeptTerm reason
OutcomeSizes (Kept message) = IsKeptTerm message
OutcomeSizes _ = Unit {0}

-- the terms of what an event does
pub record BodySizes (b : Body) : Type 0 where
  pub tables : TableSizes b.state.tables
  pub posts : All PostSizes b.posts
  pub outcome : OutcomeSizes b.outcome

-- the terms of each process and of each signal
abbrev pub term_sizes : Facts ProcessState Signal
term_sizes = record { of_state = λ p s. TableSizes s.tables; of_signal = λ x. KindSizes x.kind }
