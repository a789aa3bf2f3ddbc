-- The processes and references that a signal, the links and the watches of a process name (Erlang Reference Manual, Processes,
-- Signals, Links, Monitors and Process Aliases; Data Types, Pid and Reference).
use Rattle.std.specs.Prelude.{◌≡◌, ℕ, true, List, [], ◌++◌, All, IfSome, IsSome}
use Rattle.std.specs.FinMap.{get, contains_key}
use Rattle.sig_terms.specs.declared.reference.Ref.{Ref}
use Rattle.sig_terms.specs.Names.{Named, process, names_of_ref, names_of, IsNameBelow}
use Rattle.sig_kinds.specs.declared.signal.Kind.{Kind}
use Rattle.sig_kinds.specs.declared.signal.Kind.TheVariants.{Message, AliasMessage, Monitor, Demonitor, Exit, Down}
use Rattle.sig_kinds.specs.declared.signal.Signal.{Signal}
use Rattle.sig_kinds.specs.LinkRules.{LinkState, is_active, awaited_from}
use Rattle.sig_kinds.specs.WatchRules.{WatchState}

-- the names in what a signal says; the other kinds name nothing
abbrev pub names_of_kind : Kind → List Named
names_of_kind (Message term) = names_of term
names_of_kind (AliasMessage r term) = names_of_ref r ++ names_of term
names_of_kind (Monitor r) = names_of_ref r
names_of_kind (Demonitor r) = names_of_ref r
names_of_kind (Exit reason linked) = names_of reason
names_of_kind (Down r reason) = names_of_ref r ++ names_of reason
names_of_kind _ = []

-- what holds of every name in a signal: its sender, its receiver, and those in what it says
pub record SignalNames (P : Named → Type 0) (x : Signal) : Type 0 where
  pub from : P (process x.from.0)
  pub to : P (process x.to.0)
  pub kind : All P (names_of_kind x.kind)

-- the same of the links of a process: it, the peers of active links, and those whose acknowledgement is awaited
pub record LinkNames (P : Named → Type 0) (links : LinkState) : Type 0 where
  pub owner : P (process links.owner)
  pub active : (peer : ℕ) → is_active links peer ≡ true → P (process peer)
  pub awaited : (peer : ℕ) → IsSome (awaited_from links peer) → P (process peer)

-- the same of its watches: it, the monitors with their targets or watchers, and the active aliases
pub record WatchNames (P : Named → Type 0) (watch : WatchState) : Type 0 where
  pub owner : P (process watch.owner)
  pub held : (r : Ref) → IfSome (get watch.held r) (λ target. All P (names_of_ref r) × P (process target))
  pub borne : All (λ (b : Ref × ℕ). All P (names_of_ref b.0) × P (process b.1)) watch.borne
  pub aliases : (r : Ref) → contains_key watch.aliases r ≡ true → All P (names_of_ref r)

-- every process that a signal names is one of so many
abbrev pub IsSignalBelow : ℕ → Signal → Type 0
IsSignalBelow count = SignalNames (IsNameBelow count)
