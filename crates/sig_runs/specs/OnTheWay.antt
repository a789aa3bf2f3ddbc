-- The signals on their way in a crew whose processes have outboxes.
use Rattle.std.specs.Prelude.{ℕ, not, ◌==◌, ◌≡◌, ◌≢◌, List, [], ◌∷◌, ◌++◌, drop, map, Option, Some, None, slice_get, slice_set, if◌then◌else◌}
use Rattle.std.specs.Bool.{MatchBool}
use Rattle.std.specs.List.{filter}
use Rattle.sig_runs.specs.Rules.{Rules, addressed, coming_from}
use Rattle.sig_runs.specs.Machine.{Machine}
use Rattle.sig_runs.specs.LocalRun.{Input, Act, CanDo, after}
use Rattle.sig_runs.specs.LocalRun.Input.{Execute, Handle}
use Rattle.sig_runs.specs.Crew.{Member, IsLawfulWith, machine_with}

-- A crew at work: its processes, and what lies in the outbox of each. The time from a signal's sending to its arrival is
-- open (Erlang Reference Manual, Processes, Delivery of Signals), and an outbox holds it for a while.
pub record AtWork (S X E : Type 0) : Type 0 where
  pub crew : List (Member S X E)
  pub outbox : ℕ → List X

-- the signals to others than p
abbrev pub outgoing : {S X E : Type 0} → Rules S X E → ℕ → List X → List X
outgoing rules p xs = filter (λ x. not (rules.to x == p)) xs

-- what is left of the signals taken in, of which none is p's own
abbrev pub taken_in_left : {S X E : Type 0} → Rules S X E → ℕ → Input X → List X → List X
taken_in_left rules p Execute xs = xs
taken_in_left rules p (Handle x) xs = if rules.from x == p then xs else drop 1 xs

-- a process's signals to itself that it has not handled
abbrev pub own_part : {S X E : Type 0} → Option (Member S X E) → List X
own_part None = []
own_part (Some m) = m.local.own

-- the signals of s that a process has taken in and not handled
abbrev pub taken_in_part : {S X E : Type 0} → Rules S X E → ℕ → Option (Member S X E) → List X
taken_in_part rules s None = []
taken_in_part rules s (Some m) = coming_from rules s m.taken_in

-- From s to t: what t has taken in and not handled, and then what is in the outbox of s. To itself: what it has of its own.
abbrev pub on_way : {S X E : Type 0} → Rules S X E → List (Member S X E) → (ℕ → List X) → ℕ → ℕ → List X
on_way rules crew outbox s t = if s == t then own_part (slice_get crew t) else taken_in_part rules s (slice_get crew t) ++ addressed rules t (outbox s)

-- the outboxes after p sent these signals
abbrev pub boxes_after : {S X E : Type 0} → Rules S X E → ℕ → List X → (ℕ → List X) → ℕ → List X
boxes_after rules p sends outbox q = if p == q then outbox q ++ outgoing rules p sends else outbox q

-- the outboxes where this is left in the one of s
abbrev pub boxes_with : {X : Type 0} → ℕ → List X → (ℕ → List X) → ℕ → List X
boxes_with s left outbox q = if s == q then left else outbox q

-- the crew is lawful with what is on its way
abbrev pub IsLawfulAtWork : {S X E : Type 0} → Rules S X E → List S → AtWork S X E → Type 0
IsLawfulAtWork rules opening w = IsLawfulWith rules opening w.crew (on_way rules w.crew w.outbox)

-- the machine whose lists have what is on its way
abbrev pub machine_at_work : {S X E : Type 0} → Rules S X E → AtWork S X E → Machine S X
machine_at_work rules w = machine_with w.crew (on_way rules w.crew w.outbox)

-- a process that has done nothing yet
abbrev pub opened : {S X E : Type 0} → S → Member S X E
opened s = record { local = record { state = s; own = [] }; taken_in = []; acts = [] }

-- the crew before the first event
abbrev pub opened_crew : {S X E : Type 0} → List S → AtWork S X E
opened_crew opening = record { crew = map opened opening; outbox = λ q. [] }

-- a signal that p handles is its oldest own one, or it has none and the signal is the oldest that it took in
abbrev pub IsHandledNext : {S X E : Type 0} → Rules S X E → ℕ → Member S X E → Input X → Type 0
IsHandledNext rules p m Execute = Unit {0}
IsHandledNext {S} {X} {E} rules p m (Handle x) = MatchBool (rules.from x == p) ((rest : List X) × (m.local.own ≡ x ∷ rest)) ((rest : List X) × (m.taken_in ≡ x ∷ rest))

-- One act of the process p: what it sends to itself it has at once, the rest goes into its outbox.
pub record DoesAct {S X E : Type 0} (rules : Rules S X E) (old : AtWork S X E) (p : ℕ) (a : Act S X E) (new : AtWork S X E) : Type 0 where
  pub member : Member S X E
  pub there : slice_get old.crew p ≡ Some member
  pub can : CanDo rules p member.local a.input a.effect
  pub next : IsHandledNext rules p member a.input
  -- the process after it
  pub grown : Member S X E
  pub local : grown.local ≡ after rules p member.local a
  pub taken_in : grown.taken_in ≡ taken_in_left rules p a.input member.taken_in
  pub acts : grown.acts ≡ member.acts ++ a ∷ []
  pub crew : new.crew ≡ slice_set old.crew p grown
  pub outbox : new.outbox ≡ boxes_after rules p a.effect.sends old.outbox

-- One delivery: the oldest signal in the outbox of s goes behind what its receiver t has taken in.
pub record Delivers {S X E : Type 0} (rules : Rules S X E) (old : AtWork S X E) (s t : ℕ) (new : AtWork S X E) : Type 0 where
  pub signal : X
  pub left : List X
  pub oldest : old.outbox s ≡ signal ∷ left
  pub sender : rules.from signal ≡ s
  pub receiver : rules.to signal ≡ t
  pub apart : s ≢ t
  pub member : Member S X E
  pub there : slice_get old.crew t ≡ Some member
  -- the receiver after it
  pub given : Member S X E
  pub local : given.local ≡ member.local
  pub taken_in : given.taken_in ≡ member.taken_in ++ signal ∷ []
  pub acts : given.acts ≡ member.acts
  pub crew : new.crew ≡ slice_set old.crew t given
  pub outbox : new.outbox ≡ boxes_with s left old.outbox
