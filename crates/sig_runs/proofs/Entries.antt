-- A list of acts of all processes, and the part of each process.
use Rattle.std.proofs.Common.{◌≡◌, ℕ, ◌≤◌, cond, List, [], ◌∷◌, map, ap}
use Rattle.std.specs.Prelude.{◌==◌, if◌then◌else◌}
use Rattle.std.proofs.lemmas.Bool.{eq-eqb, ne_eqb}
use Rattle.sig_runs.specs.Rules.{Rules}
use Rattle.sig_runs.specs.Machine.{At}
use Rattle.sig_runs.specs.LocalRun.{Act}

-- an act of the process pid
pub record Entry (S X E : Type 0) : Type 0 where
  pub pid : ℕ
  pub act : Act S X E

-- the acts of p in the list, in their order
abbrev pub acts_by : {S X E : Type 0} → ℕ → List (Entry S X E) → List (Act S X E)
acts_by p [] = []
acts_by p (e ∷ es) = if e.pid == p then e.act ∷ acts_by p es else acts_by p es

-- no stamp of the list is below b
abbrev pub FromStamp : {S X E : Type 0} → Rules S X E → ℕ → List (Entry S X E) → Type 0
FromStamp rules b [] = Unit {0}
FromStamp rules b (e ∷ es) = (b ≤ rules.event_stamp e.act.effect.event) × FromStamp rules b es

-- the stamps never fall along the list
abbrev pub IsRising : {S X E : Type 0} → Rules S X E → List (Entry S X E) → Type 0
IsRising rules [] = Unit {0}
IsRising rules (e ∷ es) = FromStamp rules (rules.event_stamp e.act.effect.event) es × IsRising rules es

abbrev pub events : {S X E : Type 0} → List (Entry S X E) → List (At E)
events es = map (λ e. record { pid = e.pid; event = e.act.effect.event }) es

pub acts_by-same : {S X E : Type 0} (p : ℕ) (e : Entry S X E) (es : List (Entry S X E)) → e.pid ≡ p → acts_by p (e ∷ es) ≡ e.act ∷ acts_by p es
acts_by-same p e es h = ap (λ c. cond c (e.act ∷ acts_by p es) (acts_by p es)) (eq-eqb e.pid p h)

pub acts_by-other : {S X E : Type 0} (p : ℕ) (e : Entry S X E) (es : List (Entry S X E)) → (e.pid ≡ p → ⊥) → acts_by p (e ∷ es) ≡ acts_by p es
acts_by-other p e es h = ap (λ c. cond c (e.act ∷ acts_by p es) (acts_by p es)) (ne_eqb e.pid p h)
