-- The mode, what is seen of it and the ways of puts are those that the policy allows.
use Rattle.std.specs.Prelude.{◌≡◌, ℕ, Bool, true, false, List, All}
use Rattle.sig_layout.specs.declared.policy.Policy.{Policy}
use Rattle.sig_layout.specs.declared.item.Item.{Item}
use Rattle.sig_layout.specs.Policies.{AllowsMode, AllowsWay}
use Rattle.sig_layout.specs.Core.{QState}

pub record SteadyAs (p : Policy) (mode : Bool) (saw_off sure : ℕ → Bool) (log : List Item) : Type 0 where
  pub allowed : AllowsMode p mode
  -- a seat saw the mode off, and the holder of a buffer saw it on, only where it may be so
  pub off : (i : ℕ) → saw_off i ≡ true → AllowsMode p false
  pub on : (c : ℕ) → sure c ≡ true → AllowsMode p true
  pub ways : All (λ (x : Item). AllowsWay p x.via) log

abbrev pub Steady : QState → Type 0
Steady q = SteadyAs q.setup.policy q.mode q.saw_off (λ c. (q.cells c).sure) q.log
