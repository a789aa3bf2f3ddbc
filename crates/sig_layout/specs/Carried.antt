-- What was put is what the queue carries, and the journal has as many direct puts as went into the outer list.
use Rattle.std.specs.Prelude.{◌≡◌, ℕ, suc, List, [], ◌∷◌, All}
use Rattle.sig_layout.specs.declared.via.Via.{Via}
use Rattle.sig_layout.specs.declared.via.Via.TheVariants as via
use Rattle.sig_layout.specs.declared.item.Item.{Item}
use Rattle.sig_layout.specs.declared.setup.Setup.{Setup}
use Rattle.sig_layout.specs.Sent.{signals}
use Rattle.sig_layout.specs.Policies.{direct_count}
use Rattle.sig_layout.specs.Openings.{IsCarried, IsCounted}
use Rattle.sig_layout.specs.Core.{QState}

pub record CarriedAs (z : Setup) (log : List Item) : Type 0 where
  pub all : All (IsCarried z) (signals log)
  pub counted : IsCounted z (signals log)

abbrev pub Carried : QState → Type 0
Carried q = CarriedAs q.setup q.log

abbrev pub one_outer : Via → ℕ → ℕ
one_outer via.Outer n = suc n
one_outer (via.Buffer b) n = n

-- how many were put into the outer list
abbrev pub outer_count : List Item → ℕ
outer_count [] = 0
outer_count (i ∷ is) = one_outer i.via (outer_count is)

abbrev pub Ways : QState → Type 0
Ways q = direct_count q.outer.journal ≡ outer_count q.log
