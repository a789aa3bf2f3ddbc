-- What was taken, and what is left, is what the queue carries.
use Rattle.std.proofs.Common.{◌≡◌, ℕ, subst, List, ◌++◌, All, ap, ◌∙◌}
use Rattle.sig_kinds.specs.declared.signal.Signal.{Signal}
use Rattle.sig_kinds.specs.Counting.{IsCounting}
use Rattle.sig_layout.specs.declared.setup.Setup.{Setup}
use Rattle.sig_layout.specs.declared.knows.Knows.{Knows}
use Rattle.sig_layout.specs.Sent.{sender, of, signals}
use Rattle.sig_layout.specs.Openings.{first_of, IsCarried}
use Rattle.sig_layout.specs.Carried.{Carried, CarriedAs}
use Rattle.sig_layout.specs.Core.{QState, buffer_of}
use Rattle.sig_layout.specs.Law.{Law}
use Rattle.sig_layout.proofs.Carrying.{all_front, all_of, all_each, counting_front}
use Rattle.sig_queue.specs.Tied.{TookCarried}

pub took_carried : (z : Setup) (q : QState) → q.setup ≡ z → Law q → Carried q → (v : Knows) → q.taken ++ q.outer.signals ≡ v.taken → TookCarried z v
took_carried z q same law carried v is = let c : CarriedAs z q.log = subst (λ (y : Setup). CarriedAs y q.log) same carried in
    let left : ℕ → List Signal = (λ s. of sender s (q.cells (buffer_of s)).list) in
    let flows : (s : ℕ) → of sender s (signals q.log) ≡ of sender s v.taken ++ left s = (λ s. law.flows s ∙ ap (λ (l : List Signal). of sender s l ++ left s) is) in record {
      all = all_each sender (IsCarried z) v.taken (λ s. all_front (IsCarried z) (of sender s v.taken) (left s) (subst (All (IsCarried z)) (flows s) (all_of sender (IsCarried z) s (signals q.log) c.all)));
      counted = λ s h. counting_front (first_of z s) (of sender s v.taken) (left s) (subst (IsCounting (first_of z s)) (flows s) (c.counted s h));
    }
