use Rattle.std.proofs.Common.{◌≡◌, ℕ, List, true, inl, inr, ⊎_elim}
use Rattle.sig_layout.specs.Sets.{has}
use Rattle.test_calls.proofs.PidSets.{More, more_it, more_old, more_cases}
use Rattle.test_calls.proofs.pids.trio.Goals as goal

pub returns : goal.returns
returns c = let a : ℕ = c.args.first.0 in let b : ℕ = c.args.second.0 in let d : ℕ = c.args.third.0 in let x : List ℕ = c.pair.result in let y : List ℕ = c.with.result in
    let m : More y x d = c.with.ensures in record {
      first = more_old y x d a m c.pair.ensures.first;
      second = more_old y x d b m c.pair.ensures.second;
      third = more_it y x d m;
      all = λ s h. ⊎_elim (λ (o : has x s ≡ true). ⊎_elim (λ (e : s ≡ a). inl e) (λ (e : s ≡ b). inr (inl e)) (c.pair.ensures.both s o)) (λ (o : s ≡ d). inr (inr o)) (more_cases y x d s m h);
    }
