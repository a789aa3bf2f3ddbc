use Rattle.std.proofs.Common.{◌≡◌, ℕ, List, subst, inl, inr, ⊎_elim, true}
use Rattle.sig_layout.specs.Sets.{has, no_senders}
use Rattle.test_calls.proofs.PidSets.{More, more_it, more_old, more_cases, one_only}
use Rattle.test_calls.proofs.pids.pair.Goals as goal

pub returns : goal.returns
returns c = let a : ℕ = c.args.first.0 in let b : ℕ = c.args.second.0 in let x : List ℕ = c.with.result in let y : List ℕ = c.with-2.result in
    let m : More x no_senders a = subst (λ (l : List ℕ). More x l a) c.none.ensures c.with.ensures in let n : More y x b = c.with-2.ensures in record {
      first = more_old y x b a n (more_it x no_senders a m);
      second = more_it y x b n;
      both = λ s h. ⊎_elim (λ (o : has x s ≡ true). inl (one_only x a s m o)) (λ (o : s ≡ b). inr o) (more_cases y x b s n h);
    }
