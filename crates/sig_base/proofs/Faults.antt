-- One fault more.
use Rattle.std.proofs.Common.{◌≡◌, ◌≤◌, ℕ, sym, subst, arith}
use Rattle.sig_base.specs.Flow.{one_more, Rose}

-- after one fault more the count has risen
pub risen : (before after : ℕ) → after ≡ one_more before → Rose before after
risen before after e = subst (λ (n : ℕ). one_more before ≤ n) (sym e) (omega arith)
