-- The loop over two lists of terms, step by step.
use Rattle.std.proofs.Common.{◌≡◌, ℕ, ◌+◌, ◌<◌, List, true, map, length, get_or, drop, refl, arith}
use Rattle.sig_terms.specs.declared.term.Term.{Term}
use Rattle.sig_terms.specs.TermTest.{same_term, each_same}
use Rattle.sig_terms.proofs.JoinedTexts.{next_of}

-- behind two terms that are equal, what is left decides
pub each_goes_on : (a b : List Term) (i : ℕ) (x y : Term) → i < length a → length a ≡ length b → x ≡ get_or a i x → y ≡ get_or b i y → same_term x y ≡ true
    → each_same (map same_term (drop i a)) (drop i b) ≡ each_same (map same_term (drop (i + 1) a)) (drop (i + 1) b)
each_goes_on a b i x y lt same_length x_is y_is same =
    rw (next_of a i x lt x_is, next_of b i y (omega arith) y_is, same) refl
