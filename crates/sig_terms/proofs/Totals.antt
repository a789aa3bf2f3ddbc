-- The count and the depth of the terms of a list, and a test that none of them passes, one term further.
use Rattle.std.proofs.Common.{◌≡◌, ℕ, Bool, false, ◌∷◌, ◌+◌, ◌-◌, ◌^◌, ◌<◌, min, max, List, map, sum, length, get_or, drop, arith, sym, ap, ◌∙◌}
use Rattle.std.specs.List.{list_any}
use Rattle.std.proofs.lemmas.List.Sums.{sum_by-cons}
use Rattle.sig_terms.specs.declared.term.Term.{Term}
use Rattle.sig_terms.specs.Nodes.{node_count, depth_of, greatest}
use Rattle.sig_terms.proofs.JoinedTexts.{next_of}

pub sum_kept : (so_far now one k rest whole : ℕ) → one ≡ min k (2 ^ 64 - 1) → now ≡ min (so_far + one) (2 ^ 64 - 1) → min (so_far + (k + rest)) (2 ^ 64 - 1) ≡ whole → min (now + rest) (2 ^ 64 - 1) ≡ whole
sum_kept so_far now one k rest whole a b c = omega arith

pub max_kept : (so_far now one k rest whole : ℕ) → one ≡ min k (2 ^ 64 - 1) → now ≡ max so_far one → min (max so_far (max k rest)) (2 ^ 64 - 1) ≡ whole → min (max now rest) (2 ^ 64 - 1) ≡ whole
max_kept so_far now one k rest whole a b c = omega arith

pub nodes_next : (ts : List Term) (i : ℕ) (t : Term) (so_far one now whole : ℕ) → i < length ts → t ≡ get_or ts i t → one ≡ min (node_count t) (2 ^ 64 - 1) → now ≡ min (so_far + one) (2 ^ 64 - 1)
    → min (so_far + sum (map node_count (drop i ts))) (2 ^ 64 - 1) ≡ whole → min (now + sum (map node_count (drop (i + 1) ts))) (2 ^ 64 - 1) ≡ whole
nodes_next ts i t so_far one now whole within is a b c =
    let rest : List ℕ = map node_count (drop (i + 1) ts) in
    let left : sum (map node_count (drop i ts)) ≡ node_count t + sum rest =
    ap (λ (left : List Term). sum (map node_count left)) (next_of ts i t within is) ∙ sum_by-cons (λ (n : ℕ). n) (node_count t) rest in
    sum_kept so_far now one (node_count t) (sum rest) whole a b (ap (λ n. min (so_far + n) (2 ^ 64 - 1)) (sym left) ∙ c)

pub depth_next : (ts : List Term) (i : ℕ) (t : Term) (so_far one now whole : ℕ) → i < length ts → t ≡ get_or ts i t → one ≡ min (depth_of t) (2 ^ 64 - 1) → now ≡ max so_far one
    → min (max so_far (greatest (map depth_of (drop i ts)))) (2 ^ 64 - 1) ≡ whole → min (max now (greatest (map depth_of (drop (i + 1) ts)))) (2 ^ 64 - 1) ≡ whole
depth_next ts i t so_far one now whole within is a b c =
    max_kept so_far now one (depth_of t) (greatest (map depth_of (drop (i + 1) ts))) whole a b (ap (λ (left : List Term). min (max so_far (greatest (map depth_of left))) (2 ^ 64 - 1)) (sym (next_of ts i t within is)) ∙ c)

pub any_next : (test : Term → Bool) (ts : List Term) (i : ℕ) (t : Term) → i < length ts → t ≡ get_or ts i t → test t ≡ false → list_any (λ b. b) (map test (drop (i + 1) ts)) ≡ list_any (λ b. b) (map test (drop i ts))
any_next test ts i t within is fails =
    let rest : List Bool = map test (drop (i + 1) ts) in
    sym (ap (λ (left : List Term). list_any (λ b. b) (map test left)) (next_of ts i t within is) ∙ ap (λ (b : Bool). list_any (λ c. c) (b ∷ rest)) fails)
