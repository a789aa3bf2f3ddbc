-- What is known of a source that was read to its end.
use Rattle.std.proofs.Common.{◌≡◌, ℕ, ◌+◌, List, [], ◌∷◌, length, length-append, Option, Some, None, refl, ap, ◌∙◌, subst, arith}
use Rattle.std.specs.Prelude.{IfSome}
use Rattle.sig_base.specs.Flow.{Took}
use Rattle.sig_edge.specs.Streams.{IsReadToEnd, reading}

none : (xs : List ℕ) → length xs ≡ 0 → xs ≡ []
none [] e = refl
none (x ∷ xs) e = absurd (let f : ⊥ = omega (arith, e) in f)

-- what was read is all
pub of_all : (P : List ℕ → Type 0) (left : Option (List ℕ)) (into : List ℕ) → IfSome left (λ all. into ≡ all) → P into → IfSome left P
of_all P None into all h = tt
of_all P (Some bytes) into all h = subst P all h

-- nothing is left behind what was read
pub to_end : (left rest : Option (List ℕ)) (before after : ℕ) (into : List ℕ) → Took left rest into → IfSome left (λ all. into ≡ all) → IsReadToEnd (reading left rest before after)
to_end None rest before after into took all = tt
to_end (Some bytes) rest before after into took all =
    let more : length bytes ≡ length into + length took.0 = ap length took.1 ∙ length-append {A = ℕ} into took.0 in
    let same : length into ≡ length bytes = ap length all in
    took.2 ∙ ap (λ xs. Some xs) (none took.0 (omega (arith, more, same)))
