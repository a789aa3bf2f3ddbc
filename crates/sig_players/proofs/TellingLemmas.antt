-- The origins of the signals of a process to itself, number by number.
use Rattle.std.proofs.Common.{◌≡◌, ℕ, ◌+◌, ◌-◌, ◌≤◌, List, [], ◌∷◌, ◌++◌, sym, ap, ◌∙◌, inl, inr, ◌⊎◌, arith, append_assoc}
use Rattle.std.proofs.lemmas.List.{append-nil}
use Rattle.std.proofs.lemmas.List.FromFn.{map-range_with_len_more}
use Rattle.sig_model.specs.declared.origin.Origin.{Origin}
use Rattle.sig_choices.specs.Origins.{own_origins}

module _ (p event first : ℕ) where
  pub own_none : (old : List Origin) → old ≡ old ++ own_origins p event first (first - first)
  own_none old = sym (append-nil old) ∙ ap (λ n. old ++ own_origins p event first n) (let e : 0 ≡ first - first = omega arith in e)

  pub own_more : (number : ℕ) (old now next : List Origin) → first ≤ number → now ≡ old ++ own_origins p event first (number - first) →
      next ≡ now ++ record { from = record { 0 = p }; to = record { 0 = p }; number = number; event = event } ∷ [] → next ≡ old ++ own_origins p event first (number + 1 - first)
  own_more number old now next least told more =
      let last : Origin = record { from = record { 0 = p }; to = record { 0 = p }; number = number; event = event } in
      let here : first + (number - first) ≡ number = omega (arith, least) in
      let many : number - first + 1 ≡ number + 1 - first = omega (arith, least) in
      more
      ∙ ap (λ os. os ++ last ∷ []) told
      ∙ append_assoc old (own_origins p event first (number - first)) (last ∷ [])
      ∙ ap (λ os. old ++ os) (sym (map-range_with_len_more (λ n. record { from = record { 0 = p }; to = record { 0 = p }; number = n; event = event }) first (number - first) number here)
      ∙ ap (λ n. own_origins p event first n) many)

  pub own_all : (number end : ℕ) (old now : List Origin) → first ≤ number → (number ≡ first) ⊎ (number ≤ end) → end ≤ number → now ≡ old ++ own_origins p event first (number - first) →
      now ≡ old ++ own_origins p event first (end - first)
  own_all number end old now least (inl e) done told = told ∙ ap (λ n. old ++ own_origins p event first n) (let f : number - first ≡ end - first = omega (arith, e, done) in f)
  own_all number end old now least (inr e) done told = told ∙ ap (λ n. old ++ own_origins p event first n) (let f : number - first ≡ end - first = omega (arith, e, done) in f)
