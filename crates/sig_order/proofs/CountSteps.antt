-- A row of counts, with one count more.
use Rattle.std.proofs.Common.{◌≡◌, ℕ, ◌+◌, ◌<◌, ◌≤◌, max, List, [], ◌∷◌, ◌++◌, length, get_or, sym, ap, ◌∙◌, inl, inr, ◌⊎◌, arith}
use Rattle.std.proofs.lemmas.Bool.{cases_lt}
use Rattle.std.proofs.lemmas.List.{length_push, get_or_push, get_or_append_left}
use Rattle.sig_order.specs.declared.at.At.{At}
use Rattle.sig_order.specs.declared.counts.Rows.{Rows}
use Rattle.sig_order.specs.Counting.{count_at}

module _ (rows : List Rows) (last sender : At) where
  -- of this process the greater of the two counts
  abbrev Greater : ℕ → ℕ
  Greater k = max (count_at rows last k) (count_at rows sender k)

  pub count_more : (old new : List ℕ) (q a b n : ℕ) → new ≡ old ++ n ∷ [] → length old ≡ q → ((k : ℕ) → k < q → get_or old k 0 ≡ Greater k) → a ≡ count_at rows last q → b ≡ count_at rows sender q → n ≡ max a b →
      (length new ≡ q + 1) × ((k : ℕ) → k < q + 1 → get_or new k 0 ≡ Greater k)
  count_more old new q a b n is many each first second greater = (ap length is ∙ length_push old n ∙ ap (λ z. z + 1) many, λ k lt. by k lt (cases_lt k q))
    where
      by : (k : ℕ) → k < q + 1 → (k < q) ⊎ (q ≤ k) → get_or new k 0 ≡ Greater k
      by k lt (inl below) = ap (λ (xs : List ℕ). get_or xs k 0) is ∙ get_or_append_left old (n ∷ []) 0 k (omega (arith, below, many)) ∙ each k below
      by k lt (inr past) =
          let here : k ≡ q = omega (arith, lt, past) in
          ap (λ (xs : List ℕ). get_or xs k 0) is ∙ get_or_push old n 0 k (omega (arith, many, here)) ∙ greater
          ∙ (λ i. max (first i) (second i)) ∙ ap (λ z. Greater z) (sym here)
