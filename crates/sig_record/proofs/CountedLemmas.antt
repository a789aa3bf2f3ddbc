-- Signals whose numbers count up stand by ascending number.
use Rattle.std.proofs.Common.{◌≡◌, ℕ, zero, suc, ◌+◌, ◌<◌, true, false, List, [], ◌∷◌, ◌++◌, length, get_or, filter, sym, ap, ◌∙◌, subst, inl, inr, ◌⊎◌, arith}
use Rattle.std.specs.Prelude.{All}
use Rattle.std.specs.List.Sorted.{IsNonDecreasingBy}
use Rattle.std.proofs.lemmas.Bool.{cases_eq, eq-eqb, ne_eqb}
use Rattle.std.proofs.lemmas.List.{append-nil}
use Rattle.std.proofs.lemmas.List.Elements.{All-weaker, filter-append}
use Rattle.sig_kinds.specs.declared.signal.Signal.{Signal}
use Rattle.sig_kinds.specs.Counting.{IsCounting}
use Rattle.sig_model.specs.Running.{Running}
use Rattle.sig_model.specs.Keeping.{IsKeeping, IsToItself, IsArriving}
use Rattle.sig_record.specs.RecordOf.{is_from, IsInOrder, AreInOrder}
use Rattle.sig_record.proofs.QueueLemmas.{filter_all, filter_none}

-- the numbers of the process's own signals count up, and so do those of each other sender
pub record IsCounted (r : Running) : Type 0 where
  pub own : (n : ℕ) × IsCounting n r.own
  pub taken_in : (sender : ℕ) → (n : ℕ) × IsCounting n (filter (is_from sender) r.taken_in)

counted_at : (n : ℕ) (xs : List Signal) → IsCounting n xs → (k : ℕ) (d : Signal) → k < length xs → (get_or xs k d).number ≡ n + k
counted_at n [] h k d lt = absurd (omega arith)
counted_at n (x ∷ xs) h zero d lt = let e : x.number ≡ n = h.0 in omega arith
counted_at n (x ∷ xs) h (suc k) d lt = let e : (get_or xs k d).number ≡ n + 1 + k = counted_at (n + 1) xs h.1 k d (omega arith) in omega arith

ascending : (n : ℕ) (xs : List Signal) → IsCounting n xs → IsNonDecreasingBy (λ (x : Signal). x.number) xs
ascending n xs h i j d le lt =
    let a : (get_or xs i d).number ≡ n + i = counted_at n xs h i d (omega arith) in
    let b : (get_or xs j d).number ≡ n + j = counted_at n xs h j d lt in
    omega arith

-- those of one sender are the own ones, or they are among the others
one_sender : (r : Running) → IsKeeping r → (s : ℕ) → (filter (is_from s) (r.own ++ r.taken_in) ≡ r.own) ⊎ (filter (is_from s) (r.own ++ r.taken_in) ≡ filter (is_from s) r.taken_in)
one_sender r keep s =
    elim (cases_eq s r.pid) [
      | inl same ↦
          inl
          (filter-append (is_from s) r.own r.taken_in
          ∙ ap (λ (zs : List Signal). zs ++ filter (is_from s) r.taken_in)
          (filter_all (is_from s) r.own (All-weaker (IsToItself r.pid r.state.counts.stamp) (λ (x : Signal). is_from s x ≡ true) (λ x h. eq-eqb x.from.0 s (h.from ∙ sym same)) r.own keep.own))
          ∙ ap (λ (zs : List Signal). r.own ++ zs)
          (filter_none (is_from s) r.taken_in (All-weaker (IsArriving r.pid r.count) (λ (x : Signal). is_from s x ≡ false) (λ x h. ne_eqb x.from.0 s (λ e. h.from (e ∙ same))) r.taken_in keep.taken_in))
          ∙ append-nil r.own)
      | inr other ↦
          inr
          (filter-append (is_from s) r.own r.taken_in
          ∙ ap (λ (zs : List Signal). zs ++ filter (is_from s) r.taken_in)
          (filter_none (is_from s) r.own (All-weaker (IsToItself r.pid r.state.counts.stamp) (λ (x : Signal). is_from s x ≡ false) (λ x h. ne_eqb x.from.0 s (λ e. other (sym e ∙ h.from))) r.own keep.own)))
    ]

in_order : (r : Running) → IsKeeping r → IsCounted r → IsInOrder r
in_order r keep counted s =
    elim (one_sender r keep s) [
      | inl own ↦ subst (IsNonDecreasingBy (λ (x : Signal). x.number)) (sym own) (ascending counted.own.0 r.own counted.own.1)
      | inr taken ↦
          subst (IsNonDecreasingBy (λ (x : Signal). x.number)) (sym taken) (ascending (counted.taken_in s).0 (filter (is_from s) r.taken_in) (counted.taken_in s).1)
    ]

pub counted_in_order : (crew : List Running) → All IsKeeping crew → All IsCounted crew → AreInOrder crew
counted_in_order crew keeping counted k d lt = in_order (get_or crew k d) (keeping k d lt) (counted k d lt)
