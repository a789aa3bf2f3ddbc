-- In a lawful crew the signals in an outbox go on with the numbers of those that came to their receiver before.
use Rattle.std.proofs.Common.{◌≡◌, ◌≢◌, ℕ, ◌+◌, ◌<◌, List, [], ◌∷◌, ◌++◌, length, Option, Some, None, refl, sym, subst, arith}
use Rattle.std.specs.Prelude.{slice_get}
use Rattle.std.proofs.lemmas.Option.{slice_get_within}
use Rattle.sig_kinds.specs.declared.signal.Signal.{Signal}
use Rattle.sig_kinds.specs.Counting.{IsCounting}
use Rattle.sig_program.specs.Scripts.{Program}
use Rattle.sig_model.specs.Running.{Running}
use Rattle.sig_model.specs.Accounts.{came}
use Rattle.sig_model.specs.CrewLaw.{came_to, went_from, left_for, IsLawfulCrew}

pub counting-rest : (n : ℕ) (xs ys : List Signal) → IsCounting n (xs ++ ys) → IsCounting (n + length xs) ys
counting-rest n [] ys h = subst (λ m. IsCounting m ys) (let e : n ≡ n + 0 = omega arith in e) h
counting-rest n (x ∷ xs) ys h = subst (λ m. IsCounting m ys) (let e : n + 1 + length xs ≡ n + length (x ∷ xs) = omega arith in e) (counting-rest (n + 1) xs ys h.1)

module _ (script : Program) (crew : List Running) (law : IsLawfulCrew script crew) (s t : ℕ) (u : Running) (ne : s ≢ t) (at : slice_get crew t ≡ Some u) where
  all_count : (o : Option Running) → slice_get crew s ≡ o → IsCounting 1 (went_from t o)
  all_count None e = tt
  all_count (Some r) e = (law.numbered s r e).counted t (let lt : t < length crew = slice_get_within crew t u at in subst (λ n. t < n) (sym (law.placed s r e).1) lt)

  pub left_continues : IsCounting (length (came s u) + 1) (left_for t (slice_get crew s))
  left_continues =
      let all : IsCounting 1 (came s u ++ left_for t (slice_get crew s)) =
      subst (IsCounting 1) (sym (subst (λ o. came_to s o ++ left_for t (slice_get crew s) ≡ went_from t (slice_get crew s)) at (law.pairs s t ne))) (all_count (slice_get crew s) refl) in
      subst (λ m. IsCounting m (left_for t (slice_get crew s))) (let e : 1 + length (came s u) ≡ length (came s u) + 1 = omega arith in e) (counting-rest 1 (came s u) (left_for t (slice_get crew s)) all)
