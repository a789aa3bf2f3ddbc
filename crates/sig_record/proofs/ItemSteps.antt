-- The loop over the items at the front of bytes, step by step.
use Rattle.std.proofs.Common.{◌≡◌, ℕ, zero, suc, ◌+◌, ◌-◌, ◌<◌, ◌≤◌, Bool, true, false, List, [], ◌∷◌, ◌++◌, length, Result, Ok, Err, refl, sym, ap, subst, ◌∙◌, arith}
use Rattle.sig_record.specs.declared.refusal.Refusal.{Refusal}
use Rattle.sig_record.specs.LineReaders.{Lines, go_on, lines_on}
use Rattle.sig_record.specs.Refusing.{Refuses}
use Rattle.sig_record.proofs.Refused.{refused_on}

module _ {X : Type 0} (begins : List ℕ → Bool) (read : List X → Lines X) where
  one_step : (room : ℕ) (items : List X) (bytes : List ℕ) → begins bytes ≡ true → lines_on begins read (suc room) items bytes ≡ go_on (read items bytes) (λ x. lines_on begins read room (items ++ x.0 ∷ []) x.1)
  unfolding lines_on
  one_step room items bytes h = rw h refl

  step_here : (n i : ℕ) (items : List X) (bytes : List ℕ) → i < n → begins bytes ≡ true → lines_on begins read (n - i) items bytes ≡ go_on (read items bytes) (λ x. lines_on begins read (n - (i + 1)) (items ++ x.0 ∷ []) x.1)
  step_here n i items bytes lt h =
      let k : n - i ≡ suc (n - (i + 1)) = omega arith in
      ap (λ (room : ℕ). lines_on begins read room items bytes) k ∙ one_step (n - (i + 1)) items bytes h

  -- behind an item the loop goes on
  pub goes_on : (n i : ℕ) (items : List X) (bytes : List ℕ) (x : X) (rest : List ℕ) (total : Result (List X × List ℕ) ℕ) → i < n → begins bytes ≡ true → read items bytes ≡ Ok (x, rest)
      → lines_on begins read (n - i) items bytes ≡ total → lines_on begins read (n - (i + 1)) (items ++ x ∷ []) rest ≡ total
  goes_on n i items bytes x rest total lt h e so_far =
      sym (ap (λ (r : Result (X × List ℕ) ℕ). go_on r (λ y. lines_on begins read (n - (i + 1)) (items ++ y.0 ∷ []) y.1)) e) ∙ sym (step_here n i items bytes lt h) ∙ so_far

  -- where an item can't be read, the loop ends
  pub fails_here : (n i : ℕ) (items : List X) (bytes : List ℕ) (total : Result (List X × List ℕ) ℕ) (e : Refusal) → i < n → begins bytes ≡ true → Refuses e (read items bytes)
      → lines_on begins read (n - i) items bytes ≡ total → Refuses e total
  fails_here n i items bytes total e lt h refused so_far =
      subst (Refuses e) (sym (step_here n i items bytes lt h) ∙ so_far) (refused_on e (read items bytes) (λ y. lines_on begins read (n - (i + 1)) (items ++ y.0 ∷ []) y.1) refused)

  -- where no item begins, those so far are all
  pub stops_here : (room : ℕ) (items : List X) (bytes : List ℕ) (total : Result (List X × List ℕ) ℕ) → begins bytes ≡ false → lines_on begins read room items bytes ≡ total → total ≡ Ok (items, bytes)
  unfolding lines_on
  stops_here zero items bytes total h so_far = sym so_far ∙ rw h refl
  stops_here (suc room) items bytes total h so_far = sym so_far ∙ rw h refl

  -- where there is no room for one that begins, it can't stand there
  pub ran_out : (n i : ℕ) (items : List X) (bytes : List ℕ) (total : Result (List X × List ℕ) ℕ) → n ≤ i → begins bytes ≡ true → lines_on begins read (n - i) items bytes ≡ total → total ≡ Err (length bytes)
  unfolding lines_on
  ran_out n i items bytes total le h so_far =
      let k : n - i ≡ 0 = omega arith in
      sym so_far ∙ ap (λ (room : ℕ). lines_on begins read room items bytes) k ∙ rw h refl
