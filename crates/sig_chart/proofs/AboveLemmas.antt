-- An arrow that begins in no row: the event that sent its signal isn't shown.
use Rattle.std.proofs.Common.{◌≡◌, ℕ, zero, suc, ◌+◌, Bool, true, false, cond, List, [], ◌∷◌, None, Some, ◌⊎◌, inl, inr, refl, sym, ap, ◌∙◌, arith}
use Rattle.std.specs.Prelude.{All}
use Rattle.std.specs.List.{Contains}
use Rattle.std.proofs.lemmas.Bool.{false≢true}
use Rattle.std.proofs.lemmas.Bool.Decides.{nat_tests}
use Rattle.std.proofs.lemmas.List.Elements.{All-nil, All-cons, All-contains}
use Rattle.sig_model.specs.declared.event.Event.{Event}
use Rattle.sig_model.specs.declared.origin.Origin.{Origin}
use Rattle.sig_record.specs.declared.merging.MergedAt.{MergedAt}
use Rattle.sig_svg.specs.declared.shape.Arrow.{Arrow}
use Rattle.sig_chart.specs.Finding.{is_of, sent_by, is_event, row_of}
use Rattle.sig_chart.specs.Shapes.{Ground, arrow_from, arrow_at, by_rows}
use Rattle.sig_chart.specs.Laid.{HasOneOrigin, BeginsAbove}
use Rattle.sig_chart.proofs.BeginLemmas.{origin_with, origin_is, further, all_arrows}

-- ---- an origin that is there is found

first_or_later : (o x : Origin) (os : List Origin) → Contains (o ∷ os) x → (o ≡ x) ⊎ Contains os x
first_or_later o x os (zero, lt, e) = inl e
first_or_later o x os (suc i, lt, e) = inr (i, omega (arith, lt), e)

its_own : (from to number event : ℕ) → is_of (origin_with from to number event) from to number ≡ true
its_own from to number event = grind (arith, nat_tests)

module _ (from to number event : ℕ) where
  found_step : (o : Origin) (os : List Origin) (b : Bool) → is_of o from to number ≡ b → (o ≡ origin_with from to number event) ⊎ Contains os (origin_with from to number event) →
      (Contains os (origin_with from to number event) → Contains os (origin_with from to number (sent_by os from to number))) →
      Contains (o ∷ os) (origin_with from to number (cond b o.event (sent_by os from to number)))
  found_step o os true is here rest = (0, omega arith, origin_is o from to number is)
  found_step o os false is (inl e) rest = absurd (false≢true (sym is ∙ ap (λ x. is_of x from to number) e ∙ its_own from to number event))
  found_step o os false is (inr h) rest = further o (origin_with from to number (sent_by os from to number)) os (rest h)

  pub found : (os : List Origin) → Contains os (origin_with from to number event) → Contains os (origin_with from to number (sent_by os from to number))
  found [] h = absurd (omega (arith, h.1))
  found (o ∷ os) h = found_step o os (is_of o from to number) refl (first_or_later o (origin_with from to number event) os h) (found os)

-- ---- an event that has no row isn't shown

none_step : (first : ℕ) (x : MergedAt) (ms : List MergedAt) (pid event : ℕ) (b : Bool) → is_event pid event x ≡ b →
    (row_of (first + 1) ms pid event ≡ None → All (λ m. is_event pid event m ≡ false) ms) →
    cond b (Some first) (row_of (first + 1) ms pid event) ≡ None → All (λ m. is_event pid event m ≡ false) (x ∷ ms)
none_step first x ms pid event true is rest h = absurd cc
none_step first x ms pid event false is rest h = All-cons (λ m. is_event pid event m ≡ false) x ms is (rest h)

no_row : (first : ℕ) (ms : List MergedAt) (pid event : ℕ) → row_of first ms pid event ≡ None → All (λ m. is_event pid event m ≡ false) ms
no_row first [] pid event h = All-nil (λ m. is_event pid event m ≡ false)
no_row first (x ∷ ms) pid event h = none_step first x ms pid event (is_event pid event x) refl (no_row (first + 1) ms pid event) h

is_its_event : (pid event : ℕ) (m : MergedAt) → m.pid.0 ≡ pid → event ≡ m.place + 1 → is_event pid event m ≡ true
is_its_event pid event m process number = grind (arith, nat_tests)

-- ---- the arrows

above : (g : Ground) (row pid : ℕ) (e : Event) (from number : ℕ) → HasOneOrigin g (arrow_from g row pid e from number (sent_by g.origins from pid number)) →
    BeginsAbove g (arrow_from g row pid e from number (sent_by g.origins from pid number))
above g row pid e from number one start m there process told =
    let sent : ℕ = sent_by g.origins from pid number in
    let number_of : sent ≡ m.place + 1 = one sent (m.place + 1) (found from pid number (m.place + 1) g.origins told) told in
    let not_its : is_event from sent m ≡ false = All-contains (λ k. is_event from sent k ≡ false) g.shown m (no_row 0 g.shown from sent start) there in
    false≢true (sym not_its ∙ is_its_event from sent m process number_of)

pub begin_above : (g : Ground) (row : ℕ) (ms : List MergedAt) → All (λ (a : Arrow). HasOneOrigin g a → BeginsAbove g a) (by_rows (arrow_at g) row ms)
begin_above g = all_arrows g (λ (a : Arrow). HasOneOrigin g a → BeginsAbove g a) (above g)
