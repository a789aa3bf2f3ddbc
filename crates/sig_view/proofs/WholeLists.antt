-- Two lists of all outcomes of a script are one.
use Rattle.std.proofs.Common.{◌≡◌, ℕ, ◌<◌, Bool, true, false, List, Some, get_or, length, refl, sym, ap, ◌∙◌, subst}
use Rattle.std.specs.Prelude.{All}
use Rattle.std.specs.List.{Contains}
use Rattle.sig_program.specs.Scripts.{Program}
use Rattle.sig_outcomes.specs.Outcomes.{Rest}
use Rattle.sig_outcomelaw.specs.SettledOutcomes.{IsOutcome}
use Rattle.sig_outcomelaw.specs.Told.{outcome_told}
use Rattle.sig_view.specs.declared.status.ViewStatus.{ViewStatus}
use Rattle.sig_view.specs.declared.status.ViewStatus.TheVariants.{Done, Unfinished}
use Rattle.sig_view.specs.Outcomes.{AreListed, end_with, IsOutcomeRecord, IsOutcomesText, numbered}
use Rattle.sig_view.specs.OutcomeText.{IsBefore, names_of, outcomes_text, rests_text}
use Rattle.sig_view.proofs.OneList.{one_before, one_list}

module _ (script : Program) where
  Earlier : List Rest → List Rest → Type 0
  Earlier a b = IsBefore (rests_text 0 (names_of script) a) (rests_text 0 (names_of script) b)

  outcome_there : (outcomes : List (List Rest)) → All (IsOutcome script) outcomes → (o : List Rest) → Contains outcomes o → IsOutcome script o
  outcome_there outcomes each o there = subst (IsOutcome script) there.2 (each there.0 o there.1)

  pub one_whole_list : (most other : ℕ) (outcomes listed : List (List Rest)) (states met : ℕ) → AreListed script most outcomes states true → AreListed script other listed met true → outcomes ≡ listed
  unfolding Earlier
  one_whole_list most other outcomes listed states met h k =
      one_list Earlier (λ a b. one_before (rests_text 0 (names_of script) a) (rests_text 0 (names_of script) b)) outcomes listed h.ascending k.ascending
      (λ o there. (k.whole refl).each o (outcome_there outcomes h.each o there)) (λ o there. (h.whole refl).each o (outcome_there listed k.each o there))

  done_is_all : (all : Bool) (states : ℕ) → Done ≡ end_with all states → all ≡ true
  done_is_all true states e = refl
  done_is_all false states e = absurd cc

  pub one_whole_text : (most other : ℕ) (text written : List ℕ) → IsOutcomesText script most text Done → IsOutcomesText script other written Done → text ≡ written
  one_whole_text most other text written h k =
      let all : h.all ≡ true = done_is_all h.all h.states h.ends in
      let both : k.all ≡ true = done_is_all k.all k.states k.ends in
      let same : h.outcomes ≡ k.outcomes =
      one_whole_list most other h.outcomes k.outcomes h.states k.states (subst (AreListed script most h.outcomes h.states) all h.listed) (subst (AreListed script other k.outcomes k.states) both k.listed) in
      h.lines ∙ ap (λ (os : List (List Rest)). outcomes_text (names_of script) os h.all) same
      ∙ ap (λ (b : Bool). outcomes_text (names_of script) k.outcomes b) (all ∙ sym both) ∙ sym k.lines

  pub record_of_whole : (most other number : ℕ) (text written : List ℕ) (list : IsOutcomesText script most text Done) (told : IsOutcomeRecord script other number written Done)
      → numbered number list.outcomes ≡ Some (outcome_told told.reports)
  record_of_whole most other number text written list told =
      let all : list.all ≡ true = done_is_all list.all list.states list.ends in
      let both : told.all ≡ true = done_is_all told.all told.states told.ends in
      let same : list.outcomes ≡ told.outcomes =
      one_whole_list most other list.outcomes told.outcomes list.states told.states (subst (AreListed script most list.outcomes list.states) all list.listed) (subst (AreListed script other told.outcomes told.states) both told.listed) in
      ap (λ (os : List (List Rest)). numbered number os) same ∙ told.there
