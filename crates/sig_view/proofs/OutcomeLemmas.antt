-- The text of outcomes is that of the records that tell them; and what was found, as it is listed.
use Rattle.std.proofs.Common.{◌≡◌, ◌≢◌, ◌⊎◌, inl, inr, ℕ, zero, suc, ◌+◌, ◌<◌, ◌≤◌, Bool, true, false, List, [], ◌∷◌, ◌++◌, map, length, drop, get_or, IsTrue, ◌↔◌, Option, Some, None, Result, Ok, Err, refl, sym, ap, ◌∙◌, append_assoc, drop-cons, add-one, subst, arith}
use Rattle.std.specs.Prelude.{All, AllPairs, IfOk, slice_get, Vec}
use Rattle.std.specs.Global.{Global}
use Rattle.std.specs.List.{Contains, flat_map}
use Rattle.std.specs.List.Sorted.{IsPermutation}
use Rattle.std.specs.Option.{option_map}
use Rattle.std.proofs.lemmas.Bool.{false≢true}
use Rattle.std.proofs.lemmas.List.{length-map}
use Rattle.std.proofs.lemmas.List.Elements.{All-head, All-tail, All-map, All-weaker}
use Rattle.std.proofs.lemmas.List.Folds.{flat_map-map}
use Rattle.std.proofs.lemmas.List.Sorted.{All-permutation, Contains-permutation, IsPermutation-map, IsPermutation-sym}
use Rattle.std.proofs.lemmas.Option.{slice_get-map, slice_get_cases, slice_get_within, get_or_from_slice_get}
use Rattle.sig_program.specs.Scripts.{Declared, Program}
use Rattle.sig_runs.specs.Machine.{At, Machine}
use Rattle.sig_kinds.specs.declared.signal.Signal.{Signal}
use Rattle.sig_model.specs.declared.event.Event.{Event}
use Rattle.sig_model.specs.ProcessState.{ProcessState}
use Rattle.sig_outcomes.specs.Crews.{machine_of_crew}
use Rattle.sig_outcomes.specs.Outcomes.{Rest, outcome_of, unhandled}
use Rattle.sig_outcomelaw.specs.Told.{message_of, outcome_told, rest_told}
use Rattle.sig_outcomelaw.specs.SettledOutcomes.{IsOutcome}
use Rattle.sig_record.specs.declared.report.Report.{Report}
use Rattle.sig_record.specs.EndText.{end_text, ends_text, left_end, message_text, queued_end}
use Rattle.sig_program.specs.ScriptNames.{AreNames}
use Rattle.sig_record.specs.ReadableRecord.{CanBeReread}
use Rattle.sig_record.specs.SizedRecord.{IsSizedRecord}
use Rattle.sig_record.specs.RecordText.{head_text, record_text, state_text}
use Rattle.sig_record.specs.RunRecord.{events_listed, record_of_run, run_report, run_reports, IsOfSettledRun}
use Rattle.sig_record.specs.StoredEnds.{AreStoredEnds}
use Rattle.sig_view.specs.declared.status.ViewStatus.{ViewStatus}
use Rattle.sig_view.specs.declared.text.Text.{Text}
use Rattle.sig_view.specs.declared.status.ViewStatus.TheVariants.{Done, BadScript, Usage, ReadFault, WriteFault, Memory, No, BadRecord, TooLong, NoEvent, TooManyEvents, NoOutcome, NotFound, Unfinished}
use Rattle.sig_view.proofs.OrderLemmas.{elements_ascend, pairs_rearranged, strictly_before}
use Rattle.sig_view.proofs.RestReads.{IsReadableRest, one_outcome, readable_told}
use Rattle.sig_view.specs.OutcomeText.{AreEndingsInTextOrder, IsBefore, endings_from, endings_text, first_line, names_of, number_line, outcomes_from, outcomes_text, rest_text, rests_text, unhandled_text}
use Rattle.sig_explore.specs.declared.outcomes.Outcomes.{Outcomes}
use Rattle.sig_explore.specs.Endings.{AreAllOutcomes, IsEnding, TellOthers}
use Rattle.sig_explore.specs.Seen.{HaveSeen}
use Rattle.sig_view.specs.Outcomes.{AreFound, AreListed, end_with, HasFewer, IsFoundText, IsNotFound, IsNumberedText, IsOutcomeRecord, IsOutcomesText, IsTold, numbered}

-- ---- one process

end_is_rest : (r : Report) → end_text r ≡ head_text r.pid.0 r.name ++ rest_text (rest_told r)
unfolding end_text
end_is_rest r =
    let head : List ℕ = head_text r.pid.0 r.name in
    let lefts : List ℕ = flat_map message_text (map message_of r.left) in
    let waits : List ℕ = flat_map unhandled_text (map unhandled r.queued) in
    let state : List ℕ = state_text r.state in
    let left : flat_map message_text (map message_of r.left) ≡ flat_map left_end r.left = flat_map-map message_text message_of r.left in
    let queued : flat_map unhandled_text (map unhandled r.queued) ≡ flat_map queued_end r.queued = flat_map-map unhandled_text unhandled r.queued in
    ap (λ (t : List ℕ). head ++ t ++ flat_map queued_end r.queued ++ state) (sym left)
    ∙ ap (λ (t : List ℕ). head ++ lefts ++ t ++ state) (sym queued)
    ∙ append_assoc (head ++ lefts) waits state ∙ append_assoc head lefts (waits ++ state) ∙ ap (λ (t : List ℕ). head ++ t) (sym (append_assoc lefts waits state))

-- ---- one record

module _ (count turns : ℕ) (events : List (At Event)) (m : Machine ProcessState Signal) where
  ends_are_rests : (pid : ℕ) (ds : List Declared) (ss : List ProcessState)
      → ends_text (run_reports count turns events m pid ds ss) ≡ rests_text pid (map (λ (d : Declared). d.name) ds) (outcome_told (run_reports count turns events m pid ds ss))
  ends_are_rests pid [] ss = refl
  ends_are_rests pid (d ∷ ds) [] = refl
  ends_are_rests pid (d ∷ ds) (s ∷ ss) =
      let r : Report = run_report count turns events m pid d s in
      let others : List Report = run_reports count turns events m (pid + 1) ds ss in
      ap (λ (t : List ℕ). t ++ ends_text others) (end_is_rest r)
      ∙ ap (λ (t : List ℕ). head_text pid d.name ++ rest_text (rest_told r) ++ t) (ends_are_rests (pid + 1) ds ss)

module _ (script : Program) where
  ends_of_settled : (reports : List Report) → IsOfSettledRun script reports → ends_text reports ≡ rests_text 0 (names_of script) (outcome_told reports)
  ends_of_settled reports h =
      ap ends_text h.run.told
      ∙ ends_are_rests (length script.procs) script.turns (events_listed reports h.run.order) h.machine 0 script.procs h.machine.procs
      ∙ ap (λ (rs : List Report). rests_text 0 (names_of script) (outcome_told rs)) (sym h.run.told)

  -- ---- several records

  endings_are_outcomes : (endings : List (List Report)) (number : ℕ) → All (IsOfSettledRun script) endings
      → endings_from number endings ≡ outcomes_from number (names_of script) (map outcome_told endings)
  endings_are_outcomes [] number h = refl
  endings_are_outcomes (e ∷ es) number h =
      ap (λ (t : List ℕ). number_line number ++ t ++ endings_from (number + 1) es) (ends_of_settled e (All-head (IsOfSettledRun script) e es h))
      ∙ ap (λ (t : List ℕ). number_line number ++ rests_text 0 (names_of script) (outcome_told e) ++ t) (endings_are_outcomes es (number + 1) (All-tail (IsOfSettledRun script) e es h))

  text_is : (endings : List (List Report)) (all : Bool) → All (IsOfSettledRun script) endings → endings_text endings all ≡ outcomes_text (names_of script) (map outcome_told endings) all
  text_is endings all h =
      ap (λ n. first_line n all ++ endings_from 1 endings) (sym (length-map endings outcome_told))
      ∙ ap (λ (t : List ℕ). first_line (length (map outcome_told endings)) all ++ t) (endings_are_outcomes endings 1 h)

  -- ---- what was found

  -- no report is of more than the script's processes
  no_more : (count turns : ℕ) (events : List (At Event)) (m : Machine ProcessState Signal) (pid : ℕ) (ds : List Declared) (ss : List ProcessState)
      → length (run_reports count turns events m pid ds ss) ≤ length ds
  no_more count turns events m pid [] ss = omega arith
  no_more count turns events m pid (d ∷ ds) [] = omega arith
  no_more count turns events m pid (d ∷ ds) (s ∷ ss) =
      let g : length (run_reports count turns events m (pid + 1) ds ss) ≤ length ds = no_more count turns events m (pid + 1) ds ss in omega (arith, g)

  pub few_told : (reports : List Report) → IsOfSettledRun script reports → length (outcome_told reports) ≤ length (names_of script)
  few_told reports h =
      let told : length (outcome_told reports) ≡ length reports = length-map reports rest_told in
      let named : length (names_of script) ≡ length script.procs = length-map script.procs (λ (d : Declared). d.name) in
      let same : length reports ≡ length (record_of_run script (events_listed reports h.run.order) h.machine) = ap (λ (rs : List Report). length rs) h.run.told in
      let few : length (record_of_run script (events_listed reports h.run.order) h.machine) ≤ length script.procs =
      no_more (length script.procs) script.turns (events_listed reports h.run.order) h.machine 0 script.procs h.machine.procs in
      omega (arith, told, named, same, few)

  module _ (most : ℕ) (endings : List (List Report)) (states : ℕ) (all : Bool) (found : AreFound script most endings states all)
      (seen : HaveSeen script most states (map outcome_told endings)) (ascending : AreEndingsInTextOrder endings) (stored : All AreStoredEnds endings)
      (names : AreNames script) where
    readable : (k : ℕ) (d : List Report) → k < length endings → All IsReadableRest (outcome_told (get_or endings k d))
    readable k d lt = readable_told (get_or endings k d) (stored k d lt) (found.sized names k d lt)

    -- two of the records have different texts
    differ : (i j : ℕ) (d : List Report) → i < j → j < length endings → ends_text (get_or endings i d) ≡ ends_text (get_or endings j d) → ⊥
    differ i j d less lt same =
        let li : i < length endings = omega (arith, less, lt) in
        found.distinct i j d less lt
        (one_outcome 0 (names_of script) (outcome_told (get_or endings i d)) (outcome_told (get_or endings j d))
        (few_told (get_or endings i d) (found.each i d li)) (few_told (get_or endings j d) (found.each j d lt)) (readable i d li) (readable j d lt)
        (sym (ends_of_settled (get_or endings i d) (found.each i d li)) ∙ same ∙ ends_of_settled (get_or endings j d) (found.each j d lt)))

    strictly : AllPairs (λ a b. IsBefore (ends_text a) (ends_text b)) endings
    strictly i j d less lt = strictly_before (ends_text (get_or endings i d)) (ends_text (get_or endings j d)) (ascending i j d less lt) (differ i j d less lt)

    told_at : (k : ℕ) (d : List Report) → k < length endings → IsTold script (outcome_told (get_or endings k d))
    told_at k d lt = record { reports = get_or endings k d; settled = found.each k d lt; stored = stored k d lt; sized = found.sized names k d lt; told = refl }

    are_listed : AreListed script most (map outcome_told endings) states all
    are_listed = record {
      each = All-map (IsOutcome script) outcome_told endings found.outcomes;
      told = All-map (IsTold script) outcome_told endings told_at;
      ascending = elements_ascend IsBefore outcome_told ends_text (rests_text 0 (names_of script)) endings
          (λ k d lt. ends_of_settled (get_or endings k d) (found.each k d lt)) strictly;
      met = found.met;
      seen = seen;
      whole = found.whole;
    }

    pub listed_text : (text : List ℕ) (end : ViewStatus) → text ≡ endings_text endings all → end ≡ end_with all states → IsOutcomesText script most text end
    listed_text text end is ends = record {
      outcomes = map outcome_told endings;
      states = states;
      all = all;
      listed = are_listed;
      lines = is ∙ text_is endings all found.each;
      ends = ends;
    }

    numbered_told : (number : ℕ) → numbered number (map outcome_told endings) ≡ option_map outcome_told (numbered number endings)
    numbered_told zero = refl
    numbered_told (suc place) = slice_get-map outcome_told endings place

    settled_at : (number : ℕ) (reports : List Report) → numbered number endings ≡ Some reports → IsOfSettledRun script reports
    settled_at zero reports is = absurd (cc)
    settled_at (suc place) reports is =
        subst (IsOfSettledRun script) (get_or_from_slice_get endings place reports reports is) (found.each place reports (slice_get_within endings place reports is))

    sized_at : (number : ℕ) (reports : List Report) → numbered number endings ≡ Some reports → IsSizedRecord reports
    sized_at zero reports is = absurd (cc)
    sized_at (suc place) reports is =
        subst IsSizedRecord (get_or_from_slice_get endings place reports reports is) (found.sized names place reports (slice_get_within endings place reports is))

    listed_record : (number : ℕ) (reports : List Report) (text : List ℕ) (end : ViewStatus) → numbered number endings ≡ Some reports → text ≡ record_text reports
        → CanBeReread reports → end ≡ end_with all states → IsOutcomeRecord script most number text end
    unfolding CanBeReread
    listed_record number reports text end is printed can ends = record {
      outcomes = map outcome_told endings;
      states = states;
      all = all;
      listed = are_listed;
      reports = reports;
      settled = settled_at number reports is;
      readable = can (sized_at number reports is);
      there = numbered_told number ∙ ap (λ (o : Option (List Report)). option_map outcome_told o) is;
      printed = printed;
      ends = ends;
    }

    -- where none has this number there are fewer
    past_end : (number : ℕ) → number ≢ 0 → numbered number endings ≡ None → length endings < number
    past_end zero some is = absurd (some refl)
    past_end (suc place) some is = by (slice_get_cases endings place).1
      where
        by : ((x : List Report) × (place < length endings) × (slice_get endings place ≡ Some x) × (get_or endings place x ≡ x)) ⊎ ((length endings ≤ place) × (slice_get endings place ≡ None))
            → length endings < suc place
        by (inl h) = let there : slice_get endings place ≡ Some h.0 = h.2 in absurd (cc)
        by (inr h) = omega (arith, h.0)

    fewer_told : (number : ℕ) → number ≢ 0 → numbered number endings ≡ None → length (map outcome_told endings) < number
    fewer_told number some is = subst (λ n. n < number) (sym (length-map endings outcome_told)) (past_end number some is)

    has_fewer : (number : ℕ) → number ≢ 0 → numbered number endings ≡ None → all ≡ true → HasFewer script most number
    has_fewer number some is whole = record {
      outcomes = map outcome_told endings;
      states = states;
      listed = subst (AreListed script most (map outcome_told endings) states) whole are_listed;
      fewer = fewer_told number some is;
    }

    not_found : (number met : ℕ) → number ≢ 0 → numbered number endings ≡ None → all ≡ false → met ≡ states → IsNotFound script most number met
    not_found number met some is cut same =
        let over : states ≤ most → ⊥ = λ le. false≢true (sym cut ∙ found.met.1 le) in
        let outcomes : List (List Rest) = map outcome_told endings in
        record {
          over = omega (arith, over, same);
          outcomes = outcomes;
          listed = subst (λ n. AreListed script most outcomes n false) (sym same) (subst (AreListed script most outcomes states) cut are_listed);
          fewer = fewer_told number some is;
        }

    -- what was found of this number, as it is said of the script
    pub found_is : (number : ℕ) (result : Result Text ViewStatus) → number ≢ 0 → IsFoundText endings states all number result
        → IsNumberedText script most number result
    found_is number (Ok text) some h = listed_record number h.0 text.bytes.items text.end h.1 h.2 h.3 h.4
    found_is number (Err Done) some h = absurd h
    found_is number (Err (BadScript line kind)) some h = absurd h
    found_is number (Err Usage) some h = absurd h
    found_is number (Err ReadFault) some h = absurd h
    found_is number (Err WriteFault) some h = absurd h
    found_is number (Err Memory) some h = h
    found_is number (Err (No event)) some h = absurd h
    found_is number (Err (BadRecord line)) some h = absurd h
    found_is number (Err TooLong) some h = absurd h
    found_is number (Err NoEvent) some h = absurd h
    found_is number (Err TooManyEvents) some h = absurd h
    found_is number (Err NoOutcome) some h = inr (has_fewer number some h.0 h.1)
    found_is number (Err (NotFound met)) some h = not_found number met some h.0 h.1 h.2
    found_is number (Err (Unfinished met)) some h = absurd h

-- ---- in another order

module _ (script : Program) (most : ℕ) (old new : List (List Report)) (states : ℕ) (all : Bool) (same : IsPermutation old new) where
  told_still : (outcome : List Rest) → Contains (map outcome_told old) outcome → Contains (map outcome_told new) outcome
  told_still outcome = Contains-permutation (map outcome_told old) (map outcome_told new) outcome (IsPermutation-map outcome_told old new same)

  told_before : (outcome : List Rest) → Contains (map outcome_told new) outcome → Contains (map outcome_told old) outcome
  told_before outcome =
      Contains-permutation (map outcome_told new) (map outcome_told old) outcome
      (IsPermutation-sym (map outcome_told old) (map outcome_told new) (IsPermutation-map outcome_told old new same))

  pub found_still : AreFound script most old states all → AreFound script most new states all
  found_still found = record {
    each = All-permutation (IsOfSettledRun script) old new same found.each;
    outcomes = All-permutation (λ reports. IsOutcome script (outcome_told reports)) old new same found.outcomes;
    sized = λ names. All-permutation IsSizedRecord old new same (found.sized names);
    distinct = pairs_rearranged TellOthers (λ a b differ alike. differ (sym alike)) old new same found.distinct;
    met = found.met;
    whole = λ is. record {
      each = λ outcome ends. told_still outcome ((found.whole is).each outcome ends);
      told = λ machine reports run settled. told_still (outcome_told reports) ((found.whole is).told machine reports run settled);
    };
  }

  pub seen_still : HaveSeen script most states (map outcome_told old) → HaveSeen script most states (map outcome_told new)
  seen_still seen = record {
    crews = seen.crews;
    many = seen.many;
    first = seen.first;
    taken = seen.taken;
    met = seen.met;
    once = seen.once;
    assumed = seen.assumed;
    visited = seen.visited;
    told = λ crew there stuck. told_still (outcome_of script (machine_of_crew crew)) (seen.told crew there stuck);
    only = λ outcome there. seen.only outcome (told_before outcome there);
  }

-- ---- what a search says of what it has found

pub all_found : {E : Type 0} (script : Program) (most : ℕ) (found : Result Outcomes E) → IfOk found (λ (o : Outcomes). All (IsEnding script) o.endings.items) → IfOk found (λ (o : Outcomes). AllPairs TellOthers o.endings.items)
    → IfOk found (λ (o : Outcomes). IsTrue o.all ↔ (o.states ≤ most)) → (AreNames script → IfOk found (λ (o : Outcomes). All IsSizedRecord o.endings.items))
    → IfOk found (λ (o : Outcomes). o.all ≡ true → AreAllOutcomes script (map outcome_told o.endings.items)) → IfOk found (λ (o : Outcomes). AreFound script most o.endings.items o.states o.all)
all_found script most (Ok o) endings once states sized whole = record {
  each = All-weaker (IsEnding script) (IsOfSettledRun script) (λ r h. record { machine = h.machine; run = h.run; settled = h.settled }) o.endings.items endings;
  outcomes = All-weaker (IsEnding script) (λ reports. IsOutcome script (outcome_told reports)) (λ r h. h.outcome) o.endings.items endings;
  sized = sized;
  distinct = once;
  met = states;
  whole = whole;
}
all_found script most (Err e) endings once states sized whole = tt

-- ---- the loop

-- with one more the text has the outcomes so far
pub ends_more : (endings : List (List Report)) (at : ℕ) (ending : List Report) (all old new : List ℕ) → at < length endings → ending ≡ get_or endings at ending
    → old ++ endings_from (at + 1) (drop at endings) ≡ all → new ≡ old ++ (number_line (at + 1) ++ ends_text ending)
    → new ++ endings_from (at + 1 + 1) (drop (at + 1) endings) ≡ all
ends_more endings at ending all old new h there so is =
    let own : List ℕ = number_line (at + 1) ++ ends_text ending in
    let rest : drop at endings ≡ ending ∷ drop (at + 1) endings =
    drop-cons endings at ending h ∙ ap (λ (e : List Report). e ∷ drop (suc at) endings) (sym there) ∙ ap (λ k. ending ∷ drop k endings) (sym (add-one at)) in
    let more : List ℕ = endings_from (at + 1 + 1) (drop (at + 1) endings) in
    ap (λ (t : List ℕ). t ++ more) is ∙ append_assoc old own more ∙ ap (λ (es : List (List Report)). old ++ endings_from (at + 1) es) (sym rest) ∙ so
