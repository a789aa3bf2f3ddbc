-- The numbers of the signals that wait for a process of a lawful crew count up, sender by sender.
use Rattle.std.proofs.Common.{◌≡◌, ◌≢◌, ℕ, suc, ◌+◌, ◌<◌, List, [], ◌∷◌, ◌++◌, length, All, true, false, Option, Some, None, refl, sym, ◌∙◌, subst, inl, inr, ◌⊎◌}
use Rattle.std.specs.Prelude.{◌==◌, slice_get}
use Rattle.std.specs.List.{filter}
use Rattle.std.proofs.lemmas.Bool.Decides.{eqb_tells}
use Rattle.std.proofs.lemmas.List.Elements.{filter-append, All-nil, All-cons, All-weaker}
use Rattle.std.proofs.lemmas.Option.{slice_get_within}
use Rattle.sig_kinds.specs.declared.signal.Signal.{Signal}
use Rattle.sig_kinds.specs.Counting.{IsCounting}
use Rattle.sig_program.specs.Scripts.{Program}
use Rattle.sig_runs.specs.LocalRun.{handles}
use Rattle.sig_runs.specs.Replay.{acts_told}
use Rattle.sig_runs.proofs.Pairs.{own_law}
use Rattle.sig_model.specs.Machine.{rules_with}
use Rattle.sig_model.specs.Running.{Running}
use Rattle.sig_model.specs.Keeping.{IsKeeping, IsArriving, own_rules, opening_local, local_of}
use Rattle.sig_model.specs.Accounts.{sent_by, came, went, coming_from}
use Rattle.sig_model.proofs.OutboxNumbers.{counting-rest}
use Rattle.sig_model.specs.CrewLaw.{came_to, left_for, went_from, IsLawfulCrew}
use Rattle.sig_record.specs.RecordOf.{is_from}
use Rattle.sig_record.proofs.CountedLemmas.{IsCounted}
use Rattle.sig_record.proofs.RunRecordLemmas.{none_from}

-- numbers that count up
counting_front : (n : ℕ) (xs ys : List Signal) → IsCounting n (xs ++ ys) → IsCounting n xs
counting_front n [] ys h = tt
counting_front n (x ∷ xs) ys h = (h.0, counting_front (n + 1) xs ys h.1)

module _ (script : Program) (crew : List Running) (law : IsLawfulCrew script crew) (p : ℕ) (r : Running) (there : slice_get crew p ≡ Some r) where
  abbrev keeping : IsKeeping r
  keeping = law.keeping p r there

  within : p < r.count
  within = subst (λ n. p < n) (sym (law.placed p r there).1) (slice_get_within crew p r there)

  -- its own signals
  own_counting : (n : ℕ) × IsCounting n r.own
  unfolding sent_by rules_with
  own_counting =
      let acts = acts_told (own_rules r) r.pid (opening_local r) r.events r.handled in
      let pid : r.pid ≡ p = (law.placed p r there).0 in
      let pair : coming_from r.pid (handles acts) ++ r.own ≡ went r.pid r = own_law (own_rules r) r.pid acts (opening_local r) (local_of r) keeping.ran.runs in
      let counted : IsCounting 1 (went r.pid r) = (law.numbered p r there).counted r.pid (subst (λ n. n < r.count) (sym pid) within) in
      (1 + length (coming_from r.pid (handles acts)), counting-rest 1 (coming_from r.pid (handles acts)) r.own (subst (IsCounting 1) (sym pair) counted))

  counted_from : (s : ℕ) (o : Option Running) → slice_get crew s ≡ o → IsCounting 1 (went_from p o)
  counted_from s None e = tt
  counted_from s (Some a) e = (law.numbered s a e).counted p (subst (λ n. p < n) (sym (law.placed s a e).1) (slice_get_within crew p r there))

  -- those of another
  others_counting : (s : ℕ) → s ≢ p → (n : ℕ) × IsCounting n (filter (is_from s) r.taken_in)
  others_counting s apart =
      let pair : came s r ++ left_for p (slice_get crew s) ≡ went_from p (slice_get crew s) =
      subst (λ o. came_to s o ++ left_for p (slice_get crew s) ≡ went_from p (slice_get crew s)) there (law.pairs s p apart) in
      let counted : IsCounting 1 (came s r) = counting_front 1 (came s r) (left_for p (slice_get crew s)) (subst (IsCounting 1) (sym pair) (counted_from s (slice_get crew s) refl)) in
      (1 + length (filter (is_from s) r.handled), counting-rest 1 (filter (is_from s) r.handled) (filter (is_from s) r.taken_in) (subst (IsCounting 1) (filter-append (is_from s) r.handled r.taken_in) counted))

  theirs : All (λ (x : Signal). x.from.0 ≢ p) r.taken_in
  theirs = All-weaker (IsArriving r.pid r.count) (λ (x : Signal). x.from.0 ≢ p) (λ x h e. h.from (e ∙ sym (law.placed p r there).0)) r.taken_in keeping.taken_in

  -- it took in none of its own
  each_counting : (s : ℕ) → (((s == p) ≡ true) × (s ≡ p)) ⊎ (((s == p) ≡ false) × (s ≢ p)) → (n : ℕ) × IsCounting n (filter (is_from s) r.taken_in)
  each_counting s (inl e) =
      (0, subst (IsCounting 0) (sym (none_from s r.taken_in (All-weaker (λ (x : Signal). x.from.0 ≢ p) (λ (x : Signal). x.from.0 ≢ s) (λ x q w. q (w ∙ e.1)) r.taken_in theirs))) tt)
  each_counting s (inr e) = others_counting s e.1

  process_counted : IsCounted r
  process_counted = record { own = own_counting; taken_in = λ s. each_counting s (eqb_tells s p) }

-- what holds of the process at each place holds of all
all_slots : (P : Running → Type 0) (crew : List Running) → ((p : ℕ) (r : Running) → slice_get crew p ≡ Some r → P r) → All P crew
all_slots P [] h = All-nil P
all_slots P (r ∷ rs) h = All-cons P r rs (h 0 r refl) (all_slots P rs (λ p x e. h (suc p) x e))

pub crew_counted : (script : Program) (crew : List Running) → IsLawfulCrew script crew → All IsCounted crew
crew_counted script crew law = all_slots IsCounted crew (λ p r there. process_counted script crew law p r there)
