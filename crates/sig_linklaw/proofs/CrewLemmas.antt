-- The link law of a lawful crew that has come to rest.
use Rattle.std.proofs.Common.{◌≡◌, ◌≢◌, ℕ, ◌<◌, Bool, true, false, cond, not, ◌||◌, ◌==◌, List, [], ◌∷◌, map, All, Option, Some, is_none, is_some, slice_get, filter, refl, ap, ◌∙◌, subst}
use Rattle.std.specs.List.{Contains, list_any}
use Rattle.std.specs.Option.{option_map}
use Rattle.std.proofs.lemmas.Bool.{and_parts, or_parts, not-true, leb-false}
use Rattle.std.proofs.lemmas.List.Elements.{All-nil, All-cons, All-filter, All-contains}
use Rattle.std.proofs.lemmas.Option.{slice_get-map}
use Rattle.sig_kinds.specs.declared.signal.Signal.{Signal}
use Rattle.sig_program.specs.Scripts.{Program}
use Rattle.sig_runs.specs.Machine.{Machine}
use Rattle.sig_runs.specs.Crew.{Member, crew_machine, queued_at}
use Rattle.sig_runs.specs.PairFacts.{HoldOfPairs}
use Rattle.sig_model.specs.declared.event.Event.{Event}
use Rattle.sig_model.specs.declared.state.TheConstants.{LAST_STAMP}
use Rattle.sig_model.specs.ProcessState.{ProcessState, is_cut}
use Rattle.sig_model.specs.PrintedState.{is_late_signal, is_late, is_waiting}
use Rattle.sig_model.specs.Machine.{rules_with, rules_of}
use Rattle.sig_model.specs.Running.{Running}
use Rattle.sig_model.specs.CrewLaw.{whole_member}
use Rattle.sig_model.proofs.HandlingLemmas.{alive_still}
use Rattle.sig_record.specs.RecordOf.{record_of}
use Rattle.sig_record.specs.RunRecord.{events_listed, IsRecordOfRun}
use Rattle.sig_record.proofs.RunLemmas.{record_of_a_run, plain_run}
use Rattle.sig_linklaw.specs.LinkLaw.{one_link, IsGoing, AreOfOneMind}
use Rattle.sig_linklaw.specs.LinkReport.{HasComeToRest}
use Rattle.sig_linklaw.proofs.LawLemmas.{links_agree, of_one_mind}

-- none of these signals is late
in_time : (xs : List Signal) → list_any is_late_signal xs ≡ false → All (λ (x : Signal). x.stamp < LAST_STAMP) xs
in_time [] h = All-nil (λ (x : Signal). x.stamp < LAST_STAMP)
in_time (x ∷ xs) h =
    let w : (is_late_signal x ≡ false) × (list_any is_late_signal xs ≡ false) = or_parts (is_late_signal x) (list_any is_late_signal xs) h in
    All-cons (λ (x : Signal). x.stamp < LAST_STAMP) x xs (leb-false LAST_STAMP x.stamp w.0) (in_time xs w.1)

module _ (script : Program) (crew : List Running) (h : HasComeToRest script crew) where
  abbrev pub machine : Machine ProcessState Signal
  machine = crew_machine (rules_of script) (map whole_member crew)

  -- a process that waits is neither ended, nor cut, nor late
  going : (p : ℕ) (r : Running) → slice_get crew p ≡ Some r → is_waiting r ≡ true → IsGoing script.turns machine p r.state
  unfolding rules_with
  going p r at waits =
      let w : (is_none r.state.tables.end ≡ true) × (not (is_cut r.turns r.state || is_late r) ≡ true) = and_parts (is_none r.state.tables.end) (not (is_cut r.turns r.state || is_late r)) waits in
      let v : (is_cut r.turns r.state ≡ false) × (is_late r ≡ false) = or_parts (is_cut r.turns r.state) (is_late r) (not-true (is_cut r.turns r.state || is_late r) w.1) in
      let u : (list_any is_late_signal r.own ≡ false) × (list_any is_late_signal r.taken_in ≡ false) = or_parts (list_any is_late_signal r.own) (list_any is_late_signal r.taken_in) v.1 in
      record {
        there = slice_get-map (λ (m : Member ProcessState Signal Event). m.local.state) (map whole_member crew) p ∙ ap (option_map (λ (m : Member ProcessState Signal Event). m.local.state)) member;
        alive = alive_still r.state.tables.end (not-true (is_some r.state.tables.end) w.0);
        uncut = subst (λ n. is_cut n r.state ≡ false) (h.lawful.processes p r at).turns v.0;
        in_time = λ f x held. by f x u.0 u.1 (f == p) (subst (λ (o : Option (Member ProcessState Signal Event)). Contains (queued_at (rules_of script) f p o) x) member held);
      }
    where
      member : slice_get (map whole_member crew) p ≡ Some (whole_member r)
      member = slice_get-map whole_member crew p ∙ ap (option_map whole_member) at

      by : (f : ℕ) (x : Signal) → list_any is_late_signal r.own ≡ false → list_any is_late_signal r.taken_in ≡ false → (c : Bool)
          → Contains (cond c r.own (filter (λ (y : Signal). y.from.0 == f) r.taken_in)) x → x.stamp < LAST_STAMP
      by f x own taken true held = All-contains (λ (y : Signal). y.stamp < LAST_STAMP) r.own x (in_time r.own own) held
      by f x own taken false held =
          All-contains (λ (y : Signal). y.stamp < LAST_STAMP) (filter (λ (y : Signal). y.from.0 == f) r.taken_in) x
          (All-filter (λ (y : Signal). y.from.0 == f) (λ (y : Signal). y.stamp < LAST_STAMP) r.taken_in (in_time r.taken_in taken)) held

  agreed : HoldOfPairs one_link (rules_of script) machine
  agreed =
      let told : IsRecordOfRun script machine (record_of crew) = record_of_a_run script crew h.lawful h.clear in
      links_agree script (events_listed (record_of crew) told.order) machine (plain_run script crew h.lawful h.clear told.order told.merged)

  -- the link law
  pub crew_of_one_mind : (p q : ℕ) (r t : Running) → p ≢ q → slice_get crew p ≡ Some r → slice_get crew q ≡ Some t
      → is_waiting r ≡ true → is_waiting t ≡ true → AreOfOneMind p q r.state.tables.links t.state.tables.links
  unfolding rules_with
  crew_of_one_mind p q r t n here there waits rests =
      of_one_mind (rules_of script) script.turns (λ s. refl) (λ x. refl) machine agreed h.settled p q r.state t.state n (going p r here waits) (going q t there rests)
