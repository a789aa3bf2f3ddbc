-- The record of a lawful crew is the record of a run of the script's machine.
use Rattle.std.proofs.Common.{◌≡◌, ◌≢◌, ℕ, zero, suc, ◌+◌, ◌<◌, List, [], ◌∷◌, map, length, All, Option, Some, None, refl, sym, ap, ◌∙◌, subst, arith}
use Rattle.std.specs.Prelude.{slice_get}
use Rattle.std.specs.Option.{option_map}
use Rattle.std.proofs.lemmas.List.Elements.{All-nil, All-cons, All-weaker}
use Rattle.std.proofs.lemmas.Option.{slice_get-map, slice_get_within, same_Some, none-some}
use Rattle.sig_kinds.specs.declared.signal.Signal.{Signal}
use Rattle.sig_kinds.specs.SignalNames.{IsSignalBelow}
use Rattle.sig_program.specs.Scripts.{Declared, Program, IsWithin}
use Rattle.sig_runs.specs.Rules.{KeepStamps}
use Rattle.sig_runs.specs.Machine.{Machine, At, IsRun}
use Rattle.sig_runs.specs.LocalRun.{Act}
use Rattle.sig_runs.specs.Crew.{Member, IsLawful, acts_of, queued_at, crew_machine, opening_machine}
use Rattle.sig_runs.specs.Order.{IsOrder, act_at, events_at, events_by}
use Rattle.sig_runs.specs.Settled.{IsSettled}
use Rattle.sig_runs.proofs.Order.{order_events, order_is_run}
use Rattle.sig_runs.proofs.Marks.{order_is_whole_run}
use Rattle.sig_model.specs.declared.event.Event.{Event}
use Rattle.sig_model.specs.ProcessState.{ProcessState}
use Rattle.sig_model.specs.Machine.{rules_of, rules_with, opening_of}
use Rattle.sig_model.specs.Running.{Running}
use Rattle.sig_model.specs.Keeping.{IsKeeping, IsToItself, IsArriving}
use Rattle.sig_model.specs.SettledRun.{waiting_of, events_of}
use Rattle.sig_model.specs.OneWorker.{IsClear}
use Rattle.sig_model.specs.Marking.{marking, whole_of}
use Rattle.sig_model.specs.CrewLaw.{IsLawfulCrew, whole_member}
use Rattle.sig_model.proofs.StampLemmas.{stamps_kept}
use Rattle.sig_model.proofs.LawLemmas.{lawful_clear}
use Rattle.sig_model.proofs.MarkerLemmas.{keeps_sound, opening_sound}
use Rattle.sig_model.proofs.MarkedRuns.{script_fresh, end_sound, still_settled}
use Rattle.sig_record.specs.declared.report.Report.{Report}
use Rattle.sig_record.specs.declared.merging.MergedAt.{MergedAt}
use Rattle.sig_record.specs.RecordOf.{report_of, record_of}
use Rattle.sig_record.specs.Merging.{event_at, place_of, IsMerged}
use Rattle.sig_record.specs.RunRecord.{events_listed, run_reports, record_of_run, whole_rules, IsRecordOfRun}
use Rattle.sig_record.proofs.RecordLemmas.{record_events}
use Rattle.sig_record.proofs.OrderLemmas.{merged_is_order}
use Rattle.sig_record.proofs.KeySorting.{order_of, order_is_merged}
use Rattle.sig_record.proofs.RunRecordLemmas.{HasQueued, reports_alike}

module _ (script : Program) (crew : List Running) (law : IsLawfulCrew script crew) where
  abbrev pub members : List (Member ProcessState Signal Event)
  members = map whole_member crew

  abbrev pub made : Act ProcessState Signal Event → Event
  made a = a.effect.event

  told_at : (p : ℕ) (o : Option Running) → slice_get crew p ≡ o → map made (acts_of (option_map whole_member o)) ≡ events_of o
  told_at p None e = refl
  told_at p (Some r) e = (law.keeping p r e).ran.events_told

  -- the acts of each process give its events
  pub acts_told_at : (p : ℕ) → map made (acts_of (slice_get members p)) ≡ events_of (slice_get crew p)
  acts_told_at p = ap (λ o. map made (acts_of o)) (slice_get-map whole_member crew p) ∙ told_at p (slice_get crew p) refl

  -- so an event of the record is the event of an act
  same_at : (a : MergedAt) → event_at (record_of crew) a ≡ option_map made (act_at members (place_of a))
  same_at a =
      ap (λ (es : List Event). slice_get es a.place) (sym (record_events crew a.pid.0) ∙ sym (acts_told_at a.pid.0))
      ∙ slice_get-map made (acts_of (slice_get members a.pid.0)) a.place

  map_twice : (a : MergedAt) (o : Option (Act ProcessState Signal Event)) →
      option_map {U = At Event} (λ (e : Event). record { pid = a.pid.0; event = e }) (option_map made o) ≡ option_map {U = At Event} (λ (x : Act ProcessState Signal Event). record { pid = a.pid.0; event = made x }) o
  map_twice a None = refl
  map_twice a (Some x) = refl

  one_event : (a : MergedAt) → option_map {U = At Event} (λ (e : Event). record { pid = a.pid.0; event = e }) (event_at (record_of crew) a)
      ≡ option_map {U = At Event} (λ (x : Act ProcessState Signal Event). record { pid = a.pid.0; event = made x }) (act_at members (place_of a))
  one_event a = ap (λ o. option_map {U = At Event} (λ (e : Event). record { pid = a.pid.0; event = e }) o) (same_at a) ∙ map_twice a (act_at members (place_of a))

  abbrev joined_to : Option (At Event) → List (At Event) → List (At Event)
  joined_to None es = es
  joined_to (Some e) es = e ∷ es

  -- the events that are listed are those of the acts
  pub same_events : (order : List MergedAt) → events_listed (record_of crew) order ≡ events_at members (map place_of order)
  same_events [] = refl
  same_events (a ∷ order) = go _ _ (one_event a) _ _ (same_events order)
    where
      go : (x y : Option (At Event)) → x ≡ y → (es fs : List (At Event)) → es ≡ fs → joined_to x es ≡ joined_to y fs
      go x y e es fs g = rw (e, g) refl

  abbrev pub machine : Machine ProcessState Signal
  machine = crew_machine (rules_of script) members

  -- what is queued in the crew's machine waits at the process
  queued_here : (p : ℕ) (r : Running) → slice_get crew p ≡ Some r → (s : ℕ) → machine.queued s p ≡ waiting_of s p r
  unfolding rules_with
  queued_here p r there s = ap (λ o. queued_at (rules_of script) s p o) (slice_get-map whole_member crew p ∙ ap (λ o. option_map whole_member o) there)

  pub has_queued : (p : ℕ) (r : Running) → slice_get crew p ≡ Some r → HasQueued machine (length crew) p r
  has_queued p r there =
      let k : IsKeeping r = law.keeping p r there in
      let count : r.count ≡ length crew = (law.placed p r there).1 in
      record {
        queued = queued_here p r there;
        mine = All-weaker (IsToItself r.pid r.state.counts.stamp) (λ (x : Signal). x.from.0 ≡ p) (λ x h. h.from ∙ (law.placed p r there).0) r.own k.own;
        theirs = All-weaker (IsArriving r.pid r.count) (λ (x : Signal). x.from.0 ≢ p) (λ x h e. h.from (e ∙ sym (law.placed p r there).0)) r.taken_in k.taken_in;
        own_below = All-weaker (IsSignalBelow r.count) (λ (x : Signal). x.from.0 < length crew) (λ x h. subst (λ n. x.from.0 < n) count h.from) r.own k.below.own;
        others_below = All-weaker (IsSignalBelow r.count) (λ (x : Signal). x.from.0 < length crew) (λ x h. subst (λ n. x.from.0 < n) count h.from) r.taken_in k.below.taken_in;
      }

  pub states_alike : map (λ (r : Running). r.state) crew ≡ machine.procs
  states_alike = go crew
    where
      go : (rs : List Running) → map (λ (r : Running). r.state) rs ≡ map (λ (m : Member ProcessState Signal Event). m.local.state) (map whole_member rs)
      go [] = refl
      go (r ∷ rs) = ap (λ ss. r.state ∷ ss) (go rs)

  same_record : (events : List (At Event)) → run_reports (length crew) script.turns events machine 0 script.procs (map (λ (r : Running). r.state) crew) ≡ record_of_run script events machine
  same_record events =
      ap (λ ss. run_reports (length crew) script.turns events machine 0 script.procs ss) states_alike
      ∙ ap (λ n. run_reports n script.turns events machine 0 script.procs machine.procs) law.many

  -- the record of the crew tells of these events and of this machine
  pub record_alike : (events : List (At Event)) → ((p : ℕ) → events_by p events ≡ events_of (slice_get crew p)) → record_of crew ≡ record_of_run script events machine
  record_alike events told =
      reports_alike script events machine (length crew) 0 crew script.procs
      (λ i r there.
      let is : zero + i ≡ i = omega arith in
      let at : r.events ≡ events_by i events = sym (told i ∙ ap (λ o. events_of o) there) in (
        (law.processes i r there).proc,
        ((law.processes i r there).pid ∙ sym is, (law.processes i r there).turns, subst (λ k. r.events ≡ events_by k events) (sym is) at, subst (λ k. HasQueued machine (length crew) k r) (sym is) (has_queued i r there)),
      ))
      law.many
      ∙ same_record events

  -- every part of the script is that of a process
  there_is : (rs : List Running) (p : ℕ) → p < length rs → (r : Running) × (slice_get rs p ≡ Some r)
  there_is [] p lt = absurd (let f : ⊥ = omega (arith, lt) in f)
  there_is (r ∷ rs) zero lt = (r, refl)
  there_is (r ∷ rs) (suc p) lt = there_is rs p (omega (arith, lt))

  part_within : (p : ℕ) (d : Declared) → slice_get script.procs p ≡ Some d → IsWithin d
  part_within p d at =
      let r = there_is crew p (subst (λ n. p < n) (sym law.many) (slice_get_within script.procs p d at)) in
      subst IsWithin (same_Some r.0.proc d (sym (law.processes p r.0 r.1).proc ∙ at)) (law.keeping p r.0 r.1).within

  parts_within : (ds : List Declared) → ((p : ℕ) (d : Declared) → slice_get ds p ≡ Some d → IsWithin d) → All IsWithin ds
  parts_within [] h = All-nil IsWithin
  parts_within (d ∷ ds) h = All-cons IsWithin d ds (h 0 d refl) (parts_within ds (λ p e at. h (suc p) e at))

  pub all_within : All IsWithin script.procs
  all_within = parts_within script.procs part_within

  module _ (clear : IsClear crew) where
    lawful : IsLawful (rules_of script) (opening_of script) members
    lawful = lawful_clear script crew law clear

    stamped : KeepStamps (rules_of script)
    stamped = stamps_kept script.turns (slice_get script.procs)

    in_order : (order : List MergedAt) → IsMerged (record_of crew) order → IsOrder (rules_of script) members (map place_of order)
    unfolding rules_with
    in_order order merged =
        merged_is_order (rules_of script) (λ e. refl) (record_of crew) members (λ p. acts_told_at p ∙ record_events crew p) order merged

    -- the events in their order are a run of the machine that looks at all messages
    pub merged_run : (order : List MergedAt) → IsMerged (record_of crew) order → IsRun (whole_rules script) (opening_machine (opening_of script)) (events_listed (record_of crew) order) machine
    merged_run order merged =
        subst (λ es. IsRun (whole_rules script) (opening_machine (opening_of script)) es machine) (sym (same_events order))
        (order_is_whole_run (rules_of script) marking (script_fresh script) (whole_of script) (keeps_sound script all_within) stamped (opening_of script) members (map place_of order) (opening_sound script) lawful (in_order order merged))

    -- and one of the machine that looks from the marks on
    pub plain_run : (order : List MergedAt) → IsMerged (record_of crew) order → IsRun (rules_of script) (opening_machine (opening_of script)) (events_listed (record_of crew) order) machine
    plain_run order merged =
        subst (λ es. IsRun (rules_of script) (opening_machine (opening_of script)) es machine) (sym (same_events order))
        (order_is_run (rules_of script) stamped (opening_of script) members (map place_of order) lawful (in_order order merged))

    -- those of one process are the events that it has
    pub told_by : (order : List MergedAt) → IsMerged (record_of crew) order → (p : ℕ) → events_by p (events_listed (record_of crew) order) ≡ events_of (slice_get crew p)
    told_by order merged p =
        ap (λ es. events_by p es) (same_events order)
        ∙ order_events (rules_of script) stamped (opening_of script) members (map place_of order) lawful (in_order order merged) p
        ∙ acts_told_at p

    -- and the record tells of them and of their end
    tells_of : (order : List MergedAt) → IsMerged (record_of crew) order → record_of crew ≡ record_of_run script (events_listed (record_of crew) order) machine
    tells_of order merged = record_alike (events_listed (record_of crew) order) (told_by order merged)

    pid_at : (n p : ℕ) (o : Option Running) (r : Report) → slice_get crew p ≡ o → option_map (report_of n) o ≡ Some r → r.pid.0 ≡ p
    pid_at n p None r e at = absurd (none-some r at)
    pid_at n p (Some q) r e at = ap (λ (t : Report). t.pid.0) (sym (same_Some (report_of n q) r at)) ∙ (law.placed p q e).0

    pub merged_order : IsMerged (record_of crew) (order_of (record_of crew))
    merged_order = order_is_merged (record_of crew) (λ p r at. pid_at (length crew) p (slice_get crew p) r refl (sym (slice_get-map (report_of (length crew)) crew p) ∙ at))

    pub record_of_a_run : IsRecordOfRun script machine (record_of crew)
    record_of_a_run = record {
      order = order_of (record_of crew);
      merged = merged_order;
      run = merged_run (order_of (record_of crew)) merged_order;
      told = tells_of (order_of (record_of crew)) merged_order;
    }

    -- what is settled from the marks is settled over all messages
    pub settled_whole_run : IsSettled (rules_of script) machine → IsSettled (whole_rules script) machine
    settled_whole_run settled =
        still_settled script machine all_within (end_sound script (events_listed (record_of crew) (order_of (record_of crew))) machine all_within (merged_run (order_of (record_of crew)) merged_order)) settled
