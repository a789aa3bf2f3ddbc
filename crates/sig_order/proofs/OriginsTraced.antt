-- The record of a run and the origins of the run's signals have one event for each signal that was handled or is queued, and stamps that
-- rise along each step.
use Rattle.std.proofs.Common.{◌≡◌, ℕ, zero, suc, ◌+◌, ◌-◌, ◌<◌, Bool, true, false, cond, List, [], ◌∷◌, length, All, Option, Some, None, is_some, refl, sym, ap, ◌∙◌, subst, inl, inr, ◌⊎◌, arith}
use Rattle.std.specs.Prelude.{◌==◌, slice_get, option_and_then}
use Rattle.std.specs.List.{Contains, cons_option}
use Rattle.std.specs.Option.{option_map, option_map_or}
use Rattle.std.proofs.lemmas.Bool.{false≢true, eqb-true}
use Rattle.std.proofs.lemmas.List.Elements.{All-nil, All-cons, All-append, All-weaker}
use Rattle.std.proofs.lemmas.Option.{same_Some, none-some, some_pair_parts}
use Rattle.sig_terms.specs.declared.pid.Pid.{Pid}
use Rattle.sig_kinds.specs.declared.signal.Signal.{Signal}
use Rattle.sig_program.specs.Scripts.{Declared, Program, IsWithin, IsScriptWithin}
use Rattle.sig_runs.specs.Machine.{Machine, At}
use Rattle.sig_runs.specs.Order.{events_by}
use Rattle.sig_model.specs.declared.event.Event.{Event}
use Rattle.sig_model.specs.declared.event.Did.{Did}
use Rattle.sig_model.specs.declared.event.Did.TheVariants as did
use Rattle.sig_model.specs.declared.origin.Origin.{Origin}
use Rattle.sig_model.specs.ProcessState.{ProcessState}
use Rattle.sig_model.proofs.MarkedRuns.{from_mark}
use Rattle.sig_choices.specs.Origins.{origins_of}
use Rattle.sig_record.specs.declared.report.Report.{Report}
use Rattle.sig_record.specs.declared.merging.MergedAt.{MergedAt}
use Rattle.sig_record.specs.Merging.{event_at, events_in}
use Rattle.sig_record.specs.RunRecord.{queued_for, events_listed, run_report, run_reports, IsRecordOfRun}
use Rattle.sig_order.specs.declared.at.At.{At as Which}
use Rattle.sig_order.specs.Happening.{event_of, is_there, stamp_of, handled_by, handled_at, origin_by, IsNext, IsSentTo, IsTraced, HandledAreTold, QueuedAreTold}
use Rattle.sig_order.specs.Happening.{IsTold as IsToldOf}
use Rattle.sig_order.proofs.Ats.{from_one, place_of, event_of-at, event_of-place}
use Rattle.sig_order.proofs.RunTraces.{event_in, origin, IsSent, IsTold, IsTracedTo}
use Rattle.sig_order.proofs.TracedRuns.{run_traced}

-- a report of a run tells the events of its process
reports_told : (count turns : ℕ) (events : List (At Event)) (m : Machine ProcessState Signal) (p : ℕ) (ds : List Declared) (ss : List ProcessState) (i : ℕ) (r : Report) →
    slice_get (run_reports count turns events m p ds ss) i ≡ Some r → r.events ≡ events_by (p + i) events
reports_told count turns events m p [] ss i r h = absurd (none-some r h)
reports_told count turns events m p (d ∷ ds) [] i r h = absurd (none-some r h)
reports_told count turns events m p (d ∷ ds) (s ∷ ss) zero r h =
    ap (λ (z : Report). z.events) (sym (same_Some (run_report count turns events m p d s) r h)) ∙ ap (λ q. events_by q events) (let e : p ≡ p + zero = omega arith in e)
reports_told count turns events m p (d ∷ ds) (s ∷ ss) (suc i) r h =
    reports_told count turns events m (p + 1) ds ss i r h ∙ ap (λ q. events_by q events) (let e : p + 1 + i ≡ p + suc i = omega arith in e)

-- what was done where a signal was handled
handled_tells : (d : Did) (p number : ℕ) → handled_by d ≡ Some (p, number) → (sender : Pid) × (d ≡ did.From sender number) × (sender.0 ≡ p)
handled_tells (did.Exec place) p number h = absurd (none-some (p, number) h)
handled_tells (did.From sender n) p number h =
    let parts : (sender.0 ≡ p) × (n ≡ number) = some_pair_parts sender.0 p n number h in
    (sender, ap (λ z. did.From sender z) parts.1, parts.0)

-- a process without a report has no event
abbrev listed : MergedAt → Event → At Event
listed a e = record { pid = a.pid.0; event = e }

no_events : (reports : List Report) (p : ℕ) → slice_get reports p ≡ None → (order : List MergedAt) → events_by p (events_listed reports order) ≡ []
no_events reports p none [] = refl
no_events reports p none (a ∷ later) = by (no_events reports p none later) (event_at reports a) refl
  where
    of_process : events_by p (events_listed reports later) ≡ [] → (e : Event) → event_at reports a ≡ Some e → (b : Bool) → (a.pid.0 == p) ≡ b →
        cond b (e ∷ events_by p (events_listed reports later)) (events_by p (events_listed reports later)) ≡ []
    of_process rest e there true same =
        let no_report : slice_get reports a.pid.0 ≡ None = ap (λ n. slice_get reports n) (eqb-true a.pid.0 p same) ∙ none in
        absurd (none-some e (sym (ap (λ o. slice_get (events_in o) a.place) no_report) ∙ there))
    of_process rest e there false other = rest

    by : events_by p (events_listed reports later) ≡ [] → (o : Option Event) → event_at reports a ≡ o →
        events_by p (cons_option (option_map (listed a) o) (events_listed reports later)) ≡ []
    by rest None there = rest
    by rest (Some e) there = of_process rest e there (a.pid.0 == p) refl

-- what holds of the signals that the machine has for each process holds of those of the reports
reports_queued : (count turns : ℕ) (events : List (At Event)) (m : Machine ProcessState Signal) (P : Signal → Type 0) → ((q : ℕ) → All P (queued_for m q count)) →
    (p : ℕ) (ds : List Declared) (ss : List ProcessState) → All (λ (r : Report). All P r.queued) (run_reports count turns events m p ds ss)
reports_queued count turns events m P each p [] ss = All-nil (λ (r : Report). All P r.queued)
reports_queued count turns events m P each p (d ∷ ds) [] = All-nil (λ (r : Report). All P r.queued)
reports_queued count turns events m P each p (d ∷ ds) (s ∷ ss) =
    All-cons (λ (r : Report). All P r.queued) (run_report count turns events m p d s) (run_reports count turns events m (p + 1) ds ss) (each p)
    (reports_queued count turns events m P each (p + 1) ds ss)

module _ (script : Program) (machine : Machine ProcessState Signal) (reports : List Report) (sound : IsScriptWithin script) (within : All IsWithin script.procs) (run : IsRecordOfRun script machine reports) where
  abbrev events : List (At Event)
  events = events_listed reports run.order

  abbrev origins : List Origin
  origins = origins_of script events

  along : IsTracedTo (length script.procs) events machine origins
  along = run_traced script sound events machine (from_mark script events machine within run.run)

  told : (i : ℕ) (r : Report) → slice_get reports i ≡ Some r → r.events ≡ events_by i events
  told i r h =
      reports_told (length script.procs) script.turns events machine 0 script.procs machine.procs i r (ap (λ rs. slice_get rs i) (sym run.told) ∙ h)
      ∙ ap (λ q. events_by q events) (let e : 0 + i ≡ i = omega arith in e)

  -- an event that is there is one of the run
  record IsOfRun (a : Which) : Type 0 where
    event : Event
    from : 0 < a.event
    is : event_of reports a ≡ Some event
    there : event_in events a.pid (a.event - 1) ≡ Some event

  of_run : (a : Which) → is_there reports a ≡ true → IsOfRun a
  of_run a h = by (slice_get reports a.pid) refl (event_of reports a) refl h
    where
      from : 0 < a.event
      from = from_one reports a h

      at : event_of reports a ≡ event_at reports (place_of reports a)
      at = event_of-place reports a from

      by : (o : Option Report) → slice_get reports a.pid ≡ o → (e : Option Event) → event_of reports a ≡ e → is_some e ≡ true → IsOfRun a
      by o q None e t = absurd (false≢true t)
      by None q (Some f) e t = absurd (none-some f (sym (sym e ∙ at ∙ ap (λ z. slice_get (events_in z) (a.event - 1)) q)))
      by (Some r) q (Some f) e t = record {
        event = f;
        from = from;
        is = e;
        there = ap (λ (xs : List Event). slice_get xs (a.event - 1)) (sym (told a.pid r q)) ∙ sym (sym e ∙ at ∙ ap (λ z. slice_get (events_in z) (a.event - 1)) q);
      }

  its_stamp : (a : Which) (h : IsOfRun a) → stamp_of reports a ≡ h.event.stamp
  its_stamp a h = ap (λ (o : Option Event). option_map_or (λ (e : Event). e.stamp) o 0) h.is

  -- the next event of the process
  next_rises : (e f : Which) (h : IsOfRun e) (g : IsOfRun f) → IsNext e f → h.event.stamp < g.event.stamp
  next_rises e f h g n =
      along.rising e.pid (e.event - 1) (f.event - 1) h.event g.event (omega (arith, n.1, h.from)) h.there (subst (λ q. event_in events q (f.event - 1) ≡ Some g.event) n.0 g.there)

  -- the event that handled the signal
  sent_rises : (e f : Which) (h : IsOfRun e) (g : IsOfRun f) → IsSentTo reports origins e f → h.event.stamp < g.event.stamp
  sent_rises e f h g sent =
      let number : ℕ = sent.0 in
      let what : handled_by g.event.did ≡ Some (e.pid, number) = sym (ap (λ (o : Option Event). option_and_then (λ (z : Event). handled_by z.did) o) g.is) ∙ sent.1 in
      let from : (sender : Pid) × (g.event.did ≡ did.From sender number) × (sender.0 ≡ e.pid) = handled_tells g.event.did e.pid number what in
      let known : IsTold events origins from.0.0 f.pid number g.event.stamp = along.handled f.pid (f.event - 1) g.event from.0 number g.there from.1 in
      let same : e.event ≡ known.place + 1 = along.one (origin_by e f.pid number) (origin from.0.0 f.pid number (known.place + 1)) sent.2 known.told (sym from.2) refl refl in
      let here : event_in events e.pid known.place ≡ Some h.event = subst (λ n. event_in events e.pid n ≡ Some h.event) (let w : e.event - 1 ≡ known.place = omega (arith, same) in w) h.there in
      let one : known.sender ≡ h.event = same_Some known.sender h.event (sym (subst (λ q. event_in events q known.place ≡ Some known.sender) from.2 known.there) ∙ here) in
      let stamp : known.sender.stamp ≡ h.event.stamp = ap (λ (z : Event). z.stamp) one in
      omega (arith, known.lower, stamp)

  pub traced : IsTraced reports origins
  traced = record {
    one = along.one;
    rises = λ e f step. by e f (of_run e step.first) (of_run f step.second) step.leads;
  }
    where
      by : (e f : Which) (h : IsOfRun e) (g : IsOfRun f) → IsNext e f ⊎ IsSentTo reports origins e f → stamp_of reports e < stamp_of reports f
      by e f h g (inl n) = omega (arith, its_stamp e h, its_stamp f g, next_rises e f h g n)
      by e f h g (inr s) = omega (arith, its_stamp e h, its_stamp f g, sent_rises e f h g s)

  -- an event of the run is one of the record
  of_record : (p i : ℕ) (e : Event) → event_in events p i ≡ Some e → event_of reports (record { pid = p; event = i + 1 }) ≡ Some e
  of_record p i e h = by (slice_get reports p) refl
    where
      by : (o : Option Report) → slice_get reports p ≡ o → event_of reports (record { pid = p; event = i + 1 }) ≡ Some e
      by None q = absurd (none-some e (sym (ap (λ (xs : List Event). slice_get xs i) (no_events reports p q run.order)) ∙ h))
      by (Some r) q =
          event_of-at reports (record { pid = record { 0 = p }; place = i }) ∙ ap (λ (o : Option Report). slice_get (events_in o) i) q
          ∙ ap (λ (xs : List Event). slice_get xs i) (told p r q) ∙ h

  handles_there : (f : Which) (signal : ℕ × ℕ) → handled_at reports f ≡ Some signal → is_there reports f ≡ true
  handles_there f signal h = by (event_of reports f) h
    where
      by : (o : Option Event) → option_and_then (λ (e : Event). handled_by e.did) o ≡ Some signal → is_some o ≡ true
      by None g = absurd (none-some signal g)
      by (Some e) g = refl

  pub handled_told : HandledAreTold reports origins
  handled_told f from number h =
      let its : IsOfRun f = of_run f (handles_there f (from, number) h) in
      let what : handled_by its.event.did ≡ Some (from, number) = sym (ap (λ (o : Option Event). option_and_then (λ (z : Event). handled_by z.did) o) its.is) ∙ h in
      let by : (sender : Pid) × (its.event.did ≡ did.From sender number) × (sender.0 ≡ from) = handled_tells its.event.did from number what in
      let known : IsTold events origins by.0.0 f.pid number its.event.stamp = along.handled f.pid (f.event - 1) its.event by.0 number its.there by.1 in
      (record { pid = by.0.0; event = known.place + 1 }, by.2, ap is_some (of_record by.0.0 known.place known.sender known.there), known.told)

  sent_told : (s t : ℕ) (x : Signal) → IsSent events origins s t x → IsToldOf reports origins x
  sent_told s t x h =
      let there : event_of reports (record { pid = s; event = h.place + 1 }) ≡ Some h.sender = of_record s h.place h.sender h.there in
      let from : s ≡ x.from.0 = sym h.from in
      let to : t ≡ x.to.0 = sym h.to in (
        record { pid = s; event = h.place + 1 },
        from,
        ap is_some there,
        ap (λ (o : Option Event). option_map_or (λ (e : Event). e.stamp) o 0) there ∙ h.stamp,
        subst (λ (o : Origin). Contains origins o) (λ i. origin (from i) (to i) x.number (h.place + 1)) h.told,
      )

  queued_each : (p n : ℕ) → All (IsToldOf reports origins) (queued_for machine p n)
  unfolding queued_for
  queued_each p zero = All-nil (IsToldOf reports origins)
  queued_each p (suc n) =
      All-append (IsToldOf reports origins) (queued_for machine p n) (machine.queued n p) (queued_each p n)
      (All-weaker (IsSent events origins n p) (IsToldOf reports origins) (sent_told n p) (machine.queued n p) (along.queued n p))

  pub queued_told : QueuedAreTold reports origins
  queued_told =
      subst (λ rs. All (λ (r : Report). All (IsToldOf reports origins) r.queued) rs) (sym run.told)
      (reports_queued (length script.procs) script.turns events machine (IsToldOf reports origins) (λ p. queued_each p (length script.procs)) 0 script.procs machine.procs)
