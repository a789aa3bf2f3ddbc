-- The record of a lawful crew of which no process can do anything is that of a run that has come to rest.
use Rattle.std.proofs.Common.{◌≡◌, ℕ, zero, suc, ◌+◌, ◌-◌, ◌<◌, ◌≤◌, List, [], ◌∷◌, ◌++◌, map, length, Bool, true, false, not, ◌||◌, ◌&&◌, All, Option, Some, None, refl, sym, ap, ◌∙◌, subst, arith}
use Rattle.std.specs.Prelude.{◌==◌, nat_le, nat_lt, is_none, slice_get}
use Rattle.std.specs.List.{list_any}
use Rattle.std.specs.Option.{option_map_or}
use Rattle.std.proofs.lemmas.Bool.{le-leb, leb-true, or_right}
use Rattle.std.proofs.lemmas.Bool.Decides.{nat_tests}
use Rattle.std.proofs.lemmas.List.{append-nil}
use Rattle.std.proofs.lemmas.List.Elements.{All-weaker}
use Rattle.sig_kinds.specs.declared.signal.Signal.{Signal}
use Rattle.sig_kinds.specs.SignalNames.{IsSignalBelow}
use Rattle.sig_program.specs.Scripts.{Program, Declared}
use Rattle.sig_runs.specs.Rules.{Effect, IsStamped}
use Rattle.sig_runs.specs.LocalRun.{Local, Input, Act, CanDo, after, IsLocalRun}
use Rattle.sig_runs.specs.LocalRun.Input.{Execute, Handle}
use Rattle.sig_runs.specs.Replay.{acts_told}
use Rattle.sig_model.specs.declared.event.Event.{Event}
use Rattle.sig_model.specs.declared.state.TheConstants.{LAST_STAMP}
use Rattle.sig_model.specs.ProcessState.{ProcessState, is_cut}
use Rattle.sig_model.specs.Machine.{rules_with}
use Rattle.sig_model.specs.PrintedState.{is_late_signal, is_late, state_of, printed_state}
use Rattle.sig_model.specs.Running.{Running, next_of, is_early, can_handle}
use Rattle.sig_model.specs.Keeping.{IsKeeping, own_rules, opening_local, local_of}
use Rattle.sig_model.specs.CrewLaw.{IsLawfulCrew}
use Rattle.sig_model.specs.Still.{IsStillCrew}
use Rattle.sig_model.proofs.StampLemmas.{stamps_kept}
use Rattle.sig_terms.specs.declared.term.Term.{Term}
use Rattle.sig_record.specs.RecordOf.{queued_below, report_of, record_of}
use Rattle.sig_record.specs.SettledRecord.{ends_late, has_none_or_late, is_settled_report, is_settled}
use Rattle.sig_record.specs.SettledRecord.{is_cut as prints_cut}
use Rattle.sig_record.proofs.RunRecordLemmas.{any_queued}

-- the stamp of the last event, or what it was before all of them
abbrev last_of : List Event → ℕ → ℕ
last_of [] n = n
last_of (e ∷ es) n = last_of es e.stamp

last_is_late : (e : Event) (es : List Event) → LAST_STAMP ≤ last_of es e.stamp → ends_late (e ∷ es) ≡ true
last_is_late e [] h = le-leb LAST_STAMP e.stamp h
last_is_late e (f ∷ es) h =
    let here : suc (suc (length es)) - 1 ≡ suc (length es) = omega arith in
    let there : suc (length es) - 1 ≡ length es = omega arith in
    ap (λ i. option_map_or (λ (d : Event). nat_le LAST_STAMP d.stamp) (slice_get (e ∷ f ∷ es) i) false) here
    ∙ sym (ap (λ i. option_map_or (λ (d : Event). nat_le LAST_STAMP d.stamp) (slice_get (f ∷ es) i) false) there)
    ∙ last_is_late f es h

module _ (turns : ℕ) (part : ℕ → Option Declared) (pid : ℕ) where
  -- an event has the stamp that its process has then
  same_stamp : (l : Local ProcessState Signal) (i : Input Signal) (f : Effect ProcessState Signal Event) → CanDo (rules_with turns part) pid l i f → f.state.counts.stamp ≡ f.event.stamp
  unfolding rules_with
  same_stamp l Execute f can =
      let s : IsStamped (rules_with turns part) f (l.state.counts.stamp + 1) _ = (stamps_kept turns part).executed pid l.state f can.3 in
      s.last ∙ sym s.event
  same_stamp l (Handle x) f can =
      subst (λ (g : Effect ProcessState Signal Event). g.state.counts.stamp ≡ g.event.stamp) can.3
      (let s = (stamps_kept turns part).handled pid l.state x in s.last ∙ sym s.event)

  -- so the last event has the last stamp
  last_stamp : (acts : List (Act ProcessState Signal Event)) (l end : Local ProcessState Signal) → IsLocalRun (rules_with turns part) pid l acts end →
      end.state.counts.stamp ≡ last_of (map (λ a. a.effect.event) acts) l.state.counts.stamp
  last_stamp [] l end run = ap (λ (z : Local ProcessState Signal). z.state.counts.stamp) (sym run)
  last_stamp (a ∷ acts) l end run =
      last_stamp acts (after (rules_with turns part) pid l a) end run.1
      ∙ ap (λ n. last_of (map (λ (b : Act ProcessState Signal Event). b.effect.event) acts) n) (same_stamp l a.input a.effect run.0)

-- a process whose last stamp is at least 2^62 has an event with such a stamp
late_event : (r : Running) → IsKeeping r → LAST_STAMP ≤ r.state.counts.stamp → ends_late r.events ≡ true
late_event r k h =
    let last : r.state.counts.stamp ≡ last_of r.events 0 =
    last_stamp r.turns (λ p. Some r.proc) r.pid (acts_told (own_rules r) r.pid (opening_local r) r.events r.handled) (opening_local r) (local_of r) k.ran.runs ∙ ap (λ es. last_of es 0) k.ran.events_told in
    go r.events (subst (λ n. LAST_STAMP ≤ n) last h)
  where
    go : (es : List Event) → LAST_STAMP ≤ last_of es 0 → ends_late es ≡ true
    go [] h = absurd (let f : ⊥ = omega (arith, h) in f)
    go (e ∷ es) h = last_is_late e es h

-- no signal may be handled by a process that isn't cut
not_early : (r : Running) → is_cut r.turns r.state ≡ false → can_handle r ≡ false → is_early (next_of r.own r.taken_in) ≡ false
unfolding can_handle
not_early r e h = ap (λ c. not c && is_early (next_of r.own r.taken_in)) (sym e) ∙ h

none_queued : (n : ℕ) → queued_below n [] [] ≡ []
unfolding queued_below
none_queued zero = refl
none_queued (suc n) = append-nil (queued_below n [] [] ++ []) ∙ append-nil (queued_below n [] []) ∙ none_queued n

late_so : (x : Signal) → nat_lt x.stamp LAST_STAMP ≡ false → is_late_signal x ≡ true
late_so x h = grind (arith, nat_tests)

or_first : (a b : Bool) → a ≡ true → (a || b) ≡ true
or_first a b h = ap (λ c. c || b) h

or_second : (a b : Bool) → b ≡ true → (a || b) ≡ true
or_second a b h = or_right a b h

module _ (n : ℕ) (r : Running) (own_below : All (λ (x : Signal). x.from.0 < n) r.own) (others_below : All (λ (x : Signal). x.from.0 < n) r.taken_in) where
  -- a signal that it never handles waits for it
  late_waits : is_late r ≡ true → has_none_or_late (queued_below n r.own r.taken_in) ≡ true
  late_waits h =
      or_second (length (queued_below n r.own r.taken_in) == 0) (list_any is_late_signal (queued_below n r.own r.taken_in))
      (any_queued is_late_signal n r.own r.taken_in own_below others_below ∙ h)

  waits_late : (own taken : List Signal) → r.own ≡ own → r.taken_in ≡ taken → is_early (next_of own taken) ≡ false → has_none_or_late (queued_below n r.own r.taken_in) ≡ true
  waits_late [] [] o t h = rw (o, t) (ap has_none_or_late (none_queued n))
  waits_late [] (x ∷ taken) o t h =
      late_waits (or_second (list_any is_late_signal r.own) (list_any is_late_signal r.taken_in) (ap (list_any is_late_signal) t ∙ or_first (is_late_signal x) (list_any is_late_signal taken) (late_so x h)))
  waits_late (x ∷ own) taken o t h =
      late_waits (or_first (list_any is_late_signal r.own) (list_any is_late_signal r.taken_in) (ap (list_any is_late_signal) o ∙ or_first (is_late_signal x) (list_any is_late_signal own) (late_so x h)))

  -- a process that can't handle a signal is at rest in its report
  pub report_settled : IsKeeping r → can_handle r ≡ false → is_settled_report (report_of n r) ≡ true
  report_settled k still = go (is_cut r.turns r.state) refl
    where
      queued : List Signal
      queued = queued_below n r.own r.taken_in

      stops : (turned late : Bool) → (is_none r.state.tables.end && nat_le r.turns r.state.counts.executed) ≡ turned → nat_le LAST_STAMP r.state.counts.stamp ≡ late → (turned || late) ≡ true → is_settled_report (report_of n r) ≡ true
      stops turned true t l h =
          or_first (prints_cut (printed_state r) || ends_late r.events) (has_none_or_late queued) (or_second (prints_cut (printed_state r)) (ends_late r.events) (late_event r k (leb-true LAST_STAMP r.state.counts.stamp l)))
      stops true false t l h =
          or_first (prints_cut (printed_state r) || ends_late r.events) (has_none_or_late queued) (or_first (prints_cut (printed_state r)) (ends_late r.events) (turned_out r.state.tables.end refl t))
        where
          turned_out : (o : Option Term) → r.state.tables.end ≡ o → (is_none r.state.tables.end && nat_le r.turns r.state.counts.executed) ≡ true → prints_cut (printed_state r) ≡ true
          turned_out None e t = rw (e) (ap (λ c. prints_cut (state_of None ((c || nat_le LAST_STAMP r.state.counts.stamp) || is_late r))) (ap (λ o. is_none o && nat_le r.turns r.state.counts.executed) (sym e) ∙ t))
          turned_out (Some reason) e t = let f : false ≡ true = sym (ap (λ o. is_none o && nat_le r.turns r.state.counts.executed) e) ∙ t in absurd cc
      stops false false t l h = let f : false ≡ true = h in absurd cc

      go : (b : Bool) → is_cut r.turns r.state ≡ b → is_settled_report (report_of n r) ≡ true
      go true e = stops (is_none r.state.tables.end && nat_le r.turns r.state.counts.executed) (nat_le LAST_STAMP r.state.counts.stamp) refl refl e
      go false e =
          or_second (prints_cut (printed_state r) || ends_late r.events) (has_none_or_late queued) (waits_late r.own r.taken_in refl refl (not_early r e still))

all_settled : (n : ℕ) (crew : List Running) → ((p : ℕ) (r : Running) → slice_get crew p ≡ Some r → is_settled_report (report_of n r) ≡ true) → is_settled (map (report_of n) crew) ≡ true
all_settled n [] h = refl
all_settled n (r ∷ rs) h = ap (λ b. b && is_settled (map (report_of n) rs)) (h 0 r refl) ∙ all_settled n rs (λ p q e. h (suc p) q e)

pub still_settled : (script : Program) (crew : List Running) → IsLawfulCrew script crew → IsStillCrew crew → is_settled (record_of crew) ≡ true
still_settled script crew law still =
    all_settled (length crew) crew
    (λ p r there.
    let k : IsKeeping r = law.keeping p r there in
    let count : r.count ≡ length crew = (law.placed p r there).1 in
    report_settled (length crew) r
    (All-weaker (IsSignalBelow r.count) (λ (x : Signal). x.from.0 < length crew) (λ x h. subst (λ n. x.from.0 < n) count h.from) r.own k.below.own)
    (All-weaker (IsSignalBelow r.count) (λ (x : Signal). x.from.0 < length crew) (λ x h. subst (λ n. x.from.0 < n) count h.from) r.taken_in k.below.taken_in)
    k (still p r there).handle)
