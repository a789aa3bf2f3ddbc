-- A run by a rule that looks only behind a mark is a run by the rule that looks at the whole list: where the marks of a
-- process are sound the two agree, and each event keeps them sound, since each own reference that stands in a process was
-- made before.
use Rattle.std.proofs.Common.{◌≡◌, ℕ, ◌<◌, List, Option, Some, sym, ap, ◌∙◌, subst, ⊎_elim, inl, inr, ◌⊎◌, [], ◌∷◌}
use Rattle.std.specs.Prelude.{slice_get, slice_set}
use Rattle.std.proofs.lemmas.Bool.{cases_eq}
use Rattle.std.proofs.lemmas.Option.{same_Some}
use Rattle.sig_runs.specs.Rules.{Effect, Rules, KeepStamps}
use Rattle.sig_runs.specs.Machine.{Machine, Applied, At, Choice, apply, choice, IsRun}
use Rattle.sig_runs.specs.Machine.Choice.{Executes, Handles}
use Rattle.sig_runs.specs.Crew.{Member, IsLawful, crew_machine, opening_machine}
use Rattle.sig_runs.specs.Order.{Place, IsOrder, events_at}
use Rattle.sig_runs.specs.Settled.{HasNoSignal, IsLate, IsAtRest, IsSettled}
use Rattle.sig_runs.proofs.Lists.{slice_get-set_same, slice_get-set_other}
use Rattle.sig_runs.proofs.Order.{order_is_run}
use Rattle.sig_runs.proofs.Choices.{DidExecute, DidHandle, did_execute, did_handle}
use Rattle.sig_runs.specs.Fresh.{Marking, IsMade, MakesFresh}
use Rattle.sig_runs.specs.Marks.{by_whole, OwnMade, KeepsMarksSound, AllMarksSound}
use Rattle.sig_runs.proofs.Fresh.{keeps_made}
use Rattle.sig_runs.proofs.Runs.{run_keeps}
use Rattle.sig_runs.proofs.Whole.{apply_whole, run_whole}

module _ {S X E R : Type 0} (rules : Rules S X E) (marking : Marking S X R) (fresh : MakesFresh marking rules) (whole : ℕ → S → Option (Effect S X E)) where
  own_made : (m : Machine S X) → AllMarksSound marking m → (p : ℕ) (s : S) → slice_get m.procs p ≡ Some s → OwnMade marking p s
  own_made m h p s at r there mine =
      let i : IsMade marking m.procs r = h.made.states p s at r there in
      let same : s ≡ i.state = same_Some s i.state (sym at ∙ ap (λ z. slice_get m.procs z) (sym mine) ∙ i.at) in
      subst (λ z. marking.serial r < marking.next z) (sym same) i.below

  moved_sound : (m : Machine S X) (p : ℕ) (s s' : S) → AllMarksSound marking m → slice_get m.procs p ≡ Some s → marking.sound p s' → (q : ℕ) (u : S) → slice_get (slice_set m.procs p s') q ≡ Some u → marking.sound q u
  moved_sound m p s s' h at now q u there =
      ⊎_elim
      (λ e.
      let same : s' ≡ u = same_Some s' u (sym (slice_get-set_same m.procs p s' s at) ∙ ap (λ z. slice_get (slice_set m.procs p s') z) e ∙ there) in
      subst (λ z. marking.sound z u) e (subst (λ z. marking.sound p z) same now))
      (λ n. h.marks q u (sym (slice_get-set_other m.procs p q s' n) ∙ there))
      (cases_eq p q)

  module _ (keeps : KeepsMarksSound marking rules whole) where
    keeps_sound : (m : Machine S X) (c : Choice) (r : Applied S X E) → AllMarksSound marking m → apply rules m c ≡ Some r → AllMarksSound marking r.machine
    keeps_sound m (Executes p) r h e =
        let d : DidExecute rules m p (slice_get m.procs p) r = did_execute rules m p (slice_get m.procs p) r e in
        record {
          made = keeps_made rules marking fresh m (Executes p) r h.made h.marks e;
          marks = subst (λ z. (q : ℕ) (u : S) → slice_get z.machine.procs q ≡ Some u → marking.sound q u) (sym d.is)
              (moved_sound m p d.state d.effect.state h d.at (keeps.exec_sound p d.state d.effect d.defined (h.marks p d.state d.at) (own_made m h p d.state d.at)));
        }
    keeps_sound m (Handles p f) r h e =
        let d : DidHandle rules m p f (slice_get m.procs p) (m.queued f p) r = did_handle rules m p f (slice_get m.procs p) (m.queued f p) r e in
        record {
          made = keeps_made rules marking fresh m (Handles p f) r h.made h.marks e;
          marks = subst (λ z. (q : ℕ) (u : S) → slice_get z.machine.procs q ≡ Some u → marking.sound q u) (sym d.is)
              (moved_sound m p d.state (rules.handle p d.state d.signal).state h d.at (keeps.handle_sound p d.state d.signal (h.marks p d.state d.at) (own_made m h p d.state d.at)));
        }

    -- in every run all references were made and all marks are sound
    pub run_sound : (es : List (At E)) (m end : Machine S X) → AllMarksSound marking m → IsRun rules m es end → AllMarksSound marking end
    run_sound es m end h run = run_keeps rules (AllMarksSound marking) keeps_sound es m end h run

    -- a run from the marks is a run over the whole lists
    pub whole_run : (es : List (At E)) (m end : Machine S X) → AllMarksSound marking m → IsRun rules m es end → IsRun (by_whole rules whole) m es end
    whole_run es m end h run =
        run_whole rules whole (AllMarksSound marking) keeps_sound (λ n i p s at ef e. keeps.agrees p s (i.marks p s at) ∙ e) es m end h run

    -- and a run over the whole lists is one from the marks
    apply_marked : (m : Machine S X) (c : Choice) (r : Applied S X E) → AllMarksSound marking m → apply (by_whole rules whole) m c ≡ Some r → apply rules m c ≡ Some r
    apply_marked m c r h e = apply_whole (by_whole rules whole) rules.exec m c r (λ p s at ef w. sym (keeps.agrees p s (h.marks p s at)) ∙ w) e

    pub marked_run : (es : List (At E)) (m end : Machine S X) → AllMarksSound marking m → IsRun (by_whole rules whole) m es end → IsRun rules m es end
    marked_run [] m end h run = run
    marked_run (a ∷ later) m end h run =
        let r : Applied S X E = record { machine = run.0; event = a.event } in
        let step : apply rules m (choice a.pid (rules.did a.event)) ≡ Some r = apply_marked m (choice a.pid (rules.did a.event)) r h run.1 in
        (run.0, step, marked_run later run.0 end (keeps_sound m (choice a.pid (rules.did a.event)) r h step) run.2)

    -- a machine that is settled from the marks is settled over the whole lists
    late_whole : (m : Machine S X) (p : ℕ) → IsLate rules m p → IsLate (by_whole rules whole) m p
    late_whole m p l = record { sender = l.sender; signal = l.signal; queued = l.queued; late = l.late }

    pub settled_whole : (m : Machine S X) → AllMarksSound marking m → IsSettled rules m → IsSettled (by_whole rules whole) m
    settled_whole m h settled p s at = go (settled p s at)
      where
        signals : HasNoSignal m p ⊎ IsLate rules m p → HasNoSignal m p ⊎ IsLate (by_whole rules whole) m p
        signals (inl none) = inl none
        signals (inr late) = inr (late_whole m p late)

        go : IsAtRest rules m p s → IsAtRest (by_whole rules whole) m p s
        go (inl cut) = inl cut
        go (inr (inl ended, q)) = inr (inl ended, signals q)
        go (inr (inr none, q)) = inr (inr (keeps.agrees p s (h.marks p s at) ∙ none), signals q)

    -- the merge theorem, for the rule that looks at the whole list
    pub order_is_whole_run : (stamped : KeepStamps rules) (opening : List S) (crew : List (Member S X E)) (order : List Place) → AllMarksSound marking (opening_machine opening) → IsLawful rules opening crew → IsOrder rules crew order →
        IsRun (by_whole rules whole) (opening_machine opening) (events_at crew order) (crew_machine rules crew)
    order_is_whole_run stamped opening crew order h lawful o =
        whole_run (events_at crew order) (opening_machine opening) (crew_machine rules crew) h (order_is_run rules stamped opening crew order lawful o)

    -- whose end is sound, so what is settled there from the marks is settled over the whole lists
    pub order_is_sound : (stamped : KeepStamps rules) (opening : List S) (crew : List (Member S X E)) (order : List Place) → AllMarksSound marking (opening_machine opening) → IsLawful rules opening crew → IsOrder rules crew order →
        AllMarksSound marking (crew_machine rules crew)
    order_is_sound stamped opening crew order h lawful o =
        run_sound (events_at crew order) (opening_machine opening) (crew_machine rules crew) h (order_is_run rules stamped opening crew order lawful o)
