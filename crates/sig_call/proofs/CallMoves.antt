-- What one event of a run does to the process that made a reference.
use Rattle.std.proofs.Common.{◌≡◌, ℕ, List, Bool, ◌&&◌, Option, Some, None, refl, sym, ap, subst, ◌∙◌, inl, inr, ◌⊎◌}
use Rattle.std.specs.Option.{option_map}
use Rattle.std.specs.Prelude.{◌==◌, slice_get, slice_set}
use Rattle.std.proofs.lemmas.Bool.{cases_eq, eq-eqb, ne_eqb, and_left, and_right}
use Rattle.std.proofs.lemmas.Option.{same_Some}
use Rattle.sig_terms.specs.declared.reference.Ref.{Ref}
use Rattle.sig_kinds.specs.declared.signal.Signal.{Signal}
use Rattle.sig_program.specs.Scripts.{Declared, Program}
use Rattle.sig_runs.specs.Rules.{Effect, Rules}
use Rattle.sig_runs.specs.Machine.{Machine, At, Applied, apply, choice, moved, without_oldest}
use Rattle.sig_runs.specs.Marks.{by_whole}
use Rattle.sig_runs.proofs.Lists.{slice_get-set_same, slice_get-set_other}
use Rattle.sig_runs.proofs.Choices.{DidExecute, DidHandle, did_execute, did_handle}
use Rattle.sig_model.specs.declared.event.Event.{Event}
use Rattle.sig_model.specs.declared.event.Did.{Did}
use Rattle.sig_model.specs.declared.event.Did.TheVariants.{Exec, From}
use Rattle.sig_model.specs.ProcessState.{ProcessState}
use Rattle.sig_model.specs.Handling.{handling}
use Rattle.sig_model.specs.Finishing.{finished_exec}
use Rattle.sig_model.specs.Machine.{rules_of, rules_with, acted_at, handling_of}
use Rattle.sig_model.proofs.ExecutingLemmas.{next_body}
use Rattle.sig_call.specs.CallLaw.{is_answer, is_kept, answer_first, handles_answer, enters}
use Rattle.sig_call.proofs.CallTables.{bit}
use Rattle.sig_call.proofs.CallAnswers.{count}

-- the rules by which a receive's scan begins so: at its mark, or at the oldest message
abbrev pub execution_by : (ℕ → ℕ) → ℕ → Option Declared → ProcessState → Option (Effect ProcessState Signal Event)
execution_by begin pid None s = None
execution_by begin pid (Some p) s = option_map (finished_exec pid s) (next_body begin p s)

abbrev pub rules_by : (ℕ → ℕ) → Program → Rules ProcessState Signal Event
rules_by begin script = by_whole (rules_of script) (λ pid s. execution_by begin pid (slice_get script.procs pid) s)

module _ (begin : ℕ → ℕ) (script : Program) (r : Ref) where
  abbrev pub rules : Rules ProcessState Signal Event
  rules = rules_by begin script

  abbrev pub maker : ℕ
  maker = r.owner.0

  -- the maker stays, executes or handles a signal; and so many answers enter
  pub data Moves (s t : ProcessState) (n : ℕ) : Type 0 where
    stays : s ≡ t → n ≡ 0 → Moves s t n
    executes : (effect : Effect ProcessState Signal Event) → execution_by begin maker (slice_get script.procs maker) s ≡ Some effect → effect.state ≡ t → n ≡ 0 → Moves s t n
    handles : (x : Signal) → (handling_of maker s x).state ≡ t → n ≡ count r s (handling maker s x) x.kind → Moves s t n

  pub record MakerStep (m next : Machine ProcessState Signal) (a : At Event) (s : ProcessState) : Type 0 where
    pub after : ProcessState
    pub at : slice_get next.procs maker ≡ Some after
    pub moves : Moves s after (bit (enters r m a))

  module _ (m next : Machine ProcessState Signal) (a : At Event) (s : ProcessState) (at : slice_get m.procs maker ≡ Some s) where
    abbrev gives : Applied ProcessState Signal Event
    gives = record { machine = next; event = a.event }

    -- what another process does leaves the maker
    other : (state : ProcessState) (queued : ℕ → ℕ → List Signal) → (a.pid ≡ maker → ⊥) → next ≡ record { procs = slice_set m.procs a.pid state; queued = queued } → MakerStep m next a s
    other state queued ne e = record {
      after = s;
      at = ap (λ (z : Machine ProcessState Signal). slice_get z.procs maker) e ∙ slice_get-set_other m.procs a.pid maker state ne ∙ at;
      moves = stays refl (ap bit (and_left (a.pid == maker) (is_kept a.event.outcome && handles_answer r (λ sender. m.queued sender a.pid) a.event.did) (ne_eqb a.pid maker ne)));
    }

    -- the state of the maker is the one that the choice found
    found : (state : ProcessState) → a.pid ≡ maker → slice_get m.procs a.pid ≡ Some state → state ≡ s
    found state e there = same_Some state s (sym there ∙ ap (λ p. slice_get m.procs p) e ∙ at)

    lands : (state after : ProcessState) (queued : ℕ → ℕ → List Signal) → a.pid ≡ maker → slice_get m.procs a.pid ≡ Some state → next ≡ record { procs = slice_set m.procs a.pid after; queued = queued } → slice_get next.procs maker ≡ Some after
    lands state after queued e there is =
        ap (λ (z : Machine ProcessState Signal). slice_get z.procs maker) is
        ∙ ap (λ p. slice_get (slice_set m.procs a.pid after) p) (sym e)
        ∙ slice_get-set_same m.procs a.pid after state there

    executed : (place : ℕ) → a.event.did ≡ Exec place → DidExecute rules m a.pid (slice_get m.procs a.pid) gives → MakerStep m next a s
    executed place did d = by (cases_eq a.pid maker)
      where
        is : next ≡ record { procs = slice_set m.procs a.pid d.effect.state; queued = (moved rules m a.pid m.queued d.effect).machine.queued }
        is = ap (λ (z : Applied ProcessState Signal Event). z.machine) d.is

        none : bit (enters r m a) ≡ 0
        none =
            ap bit (and_right (a.pid == maker) (is_kept a.event.outcome && handles_answer r (λ sender. m.queued sender a.pid) a.event.did)
            (and_right (is_kept a.event.outcome) (handles_answer r (λ sender. m.queued sender a.pid) a.event.did) (ap (handles_answer r (λ sender. m.queued sender a.pid)) did)))

        by : (a.pid ≡ maker) ⊎ (a.pid ≡ maker → ⊥) → MakerStep m next a s
        by (inr ne) = other d.effect.state _ ne is
        by (inl e) = record {
          after = d.effect.state;
          at = lands d.state d.effect.state _ e d.at is;
          moves = executes d.effect
              (subst (λ (z : ProcessState). execution_by begin maker (slice_get script.procs maker) z ≡ Some d.effect) (found d.state e d.at)
              (subst (λ p. execution_by begin p (slice_get script.procs p) d.state ≡ Some d.effect) e d.defined))
              refl none;
        }

    handled : (sender : ℕ) → (q : ℕ → List Signal → Bool) → ((q sender (m.queued sender a.pid)) ≡ handles_answer r (λ p. m.queued p a.pid) a.event.did) → ((xs : List Signal) → q sender xs ≡ answer_first r xs)
        → DidHandle (rules_of script) m a.pid sender (slice_get m.procs a.pid) (m.queued sender a.pid) gives → MakerStep m next a s
    unfolding rules_with
    handled sender q here first d = by (cases_eq a.pid maker)
      where
        is : next ≡ record { procs = slice_set m.procs a.pid (handling_of a.pid d.state d.signal).state; queued = (moved (rules_of script) m a.pid (without_oldest sender a.pid m.queued) (handling_of a.pid d.state d.signal)).machine.queued }
        is = ap (λ (z : Applied ProcessState Signal Event). z.machine) d.is

        outcome : a.event.outcome ≡ (handling a.pid d.state d.signal).outcome
        outcome = ap (λ (z : Applied ProcessState Signal Event). z.event.outcome) d.is

        by : (a.pid ≡ maker) ⊎ (a.pid ≡ maker → ⊥) → MakerStep m next a s
        by (inr ne) = other (handling_of a.pid d.state d.signal).state _ ne is
        by (inl e) = record {
          after = (handling_of a.pid d.state d.signal).state;
          at = lands d.state (handling_of a.pid d.state d.signal).state _ e d.at is;
          moves = handles d.signal
              (ap (λ (z : ProcessState). (handling_of maker z d.signal).state) (sym (found d.state e d.at)) ∙ ap (λ p. (handling_of p d.state d.signal).state) (sym e))
              (ap (λ (b : Bool). bit (b && (is_kept a.event.outcome && handles_answer r (λ p. m.queued p a.pid) a.event.did))) (eq-eqb a.pid maker e)
              ∙ ap (λ (b : Bool). bit (is_kept a.event.outcome && b)) (sym here ∙ first (m.queued sender a.pid) ∙ ap (answer_first r) d.oldest)
              ∙ ap (λ o. bit (is_kept o && is_answer r d.signal.kind)) outcome
              ∙ ap (λ p. bit (is_kept (handling p d.state d.signal).outcome && is_answer r d.signal.kind)) e
              ∙ ap (λ (z : ProcessState). bit (is_kept (handling maker z d.signal).outcome && is_answer r d.signal.kind)) (found d.state e d.at));
        }

    by_did : (did : Did) → a.event.did ≡ did → apply rules m (choice a.pid (acted_at did)) ≡ Some gives → MakerStep m next a s
    by_did (Exec place) is h = executed place is (did_execute rules m a.pid (slice_get m.procs a.pid) gives h)
    by_did (From sender number) is h =
        handled sender.0 (λ p xs. answer_first r xs) (sym (ap (handles_answer r (λ p. m.queued p a.pid)) is)) (λ xs. refl)
        (did_handle (rules_of script) m a.pid sender.0 (slice_get m.procs a.pid) (m.queued sender.0 a.pid) gives h)

    pub maker_step : apply rules m (choice a.pid (rules.did a.event)) ≡ Some gives → MakerStep m next a s
    unfolding rules_with
    maker_step h = by_did a.event.did refl h
