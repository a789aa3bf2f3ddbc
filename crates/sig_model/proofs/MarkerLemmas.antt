-- The law of sound marks for the machine of a script, and its opening.
use Rattle.std.proofs.Common.{◌≡◌, ℕ, zero, suc, ◌+◌, ◌-◌, ◌≤◌, ◌<◌, false, length, List, [], ◌∷◌, take, All, IfSome, Option, Some, None, slice_get, refl, sym, ap, subst, ◌∙◌, arith}
use Rattle.std.specs.Option.{option_map}
use Rattle.std.proofs.lemmas.Bool.{both_ways}
use Rattle.std.proofs.lemmas.Option.{MatchOption-at_some, same_Some}
use Rattle.sig_terms.specs.declared.reference.Ref.{Ref}
use Rattle.sig_terms.specs.declared.term.Term.{Term}
use Rattle.sig_terms.specs.Nodes.{holds}
use Rattle.sig_kinds.specs.declared.signal.Signal.{Signal}
use Rattle.sig_patterns.specs.Inbox.{terms_of, start_of, bound_in}
use Rattle.sig_program.specs.declared.instruction.Instr.{Instr}
use Rattle.sig_program.specs.declared.instruction.Instr.TheVariants as instr
use Rattle.sig_program.specs.Scripts.{Declared, Program, IsWithin}
use Rattle.sig_runs.specs.Rules.{Effect}
use Rattle.sig_runs.specs.Crew.{opening_machine}
use Rattle.sig_runs.specs.Marks.{OwnMade, KeepsMarksSound, AllMarksSound}
use Rattle.sig_model.specs.declared.event.Event.{Event}
use Rattle.sig_model.specs.ProcessState.{ProcessState, opening_state}
use Rattle.sig_model.specs.Executing.{using_ref, SkipsNoneAt, SkipsNone}
use Rattle.sig_model.specs.Handling.{handling}
use Rattle.sig_model.specs.Finishing.{finished_exec}
use Rattle.sig_model.specs.Machine.{execution_of, handling_of, rules_with, rules_of, opening_from, opening_of}
use Rattle.sig_model.specs.Marking.{IsOther, StandsIn, IsSoundInbox, HasSoundMarks, marking, execution_whole_of, whole_of}
use Rattle.sig_model.proofs.Lookups.{at_place}
use Rattle.sig_model.proofs.AnyNames.{Any, any_signal, no_part, any_script}
use Rattle.sig_model.proofs.BodyLemmas.{IsKeptBody, IsMoved}
use Rattle.sig_model.proofs.ExecutingLemmas.{IsKeptMade, IsExecuted, executing_kept, executing_moved}
use Rattle.sig_model.proofs.HandlingLemmas.{IsHandled, handling_kept, handling_moved}
use Rattle.sig_model.proofs.SkipLemmas.{whole_same}
use Rattle.sig_model.proofs.TableLemmas.{opening_names, any_tables}
use Rattle.sig_model.proofs.HoldLemmas.{never, process_other, holds_not}
use Rattle.sig_model.proofs.MarkingLemmas.{arrived_sound, without_sound, emptied_sound, reserved_sound, cleared_sound, bound_sound, no_messages_sound, start_skips}
use Rattle.sig_model.proofs.FreshLemmas.{IsBodyOf, body_of}

module _ (pid : ℕ) (s : ProcessState) (k : HasSoundMarks pid s) where
  -- no message holds an own reference that was not made
  unmade : OwnMade marking pid s → (r : Ref) → r.owner.0 ≡ pid → s.counts.next_serial ≤ r.serial → All (λ (m : ℕ × Term). holds r m.1 ≡ false) s.tables.inbox.messages
  unmade made r own since = λ i d lt. never _ (λ held.
      let stands : StandsIn s r = λ h. both_ways _ (holds_not r _ (h.inbox.messages i d lt)) held in
      let below : r.serial < s.counts.next_serial = made r stands own in
      absurd (omega (arith, since, below)))

  executed : OwnMade marking pid s → IsExecuted (IsSoundInbox pid) s
  executed made = record {
    same = k.inbox;
    without = without_sound pid s.tables.inbox k.inbox;
    emptied = emptied_sound pid s.tables.inbox k.inbox;
    reserve = reserved_sound pid s.tables.inbox k.inbox s.counts.next_serial (unmade made);
    bound = λ r. subst (λ owner. IsSoundInbox pid (bound_in owner s.tables.inbox r).1) (sym k.owner) (bound_sound pid s.tables.inbox k.inbox r);
    cleared = cleared_sound pid s.tables.inbox k.inbox;
  }

  handled : IsHandled (IsSoundInbox pid) s
  handled = record { same = k.inbox; arrived = arrived_sound pid s.tables.inbox k.inbox; emptied = emptied_sound pid s.tables.inbox k.inbox }

  -- a receive through a marker skips no message that could match
  sound_at : (o : Option Instr) → SkipsNoneAt s o
  sound_at (Some (instr.Receive x)) = by (using_ref s.tables.env x.using)
    where
      by : (o : Option Ref) → IfSome o (λ r. All (λ (t : Term). holds r t ≡ false) (take (start_of s.tables.inbox o) (terms_of s.tables.inbox.messages)))
      by None = tt
      by (Some r) = start_skips pid s.tables.inbox k.inbox r
  sound_at _ = tt

  pub skips_none : (p : Declared) → SkipsNone p s
  skips_none p = sound_at (slice_get p.instrs (s.counts.place - 1))

  handled_sound : (x : Signal) → HasSoundMarks pid (handling_of pid s x).state
  handled_sound x =
      let kept : IsKeptBody Any ⊥ no_part s (handling pid s x) = handling_kept Any ⊥ no_part s (any_tables s.tables) (λ j. absurd j) pid x (any_signal x) in
      record { owner = kept.owner ∙ k.owner; inbox = (handling_moved (IsSoundInbox pid) pid s handled x).inbox }

  executed_sound : (p : Declared) (effect : Effect ProcessState Signal Event) → execution_of pid (Some p) s ≡ Some effect → OwnMade marking pid s → HasSoundMarks pid effect.state
  executed_sound p effect e made =
      let b : IsBodyOf p pid s effect = body_of p pid s effect e in
      let kept : IsKeptMade Any ⊥ p s b.body =
      MatchOption-at_some (Unit {0}) (IsKeptMade Any ⊥ p s) b.body b.can (executing_kept Any ⊥ p s (any_tables s.tables) (λ j. absurd j) (λ j. absurd j) (any_script p)) in
      let moved : IsMoved (IsSoundInbox pid) s b.body = MatchOption-at_some (Unit {0}) (IsMoved (IsSoundInbox pid) s) b.body b.can (executing_moved (IsSoundInbox pid) p s (executed made)) in
      subst (λ (f : Effect ProcessState Signal Event). HasSoundMarks pid f.state) b.is (record { owner = (kept (λ n. tt)).owner ∙ k.owner; inbox = moved.inbox })

  of_part_sound : (o : Option Declared) (effect : Effect ProcessState Signal Event) → execution_of pid o s ≡ Some effect → OwnMade marking pid s → HasSoundMarks pid effect.state
  of_part_sound None effect e made = cc
  of_part_sound (Some p) effect e made = executed_sound p effect e made

  of_part_agrees : (o : Option Declared) → IfSome o IsWithin → execution_whole_of pid o s ≡ execution_of pid o s
  of_part_agrees None w = refl
  of_part_agrees (Some p) w = ap (option_map (finished_exec pid s)) (whole_same p s w (skips_none p))

module _ (script : Program) where
  -- the law of sound marks, for a script each of whose receives with a marker asks for it in every clause
  pub keeps_sound : All IsWithin script.procs → KeepsMarksSound marking (rules_of script) (whole_of script)
  unfolding rules_with
  keeps_sound within = record {
    exec_sound = λ pid s effect e k made. of_part_sound pid s k (slice_get script.procs pid) effect e made;
    handle_sound = λ pid s x k made. handled_sound pid s k x;
    agrees = λ pid s k. of_part_agrees pid s k (slice_get script.procs pid) (at_place IsWithin script.procs pid within);
  }

-- the process at each place of the opening
opened_at : (first count : ℕ) (ps : List Declared) (q : ℕ) (s : ProcessState) → slice_get (opening_from first count ps) q ≡ Some s → opening_state (first + q) count ≡ s
opened_at first count [] q s e = cc
opened_at first count (p ∷ ps) zero s e = ap (λ n. opening_state n count) (let z : first + 0 ≡ first = omega arith in z) ∙ same_Some (opening_state first count) s e
opened_at first count (p ∷ ps) (suc q) s e = ap (λ n. opening_state n count) (let z : first + suc q ≡ first + 1 + q = omega arith in z) ∙ opened_at (first + 1) count ps q s e

pub opened_state : (script : Program) (q : ℕ) (s : ProcessState) → slice_get (opening_of script) q ≡ Some s → opening_state q (length script.procs) ≡ s
opened_state script q s e = ap (λ n. opening_state n (length script.procs)) (let z : q ≡ 0 + q = omega arith in z) ∙ opened_at 0 (length script.procs) script.procs q s e

-- in the opening no reference stands, and no mark
pub opening_sound : (script : Program) → AllMarksSound marking (opening_machine (opening_of script))
opening_sound script = record {
  made = record {
    states = λ q s e r stands. absurd (none r q s (opened_state script q s e) stands);
    signals = λ f t r held. absurd held;
  };
  marks = λ q s e. subst (λ (z : ProcessState). HasSoundMarks q z) (opened_state script q s e) (record { owner = refl; inbox = no_messages_sound q });
}
  where
    none : (r : Ref) (q : ℕ) (s : ProcessState) → opening_state q (length script.procs) ≡ s → StandsIn s r → ⊥
    none r q s e stands = subst (λ (z : ProcessState). StandsIn z r → ⊥) e (λ h. h (opening_names (IsOther r) q (process_other r q))) stands
