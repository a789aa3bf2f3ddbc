-- References are made by their owners: what stands in a process or in a sent signal after an event stood before in the process or in
-- the handled signal, or the process made it.
use Rattle.std.proofs.Common.{◌≡◌, ℕ, ◌+◌, ◌≤◌, ◌<◌, max, List, [], ◌∷◌, All, Option, Some, None, sym, ap, subst, ◌∙◌, inl, inr, ◌⊎◌, ⊎_elim, arith}
use Rattle.std.proofs.lemmas.Bool.{cases_lt, cases_eq}
use Rattle.std.proofs.lemmas.List.Elements.{All-head, All-tail}
use Rattle.std.proofs.lemmas.Option.{MatchOption-at_some}
use Rattle.sig_terms.specs.declared.reference.Ref.{Ref}
use Rattle.sig_terms.specs.Names.{reference}
use Rattle.sig_kinds.specs.declared.signal.Signal.{Signal}
use Rattle.sig_kinds.specs.SignalNames.{names_of_kind}
use Rattle.sig_program.specs.Scripts.{Declared}
use Rattle.sig_runs.specs.Rules.{Effect}
use Rattle.sig_runs.specs.Fresh.{Holds, StandsAfter, IsNew, MakesFresh}
use Rattle.sig_model.specs.declared.event.Event.{Event}
use Rattle.sig_model.specs.declared.event.Did.{Did}
use Rattle.sig_model.specs.declared.event.Did.TheVariants as did
use Rattle.sig_model.specs.ProcessState.{ProcessState, owner_of}
use Rattle.sig_model.specs.Bodies.{Body}
use Rattle.sig_model.specs.Executing.{new_ref, executing}
use Rattle.sig_model.specs.Handling.{handling}
use Rattle.sig_model.specs.Finishing.{numbered, finished, finished_exec}
use Rattle.sig_model.specs.Machine.{execution_of, handling_of, rules_with}
use Rattle.sig_model.specs.Names.{PostNames, BodyNames, ScriptNames}
use Rattle.sig_model.specs.Marking.{IsOther, StandsIn, IsSaid, marking}
use Rattle.sig_model.proofs.Lookups.{mapped_tells}
use Rattle.sig_model.proofs.StampLemmas.{numbered_all}
use Rattle.sig_model.proofs.AnyNames.{no_part}
use Rattle.sig_model.proofs.BodyLemmas.{IsKeptBody, IsMoved, AnyInbox}
use Rattle.sig_model.proofs.ExecutingLemmas.{IsKeptMade, any_executed, executing_kept, executing_moved}
use Rattle.sig_model.proofs.HandlingLemmas.{any_handled, handling_kept, handling_moved}
use Rattle.sig_model.proofs.HoldLemmas.{owner_in, serial_in, process_other, others_or_not}

-- what an instruction does at s, where it can be executed
pub record IsBodyOf (p : Declared) (pid : ℕ) (s : ProcessState) (effect : Effect ProcessState Signal Event) : Type 0 where
  pub body : Body
  pub can : executing p s ≡ Some body
  pub is : finished_exec pid s body ≡ effect

pub body_of : (p : Declared) (pid : ℕ) (s : ProcessState) (effect : Effect ProcessState Signal Event) → execution_of pid (Some p) s ≡ Some effect → IsBodyOf p pid s effect
body_of p pid s effect e =
    let w : (body : Body) × (executing p s ≡ Some body) × (finished_exec pid s body ≡ effect) = mapped_tells (finished_exec pid s) (executing p s) effect e in
    record { body = w.0; can = w.1; is = w.2 }

module _ (r : Ref) where
  -- where every name in the signals is another one, none carries the reference
  none_carried : (xs : List Signal) → All (λ (x : Signal). All (IsOther r) (names_of_kind x.kind)) xs → Holds marking xs r → ⊥
  none_carried [] h g = g
  none_carried (x ∷ xs) h (inl g) = g (All-head (λ (y : Signal). All (IsOther r) (names_of_kind y.kind)) x xs h)
  none_carried (x ∷ xs) h (inr g) = none_carried xs (All-tail (λ (y : Signal). All (IsOther r) (names_of_kind y.kind)) x xs h) g

  not_after : (pid : ℕ) (s : ProcessState) (executed stamp : ℕ) (what : Did) (b : Body) → BodyNames (IsOther r) b → StandsAfter marking (finished pid s executed stamp what b) r → ⊥
  not_after pid s executed stamp what b h (inl g) = g h.tables
  not_after pid s executed stamp what b h (inr g) =
      none_carried (numbered pid stamp s.counts.next_numbers b.posts)
      (numbered_all pid stamp (λ (x : Signal). All (IsOther r) (names_of_kind x.kind)) (PostNames (IsOther r)) (λ q n k. k.kind) s.counts.next_numbers b.posts h.posts) g

  -- the event made the reference, or its serial isn't the one that the process gives next
  new_or_not : (pid : ℕ) (s : ProcessState) (effect : Effect ProcessState Signal Event) → s.counts.next_serial ≤ effect.state.counts.next_serial
      → IsNew marking pid s effect r ⊎ (r.owner.0 ≡ pid → s.counts.next_serial < effect.state.counts.next_serial → r.serial ≡ s.counts.next_serial → ⊥)
  new_or_not pid s effect le = by (cases_eq r.owner.0 pid) (cases_lt r.serial s.counts.next_serial) (cases_lt r.serial effect.state.counts.next_serial)
    where
      by : (r.owner.0 ≡ pid) ⊎ (r.owner.0 ≡ pid → ⊥) → (r.serial < s.counts.next_serial) ⊎ (s.counts.next_serial ≤ r.serial)
          → (r.serial < effect.state.counts.next_serial) ⊎ (effect.state.counts.next_serial ≤ r.serial)
          → IsNew marking pid s effect r ⊎ (r.owner.0 ≡ pid → s.counts.next_serial < effect.state.counts.next_serial → r.serial ≡ s.counts.next_serial → ⊥)
      by (inl own) (inl lt) c = inr (λ e rises is. omega (arith, lt, is))
      by (inl own) (inr ge) (inl lt) = inl (own, (ge, lt))
      by (inl own) (inr ge) (inr far) = inr (λ e rises is. omega (arith, far, rises, is))
      by (inr other) b c = inr (λ e. absurd (other e))

  -- the processes that a script names are no references
  script_other : (p : Declared) → ScriptNames (IsOther r) p
  script_other p = λ i d lt j e l m f g. process_other r _

  module _ (pid : ℕ) (s : ProcessState) where
    -- the reference that the process makes next is another one, where it makes one
    new_other : (b : Body) → owner_of s.tables ≡ pid → (r.owner.0 ≡ pid → s.counts.next_serial < b.state.counts.next_serial → r.serial ≡ s.counts.next_serial → ⊥) → s.counts.next_serial < b.state.counts.next_serial → IsOther r (reference (new_ref s))
    new_other b own old rises e =
        let owner : owner_of s.tables ≡ r.owner.0 = ap owner_in e in
        let serial : s.counts.next_serial ≡ r.serial = ap serial_in e in
        old (sym owner ∙ own) rises (sym serial)

    exec_stands : (p : Declared) (b : Body) → executing p s ≡ Some b → owner_of s.tables ≡ pid → StandsAfter marking (finished_exec pid s b) r
        → s.counts.next_serial ≤ b.state.counts.next_serial → StandsIn s r ⊎ IsNew marking pid s (finished_exec pid s b) r
    exec_stands p b can own stands le =
        ⊎_elim (λ made. inr made)
        (λ old. inl (λ k.
        let kept : IsKeptMade (IsOther r) ⊥ p s b = MatchOption-at_some (Unit {0}) (IsKeptMade (IsOther r) ⊥ p s) b can (executing_kept (IsOther r) ⊥ p s k (λ j. absurd j) (λ j. absurd j) (script_other p)) in
        not_after pid s (s.counts.executed + 1) (s.counts.stamp + 1) (did.Exec s.counts.place) b (kept (new_other b own old)).names stands))
        (new_or_not pid s (finished_exec pid s b) le)

    handle_stands : (x : Signal) → StandsAfter marking (handling_of pid s x) r → StandsIn s r ⊎ IsSaid x r
    handle_stands x stands =
        ⊎_elim (λ others. inl (λ k.
        let kept : IsKeptBody (IsOther r) ⊥ no_part s (handling pid s x) =
        handling_kept (IsOther r) ⊥ no_part s k (λ j. absurd j) pid x (record { from = process_other r x.from.0; to = process_other r x.to.0; kind = others }) in
        not_after pid s s.counts.executed (max s.counts.stamp x.stamp + 1) (did.From x.from x.number) (handling pid s x) kept.names stands))
        (λ said. inr said)
        (others_or_not r (names_of_kind x.kind))

-- the next serial never falls
exec_next : (p : Declared) (pid : ℕ) (s : ProcessState) (effect : Effect ProcessState Signal Event) → execution_of pid (Some p) s ≡ Some effect → s.counts.next_serial ≤ effect.state.counts.next_serial
exec_next p pid s effect e =
    let b : IsBodyOf p pid s effect = body_of p pid s effect e in
    let moved : IsMoved AnyInbox s b.body = MatchOption-at_some (Unit {0}) (IsMoved AnyInbox s) b.body b.can (executing_moved AnyInbox p s (any_executed s)) in
    subst (λ (f : Effect ProcessState Signal Event). s.counts.next_serial ≤ f.state.counts.next_serial) b.is moved.serial

-- the law of freshness
module _ (turns : ℕ) (part : ℕ → Option Declared) where
  of_part_next : (o : Option Declared) (pid : ℕ) (s : ProcessState) (effect : Effect ProcessState Signal Event) → execution_of pid o s ≡ Some effect → s.counts.next_serial ≤ effect.state.counts.next_serial
  of_part_next None pid s effect e = cc
  of_part_next (Some p) pid s effect e = exec_next p pid s effect e

  of_part_stands : (o : Option Declared) (pid : ℕ) (s : ProcessState) (effect : Effect ProcessState Signal Event) → execution_of pid o s ≡ Some effect → owner_of s.tables ≡ pid
      → (r : Ref) → StandsAfter marking effect r → StandsIn s r ⊎ IsNew marking pid s effect r
  of_part_stands None pid s effect e own r stands = cc
  of_part_stands (Some p) pid s effect e own r stands =
      let b : IsBodyOf p pid s effect = body_of p pid s effect e in
      let moved : IsMoved AnyInbox s b.body = MatchOption-at_some (Unit {0}) (IsMoved AnyInbox s) b.body b.can (executing_moved AnyInbox p s (any_executed s)) in
      subst (λ (f : Effect ProcessState Signal Event). StandsAfter marking f r → StandsIn s r ⊎ IsNew marking pid s f r) b.is (λ stands. exec_stands r pid s p b.body b.can own stands moved.serial) stands

  pub makes_fresh : MakesFresh marking (rules_with turns part)
  unfolding rules_with
  makes_fresh = record {
    exec_next = λ pid s effect e. of_part_next (part pid) pid s effect e;
    handle_next = λ pid s x. (handling_moved AnyInbox pid s (any_handled s) x).serial;
    exec_stands = λ pid s effect e sound r stands. of_part_stands (part pid) pid s effect e sound.owner r stands;
    handle_stands = λ pid s x r stands. handle_stands r pid s x stands;
  }
