-- Every event keeps that all processes that are named, in states and in signals, are the script's.
use Rattle.std.proofs.Common.{◌≡◌, ℕ, zero, suc, ◌+◌, ◌<◌, max, List, [], ◌∷◌, length, IfSome, Option, Some, None, slice_get, subst, arith}
use Rattle.std.proofs.lemmas.List.Elements.{All-nil}
use Rattle.std.proofs.lemmas.Option.{MatchOption-at_some}
use Rattle.sig_terms.specs.Names.{IsNameBelow}
use Rattle.sig_kinds.specs.declared.signal.Signal.{Signal}
use Rattle.sig_kinds.specs.SignalNames.{IsSignalBelow}
use Rattle.sig_program.specs.Scripts.{Declared, Program, IsProcBelow}
use Rattle.sig_runs.specs.Rules.{Effect}
use Rattle.sig_runs.specs.Crew.{opening_machine}
use Rattle.sig_runs.specs.Everywhere.{HoldEverywhere, HoldAfter, EventKeeps}
use Rattle.sig_model.specs.declared.event.Event.{Event}
use Rattle.sig_model.specs.declared.event.Did.{Did}
use Rattle.sig_model.specs.declared.event.Did.TheVariants as did
use Rattle.sig_model.specs.ProcessState.{ProcessState}
use Rattle.sig_model.specs.Bodies.{Body}
use Rattle.sig_model.specs.Handling.{handling}
use Rattle.sig_model.specs.Finishing.{finished}
use Rattle.sig_model.specs.Machine.{execution_of, handling_of, rules_with, opening_from, opening_of}
use Rattle.sig_model.specs.Names.{PostNames, BodyNames}
use Rattle.sig_model.specs.NameLaw.{IsStateBelow, names_below}
use Rattle.sig_model.proofs.StampLemmas.{numbered_all}
use Rattle.sig_model.proofs.TableLemmas.{opening_names}
use Rattle.sig_model.proofs.AnyNames.{no_part}
use Rattle.sig_model.proofs.BodyLemmas.{IsKeptBody}
use Rattle.sig_model.proofs.ExecutingLemmas.{IsKeptMade, executing_kept, script_names}
use Rattle.sig_model.proofs.HandlingLemmas.{handling_kept}
use Rattle.sig_model.proofs.FreshLemmas.{IsBodyOf, body_of}
use Rattle.sig_model.proofs.MarkerLemmas.{opened_state}

module _ (count : ℕ) where
  module _ (pid : ℕ) (s : ProcessState) (k : IsStateBelow count pid s) where
    finished_below : (executed stamp : ℕ) (what : Did) (b : Body) → BodyNames (IsNameBelow count) b → HoldAfter (names_below count) pid (finished pid s executed stamp what b)
    finished_below executed stamp what b h = (
      record { below = k.below; tables = h.tables },
      numbered_all pid stamp (IsSignalBelow count) (PostNames (IsNameBelow count)) (λ q n g. record { from = k.below; to = g.to; kind = g.kind }) s.counts.next_numbers b.posts h.posts,
    )

    executed_below : (o : Option Declared) → IfSome o (IsProcBelow count) → (effect : Effect ProcessState Signal Event) → execution_of pid o s ≡ Some effect → HoldAfter (names_below count) pid effect
    executed_below None h effect e = cc
    executed_below (Some p) h effect e =
        let b : IsBodyOf p pid s effect = body_of p pid s effect e in
        let kept : IsKeptMade (IsNameBelow count) ⊥ p s b.body =
        MatchOption-at_some (Unit {0}) (IsKeptMade (IsNameBelow count) ⊥ p s) b.body b.can
        (executing_kept (IsNameBelow count) ⊥ p s k.tables (λ j. absurd j) (λ j. absurd j) (script_names count p h)) in
        subst (λ (f : Effect ProcessState Signal Event). HoldAfter (names_below count) pid f) b.is (finished_below (s.counts.executed + 1) (s.counts.stamp + 1) (did.Exec s.counts.place) b.body (kept (λ n. tt)).names)

    handled_below : (x : Signal) → IsSignalBelow count x → HoldAfter (names_below count) pid (handling_of pid s x)
    handled_below x h =
        let kept : IsKeptBody (IsNameBelow count) ⊥ no_part s (handling pid s x) = handling_kept (IsNameBelow count) ⊥ no_part s k.tables (λ j. absurd j) pid x h in
        finished_below s.counts.executed (max s.counts.stamp x.stamp + 1) (did.From x.from x.number) (handling pid s x) kept.names

  -- the law of one event
  pub event_keeps_names : (turns : ℕ) (part : ℕ → Option Declared) → ((pid : ℕ) → IfSome (part pid) (IsProcBelow count)) → EventKeeps (names_below count) (rules_with turns part)
  unfolding rules_with
  event_keeps_names turns part h = record {
    executed = λ pid s effect e k. executed_below pid s k (part pid) (h pid) effect e;
    handled = λ pid s x k g. handled_below pid s k x g;
  }

-- a process of the opening is one of the script's
opened_within : (first count : ℕ) (ps : List Declared) (q : ℕ) (s : ProcessState) → slice_get (opening_from first count ps) q ≡ Some s → q < length ps
opened_within first count [] q s e = cc
opened_within first count (p ∷ ps) zero s e = omega arith
opened_within first count (p ∷ ps) (suc q) s e = let lt : q < length ps = opened_within (first + 1) count ps q s e in omega (arith, lt)

pub opening_below : (script : Program) → HoldEverywhere (names_below (length script.procs)) (opening_machine (opening_of script))
opening_below script = record {
  states = λ q s e.
      let count : ℕ = length script.procs in
      let lt : q < count = opened_within 0 count script.procs q s e in
      subst (λ (z : ProcessState). IsStateBelow count q z) (opened_state script q s e)
      (record { below = lt; tables = opening_names (IsNameBelow count) q lt });
  signals = λ f t. All-nil (IsSignalBelow (length script.procs));
}
