-- What each event keeps, of its process and its signals, holds in every run.
use Rattle.std.proofs.Common.{◌≡◌, ℕ, Bool, true, false, cond, ◌&&◌, List, ◌++◌, drop, Some, sym, ap, ◌∙◌, subst, ⊎_elim}
use Rattle.std.specs.Prelude.{◌==◌, slice_get, slice_set, if◌then◌else◌}
use Rattle.std.specs.List.{All}
use Rattle.std.proofs.lemmas.Bool.{cases_eq}
use Rattle.std.proofs.lemmas.List.Elements.{All-append, All-filter, All-head, All-drop}
use Rattle.std.proofs.lemmas.Option.{same_Some}
use Rattle.sig_runs.specs.Rules.{Effect, Rules, addressed}
use Rattle.sig_runs.specs.Machine.{Machine, At, Applied, Choice, apply, IsRun, moved, without_oldest}
use Rattle.sig_runs.specs.Machine.Choice.{Executes, Handles}
use Rattle.sig_runs.specs.Everywhere.{Facts, HoldEverywhere, HoldAfter, EventKeeps}
use Rattle.sig_runs.proofs.Lists.{slice_get-set_same, slice_get-set_other}
use Rattle.sig_runs.proofs.Choices.{DidExecute, DidHandle, did_execute, did_handle}
use Rattle.sig_runs.proofs.Runs.{run_keeps}

module _ {S X E : Type 0} (rules : Rules S X E) (facts : Facts S X) where
  moved_holds : (m : Machine S X) (p : ℕ) (s : S) (effect : Effect S X E) (queued : ℕ → ℕ → List X) → HoldEverywhere facts m → slice_get m.procs p ≡ Some s → HoldAfter facts p effect →
      ((f t : ℕ) → All facts.of_signal (queued f t)) → HoldEverywhere facts (moved rules m p queued effect).machine
  moved_holds m p s effect queued h at now old = record {
    states = λ q u there.
        ⊎_elim
        (λ e.
        let same : effect.state ≡ u = same_Some effect.state u (sym (slice_get-set_same m.procs p effect.state s at) ∙ ap (λ z. slice_get (slice_set m.procs p effect.state) z) e ∙ there) in
        subst (λ z. facts.of_state z u) e (subst (λ z. facts.of_state p z) same now.0))
        (λ n. h.states q u (sym (slice_get-set_other m.procs p q effect.state n) ∙ there))
        (cases_eq p q);
    signals = λ f t. go (p == f) f t;
  }
    where
      go : (b : Bool) (f t : ℕ) → All facts.of_signal (cond b (queued f t ++ addressed rules t effect.sends) (queued f t))
      go true f t = All-append facts.of_signal (queued f t) (addressed rules t effect.sends) (old f t) (All-filter (λ x. rules.to x == t) facts.of_signal effect.sends now.1)
      go false f t = old f t

  module _ (law : EventKeeps facts rules) where
    keeps_facts : (m : Machine S X) (c : Choice) (r : Applied S X E) → HoldEverywhere facts m → apply rules m c ≡ Some r → HoldEverywhere facts r.machine
    keeps_facts m (Executes p) r h e =
        let d : DidExecute rules m p (slice_get m.procs p) r = did_execute rules m p (slice_get m.procs p) r e in
        subst (λ z. HoldEverywhere facts z.machine) (sym d.is) (moved_holds m p d.state d.effect m.queued h d.at (law.executed p d.state d.effect d.defined (h.states p d.state d.at)) h.signals)
    keeps_facts m (Handles p f) r h e =
        let d : DidHandle rules m p f (slice_get m.procs p) (m.queued f p) r = did_handle rules m p f (slice_get m.procs p) (m.queued f p) r e in
        let fine : facts.of_signal d.signal = All-head facts.of_signal d.signal d.rest (subst (λ z. All facts.of_signal z) d.oldest (h.signals f p)) in
        subst (λ z. HoldEverywhere facts z.machine) (sym d.is)
        (moved_holds m p d.state (rules.handle p d.state d.signal) (without_oldest f p m.queued) h d.at (law.handled p d.state d.signal (h.states p d.state d.at) fine) (λ s t. without s t (f == s && p == t)))
      where
        without : (s t : ℕ) (b : Bool) → All facts.of_signal (if b then drop 1 (m.queued s t) else m.queued s t)
        without s t true = All-drop facts.of_signal 1 (m.queued s t) (h.signals s t)
        without s t false = h.signals s t

    -- they hold at the end of each run that begins where they hold
    pub run_keeps_facts : (es : List (At E)) (m end : Machine S X) → HoldEverywhere facts m → IsRun rules m es end → HoldEverywhere facts end
    run_keeps_facts es m end h run = run_keeps rules (λ z. HoldEverywhere facts z) keeps_facts es m end h run
