-- What a signal makes of a call: an answer that enters ends it.
use Rattle.std.proofs.Common.{◌≡◌, ◌≢◌, ℕ, ◌+◌, ◌≤◌, Bool, true, false, cond, ◌&&◌, Option, Some, None, is_some, refl, sym, ap, subst, inl, inr, ◌⊎◌, arith}
use Rattle.std.specs.Prelude.{◌==◌}
use Rattle.std.proofs.lemmas.Bool.{cond_both, ne_eqb, and_right}
use Rattle.sig_terms.specs.declared.reference.Ref.{Ref}
use Rattle.sig_terms.specs.declared.term.Term.{Term}
use Rattle.sig_terms.specs.Nodes.{same_ref}
use Rattle.sig_terms.proofs.ReferenceLemmas.{same_ref-is}
use Rattle.sig_kinds.specs.declared.alias_mode.AliasMode.{AliasMode}
use Rattle.sig_kinds.specs.declared.alias_mode.AliasMode.TheVariants.{Explicit, Reply, ReplyDemonitor}
use Rattle.sig_kinds.specs.declared.signal.Kind.{Kind}
use Rattle.sig_kinds.specs.declared.signal.Kind.TheVariants.{AliasMessage, Down}
use Rattle.sig_kinds.specs.declared.signal.Signal.{Signal}
use Rattle.sig_kinds.specs.WatchRules.{WatchState, is_held, mode_of, unaliased, unmonitored, by_mode, on_down, watch_ending}
use Rattle.sig_model.specs.ProcessState.{ProcessState, rewatched}
use Rattle.sig_model.specs.Bodies.{Body, appending, dropping}
use Rattle.sig_model.specs.Executing.{new_ref}
use Rattle.sig_model.specs.Handling.{through_alias, told_down, down_message, live_body, ended_body, handling}
use Rattle.sig_model.proofs.BodyLemmas.{IsRewatched}
use Rattle.sig_model.proofs.ExecutingLemmas.{IsMaking}
use Rattle.sig_model.proofs.HandlingLemmas.{handling_watch}
use Rattle.sig_call.specs.CallLaw.{is_answer, is_kept}
use Rattle.sig_call.proofs.CallTables.{bit, IsCall, Falls, alike, falls_alike, falls_clear, falls_then, monitor_alike, alias_alike, ending_clear, unaliased_falls, unmonitored_falls, unmonitored_held, unmonitored_none, unaliased_none}

module _ (r : Ref) (s : ProcessState) where
  abbrev watch : WatchState
  watch = s.tables.watch

  -- what is made of r where no reference is new, and the next serial
  abbrev pub Fell : ℕ → WatchState → Type 0
  Fell n w = Falls r watch w × (s.counts.next_serial ≤ n)

  pub fell : IsRewatched Fell s.counts.next_serial watch
  fell = record {
    same = (falls_alike r watch watch (alike r watch), omega arith);
    demonitored = λ q. (unmonitored_falls r watch q, omega arith);
    dealiased = λ q. (unaliased_falls r watch q, omega arith);
    replied = λ q. (falls_then r watch (unmonitored watch q) (unaliased (unmonitored watch q) q) (unmonitored_falls r watch q) (unaliased_falls r (unmonitored watch q) q), omega arith);
    bearing = λ b. (falls_alike r watch (record watch { borne = b }) (record { held = refl; mode = refl }), omega arith);
    ended = (falls_clear r watch (watch_ending watch) (ending_clear r watch), omega arith);
  }

  -- another reference than the next one
  pub another : r.serial ≢ s.counts.next_serial → same_ref r (new_ref s) ≡ false
  another ne = and_right (r.owner.0 == s.tables.watch.owner) (r.serial == s.counts.next_serial) (ne_eqb r.serial s.counts.next_serial ne)

  pub fell_making : r.serial ≢ s.counts.next_serial → IsMaking Fell s
  fell_making ne = record {
    alone = (falls_alike r watch watch (alike r watch), omega arith);
    monitored = λ target mode. (falls_alike r watch _ (monitor_alike r watch (new_ref s) target mode (another ne)), omega arith);
    aliased = λ reply. (falls_alike r watch _ (alias_alike r watch (new_ref s) (cond reply Reply Explicit) (another ne)), omega arith);
  }

  -- how many answers of r enter by it
  abbrev pub count : Body → Kind → ℕ
  count b kind = bit (is_kept b.outcome && is_answer r kind)

  -- what a signal makes of a call
  pub record Answered (b : Body) (kind : Kind) : Type 0 where
    pub held : count b kind + bit (is_held b.state.tables.watch r) ≤ bit (is_held watch r)
    pub call : IsCall r b.state.tables.watch

  -- an answer is a message through the alias, or the down
  abbrev IsAnswer : Kind → Type 0
  IsAnswer kind = ((message : Term) × (kind ≡ AliasMessage r message)) ⊎ ((reason : Term) × (kind ≡ Down r reason))

  an_answer : (kind : Kind) → is_answer r kind ≡ true → IsAnswer kind
  an_answer (AliasMessage q message) e = inl (message, ap (λ (z : Ref). AliasMessage z message) (sym (same_ref-is r q e)))
  an_answer (Down q reason) e = inr (reason, ap (λ (z : Ref). Down z reason) (sym (same_ref-is r q e)))
  an_answer _ e = absurd cc

  pub handled_fell : (pid : ℕ) (x : Signal) → Fell (handling pid s x).state.counts.next_serial (handling pid s x).state.tables.watch
  handled_fell pid x = handling_watch Fell pid s fell x

  one_at_most : (b : Bool) → bit b ≤ 1
  one_at_most true = omega arith
  one_at_most false = omega arith

  module _ (call : IsCall r watch) where
    no_answer : (b : Body) (kind : Kind) → is_answer r kind ≡ false → Fell b.state.counts.next_serial b.state.tables.watch → Answered b kind
    no_answer b kind other f =
        let none : count b kind ≡ 0 = ap bit (and_right (is_kept b.outcome) (is_answer r kind) other) in
        record { held = omega (arith, none, f.0.held); call = f.0.call call }

    -- it is dropped
    dropped : (kind : Kind) → Answered (dropping s) kind
    dropped kind = record { held = omega arith; call = call }

    -- it enters, and ends the call, whose monitor was held
    ended : (b : Body) (kind : Kind) → is_held watch r ≡ true → is_held b.state.tables.watch r ≡ false → mode_of b.state.tables.watch r ≡ None → Answered b kind
    ended b kind old new none =
        let before : bit (is_held watch r) ≡ 1 = ap bit old in
        let after : bit (is_held b.state.tables.watch r) ≡ 0 = ap bit new in
        record { held = omega (arith, before, after, one_at_most (is_kept b.outcome && is_answer r kind)); call = inl none }

    through : (message : Term) → Answered (through_alias s r message (by_mode watch r (mode_of watch r))) (AliasMessage r message)
    through message = by call
      where
        P : Option AliasMode → Type 0
        P o = Answered (through_alias s r message (by_mode watch r o)) (AliasMessage r message)

        by : IsCall r watch → P (mode_of watch r)
        by (inl none) = subst P (sym none) (dropped (AliasMessage r message))
        by (inr active) =
            subst P (sym active.0)
            (ended (through_alias s r message (by_mode watch r (Some ReplyDemonitor))) (AliasMessage r message) active.1 (unmonitored_held r watch) (unaliased_none r (unmonitored watch r)))

    told : (sender : ℕ) (reason : Term) → Answered (told_down s r sender reason (on_down watch r)) (Down r reason)
    told sender reason =
        cond_both (is_held watch r) (appending (rewatched s (unmonitored watch r)) (down_message r sender reason)) (dropping s) (λ (b : Body). Answered b (Down r reason))
        (λ e. ended (appending (rewatched s (unmonitored watch r)) (down_message r sender reason)) (Down r reason) e (unmonitored_held r watch) (unmonitored_none r watch call))
        (λ e. dropped (Down r reason))

    -- an answer, to a process that has ended or hasn't
    of_answer : (pid sender : ℕ) (kind : Kind) → IsAnswer kind → Answered (cond (is_some s.tables.end) (ended_body s sender kind) (live_body pid s sender kind)) kind
    of_answer pid sender kind (inl a) =
        subst (λ (k : Kind). Answered (cond (is_some s.tables.end) (ended_body s sender k) (live_body pid s sender k)) k) (sym a.1)
        (cond_both (is_some s.tables.end) (dropping s) (through_alias s r a.0 (by_mode watch r (mode_of watch r))) (λ (b : Body). Answered b (AliasMessage r a.0)) (λ e. dropped (AliasMessage r a.0)) (λ e. through a.0))
    of_answer pid sender kind (inr d) =
        subst (λ (k : Kind). Answered (cond (is_some s.tables.end) (ended_body s sender k) (live_body pid s sender k)) k) (sym d.1)
        (cond_both (is_some s.tables.end) (dropping s) (told_down s r sender d.0 (on_down watch r)) (λ (b : Body). Answered b (Down r d.0)) (λ e. dropped (Down r d.0)) (λ e. told sender d.0))

    pub answered : (pid : ℕ) (x : Signal) → Answered (handling pid s x) x.kind
    unfolding handling
    answered pid x = by (is_answer r x.kind) refl
      where
        by : (b : Bool) → is_answer r x.kind ≡ b → Answered (handling pid s x) x.kind
        by true e = of_answer pid x.from.0 x.kind (an_answer x.kind e)
        by false e = no_answer (handling pid s x) x.kind e (handled_fell pid x)
