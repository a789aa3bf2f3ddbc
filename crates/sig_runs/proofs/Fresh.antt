-- Along every run each reference that stands somewhere was made by its owner before: its serial is below the owner's
-- next one. The law on one event is enough: what stands in the process or in a sent signal after it stood before in the
-- process or in the handled signal, or is a reference that this event makes.
use Rattle.std.proofs.Common.{◌≡◌, ℕ, ◌<◌, ◌≤◌, Bool, true, false, cond, ◌&&◌, List, [], ◌∷◌, ◌++◌, drop, Some, sym, ap, ◌∙◌, subst, inl, inr, ◌⊎◌, ⊎_elim, arith}
use Rattle.std.specs.Prelude.{◌==◌, slice_get, slice_set, if◌then◌else◌}
use Rattle.std.specs.List.{filter}
use Rattle.std.proofs.lemmas.Bool.{cases_eq}
use Rattle.std.proofs.lemmas.Option.{same_Some}
use Rattle.sig_runs.specs.Rules.{Effect, Rules, addressed}
use Rattle.sig_runs.specs.Machine.{Machine, Applied, Choice, apply, moved, posted, without_oldest}
use Rattle.sig_runs.specs.Machine.Choice.{Executes, Handles}
use Rattle.sig_runs.specs.Fresh.{Marking, Holds, IsMade, AllMade, StandsAfter, IsNew, MakesFresh}
use Rattle.sig_runs.proofs.Lists.{slice_get-set_same, slice_get-set_other}
use Rattle.sig_runs.proofs.Choices.{DidExecute, DidHandle, did_execute, did_handle}

module _ {S X R : Type 0} (marking : Marking S X R) where
  holds_append : (xs ys : List X) (r : R) → Holds marking (xs ++ ys) r → Holds marking xs r ⊎ Holds marking ys r
  holds_append [] ys r h = inr h
  holds_append (x ∷ xs) ys r (inl h) = inl (inl h)
  holds_append (x ∷ xs) ys r (inr h) = ⊎_elim (λ a. inl (inr a)) (λ a. inr a) (holds_append xs ys r h)

  holds_filter : (p : X → Bool) (xs : List X) (r : R) → Holds marking (filter p xs) r → Holds marking xs r
  holds_filter p [] r h = h
  holds_filter p (x ∷ xs) r h = go (p x) (holds_filter p xs r) h
    where
      go : (b : Bool) → (Holds marking (filter p xs) r → Holds marking xs r) → Holds marking (cond b (x ∷ filter p xs) (filter p xs)) r → marking.carried x r ⊎ Holds marking xs r
      go true ih (inl a) = inl a
      go true ih (inr a) = inr (ih a)
      go false ih a = inr (ih a)

  holds_rest : (xs : List X) (r : R) → Holds marking (drop 1 xs) r → Holds marking xs r
  holds_rest [] r h = h
  holds_rest (x ∷ xs) r h = inr h

module _ {S X E R : Type 0} (rules : Rules S X E) (marking : Marking S X R) where
  made_kept : (procs : List S) (p : ℕ) (s s' : S) → slice_get procs p ≡ Some s → marking.next s ≤ marking.next s' → (r : R) → IsMade marking procs r → IsMade marking (slice_set procs p s') r
  made_kept procs p s s' at le r h =
      ⊎_elim
      (λ e.
      let same : s ≡ h.state = same_Some s h.state (sym at ∙ ap (λ z. slice_get procs z) e ∙ h.at) in
      let low : marking.serial r < marking.next s = subst (λ z. marking.serial r < marking.next z) (sym same) h.below in
      record { state = s'; at = subst (λ z. slice_get (slice_set procs p s') z ≡ Some s') e (slice_get-set_same procs p s' s at); below = omega arith })
      (λ n. record { state = h.state; at = slice_get-set_other procs p (marking.owner r) s' n ∙ h.at; below = h.below })
      (cases_eq p (marking.owner r))

  made_new : (procs : List S) (p : ℕ) (s : S) (effect : Effect S X E) → slice_get procs p ≡ Some s → (r : R) → IsNew marking p s effect r → IsMade marking (slice_set procs p effect.state) r
  made_new procs p s effect at r n =
      record { state = effect.state; at = subst (λ z. slice_get (slice_set procs p effect.state) z ≡ Some effect.state) (sym n.0) (slice_get-set_same procs p effect.state s at); below = n.1.1 }

  -- a move after which what stands was made before, or is new
  moved_made : (m : Machine S X) (p : ℕ) (s : S) (effect : Effect S X E) (queued : ℕ → ℕ → List X) → AllMade marking m → slice_get m.procs p ≡ Some s → marking.next s ≤ marking.next effect.state →
      ((r : R) → StandsAfter marking effect r → IsMade marking m.procs r ⊎ IsNew marking p s effect r) → ((s t : ℕ) (r : R) → Holds marking (queued s t) r → Holds marking (m.queued s t) r) → AllMade marking (moved rules m p queued effect).machine
  moved_made m p s effect queued made at le after part = record {
    states = λ q u there r h.
        ⊎_elim
        (λ e.
        let same : effect.state ≡ u = same_Some effect.state u (sym (slice_get-set_same m.procs p effect.state s at) ∙ ap (λ z. slice_get (slice_set m.procs p effect.state) z) e ∙ there) in
        now r (inl (subst (λ z. marking.stands z r) (sym same) h)))
        (λ n. made_kept m.procs p s effect.state at le r (made.states q u (sym (slice_get-set_other m.procs p q effect.state n) ∙ there) r h))
        (cases_eq p q);
    signals = λ f t r h. posted_made f t r h;
  }
    where
      now : (r : R) → StandsAfter marking effect r → IsMade marking (slice_set m.procs p effect.state) r
      now r h = ⊎_elim (λ a. made_kept m.procs p s effect.state at le r a) (λ a. made_new m.procs p s effect at r a) (after r h)

      old : (f t : ℕ) (r : R) → Holds marking (queued f t) r → IsMade marking (slice_set m.procs p effect.state) r
      old f t r h = made_kept m.procs p s effect.state at le r (made.signals f t r (part f t r h))

      go : (b : Bool) (f t : ℕ) (r : R) → Holds marking (cond b (queued f t ++ addressed rules t effect.sends) (queued f t)) r → IsMade marking (slice_set m.procs p effect.state) r
      go true f t r h =
          ⊎_elim (λ a. old f t r a) (λ a. now r (inr (holds_filter marking (λ x. rules.to x == t) effect.sends r a))) (holds_append marking (queued f t) (addressed rules t effect.sends) r h)
      go false f t r h = old f t r h

      posted_made : (f t : ℕ) (r : R) → Holds marking (posted rules p effect.sends queued f t) r → IsMade marking (slice_set m.procs p effect.state) r
      posted_made f t r h = go (p == f) f t r h

  module _ (fresh : MakesFresh marking rules) where
    -- each choice keeps that all is made, where the marks are sound
    pub keeps_made : (m : Machine S X) (c : Choice) (r : Applied S X E) → AllMade marking m → ((p : ℕ) (s : S) → slice_get m.procs p ≡ Some s → marking.sound p s) → apply rules m c ≡ Some r →
        AllMade marking r.machine
    keeps_made m (Executes p) r made marks h =
        let d : DidExecute rules m p (slice_get m.procs p) r = did_execute rules m p (slice_get m.procs p) r h in
        subst (λ z. AllMade marking z.machine) (sym d.is)
        (moved_made m p d.state d.effect m.queued made d.at (fresh.exec_next p d.state d.effect d.defined)
        (λ r a. ⊎_elim (λ b. inl (made.states p d.state d.at r b)) (λ b. inr b) (fresh.exec_stands p d.state d.effect d.defined (marks p d.state d.at) r a))
        (λ s t r a. a))
    keeps_made m (Handles p f) r made marks h =
        let d : DidHandle rules m p f (slice_get m.procs p) (m.queued f p) r = did_handle rules m p f (slice_get m.procs p) (m.queued f p) r h in
        subst (λ z. AllMade marking z.machine) (sym d.is)
        (moved_made m p d.state (rules.handle p d.state d.signal) (without_oldest f p m.queued) made d.at (fresh.handle_next p d.state d.signal)
        (λ r a. inl (⊎_elim (λ s. made.states p d.state d.at r s) (λ s. made.signals f p r (subst (λ z. Holds marking z r) (sym d.oldest) (inl s)))
        (fresh.handle_stands p d.state d.signal r a)))
        (λ s t r a. without s t r (f == s && p == t) a))
      where
        without : (s t : ℕ) (r : R) (b : Bool) → Holds marking (if b then drop 1 (m.queued s t) else m.queued s t) r → Holds marking (m.queued s t) r
        without s t r true a = holds_rest marking (m.queued s t) r a
        without s t r false a = a
