-- One act: what it does to the lists of a pair, that the machine can make its choice, and its stamps.
use Rattle.std.proofs.Common.{◌≡◌, ◌≢◌, ℕ, lt-ltb, ◌+◌, ◌<◌, ◌^◌, max, Bool, true, false, cond, not, ◌&&◌, ◌||◌, List, [], ◌∷◌, ◌++◌, drop, Some, None, refl, sym, ap, ◌∙◌, subst, inl, inr, ◌⊎◌, arith}
use Rattle.std.specs.Prelude.{◌==◌, slice_get, nat_lt, if◌then◌else◌}
use Rattle.std.specs.Bool.{MatchBool}
use Rattle.std.specs.List.{All}
use Rattle.std.proofs.lemmas.Bool.{eq-eqb, ne_eqb}
use Rattle.std.proofs.lemmas.Bool.Decides.{eqb_tells}
use Rattle.std.proofs.lemmas.List.{append-nil}
use Rattle.std.proofs.lemmas.List.Elements.{All-weaker}
use Rattle.sig_runs.specs.Rules.{Effect, Rules, IsStamped, KeepStamps, addressed, coming_from}
use Rattle.sig_runs.specs.Rules.Did.{Exec, From}
use Rattle.sig_runs.specs.Machine.{Machine, apply, choice, posted, without_oldest, is_empty, execute, executed, handle, moved}
use Rattle.sig_runs.specs.LocalRun.{Local, Input, CanDo, own_left, handled_in}
use Rattle.sig_runs.specs.LocalRun.Input.{Execute, Handle}

module _ {S X E : Type 0} (rules : Rules S X E) where
  -- what the first act adds to what t handled of s, and to what s sent to t, where it is of q
  abbrev pub first_handled : ℕ → ℕ → ℕ → Input X → List X
  first_handled q s t i = cond (q == t) (coming_from rules s (handled_in i)) []

  abbrev pub first_sent : ℕ → ℕ → ℕ → List X → List X
  first_sent q s t xs = cond (q == s) (addressed rules t xs) []

  -- the lists without the signal that the act handles
  abbrev pub pulled : ℕ → Input X → (ℕ → ℕ → List X) → ℕ → ℕ → List X
  pulled q Execute queued = queued
  pulled q (Handle x) queued = without_oldest (rules.from x) q queued

  pub posted_is : (q s t : ℕ) (xs : List X) (queued : ℕ → ℕ → List X) → posted rules q xs queued s t ≡ queued s t ++ first_sent q s t xs
  posted_is q s t xs queued =
      elim (q == s) as (λ c. cond c (queued s t ++ addressed rules t xs) (queued s t) ≡ queued s t ++ cond c (addressed rules t xs) [])
      [ true ↦ refl | false ↦ sym (append-nil (queued s t)) ]

  pub posted_other : (q s t : ℕ) (xs : List X) (queued : ℕ → ℕ → List X) → (q ≡ s → ⊥) → posted rules q xs queued s t ≡ queued s t
  posted_other q s t xs queued h = ap (λ c. cond c (queued s t ++ addressed rules t xs) (queued s t)) (ne_eqb q s h)

  pub posted_same : (q t : ℕ) (xs : List X) (queued : ℕ → ℕ → List X) → posted rules q xs queued q t ≡ queued q t ++ addressed rules t xs
  posted_same q t xs queued = ap (λ c. cond c (queued q t ++ addressed rules t xs) (queued q t)) (eq-eqb q q refl)

  -- where q handles x, it is the oldest of its list
  abbrev pub IsOldest : ℕ → Input X → (ℕ → ℕ → List X) → Type 0
  IsOldest q Execute queued = Unit {0}
  IsOldest q (Handle x) queued = (rest : List X) × (queued (rules.from x) q ≡ x ∷ rest)

  pub pulled_is : (q s t : ℕ) (i : Input X) (queued : ℕ → ℕ → List X) → IsOldest q i queued → first_handled q s t i ++ pulled q i queued s t ≡ queued s t
  pulled_is q s t Execute queued h = elim (q == t) as (λ c. cond c [] [] ++ queued s t ≡ queued s t) [ true ↦ refl | false ↦ refl ]
  pulled_is q s t (Handle x) queued h = go (eqb_tells (rules.from x) s) (eqb_tells q t)
    where
      Claim : Bool → Bool → Type 0
      Claim c d = cond d (cond c (x ∷ []) []) [] ++ cond (c && d) (drop 1 (queued s t)) (queued s t) ≡ queued s t

      go : (((rules.from x == s) ≡ true) × (rules.from x ≡ s)) ⊎ (((rules.from x == s) ≡ false) × (rules.from x ≢ s)) → (((q == t) ≡ true) × (q ≡ t)) ⊎ (((q == t) ≡ false) × (q ≢ t)) → Claim (rules.from x == s) (q == t)
      go (inl a) (inl b) =
          let o : queued s t ≡ x ∷ h.0 = subst (λ z. queued s z ≡ x ∷ h.0) b.1 (subst (λ z. queued z q ≡ x ∷ h.0) a.1 h.1) in
          rw (a.0, b.0) (rw o refl)
      go (inl a) (inr b) = rw (a.0, b.0) refl
      go (inr a) (inl b) = rw (a.0, b.0) refl
      go (inr a) (inr b) = rw (a.0, b.0) refl

  pub pulled_other : (q p : ℕ) (i : Input X) (queued : ℕ → ℕ → List X) → (q ≡ p → ⊥) → pulled q i queued p p ≡ queued p p
  pulled_other q p Execute queued h = refl
  pulled_other q p (Handle x) queued h =
      rw (ne_eqb q p h) (elim (rules.from x == p) as (λ c. cond (c && false) (drop 1 (queued p p)) (queued p p) ≡ queued p p) [ true ↦ refl | false ↦ refl ])

  pub pulled_own : (q : ℕ) (i : Input X) (queued : ℕ → ℕ → List X) → pulled q i queued q q ≡ own_left rules q i (queued q q)
  pulled_own q Execute queued = refl
  pulled_own q (Handle x) queued =
      rw (eq-eqb q q refl) (elim (rules.from x == q) as (λ c. cond (c && true) (drop 1 (queued q q)) (queued q q) ≡ cond c (drop 1 (queued q q)) (queued q q)) [ true ↦ refl | false ↦ refl ])

  -- the machine can make the choice of the first entry
  pub applies : (stamped : KeepStamps rules) (m : Machine S X) (q : ℕ) (s : S) (i : Input X) (ef : Effect S X E) →
      slice_get m.procs q ≡ Some s → CanDo rules q (record { state = s; own = m.queued q q }) i ef → IsOldest q i m.queued →
      apply rules m (choice q (rules.did ef.event)) ≡ Some (moved rules m q (pulled q i m.queued) ef)
  applies stamped m q s Execute ef at can old =
      let tests : (rules.is_ended s || (rules.is_cut s || not (is_empty (m.queued q q)))) ≡ false = rw (can.0, can.1, can.2) refl in
      ap (λ d. apply rules m (choice q d)) (stamped.executed q s ef can.3).told
      ∙ ap (λ o. execute rules m q o) at
      ∙ ap (λ c. if c then None else executed rules m q (rules.exec q s)) tests
      ∙ ap (λ o. executed rules m q o) can.3
  applies stamped m q s (Handle x) ef at can old =
      let low : nat_lt (rules.stamp x) (2 ^ 62) ≡ true = lt-ltb (rules.stamp x) (2 ^ 62) can.1 in
      let turn : (rules.from x == q || is_empty (m.queued q q)) ≡ true = turn_of (rules.from x == q) (m.queued q q) can.2 in
      let tests : (rules.is_cut s || (not (nat_lt (rules.stamp x) (2 ^ 62)) || not (rules.from x == q || is_empty (m.queued q q)))) ≡ false = rw (can.0, low, turn) refl in
      ap (λ d. apply rules m (choice q d)) (subst (λ f. rules.did f.event ≡ From (rules.from x)) can.3 (stamped.handled q s x).told)
      ∙ ap (λ o. handle rules m q (rules.from x) o (m.queued (rules.from x) q)) at
      ∙ ap (λ l. handle rules m q (rules.from x) (Some s) l) old.1
      ∙ ap (λ c. if c then None else Some (moved rules m q (without_oldest (rules.from x) q m.queued) (rules.handle q s x))) tests
      ∙ ap (λ f. Some (moved rules m q (without_oldest (rules.from x) q m.queued) f)) can.3
    where
      turn_of : (c : Bool) (own : List X) → MatchBool c ((rest : List X) × (own ≡ x ∷ rest)) (own ≡ []) → (c || is_empty own) ≡ true
      turn_of true own h = refl
      turn_of false own h = rw h refl

  module _ (stamped : KeepStamps rules) where
    -- what one act sent has its stamp
    pub act_sends : (p : ℕ) (l : Local S X) (i : Input X) (ef : Effect S X E) → CanDo rules p l i ef → All (λ y. rules.stamp y ≡ rules.event_stamp ef.event) ef.sends
    act_sends p l Execute ef h =
        let s : IsStamped rules ef (rules.last l.state + 1) Exec = stamped.executed p l.state ef h.3 in
        All-weaker (λ y. rules.stamp y ≡ rules.last l.state + 1) (λ y. rules.stamp y ≡ rules.event_stamp ef.event) (λ y e. e ∙ sym s.event) ef.sends s.sends
    act_sends p l (Handle x) ef h =
        let s : IsStamped rules ef (max (rules.last l.state) (rules.stamp x) + 1) (From (rules.from x)) = subst (λ f. IsStamped rules f (max (rules.last l.state) (rules.stamp x) + 1) (From (rules.from x))) h.3 (stamped.handled p l.state x) in
        All-weaker (λ y. rules.stamp y ≡ max (rules.last l.state) (rules.stamp x) + 1) (λ y. rules.stamp y ≡ rules.event_stamp ef.event) (λ y e. e ∙ sym s.event) ef.sends s.sends

    -- a handled signal has a lower stamp than its event
    pub handled_above : (p : ℕ) (l : Local S X) (x : X) (ef : Effect S X E) → CanDo rules p l (Handle x) ef → rules.stamp x < rules.event_stamp ef.event
    handled_above p l x ef h =
        let s : IsStamped rules ef (max (rules.last l.state) (rules.stamp x) + 1) (From (rules.from x)) = subst (λ f. IsStamped rules f (max (rules.last l.state) (rules.stamp x) + 1) (From (rules.from x))) h.3 (stamped.handled p l.state x) in
        omega (arith, s.event)

    -- an event has the last stamp of the state after it, and that is above the one before
    pub act_stamp : (p : ℕ) (l : Local S X) (i : Input X) (ef : Effect S X E) → CanDo rules p l i ef → (rules.event_stamp ef.event ≡ rules.last ef.state) × (rules.last l.state < rules.event_stamp ef.event)
    act_stamp p l Execute ef h =
        let s : IsStamped rules ef (rules.last l.state + 1) Exec = stamped.executed p l.state ef h.3 in
        (s.event ∙ sym s.last, omega (arith, s.event))
    act_stamp p l (Handle x) ef h =
        let s : IsStamped rules ef (max (rules.last l.state) (rules.stamp x) + 1) (From (rules.from x)) = subst (λ f. IsStamped rules f (max (rules.last l.state) (rules.stamp x) + 1) (From (rules.from x))) h.3 (stamped.handled p l.state x) in
        (s.event ∙ sym s.last, omega (arith, s.event))
