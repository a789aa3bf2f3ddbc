-- A lawful crew in which no process can do anything is settled.
use Rattle.std.proofs.Common.{◌≡◌, ◌≢◌, ℕ, ◌<◌, ◌≤◌, ◌^◌, ◌⊎◌, inl, inr, Bool, true, false, not, cond, ◌&&◌, List, [], ◌∷◌, drop, Option, Some, None, refl, sym, ap, ◌∙◌, subst, arith, lt-ltb, ⊎_elim}
use Rattle.std.specs.Prelude.{◌==◌, slice_get}
use Rattle.std.specs.Option.{option_map}
use Rattle.std.specs.List.{All, Contains}
use Rattle.std.proofs.lemmas.Bool.{eq-eqb, ne_eqb, cases_lt}
use Rattle.std.proofs.lemmas.List.Elements.{All-nil, All-append, All-weaker, All-filter, All-head, All-drop}
use Rattle.std.proofs.lemmas.Option.{slice_get-map, same_Some}
use Rattle.sig_runs.specs.Rules.{Rules, KeepStamps, addressed, coming_from}
use Rattle.sig_runs.specs.Machine.{Machine, is_empty}
use Rattle.sig_runs.specs.LocalRun.{Local, Input, Act, IsLocalRun, after, own_left}
use Rattle.sig_runs.specs.LocalRun.Input.{Execute, Handle}
use Rattle.sig_runs.specs.Crew.{Member, IsLawful, HasLocalRun, queued_at, crew_machine}
use Rattle.sig_runs.specs.Settled.{IsLate, HasNoSignal, IsAtRest, IsSettled}
use Rattle.sig_runs.specs.Still.{IsStillMember, CutsHigh, is_low, next_signal}
use Rattle.sig_runs.proofs.Steps.{act_sends, act_stamp}

module _ {S X E : Type 0} (rules : Rules S X E) (stamped : KeepStamps rules) where
  -- no signal of the list is above the last stamp of the state
  abbrev pub OwnLow : S → List X → Type 0
  OwnLow s own = All (λ x. rules.stamp x ≤ rules.last s) own

  own_left_low : (p : ℕ) (s : S) (i : Input X) (own : List X) → OwnLow s own → OwnLow s (own_left rules p i own)
  own_left_low p s Execute own h = h
  own_left_low p s (Handle x) own h =
      elim (rules.from x == p) as (λ c. OwnLow s (cond c (drop 1 own) own)) [ true ↦ All-drop (λ y. rules.stamp y ≤ rules.last s) 1 own h | false ↦ h ]

  -- what a process sent to itself is not above its last stamp
  own_low : (p : ℕ) (acts : List (Act S X E)) (l end : Local S X) → IsLocalRun rules p l acts end → OwnLow l.state l.own → OwnLow end.state end.own
  own_low p [] l end run h = subst (λ (z : Local S X). OwnLow z.state z.own) run h
  own_low p (a ∷ later) l end run h =
      let s : (rules.event_stamp a.effect.event ≡ rules.last a.effect.state) × (rules.last l.state < rules.event_stamp a.effect.event) = act_stamp rules stamped p l a.input a.effect run.0 in
      own_low p later (after rules p l a) end run.1
      (All-append (λ x. rules.stamp x ≤ rules.last a.effect.state) (own_left rules p a.input l.own) (addressed rules p a.effect.sends)
      (All-weaker (λ x. rules.stamp x ≤ rules.last l.state) (λ x. rules.stamp x ≤ rules.last a.effect.state) (λ x e. omega arith) (own_left rules p a.input l.own) (own_left_low p l.state a.input l.own h))
      (All-filter (λ x. rules.to x == p) (λ x. rules.stamp x ≤ rules.last a.effect.state) a.effect.sends
      (All-weaker (λ x. rules.stamp x ≡ rules.event_stamp a.effect.event) (λ x. rules.stamp x ≤ rules.last a.effect.state) (λ x e. omega arith) a.effect.sends (act_sends rules stamped p l a.input a.effect run.0))))

  run_low : (p : ℕ) (o : Option S) (m : Member S X E) → HasLocalRun rules p o (Some m) → OwnLow m.local.state m.local.own
  run_low p None m h = absurd h
  run_low p (Some s) m h = own_low p m.acts (record { state = s; own = [] }) m.local h (All-nil (λ x. rules.stamp x ≤ rules.last s))

  not_low : (x : X) → is_low rules (Some x) ≡ false → 2 ^ 62 ≤ rules.stamp x
  not_low x h =
      ⊎_elim
      (λ l. let e : true ≡ false = sym (lt-ltb (rules.stamp x) (2 ^ 62) l) ∙ h in absurd cc)
      (λ l. l)
      (cases_lt (rules.stamp x) (2 ^ 62))

  module _ (cuts : CutsHigh rules) (m : Machine S X) (p : ℕ) (state : S) (uncut : rules.is_cut state ≡ false) where
    -- a process that is not cut and handles no signal has none of its own, and none of others or a late one
    signals : (own taken_in : List X) → ((s : ℕ) → m.queued s p ≡ cond (s == p) own (coming_from rules s taken_in)) → OwnLow state own → is_low rules (next_signal own taken_in) ≡ false → All (λ x. rules.from x ≢ p) taken_in →
        (own ≡ []) × (HasNoSignal m p ⊎ IsLate rules m p)
    signals (x ∷ own) taken_in q low h others =
        let high : 2 ^ 62 ≤ rules.stamp x = not_low x h in
        let under : rules.stamp x ≤ rules.last state = All-head (λ y. rules.stamp y ≤ rules.last state) x own low in
        let cut : rules.is_cut state ≡ true = cuts state (omega arith) in
        let e : true ≡ false = sym cut ∙ uncut in
        absurd cc
    signals [] [] q low h others = (refl, inl (λ s. q s ∙ none (s == p)))
      where
        none : (c : Bool) → cond {A = List X} c [] [] ≡ []
        none true = refl
        none false = refl
    signals [] (x ∷ taken_in) q low h others =
        let f : ℕ = rules.from x in
        let rest : List X = coming_from rules f taken_in in
        let is : m.queued f p ≡ x ∷ rest =
        q f ∙ ap (λ c. cond c [] (coming_from rules f (x ∷ taken_in))) (ne_eqb f p (All-head (λ y. rules.from y ≢ p) x taken_in others)) ∙ ap (λ c. cond c (x ∷ rest) rest) (eq-eqb f f refl) in (
          refl,
          inr (record { sender = f; signal = x; queued = subst (λ z. Contains z x) (sym is) (0, omega arith, refl); late = not_low x h }),
        )

    -- and where it does not execute, it is ended or its instruction is not defined
    stands_still : (own : List X) → own ≡ [] → ((not (rules.is_ended state) && (not (rules.is_cut state) && is_empty own)) ≡ false) ⊎ (rules.exec p state ≡ None) → (rules.is_ended state ≡ true) ⊎ (rules.exec p state ≡ None)
    stands_still own e (inr none) = inr none
    stands_still own e (inl h) = go (rules.is_ended state) refl
      where
        go : (b : Bool) → rules.is_ended state ≡ b → (rules.is_ended state ≡ true) ⊎ (rules.exec p state ≡ None)
        go true w = inl w
        go false w =
            let a : (not false && (not false && is_empty own)) ≡ false = subst (λ z. (not false && (not z && is_empty own)) ≡ false) uncut (subst (λ z. (not z && (not (rules.is_cut state) && is_empty own)) ≡ false) w h) in
            let b : true ≡ false = subst (λ z. is_empty z ≡ false) e a in
            absurd cc

  module _ (cuts : CutsHigh rules) where
    -- a process that can do nothing is at rest
    pub still_at_rest : (m : Machine S X) (p : ℕ) (n : Member S X E) → ((s : ℕ) → m.queued s p ≡ queued_at rules s p (Some n)) → OwnLow n.local.state n.local.own → IsStillMember rules p n → IsAtRest rules m p n.local.state
    still_at_rest m p n q low still = go (rules.is_cut n.local.state) refl
      where
        go : (b : Bool) → rules.is_cut n.local.state ≡ b → IsAtRest rules m p n.local.state
        go true c = inl c
        go false c =
            let h : is_low rules (next_signal n.local.own n.taken_in) ≡ false = subst (λ z. (not z && is_low rules (next_signal n.local.own n.taken_in)) ≡ false) c still.no_handle in
            let w : (n.local.own ≡ []) × (HasNoSignal m p ⊎ IsLate rules m p) = signals cuts m p n.local.state c n.local.own n.taken_in q low h still.from_others in
            inr (stands_still cuts m p n.local.state c n.local.own w.0 still.no_exec, w.1)

    -- a lawful crew in which no process can do anything is settled
    pub still_is_settled : (opening : List S) (crew : List (Member S X E)) → IsLawful rules opening crew → ((p : ℕ) (n : Member S X E) → slice_get crew p ≡ Some n → IsStillMember rules p n) → IsSettled rules (crew_machine rules crew)
    still_is_settled opening crew lawful still p s at = go (slice_get crew p) refl
      where
        go : (o : Option (Member S X E)) → slice_get crew p ≡ o → IsAtRest rules (crew_machine rules crew) p s
        go None e =
            let w : None ≡ Some s = sym (slice_get-map (λ n. n.local.state) crew p ∙ ap (λ o. option_map (λ n. n.local.state) o) e) ∙ at in
            absurd cc
        go (Some n) e =
            let same : n.local.state ≡ s = same_Some n.local.state s (sym (slice_get-map (λ n. n.local.state) crew p ∙ ap (λ o. option_map (λ n. n.local.state) o) e) ∙ at) in
            subst (λ z. IsAtRest rules (crew_machine rules crew) p z) same
            (still_at_rest (crew_machine rules crew) p n (λ f. ap (λ o. queued_at rules f p o) e) (run_low p (slice_get opening p) n (subst (λ o. HasLocalRun rules p (slice_get opening p) o) e (lawful.runs p))) (still p n e))
