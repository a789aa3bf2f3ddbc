-- An event changes the signals on their way as the machine's step does, and a delivery from an outbox changes none.
use Rattle.std.proofs.Common.{◌≡◌, ◌≢◌, ℕ, Bool, true, false, cond, not, ◌&&◌, List, [], ◌∷◌, ◌++◌, drop, Some, refl, sym, ap, ◌∙◌, subst, inl, inr, ◌⊎◌, append_assoc}
use Rattle.std.specs.Prelude.{◌==◌, slice_get, slice_set}
use Rattle.std.specs.Bool.{MatchBool}
use Rattle.std.proofs.lemmas.Bool.{eq-eqb, ne_eqb}
use Rattle.std.proofs.lemmas.Bool.Decides.{eqb_tells}
use Rattle.std.proofs.Math.Path.{fun_ext}
use Rattle.std.proofs.lemmas.List.{append-nil}
use Rattle.std.proofs.lemmas.List.Elements.{filter-append}
use Rattle.sig_runs.specs.Rules.{Rules, addressed, coming_from}
use Rattle.sig_runs.specs.Machine.{posted}
use Rattle.sig_runs.specs.LocalRun.{Local, Input, Act, own_left}
use Rattle.sig_runs.specs.LocalRun.Input.{Execute, Handle}
use Rattle.sig_runs.specs.Crew.{Member}
use Rattle.sig_runs.specs.OnTheWay.{IsHandledNext, outgoing, taken_in_left, own_part, taken_in_part, on_way, boxes_after, boxes_with}
use Rattle.sig_runs.proofs.Lists.{slice_get-set_same, slice_get-set_other}
use Rattle.sig_runs.proofs.Steps.{pulled, pulled_own, posted_same, posted_other, IsOldest}

module _ {S X E : Type 0} (rules : Rules S X E) where
  pulled_to_other : (q : ℕ) (i : Input X) (queued : ℕ → ℕ → List X) (s t : ℕ) → (q ≡ t → ⊥) → pulled rules q i queued s t ≡ queued s t
  pulled_to_other q Execute queued s t h = refl
  pulled_to_other q (Handle x) queued s t h =
      rw (ne_eqb q t h) (elim (rules.from x == s) as (λ c. cond (c && false) (drop 1 (queued s t)) (queued s t) ≡ queued s t) [ true ↦ refl | false ↦ refl ])

  -- signals to another are outgoing
  addressed-outgoing : (p t : ℕ) (xs : List X) → (p ≡ t → ⊥) → addressed rules t (outgoing rules p xs) ≡ addressed rules t xs
  addressed-outgoing p t [] h = refl
  addressed-outgoing p t (x ∷ xs) h = go (eqb_tells (rules.to x) p) (addressed-outgoing p t xs h)
    where
      go : (((rules.to x == p) ≡ true) × (rules.to x ≡ p)) ⊎ (((rules.to x == p) ≡ false) × (rules.to x ≢ p)) → addressed rules t (outgoing rules p xs) ≡ addressed rules t xs →
          addressed rules t (cond (not (rules.to x == p)) (x ∷ outgoing rules p xs) (outgoing rules p xs)) ≡ cond (rules.to x == t) (x ∷ addressed rules t xs) (addressed rules t xs)
      go (inl a) ih = rw (a.0, ne_eqb (rules.to x) t (λ e. h (sym a.1 ∙ e))) ih
      go (inr a) ih = rw a.0 (ap (λ z. cond (rules.to x == t) (x ∷ z) z) ih)

  module _ (crew : List (Member S X E)) (outbox : ℕ → List X) (p : ℕ) (m : Member S X E) (there : slice_get crew p ≡ Some m) where
    way_own : on_way rules crew outbox p p ≡ m.local.own
    way_own = ap (λ c. cond c (own_part (slice_get crew p)) (taken_in_part rules p (slice_get crew p) ++ addressed rules p (outbox p))) (eq-eqb p p refl) ∙ ap (λ o. own_part o) there

    way_to : (s : ℕ) → (s ≡ p → ⊥) → on_way rules crew outbox s p ≡ coming_from rules s m.taken_in ++ addressed rules p (outbox s)
    way_to s h =
        ap (λ c. cond c (own_part (slice_get crew p)) (taken_in_part rules s (slice_get crew p) ++ addressed rules p (outbox s))) (ne_eqb s p h) ∙ ap (λ o. taken_in_part rules s o ++ addressed rules p (outbox s)) there

    -- the signal that p handles is the oldest on its way
    pub next_is_oldest : (i : Input X) → IsHandledNext rules p m i → IsOldest rules p i (on_way rules crew outbox)
    next_is_oldest Execute h = tt
    next_is_oldest (Handle x) h = go (eqb_tells (rules.from x) p)
      where
        go : (((rules.from x == p) ≡ true) × (rules.from x ≡ p)) ⊎ (((rules.from x == p) ≡ false) × (rules.from x ≢ p)) → (rest : List X) × (on_way rules crew outbox (rules.from x) p ≡ x ∷ rest)
        go (inl a) =
            let own : (rest : List X) × (m.local.own ≡ x ∷ rest) = subst (λ c. MatchBool c ((rest : List X) × (m.local.own ≡ x ∷ rest)) ((rest : List X) × (m.taken_in ≡ x ∷ rest))) a.0 h in
            (own.0, subst (λ z. on_way rules crew outbox z p ≡ x ∷ own.0) (sym a.1) (way_own ∙ own.1))
        go (inr a) =
            let first : (rest : List X) × (m.taken_in ≡ x ∷ rest) = subst (λ c. MatchBool c ((rest : List X) × (m.local.own ≡ x ∷ rest)) ((rest : List X) × (m.taken_in ≡ x ∷ rest))) a.0 h in (
              coming_from rules (rules.from x) first.0 ++ addressed rules p (outbox (rules.from x)),
              way_to (rules.from x) a.1 ∙ ap (λ z. coming_from rules (rules.from x) z ++ addressed rules p (outbox (rules.from x))) first.1
                  ∙ ap (λ c. cond c (x ∷ coming_from rules (rules.from x) first.0) (coming_from rules (rules.from x) first.0) ++ addressed rules p (outbox (rules.from x))) (eq-eqb (rules.from x) (rules.from x) refl),
            )

    module _ (a : Act S X E) (next : IsHandledNext rules p m a.input) (n : Member S X E) (own_is : n.local.own ≡ own_left rules p a.input m.local.own ++ addressed rules p a.effect.sends)
        (taken_in_is : n.taken_in ≡ taken_in_left rules p a.input m.taken_in) where
      abbrev outbox_after : ℕ → List X
      outbox_after = boxes_after rules p a.effect.sends outbox

      handled_pulls : (s : ℕ) → (s ≡ p → ⊥) → coming_from rules s (taken_in_left rules p a.input m.taken_in) ++ addressed rules p (outbox s) ≡ pulled rules p a.input (on_way rules crew outbox) s p
      handled_pulls s h = go a.input next
        where
          go : (i : Input X) → IsHandledNext rules p m i → coming_from rules s (taken_in_left rules p i m.taken_in) ++ addressed rules p (outbox s) ≡ pulled rules p i (on_way rules crew outbox) s p
          go Execute w = sym (way_to s h)
          go (Handle x) w =
              rw (eq-eqb p p refl)
              (rw (way_to s h) (at (eqb_tells (rules.from x) p) (eqb_tells (rules.from x) s)))
            where
              out : List X
              out = addressed rules p (outbox s)

              Goal : Bool → Bool → Type 0
              Goal c d = coming_from rules s (cond c m.taken_in (drop 1 m.taken_in)) ++ out ≡ cond (d && true) (drop 1 (coming_from rules s m.taken_in ++ out)) (coming_from rules s m.taken_in ++ out)

              rest_of : (d : Bool) (rest : List X) → coming_from rules s rest ++ out ≡ cond (d && true) (drop 1 (cond d (x ∷ coming_from rules s rest) (coming_from rules s rest) ++ out)) (cond d (x ∷ coming_from rules s rest) (coming_from rules s rest) ++ out)
              rest_of true rest = refl
              rest_of false rest = refl

              at : (((rules.from x == p) ≡ true) × (rules.from x ≡ p)) ⊎ (((rules.from x == p) ≡ false) × (rules.from x ≢ p)) → (((rules.from x == s) ≡ true) × (rules.from x ≡ s)) ⊎ (((rules.from x == s) ≡ false) × (rules.from x ≢ s)) → Goal (rules.from x == p) (rules.from x == s)
              at (inl c) (inl d) = absurd (h (sym d.1 ∙ c.1))
              at (inl c) (inr d) = rw (c.0, d.0) refl
              at (inr c) d =
                  let first : (rest : List X) × (m.taken_in ≡ x ∷ rest) = subst (λ z. MatchBool z ((rest : List X) × (m.local.own ≡ x ∷ rest)) ((rest : List X) × (m.taken_in ≡ x ∷ rest))) c.0 w in
                  rw (c.0, first.1) (rest_of (rules.from x == s) first.0)

      -- the lists on their way after the event are those of the machine's step
      pub way_step : (s t : ℕ) → on_way rules (slice_set crew p n) outbox_after s t ≡ posted rules p a.effect.sends (pulled rules p a.input (on_way rules crew outbox)) s t
      way_step s t = go (eqb_tells p s) (eqb_tells p t)
        where
          new : List (Member S X E)
          new = slice_set crew p n

          at_p : slice_get new p ≡ Some n
          at_p = slice_get-set_same crew p n m there

          Goal : ℕ → ℕ → Type 0
          Goal f g = on_way rules new outbox_after f g ≡ posted rules p a.effect.sends (pulled rules p a.input (on_way rules crew outbox)) f g

          both : Goal p p
          both =
              ap (λ c. cond c (own_part (slice_get new p)) (taken_in_part rules p (slice_get new p) ++ addressed rules p (outbox_after p))) (eq-eqb p p refl) ∙ ap (λ o. own_part o) at_p ∙ own_is
              ∙ ap (λ z. own_left rules p a.input z ++ addressed rules p a.effect.sends) (sym way_own)
              ∙ sym (posted_same rules p p a.effect.sends (pulled rules p a.input (on_way rules crew outbox)) ∙ ap (λ z. z ++ addressed rules p a.effect.sends) (pulled_own rules p a.input (on_way rules crew outbox)))

          sends_to : (g : ℕ) → p ≢ g → Goal p g
          sends_to g h =
              ap (λ c. cond c (own_part (slice_get new g)) (taken_in_part rules p (slice_get new g) ++ addressed rules g (outbox_after p))) (ne_eqb p g h)
              ∙ ap (λ o. taken_in_part rules p o ++ addressed rules g (outbox_after p)) (slice_get-set_other crew p g n h)
              ∙ ap (λ c. taken_in_part rules p (slice_get crew g) ++ addressed rules g (cond c (outbox p ++ outgoing rules p a.effect.sends) (outbox p))) (eq-eqb p p refl)
              ∙ ap (λ z. taken_in_part rules p (slice_get crew g) ++ z) (filter-append (λ x. rules.to x == g) (outbox p) (outgoing rules p a.effect.sends) ∙ ap (λ z. addressed rules g (outbox p) ++ z) (addressed-outgoing p g a.effect.sends h))
              ∙ sym (append_assoc (taken_in_part rules p (slice_get crew g)) (addressed rules g (outbox p)) (addressed rules g a.effect.sends))
              ∙ sym (posted_same rules p g a.effect.sends (pulled rules p a.input (on_way rules crew outbox))
              ∙ ap (λ z. z ++ addressed rules g a.effect.sends) (pulled_to_other p a.input (on_way rules crew outbox) p g h
              ∙ ap (λ c. cond c (own_part (slice_get crew g)) (taken_in_part rules p (slice_get crew g) ++ addressed rules g (outbox p))) (ne_eqb p g h)))

          handled_from : (f : ℕ) → p ≢ f → Goal f p
          handled_from f h =
              ap (λ c. cond c (own_part (slice_get new p)) (taken_in_part rules f (slice_get new p) ++ addressed rules p (outbox_after f))) (ne_eqb f p (λ e. h (sym e)))
              ∙ ap (λ o. taken_in_part rules f o ++ addressed rules p (outbox_after f)) at_p
              ∙ ap (λ z. coming_from rules f z ++ addressed rules p (outbox_after f)) taken_in_is
              ∙ ap (λ c. coming_from rules f (taken_in_left rules p a.input m.taken_in) ++ addressed rules p (cond c (outbox f ++ outgoing rules p a.effect.sends) (outbox f))) (ne_eqb p f h)
              ∙ handled_pulls f (λ e. h (sym e))
              ∙ sym (posted_other rules p f p a.effect.sends (pulled rules p a.input (on_way rules crew outbox)) h)

          others : (f g : ℕ) → p ≢ f → p ≢ g → Goal f g
          others f g h k =
              ap (λ o. cond (f == g) (own_part o) (taken_in_part rules f o ++ addressed rules g (outbox_after f))) (slice_get-set_other crew p g n k)
              ∙ ap (λ c. cond (f == g) (own_part (slice_get crew g)) (taken_in_part rules f (slice_get crew g) ++ addressed rules g (cond c (outbox f ++ outgoing rules p a.effect.sends) (outbox f)))) (ne_eqb p f h)
              ∙ sym (posted_other rules p f g a.effect.sends (pulled rules p a.input (on_way rules crew outbox)) h ∙ pulled_to_other p a.input (on_way rules crew outbox) f g k)

          go : (((p == s) ≡ true) × (p ≡ s)) ⊎ (((p == s) ≡ false) × (p ≢ s)) → (((p == t) ≡ true) × (p ≡ t)) ⊎ (((p == t) ≡ false) × (p ≢ t)) → Goal s t
          go (inl c) (inl d) = subst (λ z. Goal z t) c.1 (subst (λ z. Goal p z) d.1 both)
          go (inl c) (inr d) = subst (λ z. Goal z t) c.1 (sends_to t d.1)
          go (inr c) (inl d) = subst (λ z. Goal s z) d.1 (handled_from s c.1)
          go (inr c) (inr d) = others s t c.1 d.1

  -- the oldest signal of an outbox is taken in by its receiver

  module _ (crew : List (Member S X E)) (outbox : ℕ → List X) (s t : ℕ) (apart : s ≢ t) (x : X) (rest : List X) (oldest : outbox s ≡ x ∷ rest) (from_s : rules.from x ≡ s) (to_t : rules.to x ≡ t) (m : Member S X E) (there : slice_get crew t ≡ Some m)
      (n : Member S X E) (local_is : n.local ≡ m.local) (taken_in_is : n.taken_in ≡ m.taken_in ++ x ∷ []) where
    abbrev left : ℕ → List X
    left = boxes_with s rest outbox

    abbrev given : List (Member S X E)
    given = slice_set crew t n

    given_at : slice_get given t ≡ Some n
    given_at = slice_get-set_same crew t n m there

    own_same : (g : ℕ) → own_part (slice_get given g) ≡ own_part (slice_get crew g)
    own_same g = go (eqb_tells t g)
      where
        go : (((t == g) ≡ true) × (t ≡ g)) ⊎ (((t == g) ≡ false) × (t ≢ g)) → own_part (slice_get given g) ≡ own_part (slice_get crew g)
        go (inl e) = subst (λ z. own_part (slice_get given z) ≡ own_part (slice_get crew z)) e.1 (ap (λ o. own_part o) given_at ∙ ap (λ (l : Local S X). l.own) local_is ∙ sym (ap (λ o. own_part o) there))
        go (inr e) = ap (λ o. own_part o) (slice_get-set_other crew t g n e.1)

    others_same : (f g : ℕ) → taken_in_part rules f (slice_get given g) ++ addressed rules g (left f) ≡ taken_in_part rules f (slice_get crew g) ++ addressed rules g (outbox f)
    others_same f g = go (eqb_tells s f) (eqb_tells t g)
      where
        Goal : ℕ → ℕ → Type 0
        Goal f g = taken_in_part rules f (slice_get given g) ++ addressed rules g (left f) ≡ taken_in_part rules f (slice_get crew g) ++ addressed rules g (outbox f)

        taken_at : (f : ℕ) → taken_in_part rules f (slice_get given t) ≡ coming_from rules f m.taken_in ++ cond (rules.from x == f) (x ∷ []) []
        taken_at f = ap (λ o. taken_in_part rules f o) given_at ∙ ap (λ z. coming_from rules f z) taken_in_is ∙ filter-append (λ y. rules.from y == f) m.taken_in (x ∷ [])

        box_of_s : (g : ℕ) → addressed rules g (outbox s) ≡ cond (rules.to x == g) (x ∷ addressed rules g rest) (addressed rules g rest)
        box_of_s g = ap (λ z. addressed rules g z) oldest

        both : Goal s t
        both =
            ap (λ z. z ++ addressed rules t (left s)) (taken_at s ∙ ap (λ c. coming_from rules s m.taken_in ++ cond c (x ∷ []) []) (eq-eqb (rules.from x) s from_s))
            ∙ ap (λ c. (coming_from rules s m.taken_in ++ x ∷ []) ++ addressed rules t (cond c rest (outbox s))) (eq-eqb s s refl)
            ∙ append_assoc (coming_from rules s m.taken_in) (x ∷ []) (addressed rules t rest)
            ∙ ap (λ z. coming_from rules s m.taken_in ++ z) (sym (box_of_s t ∙ ap (λ c. cond c (x ∷ addressed rules t rest) (addressed rules t rest)) (eq-eqb (rules.to x) t to_t)))
            ∙ ap (λ o. taken_in_part rules s o ++ addressed rules t (outbox s)) (sym there)

        from_other : (f : ℕ) → s ≢ f → Goal f t
        from_other f h =
            ap (λ z. z ++ addressed rules t (left f)) (taken_at f ∙ ap (λ c. coming_from rules f m.taken_in ++ cond c (x ∷ []) []) (ne_eqb (rules.from x) f (λ e. h (sym from_s ∙ e))) ∙ append-nil (coming_from rules f m.taken_in))
            ∙ ap (λ c. coming_from rules f m.taken_in ++ addressed rules t (cond c rest (outbox f))) (ne_eqb s f h)
            ∙ ap (λ o. taken_in_part rules f o ++ addressed rules t (outbox f)) (sym there)

        to_other : (g : ℕ) → t ≢ g → Goal s g
        to_other g h =
            ap (λ o. taken_in_part rules s o ++ addressed rules g (left s)) (slice_get-set_other crew t g n h)
            ∙ ap (λ c. taken_in_part rules s (slice_get crew g) ++ addressed rules g (cond c rest (outbox s))) (eq-eqb s s refl)
            ∙ ap (λ z. taken_in_part rules s (slice_get crew g) ++ z) (sym (box_of_s g ∙ ap (λ c. cond c (x ∷ addressed rules g rest) (addressed rules g rest)) (ne_eqb (rules.to x) g (λ e. h (sym to_t ∙ e)))))

        none : (f g : ℕ) → s ≢ f → t ≢ g → Goal f g
        none f g h k =
            ap (λ o. taken_in_part rules f o ++ addressed rules g (left f)) (slice_get-set_other crew t g n k) ∙ ap (λ c. taken_in_part rules f (slice_get crew g) ++ addressed rules g (cond c rest (outbox f))) (ne_eqb s f h)

        go : (((s == f) ≡ true) × (s ≡ f)) ⊎ (((s == f) ≡ false) × (s ≢ f)) → (((t == g) ≡ true) × (t ≡ g)) ⊎ (((t == g) ≡ false) × (t ≢ g)) → Goal f g
        go (inl c) (inl d) = subst (λ z. Goal z g) c.1 (subst (λ z. Goal s z) d.1 both)
        go (inl c) (inr d) = subst (λ z. Goal z g) c.1 (to_other g d.1)
        go (inr c) (inl d) = subst (λ z. Goal f z) d.1 (from_other f c.1)
        go (inr c) (inr d) = none f g c.1 d.1

    -- a delivery leaves the signals on their way as they were
    pub delivery_keeps_way : on_way rules given left ≡ on_way rules crew outbox
    delivery_keeps_way =
        fun_ext (λ f. fun_ext (λ g.
        ap (λ z. cond (f == g) z (taken_in_part rules f (slice_get given g) ++ addressed rules g (left f))) (own_same g) ∙ ap (λ z. cond (f == g) (own_part (slice_get crew g)) z) (others_same f g)))
