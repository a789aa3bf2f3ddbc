-- A crew whose processes have outboxes: an event is a step of the machine of the crew, with the signals on their way as
-- its lists, and a delivery from an outbox is no step. Both keep the crew lawful.
use Rattle.std.proofs.Common.{◌≡◌, ◌≢◌, ℕ, true, false, cond, List, [], ◌∷◌, ◌++◌, Option, Some, None, refl, sym, ap, ◌∙◌, subst, inl, inr, ◌⊎◌}
use Rattle.std.specs.Prelude.{◌==◌, slice_get, slice_set, if◌then◌else◌}
use Rattle.std.proofs.Math.Path.{fun_ext}
use Rattle.std.proofs.lemmas.Bool.Decides.{eqb_tells}
use Rattle.std.proofs.lemmas.List.{append-nil}
use Rattle.sig_runs.specs.Rules.{Rules, KeepStamps, addressed, coming_from}
use Rattle.sig_runs.specs.Machine.{apply, choice, posted}
use Rattle.sig_runs.specs.LocalRun.{Local, Act, CanDo, after, IsLocalRun, handles, sends}
use Rattle.sig_runs.specs.Crew.{Member, IsLawful, IsLawfulWith, HasLocalRun, HasOwn, acts_of, queued_at, machine_with, crew_machine}
use Rattle.sig_runs.specs.OnTheWay.{IsHandledNext, taken_in_left, own_part, taken_in_part, on_way, boxes_after, boxes_with}
use Rattle.sig_runs.proofs.Lists.{slice_get-set_same, slice_get-set_other}
use Rattle.sig_runs.proofs.Steps.{pulled}
use Rattle.sig_runs.proofs.Events.{event_keeps, event_applies, with_queued}
use Rattle.sig_runs.proofs.OnTheWay.{next_is_oldest, way_step, delivery_keeps_way}

module _ {S X E : Type 0} (rules : Rules S X E) (opening : List S) (crew : List (Member S X E)) (outbox : ℕ → List X) (lawful : IsLawfulWith rules opening crew (on_way rules crew outbox)) where
  -- p does one more act

  module _ (stamped : KeepStamps rules) (p : ℕ) (m : Member S X E) (there : slice_get crew p ≡ Some m) (a : Act S X E) (can : CanDo rules p m.local a.input a.effect) (next : IsHandledNext rules p m a.input)
      (n : Member S X E) (local_is : n.local ≡ after rules p m.local a) (taken_in_is : n.taken_in ≡ taken_in_left rules p a.input m.taken_in) (acts_are : n.acts ≡ m.acts ++ a ∷ []) where
    abbrev boxes : ℕ → List X
    boxes = boxes_after rules p a.effect.sends outbox

    way_is : posted rules p a.effect.sends (pulled rules p a.input (on_way rules crew outbox)) ≡ on_way rules (slice_set crew p n) boxes
    way_is = fun_ext (λ s. fun_ext (λ t. sym (way_step rules crew outbox p m there a next n (ap (λ (l : Local S X). l.own) local_is) taken_in_is s t)))

    pub act_keeps : IsLawfulWith rules opening (slice_set crew p n) (on_way rules (slice_set crew p n) boxes)
    act_keeps =
        subst (λ q. IsLawfulWith rules opening (slice_set crew p n) q) way_is
        (event_keeps rules opening stamped crew (on_way rules crew outbox) p m there a n local_is acts_are lawful can (next_is_oldest rules crew outbox p m there a.input next))

    pub act_is_step : apply rules (machine_with crew (on_way rules crew outbox)) (choice p (rules.did a.effect.event)) ≡ Some (record { machine = machine_with (slice_set crew p n) (on_way rules (slice_set crew p n) boxes); event = a.effect.event })
    act_is_step =
        subst (λ q. apply rules (machine_with crew (on_way rules crew outbox)) (choice p (rules.did a.effect.event)) ≡ Some (record { machine = machine_with (slice_set crew p n) q; event = a.effect.event })) way_is
        (event_applies rules opening stamped crew (on_way rules crew outbox) p m there a n local_is acts_are lawful can (next_is_oldest rules crew outbox p m there a.input next))

  -- the oldest signal of an outbox is taken in by its receiver

  module _ (s t : ℕ) (apart : s ≢ t) (x : X) (rest : List X) (oldest : outbox s ≡ x ∷ rest) (from_s : rules.from x ≡ s) (to_t : rules.to x ≡ t) (m : Member S X E) (there : slice_get crew t ≡ Some m)
      (n : Member S X E) (local_is : n.local ≡ m.local) (taken_in_is : n.taken_in ≡ m.taken_in ++ x ∷ []) (acts_are : n.acts ≡ m.acts) where
    abbrev left : ℕ → List X
    left = boxes_with s rest outbox

    abbrev given : List (Member S X E)
    given = slice_set crew t n

    at_t : slice_get given t ≡ Some n
    at_t = slice_get-set_same crew t n m there

    -- a delivery leaves the signals on their way as they were
    way_kept : on_way rules given left ≡ on_way rules crew outbox
    way_kept = delivery_keeps_way rules crew outbox s t apart x rest oldest from_s to_t m there n local_is taken_in_is

    acts_same : (g : ℕ) → acts_of (slice_get given g) ≡ acts_of (slice_get crew g)
    acts_same g = go (eqb_tells t g)
      where
        go : (((t == g) ≡ true) × (t ≡ g)) ⊎ (((t == g) ≡ false) × (t ≢ g)) → acts_of (slice_get given g) ≡ acts_of (slice_get crew g)
        go (inl e) = subst (λ z. acts_of (slice_get given z) ≡ acts_of (slice_get crew z)) e.1 (ap (λ o. acts_of o) at_t ∙ acts_are ∙ sym (ap (λ o. acts_of o) there))
        go (inr e) = ap (λ o. acts_of o) (slice_get-set_other crew t g n e.1)

    run_of : (o : Option S) → HasLocalRun rules t o (Some m) → HasLocalRun rules t o (Some n)
    run_of None h = absurd h
    run_of (Some u) h =
        subst (λ z. IsLocalRun rules t (record { state = u; own = [] }) z n.local) (sym acts_are) (subst (λ z. IsLocalRun rules t (record { state = u; own = [] }) m.acts z) (sym local_is) h)

    -- and the crew stays lawful
    pub delivery_keeps : IsLawfulWith rules opening given (on_way rules given left)
    delivery_keeps =
        subst (λ q. IsLawfulWith rules opening given q) (sym way_kept)
        (record {
          runs = λ g. run_at g (eqb_tells t g);
          own = λ g. own_at g (eqb_tells t g);
          pairs = λ f g.
              subst (λ z. coming_from rules f (handles z) ++ on_way rules crew outbox f g ≡ addressed rules g (sends (acts_of (slice_get given f)))) (sym (acts_same g))
              (subst (λ z. coming_from rules f (handles (acts_of (slice_get crew g))) ++ on_way rules crew outbox f g ≡ addressed rules g (sends z)) (sym (acts_same f)) (lawful.pairs f g));
        })
      where
        run_at : (g : ℕ) → (((t == g) ≡ true) × (t ≡ g)) ⊎ (((t == g) ≡ false) × (t ≢ g)) → HasLocalRun rules g (slice_get opening g) (slice_get given g)
        run_at g (inl e) =
            subst (λ z. HasLocalRun rules z (slice_get opening z) (slice_get given z)) e.1
            (subst (λ o. HasLocalRun rules t (slice_get opening t) o) (sym at_t) (run_of (slice_get opening t) (subst (λ o. HasLocalRun rules t (slice_get opening t) o) there (lawful.runs t))))
        run_at g (inr e) = subst (λ o. HasLocalRun rules g (slice_get opening g) o) (sym (slice_get-set_other crew t g n e.1)) (lawful.runs g)

        own_at : (g : ℕ) → (((t == g) ≡ true) × (t ≡ g)) ⊎ (((t == g) ≡ false) × (t ≢ g)) → HasOwn (on_way rules crew outbox g g) (slice_get given g)
        own_at g (inl e) =
            subst (λ z. HasOwn (on_way rules crew outbox z z) (slice_get given z)) e.1
            (subst (λ o. HasOwn (on_way rules crew outbox t t) o) (sym at_t)
            (subst (λ z. on_way rules crew outbox t t ≡ z) (sym (ap (λ (l : Local S X). l.own) local_is)) (subst (λ o. HasOwn (on_way rules crew outbox t t) o) there (lawful.own t))))
        own_at g (inr e) = subst (λ o. HasOwn (on_way rules crew outbox g g) o) (sym (slice_get-set_other crew t g n e.1)) (lawful.own g)

-- with empty outboxes what is on its way is what is queued at the receivers
pub at_rest : {S X E : Type 0} (rules : Rules S X E) (s t : ℕ) (box : List X) → box ≡ [] → (o : Option (Member S X E)) → (if s == t then own_part o else taken_in_part rules s o ++ addressed rules t box) ≡ queued_at rules s t o
at_rest {S} {X} {E} rules s t box e None = rw e (elim (s == t) as (λ c. cond {A = List X} c [] [] ≡ []) [ true ↦ refl | false ↦ refl ])
at_rest rules s t box e (Some m) =
    rw e (elim (s == t) as (λ c. cond c m.local.own (coming_from rules s m.taken_in ++ []) ≡ cond c m.local.own (coming_from rules s m.taken_in)) [ true ↦ refl | false ↦ append-nil (coming_from rules s m.taken_in) ])

module _ {S X E : Type 0} (rules : Rules S X E) (crew : List (Member S X E)) (outbox : ℕ → List X) (empty : (q : ℕ) → outbox q ≡ []) where
  on_way_at_rest : on_way rules crew outbox ≡ (λ s t. queued_at rules s t (slice_get crew t))
  on_way_at_rest = fun_ext (λ s. fun_ext (λ t. at_rest rules s t (outbox s) (empty s) (slice_get crew t)))

  pub machine_at_rest : machine_with crew (on_way rules crew outbox) ≡ crew_machine rules crew
  machine_at_rest = ap (λ z. machine_with crew z) on_way_at_rest

-- and such a crew is lawful exactly where the crew alone is
pub lawful_at_rest : {S X E : Type 0} (rules : Rules S X E) (opening : List S) (crew : List (Member S X E)) (outbox : ℕ → List X) → ((q : ℕ) → outbox q ≡ []) → IsLawfulWith rules opening crew (on_way rules crew outbox) → IsLawful rules opening crew
lawful_at_rest rules opening crew outbox empty h =
    let q : IsLawfulWith rules opening crew (λ s t. queued_at rules s t (slice_get crew t)) = subst (λ z. IsLawfulWith rules opening crew z) (on_way_at_rest rules crew outbox empty) h in
    record { runs = q.runs; pairs = q.pairs }

pub lawful_from_rest : {S X E : Type 0} (rules : Rules S X E) (opening : List S) (crew : List (Member S X E)) (outbox : ℕ → List X) → ((q : ℕ) → outbox q ≡ []) → IsLawful rules opening crew → IsLawfulWith rules opening crew (on_way rules crew outbox)
lawful_from_rest rules opening crew outbox empty h = subst (λ z. IsLawfulWith rules opening crew z) (sym (on_way_at_rest rules crew outbox empty)) (with_queued rules opening crew h)
