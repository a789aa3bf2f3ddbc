-- A crew at work: an act is a step of its machine, a delivery is none, and both keep it lawful.
use Rattle.std.proofs.Common.{◌≡◌, ℕ, Bool, true, false, cond, List, [], ◌∷◌, ◌++◌, map, Option, Some, None, refl, sym, ap, ◌∙◌, subst}
use Rattle.std.specs.Prelude.{◌==◌, slice_get}
use Rattle.std.specs.Option.{option_map}
use Rattle.std.proofs.Math.Path.{fun_ext, ap₂}
use Rattle.std.proofs.Math.Seq.{map-set_same}
use Rattle.std.proofs.lemmas.Option.{slice_get-map, get_or_from_slice_get}
use Rattle.sig_runs.specs.Rules.{Rules, KeepStamps, addressed, coming_from}
use Rattle.sig_runs.specs.Machine.{apply, choice}
use Rattle.sig_runs.specs.LocalRun.{Local, Act, handles, sends}
use Rattle.sig_runs.specs.Crew.{Member, IsLawfulWith, HasLocalRun, HasOwn, acts_of, machine_with, opening_machine}
use Rattle.sig_runs.specs.OnTheWay.{AtWork, IsLawfulAtWork, machine_at_work, opened, opened_crew, DoesAct, Delivers, on_way, boxes_after, boxes_with, own_part, taken_in_part}
use Rattle.sig_runs.proofs.OnTheWay.{delivery_keeps_way}
use Rattle.sig_runs.proofs.Delivery.{act_keeps, act_is_step, delivery_keeps}

module _ {S X E : Type 0} (rules : Rules S X E) (opening : List S) (old new : AtWork S X E) (lawful : IsLawfulAtWork rules opening old) where
  pub act_keeps_lawful : KeepStamps rules → (p : ℕ) (a : Act S X E) → DoesAct rules old p a new → IsLawfulAtWork rules opening new
  act_keeps_lawful stamped p a d =
      subst (λ b. IsLawfulWith rules opening new.crew (on_way rules new.crew b)) (sym d.outbox)
      (subst (λ c. IsLawfulWith rules opening c (on_way rules c (boxes_after rules p a.effect.sends old.outbox))) (sym d.crew)
      (act_keeps rules opening old.crew old.outbox lawful stamped p d.member d.there a d.can d.next d.grown d.local d.taken_in d.acts))

  pub act_steps : KeepStamps rules → (p : ℕ) (a : Act S X E) → DoesAct rules old p a new →
      apply rules (machine_at_work rules old) (choice p (rules.did a.effect.event)) ≡ Some (record { machine = machine_at_work rules new; event = a.effect.event })
  act_steps stamped p a d =
      act_is_step rules opening old.crew old.outbox lawful stamped p d.member d.there a d.can d.next d.grown d.local d.taken_in d.acts
      ∙ ap₂ (λ c b. Some (record { machine = machine_with c (on_way rules c b); event = a.effect.event })) (sym d.crew) (sym d.outbox)

  pub delivery_keeps_lawful : (s t : ℕ) → Delivers rules old s t new → IsLawfulAtWork rules opening new
  delivery_keeps_lawful s t d =
      subst (λ b. IsLawfulWith rules opening new.crew (on_way rules new.crew b)) (sym d.outbox)
      (subst (λ c. IsLawfulWith rules opening c (on_way rules c (boxes_with s d.left old.outbox))) (sym d.crew)
      (delivery_keeps rules opening old.crew old.outbox lawful s t d.apart d.signal d.left d.oldest d.sender d.receiver d.member d.there d.given d.local d.taken_in d.acts))

  pub delivery_is_no_step : (s t : ℕ) → Delivers rules old s t new → machine_at_work rules new ≡ machine_at_work rules old
  delivery_is_no_step s t d =
      ap₂ (λ c b. machine_with c (on_way rules c b)) d.crew d.outbox
      ∙ ap₂ (λ a b. record { procs = a; queued = b })
      (map-set_same (λ (m : Member S X E). m.local.state) old.crew t d.given d.member (ap (λ (l : Local S X). l.state) d.local ∙ sym (ap (λ (m : Member S X E). m.local.state) (get_or_from_slice_get old.crew t d.member d.member d.there))))
      (delivery_keeps_way rules old.crew old.outbox s t d.apart d.signal d.left d.oldest d.sender d.receiver d.member d.there d.given d.local d.taken_in)

module _ {S X E : Type 0} (rules : Rules S X E) where
  abbrev start : S → Member S X E
  start s = opened s

  no_acts : (o : Option S) → acts_of (option_map start o) ≡ []
  no_acts None = refl
  no_acts (Some s) = refl

  none_on_way : (f g : ℕ) (o : Option S) (c : Bool) → cond c (own_part (option_map start o)) (taken_in_part rules f (option_map start o) ++ addressed rules g []) ≡ []
  none_on_way f g None true = refl
  none_on_way f g None false = refl
  none_on_way f g (Some s) true = refl
  none_on_way f g (Some s) false = refl

  has_run : (p : ℕ) (o : Option S) → HasLocalRun rules p o (option_map start o)
  has_run p None = tt
  has_run p (Some s) = refl

  has_own : (o : Option S) → HasOwn [] (option_map start o)
  has_own None = tt
  has_own (Some s) = refl

  states : (opening : List S) → map (λ (m : Member S X E). m.local.state) (map start opening) ≡ opening
  states [] = refl
  states (s ∷ rest) = ap (λ z. s ∷ z) (states rest)

  module _ (opening : List S) where
    abbrev crew : List (Member S X E)
    crew = map start opening

    nothing : (f g : ℕ) → on_way rules crew (λ q. []) f g ≡ []
    nothing f g = ap (λ o. cond (f == g) (own_part o) (taken_in_part rules f o ++ addressed rules g [])) (slice_get-map start opening g) ∙ none_on_way f g (slice_get opening g) (f == g)

    nobody_acted : (p : ℕ) → acts_of (slice_get crew p) ≡ []
    nobody_acted p = ap (λ o. acts_of o) (slice_get-map start opening p) ∙ no_acts (slice_get opening p)

    -- the crew as it was opened is lawful
    pub opened_is_lawful : IsLawfulAtWork rules opening (opened_crew opening)
    opened_is_lawful = record {
      runs = λ p. subst (λ o. HasLocalRun rules p (slice_get opening p) o) (sym (slice_get-map start opening p)) (has_run p (slice_get opening p));
      own = λ p. subst (λ o. HasOwn (on_way rules crew (λ q. []) p p) o) (sym (slice_get-map start opening p)) (subst (λ z. HasOwn z (option_map start (slice_get opening p))) (sym (nothing p p)) (has_own (slice_get opening p)));
      pairs = λ s t.
          ap₂ (λ a b. coming_from rules s (handles a) ++ b) (nobody_acted t) (nothing s t) ∙ sym (ap (λ z. addressed rules t (sends z)) (nobody_acted s));
    }

    -- and its machine is the one before the first event
    pub opened_machine : machine_at_work rules (opened_crew opening) ≡ opening_machine opening
    opened_machine = ap₂ (λ a b. record { procs = a; queued = b }) (states opening) (fun_ext (λ s. fun_ext (λ t. nothing s t)))
