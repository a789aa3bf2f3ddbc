-- A signal that is handed over from an outbox to its receiver is no step.
use Rattle.std.proofs.Common.{◌≡◌, ◌≢◌, ℕ, ◌<◌, List, ◌∷◌, length, Some, refl, sym, ap, ◌∙◌, subst, arith}
use Rattle.std.specs.Prelude.{slice_get, slice_set}
use Rattle.std.proofs.lemmas.List.{set-set}
use Rattle.sig_kinds.specs.declared.signal.Signal.{Signal}
use Rattle.sig_program.specs.Scripts.{Program}
use Rattle.sig_runs.proofs.Lists.{slice_get-set_same, slice_get-set_other}
use Rattle.sig_model.specs.Running.{Running}
use Rattle.sig_model.specs.OneWorker.{arrived}
use Rattle.sig_model.specs.SettledRun.{events_of}
use Rattle.sig_model.specs.CrewLaw.{outbox_of, IsLawfulCrew, machine_of}
use Rattle.sig_model.proofs.Lookups.{at_set}
use Rattle.sig_model.proofs.KeptLawLemmas.{delivery_lawful, delivery_still}
use Rattle.sig_choices.specs.Choosing.{IsPosted, HasPosted}
use Rattle.sig_choices.proofs.Reordering.{reordered_lawful, reordered_still}

module _ (crew : List Running) (p : ℕ) (after : List Running) (h : IsPosted crew p after) where
  abbrev ne : p ≢ h.signal.to.0
  ne = h.apart

  abbrev left : Running
  left = record h.sender { outbox = h.left }

  abbrev given : Running
  given = record h.receiver { taken_in = h.waits }

  abbrev middle : List Running
  middle = slice_set crew p left

  abbrev to : ℕ
  to = h.signal.to.0

  at_middle : slice_get middle to ≡ Some h.receiver
  at_middle = slice_get-set_other crew p to left ne ∙ h.at

  abbrev delivered : List Running
  delivered = slice_set middle to (arrived h.receiver h.signal)

  at_delivered : slice_get delivered to ≡ Some (arrived h.receiver h.signal)
  at_delivered = slice_get-set_same middle to (arrived h.receiver h.signal) h.receiver at_middle

  reordered_is : slice_set delivered to given ≡ after
  reordered_is = set-set middle to (arrived h.receiver h.signal) given ∙ sym h.set

  module _ (script : Program) (law : IsLawfulCrew script crew) where
    mid_law : IsLawfulCrew script delivered
    mid_law = delivery_lawful script crew law p h.sender h.there h.signal h.left h.oldest h.receiver h.at

    post_lawful : IsLawfulCrew script after
    post_lawful =
        subst (IsLawfulCrew script) reordered_is
        (reordered_lawful script delivered mid_law to (arrived h.receiver h.signal) at_delivered h.waits h.alike h.arriving)

    post_still : machine_of script after ≡ machine_of script crew
    post_still =
        ap (machine_of script) (sym reordered_is)
        ∙ reordered_still script delivered mid_law to (arrived h.receiver h.signal) at_delivered h.waits h.alike h.arriving
        ∙ delivery_still script crew law p h.sender h.there h.signal h.left h.oldest h.receiver h.at

  events_same : (q : ℕ) → events_of (slice_get (slice_set middle to given) q) ≡ events_of (slice_get crew q)
  events_same =
      at_set (λ q o. events_of o ≡ events_of (slice_get crew q)) middle to h.receiver given at_middle
      (ap (λ o. events_of o) (sym h.at))
      (λ q no. at_set (λ q o. events_of o ≡ events_of (slice_get crew q)) crew p h.sender left h.there (ap (λ o. events_of o) (sym h.there)) (λ q n. refl) q)

  boxes_same : (q : ℕ) → p ≢ q → outbox_of (slice_get (slice_set middle to given) q) ≡ outbox_of (slice_get crew q)
  boxes_same =
      at_set (λ q o. p ≢ q → outbox_of o ≡ outbox_of (slice_get crew q)) middle to h.receiver given at_middle
      (λ no. ap (λ o. outbox_of o) (sym h.at))
      (λ q no away. ap (λ o. outbox_of o) (slice_get-set_other crew p q left away))

  -- the outbox is shorter
  pub post_left : outbox_of (slice_get after p) ≡ h.left
  post_left =
      ap (λ c. outbox_of (slice_get c p)) h.set
      ∙ ap (λ o. outbox_of o) (slice_get-set_other middle to p given (λ e. ne (sym e)) ∙ slice_get-set_same crew p left h.sender h.there)

  pub post_shorter : length (outbox_of (slice_get after p)) < length (outbox_of (slice_get crew p))
  post_shorter =
      let now : length (outbox_of (slice_get after p)) ≡ length h.left = ap (λ (xs : List Signal). length xs) post_left in
      let was : length (outbox_of (slice_get crew p)) ≡ length (h.signal ∷ h.left) = ap (λ o. length (outbox_of o)) h.there ∙ ap (λ (xs : List Signal). length xs) h.oldest in
      omega (arith, now, was)

  pub post_posted : HasPosted crew p after
  post_posted = record {
    lawful = post_lawful;
    still = post_still;
    events = λ q. ap (λ c. events_of (slice_get c q)) h.set ∙ events_same q;
    others = λ q no. ap (λ c. outbox_of (slice_get c q)) h.set ∙ boxes_same q no;
  }

pub posted_none : (crew : List Running) (p : ℕ) → HasPosted crew p crew
posted_none crew p = record { lawful = λ script law. law; still = λ script law. refl; events = λ q. refl; others = λ q no. refl }

pub posted_then : (crew mid after : List Running) (p : ℕ) → HasPosted crew p mid → HasPosted mid p after → HasPosted crew p after
posted_then crew mid after p h g = record {
  lawful = λ script law. g.lawful script (h.lawful script law);
  still = λ script law. g.still script (h.lawful script law) ∙ h.still script law;
  events = λ q. g.events q ∙ h.events q;
  others = λ q no. g.others q no ∙ h.others q no;
}
