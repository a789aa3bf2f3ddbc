-- The merged events of a record are the order of the events of each crew whose processes have these events.
use Rattle.std.proofs.Common.{◌≡◌, ℕ, ◌+◌, Bool, cond, List, [], ◌∷◌, map, Option, Some, None, refl, sym, ap, ◌∙◌, inl, inr, arith}
use Rattle.std.specs.Prelude.{slice_get, is_some}
use Rattle.std.specs.Option.{option_map}
use Rattle.std.specs.List.{count_by}
use Rattle.std.proofs.lemmas.Option.{slice_get-map}
use Rattle.std.proofs.lemmas.List.Sums.{sum_by-cons}
use Rattle.sig_runs.specs.Rules.{Rules}
use Rattle.sig_runs.specs.LocalRun.{Act}
use Rattle.sig_runs.specs.Crew.{Member, acts_of}
use Rattle.sig_runs.specs.Order.{Place, IsOrder, is_at, act_at, stamp_of}
use Rattle.sig_runs.specs.Order.{IsBefore as ComesBefore, stamp_at as act_stamp}
use Rattle.sig_model.specs.declared.event.Event.{Event}
use Rattle.sig_record.specs.declared.report.Report.{Report}
use Rattle.sig_record.specs.declared.merging.MergedAt.{MergedAt}
use Rattle.sig_record.specs.Merging.{IsMerged, IsBefore, is_same, event_at, events_in, stamp_in, stamp_at, place_of}
use Rattle.sig_runs.proofs.Chains.{chain_from, chain_map, adjacent_from}

is_some_map : {A B : Type 0} (f : A → B) (o : Option A) → is_some (option_map f o) ≡ is_some o
is_some_map f None = refl
is_some_map f (Some x) = refl

-- the event of a record at the place of a crew
abbrev event_of : Place → MergedAt
event_of a = record { pid = record { 0 = a.pid }; place = a.place }

count_places : (a : Place) (order : List MergedAt) → count_by (is_at a) (map place_of order) ≡ count_by (is_same (event_of a)) order
count_places a [] = refl
count_places a (x ∷ order) =
    sum_by-cons (λ (y : Place). cond (is_at a y) 1 0) (place_of x) (map place_of order) ∙ ap (λ z. cond (is_at a (place_of x)) 1 0 + z) (count_places a order)
    ∙ sym (sum_by-cons (λ (y : MergedAt). cond (is_same (event_of a) y) 1 0) x order)

module _ {S X : Type 0} (rules : Rules S X Event) (stamped : (e : Event) → rules.event_stamp e ≡ e.stamp) (reports : List Report) (members : List (Member S X Event))
    (told : (p : ℕ) → map (λ a. a.effect.event) (acts_of (slice_get members p)) ≡ events_in (slice_get reports p)) where
  event_is : (a : MergedAt) → event_at reports a ≡ option_map (λ (act : Act S X Event). act.effect.event) (act_at members (place_of a))
  event_is a =
      ap (λ (es : List Event). slice_get es a.place) (sym (told a.pid.0)) ∙ slice_get-map (λ (act : Act S X Event). act.effect.event) (acts_of (slice_get members a.pid.0)) a.place

  its_stamp : (o : Option (Act S X Event)) → stamp_in (option_map (λ (act : Act S X Event). act.effect.event) o) ≡ stamp_of rules o
  its_stamp None = refl
  its_stamp (Some act) = sym (stamped act.effect.event)

  stamp_is : (a : MergedAt) → stamp_at reports a ≡ act_stamp rules members (place_of a)
  stamp_is a = ap stamp_in (event_is a) ∙ its_stamp (act_at members (place_of a))

  before : (a b : MergedAt) → IsBefore reports a b → ComesBefore rules members (place_of a) (place_of b)
  before a b (inl h) = inl (omega (arith, stamp_is a, stamp_is b))
  before a b (inr (e, h)) = inr (sym (stamp_is a) ∙ e ∙ stamp_is b, h)

  pub merged_is_order : (order : List MergedAt) → IsMerged reports order → IsOrder rules members (map place_of order)
  merged_is_order order h = record {
    once = λ a. count_places a order ∙ h.once (event_of a) ∙ ap (λ (b : Bool). cond b 1 0) (ap is_some (event_is (event_of a)) ∙ is_some_map (λ (act : Act S X Event). act.effect.event) (act_at members a));
    rising = adjacent_from (ComesBefore rules members) (map place_of order)
        (chain_map place_of (IsBefore reports) (ComesBefore rules members) before order (chain_from (IsBefore reports) order h.rising));
  }
