-- A list that has each event of a lawful crew once, by rising stamps, has the events of each process in their order.
use Rattle.std.proofs.Common.{Bool, ◌≡◌, ◌≢◌, ℕ, zero, suc, zero-add, ◌+◌, ◌<◌, ◌≤◌, true, false, cond, ◌&&◌, List, [], ◌∷◌, map, length, get_or, Option, Some, None, sym, ap, ◌∙◌, subst, inl, inr, ◌⊎◌, ⊎_elim, arith, refl}
use Rattle.std.specs.Prelude.{◌==◌, slice_get, is_some}
use Rattle.std.specs.List.{count_by, filter_map, cons_option}
use Rattle.std.specs.Option.{option_map}
use Rattle.std.proofs.lemmas.Bool.{eq-eqb, ne_eqb}
use Rattle.std.proofs.lemmas.Bool.Decides.{eqb_tells}
use Rattle.std.proofs.lemmas.List.Sums.{sum_by-cons}
use Rattle.std.proofs.lemmas.List.Sorted.{IsNonDecreasingBy-from_all_adjacent}
use Rattle.sig_runs.specs.Rules.{Rules, KeepStamps}
use Rattle.sig_runs.specs.Machine.{IsRun}
use Rattle.sig_runs.specs.LocalRun.{Local, Act, IsLocalRun, after}
use Rattle.sig_runs.specs.Crew.{Member, IsLawful, HasLocalRun, acts_of, crew_machine, opening_machine}
use Rattle.sig_runs.specs.Order.{Place, is_at, act_at, stamp_of, stamp_at, IsOrder, events_at, events_by}
use Rattle.sig_runs.proofs.Entries.{Entry, acts_by, FromStamp, IsRising, events}
use Rattle.sig_runs.proofs.CountUp.{count_of, count_up, Least, Ascends, is_count_up, all_places, ascends_from, is_some_within, is_some_past}
use Rattle.sig_runs.proofs.Steps.{act_stamp}
use Rattle.sig_runs.proofs.Merge.{merged_run}

-- the places of one process

abbrev pub places_by : ℕ → List Place → List ℕ
places_by p [] = []
places_by p (a ∷ rest) = cond (a.pid == p) (a.place ∷ places_by p rest) (places_by p rest)

count_by-places : (p k : ℕ) (order : List Place) → count_of k (places_by p order) ≡ count_by (is_at (record { pid = p; place = k })) order
count_by-places p k [] = refl
count_by-places p k (a ∷ rest) =
    head (count_by-places p k rest) (eqb_tells a.pid p) (eqb_tells a.place k) ∙ sym (sum_by-cons (λ x. cond (is_at (record { pid = p; place = k }) x) 1 0) a rest)
  where
    F : ℕ
    F = count_by (is_at (record { pid = p; place = k })) rest

    head : count_of k (places_by p rest) ≡ F → (((a.pid == p) ≡ true) × (a.pid ≡ p)) ⊎ (((a.pid == p) ≡ false) × (a.pid ≢ p)) → (((a.place == k) ≡ true) × (a.place ≡ k)) ⊎ (((a.place == k) ≡ false) × (a.place ≢ k)) →
        count_of k (places_by p (a ∷ rest)) ≡ cond (p == a.pid && k == a.place) 1 0 + F
    head ih (inl x) (inl y) = rw (x.0, eq-eqb p a.pid (sym x.1), eq-eqb k a.place (sym y.1)) (rw y.0 (ap (λ z. 1 + z) ih))
    head ih (inl x) (inr y) = rw (x.0, eq-eqb p a.pid (sym x.1), ne_eqb k a.place (λ q. y.1 (sym q))) (rw y.0 (ap (λ z. 0 + z) ih))
    head ih (inr x) y = rw (x.0, ne_eqb p a.pid (λ q. x.1 (sym q))) (ih ∙ sym (zero-add F))

abbrev pub entry_of : {S X E : Type 0} → ℕ → Option (Act S X E) → Option (Entry S X E)
entry_of p o = option_map (λ act. record { pid = p; act = act }) o

abbrev pub entries : {S X E : Type 0} → List (Member S X E) → List Place → List (Entry S X E)
entries crew [] = []
entries crew (a ∷ rest) = cons_option (entry_of a.pid (act_at crew a)) (entries crew rest)

events-entries : {S X E : Type 0} (crew : List (Member S X E)) (order : List Place) → events (entries crew order) ≡ events_at crew order
events-entries crew [] = refl
events-entries {S} {X} {E} crew (a ∷ rest) = go (events-entries crew rest) (act_at crew a)
  where
    go : events (entries crew rest) ≡ events_at crew rest → (o : Option (Act S X E)) → events (cons_option (entry_of a.pid o) (entries crew rest)) ≡ cons_option (option_map (λ act. record { pid = a.pid; event = act.effect.event }) o) (events_at crew rest)
    go ih None = ih
    go ih (Some act) = ap (λ z. record { pid = a.pid; event = act.effect.event } ∷ z) ih

acts_by-entries : {S X E : Type 0} (crew : List (Member S X E)) (p : ℕ) (order : List Place) →
    acts_by p (entries crew order) ≡ filter_map (λ k. slice_get (acts_of (slice_get crew p)) k) (places_by p order)
acts_by-entries crew p [] = refl
acts_by-entries {S} {X} {E} crew p (a ∷ rest) = go (acts_by-entries crew p rest) (eqb_tells a.pid p)
  where
    acts : List (Act S X E)
    acts = acts_of (slice_get crew p)

    Rest : Type 0
    Rest = acts_by p (entries crew rest) ≡ filter_map (λ k. slice_get acts k) (places_by p rest)

    here : Rest → (o : Option (Act S X E)) (c : (a.pid == p) ≡ true) → acts_by p (cons_option (entry_of a.pid o) (entries crew rest)) ≡ cons_option o (filter_map (λ k. slice_get acts k) (places_by p rest))
    here ih None c = ih
    here ih (Some act) c = rw c (ap (λ z. act ∷ z) ih)

    other : Rest → (o : Option (Act S X E)) (c : (a.pid == p) ≡ false) → acts_by p (cons_option (entry_of a.pid o) (entries crew rest)) ≡ filter_map (λ k. slice_get acts k) (places_by p rest)
    other ih None c = ih
    other ih (Some act) c = rw c ih

    go : Rest → (((a.pid == p) ≡ true) × (a.pid ≡ p)) ⊎ (((a.pid == p) ≡ false) × (a.pid ≢ p)) →
        acts_by p (cons_option (entry_of a.pid (act_at crew a)) (entries crew rest)) ≡ filter_map (λ k. slice_get acts k) (cond (a.pid == p) (a.place ∷ places_by p rest) (places_by p rest))
    go ih (inl x) =
        here ih (act_at crew a) x.0
        ∙ ap (λ q. cons_option (slice_get (acts_of (slice_get crew q)) a.place) (filter_map (λ k. slice_get acts k) (places_by p rest))) x.1
        ∙ sym (ap (λ c. filter_map (λ k. slice_get acts k) (cond c (a.place ∷ places_by p rest) (places_by p rest))) x.0)
    go ih (inr x) = other ih (act_at crew a) x.0 ∙ sym (ap (λ c. filter_map (λ k. slice_get acts k) (cond c (a.place ∷ places_by p rest) (places_by p rest))) x.0)

-- the stamps

least_places : {S X E : Type 0} (rules : Rules S X E) (crew : List (Member S X E)) (p v : ℕ) (order : List Place) → Least (stamp_at rules crew) v order → Least (λ k. stamp_of rules (slice_get (acts_of (slice_get crew p)) k)) v (places_by p order)
least_places rules crew p v [] h = tt
least_places {S} {X} {E} rules crew p v (a ∷ rest) h = go (least_places rules crew p v rest h.1) (eqb_tells a.pid p)
  where
    f : ℕ → ℕ
    f k = stamp_of rules (slice_get (acts_of (slice_get crew p)) k)

    go : Least f v (places_by p rest) → (((a.pid == p) ≡ true) × (a.pid ≡ p)) ⊎ (((a.pid == p) ≡ false) × (a.pid ≢ p)) → Least f v (cond (a.pid == p) (a.place ∷ places_by p rest) (places_by p rest))
    go ih (inl x) = rw (x.0) (subst (λ q. v ≤ stamp_of rules (slice_get (acts_of (slice_get crew q)) a.place)) x.1 h.0, ih)
    go ih (inr x) = rw x.0 ih

ascends_places : {S X E : Type 0} (rules : Rules S X E) (crew : List (Member S X E)) (p : ℕ) (order : List Place) → Ascends (stamp_at rules crew) order → Ascends (λ k. stamp_of rules (slice_get (acts_of (slice_get crew p)) k)) (places_by p order)
ascends_places rules crew p [] h = tt
ascends_places {S} {X} {E} rules crew p (a ∷ rest) h = go (ascends_places rules crew p rest h.1) (eqb_tells a.pid p)
  where
    f : ℕ → ℕ
    f k = stamp_of rules (slice_get (acts_of (slice_get crew p)) k)

    go : Ascends f (places_by p rest) → (((a.pid == p) ≡ true) × (a.pid ≡ p)) ⊎ (((a.pid == p) ≡ false) × (a.pid ≢ p)) → Ascends f (cond (a.pid == p) (a.place ∷ places_by p rest) (places_by p rest))
    go ih (inl x) =
        rw x.0 (
          subst (λ q. Least f (stamp_of rules (slice_get (acts_of (slice_get crew q)) a.place)) (places_by p rest)) x.1 (least_places rules crew p (stamp_at rules crew a) rest h.0),
          ih,
        )
    go ih (inr x) = rw x.0 ih

from_stamp : {S X E : Type 0} (rules : Rules S X E) (crew : List (Member S X E)) (v : ℕ) (order : List Place) → Least (stamp_at rules crew) v order → FromStamp rules v (entries crew order)
from_stamp rules crew v [] h = tt
from_stamp {S} {X} {E} rules crew v (a ∷ rest) h = go (from_stamp rules crew v rest h.1) (act_at crew a) h.0
  where
    go : FromStamp rules v (entries crew rest) → (o : Option (Act S X E)) → v ≤ stamp_of rules o → FromStamp rules v (cons_option (entry_of a.pid o) (entries crew rest))
    go ih None l = ih
    go ih (Some act) l = (l, ih)

rising_entries : {S X E : Type 0} (rules : Rules S X E) (crew : List (Member S X E)) (order : List Place) → Ascends (stamp_at rules crew) order → IsRising rules (entries crew order)
rising_entries rules crew [] h = tt
rising_entries {S} {X} {E} rules crew (a ∷ rest) h = go (rising_entries rules crew rest h.1) (act_at crew a) refl
  where
    go : IsRising rules (entries crew rest) → (o : Option (Act S X E)) → act_at crew a ≡ o → IsRising rules (cons_option (entry_of a.pid o) (entries crew rest))
    go ih None e = ih
    go ih (Some act) e = (subst (λ o. FromStamp rules (stamp_of rules o) (entries crew rest)) e (from_stamp rules crew (stamp_at rules crew a) rest h.0), ih)

-- the stamps of a local run rise strictly

module _ {S X E : Type 0} (rules : Rules S X E) (stamped : KeepStamps rules) where
  above : (p : ℕ) (acts : List (Act S X E)) (l end : Local S X) → IsLocalRun rules p l acts end → (j : ℕ) → j < length acts → rules.last l.state < stamp_of rules (slice_get acts j)
  above p [] l end h j k = absurd (omega arith)
  above p (a ∷ later) l end h zero k = (act_stamp rules stamped p l a.input a.effect h.0).1
  above p (a ∷ later) l end h (suc j) k =
      let s : (rules.event_stamp a.effect.event ≡ rules.last a.effect.state) × (rules.last l.state < rules.event_stamp a.effect.event) = act_stamp rules stamped p l a.input a.effect h.0 in
      let t : rules.last a.effect.state < stamp_of rules (slice_get later j) = above p later (after rules p l a) end h.1 j (omega arith) in
      omega arith

  local_rises : (p : ℕ) (acts : List (Act S X E)) (l end : Local S X) → IsLocalRun rules p l acts end → (i j : ℕ) → i < j → j < length acts → stamp_of rules (slice_get acts i) < stamp_of rules (slice_get acts j)
  local_rises p [] l end h i j k m = absurd (omega arith)
  local_rises p (a ∷ later) l end h i zero k m = absurd (omega arith)
  local_rises p (a ∷ later) l end h zero (suc j) k m =
      let s : (rules.event_stamp a.effect.event ≡ rules.last a.effect.state) × (rules.last l.state < rules.event_stamp a.effect.event) = act_stamp rules stamped p l a.input a.effect h.0 in
      let t : rules.last a.effect.state < stamp_of rules (slice_get later j) = above p later (after rules p l a) end h.1 j (omega arith) in
      omega arith
  local_rises p (a ∷ later) l end h (suc i) (suc j) k m = local_rises p later (after rules p l a) end h.1 i j (omega arith) (omega arith)

  run_rises : (p : ℕ) (o : Option S) (c : Option (Member S X E)) → HasLocalRun rules p o c → (i j : ℕ) → i < j → j < length (acts_of c) → stamp_of rules (slice_get (acts_of c) i) < stamp_of rules (slice_get (acts_of c) j)
  run_rises p None None h i j k m = absurd (omega arith)
  run_rises p (Some s) (Some c) h i j k m = local_rises p c.acts (record { state = s; own = [] }) c.local h i j k m
  run_rises p None (Some c) h i j k m = absurd h
  run_rises p (Some s) None h i j k m = absurd h

  module _ (opening : List S) (crew : List (Member S X E)) (order : List Place) (lawful : IsLawful rules opening crew) (o : IsOrder rules crew order) where
    order_ascends : Ascends (stamp_at rules crew) order
    order_ascends =
        ascends_from (stamp_at rules crew) order
        (IsNonDecreasingBy-from_all_adjacent (stamp_at rules crew) order
        (λ k d l. ⊎_elim (λ s. omega arith) (λ s. let e : stamp_at rules crew (get_or order k d) ≡ stamp_at rules crew (get_or order (k + 1) d) = s.0 in omega arith) (o.rising k d l)))

    order_parts : (p : ℕ) → acts_by p (entries crew order) ≡ acts_of (slice_get crew p)
    order_parts p = acts_by-entries crew p order ∙ ap (λ z. filter_map (λ k. slice_get acts k) z) places ∙ all_places acts
      where
        acts : List (Act S X E)
        acts = acts_of (slice_get crew p)

        count : (k : ℕ) → count_of k (places_by p order) ≡ cond (is_some (slice_get acts k)) 1 0
        count k = count_by-places p k order ∙ o.once (record { pid = p; place = k })

        places : places_by p order ≡ count_up 0 (length acts)
        places =
            is_count_up (λ k. stamp_of rules (slice_get acts k)) (length acts) (run_rises p (slice_get opening p) (slice_get crew p) (lawful.runs p))
            (places_by p order) 0 (length acts) (omega arith) (ascends_places rules crew p order order_ascends)
            (λ k l m. count k ∙ ap (λ c. cond c 1 0) (is_some_within acts k m))
            (λ k l. absurd (omega arith))
            (λ k l. count k ∙ ap (λ c. cond c 1 0) (is_some_past acts k l))

    -- The merge theorem: the events of a lawful crew, in their order, are a run of the machine from the opening, and it
    -- ends in the crew's states with the crew's queued signals.
    pub order_is_run : IsRun rules (opening_machine opening) (events_at crew order) (crew_machine rules crew)
    order_is_run =
        subst (λ z. IsRun rules (opening_machine opening) z (crew_machine rules crew)) (events-entries crew order)
        (merged_run rules opening crew (entries crew order) lawful order_parts (rising_entries rules crew order order_ascends) stamped)

events_by-events : {S X E : Type 0} (p : ℕ) (es : List (Entry S X E)) → events_by p (events es) ≡ map (λ a. a.effect.event) (acts_by p es)
events_by-events p [] = refl
events_by-events {S} {X} {E} p (e ∷ es) = go (e.pid == p) (events_by-events p es)
  where
    go : (c : Bool) → events_by p (events es) ≡ map (λ (a : Act S X E). a.effect.event) (acts_by p es) →
        cond c (e.act.effect.event ∷ events_by p (events es)) (events_by p (events es)) ≡ map (λ (a : Act S X E). a.effect.event) (cond c (e.act ∷ acts_by p es) (acts_by p es))
    go true ih = ap (λ z. e.act.effect.event ∷ z) ih
    go false ih = ih

-- the run has each process's events in their order
pub order_events : {S X E : Type 0} (rules : Rules S X E) (stamped : KeepStamps rules) (opening : List S) (crew : List (Member S X E)) (order : List Place) → IsLawful rules opening crew → IsOrder rules crew order →
    (p : ℕ) → events_by p (events_at crew order) ≡ map (λ a. a.effect.event) (acts_of (slice_get crew p))
order_events {S} {X} {E} rules stamped opening crew order lawful o p =
    ap (λ z. events_by p z) (sym (events-entries crew order)) ∙ events_by-events p (entries crew order) ∙ ap (λ z. map (λ (a : Act S X E). a.effect.event) z) (order_parts rules stamped opening crew order lawful o p)
