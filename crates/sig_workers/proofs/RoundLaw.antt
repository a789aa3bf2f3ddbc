-- A round keeps the law of a crew.
use Rattle.std.proofs.Common.{◌≡◌, ◌≢◌, ℕ, zero, suc, ◌<◌, ◌≤◌, List, [], ◌∷◌, ◌++◌, length, Option, Some, None, refl, sym, ap, ◌∙◌, subst, inl, inr, arith, append_assoc, cond, get_or}
use Rattle.std.specs.Prelude.{◌==◌, slice_get}
use Rattle.std.proofs.lemmas.Bool.{eq-eqb}
use Rattle.std.proofs.lemmas.Bool.Decides.{eqb_tells}
use Rattle.std.proofs.lemmas.List.{append-nil, append_cancel_left}
use Rattle.std.proofs.lemmas.List.Elements.{filter-append}
use Rattle.std.proofs.lemmas.Option.{same_Some, slice_get_within, slice_get_past, slice_get-get_or}
use Rattle.sig_kinds.specs.declared.signal.Signal.{Signal}
use Rattle.sig_program.specs.Scripts.{Program}
use Rattle.sig_model.specs.Running.{Running}
use Rattle.sig_model.specs.OneWorker.{IsClear}
use Rattle.sig_model.specs.Keeping.{IsKeeping}
use Rattle.sig_model.specs.Accounts.{sent_by, came, went, bound_for, coming_from}
use Rattle.sig_model.specs.SettledRun.{IsProcessOf}
use Rattle.sig_model.specs.CrewLaw.{came_to, went_from, left_for, IsLawfulCrew}
use Rattle.sig_model.proofs.ClearLemmas.{clear_at}
use Rattle.sig_model.proofs.NumberLemmas.{keeping_numbered}
use Rattle.sig_queue.specs.Seats.{Queue, Seated}
use Rattle.sig_workers.specs.SeatAccounts.{put_in, put_by, taken_at}
use Rattle.sig_workers.specs.Parts.{HasPlace}
use Rattle.sig_workers.specs.Rounds.{Begin}

-- the process at the end of a round: what its closed queue had left was handed over
pub record IsClosed (queues : List Queue) (base : List Running) (seats : List Seated) (pid : ℕ) (t : Running) : Type 0 where
  pub r : Running
  pub place : HasPlace queues base seats pid r
  pub rest : List Signal
  pub given : t ≡ record r { taken_in = r.taken_in ++ rest }
  pub keeping : IsKeeping t
  pub flows : (s : ℕ) → put_by s pid seats ≡ coming_from s (taken_at pid seats ++ rest)

pub past : {X : Type 0} (xs : List X) (p : ℕ) → slice_get xs p ≡ None → length xs ≤ p
past [] p h = omega arith
past (x ∷ xs) zero h = cc
past (x ∷ xs) (suc p) h = omega (arith, past xs p h)

-- a list in which nothing is of any sender is empty
all_of_none : (xs : List Signal) → ((s : ℕ) → coming_from s xs ≡ []) → xs ≡ []
all_of_none [] h = refl
all_of_none (x ∷ xs) h =
    let e : x ∷ coming_from x.from.0 xs ≡ [] = sym (ap (λ c. cond c (x ∷ coming_from x.from.0 xs) (coming_from x.from.0 xs)) (eq-eqb x.from.0 x.from.0 refl)) ∙ h x.from.0 in
    absurd cc

none_more : {X : Type 0} (xs ys : List X) → xs ≡ xs ++ ys → ys ≡ []
none_more xs ys e = sym (append_cancel_left xs [] ys (append-nil xs ∙ e))

first_none : {X : Type 0} (xs ys : List X) → xs ++ ys ≡ [] → xs ≡ []
first_none [] ys e = refl
first_none (x ∷ xs) ys e = cc

second_none : {X : Type 0} (xs ys : List X) → xs ++ ys ≡ [] → ys ≡ []
second_none [] ys e = e
second_none (x ∷ xs) ys e = cc

went_same : (p : ℕ) (r : Running) (xs : List Signal) → went p (record r { taken_in = xs }) ≡ went p r
unfolding sent_by
went_same p r xs = refl

module _ (script : Program) (queues : List Queue) (base later : List Running) (seats : List Seated) (law : IsLawfulCrew script base) (clear : IsClear base) (same : length later ≡ length base) (many : length seats ≡ length base)
    (strange : (s p : ℕ) → slice_get later s ≡ None → put_by s p seats ≡ []) (ends : (p : ℕ) (t : Running) → slice_get later p ≡ Some t → IsClosed queues base seats p t) where
  clear_end : (p : ℕ) (t : Running) → slice_get later p ≡ Some t → t.outbox ≡ []
  clear_end p t at = let c : IsClosed queues base seats p t = ends p t at in ap (λ (z : Running). z.outbox) c.given ∙ c.place.clear

  pub all_clear : IsClear later
  all_clear i d lt = clear_end i _ (slice_get-get_or later i d lt)

  came_end : (s p : ℕ) (t : Running) (at : slice_get later p ≡ Some t) → s ≢ p → came s t ≡ came s (ends p t at).place.was ++ put_by s p seats
  came_end s p t at ne =
      let c : IsClosed queues base seats p t = ends p t at in
      ap (λ (z : Running). came s z) c.given
      ∙ ap (coming_from s) (sym (append_assoc c.r.handled c.r.taken_in c.rest))
      ∙ filter-append (λ (x : Signal). x.from.0 == s) (c.r.handled ++ c.r.taken_in) c.rest
      ∙ ap (λ z. z ++ coming_from s c.rest) (c.place.gone.came s ne)
      ∙ append_assoc (came s c.place.was) (coming_from s (taken_at p seats)) (coming_from s c.rest)
      ∙ ap (λ z. came s c.place.was ++ z) (sym (filter-append (λ (x : Signal). x.from.0 == s) (taken_at p seats) c.rest) ∙ sym (c.flows s))

  pub went_end : (s p : ℕ) (t : Running) (at : slice_get later s ≡ Some t) → p ≢ s → went p t ≡ went p (ends s t at).place.was ++ put_by s p seats
  went_end s p t at ne =
      let c : IsClosed queues base seats s t = ends s t at in
      ap (λ (z : Running). went p z) c.given ∙ went_same p c.r (c.r.taken_in ++ c.rest) ∙ c.place.gone.went p ne
      ∙ ap (λ z. (went p c.place.was ++ put_by s p seats) ++ bound_for p z) c.place.clear ∙ append-nil (went p c.place.was ++ put_by s p seats)

  -- the pairs of the crew at the begin, whose outboxes are empty
  pair_at : (s t : ℕ) (a b : Option Running) → s ≢ t → slice_get base s ≡ a → slice_get base t ≡ b → came_to s b ++ left_for t a ≡ went_from t a
  pair_at s t a b ne at_s at_t =
      subst (λ o. came_to s b ++ left_for t o ≡ went_from t o) at_s (subst (λ o. came_to s o ++ left_for t (slice_get base s) ≡ went_from t (slice_get base s)) at_t (law.pairs s t ne))

  left_none : (s t : ℕ) (a : Option Running) → slice_get base s ≡ a → left_for t a ≡ []
  left_none s t None at = refl
  left_none s t (Some r) at = ap (λ z. bound_for t z) (clear_at base s r at clear)

  pair_clear : (s t : ℕ) (a b : Option Running) → s ≢ t → slice_get base s ≡ a → slice_get base t ≡ b → came_to s b ≡ went_from t a
  pair_clear s t a b ne at_s at_t = sym (append-nil (came_to s b)) ∙ ap (λ z. came_to s b ++ z) (sym (left_none s t a at_s)) ∙ pair_at s t a b ne at_s at_t

  gone_before : (p : ℕ) → slice_get later p ≡ None → slice_get base p ≡ None
  gone_before p at = slice_get_past base p (let w : length later ≤ p = past later p at in omega (arith, w, same))

  no_seat : (s p : ℕ) → slice_get later p ≡ None → put_by s p seats ≡ []
  no_seat s p at = ap (λ o. put_in s o) (slice_get_past seats p (let w : length later ≤ p = past later p at in omega (arith, w, same, many)))

  pair_case : (s t : ℕ) (a b : Option Running) → s ≢ t → slice_get later s ≡ a → slice_get later t ≡ b → came_to s b ++ left_for t a ≡ went_from t a
  pair_case s t None None ne at_s at_t = refl
  pair_case s t None (Some b) ne at_s at_t =
      let d : IsClosed queues base seats t b = ends t b at_t in
      append-nil (came s b) ∙ came_end s t b at_t ne
      ∙ ap (λ z. z ++ put_by s t seats) (pair_clear s t None (Some d.place.was) ne (gone_before s at_s) d.place.there)
      ∙ strange s t at_s
  pair_case s t (Some a) None ne at_s at_t =
      let c : IsClosed queues base seats s a = ends s a at_s in
      ap (λ z. bound_for t z) (clear_end s a at_s)
      ∙ sym (went_end s t a at_s (λ e. ne (sym e)) ∙ ap (λ z. went t c.place.was ++ z) (no_seat s t at_t) ∙ append-nil (went t c.place.was)
      ∙ sym (pair_clear s t (Some c.place.was) None ne c.place.there (gone_before t at_t)))
  pair_case s t (Some a) (Some b) ne at_s at_t =
      let c : IsClosed queues base seats s a = ends s a at_s in
      let d : IsClosed queues base seats t b = ends t b at_t in
      ap (λ z. came s b ++ bound_for t z) (clear_end s a at_s) ∙ append-nil (came s b)
      ∙ came_end s t b at_t ne
      ∙ ap (λ z. z ++ put_by s t seats) (pair_clear s t (Some c.place.was) (Some d.place.was) ne c.place.there d.place.there)
      ∙ sym (went_end s t a at_s (λ e. ne (sym e)))

  process_end : (p : ℕ) (t : Running) → slice_get later p ≡ Some t → IsProcessOf script p t
  process_end p t at =
      let c : IsClosed queues base seats p t = ends p t at in
      let w : IsProcessOf script p c.place.was = law.processes p c.place.was c.place.there in
      record {
        pid = ap (λ (z : Running). z.pid) c.given ∙ c.place.ready.pid_is;
        turns = ap (λ (z : Running). z.turns) c.given ∙ c.place.gone.on.turns ∙ w.turns;
        proc = w.proc ∙ ap (λ d. Some d) (sym (ap (λ (z : Running). z.proc) c.given ∙ c.place.gone.on.proc));
      }

  -- the crew at the end of a round is lawful
  pub round_lawful : IsLawfulCrew script later
  round_lawful = record {
    many = same ∙ law.many;
    placed = λ p t at.
        let c : IsClosed queues base seats p t = ends p t at in
        ((process_end p t at).pid, ap (λ (z : Running). z.count) c.given ∙ c.place.gone.on.count ∙ (law.placed p c.place.was c.place.there).1 ∙ sym same);
    processes = process_end;
    keeping = λ p t at. (ends p t at).keeping;
    numbered = λ p t at. keeping_numbered t (ends p t at).keeping;
    pairs = λ s t ne. pair_case s t (slice_get later s) (slice_get later t) ne refl refl;
  }

  -- each process's events begin with those that it had
  pub round_begins : Begin base later
  round_begins p r at =
      let lt : p < length later = (let w : p < length base = slice_get_within base p r at in omega (arith, w, same)) in
      let t : Running = get_or later p r in
      let here : slice_get later p ≡ Some t = slice_get-get_or later p r lt in
      let c : IsClosed queues base seats p t = ends p t here in
      let was : c.place.was ≡ r = same_Some c.place.was r (sym c.place.there ∙ at) in
      (t, here, c.place.gone.on.events.0, ap (λ (z : Running). z.events) c.given ∙ c.place.gone.on.events.1 ∙ ap (λ (z : Running). z.events ++ c.place.gone.on.events.0) was)

  -- the stamps rise with the events
  pub round_stamp : (p : ℕ) (r t : Running) → slice_get base p ≡ Some r → slice_get later p ≡ Some t → (r.state.counts.stamp ≤ t.state.counts.stamp) × (length r.events < length t.events → r.state.counts.stamp < t.state.counts.stamp)
  round_stamp p r t at_r at_t =
      let c : IsClosed queues base seats p t = ends p t at_t in
      let was : c.place.was ≡ r = same_Some c.place.was r (sym c.place.there ∙ at_r) in
      let a : t.state.counts.stamp ≡ c.r.state.counts.stamp = ap (λ (z : Running). z.state.counts.stamp) c.given in
      let b : length t.events ≡ length c.r.events = ap (λ (z : Running). length z.events) c.given in
      let d : c.place.was.state.counts.stamp ≡ r.state.counts.stamp = ap (λ (z : Running). z.state.counts.stamp) was in
      let e : length c.place.was.events ≡ length r.events = ap (λ (z : Running). length z.events) was in (
        omega (arith, a, d, c.place.gone.on.stamp),
        λ lt. (let m : c.place.was.state.counts.stamp < c.r.state.counts.stamp = c.place.gone.on.later (omega (arith, lt, b, e)) in omega (arith, a, d, m)),
      )

  -- a round without an event leaves the crew
  module _ (none : (p : ℕ) (t : Running) (at : slice_get later p ≡ Some t) → length (ends p t at).r.events ≡ length (ends p t at).place.was.events) where
    still_end : (p : ℕ) (t : Running) (at : slice_get later p ≡ Some t) → (ends p t at).r ≡ record (ends p t at).place.was { taken_in = (ends p t at).place.was.taken_in ++ taken_at p seats }
    still_end p t at = (ends p t at).place.gone.still (none p t at)

    nothing_put : (s p : ℕ) (t : Running) (at : slice_get later s ≡ Some t) → p ≢ s → put_by s p seats ≡ []
    nothing_put s p t at ne =
        let c : IsClosed queues base seats s t = ends s t at in
        none_more (went p c.place.was) (put_by s p seats)
        (sym (ap (λ (z : Running). went p z) c.given ∙ went_same p c.r (c.r.taken_in ++ c.rest) ∙ ap (λ (z : Running). went p z) (still_end s t at) ∙ went_same p c.place.was (c.place.was.taken_in ++ taken_at s seats))
        ∙ went_end s p t at ne)

    -- no process puts for itself
    module _ (own : (p : ℕ) → put_by p p seats ≡ []) where
      all_nothing : (s p : ℕ) (o : Option Running) → slice_get later s ≡ o → put_by s p seats ≡ []
      all_nothing s p None at = strange s p at
      all_nothing s p (Some t) at = elim (eqb_tells s p) [
        | inl e ↦ subst (λ z. put_by s z seats ≡ []) e.1 (own s)
        | inr e ↦ nothing_put s p t at (λ q. e.1 (sym q))
      ]

      moved_none : (p : ℕ) (t : Running) (at : slice_get later p ≡ Some t) → taken_at p seats ++ (ends p t at).rest ≡ []
      moved_none p t at = all_of_none (taken_at p seats ++ (ends p t at).rest) (λ s. sym ((ends p t at).flows s) ∙ all_nothing s p (slice_get later s) refl)

      pub same_process : (p : ℕ) (t : Running) (at : slice_get later p ≡ Some t) → (t ≡ (ends p t at).place.was) × (t ≡ (ends p t at).r)
      same_process p t at =
          let c : IsClosed queues base seats p t = ends p t at in
          let no : taken_at p seats ++ c.rest ≡ [] = moved_none p t at in
          let to_r : t ≡ c.r = c.given ∙ ap (λ z. record c.r { taken_in = c.r.taken_in ++ z }) (second_none (taken_at p seats) c.rest no) ∙ ap (λ z. record c.r { taken_in = z }) (append-nil c.r.taken_in) in
          (to_r ∙ still_end p t at ∙ ap (λ z. record c.place.was { taken_in = c.place.was.taken_in ++ z }) (first_none (taken_at p seats) c.rest no) ∙ ap (λ z. record c.place.was { taken_in = z }) (append-nil c.place.was.taken_in), to_r)
