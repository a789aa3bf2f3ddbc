-- A part with fresh seats is ready for its work.
use Rattle.std.proofs.Common.{◌≡◌, ◌≢◌, ℕ, zero, suc, ◌+◌, ◌<◌, ◌≤◌, List, [], ◌∷◌, ◌++◌, map, length, Bool, true, false, not, ◌&&◌, Option, Some, None, refl, sym, ap, ◌∙◌, subst, arith}
use Rattle.std.specs.Prelude.{◌==◌, slice_get, slice_index, slice_index_or}
use Rattle.std.proofs.lemmas.Bool.{eq-eqb, ne_eqb}
use Rattle.std.proofs.lemmas.List.{append-nil}
use Rattle.std.proofs.lemmas.Option.{same_Some, slice_get_within}
use Rattle.sig_kinds.specs.declared.signal.Signal.{Signal}
use Rattle.sig_program.specs.Scripts.{Program}
use Rattle.sig_model.specs.Running.{Running}
use Rattle.sig_model.specs.OneWorker.{IsClear}
use Rattle.sig_model.specs.Accounts.{came, went, bound_for, coming_from}
use Rattle.sig_model.specs.CrewLaw.{came_to, went_from, left_for, IsLawfulCrew}
use Rattle.sig_model.proofs.ClearLemmas.{clear_at}
use Rattle.sig_layout.specs.declared.policy.Policy.{Policy}
use Rattle.sig_layout.specs.Sent.{signals}
use Rattle.sig_layout.specs.Openings.{first_of}
use Rattle.sig_queue.specs.Seats.{Queue, Seated}
use Rattle.sig_workers.specs.SeatAccounts.{put_in, put_by, taken_in, taken_at}
use Rattle.sig_workers.specs.Gone.{HasGone, PutsFor, TakesFor, IsReady}
use Rattle.sig_workers.specs.Parts.{is_in, AreSeats, HasPlace}
use Rattle.sig_workers.specs.Opening.{IsQueueOf, IsFreshSeat, AreFresh}
use Rattle.sig_workers.proofs.PartLemmas.{in_part}
use Rattle.sig_workers.proofs.OpenLemmas.{in_below, some_at}

module _ (queues : List Queue) (first count : ℕ) (seats : List Seated) (f : AreFresh queues first count seats) where
  nothing_put : (s p : ℕ) (o : Option Seated) → slice_get seats p ≡ o → put_in s o ≡ []
  nothing_put s p None at = refl
  nothing_put s p (Some v) at = ap (λ z. coming_from s (signals z)) (f.each p v at).2.put

  pub no_put : (s p : ℕ) → put_by s p seats ≡ []
  no_put s p = nothing_put s p (slice_get seats p) refl

  nothing_taken : (p : ℕ) (o : Option Seated) → slice_get seats p ≡ o → taken_in o ≡ []
  nothing_taken p None at = refl
  nothing_taken p (Some v) at = (f.each p v at).2.taken

  pub no_taken : (p : ℕ) → taken_at p seats ≡ []
  no_taken p = nothing_taken p (slice_get seats p) refl

  pub fresh_seats : AreSeats queues first count seats
  fresh_seats = record {
    many = f.many;
    seat = λ p v at.
        let e : (q : Queue) × (slice_get queues p ≡ Some q) × IsFreshSeat q first count p v = f.each p v at in
        record { own = record { queue = e.0; here = e.1; own = e.2.queue }; senders = e.2.senders; role = e.2.role };
    no_put = λ s p out. no_put s p;
    no_take = λ p out. no_taken p;
  }

index_map : (g : Running → ℕ) (crew : List Running) (p : ℕ) (r : Running) → slice_get crew p ≡ Some r → slice_index_or (map g crew) p 0 ≡ g r
index_map g [] p r h = cc
index_map g (x ∷ xs) zero r h = ap g (same_Some x r h)
index_map g (x ∷ xs) (suc p) r h = index_map g xs p r h

module _ (script : Program) (policy : Policy) (crew : List Running) (queues : List Queue) (law : IsLawfulCrew script crew) where
  -- the number of the first signal of each process is the one after those that it had sent
  pub first_is : (p : ℕ) (q : Queue) → IsQueueOf policy crew p q → p < length crew → (s : ℕ) (r : Running) → slice_get crew s ≡ Some r → first_of q.setup s ≡ length (went p r) + 1
  first_is p q is lt s r at =
      ap (λ (z : List ℕ). slice_index_or z s 0) is.first ∙ index_map (λ (z : Running). slice_index z.state.counts.next_numbers p) crew s r at
      ∙ (law.numbered s r at).next p (subst (λ n. p < n) (sym (law.placed s r at).1) lt)

  -- where all outboxes are empty, what came to each process of another is what that sent to it
  pub pair_clear : IsClear crew → (s t : ℕ) (a b : Running) → s ≢ t → slice_get crew s ≡ Some a → slice_get crew t ≡ Some b → came s b ≡ went t a
  pair_clear clear s t a b ne at_s at_t =
      sym (append-nil (came s b))
      ∙ ap (λ z. came s b ++ bound_for t z) (sym (clear_at crew s a at_s clear))
      ∙ subst (λ o. came_to s (Some b) ++ left_for t o ≡ went_from t o) at_s (subst (λ o. came_to s o ++ left_for t (slice_get crew s) ≡ went_from t (slice_get crew s)) at_t (law.pairs s t ne))

module _ (script : Program) (policy : Policy) (crew : List Running) (queues : List Queue) (law : IsLawfulCrew script crew) (few : length crew ≤ 256) (clear : IsClear crew) (same : length queues ≡ length crew)
    (each : (p : ℕ) (q : Queue) → slice_get queues p ≡ Some q → IsQueueOf policy crew p q) (first count : ℕ) (seats : List Seated) (f : AreFresh queues first count seats) (within : first + count ≤ length crew) where
  module _ (i : ℕ) (r : Running) (below : i < count) (at : slice_get crew (first + i) ≡ Some r) where
    abbrev pid : ℕ
    pid = first + i

    placed : (r.pid ≡ pid) × (r.count ≡ length crew)
    placed = law.placed pid r at

    inside : is_in first count pid ≡ true
    inside = in_part first count i below

    in_crew : pid < length crew
    in_crew = slice_get_within crew pid r at

    empty : r.outbox ≡ []
    empty = clear_at crew pid r at clear

    all_in : (s : ℕ) → s < length crew → is_in 0 (length crew) s ≡ true
    all_in s lt = (let e : 0 + s ≡ s = omega arith in subst (λ z. is_in 0 (length crew) z ≡ true) e (in_part 0 (length crew) s lt))

    puts_fresh : (p : ℕ) (v : Seated) → p ≢ pid → slice_get seats p ≡ Some v → PutsFor queues pid p r v
    puts_fresh p v ne there =
        let e : (q : Queue) × (slice_get queues p ≡ Some q) × IsFreshSeat q first count p v = f.each p v there in
        let q : IsQueueOf policy crew p e.0 = each p e.0 e.1 in
        let lt : p < length crew = (let z : p < length queues = slice_get_within queues p e.0 e.1 in omega (arith, z, same)) in
        record {
          queue = e.0;
          here = e.1;
          own = e.2.queue;
          sender = e.2.senders pid ∙ ap (λ z. z && not (pid == p)) inside ∙ ap (λ z. not z) (ne_eqb pid p (λ k. ne (sym k)));
          asked = q.senders pid ∙ ap (λ z. z && not (pid == p)) (all_in pid in_crew) ∙ ap (λ z. not z) (ne_eqb pid p (λ k. ne (sym k)));
          receiver = q.receiver;
          count = q.count ∙ sym placed.1;
          sent = (
            went p r,
            sym (ap (λ z. went p r ++ bound_for p z) empty ∙ append-nil (went p r)),
            sym (first_is script policy crew queues law p e.0 q lt pid r at) ∙ (let z : first_of e.0.setup pid ≡ first_of e.0.setup pid + 0 = omega arith in z)
                ∙ ap (λ z. first_of e.0.setup pid + length (coming_from pid (signals z))) (sym e.2.put),
          );
        }

    takes_fresh : (v : Seated) → slice_get seats pid ≡ Some v → TakesFor queues pid r v
    takes_fresh v there =
        let e : (q : Queue) × (slice_get queues pid ≡ Some q) × IsFreshSeat q first count pid v = f.each pid v there in
        let q : IsQueueOf policy crew pid e.0 = each pid e.0 e.1 in
        record {
          queue = e.0;
          here = e.1;
          own = e.2.queue;
          role = e.2.role ∙ inside;
          receiver = q.receiver;
          count = q.count ∙ sym placed.1;
          strange = q.senders pid ∙ ap (λ z. is_in 0 (length crew) pid && not z) (eq-eqb pid pid refl) ∙ and_false (is_in 0 (length crew) pid);
          continued = λ s asks.
              let in_set : (is_in 0 (length crew) s && not (s == pid)) ≡ true = sym (q.senders s) ∙ asks in
              let lt : s < length crew = in_below (length crew) s (not (s == pid)) in_set in
              let a : (x : Running) × (slice_get crew s ≡ Some x) = some_at crew s lt in
              ap (λ (z : List Signal). length z + 1) (pair_clear script policy crew queues law clear s pid a.0 r (apart s (is_in 0 (length crew) s) in_set) a.1 at)
              ∙ sym (first_is script policy crew queues law pid e.0 q in_crew s a.0 a.1) ∙ (let z : first_of e.0.setup s ≡ first_of e.0.setup s + 0 = omega arith in z)
              ∙ ap (λ z. first_of e.0.setup s + length (coming_from s z)) (sym e.2.taken);
        }
      where
        and_false : (a : Bool) → (a && false) ≡ false
        and_false true = refl
        and_false false = refl

        apart : (s : ℕ) (b : Bool) → (b && not (s == pid)) ≡ true → s ≢ pid
        apart s true h e = (let g : not (s == pid) ≡ false = ap (λ z. not z) (eq-eqb s pid e) in let k : true ≡ false = sym h ∙ g in absurd cc)
        apart s false h e = cc

    fresh_ready : IsReady queues pid r seats
    fresh_ready = record {
      pid_is = placed.0;
      keeping = law.keeping pid r at;
      many = f.many;
      count = placed.1 ∙ sym same;
      few = omega (arith, same, few);
      puts = puts_fresh;
      takes = takes_fresh;
    }

    fresh_gone : HasGone pid r r seats
    fresh_gone = record {
      clear = empty;
      on = record {
        count = refl;
        turns = refl;
        proc = refl;
        events = ([], sym (append-nil r.events));
        stamp = omega arith;
        later = λ lt. absurd (let z : ⊥ = omega (arith, lt) in z);
      };
      came = λ s ne. sym (ap (λ z. came s r ++ coming_from s z) (no_taken queues first count seats f pid) ∙ append-nil (came s r));
      went = λ p ne.
          sym (ap (λ z. (went p r ++ z) ++ bound_for p r.outbox) (no_put queues first count seats f pid p) ∙ ap (λ z. (went p r ++ []) ++ bound_for p z) empty
          ∙ append-nil (went p r ++ []) ∙ append-nil (went p r));
      still = λ e. sym (ap (λ z. record r { taken_in = r.taken_in ++ z }) (no_taken queues first count seats f pid) ∙ ap (λ z. record r { taken_in = z }) (append-nil r.taken_in));
    }

    pub fresh_place : HasPlace queues crew seats pid r
    fresh_place = record { ready = fresh_ready; clear = empty; was = r; there = at; gone = fresh_gone }
