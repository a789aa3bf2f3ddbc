-- A visit of one process of a part leaves the others as ready as they were.
use Rattle.std.proofs.Common.{◌≡◌, ◌≢◌, ℕ, suc, ◌+◌, ◌<◌, ◌≤◌, List, [], ◌∷◌, ◌++◌, length, Bool, true, false, Some, refl, sym, ap, ◌∙◌, subst, inl, inr, arith, length-set, get_or}
use Rattle.std.specs.Prelude.{slice_get, slice_set}
use Rattle.std.proofs.lemmas.Bool.Decides.{eqb_tells, nat_tests}
use Rattle.std.specs.Option.{option_map}
use Rattle.std.proofs.lemmas.List.{map-set}
use Rattle.std.proofs.lemmas.Option.{same_Some, slice_get_within, slice_get-map, slice_get-get_or}
use Rattle.sig_runs.proofs.Lists.{slice_get-set_same, slice_get-set_other}
use Rattle.sig_kinds.specs.declared.signal.Signal.{Signal}
use Rattle.sig_model.specs.Running.{Running}
use Rattle.sig_queue.specs.Seats.{Queue, Seated}
use Rattle.sig_layout.specs.Sets.{has}
use Rattle.sig_layout.specs.Sent.{signals}
use Rattle.sig_model.specs.Accounts.{came, went, bound_for, coming_from}
use Rattle.sig_workers.specs.SeatAccounts.{put_in, taken_in}
use Rattle.sig_layout.specs.Openings.{first_of}
use Rattle.sig_process.specs.Standing.{Standing, runnings_of}
use Rattle.sig_workers.specs.Gone.{HasGone, PutsFor, TakesFor, IsReady, IsSameSeat, KeepOthers, Goes}
use Rattle.sig_workers.specs.Parts.{procs_of, base_of, is_in, IsSeat, AreSeats, LooksSame, HasPlace, IsPart, HasVisited}
use Rattle.sig_workers.specs.Visits.{HasMoved}
use Rattle.sig_workers.specs.declared.part.Part.{Part}

pub in_part : (first count at : ℕ) → at < count → is_in first count (first + at) ≡ true
unfolding is_in
in_part first count at lt = (grind (arith, nat_tests))

module _ (queues : List Queue) (pid : ℕ) (seats later : List Seated) (k : KeepOthers pid seats later) where
  seats_kept : (first count : ℕ) → is_in first count pid ≡ true → AreSeats queues first count seats → AreSeats queues first count later
  seats_kept first count inside a = record {
    many = k.many ∙ a.many;
    seat = λ p w at.
        let m : (v : Seated) × (slice_get seats p ≡ Some v) × IsSameSeat v w = k.seat p w at in
        let s : IsSeat queues first count p m.0 = a.seat p m.0 m.1 in
        record { own = record { queue = s.own.queue; here = s.own.here; own = m.2.queue ∙ s.own.own }; senders = λ q. ap (λ z. has z q) m.2.senders ∙ s.senders q; role = m.2.role ∙ s.role };
    no_put = λ s p out. k.puts s p (λ e. (let f : true ≡ false = sym inside ∙ ap (λ z. is_in first count z) (sym e) ∙ out in absurd cc)) ∙ a.no_put s p out;
    no_take = λ p out. k.takes p (λ e. (let f : true ≡ false = sym inside ∙ ap (λ z. is_in first count z) (sym e) ∙ out in absurd cc)) ∙ a.no_take p out;
  }

  pub looks_same : (q : ℕ) → q ≢ pid → LooksSame q seats later
  looks_same q apart = record {
    many = k.many;
    old = λ p w at. (k.seat p w at).0;
    there = λ p w at. (k.seat p w at).1;
    queue = λ p w at. (k.seat p w at).2.queue;
    sender = λ p w at h. ap (λ z. has z q) (k.seat p w at).2.senders ∙ h;
    role = λ w at h. (k.seat q w at).2.role ∙ h;
    puts = λ p. k.puts q p apart;
    takes = k.takes q apart;
  }

-- a process is as ready with other seats that look the same to it
module _ (queues : List Queue) (q : ℕ) (seats later : List Seated) (k : LooksSame q seats later) (r : Running) where
  ready_kept : IsReady queues q r seats → IsReady queues q r later
  ready_kept h = record {
    pid_is = h.pid_is;
    keeping = h.keeping;
    many = k.many ∙ h.many;
    count = h.count;
    few = h.few;
    puts = λ p w ne at.
        let v : Seated = k.old p w at in
        let f : PutsFor queues q p r v = h.puts p v ne (k.there p w at) in
        let same : coming_from q (signals w.knows.put) ≡ coming_from q (signals v.knows.put) = ap (λ o. put_in q o) (sym at) ∙ k.puts p ∙ ap (λ o. put_in q o) (k.there p w at) in
        record {
          queue = f.queue;
          here = f.here;
          own = k.queue p w at ∙ f.own;
          sender = k.sender p w at f.sender;
          asked = f.asked;
          receiver = f.receiver;
          count = f.count;
          sent = (f.sent.0, f.sent.1, f.sent.2 ∙ ap (λ (z : List Signal). first_of f.queue.setup q + length z) (sym same));
        };
    takes = λ w at.
        let v : Seated = k.old q w at in
        let f : TakesFor queues q r v = h.takes v (k.there q w at) in
        let same : w.knows.taken ≡ v.knows.taken = ap (λ o. taken_in o) (sym at) ∙ k.takes ∙ ap (λ o. taken_in o) (k.there q w at) in
        record {
          queue = f.queue;
          here = f.here;
          own = k.queue q w at ∙ f.own;
          role = k.role w at f.role;
          receiver = f.receiver;
          count = f.count;
          strange = f.strange;
          continued = λ s asks. f.continued s asks ∙ ap (λ (z : List Signal). first_of f.queue.setup s + length (coming_from s z)) (sym same);
        };
  }

  gone_kept : (b : Running) → HasGone q b r seats → HasGone q b r later
  gone_kept b g = record {
    clear = g.clear;
    on = g.on;
    came = λ s ne. g.came s ne ∙ ap (λ z. came s b ++ coming_from s z) (sym k.takes);
    went = λ p ne. g.went p ne ∙ ap (λ z. (went p b ++ z) ++ bound_for p r.outbox) (sym (k.puts p));
    still = λ e. g.still e ∙ ap (λ z. record b { taken_in = b.taken_in ++ z }) (sym k.takes);
  }

  pub place_kept : (base : List Running) → HasPlace queues base seats q r → HasPlace queues base later q r
  place_kept base h = record { ready = ready_kept h.ready; clear = h.clear; was = h.was; there = h.there; gone = gone_kept h.was h.gone }

-- the processes of a part after one was visited
module _ (queues : List Queue) (base : List Running) (first : ℕ) (procs : List Running) (seats : List Seated) (a : AreSeats queues first (length procs) seats)
    (each : (i : ℕ) (r : Running) → slice_get procs i ≡ Some r → HasPlace queues base seats (first + i) r) (at : ℕ) (r t : Running) (later : List Seated)
    (there : slice_get procs at ≡ Some r) (g : Goes queues (first + at) r seats t later) (clear : t.outbox ≡ []) where
  abbrev then_procs : List Running
  then_procs = slice_set procs at t

  pub visited_seats : AreSeats queues first (length then_procs) later
  visited_seats =
      subst (λ n. AreSeats queues first n later) (sym (length-set procs at t))
      (seats_kept queues (first + at) seats later g.others first (length procs) (in_part first (length procs) at (slice_get_within procs at r there)) a)

  moved_place : HasPlace queues base later (first + at) t
  moved_place = let h : HasPlace queues base seats (first + at) r = each at r there in record { ready = g.ready; clear = clear; was = h.was; there = h.there; gone = g.gone h.was h.gone }

  pub visited_procs : (i : ℕ) (q : Running) → slice_get then_procs i ≡ Some q → HasPlace queues base later (first + i) q
  visited_procs i q here = elim (eqb_tells at i) [
    | inl e ↦ subst (λ z. HasPlace queues base later (first + z) q) e.1
        (subst (λ z. HasPlace queues base later (first + at) z) (same_Some t q (sym (slice_get-set_same procs at t r there) ∙ ap (λ z. slice_get then_procs z) e.1 ∙ here)) moved_place)
    | inr e ↦ place_kept queues (first + i) seats later (looks_same queues (first + at) seats later g.others (first + i) (λ same. e.1 (let f : at ≡ i = omega (arith, same) in f))) q base (each i q (sym (slice_get-set_other procs at i t e.1) ∙ here))
  ]

pub many_running : (procs : List Standing) → length (runnings_of procs) ≡ length procs
many_running [] = refl
many_running (p ∷ ps) = ap suc (many_running ps)

-- a process that was read stands at its place
pub standing_at : (procs : List Standing) (i : ℕ) (p : Standing) → i < length procs → p ≡ get_or procs i p → slice_get procs i ≡ Some p
standing_at procs i p lt is = slice_get-get_or procs i p lt ∙ ap (λ z. Some z) (sym is)

pub running_at : (procs : List Standing) (i : ℕ) (p : Standing) → i < length procs → p ≡ get_or procs i p → slice_get (runnings_of procs) i ≡ Some p.running
running_at procs i p lt is =
    slice_get-map (λ (z : Standing). z.running) procs i ∙ ap (λ o. option_map (λ (z : Standing). z.running) o) (slice_get-get_or procs i p lt ∙ ap (λ z. Some z) (sym is))

-- a part after one of its processes was visited
module _ (queues : List Queue) (part later : Part) (h : IsPart queues part) (at : ℕ) (p q : Standing) (there : slice_get (procs_of part) at ≡ Some p.running)
    (first : later.first ≡ part.first) (base : base_of later ≡ base_of part) (set : later.procs.items ≡ slice_set part.procs.items at q) where
  procs_set : procs_of later ≡ slice_set (procs_of part) at q.running
  procs_set = ap (λ z. runnings_of z) set ∙ map-set (λ (z : Standing). z.running) part.procs.items at q

  pub visited_part : Goes queues (part.first + at) p.running part.seats.items q.running later.seats.items → q.running.outbox ≡ [] → IsPart queues later
  visited_part goes clear =
      let many : length (procs_of later) ≡ length (procs_of part) = ap (λ (z : List Running). length z) procs_set ∙ length-set (procs_of part) at q.running in
      record {
        few = h.few;
        within = subst (λ z. z + length (procs_of later) ≤ length queues) (sym first) (subst (λ n. part.first + n ≤ length queues) (sym many) h.within);
        seats = subst (λ z. AreSeats queues z (length (procs_of later)) later.seats.items) (sym first)
            (subst (λ (z : List Running). AreSeats queues part.first (length z) later.seats.items) (sym procs_set)
            (visited_seats queues (base_of part) part.first (procs_of part) part.seats.items h.seats h.procs at p.running q.running later.seats.items there goes clear));
        procs = λ i r here.
            subst (λ z. HasPlace queues (base_of later) later.seats.items (z + i) r) (sym first)
            (subst (λ z. HasPlace queues z later.seats.items (part.first + i) r) (sym base)
            (visited_procs queues (base_of part) part.first (procs_of part) part.seats.items h.seats h.procs at p.running q.running later.seats.items there goes clear i r
            (subst (λ z. slice_get z i ≡ Some r) procs_set here)));
      }

pub has_visited : (procs : List Standing) (at : ℕ) (p q : Standing) → slice_get (runnings_of procs) at ≡ Some p.running → length p.running.events ≤ length q.running.events → (moved : Bool) → HasMoved p.running q.running moved →
    HasVisited at (runnings_of procs) (runnings_of (slice_set procs at q)) moved
has_visited procs at p q there events moved m = record { old = p.running; there = there; new = q.running; set = map-set (λ (z : Standing). z.running) procs at q; moved_is = m; events = events }
