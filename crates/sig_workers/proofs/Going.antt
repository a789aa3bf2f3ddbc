-- A process and its seats go on: by an event, by a put, by what is taken in, and by several of these.
use Rattle.std.proofs.Common.{◌≡◌, ◌≢◌, ℕ, ◌+◌, ◌<◌, List, [], ◌∷◌, ◌++◌, length, true, false, cond, Some, refl, sym, ap, ◌∙◌, subst, inl, inr, arith, length-append, length-set, append_assoc}
use Rattle.std.specs.Prelude.{◌==◌, slice_get, slice_set}
use Rattle.std.proofs.lemmas.Bool.{eq-eqb, ne_eqb}
use Rattle.std.proofs.lemmas.Bool.Decides.{eqb_tells}
use Rattle.std.proofs.lemmas.Option.{same_Some}
use Rattle.std.proofs.lemmas.List.{append-nil}
use Rattle.std.proofs.lemmas.List.Elements.{filter-append}
use Rattle.sig_runs.proofs.Lists.{slice_get-set_same, slice_get-set_other}
use Rattle.sig_kinds.specs.declared.signal.Signal.{Signal}
use Rattle.sig_model.specs.declared.event.Event.{Event}
use Rattle.sig_model.specs.Running.{Running}
use Rattle.sig_model.specs.Keeping.{IsKeeping}
use Rattle.sig_queue.specs.Seats.{Queue, Seated}
use Rattle.sig_layout.specs.declared.item.Item.{Item}
use Rattle.sig_layout.specs.Sets.{has}
use Rattle.sig_layout.specs.Sent.{signals}
use Rattle.sig_model.specs.Accounts.{sent_by, came, went, bound_for, coming_from}
use Rattle.sig_workers.specs.SeatAccounts.{put_in, put_by, taken_in, taken_at}
use Rattle.sig_workers.specs.Gone.{HasGoneOn, HasGone, HasSent, PutsFor, Continued, TakesFor, IsReady, IsSameSeat, KeepOthers, Goes}
use Rattle.sig_layout.specs.Openings.{first_of}
use Rattle.sig_layout.proofs.Sending.{signals-append}
use Rattle.sig_workers.proofs.OneEvent.{IsOneEvent}

-- other signals wait for it, and leave it
lists_on : (b r : Running) (taken out : List Signal) → HasGoneOn b r → HasGoneOn b (record r { taken_in = taken; outbox = out })
lists_on b r taken out g = record { count = g.count; turns = g.turns; proc = g.proc; events = g.events; stamp = g.stamp; later = g.later }

keep_refl : (pid : ℕ) (seats : List Seated) → KeepOthers pid seats seats
keep_refl pid seats = record {
  many = refl;
  seat = λ p w at. (w, at, record { queue = refl; senders = refl; role = refl });
  puts = λ s p ne. refl;
  takes = λ p ne. refl;
}

keep_trans : (pid : ℕ) (a b c : List Seated) → KeepOthers pid a b → KeepOthers pid b c → KeepOthers pid a c
keep_trans pid a b c h k = record {
  many = k.many ∙ h.many;
  seat = λ p w at.
      let m : (v : Seated) × (slice_get b p ≡ Some v) × IsSameSeat v w = k.seat p w at in
      let n : (v : Seated) × (slice_get a p ≡ Some v) × IsSameSeat v m.0 = h.seat p m.0 m.1 in
      (n.0, n.1, record { queue = m.2.queue ∙ n.2.queue; senders = m.2.senders ∙ n.2.senders; role = m.2.role ∙ n.2.role });
  puts = λ s p ne. k.puts s p ne ∙ h.puts s p ne;
  takes = λ p ne. k.takes p ne ∙ h.takes p ne;
}

pub goes_refl : (queues : List Queue) (pid : ℕ) (r : Running) (seats : List Seated) → IsReady queues pid r seats → Goes queues pid r seats r seats
goes_refl queues pid r seats h = record { ready = h; others = keep_refl pid seats; gone = λ b g. g; events = omega arith }

pub goes_trans : (queues : List Queue) (pid : ℕ) (r t u : Running) (a b c : List Seated) → Goes queues pid r a t b → Goes queues pid t b u c → Goes queues pid r a u c
goes_trans queues pid r t u a b c h k = record {
  ready = k.ready;
  others = keep_trans pid a b c h.others k.others;
  gone = λ base g. k.gone base (h.gone base g);
  events = omega (arith, h.events, k.events);
}

-- a list longer by one is not as long as a beginning of it
longer : (base old new more : List Event) (e : Event) → old ≡ base ++ more → new ≡ old ++ e ∷ [] → length base < length new
longer base old new more e o n =
    let a : length old ≡ length base + length more = ap (λ (z : List Event). length z) o ∙ length-append base more in
    let b : length new ≡ length old + 1 = ap (λ (z : List Event). length z) n ∙ length-append old (e ∷ []) in
    omega (arith, a, b)

module _ (queues : List Queue) (pid : ℕ) (r : Running) (seats : List Seated) (h : IsReady queues pid r seats) where
  -- a sender of the queue isn't its receiver
  not_own : {v : Seated} (f : TakesFor queues pid r v) (s : ℕ) → has f.queue.setup.senders s ≡ true → s ≢ pid
  not_own f s asks e = (let no : true ≡ false = sym asks ∙ ap (λ z. has f.queue.setup.senders z) e ∙ f.strange in absurd cc)

  -- an event
  module _ (t : Running) (e : IsOneEvent r t) where
    at_pid : (s : ℕ) → s ≢ pid → s ≢ r.pid
    at_pid s ne q = ne (q ∙ h.pid_is)

    event_ready : IsReady queues pid t seats
    event_ready = record {
      pid_is = e.pid ∙ h.pid_is;
      keeping = e.keeping;
      many = h.many;
      count = e.count ∙ h.count;
      few = h.few;
      puts = λ p v ne at.
          let f : PutsFor queues pid p r v = h.puts p v ne at in
          record {
            queue = f.queue;
            here = f.here;
            own = f.own;
            sender = f.sender;
            asked = f.asked;
            receiver = f.receiver;
            count = f.count ∙ sym e.count;
            sent = (
              f.sent.0,
              e.went p ∙ ap (λ z. z ++ bound_for p e.sends) f.sent.1 ∙ append_assoc f.sent.0 (bound_for p r.outbox) (bound_for p e.sends) ∙ ap (λ z. f.sent.0 ++ z) (sym (e.outbox p (at_pid p ne))),
              f.sent.2,
            );
          };
      takes = λ v at.
          let f : TakesFor queues pid r v = h.takes v at in
          record {
            queue = f.queue;
            here = f.here;
            own = f.own;
            role = f.role;
            receiver = f.receiver;
            count = f.count ∙ sym e.count;
            strange = f.strange;
            continued = λ s asks. ap (λ (z : List Signal). length z + 1) (e.came s (at_pid s (not_own f s asks))) ∙ f.continued s asks;
          };
    }

    event_gone : (b : Running) → HasGone pid b r seats → HasGone pid b t seats
    event_gone b g = record {
      clear = g.clear;
      on = record {
        count = e.count ∙ g.on.count;
        turns = e.turns ∙ g.on.turns;
        proc = e.proc ∙ g.on.proc;
        events = (g.on.events.0 ++ e.event ∷ [], e.events ∙ ap (λ z. z ++ e.event ∷ []) g.on.events.1 ∙ append_assoc b.events g.on.events.0 (e.event ∷ []));
        stamp = omega (arith, e.stamp, g.on.stamp);
        later = λ _. omega (arith, e.stamp, g.on.stamp);
      };
      came = λ s ne. e.came s (at_pid s ne) ∙ g.came s ne;
      went = λ p ne.
          e.went p ∙ ap (λ z. z ++ bound_for p e.sends) (g.went p ne) ∙ append_assoc (went p b ++ put_by pid p seats) (bound_for p r.outbox) (bound_for p e.sends)
          ∙ ap (λ z. (went p b ++ put_by pid p seats) ++ z) (sym (e.outbox p (at_pid p ne)));
      still = λ same. absurd (let lt : length b.events < length t.events = longer b.events r.events t.events g.on.events.0 e.event g.on.events.1 e.events in let f : ⊥ = omega (arith, lt, same) in f);
    }

    pub goes_event : Goes queues pid r seats t seats
    goes_event = record { ready = event_ready; others = keep_refl pid seats; gone = event_gone; events = (let n : length t.events ≡ length r.events + 1 = ap (λ (z : List Event). length z) e.events ∙ length-append r.events (e.event ∷ []) in omega (arith, n)) }

  -- one seat is another
  module _ (p : ℕ) (v w : Seated) (there : slice_get seats p ≡ Some v) (same : IsSameSeat v w) where
    abbrev later : List Seated
    later = slice_set seats p w

    here : slice_get later p ≡ Some w
    here = slice_get-set_same seats p w v there

    elsewhere : (q : ℕ) → p ≢ q → slice_get later q ≡ slice_get seats q
    elsewhere q ne = slice_get-set_other seats p q w ne

    seat_before : (q : ℕ) (u : Seated) → slice_get later q ≡ Some u → (y : Seated) × (slice_get seats q ≡ Some y) × IsSameSeat y u
    seat_before q u at = elim (eqb_tells p q) [
      | inl a ↦ (
        v,
        subst (λ z. slice_get seats z ≡ Some v) a.1 there,
        subst (λ z. IsSameSeat v z) (same_Some w u (sym here ∙ ap (λ z. slice_get later z) a.1 ∙ at)) same,
      )
      | inr a ↦ (u, sym (elsewhere q a.1) ∙ at, record { queue = refl; senders = refl; role = refl })
    ]

    put_here : (s : ℕ) → put_by s p later ≡ coming_from s (signals w.knows.put)
    put_here s = ap (λ o. put_in s o) here

    put_there : (s : ℕ) → put_by s p seats ≡ coming_from s (signals v.knows.put)
    put_there s = ap (λ o. put_in s o) there

    put_elsewhere : (s q : ℕ) → p ≢ q → put_by s q later ≡ put_by s q seats
    put_elsewhere s q ne = ap (λ o. put_in s o) (elsewhere q ne)

    taken_here : taken_at p later ≡ w.knows.taken
    taken_here = ap (λ o. taken_in o) here

    taken_there : taken_at p seats ≡ v.knows.taken
    taken_there = ap (λ o. taken_in o) there

    taken_elsewhere : (q : ℕ) → p ≢ q → taken_at q later ≡ taken_at q seats
    taken_elsewhere q ne = ap (λ o. taken_in o) (elsewhere q ne)

    same_puts : w.knows.put ≡ v.knows.put → (s q : ℕ) → put_by s q later ≡ put_by s q seats
    same_puts e s q = elim (eqb_tells p q) [
      | inl a ↦ subst (λ z. put_by s z later ≡ put_by s z seats) a.1 (put_here s ∙ ap (λ z. coming_from s (signals z)) e ∙ sym (put_there s))
      | inr a ↦ put_elsewhere s q a.1
    ]

    same_takes : w.knows.taken ≡ v.knows.taken → (q : ℕ) → taken_at q later ≡ taken_at q seats
    same_takes e q = elim (eqb_tells p q) [
      | inl a ↦ subst (λ z. taken_at z later ≡ taken_at z seats) a.1 (taken_here ∙ e ∙ sym taken_there)
      | inr a ↦ taken_elsewhere q a.1
    ]

    puts_again : (t : Running) → t.count ≡ r.count → (q : ℕ) → ((y : Seated) → slice_get later q ≡ Some y → (n : ℕ) → ((z : Seated) → slice_get seats q ≡ Some z → HasSent q r n (length (coming_from pid (signals z.knows.put)))) → HasSent q t n (length (coming_from pid (signals y.knows.put)))) →
        (y : Seated) → q ≢ pid → slice_get later q ≡ Some y → PutsFor queues pid q t y
    puts_again t count q sent y ne at =
        let m : (z : Seated) × (slice_get seats q ≡ Some z) × IsSameSeat z y = seat_before q y at in
        let f : PutsFor queues pid q r m.0 = h.puts q m.0 ne m.1 in
        record {
          queue = f.queue;
          here = f.here;
          own = m.2.queue ∙ f.own;
          sender = ap (λ z. has z pid) m.2.senders ∙ f.sender;
          asked = f.asked;
          receiver = f.receiver;
          count = f.count ∙ sym count;
          sent = sent y at (first_of f.queue.setup pid) (λ z there. subst (λ (k : Seated). HasSent q r (first_of f.queue.setup pid) (length (coming_from pid (signals k.knows.put)))) (same_Some m.0 z (sym m.1 ∙ there)) f.sent);
        }

    takes_again : (t : Running) → t.count ≡ r.count → ((y z : Seated) → slice_get later pid ≡ Some y → slice_get seats pid ≡ Some z → (q : Queue) → has q.setup.senders pid ≡ false → Continued q r z → Continued q t y) → (y : Seated) → slice_get later pid ≡ Some y → TakesFor queues pid t y
    takes_again t count goes_on y at =
        let m : (z : Seated) × (slice_get seats pid ≡ Some z) × IsSameSeat z y = seat_before pid y at in
        let f : TakesFor queues pid r m.0 = h.takes m.0 m.1 in
        record {
          queue = f.queue;
          here = f.here;
          own = m.2.queue ∙ f.own;
          role = m.2.role ∙ f.role;
          receiver = f.receiver;
          count = f.count ∙ sym count;
          strange = f.strange;
          continued = goes_on y m.0 at m.1 f.queue f.strange f.continued;
        }

    -- where a seat took nothing more, and nothing came, all goes on as before
    continued_again : (t : Running) → w.knows.taken ≡ v.knows.taken → ((s : ℕ) → came s t ≡ came s r) → (y z : Seated) → slice_get later pid ≡ Some y → slice_get seats pid ≡ Some z → (q : Queue) → has q.setup.senders pid ≡ false → Continued q r z → Continued q t y
    continued_again t taken came_is y z at was q strange old s asks =
        ap (λ (l : List Signal). length l + 1) (came_is s) ∙ old s asks
        ∙ ap (λ (l : List Signal). first_of q.setup s + length (coming_from s l)) (ap (λ o. taken_in o) (sym was) ∙ sym (same_takes taken pid) ∙ ap (λ o. taken_in o) at)

    -- where a seat put nothing more, what was sent stands as before
    sent_again : (t : Running) → w.knows.put ≡ v.knows.put → ((q : ℕ) → went q t ≡ went q r) → t.outbox ≡ r.outbox → (q : ℕ) → (y : Seated) → slice_get later q ≡ Some y → (n : ℕ) → ((z : Seated) → slice_get seats q ≡ Some z → HasSent q r n (length (coming_from pid (signals z.knows.put)))) →
        HasSent q t n (length (coming_from pid (signals y.knows.put)))
    sent_again t put went_is out q y at n old =
        let m : (z : Seated) × (slice_get seats q ≡ Some z) × IsSameSeat z y = seat_before q y at in
        let f : HasSent q r n (length (coming_from pid (signals m.0.knows.put))) = old m.0 m.1 in
        let now : put_by pid q later ≡ coming_from pid (signals y.knows.put) = ap (λ o. put_in pid o) at in
        let was : put_by pid q seats ≡ coming_from pid (signals m.0.knows.put) = ap (λ o. put_in pid o) m.1 in (
          f.0,
          went_is q ∙ f.1 ∙ ap (λ z. f.0 ++ bound_for q z) (sym out),
          f.2 ∙ ap (λ (z : List Signal). n + length z) (sym was ∙ sym (same_puts put pid q) ∙ now),
        )

  -- the seat of its own queue took these, and they were taken in
  module _ (v w : Seated) (there : slice_get seats pid ≡ Some v) (same : IsSameSeat v w) (xs : List Signal) (put : w.knows.put ≡ v.knows.put) (taken : w.knows.taken ≡ v.knows.taken ++ xs) where
    abbrev t : Running
    t = record r { taken_in = r.taken_in ++ xs }

    abbrev then_seats : List Seated
    then_seats = slice_set seats pid w

    taken_now : taken_at pid then_seats ≡ taken_at pid seats ++ xs
    taken_now = taken_here pid v w there same ∙ taken ∙ ap (λ z. z ++ xs) (sym (taken_there pid v w there same))

    went_same : (q : ℕ) → went q t ≡ went q r
    unfolding sent_by
    went_same q = refl

    came_more : (s : ℕ) → came s t ≡ came s r ++ coming_from s xs
    came_more s =
        ap (coming_from s) (sym (append_assoc r.handled r.taken_in xs)) ∙ filter-append (λ (x : Signal). x.from.0 == s) (r.handled ++ r.taken_in) xs

    continued_more : (y z : Seated) → slice_get then_seats pid ≡ Some y → slice_get seats pid ≡ Some z → (q : Queue) → has q.setup.senders pid ≡ false → Continued q r z → Continued q t y
    continued_more y z at was q strange old s asks =
        let a : length (came s t) ≡ length (came s r) + length (coming_from s xs) = ap (λ (l : List Signal). length l) (came_more s) ∙ length-append (came s r) (coming_from s xs) in
        let now : y.knows.taken ≡ z.knows.taken ++ xs = ap (λ o. taken_in o) (sym at) ∙ taken_now ∙ ap (λ o. taken_in o ++ xs) was in
        let b : length (coming_from s y.knows.taken) ≡ length (coming_from s z.knows.taken) + length (coming_from s xs) =
        ap (λ (l : List Signal). length (coming_from s l)) now ∙ ap (λ (l : List Signal). length l) (filter-append (λ (x : Signal). x.from.0 == s) z.knows.taken xs) ∙ length-append (coming_from s z.knows.taken) (coming_from s xs) in
        omega (arith, a, b, old s asks)

    take_ready : IsKeeping t → IsReady queues pid t then_seats
    take_ready keeps = record {
      pid_is = h.pid_is;
      keeping = keeps;
      many = length-set seats pid w ∙ h.many;
      count = h.count;
      few = h.few;
      puts = λ q y ne at. puts_again pid v w there same t refl q (sent_again pid v w there same t put went_same refl q) y ne at;
      takes = takes_again pid v w there same t refl continued_more;
    }

    take_gone : (b : Running) → HasGone pid b r seats → HasGone pid b t then_seats
    take_gone b g = record {
      clear = g.clear;
      on = lists_on b r (r.taken_in ++ xs) r.outbox g.on;
      came = λ s ne.
          came_more s
          ∙ ap (λ z. z ++ coming_from s xs) (g.came s ne)
          ∙ append_assoc (came s b) (coming_from s (taken_at pid seats)) (coming_from s xs)
          ∙ ap (λ z. came s b ++ z) (sym (filter-append (λ (x : Signal). x.from.0 == s) (taken_at pid seats) xs))
          ∙ ap (λ z. came s b ++ coming_from s z) (sym taken_now);
      went = λ p ne. went_same p ∙ g.went p ne ∙ ap (λ z. (went p b ++ z) ++ bound_for p r.outbox) (sym (same_puts pid v w there same put pid p));
      still = λ e.
          ap (λ (z : Running). record z { taken_in = z.taken_in ++ xs }) (g.still e)
          ∙ ap (λ z. record b { taken_in = z }) (append_assoc b.taken_in (taken_at pid seats) xs ∙ ap (λ z. b.taken_in ++ z) (sym taken_now));
    }

    pub goes_take : IsKeeping t → Goes queues pid r seats t then_seats
    goes_take keeps = record {
      ready = take_ready keeps;
      others = record {
        many = length-set seats pid w;
        seat = seat_before pid v w there same;
        puts = λ s p ne. same_puts pid v w there same put s p;
        takes = λ p ne. taken_elsewhere pid v w there same p (λ q. ne (sym q));
      };
      gone = take_gone;
      events = omega arith;
    }

-- a signal leaves the outbox and is put
module _ (queues : List Queue) (pid : ℕ) (t : Running) (x : Signal) (seats : List Seated) where
  abbrev r : Running
  r = record t { outbox = x ∷ t.outbox }

  module _ (h : IsReady queues pid r seats) (p : ℕ) (v w : Seated) (there : slice_get seats p ≡ Some v) (same : IsSameSeat v w)
      (from : x.from.0 ≡ pid) (to : x.to.0 ≡ p) (apart : p ≢ pid) (passed : Item) (signal : passed.signal ≡ x) (put : w.knows.put ≡ v.knows.put ++ passed ∷ []) (taken : w.knows.taken ≡ v.knows.taken) where
    abbrev put_seats : List Seated
    put_seats = slice_set seats p w

    went_kept : (q : ℕ) → went q t ≡ went q r
    unfolding sent_by
    went_kept q = refl

    put_more : signals w.knows.put ≡ signals v.knows.put ++ x ∷ []
    put_more = ap (λ z. signals z) put ∙ signals-append v.knows.put (passed ∷ []) ∙ ap (λ z. signals v.knows.put ++ z ∷ []) signal

    mine : coming_from pid (x ∷ []) ≡ x ∷ []
    mine = ap (λ c. cond c (x ∷ []) []) (eq-eqb x.from.0 pid from)

    put_now : coming_from pid (signals w.knows.put) ≡ coming_from pid (signals v.knows.put) ++ x ∷ []
    put_now = ap (λ z. coming_from pid z) put_more ∙ filter-append (λ (y : Signal). y.from.0 == pid) (signals v.knows.put) (x ∷ []) ∙ ap (λ z. coming_from pid (signals v.knows.put) ++ z) mine

    first_bound : bound_for p (x ∷ t.outbox) ≡ x ∷ bound_for p t.outbox
    first_bound = ap (λ c. cond c (x ∷ bound_for p t.outbox) (bound_for p t.outbox)) (eq-eqb x.to.0 p to)

    first_other : (q : ℕ) → p ≢ q → bound_for q (x ∷ t.outbox) ≡ bound_for q t.outbox
    first_other q ne = ap (λ c. cond c (x ∷ bound_for q t.outbox) (bound_for q t.outbox)) (ne_eqb x.to.0 q (λ e. ne (sym to ∙ e)))

    abbrev SentAt : ℕ → Seated → ℕ → Type 0
    SentAt q y n = HasSent q t n (length (coming_from pid (signals y.knows.put)))

    sent_now : (q : ℕ) (y : Seated) → slice_get put_seats q ≡ Some y → (n : ℕ) → ((z : Seated) → slice_get seats q ≡ Some z → HasSent q r n (length (coming_from pid (signals z.knows.put)))) → SentAt q y n
    sent_now q y at n old = elim (eqb_tells p q) [
      | inl a ↦ subst (λ z. SentAt z y n) a.1 (subst (λ z. SentAt p z n) (same_Some w y (sym (here queues pid r seats h p v w there same) ∙ ap (λ z. slice_get put_seats z) a.1 ∙ at)) (at_place (subst (λ z. HasSent z r n (length (coming_from pid (signals v.knows.put)))) (sym a.1) (old v (subst (λ z. slice_get seats z ≡ Some v) a.1 there)))))
      | inr a ↦ (
          let f : HasSent q r n (length (coming_from pid (signals y.knows.put))) = old y (sym (elsewhere queues pid r seats h p v w there same q a.1) ∙ at) in (f.0, went_kept q ∙ f.1 ∙ ap (λ z. f.0 ++ z) (first_other q a.1), f.2)
          )
    ]
      where
        at_place : HasSent p r n (length (coming_from pid (signals v.knows.put))) → SentAt p w n
        at_place f = (
          f.0 ++ x ∷ [],
          went_kept p ∙ f.1 ∙ ap (λ z. f.0 ++ z) first_bound ∙ sym (append_assoc f.0 (x ∷ []) (bound_for p t.outbox)),
          (let a : length (f.0 ++ x ∷ []) ≡ length f.0 + 1 = length-append f.0 (x ∷ []) in
              let m : length (coming_from pid (signals w.knows.put)) ≡ length (coming_from pid (signals v.knows.put)) + 1 = ap (λ (z : List Signal). length z) put_now ∙ length-append (coming_from pid (signals v.knows.put)) (x ∷ []) in
              omega (arith, a, m, f.2)),
        )

    put_ready : IsKeeping t → IsReady queues pid t put_seats
    put_ready keeps = record {
      pid_is = h.pid_is;
      keeping = keeps;
      many = length-set seats p w ∙ h.many;
      count = h.count;
      few = h.few;
      puts = λ q y ne at. puts_again queues pid r seats h p v w there same t refl q (sent_now q) y ne at;
      takes = takes_again queues pid r seats h p v w there same t refl (continued_again queues pid r seats h p v w there same t taken (λ s. refl));
    }

    put_by_now : (q : ℕ) → q ≢ pid → put_by pid q put_seats ++ bound_for q t.outbox ≡ put_by pid q seats ++ bound_for q (x ∷ t.outbox)
    put_by_now q ne = elim (eqb_tells p q) [
      | inl a ↦ subst (λ z. put_by pid z put_seats ++ bound_for z t.outbox ≡ put_by pid z seats ++ bound_for z (x ∷ t.outbox)) a.1 at_place
      | inr a ↦ (ap (λ z. z ++ bound_for q t.outbox) (put_elsewhere queues pid r seats h p v w there same pid q a.1) ∙ ap (λ z. put_by pid q seats ++ z) (sym (first_other q a.1)))
    ]
      where
        at_place : put_by pid p put_seats ++ bound_for p t.outbox ≡ put_by pid p seats ++ bound_for p (x ∷ t.outbox)
        at_place =
            ap (λ z. z ++ bound_for p t.outbox) (put_here queues pid r seats h p v w there same pid ∙ put_now ∙ ap (λ z. z ++ x ∷ []) (sym (put_there queues pid r seats h p v w there same pid)))
            ∙ append_assoc (put_by pid p seats) (x ∷ []) (bound_for p t.outbox)
            ∙ ap (λ z. put_by pid p seats ++ z) (sym first_bound)

    put_gone : (b : Running) → HasGone pid b r seats → HasGone pid b t put_seats
    put_gone b g = record {
      clear = g.clear;
      on = lists_on b r r.taken_in t.outbox g.on;
      came = λ s ne. g.came s ne ∙ ap (λ z. came s b ++ coming_from s z) (sym (same_takes queues pid r seats h p v w there same taken pid));
      went = λ q ne.
          went_kept q ∙ g.went q ne ∙ append_assoc (went q b) (put_by pid q seats) (bound_for q (x ∷ t.outbox))
          ∙ ap (λ z. went q b ++ z) (sym (put_by_now q ne)) ∙ sym (append_assoc (went q b) (put_by pid q put_seats) (bound_for q t.outbox));
      still = λ e.
          let q : x ∷ t.outbox ≡ [] = ap (λ (z : Running). z.outbox) (g.still e) ∙ g.clear in
          absurd cc;
    }

    put_others : KeepOthers pid seats put_seats
    put_others = record {
      many = length-set seats p w;
      seat = seat_before queues pid r seats h p v w there same;
      puts = λ s q ne. elim (eqb_tells p q) [
        | inl a ↦ subst (λ z. put_by s z put_seats ≡ put_by s z seats) a.1
            (put_here queues pid r seats h p v w there same s ∙ ap (λ z. coming_from s z) put_more ∙ filter-append (λ (y : Signal). y.from.0 == s) (signals v.knows.put) (x ∷ [])
            ∙ ap (λ c. coming_from s (signals v.knows.put) ++ cond c (x ∷ []) []) (ne_eqb x.from.0 s (λ e. ne (sym e ∙ from))) ∙ append-nil (coming_from s (signals v.knows.put))
            ∙ sym (put_there queues pid r seats h p v w there same s))
        | inr a ↦ put_elsewhere queues pid r seats h p v w there same s q a.1
      ];
      takes = λ q ne. same_takes queues pid r seats h p v w there same taken q;
    }

    pub goes_put : IsKeeping t → Goes queues pid r seats t put_seats
    goes_put keeps = record { ready = put_ready keeps; others = put_others; gone = put_gone; events = omega arith }
