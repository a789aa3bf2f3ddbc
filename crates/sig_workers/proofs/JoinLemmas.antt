-- Two parts are joined.
use Rattle.std.proofs.Common.{◌≡◌, ℕ, zero, suc, ◌+◌, ◌<◌, ◌≤◌, List, [], ◌∷◌, ◌++◌, length, Bool, true, false, not, ◌&&◌, ◌||◌, Option, Some, None, refl, sym, ap, ◌∙◌, subst, inl, inr, ◌⊎◌, arith, length-append, nat_le, nat_lt}
use Rattle.std.specs.Prelude.{◌==◌, slice_get}
use Rattle.std.proofs.lemmas.Bool.Decides.{nat_tests}
use Rattle.std.proofs.lemmas.Option.{same_Some, slice_get_within, slice_get_past}
use Rattle.std.proofs.lemmas.List.{append-nil, map-append}
use Rattle.std.proofs.lemmas.List.Elements.{filter-append}
use Rattle.sig_kinds.specs.declared.signal.Signal.{Signal}
use Rattle.sig_model.specs.Running.{Running}
use Rattle.sig_queue.specs.Seats.{Queue, Seated}
use Rattle.sig_layout.specs.Sets.{has}
use Rattle.sig_layout.specs.Sent.{signals}
use Rattle.sig_layout.specs.declared.knows.Knows.{Knows}
use Rattle.sig_layout.proofs.Members.{has_plus}
use Rattle.sig_layout.proofs.Sending.{signals-append}
use Rattle.sig_process.specs.Standing.{Standing, runnings_of}
use Rattle.sig_model.specs.Accounts.{coming_from}
use Rattle.sig_workers.specs.SeatAccounts.{put_in, put_by, taken_in, taken_at}
use Rattle.std.specs.Prelude.{Result, Ok, Err, is_ok, OnOk, if◌then◌else◌}
use Rattle.sig_workers.specs.declared.part.Part.{Part}
use Rattle.sig_workers.specs.Parts.{procs_of, base_of, is_in, IsOwn, IsSeat, AreSeats, LooksSame, HasPlace, IsPart, IsJoined, AreJoined}
use Rattle.sig_workers.proofs.PartLemmas.{place_kept}

pub get_append : {X : Type 0} (xs ys : List X) (i : ℕ) (r : X) → slice_get (xs ++ ys) i ≡ Some r → (slice_get xs i ≡ Some r) ⊎ ((j : ℕ) × (i ≡ length xs + j) × (slice_get ys j ≡ Some r))
get_append [] ys i r h = inr (i, (let e : i ≡ 0 + i = omega arith in e), h)
get_append (x ∷ xs) ys zero r h = inl h
get_append (x ∷ xs) ys (suc i) r h = elim (get_append xs ys i r h) [
  | inl e ↦ inl e
  | inr w ↦ inr (w.0, (let e : suc i ≡ length (x ∷ xs) + w.0 = omega (arith, w.1) in e), w.2)
]

le_true : (a b : ℕ) → a ≤ b → nat_le a b ≡ true
le_true a b h = grind (arith, nat_tests)

lt_true : (a b : ℕ) → a < b → nat_lt a b ≡ true
lt_true a b h = grind (arith, nat_tests)

le_false : (a b : ℕ) → b < a → nat_le a b ≡ false
le_false a b h = grind (arith, nat_tests)

lt_false : (a b : ℕ) → b ≤ a → nat_lt a b ≡ false
lt_false a b h = grind (arith, nat_tests)

le_cases : (a b : ℕ) → (a ≤ b) ⊎ (b < a)
le_cases zero b = inl (omega arith)
le_cases (suc a) zero = inr (omega arith)
le_cases (suc a) (suc b) = elim (le_cases a b) [ inl h ↦ inl (omega (arith, h)) | inr h ↦ inr (omega (arith, h)) ]

module _ (f n m s : ℕ) where
  pub in_both : is_in f (n + m) s ≡ (is_in f n s || is_in (f + n) m s)
  unfolding is_in
  in_both = elim (le_cases f s) [
    | inr h ↦ (rw (le_false f s h, le_false (f + n) s (omega (arith, h))) refl)
    | inl h ↦ (elim (le_cases (f + n) s) [
      | inr k ↦ (rw (le_true f s h, lt_true s (f + n) k, lt_true s (f + (n + m)) (omega (arith, k))) refl)
      | inl k ↦ (rw (le_true f s h, lt_false s (f + n) k, le_true (f + n) s k) (ap (λ z. nat_lt s z) (let e : f + (n + m) ≡ f + n + m = omega arith in e)))
    ])
  ]

  pub in_first : is_in f n s ≡ true → is_in (f + n) m s ≡ false
  unfolding is_in
  in_first e = elim (le_cases (f + n) s) [
    | inr k ↦ (rw (le_false (f + n) s k) refl)
    | inl k ↦ (let no : is_in f n s ≡ false = out k in let g : true ≡ false = sym e ∙ no in absurd cc)
  ]
    where
      out : f + n ≤ s → is_in f n s ≡ false
      out k = rw (lt_false s (f + n) k) (either (nat_le f s))
        where
          either : (b : Bool) → b && false ≡ false
          either true = refl
          either false = refl

  pub in_second : is_in (f + n) m s ≡ true → is_in f n s ≡ false
  in_second e = go (is_in f n s) refl
    where
      go : (b : Bool) → is_in f n s ≡ b → b ≡ false
      go true h = (let g : true ≡ false = sym e ∙ in_first h in absurd cc)
      go false h = refl

both_false : (a b : Bool) → (a || b) ≡ false → (a ≡ false) × (b ≡ false)
both_false true b h = cc
both_false false b h = (refl, h)

spread : (a b c : Bool) → ((a && c) || (b && c)) ≡ ((a || b) && c)
spread true true true = refl
spread true true false = refl
spread true false true = refl
spread true false false = refl
spread false b c = refl

either_or : (a b : Bool) → (if a then true else b) ≡ (a || b)
either_or true b = refl
either_or false b = refl

or_left : (a b : Bool) → a ≡ true → (a || b) ≡ true
or_left true b h = refl
or_left false b h = cc

or_right : (a b : Bool) → b ≡ true → (a || b) ≡ true
or_right true b h = refl
or_right false b h = h

module _ (queues : List Queue) (f n m : ℕ) (seats others later : List Seated) (a : AreSeats queues f n seats) (b : AreSeats queues (f + n) m others) (j : AreJoined seats others later) where
  put_case : (s p : ℕ) (o : Option Seated) → slice_get later p ≡ o → put_by s p later ≡ put_by s p seats ++ put_by s p others
  put_case s p None at =
      let past : length later ≤ p = elim (le_cases (length later) p) [ inl h ↦ h | inr h ↦ (let e : slice_get later p ≡ Some (Rattle.std.proofs.Common.get_or later p (wit p h)) = Rattle.std.proofs.lemmas.Option.slice_get-get_or later p (wit p h) h in let g : None ≡ Some (Rattle.std.proofs.Common.get_or later p (wit p h)) = sym at ∙ e in absurd cc) ] in
      let x : slice_get seats p ≡ None = slice_get_past seats p (omega (arith, past, j.many)) in
      let y : slice_get others p ≡ None = slice_get_past others p (omega (arith, past, j.many, a.many, b.many)) in
      ap (λ o. put_in s o) at ∙ sym (ap (λ o. put_in s o ++ put_by s p others) x ∙ ap (λ o. put_in s o) y)
    where
      wit : (p : ℕ) → p < length later → Seated
      wit p h = first later h
        where
          first : (xs : List Seated) → p < length xs → Seated
          first [] h = absurd (let g : ⊥ = omega (arith, h) in g)
          first (x ∷ xs) h = x
  put_case s p (Some w) at =
      let h : (v : Seated) × (u : Seated) × (slice_get seats p ≡ Some v) × (slice_get others p ≡ Some u) × IsJoined v u w = j.here p w at in
      ap (λ o. put_in s o) at
      ∙ ap (λ (z : Knows). coming_from s (signals z.put)) h.4.knows
      ∙ ap (coming_from s) (signals-append h.0.knows.put h.1.knows.put)
      ∙ filter-append (λ (x : Signal). x.from.0 == s) (signals h.0.knows.put) (signals h.1.knows.put)
      ∙ sym (ap (λ o. put_in s o ++ put_by s p others) h.2 ∙ ap (λ o. coming_from s (signals h.0.knows.put) ++ put_in s o) h.3)

  take_case : (p : ℕ) (o : Option Seated) → slice_get later p ≡ o → (length later ≤ p) ⊎ (p < length later) → taken_at p later ≡ taken_at p seats ++ taken_at p others
  take_case p None at (inl past) =
      let x : slice_get seats p ≡ None = slice_get_past seats p (omega (arith, past, j.many)) in
      let y : slice_get others p ≡ None = slice_get_past others p (omega (arith, past, j.many, a.many, b.many)) in
      ap (λ o. taken_in o) at ∙ sym (ap (λ o. taken_in o ++ taken_at p others) x ∙ ap (λ o. taken_in o) y)
  take_case p None at (inr h) = absurd (no_gap later p h at)
    where
      no_gap : (xs : List Seated) (p : ℕ) → p < length xs → slice_get xs p ≡ None → ⊥
      no_gap [] p h e = (let g : ⊥ = omega (arith, h) in g)
      no_gap (x ∷ xs) zero h e = cc
      no_gap (x ∷ xs) (suc p) h e = no_gap xs p (omega (arith, h)) e
  take_case p (Some w) at _ =
      let h : (v : Seated) × (u : Seated) × (slice_get seats p ≡ Some v) × (slice_get others p ≡ Some u) × IsJoined v u w = j.here p w at in
      ap (λ o. taken_in o) at ∙ ap (λ (z : Knows). z.taken) h.4.knows ∙ sym (ap (λ o. taken_in o ++ taken_at p others) h.2 ∙ ap (λ o. h.0.knows.taken ++ taken_in o) h.3)

  joined_put : (s p : ℕ) → put_by s p later ≡ put_by s p seats ++ put_by s p others
  joined_put s p = put_case s p (slice_get later p) refl

  joined_take : (p : ℕ) → taken_at p later ≡ taken_at p seats ++ taken_at p others
  joined_take p = take_case p (slice_get later p) refl (le_cases (length later) p)

  pub joined_seats : AreSeats queues f (n + m) later
  joined_seats = record {
    many = j.many ∙ a.many;
    seat = λ p w at.
        let h : (v : Seated) × (u : Seated) × (slice_get seats p ≡ Some v) × (slice_get others p ≡ Some u) × IsJoined v u w = j.here p w at in
        let x : IsSeat queues f n p h.0 = a.seat p h.0 h.2 in
        let y : IsSeat queues (f + n) m p h.1 = b.seat p h.1 h.3 in
        record {
          own = record { queue = x.own.queue; here = x.own.here; own = h.4.queue ∙ x.own.own };
          senders = λ s.
              ap (λ (z : Knows). has z.senders s) h.4.knows ∙ has_plus h.0.knows.senders h.1.knows.senders s
              ∙ ap (λ z. z || has h.1.knows.senders s) (x.senders s) ∙ ap (λ z. (is_in f n s && not (s == p)) || z) (y.senders s)
              ∙ spread (is_in f n s) (is_in (f + n) m s) (not (s == p)) ∙ ap (λ z. z && not (s == p)) (sym (in_both f n m s));
          role = ap (λ (z : Knows). z.role) h.4.knows ∙ either_or h.0.knows.role h.1.knows.role ∙ ap (λ z. z || h.1.knows.role) x.role ∙ ap (λ z. is_in f n p || z) y.role ∙ sym (in_both f n m p);
        };
    no_put = λ s p out.
        let e : (is_in f n s ≡ false) × (is_in (f + n) m s ≡ false) = both_false (is_in f n s) (is_in (f + n) m s) (sym (in_both f n m s) ∙ out) in
        joined_put s p ∙ ap (λ z. z ++ put_by s p others) (a.no_put s p e.0) ∙ b.no_put s p e.1;
    no_take = λ p out.
        let e : (is_in f n p ≡ false) × (is_in (f + n) m p ≡ false) = both_false (is_in f n p) (is_in (f + n) m p) (sym (in_both f n m p) ∙ out) in
        joined_take p ∙ ap (λ z. z ++ taken_at p others) (a.no_take p e.0) ∙ b.no_take p e.1;
  }

  joined_has : (p : ℕ) (w : Seated) (at : slice_get later p ≡ Some w) (q : ℕ) → has w.knows.senders q ≡ (has (j.here p w at).0.knows.senders q || has (j.here p w at).1.knows.senders q)
  joined_has p w at q = ap (λ (z : Knows). has z.senders q) (j.here p w at).4.knows ∙ has_plus (j.here p w at).0.knows.senders (j.here p w at).1.knows.senders q

  joined_role : (p : ℕ) (w : Seated) (at : slice_get later p ≡ Some w) → w.knows.role ≡ ((j.here p w at).0.knows.role || (j.here p w at).1.knows.role)
  joined_role p w at = ap (λ (z : Knows). z.role) (j.here p w at).4.knows ∙ either_or (j.here p w at).0.knows.role (j.here p w at).1.knows.role

  first_looks : (q : ℕ) → is_in f n q ≡ true → LooksSame q seats later
  first_looks q inside = record {
    many = j.many;
    old = λ p w at. (j.here p w at).0;
    there = λ p w at. (j.here p w at).2;
    queue = λ p w at. (j.here p w at).4.queue;
    sender = λ p w at h. joined_has p w at q ∙ or_left (has (j.here p w at).0.knows.senders q) (has (j.here p w at).1.knows.senders q) h;
    role = λ w at h. joined_role q w at ∙ or_left (j.here q w at).0.knows.role (j.here q w at).1.knows.role h;
    puts = λ p. joined_put q p ∙ ap (λ z. put_by q p seats ++ z) (b.no_put q p (in_first f n m q inside)) ∙ append-nil (put_by q p seats);
    takes = joined_take q ∙ ap (λ z. taken_at q seats ++ z) (b.no_take q (in_first f n m q inside)) ∙ append-nil (taken_at q seats);
  }

  -- at the second part's seats the queue is the same
  second_queue : (p : ℕ) (w : Seated) (at : slice_get later p ≡ Some w) → w.queue ≡ (j.here p w at).1.queue
  second_queue p w at =
      let h : (v : Seated) × (u : Seated) × (slice_get seats p ≡ Some v) × (slice_get others p ≡ Some u) × IsJoined v u w = j.here p w at in
      let x : IsOwn queues p h.0 = (a.seat p h.0 h.2).own in
      let y : IsOwn queues p h.1 = (b.seat p h.1 h.3).own in
      h.4.queue ∙ x.own ∙ ap (λ (z : Queue). z.id) (same_Some x.queue y.queue (sym x.here ∙ y.here)) ∙ sym y.own

  second_looks : (q : ℕ) → is_in (f + n) m q ≡ true → LooksSame q others later
  second_looks q inside = record {
    many = j.many ∙ a.many ∙ sym b.many;
    old = λ p w at. (j.here p w at).1;
    there = λ p w at. (j.here p w at).3;
    queue = second_queue;
    sender = λ p w at h. joined_has p w at q ∙ or_right (has (j.here p w at).0.knows.senders q) (has (j.here p w at).1.knows.senders q) h;
    role = λ w at h. joined_role q w at ∙ or_right (j.here q w at).0.knows.role (j.here q w at).1.knows.role h;
    puts = λ p. joined_put q p ∙ ap (λ z. z ++ put_by q p others) (a.no_put q p (in_second f n m q inside));
    takes = joined_take q ∙ ap (λ z. z ++ taken_at q others) (a.no_take q (in_second f n m q inside));
  }

  module _ (base xs ys : List Running) (nx : length xs ≡ n) (my : length ys ≡ m)
      (each : (i : ℕ) (r : Running) → slice_get xs i ≡ Some r → HasPlace queues base seats (f + i) r) (also : (i : ℕ) (r : Running) → slice_get ys i ≡ Some r → HasPlace queues base others (f + n + i) r) where
    pub joined_procs : (i : ℕ) (r : Running) → slice_get (xs ++ ys) i ≡ Some r → HasPlace queues base later (f + i) r
    joined_procs i r at = elim (get_append xs ys i r at) [
      | inl e ↦ (
          let lt : i < n = (let w : i < length xs = slice_get_within xs i r e in omega (arith, w, nx)) in
          place_kept queues (f + i) seats later (first_looks (f + i) (Rattle.sig_workers.proofs.PartLemmas.in_part f n i lt)) r base (each i r e)
          )
      | inr w ↦ (
          let lt : w.0 < m = (let k : w.0 < length ys = slice_get_within ys w.0 r w.2 in omega (arith, k, my)) in
          let same : f + n + w.0 ≡ f + i = omega (arith, w.1, nx) in
          subst (λ z. HasPlace queues base later z r) same
          (place_kept queues (f + n + w.0) others later (second_looks (f + n + w.0) (Rattle.sig_workers.proofs.PartLemmas.in_part (f + n) m w.0 lt)) r base (also w.0 r w.2))
          )
    ]

-- the parts themselves
module _ (queues : List Queue) (part other later : Part) (p : IsPart queues part) (o : IsPart queues other) (next : other.first ≡ part.first + length (procs_of part)) (base : (base_of other) ≡ (base_of part))
    (j : AreJoined part.seats.items other.seats.items later.seats.items) (first : later.first ≡ part.first) (same : (base_of later) ≡ (base_of part)) (procs : procs_of later ≡ procs_of part ++ procs_of other) where
  abbrev n : ℕ
  n = length (procs_of part)

  abbrev m : ℕ
  m = length (procs_of other)

  all : length (procs_of later) ≡ n + m
  all = ap (λ (z : List Running). length z) procs ∙ length-append (procs_of part) (procs_of other)

  inside : part.first + (n + m) ≤ length queues
  inside = let w : other.first + m ≤ length queues = o.within in omega (arith, w, next)

  second : AreSeats queues (part.first + n) m other.seats.items
  second = subst (λ z. AreSeats queues z m other.seats.items) next o.seats

  also : (i : ℕ) (r : Running) → slice_get (procs_of other) i ≡ Some r → HasPlace queues (base_of part) other.seats.items (part.first + n + i) r
  also i r at =
      subst (λ z. HasPlace queues (base_of part) other.seats.items (z + i) r) next
      (subst (λ (z : List Running). HasPlace queues z other.seats.items (other.first + i) r) base (o.procs i r at))

  pub joined_part : IsPart queues later
  joined_part = record {
    few = p.few;
    within = subst (λ z. z + length (procs_of later) ≤ length queues) (sym first) (subst (λ z. part.first + z ≤ length queues) (sym all) inside);
    seats = subst (λ z. AreSeats queues z (length (procs_of later)) later.seats.items) (sym first)
        (subst (λ z. AreSeats queues part.first z later.seats.items) (sym all) (joined_seats queues part.first n m part.seats.items other.seats.items later.seats.items p.seats second j));
    procs = λ i r at.
        subst (λ z. HasPlace queues (base_of later) later.seats.items (z + i) r) (sym first)
        (subst (λ (z : List Running). HasPlace queues z later.seats.items (part.first + i) r) (sym same)
        (joined_procs queues part.first n m part.seats.items other.seats.items later.seats.items p.seats second j (base_of part) (procs_of part) (procs_of other) refl refl p.procs also i r
        (subst (λ z. slice_get z i ≡ Some r) procs at)));
  }

pub when_ok : {E : Type 0} (P : Type 0) (zs xs ys : List Standing) (o : Result (Unit {0}) E) → zs ≡ (if is_ok o then xs else ys) → (zs ≡ xs → P) → OnOk o P
when_ok P zs xs ys (Ok u) e f = f e
when_ok P zs xs ys (Err u) e f = tt

-- the processes of both
pub both_procs : (xs ys zs : List Standing) → zs ≡ xs ++ ys → runnings_of zs ≡ runnings_of xs ++ runnings_of ys
both_procs xs ys zs e = ap (λ z. runnings_of z) e ∙ map-append (λ (z : Standing). z.running) xs ys

pub own_queue : (queues : List Queue) (p : ℕ) (v : Seated) (q : Queue) → IsOwn queues p v → slice_get queues p ≡ Some q → v.queue ≡ q.id
own_queue queues p v q h there = h.own ∙ ap (λ (z : Queue). z.id) (same_Some h.queue q (sym h.here ∙ there))
