-- Several rounds, one after another.
use Rattle.std.proofs.Common.{◌≡◌, ◌≢◌, ℕ, zero, suc, ◌+◌, ◌-◌, ◌<◌, ◌≤◌, List, [], ◌∷◌, ◌++◌, length, Bool, true, false, Some, refl, sym, ap, ◌∙◌, subst, inl, inr, ◌⊎◌, arith, append_assoc, length-append}
use Rattle.std.specs.Prelude.{◌==◌, slice_get, slice_index_or}
use Rattle.std.proofs.lemmas.List.{append-nil}
use Rattle.std.proofs.lemmas.List.Elements.{filter-append}
use Rattle.std.proofs.lemmas.List.Sums.{sum_by-cons}
use Rattle.std.proofs.lemmas.Option.{same_Some, slice_get_within}
use Rattle.sig_terms.specs.declared.pid.Pid.{Pid}
use Rattle.sig_kinds.specs.declared.signal.Signal.{Signal}
use Rattle.sig_program.specs.Scripts.{Declared, Program}
use Rattle.sig_model.specs.declared.state.TheConstants.{LAST_STAMP}
use Rattle.sig_model.specs.declared.event.Event.{Event}
use Rattle.sig_model.specs.Running.{Running}
use Rattle.sig_model.specs.Accounts.{went, coming_from}
use Rattle.sig_model.specs.CrewLaw.{IsLawfulCrew}
use Rattle.sig_model.specs.Still.{IsStillCrew}
use Rattle.sig_layout.specs.declared.policy.Policy.{Policy}
use Rattle.sig_layout.specs.Sets.{has}
use Rattle.sig_layout.specs.Sent.{putter, of, signals}
use Rattle.sig_layout.proofs.Sending.{signals-append}
use Rattle.sig_queue.specs.declared.account.Account.{Account}
use Rattle.sig_queue.specs.Accounts.{MayFollow, followed, EachMayFollow, all_followed}
use Rattle.sig_process.specs.Standing.{Standing, runnings_of}
use Rattle.sig_workers.specs.Room.{room_of, room}
use Rattle.sig_workers.specs.Rounds.{Begin, NoneMore, IsReceiptOf, IsFlag, IsRound, IsRounds, room_left}
use Rattle.sig_workers.proofs.OpenLemmas.{some_at}
use Rattle.sig_workers.proofs.SeatLists.{items_length}

pub first_round : (script : Program) (policy : Policy) (crew later : List Standing) (receipts : List Account) (moved : Bool) → IsRound script policy crew later receipts moved → IsRounds script policy (runnings_of crew) (runnings_of later) receipts
first_round script policy crew later receipts moved h = record { lawful = h.lawful; clear = h.clear; begin = h.begin; count = h.count; receipt = h.receipt }

-- where a round has no event, no process can do anything
pub round_still : (script : Program) (policy : Policy) (crew later : List Standing) (receipts : List Account) (moved : Bool) → IsRound script policy crew later receipts moved → moved ≡ false → IsStillCrew (runnings_of later)
round_still script policy crew later receipts moved h none = (subst (IsFlag (runnings_of crew) (runnings_of later)) none h.flag).1

room_cons : (x : Running) (xs : List Running) → room (x ∷ xs) ≡ room_of x + room xs
room_cons x xs = sum_by-cons room_of x xs

no_gain : (xs ys : List Running) → length ys ≡ length xs → ((p : ℕ) (r t : Running) → slice_get xs p ≡ Some r → slice_get ys p ≡ Some t → r.state.counts.stamp ≤ t.state.counts.stamp) → room ys ≤ room xs
no_gain [] [] e h = omega arith
no_gain [] (y ∷ ys) e h = absurd (let f : ⊥ = omega (arith, e) in f)
no_gain (x ∷ xs) [] e h = absurd (let f : ⊥ = omega (arith, e) in f)
no_gain (x ∷ xs) (y ∷ ys) e h =
    let a : x.state.counts.stamp ≤ y.state.counts.stamp = h 0 x y refl refl in
    let b : room ys ≤ room xs = no_gain xs ys (omega (arith, e)) (λ p. h (suc p)) in
    let m : room (x ∷ xs) ≡ (LAST_STAMP - x.state.counts.stamp) + room xs = room_cons x xs in
    let n : room (y ∷ ys) ≡ (LAST_STAMP - y.state.counts.stamp) + room ys = room_cons y ys in
    omega (arith, a, b, m, n)

-- where there is as much room as before, no stamp has risen
all_same : (xs ys : List Running) → length ys ≡ length xs → ((p : ℕ) (r t : Running) → slice_get xs p ≡ Some r → slice_get ys p ≡ Some t → (r.state.counts.stamp ≤ t.state.counts.stamp) × (t.state.counts.stamp ≤ LAST_STAMP)) →
    room xs ≤ room ys → (p : ℕ) (r t : Running) → slice_get xs p ≡ Some r → slice_get ys p ≡ Some t → t.state.counts.stamp ≡ r.state.counts.stamp
all_same [] [] e h le p r t a b = cc
all_same [] (y ∷ ys) e h le p r t a b = absurd (let f : ⊥ = omega (arith, e) in f)
all_same (x ∷ xs) [] e h le p r t a b = absurd (let f : ⊥ = omega (arith, e) in f)
all_same (x ∷ xs) (y ∷ ys) e h le zero r t a b =
    let k : (x.state.counts.stamp ≤ y.state.counts.stamp) × (y.state.counts.stamp ≤ LAST_STAMP) = h 0 x y refl refl in
    let m : room ys ≤ room xs = no_gain xs ys (omega (arith, e)) (λ p r t a b. (h (suc p) r t a b).0) in
    let i : room (x ∷ xs) ≡ (LAST_STAMP - x.state.counts.stamp) + room xs = room_cons x xs in
    let j : room (y ∷ ys) ≡ (LAST_STAMP - y.state.counts.stamp) + room ys = room_cons y ys in
    let same : y.state.counts.stamp ≡ x.state.counts.stamp = omega (arith, k, m, le, i, j) in
    ap (λ (z : Running). z.state.counts.stamp) (sym (same_Some y t b)) ∙ same ∙ ap (λ (z : Running). z.state.counts.stamp) (same_Some x r a)
all_same (x ∷ xs) (y ∷ ys) e h le (suc p) r t a b =
    let k : (x.state.counts.stamp ≤ y.state.counts.stamp) × (y.state.counts.stamp ≤ LAST_STAMP) = h 0 x y refl refl in
    let i : room (x ∷ xs) ≡ (LAST_STAMP - x.state.counts.stamp) + room xs = room_cons x xs in
    let j : room (y ∷ ys) ≡ (LAST_STAMP - y.state.counts.stamp) + room ys = room_cons y ys in
    all_same xs ys (omega (arith, e)) (λ q. h (suc q)) (omega (arith, k, le, i, j)) p r t a b

le_or : (a b : ℕ) → (a ≤ b) ⊎ (b < a)
le_or zero b = inl (omega arith)
le_or (suc a) zero = inr (omega arith)
le_or (suc a) (suc b) = elim (le_or a b) [ inl h ↦ inl (omega (arith, h)) | inr h ↦ inr (omega (arith, h)) ]

module _ (script : Program) (policy : Policy) (stands last : List Standing) (receipts : List Account) (moved : Bool) (law : IsLawfulCrew script (runnings_of stands)) (h : IsRound script policy stands last receipts moved) where
  abbrev crew : List Running
  crew = runnings_of stands

  abbrev later : List Running
  later = runnings_of last

  as_many : length later ≡ length crew
  as_many = h.lawful.many ∙ sym law.many

  same_events : (r t : Running) (more : List Event) → t.events ≡ r.events ++ more → (length r.events < length t.events → ⊥) → t.events ≡ r.events
  same_events r t [] e n = e ∙ append-nil r.events
  same_events r t (m ∷ more) e n =
      let a : length t.events ≡ length (r.events ++ m ∷ more) = ap (λ (z : List Event). length z) e in
      let b : length (r.events ++ m ∷ more) ≡ length r.events + length (m ∷ more) = length-append r.events (m ∷ more) in
      absurd (n (omega (arith, a, b)))

  none_more : room crew ≤ room later → NoneMore crew later
  none_more le p r t at_r at_t =
      let w : (u : Running) × (slice_get later p ≡ Some u) × (more : List Event) × (u.events ≡ r.events ++ more) = h.begin p r at_r in
      let u : w.0 ≡ t = same_Some w.0 t (sym w.1 ∙ at_t) in
      let same : t.state.counts.stamp ≡ r.state.counts.stamp = all_same crew later as_many (λ q a b x y. ((h.stamp q a b x y).0, (h.lawful.keeping q b y).low)) le p r t at_r at_t in
      same_events r t w.2 (ap (λ (z : Running). z.events) (sym u) ∙ w.3) (λ lt. (let m : r.state.counts.stamp < t.state.counts.stamp = (h.stamp p r t at_r at_t).1 lt in let f : ⊥ = omega (arith, m, same) in f))

  less_case : (b : Bool) → IsFlag crew later b → room_left later b < room_left crew true
  less_case false f = let m : room later ≤ room crew = no_gain crew later as_many (λ p r t a b. (h.stamp p r t a b).0) in omega (arith, m)
  less_case true f = elim (le_or (room crew) (room later)) [
    | inl le ↦ absurd (f (none_more le))
    | inr lt ↦ omega (arith, lt)
  ]

  pub less_room : room_left later moved < room_left crew true
  less_room = less_case moved h.flag

-- receipts that may follow, place by place
each_may : (xs ys : List Account) → length ys ≡ length xs → ((p : ℕ) (a b : Account) → slice_get xs p ≡ Some a → slice_get ys p ≡ Some b → MayFollow a b) → EachMayFollow xs ys
each_may [] [] e h = tt
each_may [] (y ∷ ys) e h = absurd (let f : ⊥ = omega (arith, e) in f)
each_may (x ∷ xs) [] e h = absurd (let f : ⊥ = omega (arith, e) in f)
each_may (x ∷ xs) (y ∷ ys) e h = (h 0 x y refl refl, each_may xs ys (omega (arith, e)) (λ p. h (suc p)))

followed_length : (xs ys : List Account) → length (all_followed xs ys) ≡ length xs
followed_length [] ys = refl
followed_length (x ∷ xs) [] = refl
followed_length (x ∷ xs) (y ∷ ys) = ap suc (followed_length xs ys)

followed_at : (xs ys : List Account) (p : ℕ) (c : Account) → length ys ≡ length xs → slice_get (all_followed xs ys) p ≡ Some c → (a : Account) × (b : Account) × (slice_get xs p ≡ Some a) × (slice_get ys p ≡ Some b) × (c ≡ followed a b)
followed_at [] ys p c e h = cc
followed_at (x ∷ xs) [] p c e h = absurd (let f : ⊥ = omega (arith, e) in f)
followed_at (x ∷ xs) (y ∷ ys) zero c e h = (x, y, refl, refl, sym (same_Some (followed x y) c h))
followed_at (x ∷ xs) (y ∷ ys) (suc p) c e h = followed_at xs ys p c (omega (arith, e)) h

-- one more round
module _ (script : Program) (policy : Policy) (crew : List Running) (between last : List Standing) (receipts more : List Account) (moved : Bool) (law : IsLawfulCrew script crew) (a : IsRounds script policy crew (runnings_of between) receipts) (b : IsRound script policy between last more moved) where
  abbrev mid : List Running
  mid = runnings_of between

  abbrev after : List Running
  after = runnings_of last

  mid_many : length mid ≡ length crew
  mid_many = a.lawful.many ∙ sym law.many

  count_same : length more ≡ length receipts
  count_same = b.count ∙ mid_many ∙ sym a.count

  mid_at : (s : ℕ) (r : Running) → slice_get crew s ≡ Some r → (m : Running) × (slice_get mid s ≡ Some m)
  mid_at s r at = let w : (m : Running) × (slice_get mid s ≡ Some m) × (x : List Event) × (m.events ≡ r.events ++ x) = a.begin s r at in (w.0, w.1)

  -- a process runs the same part of the script in each lawful crew
  same_part : (p : ℕ) (r m : Running) → slice_get crew p ≡ Some r → slice_get mid p ≡ Some m → m.proc ≡ r.proc
  same_part p r m at_r at_m = same_Some m.proc r.proc (sym (a.lawful.processes p m at_m).proc ∙ (law.processes p r at_r).proc)

  same_data : (p : ℕ) (x y : Account) → slice_get receipts p ≡ Some x → slice_get more p ≡ Some y → y.queue_data ≡ x.queue_data
  same_data p x y at_x at_y =
      let within : p < length crew = (let w : p < length receipts = slice_get_within receipts p x at_x in omega (arith, w, a.count)) in
      let r : (r : Running) × (slice_get crew p ≡ Some r) = some_at crew p within in
      let m : (m : Running) × (slice_get mid p ≡ Some m) = mid_at p r.0 r.1 in
      (b.receipt p y at_y).queue_data_is m.0 m.1 ∙ ap (λ (d : Declared). d.queue_data) (same_part p r.0 m.0 r.1 m.1) ∙ sym ((a.receipt p x at_x).queue_data_is r.0 r.1)

  may_at : (p : ℕ) (x y : Account) → slice_get receipts p ≡ Some x → slice_get more p ≡ Some y → MayFollow x y
  may_at p x y at_x at_y =
      let e : IsReceiptOf policy crew mid p x = a.receipt p x at_x in
      let f : IsReceiptOf policy mid after p y = b.receipt p y at_y in
      record {
        receiver = to_pid y.receiver x.receiver (f.receiver ∙ sym e.receiver);
        senders = λ s. same_bool (has y.senders s) (has x.senders s)
            (λ t. (let k : (s < length mid) × (s ≢ p) = f.senders s t in e.all s (omega (arith, k.0, mid_many)) k.1))
            (λ t. (let k : (s < length crew) × (s ≢ p) = e.senders s t in f.all s (omega (arith, k.0, mid_many)) k.1));
        policy = f.policy_is ∙ sym e.policy_is;
        queue_data = same_data p x y at_x at_y;
        numbers = λ s is.
            let k : (s < length crew) × (s ≢ p) = e.senders s is in
            let r : (r : Running) × (slice_get crew s ≡ Some r) = some_at crew s k.0 in
            let m : (m : Running) × (slice_get mid s ≡ Some m) = mid_at s r.0 r.1 in
            let n : length (went p m.0) ≡ length (went p r.0) + length (coming_from s (signals x.put)) = ap (λ (z : List Signal). length z) (e.sent s r.0 m.0 k.1 r.1 m.1) ∙ length-append (went p r.0) (coming_from s (signals x.put)) in
            let l : length (of putter s x.put) ≡ length (coming_from s (signals x.put)) = items_length s x.put in
            let i : slice_index_or y.first s 0 ≡ length (went p m.0) + 1 = f.first s m.0 m.1 in
            let j : slice_index_or x.first s 0 ≡ length (went p r.0) + 1 = e.first s r.0 r.1 in
            omega (arith, n, l, i, j);
      }
    where
      to_pid : (x y : Pid) → x.0 ≡ y.0 → x ≡ y
      to_pid x y e = ap (λ n. record { 0 = n }) e

      same_bool : (u v : Bool) → (u ≡ true → v ≡ true) → (v ≡ true → u ≡ true) → u ≡ v
      same_bool true v h k = sym (h refl)
      same_bool false true h k = k refl
      same_bool false false h k = refl

  pub may_follow : EachMayFollow receipts more
  may_follow = each_may receipts more count_same may_at

  receipt_at : (p : ℕ) (c : Account) → slice_get (all_followed receipts more) p ≡ Some c → IsReceiptOf policy crew after p c
  receipt_at p c at =
      let w : (x : Account) × (y : Account) × (slice_get receipts p ≡ Some x) × (slice_get more p ≡ Some y) × (c ≡ followed x y) = followed_at receipts more p c count_same at in
      let e : IsReceiptOf policy crew mid p w.0 = a.receipt p w.0 w.2 in
      let f : IsReceiptOf policy mid after p w.1 = b.receipt p w.1 w.3 in
      subst (IsReceiptOf policy crew after p) (sym w.4) (record {
        receiver = e.receiver;
        policy_is = e.policy_is;
        queue_data_is = e.queue_data_is;
        senders = e.senders;
        all = e.all;
        first = e.first;
        sent = λ s r t ne at_r at_t.
            let m : (m : Running) × (slice_get mid s ≡ Some m) = mid_at s r at_r in
            f.sent s m.0 t ne m.1 at_t ∙ ap (λ z. z ++ coming_from s (signals w.1.put)) (e.sent s r m.0 ne at_r m.1) ∙ append_assoc (went p r) (coming_from s (signals w.0.put)) (coming_from s (signals w.1.put))
            ∙ ap (λ z. went p r ++ z) (sym (ap (coming_from s) (signals-append w.0.put w.1.put) ∙ filter-append (λ (x : Signal). x.from.0 == s) (signals w.0.put) (signals w.1.put)));
      })

  begins : Begin crew after
  begins p r at =
      let u : (m : Running) × (slice_get mid p ≡ Some m) × (x : List Event) × (m.events ≡ r.events ++ x) = a.begin p r at in
      let v : (t : Running) × (slice_get after p ≡ Some t) × (y : List Event) × (t.events ≡ u.0.events ++ y) = b.begin p u.0 u.1 in
      (v.0, v.1, u.2 ++ v.2, v.3 ∙ ap (λ z. z ++ v.2) u.3 ∙ append_assoc r.events u.2 v.2)

  pub one_more_round : IsRounds script policy crew after (all_followed receipts more)
  one_more_round = record { lawful = b.lawful; clear = b.clear; begin = begins; count = followed_length receipts more ∙ a.count; receipt = receipt_at }
