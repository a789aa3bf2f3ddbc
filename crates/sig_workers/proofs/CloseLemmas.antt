-- A queue is closed, and what it has left is handed over.
use Rattle.std.proofs.Common.{◌≡◌, inl, inr, ℕ, zero, suc, ◌+◌, ◌<◌, ◌≤◌, List, [], ◌∷◌, ◌++◌, length, drop, Some, sym, ap, ◌∙◌, subst, arith}
use Rattle.std.specs.Prelude.{All, ◌==◌, slice_get, slice_set}
use Rattle.std.proofs.lemmas.List.{map-set, append_assoc}
use Rattle.std.proofs.lemmas.Bool.Decides.{eqb_tells}
use Rattle.std.proofs.lemmas.Option.{same_Some, slice_get_within}
use Rattle.sig_runs.proofs.Lists.{slice_get-set_same, slice_get-set_other}
use Rattle.std.proofs.lemmas.List.Elements.{filter-append}
use Rattle.sig_kinds.specs.declared.signal.Signal.{Signal}
use Rattle.sig_model.specs.Running.{Running}
use Rattle.sig_model.specs.Keeping.{IsArriving, IsKeeping}
use Rattle.sig_model.specs.Accounts.{coming_from, Continues}
use Rattle.sig_model.proofs.OutboxNumbers.{counting-rest}
use Rattle.sig_kinds.specs.Counting.{IsCounting}
use Rattle.sig_layout.specs.Openings.{first_of}
use Rattle.sig_layout.specs.declared.entry.Entry.{Entry}
use Rattle.sig_layout.specs.Sent.{signals}
use Rattle.sig_queue.specs.declared.account.Account.{Account}
use Rattle.sig_queue.specs.Accounts.{account_of}
use Rattle.sig_queue.specs.Ends.{EndsAs}
use Rattle.sig_queue.specs.Seats.{Queue, Seated}
use Rattle.sig_process.specs.Standing.{Standing, runnings_of}
use Rattle.sig_workers.specs.Acting.{KeepEvents}
use Rattle.sig_workers.specs.Closing.{CanClose, HasClosed, IsClosedAt}
use Rattle.sig_workers.proofs.SeatLists.{of_is}
use Rattle.sig_workers.proofs.FetchLemmas.{may_arrive, go_on, arrivals_keep}
use Rattle.sig_workers.proofs.CutLemmas.{get_push}

-- one signal of what is left was gathered
pub one_gathered : (left more rest later all : List Signal) (x : Signal) → more ≡ left ++ x ∷ [] → rest ≡ x ∷ later → left ++ rest ≡ all → more ++ later ≡ all
one_gathered left more rest later all x added is so_far =
    ap (λ z. z ++ later) added
    ∙ append_assoc left (x ∷ []) later
    ∙ ap (λ z. left ++ z) (sym is)
    ∙ so_far

module _ (q : Queue) (v : Seated) (r : Running) (rest : List Signal) (journal : List Entry) (can : CanClose q v r) (ends : EndsAs q.setup v.knows rest journal) where
  pub rest_arrives : All (IsArriving r.pid r.count) rest
  rest_arrives = may_arrive q r rest can.receiver can.count can.strange ends.left

  pub rest_continues : Continues r rest
  rest_continues = go_on q v r rest can.continued ends.left (λ s asks.
      counting-rest (first_of q.setup s) (coming_from s v.knows.taken) (coming_from s rest)
      (subst (IsCounting (first_of q.setup s)) (ends.order s ∙ of_is s (v.knows.taken ++ rest) ∙ filter-append (λ (x : Signal). x.from.0 == s) v.knows.taken rest) (ends.counted s asks)))

  pub has_closed : (a : Account) (t : Running) → a ≡ account_of q.setup v.knows.put → t ≡ record r { taken_in = r.taken_in ++ rest } → HasClosed q v r a t
  has_closed a t account given = record {
    left = rest;
    given = given;
    order = λ s. sym (of_is s (signals v.knows.put)) ∙ ends.order s ∙ of_is s (v.knows.taken ++ rest);
    carried = ends.carried;
    account = account;
    keeping = λ k. subst IsKeeping (sym given) (arrivals_keep r rest k rest_arrives);
  }

-- one queue more was closed
module _ (queues : List Queue) (seats : List Seated) (start procs : List Standing) (at : ℕ) (q : Queue) (v : Seated) (p t : Standing) (a : Account) (receipts later : List Account)
    (queue : slice_get queues at ≡ Some q) (seat : slice_get seats at ≡ Some v) (there : slice_get (runnings_of procs) at ≡ Some p.running) (count : length receipts ≡ at)
    (rest : (i : ℕ) → at ≤ i → slice_get (runnings_of procs) i ≡ slice_get (runnings_of start) i) (closed : HasClosed q v p.running a t.running) (pushed : later ≡ receipts ++ a ∷ []) where
  abbrev now : List Running
  now = runnings_of (slice_set procs at t)

  now_is : now ≡ slice_set (runnings_of procs) at t.running
  now_is = map-set (λ (z : Standing). z.running) procs at t

  pub closed_rest : (i : ℕ) → at + 1 ≤ i → slice_get now i ≡ slice_get (runnings_of start) i
  closed_rest i le = ap (λ z. slice_get z i) now_is ∙ slice_get-set_other (runnings_of procs) at i t.running (λ e. (let f : ⊥ = omega (arith, le, e) in f)) ∙ rest i (omega (arith, le))

  pub closed_more : ((i : ℕ) (b : Account) (u : Running) → slice_get receipts i ≡ Some b → slice_get (runnings_of procs) i ≡ Some u → IsClosedAt queues seats (runnings_of start) i b u) →
      (i : ℕ) (b : Account) (u : Running) → slice_get later i ≡ Some b → slice_get now i ≡ Some u → IsClosedAt queues seats (runnings_of start) i b u
  closed_more old i b u at_b at_u = elim (get_push receipts a i b (subst (λ z. slice_get z i ≡ Some b) pushed at_b)) [
    | inl e ↦ (
        let lt : i < at = (let w : i < length receipts = slice_get_within receipts i b e in omega (arith, w, count)) in
        old i b u e (sym (ap (λ z. slice_get z i) now_is ∙ slice_get-set_other (runnings_of procs) at i t.running (λ k. (let f : ⊥ = omega (arith, lt, k) in f))) ∙ at_u)
        )
    | inr e ↦ (
        let here : at ≡ i = sym (e.0 ∙ count) in
        let mine : t.running ≡ u = same_Some t.running u (sym (slice_get-set_same (runnings_of procs) at t.running p.running there) ∙ ap (λ z. slice_get z at) (sym now_is) ∙ ap (λ z. slice_get now z) here ∙ at_u) in
        subst (λ z. IsClosedAt queues seats (runnings_of start) z b u) here (record {
          q = q;
          v = v;
          r = p.running;
          queue = queue;
          seat = seat;
          process = sym (rest at (omega arith)) ∙ there;
          closed = subst (λ z. HasClosed q v p.running z u) e.1 (subst (λ z. HasClosed q v p.running a z) mine closed);
        })
        )
  ]

-- the first of what is left of a list
drop_tells : {X : Type 0} (n : ℕ) (xs zs : List X) (x : X) → drop n xs ≡ x ∷ zs → (slice_get xs n ≡ Some x) × (zs ≡ drop (suc n) xs)
drop_tells zero [] zs x h = cc
drop_tells zero (y ∷ ys) zs x h = (ap (λ l. slice_get l 0) h, sym (ap (λ l. drop 1 l) h))
drop_tells (suc n) [] zs x h = cc
drop_tells (suc n) (y ∷ ys) zs x h = drop_tells n ys zs x h

pub some_left : {X : Type 0} (n : ℕ) (xs ys : List X) → ys ≡ drop n xs → n < length xs → 0 < length ys
some_left n xs ys e lt = (let l : length ys ≡ length (drop n xs) = ap (λ (z : List _). length z) e in let m : 0 < length (drop n xs) = more n xs lt in omega (arith, l, m))
  where
    more : {X : Type 0} (n : ℕ) (xs : List X) → n < length xs → 0 < length (drop n xs)
    more n [] lt = absurd (let f : ⊥ = omega (arith, lt) in f)
    more zero (x ∷ xs) lt = omega arith
    more (suc n) (x ∷ xs) lt = more n xs (omega (arith, lt))

pub first_left : {X : Type 0} (n : ℕ) (xs ys zs : List X) (x : X) → ys ≡ drop n xs → ys ≡ x ∷ zs → (slice_get xs n ≡ Some x) × (zs ≡ drop (n + 1) xs)
first_left n xs ys zs x e is =
    let t : (slice_get xs n ≡ Some x) × (zs ≡ drop (suc n) xs) = drop_tells n xs zs x (sym e ∙ is) in
    (t.0, t.1 ∙ ap (λ m. drop m xs) (let m : suc n ≡ n + 1 = omega arith in m))

-- one more process that has its events and its saved place
module _ (start procs : List Standing) (at : ℕ) (p t : Standing) (there : slice_get procs at ≡ Some p) (events : t.running.events ≡ p.running.events) (saved : t.saved ≡ p.saved) where
  pub kept_more : KeepEvents start procs → KeepEvents start (slice_set procs at t)
  kept_more kept i q is = elim (eqb_tells at i) [
    | inl e ↦ (
        let mine : t ≡ q = same_Some t q (sym (slice_get-set_same procs at t p there) ∙ ap (λ z. slice_get (slice_set procs at t) z) e.1 ∙ is) in
        let w : (s : Standing) × (slice_get start i ≡ Some s) × (p.running.events ≡ s.running.events) × (p.saved ≡ s.saved) = kept i p (ap (λ z. slice_get procs z) (sym e.1) ∙ there) in
        (w.0, w.1, ap (λ (z : Standing). z.running.events) (sym mine) ∙ events ∙ w.2, ap (λ (z : Standing). z.saved) (sym mine) ∙ saved ∙ w.3)
        )
    | inr e ↦ kept i q (sym (slice_get-set_other procs at i t e.1) ∙ is)
  ]
