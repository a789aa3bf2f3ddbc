-- Sets of the processes of a part.
use Rattle.std.proofs.Common.{◌≡◌, ◌≢◌, ℕ, zero, suc, ◌+◌, ◌<◌, ◌≤◌, ◌^◌, List, [], ◌∷◌, length, Some, Bool, true, false, not, ◌&&◌, ◌||◌, refl, sym, ap, ◌∙◌, subst, inl, inr, arith, nat_le, nat_lt}
use Rattle.std.specs.Prelude.{if◌then◌else◌, ◌==◌, slice_get, slice_index, All}
use Rattle.std.proofs.lemmas.List.Elements.{All-nil, All-cons}
use Rattle.std.proofs.lemmas.Bool.{eq-eqb, ne_eqb}
use Rattle.std.proofs.lemmas.Bool.Decides.{eqb_tells, nat_tests}
use Rattle.sig_model.specs.Running.{Running}
use Rattle.sig_kinds.specs.declared.queue_data.QueueData.{QueueData}
use Rattle.sig_kinds.specs.declared.queue_data.QueueData.TheVariants.{OnHeap, OffHeap}
use Rattle.sig_layout.specs.declared.policy.Policy.{Policy}
use Rattle.sig_layout.specs.declared.opening.Opening.{Opening}
use Rattle.sig_layout.specs.declared.knows.Knows.{Knows}
use Rattle.sig_layout.specs.Policies.{ruled, IsPolicy}
use Rattle.sig_layout.specs.Openings.{IsSetup}
use Rattle.sig_layout.specs.Sets.{has, minus}
use Rattle.sig_layout.specs.Sent.{putter, keep}
use Rattle.sig_layout.specs.Views.{left_of, right_of}
use Rattle.sig_layout.proofs.Members.{has_minus}
use Rattle.sig_queue.specs.Seats.{Queue, Seated}
use Rattle.sig_queue.specs.Ends.{setup_of}
use Rattle.sig_workers.specs.Parts.{is_in}
use Rattle.sig_workers.specs.Opening.{numbers_to, AreNumbered, IsFreshSeat}
use Rattle.sig_workers.proofs.JoinLemmas.{in_both, in_first}

pub in_none : (first s : ℕ) → is_in first 0 s ≡ false
unfolding is_in
in_none first s = go (nat_le first s) (nat_lt s (first + 0)) (apart first s)
  where
    apart : (a b : ℕ) → nat_le a b ≡ true → nat_lt b (a + 0) ≡ false
    apart a b h = grind (arith, nat_tests)

    go : (x y : Bool) → (x ≡ true → y ≡ false) → x && y ≡ false
    go true y h = h refl
    go false y h = refl

pub in_one : (first s : ℕ) → is_in first 1 s ≡ (first == s)
unfolding is_in
in_one first s = elim (eqb_tells first s) [
  | inl e ↦ (rw e.0 (go (nat_le first s) (nat_lt s (first + 1)) (le first s e.1) (lt first s e.1)))
  | inr e ↦ (rw e.0 (stop (nat_le first s) (nat_lt s (first + 1)) (out first s e.1)))
]
  where
    le : (a b : ℕ) → a ≡ b → nat_le a b ≡ true
    le a b h = grind (arith, nat_tests)

    lt : (a b : ℕ) → a ≡ b → nat_lt b (a + 1) ≡ true
    lt a b h = grind (arith, nat_tests)

    out : (a b : ℕ) → a ≢ b → nat_le a b ≡ true → nat_lt b (a + 1) ≡ false
    out a b h k = grind (arith, nat_tests)

    go : (x y : Bool) → x ≡ true → y ≡ true → x && y ≡ true
    go true y h k = k
    go false y h k = h

    stop : (x y : Bool) → (x ≡ true → y ≡ false) → x && y ≡ false
    stop true y h = h refl
    stop false y h = refl

pub eqb_sym : (a b : ℕ) → (a == b) ≡ (b == a)
eqb_sym a b = elim (eqb_tells a b) [
  | inl e ↦ e.0 ∙ sym (eq-eqb b a (sym e.1))
  | inr e ↦ e.0 ∙ sym (ne_eqb b a (λ q. e.1 (sym q)))
]

-- one more process
pub more_in : (first at s : ℕ) (has more : Bool) → has ≡ is_in first at s → more ≡ (has || (s == first + at)) → more ≡ is_in first (at + 1) s
more_in first at s has more h m =
    m ∙ ap (λ z. z || (s == first + at)) h ∙ ap (λ z. is_in first at s || z) (eqb_sym s (first + at) ∙ sym (in_one (first + at) s)) ∙ sym (in_both first at 1 s)

-- a set less one
pub all_but : (set one : List ℕ) (but s : ℕ) → has one s ≡ (s == but) → has (minus set one) s ≡ (has set s && not (s == but))
all_but set one but s h = has_minus set one s ∙ ap (λ z. has set s && not z) h

-- processes but for one
pub part_but : (set : List ℕ) (first count but s : ℕ) (given : Bool) → has set s ≡ is_in first count s → given ≡ (has set s && not (s == but)) → given ≡ (is_in first count s && not (s == but))
part_but set first count but s given h g = g ∙ ap (λ z. z && not (s == but)) h

-- what is split off is part of what there is
pub in_tail : (first count s : ℕ) → is_in first count s ≡ true → is_in 0 (first + count) s ≡ true
in_tail first count s h = in_both 0 first count s ∙ ap (λ z. is_in 0 first s || is_in z count s) (let e : 0 + first ≡ first = omega arith in e) ∙ or_true (is_in 0 first s) (is_in first count s) h
  where
    or_true : (a b : Bool) → b ≡ true → (a || b) ≡ true
    or_true true b h = refl
    or_true false b h = h

both_of : (a b : Bool) → (a && b) ≡ true → (a ≡ true) × (b ≡ true)
both_of true b h = (refl, h)
both_of false b h = cc

and_true : (a b : Bool) → a ≡ true → b ≡ true → (a && b) ≡ true
and_true true b h k = k
and_true false b h k = cc

pub tail_given : (first count s p : ℕ) (given old : Bool) → given ≡ (is_in first count s && not (s == p)) → old ≡ (is_in 0 (first + count) s && not (s == p)) → given ≡ true → old ≡ true
tail_given first count s p given old g o h =
    let b : (is_in first count s ≡ true) × (not (s == p) ≡ true) = both_of (is_in first count s) (not (s == p)) (sym g ∙ h) in
    o ∙ and_true (is_in 0 (first + count) s) (not (s == p)) (in_tail first count s b.0) b.1

-- what is left
pub head_left : (first count s : ℕ) (c : Bool) → ((is_in 0 (first + count) s && c) && not (is_in first count s && c)) ≡ (is_in 0 first s && c)
head_left first count s c =
    ap (λ z. (z && c) && not (is_in first count s && c)) (in_both 0 first count s ∙ ap (λ z. is_in 0 first s || is_in z count s) (let e : 0 + first ≡ first = omega arith in e))
    ∙ go (is_in 0 first s) (is_in first count s) c (λ h. sym (ap (λ z. is_in z count s) (let e : 0 + first ≡ first = omega arith in e)) ∙ in_first 0 first count s h)
  where
    go : (a b c : Bool) → (a ≡ true → b ≡ false) → (((a || b) && c) && not (b && c)) ≡ (a && c)
    go true b true h = rw (h refl) refl
    go true b false h = refl
    go false true true h = refl
    go false true false h = refl
    go false false c h = refl

pub in_below : (n s : ℕ) (c : Bool) → (is_in 0 n s && c) ≡ true → s < n
unfolding is_in
in_below n s c h = below s n (both_of (nat_le 0 s) (nat_lt s (0 + n)) (both_of (nat_le 0 s && nat_lt s (0 + n)) c h).0).1
  where
    below : (a b : ℕ) → nat_lt a (0 + b) ≡ true → a < b
    below a b h = grind (arith, nat_tests)

-- the first numbers of a crew
numbers_all : (t : ℕ) (procs : List Running) → ((s : ℕ) (r : Running) → slice_get procs s ≡ Some r → (1 ≤ slice_index r.state.counts.next_numbers t) × (slice_index r.state.counts.next_numbers t < 2 ^ 63)) → All (λ n. (1 ≤ n) × (n < 2 ^ 63)) (numbers_to t procs)
numbers_all t [] h = All-nil (λ n. (1 ≤ n) × (n < 2 ^ 63))
numbers_all t (r ∷ rs) h = All-cons (λ n. (1 ≤ n) × (n < 2 ^ 63)) _ _ (h 0 r refl) (numbers_all t rs (λ p. h (suc p)))

length_numbers : (t : ℕ) (procs : List Running) → length (numbers_to t procs) ≡ length procs
length_numbers t [] = refl
length_numbers t (r ∷ rs) = ap suc (length_numbers t rs)

-- a lawful policy rules as one, wherever messages are kept
ruled_policy : (policy : Policy) (kept : QueueData) → IsPolicy policy → IsPolicy (ruled policy kept)
ruled_policy policy OnHeap h = tt
ruled_policy policy OffHeap h = h

pub first_setup : (policy : Policy) (kept : QueueData) (senders : List ℕ) (crew : List Running) (t : ℕ) (o : Opening) → IsPolicy policy → AreNumbered crew → t < length crew → o.count ≡ length crew → o.first ≡ numbers_to t crew →
    ((s : ℕ) → has senders s ≡ (is_in 0 (length crew) s && not (s == t))) → IsSetup (setup_of policy kept senders o)
first_setup policy kept senders crew t o policy_is numbered lt count first has_is = record {
  policy = ruled_policy policy kept policy_is;
  below = λ s h. subst (λ n. s < n) (sym count) (in_below (length crew) s (not (s == t)) (sym (has_is s) ∙ h));
  places = ap (λ (z : List ℕ). length z) first ∙ length_numbers t crew ∙ sym count;
  numbers = subst (All (λ n. (1 ≤ n) × (n < 2 ^ 63))) (sym first) (numbers_all t crew (λ s r at. numbered t s r at lt));
}

role_left : (first count p : ℕ) (r g : Bool) → r ≡ is_in 0 (first + count) p → g ≡ is_in first count p → (r && not g) ≡ is_in 0 first p
role_left first count p r g e h =
    ap (λ z. z && not g) e ∙ ap (λ z. is_in 0 (first + count) p && not z) h
    ∙ sym (ap (λ z. z && not (is_in first count p && true)) (with_true (is_in 0 (first + count) p)) ∙ ap (λ z. is_in 0 (first + count) p && not z) (with_true (is_in first count p)))
    ∙ head_left first count p true
    ∙ with_true (is_in 0 first p)
  where
    with_true : (a : Bool) → (a && true) ≡ a
    with_true true = refl
    with_true false = refl

none_either : (A : Type 0) (g : Bool) (xs : List A) → xs ≡ [] → (if g then [] else xs) ≡ []
none_either A true xs h = refl
none_either A false xs h = h

none_given : (A : Type 0) (g : Bool) (xs : List A) → xs ≡ [] → (if g then xs else []) ≡ []
none_given A true xs h = h
none_given A false xs h = refl

module _ (q : Queue) (first count p : ℕ) (given : List ℕ) (role : Bool) (v w : Seated) (f : IsFreshSeat q 0 (first + count) p v) (own : w.queue ≡ v.queue)
    (g : (s : ℕ) → has given s ≡ (is_in first count s && not (s == p))) (r : role ≡ is_in first count p) where
  pub still_fresh : w.knows ≡ left_of v.knows given role → IsFreshSeat q 0 first p w
  still_fresh l = record {
    queue = own ∙ f.queue;
    senders = λ s. ap (λ (z : Knows). has z.senders s) l ∙ has_minus v.knows.senders given s ∙ ap (λ z. z && not (has given s)) (f.senders s) ∙ ap (λ z. (is_in 0 (first + count) s && not (s == p)) && not z) (g s) ∙ head_left first count s (not (s == p));
    role = ap (λ (z : Knows). z.role) l ∙ role_left first count p v.knows.role role f.role r;
    put = ap (λ (z : Knows). z.put) l ∙ ap (λ z. keep putter (λ s. not (has given s)) z) f.put;
    taken = ap (λ (z : Knows). z.taken) l ∙ none_either _ role v.knows.taken f.taken;
  }

  pub now_fresh : w.knows ≡ right_of v.knows given role → IsFreshSeat q first count p w
  now_fresh l = record {
    queue = own ∙ f.queue;
    senders = λ s. ap (λ (z : Knows). has z.senders s) l ∙ g s;
    role = ap (λ (z : Knows). z.role) l ∙ r;
    put = ap (λ (z : Knows). z.put) l ∙ ap (λ z. keep putter (has given) z) f.put;
    taken = ap (λ (z : Knows). z.taken) l ∙ none_given _ role v.knows.taken f.taken;
  }

pub some_at : {X : Type 0} (xs : List X) (p : ℕ) → p < length xs → (x : X) × (slice_get xs p ≡ Some x)
some_at [] p h = absurd (let f : ⊥ = omega (arith, h) in f)
some_at (x ∷ xs) zero h = (x, refl)
some_at (x ∷ xs) (suc p) h = some_at xs p (omega (arith, h))
