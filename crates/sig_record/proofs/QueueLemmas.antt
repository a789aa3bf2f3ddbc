-- The signals that wait, sorted by sender and then number.
use Rattle.std.proofs.Common.{◌≡◌, ℕ, zero, suc, ◌<◌, ◌≤◌, Bool, true, false, cond, ◌&&◌, ◌||◌, List, [], ◌∷◌, ◌++◌, get_or, filter, nat_cmp, is_lt, refl, sym, ap, ◌∙◌, subst, inl, inr, ◌⊎◌, arith, append_assoc}
use Rattle.std.specs.Prelude.{◌==◌, nat_lt}
use Rattle.std.specs.Ordering.{ordering_then}
use Rattle.std.specs.declared.cmp.Ordering.{Ordering}
use Rattle.std.specs.declared.cmp.Ordering.TheVariants.{Less, Equal, Greater}
use Rattle.std.specs.List.{All}
use Rattle.std.specs.List.Sorted.{ties, IsSortedBy, IsStableBy, IsSortedByKey, IsStableByKey, IsNonDecreasingBy}
use Rattle.std.specs.Cmp.{IsStrictWeakOrder}
use Rattle.std.proofs.lemmas.Cmp.{nat_cmp_total, on_total, then_total}
use Rattle.std.proofs.lemmas.Bool.{cond-true, cond-false, cases_Bool, cases_lt, and_left, and_right, or_from, or_parts, ltb-false, le-ltb, eqb-true, eq-eqb, ne_eqb, true≢false, and_parts, not-true}
use Rattle.std.proofs.lemmas.List.Sorted.{ranks_by}
use Rattle.std.proofs.lemmas.List.Elements.{All-head, All-tail, All-nil, All-append, All-weaker, All-get_or, filter-append, filter_passes}
use Rattle.std.proofs.lemmas.List.{append-nil}
use Rattle.sig_kinds.specs.declared.signal.Signal.{Signal}
use Rattle.sig_record.specs.Sorting.{sorted_by, is_lower}
use Rattle.sig_record.specs.RecordOf.{is_from, queued_below}
use Rattle.sig_record.proofs.SortLemmas.{Rises, AllAhead, IsAhead, rises_append, rises_far, is_sorted, sort_gives, sorted_rises}

-- what a signal is sorted by
abbrev pub sender_and_number : Signal → ℕ × ℕ
sender_and_number x = (x.from.0, x.number)

abbrev pair_cmp : ℕ × ℕ → ℕ × ℕ → Ordering
pair_cmp a b = ordering_then (nat_cmp a.0 b.0) (nat_cmp a.1 b.1)

first_or_second : (l e m f : Bool) → is_lt (ordering_then (cond l Less (cond e Equal Greater)) (cond m Less (cond f Equal Greater))) ≡ (l || (e && m))
first_or_second true e m f = refl
first_or_second false true true f = refl
first_or_second false true false true = refl
first_or_second false true false false = refl
first_or_second false false m f = refl

lower_is : ◌≡◌ {A = Signal → Signal → Bool} (λ x y. is_lt (pair_cmp (sender_and_number x) (sender_and_number y))) is_lower
lower_is = λ i x y. first_or_second (nat_lt x.from.0 y.from.0) (x.from.0 == y.from.0) (nat_lt x.number y.number) (x.number == y.number) i

pub is_lower_order : IsStrictWeakOrder is_lower
is_lower_order =
    subst IsStrictWeakOrder lower_is
    (ranks_by {R = pair_cmp} (then_total (on_total (λ (p : ℕ × ℕ). p.0) nat_cmp_total) (on_total (λ (p : ℕ × ℕ). p.1) nat_cmp_total)) sender_and_number)

-- what the sort by sender and number gives
pub sort_by_pairs : (xs ys : List Signal) → IsSortedByKey sender_and_number pair_cmp ys → IsStableByKey sender_and_number pair_cmp xs ys → ys ≡ sorted_by is_lower xs
sort_by_pairs xs ys sorted stable =
    sort_gives is_lower is_lower_order xs ys (subst (λ (l : Signal → Signal → Bool). IsSortedBy l ys) lower_is sorted) (subst (λ (l : Signal → Signal → Bool). IsStableBy l xs ys) lower_is stable)

pub sorted_signals_rise : (xs : List Signal) → IsSortedBy is_lower (sorted_by is_lower xs)
sorted_signals_rise = sorted_rises is_lower is_lower_order

-- a filter that keeps all, or none
pub filter_all : {X : Type 0} (p : X → Bool) (xs : List X) → All (λ x. p x ≡ true) xs → filter p xs ≡ xs
filter_all p [] h = refl
filter_all p (x ∷ xs) h = cond-true (p x) _ _ (All-head (λ x. p x ≡ true) x xs h) ∙ ap (λ ys. x ∷ ys) (filter_all p xs (All-tail (λ x. p x ≡ true) x xs h))

pub filter_none : {X : Type 0} (p : X → Bool) (xs : List X) → All (λ x. p x ≡ false) xs → filter p xs ≡ []
filter_none p [] h = refl
filter_none p (x ∷ xs) h = cond-false (p x) _ _ (All-head (λ x. p x ≡ false) x xs h) ∙ filter_none p xs (All-tail (λ x. p x ≡ false) x xs h)

-- a filter by less than another one
filter_within : {X : Type 0} (p q : X → Bool) → ((x : X) → p x ≡ true → q x ≡ true) → (xs : List X) → filter p xs ≡ filter p (filter q xs)
filter_within p q less [] = refl
filter_within {X} p q less (x ∷ xs) =
    elim (cases_Bool (q x)) [
      | inl inside ↦ ap (λ (ys : List X). cond (p x) (x ∷ ys) ys) (filter_within p q less xs) ∙ ap (filter p) (sym (cond-true (q x) (x ∷ filter q xs) (filter q xs) inside))
      | inr outside ↦
          elim (cases_Bool (p x)) [
            | inl both ↦ absurd (true≢false (sym (less x both) ∙ outside))
            | inr neither ↦ cond-false (p x) _ _ neither ∙ filter_within p q less xs ∙ ap (filter p) (sym (cond-false (q x) (x ∷ filter q xs) (filter q xs) outside))
          ]
    ]

-- signals that tie are of one sender
same_sender : (x y : Signal) → ties is_lower x y ≡ true → is_from x.from.0 y ≡ true
same_sender x y h =
    let parts = and_parts _ _ h in
    let up : y.from.0 ≤ x.from.0 = ltb-false x.from.0 y.from.0 (or_parts _ _ (not-true _ parts.0)).0 in
    let down : x.from.0 ≤ y.from.0 = ltb-false y.from.0 x.from.0 (or_parts _ _ (not-true _ parts.1)).0 in
    eq-eqb y.from.0 x.from.0 (omega arith)

not_lower_sender : (y x : Signal) → x.from.0 < y.from.0 → is_lower y x ≡ false
not_lower_sender y x h = or_from _ _ (le-ltb y.from.0 x.from.0 (omega arith)) (and_left _ _ (ne_eqb y.from.0 x.from.0 (λ e. omega arith)))

not_lower_number : (y x : Signal) → y.from.0 ≡ x.from.0 → x.number ≤ y.number → is_lower y x ≡ false
not_lower_number y x e h = or_from _ _ (le-ltb y.from.0 x.from.0 (omega arith)) (and_right (y.from.0 == x.from.0) _ (le-ltb y.number x.number h))

queued_next : (n : ℕ) (own others : List Signal) → queued_below (suc n) own others ≡ queued_below n own others ++ filter (is_from n) (own ++ others)
unfolding queued_below
queued_next n own others =
    append_assoc (queued_below n own others) (filter (is_from n) own) (filter (is_from n) others)
    ∙ ap (λ (zs : List Signal). queued_below n own others ++ zs) (sym (filter-append (is_from n) own others))

queued_none : (own others : List Signal) → queued_below zero own others ≡ []
unfolding queued_below
queued_none own others = refl

from_sender : (n : ℕ) (xs : List Signal) → All (λ (x : Signal). x.from.0 ≡ n) (filter (is_from n) xs)
from_sender n xs = All-weaker (λ (x : Signal). is_from n x ≡ true) (λ (x : Signal). x.from.0 ≡ n) (λ x h. eqb-true x.from.0 n h) _ (filter_passes (is_from n) xs)

queued_from : (n : ℕ) (own others : List Signal) → All (λ (x : Signal). x.from.0 < n) (queued_below n own others)
queued_from zero own others = subst (All (λ (x : Signal). x.from.0 < zero)) (sym (queued_none own others)) (All-nil _)
queued_from (suc n) own others =
    subst (All (λ (x : Signal). x.from.0 < suc n)) (sym (queued_next n own others))
    (All-append (λ (x : Signal). x.from.0 < suc n) (queued_below n own others) (filter (is_from n) (own ++ others))
    (All-weaker (λ (x : Signal). x.from.0 < n) (λ (x : Signal). x.from.0 < suc n) (λ x h. omega arith) _ (queued_from n own others))
    (All-weaker (λ (x : Signal). x.from.0 ≡ n) (λ (x : Signal). x.from.0 < suc n) (λ x h. omega arith) _ (from_sender n (own ++ others))))

-- none is of a sender that isn't below
queued_past : (s n : ℕ) (own others : List Signal) → n ≤ s → filter (is_from s) (queued_below n own others) ≡ []
queued_past s n own others le =
    filter_none (is_from s) (queued_below n own others) (All-weaker (λ (x : Signal). x.from.0 < n) (λ (x : Signal). is_from s x ≡ false) (λ x h. ne_eqb x.from.0 s (λ e. omega arith)) _ (queued_from n own others))

-- those of a sender below are all that it has
queued_inside : (s n : ℕ) (own others : List Signal) → s < n → filter (is_from s) (queued_below n own others) ≡ filter (is_from s) (own ++ others)
queued_inside s zero own others lt = absurd (omega arith)
queued_inside s (suc n) own others lt =
    ap (filter (is_from s)) (queued_next n own others) ∙ filter-append (is_from s) (queued_below n own others) (filter (is_from n) (own ++ others))
    ∙ elim (cases_lt s n) [
      | inl below ↦
          ap (λ (zs : List Signal). zs ++ filter (is_from s) (filter (is_from n) (own ++ others))) (queued_inside s n own others below)
          ∙ ap (λ (zs : List Signal). filter (is_from s) (own ++ others) ++ zs)
          (filter_none (is_from s) (filter (is_from n) (own ++ others)) (All-weaker (λ (x : Signal). x.from.0 ≡ n) (λ (x : Signal). is_from s x ≡ false) (λ x h. ne_eqb x.from.0 s (λ e. omega arith)) _ (from_sender n (own ++ others))))
          ∙ append-nil (filter (is_from s) (own ++ others))
      | inr last ↦
          let same : n ≡ s = omega arith in
          ap (λ (zs : List Signal). zs ++ filter (is_from s) (filter (is_from n) (own ++ others))) (queued_past s n own others last)
          ∙ filter_all (is_from s) (filter (is_from n) (own ++ others)) (All-weaker (λ (x : Signal). x.from.0 ≡ n) (λ (x : Signal). is_from s x ≡ true) (λ x h. eq-eqb x.from.0 s (h ∙ same)) _ (from_sender n (own ++ others)))
          ∙ ap (λ (m : ℕ). filter (is_from m) (own ++ others)) same
    ]

-- signals that tie stand as they stood
queued_stable : (n : ℕ) (own others : List Signal) → All (λ (x : Signal). x.from.0 < n) (own ++ others) → IsStableBy is_lower (own ++ others) (queued_below n own others)
queued_stable n own others below x =
    filter_within (ties is_lower x) (is_from x.from.0) (same_sender x) (queued_below n own others)
    ∙ ap (filter (ties is_lower x)) (its_sender (cases_lt x.from.0 n))
    ∙ sym (filter_within (ties is_lower x) (is_from x.from.0) (same_sender x) (own ++ others))
  where
    its_sender : (x.from.0 < n) ⊎ (n ≤ x.from.0) → filter (is_from x.from.0) (queued_below n own others) ≡ filter (is_from x.from.0) (own ++ others)
    its_sender (inl inside) = queued_inside x.from.0 n own others inside
    its_sender (inr past) =
        queued_past x.from.0 n own others past
        ∙ sym (filter_none (is_from x.from.0) (own ++ others) (All-weaker (λ (y : Signal). y.from.0 < n) (λ (y : Signal). is_from x.from.0 y ≡ false) (λ y h. ne_eqb y.from.0 x.from.0 (λ e. omega arith)) _ below))

ahead_of_sender : (n : ℕ) (x : Signal) (ys : List Signal) → x.from.0 < n → All (λ (y : Signal). y.from.0 ≡ n) ys → IsAhead is_lower x ys
ahead_of_sender n x [] h all = tt
ahead_of_sender n x (y ∷ ys) h all =
    let its : y.from.0 ≡ n = All-head (λ (y : Signal). y.from.0 ≡ n) y ys all in
    (not_lower_sender y x (omega arith), ahead_of_sender n x ys h (All-tail (λ (y : Signal). y.from.0 ≡ n) y ys all))

all_ahead : (n : ℕ) (xs ys : List Signal) → All (λ (x : Signal). x.from.0 < n) xs → All (λ (y : Signal). y.from.0 ≡ n) ys → AllAhead is_lower xs ys
all_ahead n [] ys below all = tt
all_ahead n (x ∷ xs) ys below all = (ahead_of_sender n x ys (All-head (λ (x : Signal). x.from.0 < n) x xs below) all, all_ahead n xs ys (All-tail (λ (x : Signal). x.from.0 < n) x xs below) all)

-- signals of one sender by ascending number
one_sender_rises : (n : ℕ) (zs : List Signal) → All (λ (x : Signal). x.from.0 ≡ n) zs → IsNonDecreasingBy (λ (x : Signal). x.number) zs → Rises is_lower zs
one_sender_rises n zs from ascending =
    rises_far is_lower is_lower_order zs (λ i j d le lt.
    let a : (get_or zs i d).from.0 ≡ n = All-get_or (λ (x : Signal). x.from.0 ≡ n) zs i d (omega arith) from in
    let b : (get_or zs j d).from.0 ≡ n = All-get_or (λ (x : Signal). x.from.0 ≡ n) zs j d lt from in
    not_lower_number (get_or zs j d) (get_or zs i d) (b ∙ sym a) (ascending i j d le lt))

queued_rises : (n : ℕ) (own others : List Signal) → ((s : ℕ) → IsNonDecreasingBy (λ (x : Signal). x.number) (filter (is_from s) (own ++ others))) → Rises is_lower (queued_below n own others)
queued_rises zero own others ascending = subst (Rises is_lower) (sym (queued_none own others)) tt
queued_rises (suc n) own others ascending =
    subst (Rises is_lower) (sym (queued_next n own others))
    (rises_append is_lower (queued_below n own others) (filter (is_from n) (own ++ others)) (queued_rises n own others ascending)
    (one_sender_rises n (filter (is_from n) (own ++ others)) (from_sender n (own ++ others)) (ascending n))
    (all_ahead n (queued_below n own others) (filter (is_from n) (own ++ others)) (queued_from n own others) (from_sender n (own ++ others))))

-- Where the signals of each sender stand by ascending number, the sorted ones are those by ascending sender.
pub sorted_is_queued : (n : ℕ) (own others : List Signal) → ((s : ℕ) → IsNonDecreasingBy (λ (x : Signal). x.number) (filter (is_from s) (own ++ others))) → All (λ (x : Signal). x.from.0 < n) (own ++ others) →
    sorted_by is_lower (own ++ others) ≡ queued_below n own others
sorted_is_queued n own others ascending below =
    sym (is_sorted is_lower is_lower_order (own ++ others) (queued_below n own others) (queued_rises n own others ascending) (queued_stable n own others below))
