-- Lists of numbers that count up, and lists whose values never fall.
use Rattle.std.proofs.Common.{◌≡◌, ℕ, zero, suc, ◌+◌, ◌<◌, ◌≤◌, true, false, cond, List, [], ◌∷◌, map, length, get_or, refl, sym, ap, ◌∙◌, subst, ⊎_elim, arith}
use Rattle.std.specs.Prelude.{◌==◌, slice_get, is_some}
use Rattle.std.specs.List.{filter_map, cons_option}
use Rattle.std.specs.List.Sorted.{IsNonDecreasingBy}
use Rattle.std.proofs.lemmas.Bool.{eq-eqb, ne_eqb, cases_eq, cases_lt, cases_order}

abbrev pub count_of : ℕ → List ℕ → ℕ
count_of k [] = 0
count_of k (x ∷ xs) = cond (x == k) 1 0 + count_of k xs

count_of-same : (k : ℕ) (xs : List ℕ) → count_of k (k ∷ xs) ≡ 1 + count_of k xs
count_of-same k xs = ap (λ c. cond c 1 0 + count_of k xs) (eq-eqb k k refl)

count_of-other : (k x : ℕ) (xs : List ℕ) → (x ≡ k → ⊥) → count_of k (x ∷ xs) ≡ count_of k xs
count_of-other k x xs h = let e : count_of k (x ∷ xs) ≡ 0 + count_of k xs = ap (λ c. cond c 1 0 + count_of k xs) (ne_eqb x k h) in omega arith

-- the numbers from b on, n of them
abbrev pub count_up : ℕ → ℕ → List ℕ
count_up b zero = []
count_up b (suc n) = b ∷ count_up (suc b) n

-- each element has at least the value v
abbrev pub Least : {A : Type 0} → (A → ℕ) → ℕ → List A → Type 0
Least f v [] = Unit {0}
Least f v (x ∷ xs) = (v ≤ f x) × Least f v xs

abbrev pub Ascends : {A : Type 0} → (A → ℕ) → List A → Type 0
Ascends f [] = Unit {0}
Ascends f (x ∷ xs) = Least f (f x) xs × Ascends f xs

least_at : (f : ℕ → ℕ) (v b : ℕ) (xs : List ℕ) → Least f v xs → 1 ≤ count_of b xs → v ≤ f b
least_at f v b [] h c = absurd (omega arith)
least_at f v b (x ∷ xs) h c =
    ⊎_elim
    (λ e. subst (λ z. v ≤ f z) e h.0)
    (λ n. let o : count_of b (x ∷ xs) ≡ count_of b xs = count_of-other b x xs n in least_at f v b xs h.1 (omega arith))
    (cases_eq x b)

-- a list that has each number from b up to the end once, where f rises strictly and the list's values never fall
pub is_count_up : (f : ℕ → ℕ) (end : ℕ) → ((i j : ℕ) → i < j → j < end → f i < f j) → (xs : List ℕ) (b n : ℕ) → b + n ≡ end → Ascends f xs →
    ((k : ℕ) → b ≤ k → k < end → count_of k xs ≡ 1) → ((k : ℕ) → k < b → count_of k xs ≡ 0) → ((k : ℕ) → end ≤ k → count_of k xs ≡ 0) → xs ≡ count_up b n
is_count_up f end up [] b zero e a in' below past = refl
is_count_up f end up [] b (suc n) e a in' below past = let h : count_of b [] ≡ 1 = in' b (omega arith) (omega arith) in absurd (omega arith)
is_count_up f end up (x ∷ xs) b zero e a in' below past =
    let s : count_of x (x ∷ xs) ≡ 1 + count_of x xs = count_of-same x xs in
    ⊎_elim
    (λ l. let z : count_of x (x ∷ xs) ≡ 0 = below x l in absurd (omega arith))
    (λ l. let z : count_of x (x ∷ xs) ≡ 0 = past x (omega arith) in absurd (omega arith))
    (cases_lt x b)
is_count_up f end up (x ∷ xs) b (suc n) e a in' below past =
    let s : count_of x (x ∷ xs) ≡ 1 + count_of x xs = count_of-same x xs in
    let first : x ≡ b =
    ⊎_elim (λ q. q)
    (λ w. ⊎_elim
    (λ l. let z : count_of x (x ∷ xs) ≡ 0 = below x l in absurd (omega arith))
    (λ l.
    let c : count_of b (x ∷ xs) ≡ 1 = in' b (omega arith) (omega arith) in
    let o : count_of b (x ∷ xs) ≡ count_of b xs = count_of-other b x xs (λ q. omega arith) in
    let low : f x ≤ f b = least_at f (f x) b xs a.0 (omega arith) in
    ⊎_elim
    (λ m. let high : f b < f x = up b x l m in absurd (omega arith))
    (λ m. let z : count_of x (x ∷ xs) ≡ 0 = past x m in absurd (omega arith))
    (cases_lt x end))
    w)
    (cases_order x b) in
    let rest : xs ≡ count_up (suc b) n =
    is_count_up f end up xs (suc b) n (omega arith) a.1
    (λ k l m. let o : count_of k (x ∷ xs) ≡ count_of k xs = count_of-other k x xs (λ q. omega arith) in let c : count_of k (x ∷ xs) ≡ 1 = in' k (omega arith) m in omega arith)
    (λ k l. ⊎_elim
    (λ m. let z : count_of k (x ∷ xs) ≡ 0 = below k m in let o : count_of k (x ∷ xs) ≡ count_of k xs = count_of-other k x xs (λ q. omega arith) in omega arith)
    (λ m.
    let q : k ≡ x = omega arith in
    let c : count_of x (x ∷ xs) ≡ 1 = in' x (omega arith) (omega arith) in
    let z : count_of x xs ≡ 0 = omega arith in
    subst (λ v. count_of v xs ≡ 0) (sym q) z)
    (cases_lt k b))
    (λ k l. let z : count_of k (x ∷ xs) ≡ 0 = past k l in let o : count_of k (x ∷ xs) ≡ count_of k xs = count_of-other k x xs (λ q. omega arith) in omega arith) in
    cc

-- what stands at the places of a list, one after another
filter_map_suc : {A : Type 0} (x : A) (xs : List A) (ks : List ℕ) → filter_map (λ k. slice_get (x ∷ xs) k) (map suc ks) ≡ filter_map (λ k. slice_get xs k) ks
filter_map_suc x xs [] = refl
filter_map_suc x xs (k ∷ ks) = ap (λ z. cons_option (slice_get xs k) z) (filter_map_suc x xs ks)

count_up-suc : (b n : ℕ) → count_up (suc b) n ≡ map suc (count_up b n)
count_up-suc b zero = refl
count_up-suc b (suc n) = ap (λ z. suc b ∷ z) (count_up-suc (suc b) n)

pub all_places : {A : Type 0} (xs : List A) → filter_map (λ k. slice_get xs k) (count_up 0 (length xs)) ≡ xs
all_places [] = refl
all_places (x ∷ xs) =
    ap (λ z. x ∷ z) (ap (λ z. filter_map (λ k. slice_get (x ∷ xs) k) z) (count_up-suc 0 (length xs)) ∙ filter_map_suc x xs (count_up 0 (length xs)) ∙ all_places xs)

-- from the order of neighbours
pub least_from : {A : Type 0} (f : A → ℕ) (x : A) (xs : List A) → ((j : ℕ) (d : A) → j < length xs → f x ≤ f (get_or xs j d)) → Least f (f x) xs
least_from f x [] h = tt
least_from f x (y ∷ ys) h = (h 0 y (omega arith), least_from f x ys (λ j d l. h (suc j) d (omega arith)))

pub ascends_from : {A : Type 0} (f : A → ℕ) (xs : List A) → IsNonDecreasingBy f xs → Ascends f xs
ascends_from f [] h = tt
ascends_from f (x ∷ xs) h = (
  least_from f x xs (λ j d l. h 0 (suc j) d (omega arith) (omega arith)),
  ascends_from f xs (λ i j d l m. h (suc i) (suc j) d (omega arith) (omega arith)),
)

pub is_some_within : {A : Type 0} (xs : List A) (k : ℕ) → k < length xs → is_some (slice_get xs k) ≡ true
is_some_within [] k h = absurd (omega arith)
is_some_within (x ∷ xs) zero h = refl
is_some_within (x ∷ xs) (suc k) h = is_some_within xs k (omega arith)

pub is_some_past : {A : Type 0} (xs : List A) (k : ℕ) → length xs ≤ k → is_some (slice_get xs k) ≡ false
is_some_past [] k h = refl
is_some_past (x ∷ xs) zero h = absurd (omega arith)
is_some_past (x ∷ xs) (suc k) h = is_some_past xs k (omega arith)
