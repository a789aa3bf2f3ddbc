-- Sets of pids, bit by bit.
use Rattle.std.proofs.Common.{◌≡◌, ◌≢◌, ℕ, zero, suc, ◌+◌, ◌/◌, ◌%◌, ◌<◌, ◌≤◌, ◌==◌, ◌&&◌, ◌||◌, ◌⊎◌, ltb, max, min, bit_or, bit_and, bit_xor, Bool, true, false, not, if◌then◌else◌, List, [], ◌∷◌, length, get_or, set, get_or-set_same, get_or-set_other, ◌*◌, ◌^◌, w64, eq-eqb, ne_eqb, ◌∙◌, sym, refl, ap, arith, inl, inr, ⊎_elim}
use Rattle.std.specs.Int.{bit_at}
use mathlib.Core.Logic.{dite}
use native.Mathlib.Decide.{ℕ_discrete}
use Rattle.std.proofs.lemmas.Nat.Bits.{bit_at_set_same, bit_at_set_other, bit_at_or, bit_at_and, bit_at_xor, bit_at-lt, bit_at-zero}
use Rattle.std.proofs.lemmas.Bool.{ltb-true, lt-ltb, cases_lt}
use Rattle.sig_layout.specs.Sets.{has, no_senders, minus, plus, first_from, least_from, least}
use Rattle.sig_layout.proofs.Sending.{and_left, not_both, bool_cases}

small : (x : ℕ) → x < 2 → (x ≡ 0) ⊎ (x ≡ 1)
small zero h = inl refl
small (suc zero) h = inr refl
small (suc (suc x)) h = absurd (omega arith)

max_test : (x y : ℕ) → x < 2 → y < 2 → (max x y == 1) ≡ ((x == 1) || (y == 1))
max_test zero zero h k = refl
max_test zero (suc zero) h k = refl
max_test (suc zero) zero h k = refl
max_test (suc zero) (suc zero) h k = refl
max_test x (suc (suc y)) h k = absurd (omega arith)
max_test (suc (suc x)) y h k = absurd (omega arith)

xor_test : (x y : ℕ) → x < 2 → y < 2 → ((x + min x y) % 2 == 1) ≡ ((x == 1) && not (y == 1))
xor_test zero zero h k = refl
xor_test zero (suc zero) h k = refl
xor_test (suc zero) zero h k = refl
xor_test (suc zero) (suc zero) h k = refl
xor_test x (suc (suc y)) h k = absurd (omega arith)
xor_test (suc (suc x)) y h k = absurd (omega arith)

or_bit : (a b k : ℕ) → (bit_at (bit_or a b) k == 1) ≡ ((bit_at a k == 1) || (bit_at b k == 1))
or_bit a b k = ap (λ (z : ℕ). z == 1) (bit_at_or a b k) ∙ max_test (bit_at a k) (bit_at b k) (bit_at-lt a k) (bit_at-lt b k)

minus_bit : (a b k : ℕ) → (bit_at (bit_xor a (bit_and a b)) k == 1) ≡ ((bit_at a k == 1) && not (bit_at b k == 1))
minus_bit a b k = ap (λ (z : ℕ). z == 1) (bit_at_xor a (bit_and a b) k ∙ ap (λ (z : ℕ). (bit_at a k + z) % 2) (bit_at_and a b k))
    ∙ xor_test (bit_at a k) (bit_at b k) (bit_at-lt a k) (bit_at-lt b k)

-- whether bit k of word w is set
abbrev at : List ℕ → ℕ → ℕ → Bool
at set w k = bit_at (get_or set w 0) k == 1

no_bit : (k : ℕ) → (bit_at 0 k == 1) ≡ false
no_bit k = ap (λ (z : ℕ). z == 1) (bit_at-zero k)

and_yes : (a : Bool) → a ≡ (a && true)
and_yes true = refl
and_yes false = refl

or_no : (a : Bool) → a ≡ (a || false)
or_no true = refl
or_no false = refl

or_yes : (a : Bool) → (a || true) ≡ true
or_yes true = refl
or_yes false = refl

minus_at : (xs ys : List ℕ) (w k : ℕ) → at (minus xs ys) w k ≡ (at xs w k && not (at ys w k))
minus_at [] ys w k = no_bit k ∙ sym (ap (λ (z : Bool). z && not (at ys w k)) (no_bit k))
minus_at (x ∷ xs) [] w k = and_yes (at (x ∷ xs) w k) ∙ sym (ap (λ (z : Bool). at (x ∷ xs) w k && not z) (no_bit k))
minus_at (x ∷ xs) (y ∷ ys) zero k = minus_bit x y k
minus_at (x ∷ xs) (y ∷ ys) (suc w) k = minus_at xs ys w k

plus_at : (xs ys : List ℕ) (w k : ℕ) → at (plus xs ys) w k ≡ (at xs w k || at ys w k)
plus_at [] ys w k = sym (ap (λ (z : Bool). z || at ys w k) (no_bit k))
plus_at (x ∷ xs) [] w k = or_no (at (x ∷ xs) w k) ∙ sym (ap (λ (z : Bool). at (x ∷ xs) w k || z) (no_bit k))
plus_at (x ∷ xs) (y ∷ ys) zero k = or_bit x y k
plus_at (x ∷ xs) (y ∷ ys) (suc w) k = plus_at xs ys w k

and_minus : (l a b : Bool) → (l && (a && not b)) ≡ ((l && a) && not (l && b))
and_minus true a b = refl
and_minus false a b = refl

and_plus : (l a b : Bool) → (l && (a || b)) ≡ ((l && a) || (l && b))
and_plus true a b = refl
and_plus false a b = refl

pub has_minus : (a b : List ℕ) (s : ℕ) → has (minus a b) s ≡ (has a s && not (has b s))
has_minus a b s = ap (λ (z : Bool). ltb s 256 && z) (minus_at a b (s / 64) (s % 64))
    ∙ and_minus (ltb s 256) (at a (s / 64) (s % 64)) (at b (s / 64) (s % 64))

pub has_plus : (a b : List ℕ) (s : ℕ) → has (plus a b) s ≡ (has a s || has b s)
has_plus a b s = ap (λ (z : Bool). ltb s 256 && z) (plus_at a b (s / 64) (s % 64))
    ∙ and_plus (ltb s 256) (at a (s / 64) (s % 64)) (at b (s / 64) (s % 64))

pub has_below : (set : List ℕ) (s : ℕ) → has set s ≡ true → s < 256
has_below set s h = ltb-true s 256 (and_left (ltb s 256) (at set (s / 64) (s % 64)) h)

no_word : (w : ℕ) → get_or no_senders w 0 ≡ 0
no_word zero = refl
no_word (suc zero) = refl
no_word (suc (suc zero)) = refl
no_word (suc (suc (suc zero))) = refl
no_word (suc (suc (suc (suc w)))) = refl

and_none : (a : Bool) → (a && false) ≡ false
and_none true = refl
and_none false = refl

pub no_one : (s : ℕ) → has no_senders s ≡ false
no_one s = ap (λ (z : ℕ). ltb s 256 && (bit_at z (s % 64) == 1)) (no_word (s / 64))
    ∙ (ap (λ (z : Bool). ltb s 256 && z) (no_bit (s % 64)) ∙ and_none (ltb s 256))

pub not_none : (s : ℕ) → has no_senders s ≡ true → ⊥
not_none s h = not_both (has no_senders s) h (no_one s)

-- the first place from k on that is in the set
first_le : (set : List ℕ) (n k s : ℕ) → k ≤ s → s < k + n → has set s ≡ true → first_from k n set ≤ s
first_le set zero k s a b h = absurd (omega arith)
first_le set (suc n) k s a b h = ⊎_elim
    (λ (t : has set k ≡ true). let e : first_from k (suc n) set ≡ k = ap
    (λ (z : Bool). if z then k else first_from (suc k) n set) t in omega arith)
    (λ (f : has set k ≡ false). let e : first_from k (suc n) set ≡ first_from (suc k) n set = ap
    (λ (z : Bool). if z then k else first_from (suc k) n set) f in
    let apart : s ≢ k = (λ (d : s ≡ k). not_both (has set k) (ap (has set) (sym d) ∙ h) f) in
    let r = first_le set n (suc k) s (omega arith) (omega arith) h in omega arith)
    (bool_cases (has set k))

first_has : (set : List ℕ) (n k : ℕ) → first_from k n set ≢ 256 → has set (first_from k n set) ≡ true
first_has set zero k d = absurd (d refl)
first_has set (suc n) k d = ⊎_elim
    (λ (t : has set k ≡ true). let e : first_from k (suc n) set ≡ k = ap
    (λ (z : Bool). if z then k else first_from (suc k) n set) t in ap (has set) e ∙ t)
    (λ (f : has set k ≡ false). let e : first_from k (suc n) set ≡ first_from (suc k) n set = ap
    (λ (z : Bool). if z then k else first_from (suc k) n set) f in ap (has set) e ∙ first_has set n (suc k) (λ c. d (e ∙ c)))
    (bool_cases (has set k))

-- the least pid of a set is in it, and no greater than any that is
pub least_le : (set : List ℕ) (s : ℕ) → has set s ≡ true → least set ≤ s
unfolding least_from
least_le set s h = let b = has_below set s h in first_le set 256 0 s (omega arith) (omega arith) h

pub least_of : (set : List ℕ) (s : ℕ) → has set s ≡ true → least set < 256
least_of set s h = let b = has_below set s h in let r = least_le set s h in omega arith

pub least_has : (set : List ℕ) → least set ≢ 256 → has set (least set) ≡ true
unfolding least_from
least_has set d = first_has set 256 0 d

-- a pid that is in the set, where none below it is
least_at : (set : List ℕ) (pid : ℕ) → has set pid ≡ true → ((s : ℕ) → s < pid → has set s ≡ false) → least set ≡ pid
least_at set pid h none = let below = has_below set pid h in let le = least_le set pid h in
    ⊎_elim
    (λ (lt : least set < pid). absurd (not_both (has set (least set)) (least_has set (λ e. omega arith)) (none (least set) lt)))
    (λ (ge : pid ≤ least set). omega arith)
    (cases_lt (least set) pid)

-- no word below this one has a pid
abbrev pub NoneBelow : ℕ → List ℕ → Type 0
NoneBelow w set = (s : ℕ) → s < w * 64 → has set s ≡ false

-- a pid whose bit is 0 is not in the set
no_bit_set : (set : List ℕ) (word w s : ℕ) → get_or set w 0 ≡ word → s / 64 ≡ w → bit_at word (s % 64) ≡ 0 → has set s ≡ false
no_bit_set set word w s is e none = ap (λ (z : ℕ). ltb s 256 && (bit_at (get_or set z 0) (s % 64) == 1)) e
    ∙ (ap (λ (z : ℕ). ltb s 256 && (bit_at z (s % 64) == 1)) is
    ∙ (ap (λ (z : ℕ). ltb s 256 && (z == 1)) none ∙ and_none (ltb s 256)))

-- and one whose bit is 1 is
bit_set : (set : List ℕ) (word w k : ℕ) → w < 4 → k < 64 → get_or set w 0 ≡ word → bit_at word k ≡ 1 → has set (w * 64 + k) ≡ true
bit_set set word w k low small is one = let pid : ℕ = w * 64 + k in let e : pid / 64 ≡ w = omega arith in let r : pid % 64 ≡ k = omega arith in
    ap (λ (z : Bool). z && (bit_at (get_or set (pid / 64) 0) (pid % 64) == 1)) (lt-ltb pid 256 (omega arith))
    ∙ (ap (λ (z : ℕ). bit_at (get_or set z 0) (pid % 64) == 1) e
    ∙ (ap (λ (z : ℕ). bit_at (get_or set w 0) z == 1) r
    ∙ (ap (λ (z : ℕ). bit_at z k == 1) is ∙ ap (λ (z : ℕ). z == 1) one)))

pub none_more : (set : List ℕ) (word w : ℕ) → get_or set w 0 ≡ word → word ≡ 0 → NoneBelow w set → NoneBelow (w + 1) set
none_more set word w is empty before s low = ⊎_elim
    (λ (lt : s < w * 64). before s lt)
    (λ (ge : w * 64 ≤ s). no_bit_set set word w s is (omega arith) (ap (λ (z : ℕ). bit_at z (s % 64)) empty ∙ bit_at-zero (s % 64)))
    (cases_lt s (w * 64))

-- the lowest 1 of the first word that isn't 0 is the least pid
pub least_word : (set : List ℕ) (word w k : ℕ) → w < 4 → k < 64 → get_or set w 0 ≡ word → bit_at word k ≡ 1
    → ((i : ℕ) → i < k → bit_at word i ≡ 0) → NoneBelow w set → least set ≡ w * 64 + k
least_word set word w k low small is one zeros before = least_at set (w * 64 + k) (bit_set set word w k low small is one) (λ s up. ⊎_elim
    (λ (lt : s < w * 64). before s lt)
    (λ (ge : w * 64 ≤ s). no_bit_set set word w s is (omega arith) (zeros (s % 64) (omega arith)))
    (cases_lt s (w * 64)))

pub least_none : (set : List ℕ) (w : ℕ) → 4 ≤ w → NoneBelow w set → least set ≡ 256
least_none set w all none = dite (ℕ_discrete (least set) 256)
    (λ e. e)
    (λ n. let h = least_has set n in let b = has_below set (least set) h in
    absurd (not_both (has set (least set)) h (none (least set) (omega arith))))

-- one pid more
pub has_with : (words : List ℕ) (pid s : ℕ) → length words ≡ 4 → pid < 256
    → has (set words (pid / 64) (bit_or (get_or words (pid / 64) 0) (1 * 2 ^ (pid % 64) % 2 ^ 64))) s ≡ (has words s || (s == pid))
has_with words pid s len small = let w : ℕ = pid / 64 in let word : ℕ = get_or words w 0 in
    let new : ℕ = bit_or word (1 * 2 ^ (pid % 64) % 2 ^ 64) in dite (ℕ_discrete s pid)
    (λ e. let here : has (set words w new) pid ≡ true = ap (λ (z : ℕ). ltb pid 256 && (bit_at z (pid % 64) == 1))
    (get_or-set_same words w new 0 (omega arith))
    ∙ (ap (λ (z : ℕ). ltb pid 256 && (z == 1)) (bit_at_set_same w64 word (pid % 64) (omega arith))
    ∙ ap (λ (z : Bool). z && true) (lt-ltb pid 256 small)) in
    ap (has (set words w new)) e ∙ (here ∙ sym (ap (λ (z : Bool). has words s || z) (eq-eqb s pid e) ∙ or_yes (has words s))))
    (λ n. (dite (ℕ_discrete (s / 64) w)
    (λ e. ap (λ (z : ℕ). ltb s 256 && (bit_at z (s % 64) == 1)) (ap (λ (z : ℕ). get_or (set words w new) z 0) e
    ∙ get_or-set_same words w new 0 (omega arith))
    ∙ (ap (λ (z : ℕ). ltb s 256 && (z == 1)) (bit_at_set_other w64 word (pid % 64) (omega arith) (s % 64) (λ k. n (omega arith)))
    ∙ ap (λ (z : ℕ). ltb s 256 && (bit_at z (s % 64) == 1)) (ap (λ (z : ℕ). get_or words z 0) (sym e))))
    (λ d. ap (λ (z : ℕ). ltb s 256 && (bit_at z (s % 64) == 1)) (get_or-set_other words w (s / 64) new 0 d)))
    ∙ (or_no (has words s) ∙ sym (ap (λ (z : Bool). has words s || z) (ne_eqb s pid n))))
