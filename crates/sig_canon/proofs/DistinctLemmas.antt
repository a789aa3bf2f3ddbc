-- Names of which no two are equal, and labels whose places never fall.
use Rattle.std.proofs.Common.{◌≡◌, ◌≢◌, ℕ, ◌≤◌, List, [], ◌∷◌, ◌++◌, map, All, Bool, true, false, ◌||◌, refl}
use Rattle.std.specs.List.{list_any}
use Rattle.std.specs.Str.{bytes_eq}
use Rattle.std.proofs.lemmas.Slice.Eq.{bytes_eq-Decides}
use Rattle.std.proofs.lemmas.List.Elements.{All-nil, All-cons, All-head, All-tail, All-push}
use Rattle.sig_program.specs.declared.label.Label.{Label}
use Rattle.sig_program.specs.Scripts.{AreRising}
use Rattle.sig_canon.specs.ReadableScript.{AreDistinct}

pub distinct-first : (name : List ℕ) (names : List (List ℕ)) → AreDistinct (name ∷ names) → All (λ other. name ≢ other) names
distinct-first name names (AreDistinct.more h k) = h

pub distinct-rest : (name : List ℕ) (names : List (List ℕ)) → AreDistinct (name ∷ names) → AreDistinct names
distinct-rest name names (AreDistinct.more h k) = k

pub rising-first : (label : Label) (labels : List Label) → AreRising (label ∷ labels) → All (λ (other : Label). label.place ≤ other.place) labels
rising-first label labels (AreRising.more h k) = h

pub rising-rest : (label : Label) (labels : List Label) → AreRising (label ∷ labels) → AreRising labels
rising-rest label labels (AreRising.more h k) = k

-- of each item before others, and of each behind
pub all_before : {A : Type 0} (P : A → Type 0) (xs ys : List A) → All P (xs ++ ys) → All P xs
all_before P [] ys h = All-nil P
all_before P (x ∷ xs) ys h = All-cons P x xs (All-head P x (xs ++ ys) h) (all_before P xs ys (All-tail P x (xs ++ ys) h))

pub all_after : {A : Type 0} (P : A → Type 0) (xs ys : List A) → All P (xs ++ ys) → All P ys
all_after P [] ys h = h
all_after P (x ∷ xs) ys h = all_after P xs ys (All-tail P x (xs ++ ys) h)

-- one more at the end
pub distinct-push : (names : List (List ℕ)) (name : List ℕ) → AreDistinct names → All (λ other. other ≢ name) names → AreDistinct (names ++ name ∷ [])
distinct-push [] name d h = AreDistinct.more (All-nil (λ other. name ≢ other)) AreDistinct.none
distinct-push (first ∷ names) name d h =
    AreDistinct.more (All-push (λ other. first ≢ other) names name (distinct-first first names d) (All-head (λ other. other ≢ name) first names h))
    (distinct-push names name (distinct-rest first names d) (All-tail (λ other. other ≢ name) first names h))

-- the name isn't among those of the items, by the test
neither : (a b : Bool) → (a || b) ≡ false → (a ≡ false) × (b ≡ false)
neither true b h = absurd cc
neither false b h = (refl, h)

other-name : (a b : List ℕ) → bytes_eq a b ≡ false → a ≢ b
other-name a b h e = let yes : bytes_eq a b ≡ true = (bytes_eq-Decides a b).1 e in cc

same-test : (a b : List ℕ) (v : Bool) → bytes_eq a b ≡ v → a ≢ b → v ≡ false
same-test a b true h k = absurd (k ((bytes_eq-Decides a b).0 h))
same-test a b false h k = refl

pub free_name : {A : Type 0} (name_of : A → List ℕ) (xs : List A) (name : List ℕ) → list_any (λ x. bytes_eq (name_of x) name) xs ≡ false → All (λ other. other ≢ name) (map name_of xs)
free_name name_of [] name h = All-nil (λ other. other ≢ name)
free_name name_of (x ∷ xs) name h =
    let parts = neither (bytes_eq (name_of x) name) (list_any (λ y. bytes_eq (name_of y) name) xs) h in
    All-cons (λ other. other ≢ name) (name_of x) (map name_of xs) (other-name (name_of x) name parts.0) (free_name name_of xs name parts.1)

pub name_free : {A : Type 0} (name_of : A → List ℕ) (xs : List A) (name : List ℕ) → All (λ other. other ≢ name) (map name_of xs) → list_any (λ x. bytes_eq (name_of x) name) xs ≡ false
name_free name_of [] name h = refl
name_free name_of (x ∷ xs) name h =
    let first : bytes_eq (name_of x) name ≡ false = same-test (name_of x) name (bytes_eq (name_of x) name) refl (All-head (λ other. other ≢ name) (name_of x) (map name_of xs) h) in
    rw (first, name_free name_of xs name (All-tail (λ other. other ≢ name) (name_of x) (map name_of xs) h)) refl

-- a name differs from those before it
pub distinct-before : (before : List (List ℕ)) (name : List ℕ) (after : List (List ℕ)) → AreDistinct (before ++ name ∷ after) → All (λ other. other ≢ name) before
distinct-before [] name after d = All-nil (λ other. other ≢ name)
distinct-before (first ∷ before) name after d =
    All-cons (λ other. other ≢ name) first before (among before (distinct-first first (before ++ name ∷ after) d)) (distinct-before before name after (distinct-rest first (before ++ name ∷ after) d))
  where
    among : (before : List (List ℕ)) → All (λ other. first ≢ other) (before ++ name ∷ after) → first ≢ name
    among [] h = All-head (λ other. first ≢ other) name after h
    among (other ∷ others) h = among others (All-tail (λ other. first ≢ other) other (others ++ name ∷ after) h)

pub distinct-front : (names others : List (List ℕ)) → AreDistinct (names ++ others) → AreDistinct names
distinct-front [] others d = AreDistinct.none
distinct-front (name ∷ names) others d =
    AreDistinct.more (all_before (λ other. name ≢ other) names others (distinct-first name (names ++ others) d)) (distinct-front names others (distinct-rest name (names ++ others) d))
