-- Where the items of a list stand, by their names, and where with one item more.
use Rattle.std.proofs.Common.{◌≡◌, ℕ, suc, ◌+◌, ◌<◌, List, [], ◌∷◌, ◌++◌, length, position, cond, Bool, true, false, not, ◌||◌, nat_lt, Option, Some, None, IfSome, refl, sym, ap, ◌∙◌, arith}
use Rattle.std.proofs.lemmas.Bool.Decides.{nat_tests}
use Rattle.std.specs.Option.{option_map, is_some}
use Rattle.std.specs.List.{list_any, position_or_len}
use Rattle.std.specs.Ordering.{nat_cmp}
use Rattle.std.specs.Cmp.Lexicographic.{slice_cmp}
use Rattle.std.specs.Map.{lookup}
use Rattle.std.specs.BTreeMap.{is_at, insert_entry}
use Rattle.std.specs.Str.{bytes_eq}
use Rattle.std.proofs.lemmas.List.Quantifiers.{position-Some}
use Rattle.std.proofs.lemmas.Slice.Eq.{bytes_eq-Decides}
use Rattle.std.proofs.lemmas.Map.Text.{is_eq-slice_cmp}
use Rattle.std.specs.declared.vec.Vec.{Vec}
use Rattle.std.specs.declared.alloc.Global.{Global}
use Rattle.sig_patterns.proofs.ByteKeyLemmas.{lookup-insert_entry}
use Rattle.sig_tokens.specs.NamePlaces.{IsIndexed}

-- the place of the first item that passes a test, by the first item and the rest
abbrev pub next : ℕ → ℕ
next n = 1 + n

shifted : (v : Bool) (n : ℕ) → cond v (Some (1 + n)) None ≡ option_map next (cond v (Some n) None)
shifted true n = refl
shifted false n = refl

less-next : (n m : ℕ) → nat_lt (1 + n) (suc m) ≡ nat_lt n m
less-next n m = grind (arith, nat_tests)

less-first : (n : ℕ) → nat_lt 0 (suc n) ≡ true
less-first n = grind (arith, nat_tests)

pub position-cons : {A : Type 0} (p : A → Bool) (x : A) (xs : List A) → position p (x ∷ xs) ≡ cond (p x) (Some 0) (option_map next (position p xs))
position-cons p x xs =
    let n : ℕ = position_or_len p xs in
    elim (p x) as (λ v. cond (nat_lt (cond (not v) (1 + n) 0) (suc (length xs))) (Some (cond (not v) (1 + n) 0)) None ≡ cond v (Some 0) (option_map next (position p xs))) [
      | true ↦ ap (λ (v : Bool). cond v (Some 0) None) (less-first (length xs))
      | false ↦ ap (λ (v : Bool). cond v (Some (1 + n)) None) (less-next n (length xs)) ∙ shifted (nat_lt n (length xs)) n
    ]

-- with one item more at the end
or_last : Option ℕ → Bool → ℕ → Option ℕ
or_last (Some i) v n = Some i
or_last None v n = cond v (Some n) None

next-last : (o : Option ℕ) (v : Bool) (n : ℕ) → option_map next (or_last o v n) ≡ or_last (option_map next o) v (1 + n)
unfolding or_last
next-last (Some i) v n = refl
next-last None true n = refl
next-last None false n = refl

cond-last : (b v : Bool) (o : Option ℕ) (n : ℕ) → cond b (Some 0) (or_last o v n) ≡ or_last (cond b (Some 0) o) v n
unfolding or_last
cond-last true v o n = refl
cond-last false v o n = refl

one-more : (n : ℕ) → 1 + n ≡ suc n
one-more n = omega arith

position-last : {A : Type 0} (p : A → Bool) (xs : List A) (y : A) → position p (xs ++ y ∷ []) ≡ or_last (position p xs) (p y) (length xs)
unfolding or_last
position-last p [] y = position-cons p y []
position-last p (x ∷ xs) y =
    position-cons p x (xs ++ y ∷ [])
    ∙ ap (λ (o : Option ℕ). cond (p x) (Some 0) (option_map next o)) (position-last p xs y)
    ∙ ap (cond (p x) (Some 0)) (next-last (position p xs) (p y) (length xs))
    ∙ cond-last (p x) (p y) (option_map next (position p xs)) (1 + length xs)
    ∙ ap (λ (o : Option ℕ). or_last o (p y) (1 + length xs)) (sym (position-cons p x xs))
    ∙ ap (or_last (position p (x ∷ xs)) (p y)) (one-more (length xs))

-- some item passes the test exactly where there is a place
any-some : (b : Bool) (o : Option ℕ) → is_some (cond b (Some 0) (option_map next o)) ≡ (b || is_some o)
any-some true o = refl
any-some false None = refl
any-some false (Some i) = refl

pub any_place : {A : Type 0} (p : A → Bool) (xs : List A) → is_some (position p xs) ≡ list_any p xs
any_place p [] = refl
any_place p (x ∷ xs) = ap is_some (position-cons p x xs) ∙ any-some (p x) (position p xs) ∙ ap (λ (b : Bool). p x || b) (any_place p xs)

-- a place is one of the list's
pub place_within : {A : Type 0} (p : A → Bool) (xs : List A) (o : Option ℕ) → o ≡ position p xs → IfSome o (λ n. n < length xs)
place_within p xs None e = tt
place_within p [] (Some n) e = (let no : Some n ≡ None = e in absurd cc)
place_within p (x ∷ xs) (Some n) e = (position-Some p (x ∷ xs) n x (sym e)).0

-- what is found once a name has its place
looked-up : (q : List ℕ) (k : Vec ℕ Global) (v : ℕ) (es : List (Vec ℕ Global × ℕ)) →
    lookup (is_at (λ x. slice_cmp nat_cmp q x.items)) (insert_entry (λ x y. slice_cmp nat_cmp x.items y.items) es k v)
    ≡ cond (bytes_eq q k.items) (Some v) (lookup (is_at (λ x. slice_cmp nat_cmp q x.items)) es)
looked-up q k v es =
    lookup-insert_entry q k v es
    ∙ ap (λ (b : Bool). cond b (Some v) (lookup (is_at (λ x. slice_cmp nat_cmp q x.items)) es)) (is_eq-slice_cmp q k.items)

-- the same name, and another
differ : (q name : List ℕ) (v : Bool) → bytes_eq q name ≡ false → bytes_eq name q ≡ v → v ≡ false
differ q name false e h = refl
differ q name true e h =
    let same : name ≡ q = (bytes_eq-Decides name q).0 h in
    let yes : bytes_eq q name ≡ true = (bytes_eq-Decides q name).1 (sym same) in
    sym yes ∙ e

kept : (o : Option ℕ) (n : ℕ) → o ≡ or_last o false n
unfolding or_last
kept (Some i) n = refl
kept None n = refl

same-name : (q name : List ℕ) (o : Option ℕ) (n : ℕ) (v : Bool) → bytes_eq q name ≡ v → (q ≡ name → o ≡ None) → cond v (Some n) o ≡ or_last o (bytes_eq name q) n
unfolding or_last
same-name q name o n true e free =
    let same : q ≡ name = (bytes_eq-Decides q name).0 e in
    let here : bytes_eq name q ≡ true = (bytes_eq-Decides name q).1 (sym same) in
    rw (free same, here) refl
same-name q name o n false e free =
    let other : bytes_eq name q ≡ false = differ q name (bytes_eq name q) e refl in
    rw other (kept o n)

-- an item whose name has a place
had : (o : Option ℕ) (n : ℕ) (v : Bool) → (v ≡ true → is_some o ≡ true) → o ≡ or_last o v n
unfolding or_last
had (Some i) n v h = refl
had None n true h = (let no : false ≡ true = h refl in absurd cc)
had None n false h = refl

module _ {A : Type 0} (name_of : A → List ℕ) where
  -- an item more is indexed where its name is a new one
  pub indexed_more : (items : List A) (item : A) (k : Vec ℕ Global) (es : List (Vec ℕ Global × ℕ)) → k.items ≡ name_of item →
      position (λ (x : A). bytes_eq (name_of x) (name_of item)) items ≡ None → IsIndexed name_of items es →
      IsIndexed name_of (items ++ item ∷ []) (insert_entry (λ x y. slice_cmp nat_cmp x.items y.items) es k (length items))
  indexed_more items item k es key free index = λ q.
      looked-up q k (length items) es
      ∙ ap (λ (name : List ℕ). cond (bytes_eq q name) (Some (length items)) (lookup (is_at (λ x. slice_cmp nat_cmp q x.items)) es)) key
      ∙ ap (cond (bytes_eq q (name_of item)) (Some (length items))) (index q)
      ∙ same-name q (name_of item) (position (λ (x : A). bytes_eq (name_of x) q) items) (length items) (bytes_eq q (name_of item)) refl
      (λ same. ap (λ (name : List ℕ). position (λ (x : A). bytes_eq (name_of x) name) items) same ∙ free)
      ∙ sym (position-last (λ (x : A). bytes_eq (name_of x) q) items item)

  has-place : (items : List A) (item : A) (q : List ℕ) → list_any (λ (x : A). bytes_eq (name_of x) (name_of item)) items ≡ true → name_of item ≡ q →
      is_some (position (λ (x : A). bytes_eq (name_of x) q) items) ≡ true
  has-place items item q known same =
      any_place (λ (x : A). bytes_eq (name_of x) q) items ∙ ap (λ (name : List ℕ). list_any (λ (x : A). bytes_eq (name_of x) name) items) (sym same) ∙ known

  -- the same entries index an item more where its name has a place
  pub indexed_again : (items : List A) (item : A) (es : List (Vec ℕ Global × ℕ)) → list_any (λ (x : A). bytes_eq (name_of x) (name_of item)) items ≡ true →
      IsIndexed name_of items es → IsIndexed name_of (items ++ item ∷ []) es
  indexed_again items item es known index = λ q.
      index q
      ∙ had (position (λ (x : A). bytes_eq (name_of x) q) items) (length items) (bytes_eq (name_of item) q)
      (λ same. has-place items item q known ((bytes_eq-Decides (name_of item) q).0 same))
      ∙ sym (position-last (λ (x : A). bytes_eq (name_of x) q) items item)
