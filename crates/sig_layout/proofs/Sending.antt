-- Lists of signals and of items, seen sender by sender.
use Rattle.std.proofs.Common.{◌≡◌, ◌≢◌, ℕ, ◌==◌, ◌&&◌, ◌||◌, Bool, true, false, not, if◌then◌else◌, List, [], ◌∷◌, ◌++◌, length, drop, sym, refl, ap, ◌∙◌, eq-eqb, ne_eqb, append_assoc, append-nil, inl, inr, ◌⊎◌, Some, None}
use mathlib.Core.Logic.{dite}
use native.Mathlib.Decide.{ℕ_discrete}
use Rattle.sig_kinds.specs.declared.signal.Signal.{Signal}
use Rattle.sig_layout.specs.declared.item.Item.{Item}
use Rattle.sig_layout.specs.Sent.{sender, putter, signals, of, keep, Prefix, AllWithin}

pub bool_cases : (b : Bool) → (b ≡ true) ⊎ (b ≡ false)
bool_cases true = inl refl
bool_cases false = inr refl

pub not_both : {A : Type 0} (x : Bool) → x ≡ true → x ≡ false → A
not_both x h k = let e : true ≡ false = sym h ∙ k in absurd cc

pub none_some : {A X : Type 0} (x : X) → None ≡ Some x → A
none_some x e = absurd cc

pub some_none : {A X : Type 0} (x : X) → Some x ≡ None → A
some_none x e = absurd cc

pub some_same : {X : Type 0} (x y : X) → Some x ≡ Some y → x ≡ y
some_same x y e = cc

pub and_left : (a b : Bool) → (a && b) ≡ true → a ≡ true
and_left true b h = refl
and_left false b h = h

pub and_right : (a b : Bool) → (a && b) ≡ true → b ≡ true
and_right true b h = h
and_right false b h = absurd cc

pub not_true : (b : Bool) → not b ≡ true → b ≡ false
not_true true h = absurd cc
not_true false h = refl

pub or_cases : (a b : Bool) → (a || b) ≡ true → (a ≡ true) ⊎ (b ≡ true)
or_cases true b h = inl refl
or_cases false b h = inr h

pub or_neither : (a b : Bool) → (a || b) ≡ false → (a ≡ false) × (b ≡ false)
or_neither true b h = absurd cc
or_neither false b h = (refl, h)

pub drop_front : {X : Type 0} (xs ys : List X) → drop (length xs) (xs ++ ys) ≡ ys
drop_front [] ys = refl
drop_front (x ∷ xs) ys = drop_front xs ys

module _ {X : Type 0} (key : X → ℕ) where
  pub of-append : (s : ℕ) (xs ys : List X) → of key s (xs ++ ys) ≡ of key s xs ++ of key s ys
  of-append s [] ys = refl
  of-append s (x ∷ xs) ys = elim (key x == s) as (λ b. (if b then x ∷ of key s (xs ++ ys) else of key s (xs ++ ys)) ≡
      (if b then x ∷ of key s xs else of key s xs) ++ of key s ys)
      [ true ↦ ap (λ (zs : List X). x ∷ zs) (of-append s xs ys) | false ↦ of-append s xs ys ]

  pub of_own : (s : ℕ) (x : X) (xs : List X) → key x ≡ s → of key s (x ∷ xs) ≡ x ∷ of key s xs
  of_own s x xs e = ap (λ (b : Bool). if b then x ∷ of key s xs else of key s xs) (eq-eqb (key x) s e)

  pub of_other : (s : ℕ) (x : X) (xs : List X) → key x ≢ s → of key s (x ∷ xs) ≡ of key s xs
  of_other s x xs n = ap (λ (b : Bool). if b then x ∷ of key s xs else of key s xs) (ne_eqb (key x) s n)

  -- what is kept of a sender that passes, and of one that does not
  pub keep_all : (p : ℕ → Bool) (s : ℕ) (xs : List X) → p s ≡ true → of key s (keep key p xs) ≡ of key s xs
  keep_all p s [] h = refl
  keep_all p s (x ∷ xs) h = dite (ℕ_discrete (key x) s)
      (λ e. let t : p (key x) ≡ true = ap p e ∙ h in
      ap (λ (b : Bool). of key s (if b then x ∷ keep key p xs else keep key p xs)) t
      ∙ ap (λ (zs : List X). if key x == s then x ∷ zs else zs) (keep_all p s xs h))
      (λ n. elim (p (key x)) as (λ b. of key s (if b then x ∷ keep key p xs else keep key p xs) ≡ of key s (x ∷ xs)) [
        | true ↦ of_other s x (keep key p xs) n ∙ (keep_all p s xs h ∙ sym (of_other s x xs n))
        | false ↦ keep_all p s xs h
            ∙ sym (of_other s x xs n)
      ])

  pub keep_none : (p : ℕ → Bool) (s : ℕ) (xs : List X) → p s ≡ false → of key s (keep key p xs) ≡ []
  keep_none p s [] h = refl
  keep_none p s (x ∷ xs) h = dite (ℕ_discrete (key x) s)
      (λ e. let t : p (key x) ≡ false = ap p e ∙ h in
      ap (λ (b : Bool). of key s (if b then x ∷ keep key p xs else keep key p xs)) t ∙ keep_none p s xs h)
      (λ n. elim (p (key x)) as (λ b. of key s (if b then x ∷ keep key p xs else keep key p xs) ≡ [])
      [ true ↦ of_other s x (keep key p xs) n ∙ keep_none p s xs h | false ↦ keep_none p s xs h ])

  pub prefix_longer : (s : ℕ) (xs ys zs : List X) → Prefix (of key s xs) (of key s ys) → Prefix (of key s xs) (of key s (ys ++ zs))
  prefix_longer s xs ys zs p = (
    p.0 ++ of key s zs,
    sym (append_assoc (of key s xs) p.0 (of key s zs))
        ∙ (ap (λ (l : List X). l ++ of key s zs) p.1 ∙ sym (of-append s ys zs)),
  )

pub prefix_of_same : {X : Type 0} (xs ys : List X) → xs ≡ ys → Prefix xs ys
prefix_of_same xs ys e = ([], append-nil xs ∙ e)

pub prefix_of_none : {X : Type 0} (xs ys : List X) → xs ≡ [] → Prefix xs ys
prefix_of_none {X} xs ys e = (ys, ap (λ (l : List X). l ++ ys) e)

pub prefix_through : {X : Type 0} (xs ys zs : List X) → Prefix xs ys → Prefix ys zs → Prefix xs zs
prefix_through {X} xs ys zs p q = (p.0 ++ q.0, sym (append_assoc xs p.0 q.0) ∙ (ap (λ (l : List X). l ++ q.0) p.1 ∙ q.1))

pub all_longer : (told : List (List Item)) (ys zs : List Item) → AllWithin told ys → AllWithin told (ys ++ zs)
all_longer [] ys zs h = tt
all_longer (xs ∷ rest) ys zs h = ((λ s. prefix_longer putter s xs ys zs (h.0 s)), all_longer rest ys zs h.1)

pub all_joined : (a b : List (List Item)) (ys : List Item) → AllWithin a ys → AllWithin b ys → AllWithin (a ++ b) ys
all_joined [] b ys h k = k
all_joined (xs ∷ rest) b ys h k = (h.0, all_joined rest b ys h.1 k)

-- the signals of items
pub signals-append : (xs ys : List Item) → signals (xs ++ ys) ≡ signals xs ++ signals ys
signals-append [] ys = refl
signals-append (x ∷ xs) ys = ap (λ (l : List Signal). x.signal ∷ l) (signals-append xs ys)

pub of_signals : (s : ℕ) (xs : List Item) → of sender s (signals xs) ≡ signals (of putter s xs)
of_signals s [] = refl
of_signals s (x ∷ xs) = elim (putter x == s) as (λ b. (if b then x.signal ∷ of sender s (signals xs) else of sender s
    (signals xs)) ≡ signals (if b then x ∷ of putter s xs else of putter s xs))
    [ true ↦ ap (λ (l : List Signal). x.signal ∷ l) (of_signals s xs) | false ↦ of_signals s xs ]

pub prefix_signals : (s : ℕ) (xs ys : List Item) → Prefix (of putter s xs) (of putter s ys)
    → Prefix (of sender s (signals xs)) (of sender s (signals ys))
prefix_signals s xs ys p = (
  signals p.0,
  ap (λ (l : List Signal). l ++ signals p.0) (of_signals s xs)
      ∙ (sym (signals-append (of putter s xs) p.0) ∙ (ap signals p.1 ∙ sym (of_signals s ys))),
)
