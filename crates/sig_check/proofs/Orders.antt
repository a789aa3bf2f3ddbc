-- A record's events have one order.
use Rattle.std.proofs.Common.{◌≡◌, ℕ, ◌+◌, ◌≤◌, Bool, true, false, cond, ◌&&◌, List, [], ◌∷◌, refl, sym, ap, ◌∙◌, subst, inl, inr, arith}
use Rattle.std.specs.Prelude.{◌==◌, All}
use Rattle.std.specs.List.{count_by}
use Rattle.std.proofs.lemmas.Bool.{eqb-true, eq-eqb, and_parts}
use Rattle.std.proofs.lemmas.List.Sums.{sum_by-cons}
use Rattle.std.proofs.lemmas.List.Elements.{All-nil, All-cons, All-head, All-tail, All-weaker}
use Rattle.sig_record.specs.declared.report.Report.{Report}
use Rattle.sig_record.specs.declared.merging.MergedAt.{MergedAt}
use Rattle.sig_record.specs.Merging.{IsMerged, IsBefore, is_same}
use Rattle.sig_runs.proofs.Chains.{Chain, chain_from}

abbrev count : MergedAt → List MergedAt → ℕ
count a xs = count_by (is_same a) xs

count_cons : (a x : MergedAt) (xs : List MergedAt) → count a (x ∷ xs) ≡ cond (is_same a x) 1 0 + count a xs
count_cons a x xs = sum_by-cons (λ (y : MergedAt). cond (is_same a y) 1 0) x xs

same_place : (a b : MergedAt) → is_same a b ≡ true → a ≡ b
same_place a b h =
    let w : ((a.pid.0 == b.pid.0) ≡ true) × ((a.place == b.place) ≡ true) = and_parts (a.pid.0 == b.pid.0) (a.place == b.place) h in
    let p : a.pid.0 ≡ b.pid.0 = eqb-true a.pid.0 b.pid.0 w.0 in
    let n : a.place ≡ b.place = eqb-true a.place b.place w.1 in
    ap (λ (z : ℕ). record { pid = record { 0 = z }; place = a.place }) p ∙ ap (λ (z : ℕ). record { pid = b.pid; place = z }) n

same_itself : (a : MergedAt) → is_same a a ≡ true
same_itself a = ap (λ c. c && (a.place == a.place)) (eq-eqb a.pid.0 a.pid.0 refl) ∙ eq-eqb a.place a.place refl

-- what holds of all holds of one that is counted among them
counted : (P : MergedAt → Type 0) (a : MergedAt) (xs : List MergedAt) → All P xs → 1 ≤ count a xs → P a
counted P a [] all h = absurd (let f : ⊥ = omega (arith, h) in f)
counted P a (x ∷ xs) all h = go (is_same a x) refl (λ g. counted P a xs (All-tail P x xs all) g)
  where
    go : (b : Bool) → is_same a x ≡ b → (1 ≤ count a xs → P a) → P a
    go true e rest = subst P (sym (same_place a x e)) (All-head P x xs all)
    go false e rest = rest (let f : count a (x ∷ xs) ≡ count a xs = count_cons a x xs ∙ ap (λ (c : Bool). cond c 1 0 + count a xs) e ∙ (let z : 0 + count a xs ≡ count a xs = omega arith in z) in omega (arith, h, f))

module _ (reports : List Report) where
  abbrev Before : MergedAt → MergedAt → Type 0
  Before = IsBefore reports

  not_itself : (a : MergedAt) → Before a a → ⊥
  not_itself a (inl h) = omega (arith, h)
  not_itself a (inr (e, inl h)) = omega (arith, h)
  not_itself a (inr (e, inr (p, h))) = omega (arith, h)

  before_trans : (a b c : MergedAt) → Before a b → Before b c → Before a c
  before_trans a b c (inl h) (inl g) = inl (omega (arith, h, g))
  before_trans a b c (inl h) (inr (e, g)) = inl (omega (arith, h, e))
  before_trans a b c (inr (d, h)) (inl g) = inl (omega (arith, d, g))
  before_trans a b c (inr (d, inl h)) (inr (e, inl g)) = inr (d ∙ e, inl (omega (arith, h, g)))
  before_trans a b c (inr (d, inl h)) (inr (e, inr (q, g))) = inr (d ∙ e, inl (omega (arith, h, q)))
  before_trans a b c (inr (d, inr (p, h))) (inr (e, inl g)) = inr (d ∙ e, inl (omega (arith, p, g)))
  before_trans a b c (inr (d, inr (p, h))) (inr (e, inr (q, g))) = inr (d ∙ e, inr (p ∙ q, omega (arith, h, g)))

  behind : (x : MergedAt) (ys : List MergedAt) → Chain Before (x ∷ ys) → Chain Before ys
  behind x [] h = tt
  behind x (y ∷ ys) h = h.1

  leads : (x : MergedAt) (ys : List MergedAt) → Chain Before (x ∷ ys) → All (Before x) ys
  leads x [] h = All-nil (Before x)
  leads x (y ∷ ys) h =
      All-cons (Before x) y ys h.0 (All-weaker (Before y) (Before x) (λ z g. before_trans x y z h.0 g) ys (leads y ys h.1))

  one_here : (a : MergedAt) (xs : List MergedAt) → 1 ≤ count a (a ∷ xs)
  one_here a xs = let e : count a (a ∷ xs) ≡ 1 + count a xs = count_cons a a xs ∙ ap (λ (c : Bool). cond c 1 0 + count a xs) (same_itself a) in omega (arith, e)

  elsewhere : (a y : MergedAt) (ys : List MergedAt) → is_same a y ≡ false → 1 ≤ count a (y ∷ ys) → 1 ≤ count a ys
  elsewhere a y ys e h = let f : count a (y ∷ ys) ≡ 0 + count a ys = count_cons a y ys ∙ ap (λ (c : Bool). cond c 1 0 + count a ys) e in omega (arith, h, f)

  not_back : (a b : MergedAt) → is_same a b ≡ false → is_same b a ≡ false
  not_back a b e = go (is_same b a) refl
    where
      go : (c : Bool) → is_same b a ≡ c → is_same b a ≡ false
      go false h = h
      go true h = (let f : true ≡ false = sym (same_itself a) ∙ ap (λ z. is_same a z) (sym (same_place b a h)) ∙ e in absurd cc)

  one_list : (xs ys : List MergedAt) → Chain Before xs → Chain Before ys → ((a : MergedAt) → count a xs ≡ count a ys) → xs ≡ ys
  one_list [] [] c d h = refl
  one_list [] (y ∷ ys) c d h = absurd (let f : ⊥ = omega (arith, h y, one_here y ys) in f)
  one_list (x ∷ xs) [] c d h = absurd (let f : ⊥ = omega (arith, h x, one_here x xs) in f)
  one_list (x ∷ xs) (y ∷ ys) c d h = go (is_same x y) refl (λ g. one_list xs ys (behind x xs c) (behind y ys d) g)
    where
      go : (b : Bool) → is_same x y ≡ b → (((a : MergedAt) → count a xs ≡ count a ys) → xs ≡ ys) → x ∷ xs ≡ y ∷ ys
      go true e more =
          let same : x ≡ y = same_place x y e in
          let rest : xs ≡ ys = more (λ a.
          let f : count a (x ∷ xs) ≡ cond (is_same a x) 1 0 + count a xs = count_cons a x xs in
          let g : count a (y ∷ ys) ≡ cond (is_same a x) 1 0 + count a ys = count_cons a y ys ∙ ap (λ z. cond (is_same a z) 1 0 + count a ys) (sym same) in
          omega (arith, f, g, h a)) in
          cc
      go false e more =
          let p : Before y x = counted (Before y) x ys (leads y ys d) (elsewhere x y ys e (subst (λ n. 1 ≤ n) (h x) (one_here x xs))) in
          let q : Before x y = counted (Before x) y xs (leads x xs c) (elsewhere y x xs (not_back x y e) (subst (λ n. 1 ≤ n) (sym (h y)) (one_here y ys))) in
          absurd (not_itself x (before_trans x y x q p))

  pub one_order : (a b : List MergedAt) → IsMerged reports a → IsMerged reports b → a ≡ b
  one_order a b h g = one_list a b (chain_from Before a h.rising) (chain_from Before b g.rising) (λ x. h.once x ∙ sym (g.once x))
