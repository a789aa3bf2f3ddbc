-- Bytes that are no record's text have one line at which that is told.
use Rattle.std.proofs.Common.{◌≡◌, ℕ, suc, ◌+◌, ◌<◌, ◌≤◌, true, false, List, [], ◌∷◌, ◌++◌, length, refl, sym, ap, subst, ◌∙◌, inl, inr, append_assoc, arith, length-append}
use Rattle.std.specs.Prelude.{codes, not}
use Rattle.std.proofs.lemmas.Bool.Decides.{Decides-eqb}
use Rattle.std.proofs.lemmas.List.{append-nil}
use Rattle.sig_record.specs.RecordText.{record_text}
use Rattle.sig_record.specs.FaultLine.{is_feed, is_inline, IsInline, feeds, AreWhole, IsFaultLine}

-- the first line of bytes in which a line feed stands
record Cut (bytes : List ℕ) : Type 0 where
  line : List ℕ
  more : List ℕ
  clean : IsInline line
  is : bytes ≡ line ++ 10 ∷ more

by_feed : {C : Type 0} (b : ℕ) → (b ≡ 10 → C) → (is_inline b ≡ true → C) → C
by_feed {C} b f g = elim (is_feed b) as (λ v. is_feed b ≡ v → (not v ≡ true → C) → C) [
  | true ↦ λ h k. f ((Decides-eqb b 10).0 h)
  | false ↦ λ h k. k refl
] refl g

cut : (front rest : List ℕ) → Cut (front ++ 10 ∷ rest)
cut [] rest = record { line = []; more = rest; clean = refl; is = refl }
cut (b ∷ bs) rest =
    by_feed b (λ e. record { line = []; more = bs ++ 10 ∷ rest; clean = refl; is = ap (λ (c : ℕ). c ∷ (bs ++ 10 ∷ rest)) e })
    (λ h. let c = cut bs rest in record { line = b ∷ c.line; more = c.more; clean = rw (h, c.clean) refl; is = ap (λ (t : List ℕ). b ∷ t) c.is })

others_of : List ℕ → List ℕ
others_of [] = []
others_of (x ∷ xs) = xs

-- what ends with a line feed ends with it behind a part of its front, too
ends_too : (a b front : List ℕ) → 1 ≤ length b → a ++ b ≡ front ++ 10 ∷ [] → Cut b
unfolding others_of
ends_too [] b front some e = subst Cut (sym e) (cut front [])
ends_too (x ∷ xs) b [] some e = absurd (omega (arith, ap length e, length-append xs b))
ends_too (x ∷ xs) b (y ∷ ys) some e = ends_too xs b ys some (ap others_of e)

ends_whole : (a b : List ℕ) → 1 ≤ length b → AreWhole (a ++ b) → Cut b
ends_whole a b some (inl e) = absurd (omega (arith, ap length e, length-append a b))
ends_whole a b some (inr x) = ends_too a b x.0 some x.1

first_of : List ℕ → ℕ
first_of [] = 0
first_of (x ∷ xs) = x

-- the longer of two fronts goes on from the shorter one
longer : (a x b y : List ℕ) → length a ≤ length b → a ++ x ≡ b ++ y → (z : List ℕ) × (b ≡ a ++ z) × (x ≡ z ++ y)
unfolding others_of first_of
longer [] x b y le e = (b, refl, e)
longer (c ∷ cs) x [] y le e = absurd (omega arith)
longer (c ∷ cs) x (d ∷ ds) y le e =
    let t = longer cs x ds y (omega arith) (ap others_of e) in
    (t.0, ap (λ (w : ℕ). w ∷ ds) (sym (ap first_of e)) ∙ ap (λ (ws : List ℕ). c ∷ ws) t.1, t.2)

regroup : (a line more rest : List ℕ) → (a ++ (line ++ 10 ∷ more)) ++ rest ≡ (a ++ line ++ codes "\n") ++ (more ++ rest)
regroup a line more rest =
    append_assoc a (line ++ 10 ∷ more) rest ∙ ap (λ (t : List ℕ). a ++ t) (append_assoc line (10 ∷ more) rest)
    ∙ sym (append_assoc a line (10 ∷ (more ++ rest))) ∙ sym (append_assoc (a ++ line) (codes "\n") (more ++ rest))

module _ (bytes : List ℕ) where
  no_longer : (a b : ℕ) (p : IsFaultLine bytes a) (q : IsFaultLine bytes b) → length p.before < length q.before → ⊥
  no_longer a b p q lt =
      let t = longer p.before p.rest q.before q.rest (omega arith) (sym p.cut ∙ q.cut) in
      let some : 1 ≤ length t.0 = omega (arith, ap length t.1, length-append p.before t.0) in
      let c = ends_whole p.before t.0 some (subst AreWhole t.1 q.whole) in
      let begun = q.begins in
      let next : p.rest ≡ c.line ++ codes "\n" ++ (c.more ++ q.rest) =
      t.2 ∙ ap (λ (z : List ℕ). z ++ q.rest) c.is ∙ append_assoc c.line (10 ∷ c.more) q.rest ∙ sym (append_assoc c.line (codes "\n") (c.more ++ q.rest)) in
      let text : record_text begun.0 ≡ (p.before ++ c.line ++ codes "\n") ++ (c.more ++ begun.1) =
      begun.3 ∙ ap (λ (z : List ℕ). z ++ begun.1) (t.1 ∙ ap (λ (z : List ℕ). p.before ++ z) c.is) ∙ regroup p.before c.line c.more begun.1 in
      p.last c.line (c.more ++ q.rest) c.clean next (begun.0, c.more ++ begun.1, begun.2, text)

  neither : (x y : ℕ) → (x < y → ⊥) → (y < x → ⊥) → x ≡ y
  neither x y f g = grind (arith, f, g)

  nil_of : (z : List ℕ) → length z ≡ 0 → z ≡ []
  nil_of [] e = refl
  nil_of (x ∷ xs) e = absurd (omega arith)

  same_front : (x y : List ℕ) (u v : List ℕ) → length x ≡ length y → x ++ u ≡ y ++ v → x ≡ y
  same_front x y u v same e =
      let t = longer x u y v (omega arith) e in
      let none : t.0 ≡ [] = nil_of t.0 (omega (arith, ap length t.1, length-append x t.0)) in
      sym (append-nil x) ∙ ap (λ (z : List ℕ). x ++ z) (sym none) ∙ sym t.1

  pub one_fault : (a b : ℕ) → IsFaultLine bytes a → IsFaultLine bytes b → a ≡ b
  one_fault a b p q =
      let same : length p.before ≡ length q.before = neither (length p.before) (length q.before) (no_longer a b p q) (no_longer b a q p) in
      p.number ∙ ap (λ (t : List ℕ). suc (feeds t)) (same_front p.before q.before p.rest q.rest same (sym p.cut ∙ q.cut)) ∙ sym q.number
