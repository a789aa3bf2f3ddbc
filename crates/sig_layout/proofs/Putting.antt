-- Functions that change at one place.
use Rattle.std.proofs.Common.{◌≡◌, ◌≢◌, ℕ, zero, suc, ◌+◌, ◌<◌, ◌≤◌, subst, Bool, if◌then◌else◌, List, ◌∷◌, length, get_or, set, sym, refl, ap, ◌∙◌, arith, eq-eqb, ne_eqb}
use mathlib.Core.Logic.{dite}
use mathlib.Core.Option.{some}
use native.Mathlib.Decide.{ℕ_discrete}
use lib.ListN.{get_elem?}
use Rattle.sig_layout.specs.Views.{table_from}
use Rattle.sig_layout.specs.Core.{put}

module _ {X : Type 0} where
  pub put_here : (f : ℕ → X) (b : ℕ) (x : X) → put f b x b ≡ x
  put_here f b x = ap (λ (z : Bool). if z then x else f b) (eq-eqb b b refl)

  pub put_else : (f : ℕ → X) (b c : ℕ) (x : X) → c ≢ b → put f b x c ≡ f c
  put_else f b c x n = ap (λ (z : Bool). if z then x else f c) (ne_eqb c b n)

  -- one case for the place that changes, and one for every other place
  pub at_each : (P : ℕ → X → Type 0) (f : ℕ → X) (b : ℕ) (x : X) → P b x → ((c : ℕ) → c ≢ b → P c (f c)) → (c : ℕ) → P c (put f b x c)
  at_each P f b x here others c = dite (ℕ_discrete c b)
      (λ e. subst (λ (z : ℕ). P z (put f b x z)) (sym e) (subst (P b) (sym (put_here f b x)) here))
      (λ n. subst (P c) (sym (put_else f b c x n)) (others c n))

  pub get_table : (k n b : ℕ) (f : ℕ → X) (d : X) → b < n → get_or (table_from k n f) b d ≡ f (k + b)
  unfolding table_from
  get_table k zero b f d h = absurd (omega arith)
  get_table k (suc n) zero f d h = ap f (omega arith)
  get_table k (suc n) (suc b) f d h = get_table (suc k) n b f d (omega arith) ∙ ap f (omega arith)

  pub at_table : (k n b : ℕ) (f : ℕ → X) → b < n → get_elem? (table_from k n f) b ≡ some (f (k + b))
  unfolding table_from
  at_table k zero b f h = absurd (omega arith)
  at_table k (suc n) zero f h = ap (λ (z : ℕ). some (f z)) (omega arith)
  at_table k (suc n) (suc b) f h = at_table (suc k) n b f (omega arith) ∙ ap (λ (z : ℕ). some (f z)) (omega arith)

  pub length_table : (k n : ℕ) (f : ℕ → X) → length (table_from k n f) ≡ n
  unfolding table_from
  length_table k zero f = refl
  length_table k (suc n) f = ap suc (length_table (suc k) n f)

  -- two functions that agree have one table
  pub same_table : (k n : ℕ) (f g : ℕ → X) → ((c : ℕ) → k ≤ c → f c ≡ g c) → table_from k n f ≡ table_from k n g
  unfolding table_from
  same_table k zero f g e = refl
  same_table k (suc n) f g e = ap (λ (x : X). x ∷ table_from (suc k) n f) (e k (omega arith))
      ∙ ap (λ (xs : List X). g k ∷ xs) (same_table (suc k) n f g (λ c h. e c (omega arith)))

  pub set_table : (k n b : ℕ) (f : ℕ → X) (x : X) → b < n → set (table_from k n f) b x ≡ table_from k n (put f (k + b) x)
  unfolding table_from
  set_table k zero b f x h = absurd (omega arith)
  set_table k (suc n) zero f x h = (let e : k + 0 ≡ k = omega arith in
      ap (λ (y : X). y ∷ table_from (suc k) n f) (sym (put_here f k x) ∙ ap (λ (z : ℕ). put f z x k) (sym e))
      ∙ ap (λ (xs : List X). put f (k + 0) x k ∷ xs)
      (same_table (suc k) n f (put f (k + 0) x) (λ c h. sym (put_else f (k + 0) c x (λ e. omega arith)))))
  set_table k (suc n) (suc b) f x h = let e : suc k + b ≡ k + suc b = omega arith in
      ap (λ (xs : List X). f k ∷ xs) (set_table (suc k) n b f x (omega arith) ∙ ap (λ (z : ℕ). table_from (suc k) n (put f z x)) e)
      ∙ ap (λ (y : X). y ∷ table_from (suc k) n (put f (k + suc b) x)) (sym (put_else f (k + suc b) k x (λ e. omega arith)))

-- what a function makes of the place that changes changes there
pub mapped_put : {X Y : Type 0} (g : X → Y) (f : ℕ → X) (b : ℕ) (x : X) (c : ℕ) → put (λ d. g (f d)) b (g x) c ≡ g (put f b x c)
mapped_put g f b x c = dite (ℕ_discrete c b)
    (λ e. ap (λ (z : ℕ). put (λ d. g (f d)) b (g x) z) e
    ∙ (put_here (λ d. g (f d)) b (g x) ∙ (sym (ap g (put_here f b x)) ∙ ap (λ (z : ℕ). g (put f b x z)) (sym e))))
    (λ n. put_else (λ d. g (f d)) b c (g x) n ∙ sym (ap g (put_else f b c x n)))

pub mapped_table : {X Y : Type 0} (g : X → Y) (f : ℕ → X) (b : ℕ) (x : X) → b < 64
    → set (table_from 0 64 (λ d. g (f d))) b (g x) ≡ table_from 0 64 (λ d. g (put f b x d))
mapped_table g f b x h = let e : 0 + b ≡ b = omega arith in
    set_table 0 64 b (λ d. g (f d)) (g x) h ∙ (ap (λ (z : ℕ). table_from 0 64 (put (λ d. g (f d)) z (g x))) e
    ∙ same_table 0 64 (put (λ d. g (f d)) b (g x)) (λ d. g (put f b x d)) (λ c _. mapped_put g f b x c))
