-- What holds of a choice by a test, and of a step that may fail.
use Rattle.std.proofs.Common.{◌≡◌, Bool, true, false, cond, ◌&&◌, Option, Some, None, refl}
use Rattle.std.specs.Prelude.{IfSome, MatchOption}
use Rattle.sig_terms.specs.Tokens.{◌>>=◌}

-- by cases on the test
pub by_test : {X : Type 0} (P : X → Type 0) (b : Bool) (x y : X) → (b ≡ true → P x) → (b ≡ false → P y) → P (cond b x y)
by_test P true x y f g = f refl
by_test P false x y f g = g refl

pub if_bind : {A B : Type 0} (P : A → Type 0) (Q : B → Type 0) (o : Option A) (f : A → Option B) → IfSome o P → ((x : A) → P x → IfSome (f x) Q) → IfSome (o >>= f) Q
if_bind P Q None f h g = tt
if_bind P Q (Some x) f h g = g x h

pub both_true : (a b : Bool) → (a && b) ≡ true → (a ≡ true) × (b ≡ true)
both_true true b h = (refl, h)
both_true false b h = absurd cc

-- the first test fails, and the second passes
pub second_of : {X : Type 0} (p q : Bool) (x y z : X) → p ≡ false → q ≡ true → cond p x (cond q y z) ≡ y
second_of true q x y z f t = absurd cc
second_of false true x y z f t = refl
second_of false false x y z f t = absurd cc

pub at_none : {X : Type 0} (o : Option X) (P : Type 0) (Q : X → Type 0) → o ≡ None → MatchOption o P Q → P
at_none None P Q is h = h
at_none (Some x) P Q is h = absurd cc
