-- What is escaped is plain bytes and whole entities.
use Rattle.std.proofs.Common.{◌≡◌, ◌≢◌, ℕ, ◌≤◌, Bool, true, false, ◌==◌, ◌&&◌, nat_le, List, [], ◌∷◌, ◌++◌, cond, codes, if◌then◌else◌, refl, subst, sym, append_assoc, arith}
use Rattle.std.proofs.lemmas.Bool.Decides.{nat_tests}
use Rattle.sig_svg.specs.Escape.{escape_byte, escape, IsEntity, IsPlain, IsEscaped}
use Rattle.sig_svg.specs.Escape.IsEntity.{amp, lt, gt, quot, tick, replaced}
use Rattle.sig_svg.specs.Escape.IsEscaped.{none, plain, entity}

-- by cases on the test
by_test : {X : Type 0} (P : X → Type 0) (b : Bool) (x y : X) → (b ≡ true → P x) → (b ≡ false → P y) → P (cond b x y)
by_test P true x y f g = f refl
by_test P false x y f g = g refl

isnt : (b n : ℕ) → (b == n) ≡ false → b ≢ n
isnt b n h = grind (arith, nat_tests)

within : (b : ℕ) → (nat_le 32 b && nat_le b 126) ≡ true → (32 ≤ b) × (b ≤ 126)
within b h = grind (arith, nat_tests)

byte_escaped : (b : ℕ) (bs : List ℕ) → IsEscaped bs → IsEscaped (escape_byte b ++ bs)
byte_escaped b bs rest =
    let P : List ℕ → Type 0 = λ t. IsEscaped (t ++ bs) in
    by_test P (b == 38) _ _ (λ _. entity amp rest) (λ n38.
    by_test P (b == 60) _ _ (λ _. entity lt rest) (λ n60.
    by_test P (b == 62) _ _ (λ _. entity gt rest) (λ n62.
    by_test P (b == 34) _ _ (λ _. entity quot rest) (λ n34.
    by_test P (b == 39) _ _ (λ _. entity tick rest) (λ n39.
    by_test P (nat_le 32 b && nat_le b 126) _ _
    (λ w. plain (record { low = (within b w).0; high = (within b w).1; no_amp = isnt b 38 n38; no_lt = isnt b 60 n60; no_gt = isnt b 62 n62; no_quot = isnt b 34 n34; no_tick = isnt b 39 n39 }) rest)
    (λ _. entity replaced rest))))))

pub escaped : (bytes : List ℕ) → IsEscaped (escape bytes)
escaped [] = none
escaped (b ∷ bs) = byte_escaped b (escape bs) (escaped bs)
