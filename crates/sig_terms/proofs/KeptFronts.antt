-- What stands in front of a text stays there.
use Rattle.std.proofs.Common.{◌≡◌, ℕ, ◌≤◌, List, ◌++◌, Result, Ok, Err, take, length, length-take, refl, sym, ap, ◌∙◌, arith}
use Rattle.std.specs.Prelude.{OnErr}
use Rattle.std.proofs.lemmas.List.{take-take, take_at}

-- the front of a front
pub front_on : (a b c : List ℕ) → take (length a) b ≡ a → take (length b) c ≡ b → take (length a) c ≡ a
front_on a b c p q =
    let within : length a ≤ length b = omega (arith, ap length p, length-take (length a) b) in
    sym (take-take (length a) (length b) c within) ∙ ap (take (length a)) q ∙ p

-- what more is put behind leaves the front
pub kept_put : (a b x : List ℕ) → b ≡ a ++ x → take (length a) b ≡ a
kept_put a b x e = ap (take (length a)) e ∙ take_at a x (length a) refl

-- the front of what more was put behind
pub behind : (a b c x : List ℕ) → b ≡ a ++ x → take (length b) c ≡ b → take (length a) c ≡ a
behind a b c x e h = front_on a b c (kept_put a b x e) h

-- more behind what stands behind the front
pub kept_behind : (a b c x : List ℕ) → take (length a) b ≡ a → c ≡ b ++ x → take (length a) c ≡ a
kept_behind a b c x p e = front_on a b c p (kept_put b c x e)

-- the same where what was put is lost
pub lost_behind : {T E : Type 0} (r : Result T E) (a b c x : List ℕ) → b ≡ a ++ x → OnErr r (take (length b) c ≡ b) → OnErr r (take (length a) c ≡ a)
lost_behind (Ok t) a b c x e h = tt
lost_behind (Err e) a b c x put h = behind a b c x put h
