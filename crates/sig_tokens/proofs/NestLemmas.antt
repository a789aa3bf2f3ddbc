-- A list pattern from its last head to its first, and the pids in it.
use Rattle.std.proofs.Common.{◌≡◌, ℕ, List, [], ◌∷◌, ◌++◌, All, refl, ap}
use Rattle.std.proofs.lemmas.List.Elements.{All-head, All-tail}
use Rattle.sig_patterns.specs.declared.pattern.Pattern.{Pattern}
use Rattle.sig_patterns.specs.declared.pattern.Pattern.TheVariants as pattern
use Rattle.sig_tokens.specs.PatternTexts.{nested}
use Rattle.sig_patterns.proofs.PidLemmas.{OfPattern, cons_pattern_pids}

-- the last head stands before the tail
pub nested_last : (heads : List Pattern) (last tail : Pattern) → nested (heads ++ last ∷ []) tail ≡ nested heads (pattern.Cons last tail)
nested_last [] last tail = refl
nested_last (p ∷ heads) last tail = ap (pattern.Cons p) (nested_last heads last tail)

-- what holds of the pids in its heads and in its tail holds of those in it
pub nested_pids : (P : ℕ → Type 0) (items : List Pattern) (tail : Pattern) → All (OfPattern P) items → OfPattern P tail → OfPattern P (nested items tail)
nested_pids P [] tail h k = k
nested_pids P (p ∷ ps) tail h k =
    cons_pattern_pids P p (nested ps tail) (All-head (OfPattern P) p ps h) (nested_pids P ps tail (All-tail (OfPattern P) p ps h) k)
