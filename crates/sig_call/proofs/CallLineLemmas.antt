-- Tokens of a line, and the bytes between two of them.
use Rattle.std.proofs.Common.{ℕ, zero, suc, ◌<◌, ◌≤◌, List, [], ◌∷◌, length, get_or, drop, inl, inr, sym, subst, arith}
use Rattle.std.proofs.Math.Nat.{eq-or-lt_of_le}
use Rattle.sig_tokens.specs.declared.token.Token.{Token}
use Rattle.sig_tokens.specs.Tokens.{AreTokens, AreRising, IsToken}

-- one of the tokens of a line
pub token_there : (line : List ℕ) (ts : List Token) (i : ℕ) (d : Token) → AreTokens line ts → i < length ts → IsToken line (get_or ts i d)
token_there line [] i d h lt = absurd (omega arith)
token_there line (u ∷ us) zero d h lt = h.0
token_there line (u ∷ us) (suc i) d h lt = token_there line us i d h.1 (omega (arith, lt))

-- the tokens behind some of them
pub tokens_behind : (line : List ℕ) (n : ℕ) (ts : List Token) → AreTokens line ts → AreTokens line (drop n ts)
tokens_behind line zero ts h = h
tokens_behind line (suc n) [] h = tt
tokens_behind line (suc n) (t ∷ ts) h = tokens_behind line n ts h.1

-- a token begins before a later one ends
pub begins_before : (line : List ℕ) (ts : List Token) (i j : ℕ) (d : Token) → AreTokens line ts → AreRising ts → i ≤ j → j < length ts → (get_or ts i d).start ≤ (get_or ts j d).end
begins_before line ts i j d known rising le lt =
    elim (eq-or-lt_of_le le) [
      | inl same ↦ subst (λ (k : ℕ). (get_or ts k d).start ≤ (get_or ts j d).end) (sym same) (token_there line ts j d known lt).0
      | inr less ↦ omega (arith, rising i j d less lt, (token_there line ts j d known lt).0)
    ]

pub ends_within : (line : List ℕ) (ts : List Token) (j : ℕ) (d : Token) → AreTokens line ts → j < length ts → (get_or ts j d).end ≤ length line
ends_within line ts j d known lt = (token_there line ts j d known lt).1
