-- The tokens of a line stand in order.
use Rattle.std.proofs.Common.{◌≡◌, ℕ, zero, suc, ◌+◌, ◌-◌, ◌≤◌, ◌==◌, List, [], ◌∷◌, if◌then◌else◌, Option, Some, None, Result, Ok, Err, true, false, refl, sym, subst, arith}
use Rattle.std.specs.Prelude.{All, IfOk}
use Rattle.std.proofs.lemmas.List.Elements.{All-nil, All-cons}
use Rattle.std.proofs.lemmas.List.Kept.{AllPairs-cons}
use Rattle.sig_tokens.specs.declared.token.TokenKind.{TokenKind}
use Rattle.sig_tokens.specs.declared.token.Token.{Token}
use Rattle.sig_tokens.specs.declared.token.Cut.{Cut}
use Rattle.sig_program.specs.declared.version.Version.{Version}
use Rattle.sig_tokens.specs.Tokens.{cut_of, is_blank, front_token, with_token, AreRising}

-- the tokens begin at this place or behind it, each no sooner than those to its left
pub record StandFrom (at : ℕ) (ts : List Token) : Type 0 where
  pub from : All (λ (t : Token). at ≤ t.start) ts
  pub rising : AreRising ts

from_later : (a b : ℕ) (ts : List Token) → a ≤ b → All (λ (t : Token). b ≤ t.start) ts → All (λ (t : Token). a ≤ t.start) ts
from_later a b ts le h = λ k d lt. omega (arith, h k d lt)

later : (at : ℕ) (ts : List Token) → StandFrom (at + 1) ts → StandFrom at ts
later at ts h = record { from = from_later at (at + 1) ts (omega arith) h.from; rising = h.rising }

none_stand : (at : ℕ) → StandFrom at []
none_stand at = record { from = All-nil (λ (u : Token). at ≤ u.start); rising = λ i j d lt within. absurd (omega arith) }

one_before : (at : ℕ) (t : Token) (ts : List Token) → t.start ≡ at → StandFrom (at + 1) ts → StandFrom at (t ∷ ts)
one_before at t ts e h =
    let le : at ≤ t.start = omega (arith, e) in
    record {
      from = All-cons (λ (u : Token). at ≤ u.start) t ts le (from_later at (at + 1) ts (omega arith) h.from);
      rising = AllPairs-cons (λ (u w : Token). u.start ≤ w.start) t ts (from_later t.start (at + 1) ts (omega (arith, e)) h.from) h.rising;
    }

token_before : (o : Option (TokenKind × ℕ)) (at : ℕ) (after : ℕ → Cut) → ((skip : ℕ) → StandFrom (at + 1) (after skip).tokens) → StandFrom at (with_token o at after).tokens
token_before None at after h = none_stand at
token_before (Some t) at after h = one_before at (record { kind = t.0; start = at; end = at + t.1 }) (after (t.1 - 1)).tokens refl (h (t.1 - 1))

pub cut_stands : (v : Version) (at skip : ℕ) (bs : List ℕ) → StandFrom at (cut_of v at skip bs).tokens
unfolding cut_of
cut_stands v at skip [] = none_stand at
cut_stands v at (suc skip) (b ∷ bs) = later at (cut_of v (at + 1) skip bs).tokens (cut_stands v (at + 1) skip bs)
cut_stands v at zero (b ∷ bs) =
    elim (is_blank b) as (λ w. StandFrom at (if w then cut_of v (at + 1) 0 bs
    else if b == 37 then record { tokens = []; stop = None }
    else with_token (front_token v (b ∷ bs)) at (λ skip. cut_of v (at + 1) skip bs)).tokens) [
      | true ↦ later at (cut_of v (at + 1) 0 bs).tokens (cut_stands v (at + 1) 0 bs)
      | false ↦ elim (b == 37) as (λ w. StandFrom at (if w then record { tokens = []; stop = None }
          else with_token (front_token v (b ∷ bs)) at (λ skip. cut_of v (at + 1) skip bs)).tokens) [
            | true ↦ none_stand at
            | false ↦ token_before (front_token v (b ∷ bs)) at (λ skip. cut_of v (at + 1) skip bs) (λ skip. cut_stands v (at + 1) skip bs)
          ]
    ]

pub cut_rises : {E : Type 0} (v : Version) (line : List ℕ) (r : Result Cut E) → IfOk r (λ cut. cut ≡ cut_of v 0 0 line) → IfOk r (λ cut. AreRising cut.tokens)
cut_rises v line (Ok cut) h = subst (λ (x : Cut). AreRising x.tokens) (sym h) (cut_stands v 0 0 line).rising
cut_rises v line (Err e) h = tt
