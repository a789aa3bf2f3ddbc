-- What is shown of the token at the front of bytes, whatever is to be shown of a kind and a token's bytes.
use Rattle.std.proofs.Common.{◌≡◌, ℕ, ◌+◌, List, [], ◌∷◌, take, drop, Bool, true, false, nat_le, ◌==◌, if◌then◌else◌, Option, Some, None, refl, subst, arith}
use Rattle.sig_terms.specs.Words.{is_lower, is_upper, is_digit, is_name_byte, is_variable_byte, is_atom_byte}
use Rattle.sig_terms.specs.declared.bytes.TheConstants.{MOST_WORD_BYTES}
use Rattle.sig_tokens.specs.declared.token.TokenKind.{TokenKind}
use Rattle.sig_tokens.specs.declared.token.TokenKind.TheVariants.{Name, Variable, Integer, Quoted, Process, Sign}
use Rattle.sig_tokens.specs.declared.token.Sign as signs
use Rattle.sig_tokens.specs.declared.token.Sign.TheVariants as sign
use Rattle.sig_tokens.specs.Tokens.{front_run, process_at, minus_at, underscore_at, quote_at, equals_at, greater_at, slash_at, guard_sign_at, sign_by, sign_of, sign_or, front_token}
use Rattle.sig_program.specs.declared.version.Version.{Version}
use Rattle.sig_program.specs.declared.version.Version.TheVariants.{One, Two}

-- it holds of the token at the front, where one stands there
abbrev pub AtFront : (TokenKind → List ℕ → Type 0) → List ℕ → Option (TokenKind × ℕ) → Type 0
AtFront P rest None = Unit {0}
AtFront P rest (Some t) = P t.0 (take t.1 rest)

-- it holds of names, variables and quoted atoms at the front, and of any bytes of another kind
pub record OfEach (P : TokenKind → List ℕ → Type 0) : Type 0 where
  pub name : (b : ℕ) (bs : List ℕ) → is_lower b ≡ true → nat_le (1 + front_run is_name_byte bs) MOST_WORD_BYTES ≡ true → P Name (take (1 + front_run is_name_byte bs) (b ∷ bs))
  pub variable : (b : ℕ) (bs : List ℕ) → is_upper b ≡ true → nat_le (1 + front_run is_variable_byte bs) MOST_WORD_BYTES ≡ true →
      P Variable (take (1 + front_run is_variable_byte bs) (b ∷ bs))
  pub quoted : (b : ℕ) (bs : List ℕ) → nat_le (front_run is_atom_byte bs) MOST_WORD_BYTES ≡ true → P Quoted (take (2 + front_run is_atom_byte bs) (b ∷ bs))
  pub integer : (word : List ℕ) → P Integer word
  pub process : (word : List ℕ) → P Process word
  pub sign : (s : signs.Sign) (word : List ℕ) → P (Sign s) word

module _ (P : TokenKind → List ℕ → Type 0) (each : OfEach P) where
  -- a test, and what holds in both cases
  either : (rest : List ℕ) (v : Bool) (x y : Option (TokenKind × ℕ)) → (v ≡ true → AtFront P rest x) → AtFront P rest y → AtFront P rest (if v then x else y)
  either rest true x y f g = f refl
  either rest false x y f g = g

  zero-front : (kind : TokenKind) (n : ℕ) (rest : List ℕ) → P kind (take n rest) → P kind (take (0 + n) rest)
  zero-front kind n rest h = let same : n ≡ 0 + n = omega arith in subst (λ (m : ℕ). P kind (take m rest)) same h

  of_process : (rest bs : List ℕ) → AtFront P rest (process_at bs)
  of_process rest [] = tt
  of_process rest (b ∷ bs) =
      either rest (is_lower b) _ _ (λ _. either rest (nat_le (1 + front_run is_name_byte bs) MOST_WORD_BYTES) (Some (Process, 1 + (1 + front_run is_name_byte bs))) None (λ _. each.process _) tt) tt

  of_minus : (rest bs : List ℕ) → AtFront P rest (minus_at bs)
  of_minus rest [] = tt
  of_minus rest (b ∷ bs) =
      either rest (is_digit b) (Some (Integer, 2 + front_run is_digit bs)) _ (λ _. each.integer _) (either rest (b == 62) (Some (Sign sign.Arrow, 2)) None (λ _. each.sign _ _) tt)

  of_underscore : (rest bs : List ℕ) → AtFront P rest (underscore_at bs)
  of_underscore rest [] = each.sign _ _
  of_underscore rest (b ∷ bs) = either rest (is_name_byte b) None (Some (Sign sign.Underscore, 1)) (λ _. tt) (each.sign _ _)

  of_equals : (rest bs : List ℕ) → AtFront P rest (equals_at bs)
  of_equals rest [] = each.sign _ _
  of_equals rest (b ∷ bs) =
      either rest (b == 60) (Some (Sign sign.AtMost, 2)) _ (λ _. each.sign _ _)
      (either rest (b == 61) (Some (Sign sign.EqualTo, 2)) (Some (Sign sign.Equals, 1)) (λ _. each.sign _ _) (each.sign _ _))

  of_greater : (rest bs : List ℕ) → AtFront P rest (greater_at bs)
  of_greater rest [] = each.sign _ _
  of_greater rest (b ∷ bs) = either rest (b == 61) (Some (Sign sign.AtLeast, 2)) (Some (Sign sign.Greater, 1)) (λ _. each.sign _ _) (each.sign _ _)

  of_slash : (rest bs : List ℕ) → AtFront P rest (slash_at bs)
  of_slash rest [] = tt
  of_slash rest (b ∷ bs) = either rest (b == 61) (Some (Sign sign.UnequalTo, 2)) None (λ _. each.sign _ _) tt

  of_guard_sign : (rest : List ℕ) (b : ℕ) (bs : List ℕ) → AtFront P rest (guard_sign_at b bs)
  of_guard_sign rest b bs =
      either rest (b == 61) _ _ (λ _. of_equals rest bs)
      (either rest (b == 60) (Some (Sign sign.Less, 1)) _ (λ _. each.sign _ _)
      (either rest (b == 62) _ _ (λ _. of_greater rest bs)
      (either rest (b == 47) _ _ (λ _. of_slash rest bs)
      (either rest (b == 40) (Some (Sign sign.OpenParen, 1)) _ (λ _. each.sign _ _)
      (either rest (b == 41) (Some (Sign sign.CloseParen, 1)) None (λ _. each.sign _ _) tt)))))

  of_version : (v : Version) (rest : List ℕ) (b : ℕ) (bs : List ℕ) → AtFront P rest (sign_by v b bs)
  of_version One rest b bs = either rest (b == 61) (Some (Sign sign.Equals, 1)) None (λ _. each.sign _ _) tt
  of_version Two rest b bs = of_guard_sign rest b bs

  of_sign : (rest : List ℕ) (s : Option signs.Sign) (other : Option (TokenKind × ℕ)) → AtFront P rest other → AtFront P rest (sign_or s other)
  of_sign rest None other h = h
  of_sign rest (Some s) other h = each.sign _ _

  of_quote : (b : ℕ) (bs cs : List ℕ) → AtFront P (b ∷ bs) (quote_at (front_run is_atom_byte bs) cs)
  of_quote b bs [] = tt
  of_quote b bs (c ∷ cs) =
      let n : ℕ = front_run is_atom_byte bs in
      either (b ∷ bs) (c == 39) _ None (λ _. either (b ∷ bs) (nat_le n MOST_WORD_BYTES) (Some (Quoted, 2 + n)) None (λ short. each.quoted b bs short) tt) tt

  pub at_front : (v : Version) (rest : List ℕ) → AtFront P rest (front_token v rest)
  at_front v [] = tt
  at_front v (b ∷ bs) =
      let rest : List ℕ = b ∷ bs in
      either rest (is_lower b) _ _ (λ low. either rest (nat_le (1 + front_run is_name_byte bs) MOST_WORD_BYTES) (Some (Name, 0 + (1 + front_run is_name_byte bs))) None
      (λ short. zero-front Name (1 + front_run is_name_byte bs) rest (each.name b bs low short)) tt)
      (either rest (is_upper b) _ _ (λ up. either rest (nat_le (1 + front_run is_variable_byte bs) MOST_WORD_BYTES) (Some (Variable, 0 + (1 + front_run is_variable_byte bs))) None
      (λ short. zero-front Variable (1 + front_run is_variable_byte bs) rest (each.variable b bs up short)) tt)
      (either rest (is_digit b) (Some (Integer, 1 + front_run is_digit bs)) _ (λ _. each.integer _)
      (either rest (b == 64) _ _ (λ _. of_process rest bs)
      (either rest (b == 45) _ _ (λ _. of_minus rest bs)
      (either rest (b == 95) _ _ (λ _. of_underscore rest bs)
      (either rest (b == 39) _ _ (λ _. of_quote b bs (drop (front_run is_atom_byte bs) bs))
      (of_sign rest (sign_of b) _ (of_version v rest b bs))))))))
