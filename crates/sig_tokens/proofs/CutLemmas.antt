-- The tokens of a line, step by step.
use Rattle.std.proofs.Common.{◌≡◌, ℕ, zero, suc, ◌+◌, ◌-◌, ◌<◌, ◌≤◌, List, [], ◌∷◌, ◌++◌, length, get_or, drop, Option, Some, None, true, false, refl, sym, ◌∙◌, ap, arith, append_assoc, append-nil, drop-drop, ◌==◌, take, add-one, length-drop}
use Rattle.std.proofs.lemmas.Bool.Decides.{nat_tests}
use Rattle.std.proofs.Math.Seq.{drop-cons}
use Rattle.std.proofs.lemmas.List.{drop_all}
use Rattle.std.proofs.lemmas.Grind.{common_steps}
use Rattle.sig_tokens.specs.declared.token.TokenKind.{TokenKind}
use Rattle.sig_tokens.specs.declared.token.Token.{Token}
use Rattle.sig_tokens.specs.declared.token.Cut.{Cut}
use Rattle.sig_program.specs.declared.version.Version.{Version}
use Rattle.sig_tokens.specs.Tokens.{cut_of, is_blank, front_token, with_token}

-- tokens before those of a cut
abbrev pub joined : List Token → Cut → Cut
joined before cut = record { tokens = before ++ cut.tokens; stop = cut.stop }

pub joined-nil : (ts : List Token) (stop : Option ℕ) → joined ts (record { tokens = []; stop = stop }) ≡ record { tokens = ts; stop = stop }
joined-nil ts stop = ap (λ (xs : List Token). record { tokens = xs; stop = stop }) (append-nil ts)

pub joined-more : (ts : List Token) (t : Token) (cut : Cut) → joined (ts ++ t ∷ []) cut ≡ joined ts (joined (t ∷ []) cut)
joined-more ts t cut = ap (λ (xs : List Token). record { tokens = xs; stop = cut.stop }) (append_assoc ts (t ∷ []) cut.tokens)

-- from here on the line is that of a loop, and i the place in it
abbrev pub rest_at : ℕ → List ℕ → List ℕ
rest_at i line = take (length line - i) (drop i line)

pub rest-is_drop : (i : ℕ) (line : List ℕ) → rest_at i line ≡ drop i line
rest-is_drop i line = grind (arith, common_steps)

pub token-within : (i len : ℕ) (line : List ℕ) → i < length line → len ≤ length (rest_at i line) → i + len ≤ length line
token-within i len line lt le = omega (arith, le, ap length (rest-is_drop i line), length-drop {A = ℕ} i line)

module _ (v : Version) where
  pub same_cut : (a b : ℕ) (xs ys : List ℕ) → a ≡ b → xs ≡ ys → cut_of v a 0 xs ≡ cut_of v b 0 ys
  same_cut a b xs ys p q = ap (λ (n : ℕ). cut_of v n 0 xs) p ∙ ap (λ (zs : List ℕ). cut_of v b 0 zs) q

  -- the end of the line
  pub cut-nil : (at : ℕ) → cut_of v at 0 [] ≡ record { tokens = []; stop = None }
  unfolding cut_of
  cut-nil at = refl

  -- what belongs to a token already is passed over
  pub cut-skip : (at skip : ℕ) (bs : List ℕ) → skip ≤ length bs → cut_of v at skip bs ≡ cut_of v (at + skip) 0 (drop skip bs)
  unfolding cut_of
  cut-skip at zero bs h = same_cut at (at + 0) bs bs (omega arith) refl
  cut-skip at (suc skip) [] h = absurd (omega arith)
  cut-skip at (suc skip) (b ∷ bs) h =
      let le : skip ≤ length bs = omega arith in
      cut-skip (at + 1) skip bs le ∙ same_cut (at + 1 + skip) (at + suc skip) (drop skip bs) (drop skip bs) (omega arith) refl

  pub cut-blank : (at b : ℕ) (bs : List ℕ) → is_blank b ≡ true → cut_of v at 0 (b ∷ bs) ≡ cut_of v (at + 1) 0 bs
  unfolding cut_of
  cut-blank at b bs h = rw h refl

  pub cut-comment : (at b : ℕ) (bs : List ℕ) → b ≡ 37 → cut_of v at 0 (b ∷ bs) ≡ record { tokens = []; stop = None }
  unfolding cut_of
  cut-comment at b bs h = rw h refl

  pub cut-token : (at b : ℕ) (bs : List ℕ) → is_blank b ≡ false → (b == 37) ≡ false →
      cut_of v at 0 (b ∷ bs) ≡ with_token (front_token v (b ∷ bs)) at (λ skip. cut_of v (at + 1) skip bs)
  unfolding cut_of
  cut-token at b bs h k = rw (h, k) refl

  pub comment-step : (i : ℕ) (line : List ℕ) → i < length line → get_or line i 0 ≡ 37 → cut_of v i 0 (drop i line) ≡ record { tokens = []; stop = None }
  comment-step i line lt h = same_cut _ _ _ _ refl (drop-cons line i 0 lt) ∙ cut-comment i (get_or line i 0) (drop (suc i) line) h

  pub blank-step : (i : ℕ) (line : List ℕ) → i < length line → is_blank (get_or line i 0) ≡ true → cut_of v i 0 (drop i line) ≡ cut_of v (i + 1) 0 (drop (i + 1) line)
  blank-step i line lt h =
      same_cut _ _ _ _ refl (drop-cons line i 0 lt) ∙ cut-blank i (get_or line i 0) (drop (suc i) line) h
      ∙ same_cut (i + 1) (i + 1) (drop (suc i) line) (drop (i + 1) line) (omega arith) (ap (λ (n : ℕ). drop n line) (sym (add-one i)))

  pub here : (i : ℕ) (line : List ℕ) → i < length line → is_blank (get_or line i 0) ≡ false → (get_or line i 0 ≡ 37 → ⊥) →
      cut_of v i 0 (drop i line) ≡ with_token (front_token v (rest_at i line)) i (λ skip. cut_of v (i + 1) skip (drop (suc i) line))
  here i line lt h k =
      let e : get_or line i 0 ∷ drop (suc i) line ≡ rest_at i line = sym (drop-cons line i 0 lt) ∙ sym (rest-is_drop i line) in
      let no : (get_or line i 0 == 37) ≡ false = grind (arith, nat_tests) in
      same_cut _ _ _ _ refl (drop-cons line i 0 lt) ∙ cut-token i (get_or line i 0) (drop (suc i) line) h no
      ∙ ap (λ (xs : List ℕ). with_token (front_token v xs) i (λ skip. cut_of v (i + 1) skip (drop (suc i) line))) e

  pub stop-step : (i : ℕ) (line : List ℕ) → i < length line → is_blank (get_or line i 0) ≡ false → (get_or line i 0 ≡ 37 → ⊥) →
      front_token v (rest_at i line) ≡ None → cut_of v i 0 (drop i line) ≡ record { tokens = []; stop = Some i }
  stop-step i line lt h k none =
      here i line lt h k ∙ ap (λ (o : Option (TokenKind × ℕ)). with_token o i (λ skip. cut_of v (i + 1) skip (drop (suc i) line))) none

  pub token-step : (i : ℕ) (line : List ℕ) (kind : TokenKind) (len : ℕ) → i < length line → is_blank (get_or line i 0) ≡ false → (get_or line i 0 ≡ 37 → ⊥) →
      front_token v (rest_at i line) ≡ Some (kind, len) → 0 < len → len ≤ length (rest_at i line) →
      cut_of v i 0 (drop i line) ≡ joined (record { kind = kind; start = i; end = i + len } ∷ []) (cut_of v (i + len) 0 (drop (i + len) line))
  token-step i line kind len lt h k some pos le =
      let most : len ≤ length line - i = omega (arith, le, ap length (rest-is_drop i line), length-drop {A = ℕ} i line) in
      let fits : len - 1 ≤ length (drop (suc i) line) = omega (arith, length-drop {A = ℕ} (suc i) line) in
      let skipped : cut_of v (i + 1) (len - 1) (drop (suc i) line) ≡ cut_of v (i + len) 0 (drop (i + len) line) =
      cut-skip (i + 1) (len - 1) (drop (suc i) line) fits
      ∙ same_cut (i + 1 + (len - 1)) (i + len) (drop (len - 1) (drop (suc i) line)) (drop (i + len) line) (omega arith)
      (drop-drop (len - 1) (suc i) line ∙ ap (λ (n : ℕ). drop n line) (omega arith)) in
      here i line lt h k
      ∙ ap (λ (o : Option (TokenKind × ℕ)). with_token o i (λ skip. cut_of v (i + 1) skip (drop (suc i) line))) some
      ∙ ap (joined (record { kind = kind; start = i; end = i + len } ∷ [])) skipped

  pub end-step : (i : ℕ) (line : List ℕ) → length line ≤ i → cut_of v i 0 (drop i line) ≡ record { tokens = []; stop = None }
  end-step i line h = same_cut i i (drop i line) [] refl (drop_all i line h) ∙ cut-nil i
