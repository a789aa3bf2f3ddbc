-- How the texts of a line are cut, one behind another.
use Rattle.std.proofs.Common.{◌≡◌, ℕ, suc, ◌+◌, ◌-◌, ◌<◌, true, false, List, [], ◌∷◌, ◌++◌, length, take, drop, Option, Some, None, refl, sym, ap, subst, ◌∙◌, arith, append_assoc, length-append, drop-drop}
use Rattle.std.specs.List.{list_all}
use Rattle.std.proofs.lemmas.List.Folds.{list_all-append}
use Rattle.std.proofs.Math.Seq.{take-append_seam, drop-append_seam}
use Rattle.sig_tokens.specs.declared.token.Sign as signs
use Rattle.sig_tokens.specs.declared.token.TokenKind.{TokenKind}
use Rattle.sig_tokens.specs.declared.token.Token.{Token}
use Rattle.sig_tokens.specs.declared.token.Cut.{Cut}
use Rattle.sig_tokens.specs.Tokens.{front_token, with_token, cut_of, text, is_token_in_range}
use Rattle.sig_tokens.specs.Signs.{closes}
use Rattle.sig_tokens.proofs.CutLemmas.{cut-nil, cut-skip, cut-blank, cut-token, same_cut}
use Rattle.sig_canon.proofs.WordTexts.{is_inline, IsWord}
use Rattle.sig_program.specs.declared.version.Version.{Version}

-- the tokens of the bytes that stand at this place of a line
abbrev pub tokens_at : Version → ℕ → List ℕ → List Token
tokens_at version at bytes = (cut_of version at 0 bytes).tokens

-- the tokens are those of the whole line, and each integer is in range
abbrev pub IsWellCut : List ℕ → Cut → Type 0
IsWellCut line cut = (list_all (λ t. is_token_in_range (text line t) t.kind) cut.tokens ≡ true) × (cut.stop ≡ None)

-- behind a text
pub behind_text : (line a rest : List ℕ) (at end : ℕ) → drop at line ≡ a ++ rest → end ≡ at + length a → drop end line ≡ rest
behind_text line a rest at end here e =
    ap (λ (n : ℕ). drop n line) e ∙ drop_after line at (length a) ∙ ap (drop (length a)) here ∙ drop-append_seam a rest
  where
    drop_after : (xs : List ℕ) (i n : ℕ) → drop (i + n) xs ≡ drop n (drop i xs)
    drop_after xs i n = sym (drop-drop n i xs)

-- the token of a word that stands at this place
abbrev pub token_at : TokenKind → ℕ → List ℕ → Token
token_at kind at word = record { kind = kind; start = at; end = at + length word }

pub token_text : (line word rest : List ℕ) (kind : TokenKind) (at : ℕ) → drop at line ≡ word ++ rest → text line (token_at kind at word) ≡ word
token_text line word rest kind at here =
    let n : at + length word - at ≡ length word = omega arith in
    ap (λ (k : ℕ). take k (drop at line)) n ∙ ap (take (length word)) here ∙ take-append_seam word rest

-- a word at the front is cut off
pub word_cut : (version : Version) {Ends : List ℕ → Type 0} {kind : TokenKind} (word rest : List ℕ) (at end : ℕ) → IsWord version Ends kind word → Ends rest → end ≡ at + length word →
    cut_of version at 0 (word ++ rest) ≡ record { tokens = token_at kind at word ∷ tokens_at version end rest; stop = (cut_of version end 0 rest).stop }
word_cut version {Ends} {kind} word rest at end w ends e =
    let whole : word ++ rest ≡ w.first ∷ (w.others ++ rest) = ap (λ (xs : List ℕ). xs ++ rest) w.is in
    let n : length word ≡ suc (length w.others) = ap length w.is in
    let front : front_token version (w.first ∷ (w.others ++ rest)) ≡ Some (kind, length word) = ap (front_token version) (sym whole) ∙ w.front rest ends in
    let less : length word - 1 ≡ length w.others = omega arith in
    let place : at + 1 + length w.others ≡ end = omega arith in
    let skipped : cut_of version (at + 1) (length word - 1) (w.others ++ rest) ≡ cut_of version end 0 rest =
    ap (λ (k : ℕ). cut_of version (at + 1) k (w.others ++ rest)) less
    ∙ cut-skip version (at + 1) (length w.others) (w.others ++ rest) (omega (arith, length-append w.others rest))
    ∙ same_cut version (at + 1 + length w.others) end (drop (length w.others) (w.others ++ rest)) rest place (drop-append_seam w.others rest) in
    ap (cut_of version at 0) whole
    ∙ cut-token version at w.first (w.others ++ rest) w.seen w.plain
    ∙ ap (λ (o : Option (TokenKind × ℕ)). with_token o at (λ skip. cut_of version (at + 1) skip (w.others ++ rest))) front
    ∙ ap (λ (c : Cut). record { tokens = token_at kind at word ∷ c.tokens; stop = c.stop }) skipped

pub word_tokens : (version : Version) {Ends : List ℕ → Type 0} {kind : TokenKind} (word rest : List ℕ) (at end : ℕ) → IsWord version Ends kind word → Ends rest → end ≡ at + length word →
    tokens_at version at (word ++ rest) ≡ token_at kind at word ∷ tokens_at version end rest
word_tokens version word rest at end w ends e = ap (λ (c : Cut). c.tokens) (word_cut version word rest at end w ends e)

-- The text is cut whole, into one token or more, and ends no line.
pub record IsCut (version : Version) (Ends : List ℕ → Type 0) (a : List ℕ) : Type 0 where
  pub whole : (line rest : List ℕ) (at end : ℕ) → drop at line ≡ a ++ rest → end ≡ at + length a → Ends rest → IsWellCut line (cut_of version end 0 rest) → IsWellCut line (cut_of version at 0 (a ++ rest))
  pub fewer : (rest : List ℕ) (at end : ℕ) → end ≡ at + length a → Ends rest → length (tokens_at version end rest) < length (tokens_at version at (a ++ rest))
  pub clean : list_all is_inline a ≡ true

pub word_is_cut : (version : Version) {Ends : List ℕ → Type 0} {kind : TokenKind} (word : List ℕ) → IsWord version Ends kind word → IsCut version Ends word
word_is_cut version {Ends} {kind} word w = record {
  whole = λ line rest at end here e ends behind.
      let range : is_token_in_range (text line (token_at kind at word)) kind ≡ true = ap (λ (bytes : List ℕ). is_token_in_range bytes kind) (token_text line word rest kind at here) ∙ w.range in
      subst (IsWellCut line) (sym (word_cut version word rest at end w ends e)) (rw range behind.0, behind.1);
  fewer = λ rest at end e ends. omega (arith, ap length (word_tokens version word rest at end w ends e));
  clean = w.clean;
}

-- one text behind another, where the first ends there
pub cut_on : (version : Version) {E F : List ℕ → Type 0} (a b : List ℕ) → IsCut version E a → IsCut version F b → ((rest : List ℕ) → F rest → E (b ++ rest)) → IsCut version F (a ++ b)
cut_on version a b p q ends = record {
  whole = λ line rest at end here e f behind.
      let split : (a ++ b) ++ rest ≡ a ++ (b ++ rest) = append_assoc a b rest in
      let there : drop at line ≡ a ++ (b ++ rest) = here ∙ split in
      let place : end ≡ at + length a + length b = omega (arith, length-append a b) in
      subst (λ (xs : List ℕ). IsWellCut line (cut_of version at 0 xs)) (sym split) (p.whole line (b ++ rest) at (at + length a) there refl (ends rest f)
      (q.whole line rest (at + length a) end (behind_text line a (b ++ rest) at (at + length a) there refl) place f behind));
  fewer = λ rest at end e f.
      let place : end ≡ at + length a + length b = omega (arith, length-append a b) in
      let split : length (tokens_at version at ((a ++ b) ++ rest)) ≡ length (tokens_at version at (a ++ (b ++ rest))) = ap (λ (xs : List ℕ). length (tokens_at version at xs)) (append_assoc a b rest) in
      omega (arith, split, p.fewer (b ++ rest) at (at + length a) refl (ends rest f), q.fewer rest (at + length a) end place f);
  clean = list_all-append is_inline a b ∙ rw p.clean q.clean;
}

-- the first token is there, and closes nothing
abbrev pub Opens : List Token → Type 0
Opens [] = ⊥
Opens (t ∷ ts) = (close : signs.Sign) → closes close t.kind ≡ false

pub word_opens : (version : Version) {Ends : List ℕ → Type 0} {kind : TokenKind} (word rest : List ℕ) (at : ℕ) → IsWord version Ends kind word → Ends rest → ((close : signs.Sign) → closes close kind ≡ false) → Opens (tokens_at version at (word ++ rest))
word_opens version word rest at w ends none = subst Opens (sym (word_tokens version word rest at (at + length word) w ends refl)) none

-- a blank
pub blank_tokens : (version : Version) (rest : List ℕ) (at end : ℕ) → end ≡ at + 1 → cut_of version at 0 (32 ∷ rest) ≡ cut_of version end 0 rest
blank_tokens version rest at end e = cut-blank version at 32 rest refl ∙ ap (λ (n : ℕ). cut_of version n 0 rest) (sym e)

pub nothing_is_whole : (version : Version) (line : List ℕ) (at : ℕ) → IsWellCut line (cut_of version at 0 [])
nothing_is_whole version line at = subst (IsWellCut line) (sym (cut-nil version at)) (refl, refl)

pub no_tokens : (version : Version) (at : ℕ) → tokens_at version at [] ≡ []
no_tokens version at = ap (λ (c : Cut). c.tokens) (cut-nil version at)
