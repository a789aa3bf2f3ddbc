-- What stands behind the word of a line is read back from its text, from left to right.
use Rattle.std.proofs.Common.{◌≡◌, ◌≢◌, ℕ, ◌+◌, ◌^◌, ◌<◌, Bool, true, false, List, [], ◌∷◌, ◌++◌, length, map, drop, refl, sym, ap, subst, ◌∙◌, arith}
use Rattle.std.specs.Prelude.{IfSome, Option, Some, None, is_some, ok_or, option_map, if◌then◌else◌, Result, Ok, Err, codes, decimal}
use Rattle.std.specs.List.{concat, list_all}
use Rattle.std.specs.Str.{bytes_eq}
use Rattle.std.proofs.lemmas.List.Folds.{list_all-append}
use Rattle.std.proofs.lemmas.Slice.Eq.{bytes_eq-Decides}
use Rattle.sig_kinds.specs.declared.alias_mode.AliasMode.{AliasMode}
use Rattle.sig_kinds.specs.declared.alias_mode.AliasMode.TheVariants as alias_mode
use Rattle.sig_terms.proofs.TokenReads.{Stops}
use Rattle.sig_patterns.specs.declared.var.Var.{Var}
use Rattle.sig_patterns.specs.declared.expression.Expr.{Expr}
use Rattle.sig_tokens.specs.declared.fault.FaultKind.{FaultKind}
use Rattle.sig_tokens.specs.declared.fault.FaultKind.TheVariants.{Syntax}
use Rattle.sig_tokens.specs.declared.known.Known.{Known}
use Rattle.sig_reader.specs.declared.keyword.Keyword.{Keyword}
use Rattle.sig_reader.specs.declared.draft.Draft.{Draft}
use Rattle.sig_reader.specs.declared.form.Form.{Form}
use Rattle.sig_reader.specs.declared.form.Form.TheVariants as form
use Rattle.sig_tokens.specs.declared.token.TokenKind.TheVariants.{Name, Integer}
use Rattle.sig_tokens.specs.declared.token.Token.{Token}
use Rattle.sig_tokens.specs.declared.token.Cut.{Cut}
use Rattle.sig_tokens.specs.Faults.{◌>>=◌, on_ok}
use Rattle.sig_tokens.specs.Names.{label_of, name_at, variable_at, target_at}
use Rattle.sig_tokens.specs.Tokens.{cut_of, text, is_token_in_range, checked, tokens_of, IsNameToken, IsVariableToken}
use Rattle.sig_tokens.specs.Expressions.{expr_spelling}
use Rattle.sig_program.specs.Instructions.{Operand, an_expr, a_variable, a_label, a_switch, a_mode, a_flag, Said, AllSaid}
use Rattle.sig_reader.specs.Forms.{keyword_of, may_stand, ends, arrow_of, count_from, turns_of, switch_of, word_at, mode_of, flag_of, operand_at, all_said, whole_name, marker_of, form_of, form_behind, said_by, said}
use Rattle.sig_canon.specs.ScriptText.{name_of_place, expr_text, after_blank, flag_text, mode_text, switch_text, target_text, marker_text}
use Rattle.sig_canon.specs.ReadableScript.{IsReadableExpr}
use Rattle.sig_reader.proofs.Seen.{expr_seen}
use Rattle.sig_canon.proofs.WordTexts.{is_inline, when_true, name_word, variable_word, count_word, count_again, arrow}
use Rattle.sig_canon.proofs.CutTexts.{tokens_at, token_at, token_text, word_tokens, IsWellCut, IsCut, word_is_cut, behind_text, blank_tokens, nothing_is_whole, no_tokens}
use Rattle.sig_canon.proofs.PhraseReads.{ends_sooner}
use Rattle.sig_canon.proofs.PhraseTexts.{name_found, variable_found, expr_read, phrase_found}
use Rattle.sig_canon.proofs.KnownNames.{Reads}
use Rattle.sig_program.specs.declared.version.Version.{Version}

-- The rest of a line is this text, which is cut whole, and the reader makes x of it.
pub record IsRest (version : Version) {X : Type 0} (read : List ℕ → List Token → Result X FaultKind) (bytes : List ℕ) (x : X) : Type 0 where
  pub whole : (line : List ℕ) (at : ℕ) → drop at line ≡ bytes → IsWellCut line (cut_of version at 0 bytes)
  pub clean : list_all is_inline bytes ≡ true
  pub stops : Stops bytes
  pub again : (line : List ℕ) (at : ℕ) → drop at line ≡ bytes → read line (tokens_at version at bytes) ≡ Ok x

-- nothing is left
pub no_rest : (version : Version) {X : Type 0} (read : List ℕ → List Token → Result X FaultKind) (x : X) → ((line : List ℕ) → read line [] ≡ Ok x) → IsRest version read [] x
no_rest version read x r = record {
  whole = λ line at here. nothing_is_whole version line at;
  clean = refl;
  stops = tt;
  again = λ line at here. ap (read line) (no_tokens version at) ∙ r line;
}

-- a blank, a text that ends there, and the rest behind it
pub text_on : (version : Version) {X Y : Type 0} {E : List ℕ → Type 0} (read : List ℕ → List Token → Result X FaultKind) (next : List ℕ → List Token → Result Y FaultKind) (a bytes : List ℕ) (x : X) (y : Y) → IsCut version E a → E bytes → IsRest version next bytes y →
    ((line : List ℕ) (at end : ℕ) → drop at line ≡ a ++ bytes → end ≡ at + length a → next line (tokens_at version end bytes) ≡ Ok y → read line (tokens_at version at (a ++ bytes)) ≡ Ok x) → IsRest version read (32 ∷ (a ++ bytes)) x
text_on version read next a bytes x y c stops r step = record {
  whole = λ line at here.
      let there : drop (at + 1) line ≡ a ++ bytes = behind_text line (32 ∷ []) (a ++ bytes) at (at + 1) here refl in
      let end : ℕ = at + 1 + length a in
      subst (IsWellCut line) (sym (blank_tokens version (a ++ bytes) at (at + 1) refl)) (c.whole line bytes (at + 1) end there refl stops (r.whole line end (behind_text line a bytes (at + 1) end there refl)));
  clean = list_all-append is_inline a bytes ∙ rw c.clean r.clean;
  stops = refl;
  again = λ line at here.
      let there : drop (at + 1) line ≡ a ++ bytes = behind_text line (32 ∷ []) (a ++ bytes) at (at + 1) here refl in
      let end : ℕ = at + 1 + length a in
      ap (λ (k : Cut). read line k.tokens) (blank_tokens version (a ++ bytes) at (at + 1) refl)
      ∙ step line (at + 1) end there refl (r.again line end (behind_text line a bytes (at + 1) end there refl));
}

pub rest_on : (version : Version) {X Y : Type 0} (read : List ℕ → List Token → Result X FaultKind) (next : List ℕ → List Token → Result Y FaultKind) (a bytes : List ℕ) (x : X) (y : Y) → IsCut version Stops a → IsRest version next bytes y →
    ((line : List ℕ) (at end : ℕ) → drop at line ≡ a ++ bytes → end ≡ at + length a → next line (tokens_at version end bytes) ≡ Ok y → read line (tokens_at version at (a ++ bytes)) ≡ Ok x) → IsRest version read (32 ∷ (a ++ bytes)) x
rest_on version read next a bytes x y c r step = text_on version read next a bytes x y c r.stops r step

-- the same rest, for a reader that makes more of it
pub rest_made : (version : Version) {X Y : Type 0} {read : List ℕ → List Token → Result X FaultKind} {bytes : List ℕ} {x : X} → IsRest version read bytes x → (more : List ℕ → List Token → Result Y FaultKind) (y : Y) →
    ((line : List ℕ) (ts : List Token) → read line ts ≡ Ok x → more line ts ≡ Ok y) → IsRest version more bytes y
rest_made version {X} {Y} {read} {bytes} {x} r more y f = record {
  whole = r.whole;
  clean = r.clean;
  stops = r.stops;
  again = λ line at here. f line (tokens_at version at bytes) (r.again line at here);
}

-- ---- operands

-- the operand x is read from this text
pub record IsOperand (version : Version) (known : Known) (here : ℕ) (o : Operand) (a : List ℕ) (x : Said o) : Type 0 where
  pub cut : IsCut version Stops a
  pub again : (line rest : List ℕ) (at end : ℕ) → drop at line ≡ a ++ rest → end ≡ at + length a → Stops rest → operand_at known here line o (tokens_at version at (a ++ rest)) ≡ Ok (x, tokens_at version end rest)

-- the rest of a line is operands
abbrev pub AreOperands : Version → Known → ℕ → (os : List Operand) → List ℕ → AllSaid os → Type 0
AreOperands version known here os bytes xs = IsRest version (λ line ts. all_said known here line os ts) bytes xs

pub no_operands : (version : Version) (known : Known) (here : ℕ) → AreOperands version known here [] [] tt
no_operands version known here = no_rest version (λ line ts. all_said known here line [] ts) tt (λ line. refl)

pub operand_on : (version : Version) (known : Known) (here : ℕ) (o : Operand) (os : List Operand) (a bytes : List ℕ) (x : Said o) (xs : AllSaid os) → IsOperand version known here o a x → AreOperands version known here os bytes xs →
    AreOperands version known here (o ∷ os) (32 ∷ (a ++ bytes)) (x, xs)
operand_on version known here o os a bytes x xs p r =
    rest_on version (λ line ts. all_said known here line (o ∷ os) ts) (λ line ts. all_said known here line os ts) a bytes (x, xs) xs p.cut r (λ line at end there e found.
    ap (λ (t : Result (Said o × List Token) FaultKind). t >>= λ y. on_ok (λ ys. (y.0, ys)) (all_said known here line os y.1)) (p.again line bytes at end there e r.stops)
    ∙ ap (λ (t : Result (AllSaid os) FaultKind). on_ok (λ ys. (x, ys)) t) found)

pub expr_operand : (version : Version) (known : Known) (here : ℕ) (names labels : List (List ℕ)) (f g : ℕ → ℕ) → Reads known here names labels f g → (e : Expr) → IsReadableExpr (length names) e → IsOperand version known here an_expr (expr_text names e) (expr_seen f e)
expr_operand version known here names labels f g reads e readable =
    let r = expr_read version known here names labels f g reads e readable.plain in
    record { cut = r.cut; again = λ line rest at end there place stops. phrase_found version expr_spelling known (expr_text names e) (expr_seen f e) _ _ r readable.nodes readable.depth line rest at end there place stops }

pub variable_operand : (version : Version) (known : Known) (here : ℕ) (word : List ℕ) → IsVariableToken word → IsOperand version known here a_variable word word
variable_operand version known here word named = record {
  cut = word_is_cut version word (variable_word version word named);
  again = λ line rest at end there place stops. variable_found version line word rest at end named there place stops;
}

pub label_operand : (version : Version) (known : Known) (here : ℕ) (word : List ℕ) (n : ℕ) → IsNameToken word → label_of known here word ≡ Ok n → IsOperand version known here a_label word n
label_operand version known here word n named found = record {
  cut = word_is_cut version word (name_word version word named);
  again = λ line rest at end there place stops.
      ap (λ (r : Result (List ℕ × List Token) FaultKind). r >>= λ x. on_ok (λ m. (m, x.1)) (label_of known here x.0)) (name_found version line word rest at end named there place stops)
      ∙ ap (λ (r : Result ℕ FaultKind). on_ok (λ m. (m, tokens_at version end rest)) r) found;
}

switch_operand : (version : Version) (known : Known) (here : ℕ) (word : List ℕ) (on : Bool) → IsNameToken word → switch_of word ≡ Ok on → IsOperand version known here a_switch word on
switch_operand version known here word on named found = record {
  cut = word_is_cut version word (name_word version word named);
  again = λ line rest at end there place stops.
      ap (λ (r : Result (List ℕ × List Token) FaultKind). r >>= λ x. on_ok (λ m. (m, x.1)) (switch_of x.0)) (name_found version line word rest at end named there place stops)
      ∙ ap (λ (r : Result Bool FaultKind). on_ok (λ m. (m, tokens_at version end rest)) r) found;
}

-- a word that may be left out
optional_found : (version : Version) {A : Type 0} (nothing : A) (meaning : List ℕ → Result A FaultKind) (word : List ℕ) (a : A) → IsNameToken word → meaning word ≡ Ok a → (line rest : List ℕ) (at end : ℕ) → drop at line ≡ word ++ rest → end ≡ at + length word → Stops rest →
    word_at nothing meaning line (tokens_at version at (word ++ rest)) ≡ Ok (a, tokens_at version end rest)
optional_found version {A} nothing meaning word a named found line rest at end there place stops =
    let front = word_tokens version word rest at end (name_word version word named) stops place in
    ap (word_at nothing meaning line) front
    ∙ ap (λ (r : Result (List ℕ × List Token) FaultKind). r >>= λ x. on_ok (λ b. (b, x.1)) (meaning x.0)) (ap (name_at line) (sym front) ∙ name_found version line word rest at end named there place stops)
    ∙ ap (λ (r : Result A FaultKind). on_ok (λ b. (b, tokens_at version end rest)) r) found

mode_operand : (version : Version) (known : Known) (here : ℕ) (word : List ℕ) (mode : Option AliasMode) → IsNameToken word → mode_of word ≡ Ok mode → IsOperand version known here a_mode word mode
mode_operand version known here word mode named found = record {
  cut = word_is_cut version word (name_word version word named);
  again = λ line rest at end there place stops. optional_found version None mode_of word mode named found line rest at end there place stops;
}

flag_operand : (version : Version) (known : Known) (here : ℕ) (flag : List ℕ) → IsNameToken flag → IsOperand version known here (a_flag flag) flag true
flag_operand version known here flag named =
    let same : flag_of flag flag ≡ Ok true = when_true (bytes_eq flag flag) _ _ ((bytes_eq-Decides flag flag).1 refl) in
    record {
      cut = word_is_cut version flag (name_word version flag named);
      again = λ line rest at end there place stops. optional_found version false (flag_of flag) flag true named same line rest at end there place stops;
    }

last_operand : (version : Version) (known : Known) (here : ℕ) (o : Operand) (a : List ℕ) (x : Said o) → IsOperand version known here o a x → AreOperands version known here (o ∷ []) (concat (after_blank a ∷ [])) (x, tt)
last_operand version known here o a x p = operand_on version known here o [] a [] x tt p (no_operands version known here)

pub mode_rest : (version : Version) (known : Known) (here : ℕ) (mode : Option AliasMode) → mode ≢ Some alias_mode.Reply → AreOperands version known here (a_mode ∷ []) (concat (map after_blank (mode_text mode []))) (mode, tt)
mode_rest version known here None other = no_rest version (λ line ts. all_said known here line (a_mode ∷ []) ts) (None, tt) (λ line. refl)
mode_rest version known here (Some alias_mode.Explicit) other = last_operand version known here a_mode (codes "explicit_unalias") (Some alias_mode.Explicit) (mode_operand version known here (codes "explicit_unalias") (Some alias_mode.Explicit) (omega arith, refl) refl)
mode_rest version known here (Some alias_mode.Demonitor) other = last_operand version known here a_mode (codes "demonitor") (Some alias_mode.Demonitor) (mode_operand version known here (codes "demonitor") (Some alias_mode.Demonitor) (omega arith, refl) refl)
mode_rest version known here (Some alias_mode.ReplyDemonitor) other = last_operand version known here a_mode (codes "reply_demonitor") (Some alias_mode.ReplyDemonitor) (mode_operand version known here (codes "reply_demonitor") (Some alias_mode.ReplyDemonitor) (omega arith, refl) refl)
mode_rest version known here (Some alias_mode.Reply) other = absurd (other refl)

pub flag_rest : (version : Version) (known : Known) (here : ℕ) (flag : List ℕ) → IsNameToken flag → (on : Bool) → AreOperands version known here (a_flag flag ∷ []) (concat (map after_blank (flag_text flag on []))) (on, tt)
flag_rest version known here flag named true = last_operand version known here (a_flag flag) flag true (flag_operand version known here flag named)
flag_rest version known here flag named false = no_rest version (λ line ts. all_said known here line (a_flag flag ∷ []) ts) (false, tt) (λ line. refl)

pub switch_read : (version : Version) (known : Known) (here : ℕ) (on : Bool) → IsOperand version known here a_switch (switch_text on) on
switch_read version known here true = switch_operand version known here (codes "on") true (omega arith, refl) refl
switch_read version known here false = switch_operand version known here (codes "off") false (omega arith, refl) refl

-- ---- other rests

-- a reader that asks for nothing
abbrev nothing_asked : List ℕ → List Token → Result ℕ FaultKind
nothing_asked line ts = Ok 0

nothing_rest : (version : Version) → IsRest version nothing_asked [] 0
nothing_rest version = no_rest version nothing_asked 0 (λ line. refl)

-- the last text, of which the reader makes y
pub last_rest : (version : Version) {X Y : Type 0} (front : List ℕ → List Token → Result (X × List Token) FaultKind) (a : List ℕ) (x : X) (make : X → Y) → IsCut version Stops a →
    ((line rest : List ℕ) (at end : ℕ) → drop at line ≡ a ++ rest → end ≡ at + length a → Stops rest → front line (tokens_at version at (a ++ rest)) ≡ Ok (x, tokens_at version end rest)) →
    IsRest version (λ line ts. front line ts >>= λ p. ends (make p.0) p.1) (32 ∷ (a ++ [])) (make x)
last_rest version {X} {Y} front a x make c found =
    rest_on version (λ line ts. front line ts >>= λ p. ends (make p.0) p.1) nothing_asked a [] (make x) 0 c (nothing_rest version) (λ line at end there e _.
    ap (λ (r : Result (X × List Token) FaultKind). r >>= λ p. ends (make p.0) p.1) (found line [] at end there e tt) ∙ ap (ends (make x)) (no_tokens version end))

pub name_rest : (version : Version) (word : List ℕ) → IsNameToken word → IsRest version whole_name (32 ∷ (word ++ [])) word
name_rest version word named = last_rest version name_at word word (λ name. name) (word_is_cut version word (name_word version word named)) (λ line rest at end there place stops. name_found version line word rest at end named there place stops)

turns_found : (version : Version) (n : ℕ) → n < 2 ^ 63 → (line rest : List ℕ) (at end : ℕ) → drop at line ≡ decimal n ++ rest → end ≡ at + length (decimal n) → Stops rest → turns_of line (tokens_at version at (decimal n ++ rest)) ≡ ends (form.Turns n) (tokens_at version end rest)
turns_found version n fits line rest at end there place stops =
    ap (turns_of line) (word_tokens version (decimal n) rest at end (count_word version n fits) stops place)
    ∙ ap (λ (bytes : List ℕ). count_from Integer bytes >>= λ m. ends (form.Turns m) (tokens_at version end rest)) (token_text line (decimal n) rest Integer at there)
    ∙ ap (λ (o : Option ℕ). ok_or o Syntax >>= λ m. ends (form.Turns m) (tokens_at version end rest)) (count_again n fits)

pub turns_rest : (version : Version) (n : ℕ) → n < 2 ^ 63 → IsRest version turns_of (32 ∷ (decimal n ++ [])) (form.Turns n)
turns_rest version n fits =
    rest_on version turns_of nothing_asked (decimal n) [] (form.Turns n) 0 (word_is_cut version (decimal n) (count_word version n fits)) (nothing_rest version) (λ line at end there e _.
    turns_found version n fits line [] at end there e tt ∙ ap (ends (form.Turns n)) (no_tokens version end))

-- nothing, or an arrow and a label
pub arrow_rest : (version : Version) (known : Known) (here : ℕ) (names labels : List (List ℕ)) (f g : ℕ → ℕ) → Reads known here names labels f g → (target : Option ℕ) → IfSome target (λ n. n < length labels) →
    IsRest version (arrow_of known here) (concat (map after_blank (target_text labels target))) (option_map g target)
arrow_rest version known here names labels f g reads None within = no_rest version (arrow_of known here) None (λ line. refl)
arrow_rest version known here names labels f g reads (Some n) within =
    let place = reads.places n within in
    let name : List ℕ = name_of_place labels n in
    let o = label_operand version known here name (g n) place.0 place.1 in
    let rest = last_rest version (target_at known here) name (g n) (λ m. Some m) o.cut o.again in
    rest_on version (arrow_of known here) (λ line ts. target_at known here line ts >>= λ x. ends (Some x.0) x.1) (codes "->") (32 ∷ (name ++ [])) (Some (g n)) (Some (g n)) (ends_sooner version (word_is_cut version (codes "->") (arrow version)) (λ rest stops. tt)) rest
    (λ line at end there e found. ap (arrow_of known here line) (word_tokens version (codes "->") (32 ∷ (name ++ [])) at end (arrow version) tt e) ∙ found)

using_named : IsNameToken (codes "using")
using_named = (omega arith, refl)

using_found : (version : Version) (line rest : List ℕ) (at end : ℕ) → drop at line ≡ codes "using" ++ rest → end ≡ at + 5 → Stops rest →
    marker_of line (tokens_at version at (codes "using" ++ rest)) ≡ (variable_at line (tokens_at version end rest) >>= λ y. ends (Some (record { 0 = y.0 })) y.1)
using_found version line rest at end there place stops =
    let named = using_named in
    let front = word_tokens version (codes "using") rest at end (name_word version (codes "using") named) stops place in
    ap (marker_of line) front
    ∙ ap (λ (r : Result (List ℕ × List Token) FaultKind). r >>= λ x. flag_of (codes "using") x.0 >>= λ is_using. variable_at line x.1 >>= λ y. ends (Some (record { 0 = y.0 })) y.1)
    (ap (name_at line) (sym front) ∙ name_found version line (codes "using") rest at end named there place stops)

pub marker_rest : (version : Version) (using : Option Var) → IfSome using (λ x. IsVariableToken x.0) → IsRest version marker_of (concat (map after_blank (marker_text using))) using
marker_rest version None named = no_rest version marker_of None (λ line. refl)
marker_rest version (Some x) named =
    let rest = last_rest version variable_at x.0 x.0 (λ bytes. Some (record { 0 = bytes })) (word_is_cut version x.0 (variable_word version x.0 named)) (λ line rest at end there place stops. variable_found version line x.0 rest at end named there place stops) in
    rest_on version marker_of (λ line ts. variable_at line ts >>= λ y. ends (Some (record { 0 = y.0 })) y.1) (codes "using") (32 ∷ (x.0 ++ [])) (Some x) (Some x) (word_is_cut version (codes "using") (name_word version (codes "using") using_named)) rest
    (λ line at end there e found. using_found version line (32 ∷ (x.0 ++ [])) at end there e refl ∙ found)

-- ---- lines

-- The line begins with this word, and the rest is read as this form.
pub record IsFormLine (version : Version) (known : Known) (here : ℕ) (line : List ℕ) (word : Keyword) (f : Form) : Type 0 where
  pub front : List ℕ
  pub bytes : List ℕ
  pub is : line ≡ front ++ bytes
  pub named : IsNameToken front
  pub means : keyword_of front ≡ Some word
  pub rest : IsRest version (form_of known here word) bytes f

checked_whole : (line : List ℕ) (cut : Cut) → IsWellCut line cut → checked line cut ≡ Ok cut.tokens
checked_whole line cut w =
    when_true (list_all (λ t. is_token_in_range (text line t) t.kind) cut.tokens) _ _ w.0 ∙ ap (λ (o : Option ℕ). if is_some o then Err Syntax else Ok cut.tokens) w.1

-- a line that begins with a name
pub front_said : (known : Known) (d : Draft) (front bytes : List ℕ) (word : Keyword) (f : Form) → IsNameToken front → keyword_of front ≡ Some word → IsRest d.version (form_of known (length d.procs) word) bytes f → may_stand d word ≡ true →
    said known d (front ++ bytes) ≡ Ok (Some f)
unfolding said said_by
front_said known d front bytes word f named means rest here =
    let line : List ℕ = front ++ bytes in
    let end : ℕ = length front in
    let place : end ≡ 0 + length front = omega arith in
    let w = name_word d.version front named in
    let there : drop end line ≡ bytes = behind_text line front bytes 0 end refl place in
    let whole : IsWellCut line (cut_of d.version 0 0 line) = (word_is_cut d.version front w).whole line bytes 0 end refl place rest.stops (rest.whole line end there) in
    let tokens : tokens_of d.version line ≡ Ok (token_at Name 0 front ∷ tokens_at d.version end bytes) = checked_whole line (cut_of d.version 0 0 line) whole ∙ ap (λ (ts : List Token). Ok ts) (word_tokens d.version front bytes 0 end w rest.stops place) in
    ap (λ (r : Result (List Token) FaultKind). r >>= said_by known d line) tokens
    ∙ ap (λ (b : List ℕ). on_ok Some (form_behind known d (keyword_of b) line (tokens_at d.version end bytes))) (token_text line front bytes Name 0 refl)
    ∙ ap (λ (k : Option Keyword). on_ok Some (form_behind known d k line (tokens_at d.version end bytes))) means
    ∙ ap (on_ok Some) (when_true (may_stand d word) _ _ here ∙ rest.again line end there)

pub line_said : (known : Known) (d : Draft) (line : List ℕ) (word : Keyword) (f : Form) → IsFormLine d.version known (length d.procs) line word f → may_stand d word ≡ true → said known d line ≡ Ok (Some f)
line_said known d line word f l here = ap (said known d) l.is ∙ front_said known d l.front l.bytes word f l.named l.means l.rest here

pub line_clean : (version : Version) (known : Known) (here : ℕ) (line : List ℕ) (word : Keyword) (f : Form) → IsFormLine version known here line word f → list_all is_inline line ≡ true
line_clean version known here line word f l = ap (list_all is_inline) l.is ∙ list_all-append is_inline l.front l.bytes ∙ rw (name_word version l.front l.named).clean l.rest.clean
