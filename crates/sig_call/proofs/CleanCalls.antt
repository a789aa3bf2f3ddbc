-- No part of a call line has a line feed, so neither has a line of its expansion.
use Rattle.std.proofs.Common.{◌≡◌, ℕ, zero, suc, ◌-◌, ◌<◌, ◌^◌, Bool, true, false, ◌&&◌, not, if◌then◌else◌, List, [], ◌∷◌, ◌++◌, take, drop, Option, Some, None, Result, Ok, Err, refl, ◌∙◌}
use Rattle.std.specs.Prelude.{codes, decimal, is_some, IfOk, IfSome, slice_range}
use Rattle.std.specs.List.{concat, list_all}
use Rattle.std.proofs.lemmas.List.Folds.{list_all-append}
use Rattle.sig_program.specs.declared.version.Version.{Version}
use Rattle.sig_terms.proofs.Choices.{both_true}
use Rattle.sig_tokens.specs.declared.token.TokenKind.{TokenKind}
use Rattle.sig_tokens.specs.declared.token.TokenKind.TheVariants.{Name, Variable}
use Rattle.sig_tokens.specs.declared.token.Token.{Token}
use Rattle.sig_tokens.specs.declared.token.Cut.{Cut}
use Rattle.sig_tokens.specs.Faults.{◌>>=◌, on_ok}
use Rattle.sig_tokens.specs.Signs.{is_arrow}
use Rattle.sig_tokens.specs.Skipping.{expression_end}
use Rattle.sig_tokens.specs.Tokens.{cut_of, text}
use Rattle.sig_canon.proofs.CleanLines.{AreClean}
use Rattle.sig_canon.proofs.WordTexts.{is_inline, count_word}
use Rattle.sig_call.specs.declared.fault.CallFault.TheVariants.{Form, Reserved}
use Rattle.sig_call.specs.CallLine.{CallLine, call_in, call_of, expression_at, has_reserved, is_call, label_at, label_word, other_in, said_of, spanned_to, variable_at, variable_word}
use Rattle.sig_call.specs.Expansion.{arrow_text, call_lines, lines_for}

-- no byte is a line feed
abbrev pub IsInline : List ℕ → Type 0
IsInline bytes = list_all is_inline bytes ≡ true

inline_on : (a b : List ℕ) → IsInline a → IsInline b → IsInline (a ++ b)
inline_on a b p q = list_all-append is_inline a b ∙ rw (p, q) refl

inline_take : (n : ℕ) (bs : List ℕ) → IsInline bs → IsInline (take n bs)
inline_take zero bs h = refl
inline_take (suc n) [] h = refl
inline_take (suc n) (b ∷ bs) h =
    let each = both_true (is_inline b) (list_all is_inline bs) h in
    rw (each.0, inline_take n bs each.1) refl

inline_drop : (n : ℕ) (bs : List ℕ) → IsInline bs → IsInline (drop n bs)
inline_drop zero bs h = h
inline_drop (suc n) [] h = refl
inline_drop (suc n) (b ∷ bs) h = inline_drop n bs (both_true (is_inline b) (list_all is_inline bs) h).1

pub inline_range : (line : List ℕ) (first last : ℕ) → IsInline line → IsInline (slice_range line first last)
inline_range line first last h = inline_take (last - first) (drop first line) (inline_drop first line h)

-- the label, where there is one
abbrev IsInlineLabel : Option (List ℕ) → Type 0
IsInlineLabel None = Unit {0}
IsInlineLabel (Some label) = IsInline label

pub record IsInlineCall (c : CallLine) : Type 0 where
  pub var : IsInline c.var
  pub target : IsInline c.target
  pub message : IsInline c.message
  pub its_label : IsInlineLabel c.label

-- what holds of the value of a first step, and then of the next
next_holds : {A B E : Type 0} (P : A → Type 0) (Q : B → Type 0) (r : Result A E) (f : A → Result B E) → IfOk r P → ((x : A) → P x → IfOk (f x) Q) → IfOk (r >>= f) Q
next_holds P Q (Ok x) f h k = k x h
next_holds P Q (Err e) f h k = tt

last_holds : {A B E : Type 0} (P : A → Type 0) (Q : B → Type 0) (r : Result A E) (f : A → B) → IfOk r P → ((x : A) → P x → Q (f x)) → IfOk (on_ok f r) Q
last_holds P Q (Ok x) f h k = k x h
last_holds P Q (Err e) f h k = tt

module _ (line : List ℕ) (inline : IsInline line) where
  variable_word_inline : (kind : TokenKind) (word : List ℕ) → IsInline word → IfOk (variable_word kind word) IsInline
  variable_word_inline Variable word h = h
  variable_word_inline _ word h = tt

  variable_inline : (ts : List Token) → IfOk (variable_at line ts) IsInline
  variable_inline [] = tt
  variable_inline (t ∷ ts) = variable_word_inline t.kind (text line t) (inline_range line t.start t.end inline)

  spanned_inline : (ts : List Token) (first : ℕ) (end : Option ℕ) → IfOk (spanned_to line ts first end) (λ x. IsInline x.0)
  spanned_inline ts first None = tt
  spanned_inline ts first (Some last) = inline_range line _ _ inline

  expression_inline : (ts : List Token) (first : ℕ) → IfOk (expression_at line ts first) (λ x. IsInline x.0)
  expression_inline ts first = spanned_inline ts first (expression_end line ts first)

  label_word_inline : (kind : TokenKind) (word : List ℕ) → IsInline word → IfOk (label_word kind word) IsInlineLabel
  label_word_inline Name word h = h
  label_word_inline _ word h = tt

  arrow_inline : (b : Bool) (kind : TokenKind) (word : List ℕ) → IsInline word → IfOk (if b then label_word kind word else Err Form) IsInlineLabel
  arrow_inline true kind word h = label_word_inline kind word h
  arrow_inline false kind word h = tt

  label_inline : (ts : List Token) → IfOk (label_at line ts) IsInlineLabel
  label_inline [] = tt
  label_inline (t ∷ []) = tt
  label_inline (t ∷ u ∷ []) = arrow_inline (is_arrow t.kind) u.kind (text line u) (inline_range line u.start u.end inline)
  label_inline (t ∷ u ∷ w ∷ ts) = tt

  call_inline : (ts : List Token) → IfOk (call_of line ts) IsInlineCall
  call_inline ts =
      next_holds IsInline IsInlineCall (variable_at line (drop 1 ts)) _ (variable_inline (drop 1 ts)) (λ var v.
      next_holds (λ x. IsInline x.0) IsInlineCall (expression_at line ts 2) _ (expression_inline ts 2) (λ target t.
      next_holds (λ x. IsInline x.0) IsInlineCall (expression_at line ts target.1) _ (expression_inline ts target.1) (λ message m.
      last_holds IsInlineLabel IsInlineCall (label_at line (drop message.1 ts)) _ (label_inline (drop message.1 ts)) (λ label l.
      record { var = v; target = t; message = m; its_label = l }))))

  unreserved_inline : (b : Bool) (c : CallLine) → IsInlineCall c → IfOk (if b then Err Reserved else Ok (Some c)) (λ said. IfSome said IsInlineCall)
  unreserved_inline true c h = tt
  unreserved_inline false c h = h

  call_in_inline : (cut : Cut) (b : Bool) →
      IfOk (if b then Err Form else call_of line cut.tokens >>= λ call. if has_reserved line cut.tokens then Err Reserved else Ok (Some call)) (λ said. IfSome said IsInlineCall)
  call_in_inline cut true = tt
  call_in_inline cut false =
      next_holds IsInlineCall (λ said. IfSome said IsInlineCall) (call_of line cut.tokens) _ (call_inline cut.tokens) (λ c h. unreserved_inline (has_reserved line cut.tokens) c h)

  other_inline : (b : Bool) → IfOk (if b then Err Reserved else Ok None) (λ (said : Option CallLine). IfSome said IsInlineCall)
  other_inline true = tt
  other_inline false = tt

  by_kind : (cut : Cut) (b : Bool) → IfOk (if b then call_in line cut else other_in line cut) (λ said. IfSome said IsInlineCall)
  by_kind cut true = call_in_inline cut (is_some cut.stop)
  by_kind cut false = other_inline (not (is_some cut.stop) && has_reserved line cut.tokens)

  pub said_inline : (version : Version) → IfOk (said_of version line) (λ said. IfSome said IsInlineCall)
  unfolding said_of
  said_inline version = by_kind (cut_of version 0 0 line) (is_call line (cut_of version 0 0 line).tokens)

-- ---- the lines of a call

arrow_text_inline : (label : Option (List ℕ)) → IsInlineLabel label → IsInline (arrow_text label)
arrow_text_inline None h = refl
arrow_text_inline (Some label) h = inline_on (codes " -> ") label refl h

inline_concat : (parts : List (List ℕ)) → AreClean parts → IsInline (concat parts)
inline_concat [] h = refl
inline_concat (part ∷ parts) h = inline_on part (concat parts) h.0 (inline_concat parts h.1)

pub call_lines_clean : (version : Version) (k : ℕ) (c : CallLine) → k < 2 ^ 63 → IsInlineCall c → AreClean (call_lines k c)
call_lines_clean version k c fits h =
    let n : IsInline (decimal k) = (count_word version k fits).clean in
    let monitor = inline_concat (codes "monitor Call_" ∷ decimal k ∷ codes " " ∷ c.target ∷ codes " reply_demonitor" ∷ []) (refl, (n, (refl, (h.target, (refl, tt))))) in
    let bind = inline_concat (codes "bind Call_" ∷ decimal k ∷ []) (refl, (n, tt)) in
    let send = inline_concat (codes "send " ∷ c.target ∷ codes " {call,Call_" ∷ decimal k ∷ codes "," ∷ c.message ∷ codes "}" ∷ []) (refl, (h.target, (refl, (n, (refl, (h.message, (refl, tt))))))) in
    let receive = inline_concat (codes "receive using Call_" ∷ decimal k ∷ []) (refl, (n, tt)) in
    let reply = inline_concat (codes "on {^Call_" ∷ decimal k ∷ codes "," ∷ c.var ∷ codes "}" ∷ []) (refl, (n, (refl, (h.var, (refl, tt))))) in
    let down = inline_concat (codes "on {'DOWN',^Call_" ∷ decimal k ∷ codes ",process,_," ∷ c.var ∷ codes "}" ∷ arrow_text c.label ∷ []) (refl, (n, (refl, (h.var, (refl, (arrow_text_inline c.label h.its_label, tt)))))) in
    (refl, (monitor, (bind, (send, (receive, (reply, (down, (refl, tt))))))))

pub lines_for_clean : (version : Version) (k : ℕ) (line : List ℕ) (said : Option CallLine) → k < 2 ^ 63 → IsInline line → IfSome said IsInlineCall → AreClean (lines_for k line said)
lines_for_clean version k line None fits clean h = (clean, tt)
lines_for_clean version k line (Some c) fits clean h = call_lines_clean version k c fits h
