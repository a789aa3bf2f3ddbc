-- The lines of the expanded text, one given line after another.
use Rattle.std.proofs.Common.{◌≡◌, ℕ, ◌+◌, ◌<◌, ◌≤◌, Bool, List, [], ◌∷◌, ◌++◌, length, drop, map, nat_le, true, false, Option, Some, None, Result, Ok, Err, refl, sym, subst, ◌∙◌, ap, arith, append_assoc, append-nil}
use Rattle.std.specs.Prelude.{IsErrAnd, OnOk}
use Rattle.std.proofs.lemmas.Bool.Decides.{nat_tests}
use Rattle.std.proofs.lemmas.List.{drop_all}
use Rattle.sig_program.specs.declared.version.Version.{Version}
use Rattle.sig_tokens.specs.Faults.{◌>>=◌, on_ok}
use Rattle.sig_tokens.specs.declared.token.Cut.{Cut}
use Rattle.sig_tokens.specs.Lines.{lines_of}
use Rattle.sig_tokens.specs.Tokens.{cut_of}
use Rattle.sig_tokens.proofs.LineLemmas.{first_of, rest_at, line-front}
use Rattle.sig_reader.specs.Grammar.{script_of}
use Rattle.sig_reader.specs.declared.reader.TheConstants.{MOST_BYTES}
use Rattle.sig_call.specs.declared.fault.CallFault.{CallFault}
use Rattle.sig_call.specs.declared.fault.CallError.{CallError}
use Rattle.sig_call.specs.declared.fault.CallError.TheVariants as error
use Rattle.sig_call.specs.CallLine.{CallLine, said_by, said_of}
use Rattle.sig_call.specs.Expansion.{Gives, Line, Stops, at_given, at_line, call_lines, ends_in_feed, expanded, expansion, expansion_of, fed, first_line, given_line, lines_for, next_call, script_in, text_of, version_of}
use Rattle.sig_call.specs.Expanding.{ExpandedText, blank, with_line, with_lines, line_expanded, lines_expanded}

-- where the first step stops, all of them do
stopped : {A B : Type 0} (e : CallError) (r : Result A CallError) (f : A → Result B CallError) → Stops e r → Stops e (r >>= f)
stopped error.Memory r f h = tt
stopped (error.Call line kind) r f h = rw h refl
stopped (error.Script line kind) r f h = rw h refl
stopped error.TooLong r f h = rw h refl

-- a line that is expanded
pub step_expanded : (version : Version) (n k at : ℕ) (bytes line : List ℕ) (d e : ExpandedText) (next : ℕ) (v : Result ExpandedText CallError) →
    at < length bytes → line ≡ first_of (rest_at at bytes) → line_expanded version n k d line ≡ Ok (next, e) →
    lines_expanded version n k d (lines_of (drop at bytes)) ≡ v → lines_expanded version (n + 1) next e (lines_of (drop (at + (length line + 1)) bytes)) ≡ v
unfolding lines_expanded
step_expanded version n k at bytes line d e next v lt is taken whole =
    let rest : List (List ℕ) = lines_of (drop (at + (length line + 1)) bytes) in
    let one : lines_expanded version n k d (line ∷ rest) ≡ lines_expanded version (n + 1) next e rest = rw taken refl in
    sym one ∙ ap (λ (ls : List (List ℕ)). lines_expanded version n k d ls) (sym (line-front at bytes line lt is)) ∙ whole

-- a line at which the expansion stops
pub step_stopped : (version : Version) (n k at : ℕ) (bytes line : List ℕ) (d : ExpandedText) (e : CallError) (v : Result ExpandedText CallError) →
    at < length bytes → line ≡ first_of (rest_at at bytes) → Stops e (line_expanded version n k d line) →
    lines_expanded version n k d (lines_of (drop at bytes)) ≡ v → Stops e v
unfolding lines_expanded
step_stopped version n k at bytes line d e v lt is refused whole =
    let rest : List (List ℕ) = lines_of (drop (at + (length line + 1)) bytes) in
    let one : lines_expanded version n k d (line ∷ rest) ≡ v = ap (λ (ls : List (List ℕ)). lines_expanded version n k d ls) (sym (line-front at bytes line lt is)) ∙ whole in
    subst (Stops e) one (stopped e (line_expanded version n k d line) (λ x. lines_expanded version (n + 1) x.0 x.1 rest) refused)

-- no line is left
pub lines_end : (version : Version) (n k at : ℕ) (bytes : List ℕ) (d : ExpandedText) (v : Result ExpandedText CallError) → length bytes ≤ at →
    lines_expanded version n k d (lines_of (drop at bytes)) ≡ v → v ≡ Ok d
unfolding lines_expanded
lines_end version n k at bytes d v h whole =
    sym whole ∙ ap (λ (xs : List ℕ). lines_expanded version n k d (lines_of xs)) (drop_all at bytes h)

-- the count of the lines that are left
pub count_step : (at : ℕ) (bytes line : List ℕ) → at < length bytes → line ≡ first_of (rest_at at bytes) →
    length (lines_of (drop at bytes)) ≡ length (lines_of (drop (at + (length line + 1)) bytes)) + 1
count_step at bytes line lt is = omega (arith, ap length (line-front at bytes line lt is))

pub count_end : (at : ℕ) (bytes : List ℕ) → length bytes ≤ at → length (lines_of (drop at bytes)) ≡ 0
count_end at bytes h = ap (λ (xs : List ℕ). length (lines_of xs)) (drop_all at bytes h)

-- lines behind those so far
abbrev pub placed : ExpandedText → List Line → ExpandedText
placed e ls = record { text = e.text ++ fed (map (λ (l : Line). l.bytes) ls); from = e.from ++ map (λ (l : Line). l.from) ls }

abbrev numbered : ℕ → List ℕ → Line
numbered n line = record { from = n; bytes = line }

placed_none : (e : ExpandedText) → placed e [] ≡ e
placed_none e = ap (λ (x : List ℕ). record { text = x; from = e.from ++ [] }) (append-nil e.text) ∙ ap (λ (x : List ℕ). record { text = e.text; from = x }) (append-nil e.from)

placed_one : (e : ExpandedText) (n : ℕ) (line : List ℕ) (ls : List Line) → placed (with_line e n line) ls ≡ placed e (numbered n line ∷ ls)
placed_one e n line ls =
    let text : e.text ++ line ++ 10 ∷ [] ++ fed (map (λ (l : Line). l.bytes) ls) ≡ e.text ++ (line ++ 10 ∷ [] ++ fed (map (λ (l : Line). l.bytes) ls)) =
    ap (λ (x : List ℕ). x ++ fed (map (λ (l : Line). l.bytes) ls)) (append_assoc e.text line (10 ∷ [])) ∙ append_assoc e.text (line ++ 10 ∷ []) (fed (map (λ (l : Line). l.bytes) ls)) in
    let from = append_assoc e.from (n ∷ []) (map (λ (l : Line). l.from) ls) in
    ap (λ (x : List ℕ). record { text = x; from = e.from ++ n ∷ [] ++ map (λ (l : Line). l.from) ls }) text
    ∙ ap (λ (x : List ℕ). record { text = e.text ++ (line ++ 10 ∷ [] ++ fed (map (λ (l : Line). l.bytes) ls)); from = x }) from

placed_lines : (e : ExpandedText) (n : ℕ) (lines : List (List ℕ)) (more : List Line) → placed (with_lines e n lines) more ≡ placed e (map (numbered n) lines ++ more)
placed_lines e n [] more = refl
placed_lines e n (line ∷ lines) more = placed_lines (with_line e n line) n lines more ∙ placed_one e n line (map (numbered n) lines ++ more)

both_placed : (e : ExpandedText) (n : ℕ) (lines : List (List ℕ)) (r : Result (List Line) CallError) →
    on_ok (placed (with_lines e n lines)) r ≡ on_ok (placed e) (on_ok (λ more. map (numbered n) lines ++ more) r)
both_placed e n lines (Ok more) = ap (λ (x : ExpandedText). Ok x) (placed_lines e n lines more)
both_placed e n lines (Err x) = refl

abbrev stepped : ExpandedText → ℕ → ℕ → List ℕ → Option CallLine → ℕ × ExpandedText
stepped e n k line said = (next_call k said, with_lines e n (lines_for k line said))

one_placed : (e : ExpandedText) (version : Version) (n k : ℕ) (line : List ℕ) (lines : List (List ℕ)) (r : Result (Option CallLine) CallError) →
    ((j : ℕ) (d : ExpandedText) → lines_expanded version (n + 1) j d lines ≡ on_ok (placed d) (expanded version (n + 1) j lines)) →
    (on_ok (stepped e n k line) r >>= λ (x : ℕ × ExpandedText). lines_expanded version (n + 1) x.0 x.1 lines)
    ≡ on_ok (placed e) (r >>= λ said. on_ok (λ more. map (numbered n) (lines_for k line said) ++ more) (expanded version (n + 1) (next_call k said) lines))
one_placed e version n k line lines (Err x) h = refl
one_placed e version n k line lines (Ok said) h =
    h (next_call k said) (with_lines e n (lines_for k line said)) ∙ both_placed e n (lines_for k line said) (expanded version (n + 1) (next_call k said) lines)

-- the expansion line by line gives the expanded lines
pub all_placed : (version : Version) (n k : ℕ) (e : ExpandedText) (lines : List (List ℕ)) → lines_expanded version n k e lines ≡ on_ok (placed e) (expanded version n k lines)
unfolding lines_expanded expanded
all_placed version n k e [] = ap (λ (x : ExpandedText). Ok x) (sym (placed_none e))
all_placed version n k e (line ∷ lines) =
    one_placed e version n k line lines (at_line n (said_of version line)) (λ j d. all_placed version (n + 1) j d lines)

-- what was expanded gives the script
script_placed : (feed : Bool) (behind : ℕ) (r : Result (List Line) CallError) (e : ExpandedText) → on_ok (placed blank) r ≡ Ok e →
    (r >>= script_in feed behind) ≡ at_given (given_line e.from behind) (script_of (text_of feed e.text))
script_placed feed behind (Ok ls) e is =
    let same : placed blank ls ≡ e = grind arith in
    ap (λ (x : ExpandedText). at_given (given_line x.from behind) (script_of (text_of feed x.text))) same
script_placed feed behind (Err x) e is = absurd cc

-- what one given line gives
pub said_is : (version : Version) (line : List ℕ) (cut : Cut) (r : Result (Option CallLine) CallFault) → cut ≡ cut_of version 0 0 line → r ≡ said_by line cut → said_of version line ≡ r
unfolding said_of
said_is version line cut r is h = ap (said_by line) (sym is) ∙ sym h

pub given_expanded : (version : Version) (n k : ℕ) (line : List ℕ) (e : ExpandedText) → said_of version line ≡ Ok None → line_expanded version n k e line ≡ Ok (k, with_line e n line)
given_expanded version n k line e h = rw h refl

pub call_expanded : (version : Version) (n k : ℕ) (line : List ℕ) (e : ExpandedText) (c : CallLine) → said_of version line ≡ Ok (Some c) →
    line_expanded version n k e line ≡ Ok (k + 1, with_lines e n (call_lines k c))
call_expanded version n k line e c h = rw h refl

pub line_refused : (version : Version) (n k : ℕ) (line : List ℕ) (e : ExpandedText) (kind : CallFault) → said_of version line ≡ Err kind → line_expanded version n k e line ≡ Err (error.Call n kind)
line_refused version n k line e kind h = rw h refl

-- what stops behind a step that can't stop, stops before it
stopped_before : {A B : Type 0} (e : CallError) (f : A → B) (r : Result A CallError) → Stops e (on_ok f r) → Stops e r
stopped_before error.Memory f r h = tt
stopped_before (error.Call line kind) f (Ok x) h = absurd cc
stopped_before (error.Call line kind) f (Err y) h = let same : y ≡ error.Call line kind = grind arith in ap (λ (z : CallError). Err z) same
stopped_before (error.Script line kind) f (Ok x) h = absurd cc
stopped_before (error.Script line kind) f (Err y) h = let same : y ≡ error.Script line kind = grind arith in ap (λ (z : CallError). Err z) same
stopped_before error.TooLong f (Ok x) h = absurd cc
stopped_before error.TooLong f (Err y) h = let same : y ≡ error.TooLong = grind arith in ap (λ (z : CallError). Err z) same

within : (bytes : List ℕ) → length bytes ≤ MOST_BYTES → nat_le (length bytes) MOST_BYTES ≡ true
within bytes h = grind (arith, nat_tests)

beyond : (bytes : List ℕ) → MOST_BYTES < length bytes → nat_le (length bytes) MOST_BYTES ≡ false
beyond bytes h = grind (arith, nat_tests)

pub too_long : (bytes : List ℕ) → MOST_BYTES < length bytes → expansion bytes ≡ Err error.TooLong
unfolding expansion
too_long bytes h = rw (beyond bytes h) refl

-- the lines of the text were expanded
pub expansion_read : (bytes : List ℕ) (version : Version) (e : ExpandedText) (behind : ℕ) → length bytes ≤ MOST_BYTES → version ≡ version_of (first_line bytes) →
    lines_expanded version 1 1 blank (lines_of bytes) ≡ Ok e → behind ≡ length (lines_of bytes) + 1 →
    expansion bytes ≡ at_given (given_line e.from behind) (script_of (text_of (ends_in_feed bytes) e.text))
unfolding expansion
expansion_read bytes version e behind short its lines count =
    let done : on_ok (placed blank) (expansion_of bytes) ≡ Ok e =
    sym (all_placed (version_of (first_line bytes)) 1 1 blank (lines_of bytes)) ∙ ap (λ (v : Version). lines_expanded v 1 1 blank (lines_of bytes)) (sym its) ∙ lines in
    rw (within bytes short) (script_placed (ends_in_feed bytes) (length (lines_of bytes) + 1) (expansion_of bytes) e done
    ∙ ap (λ (m : ℕ). at_given (given_line e.from m) (script_of (text_of (ends_in_feed bytes) e.text))) (sym count))

-- the expansion of its lines stops
pub expansion_stops : (bytes : List ℕ) (version : Version) (e : CallError) → length bytes ≤ MOST_BYTES → version ≡ version_of (first_line bytes) →
    Stops e (lines_expanded version 1 1 blank (lines_of bytes)) → Stops e (expansion bytes)
unfolding expansion
expansion_stops bytes version e short its h =
    let lines : Stops e (lines_expanded (version_of (first_line bytes)) 1 1 blank (lines_of bytes)) = subst (λ (v : Version). Stops e (lines_expanded v 1 1 blank (lines_of bytes))) its h in
    let all : Stops e (on_ok (placed blank) (expansion_of bytes)) = subst (Stops e) (all_placed (version_of (first_line bytes)) 1 1 blank (lines_of bytes)) lines in
    rw (within bytes short) (stopped e (expansion_of bytes) (script_in (ends_in_feed bytes) (length (lines_of bytes) + 1)) (stopped_before e (placed blank) (expansion_of bytes) all))

-- what was returned as an error
pub err_gives : {X Y : Type 0} (view : X → Y) (r : Result X CallError) (e : CallError) (said : Result Y CallError) → IsErrAnd r (λ x. x ≡ e) → Stops e said → Gives view r said
err_gives view (Ok x) e said h s = absurd h
err_gives view (Err x) e said h s = subst (λ y. Stops y said) (sym h) s

on_this : {E : Type 0} (x y z : ExpandedText) → x ≡ y → (r : Result (Unit {0}) E) → OnOk r (z ≡ x) → OnOk r (z ≡ y)
on_this x y z same (Ok u) is = is ∙ same
on_this x y z same (Err w) is = tt

-- eight lines, one behind the other
pub eight : {E : Type 0} (n : ℕ) (a b c d e f g h : List ℕ) (x y₁ y₂ y₃ y₄ y₅ y₆ y₇ z : ExpandedText) (r : Result (Unit {0}) E) →
    y₁ ≡ with_line x n a → y₂ ≡ with_line y₁ n b → y₃ ≡ with_line y₂ n c → y₄ ≡ with_line y₃ n d → y₅ ≡ with_line y₄ n e → y₆ ≡ with_line y₅ n f → y₇ ≡ with_line y₆ n g →
    OnOk r (z ≡ with_line y₇ n h) → OnOk r (z ≡ with_lines x n (a ∷ b ∷ c ∷ d ∷ e ∷ f ∷ g ∷ h ∷ []))
eight n a b c d e f g h x y₁ y₂ y₃ y₄ y₅ y₆ y₇ z r p₁ p₂ p₃ p₄ p₅ p₆ p₇ done =
    let more : List ℕ → ExpandedText → ExpandedText = λ line t. with_line t n line in
    let all : with_line y₇ n h ≡ with_lines x n (a ∷ b ∷ c ∷ d ∷ e ∷ f ∷ g ∷ h ∷ []) =
    ap (more h) (p₇ ∙ ap (more g) (p₆ ∙ ap (more f) (p₅ ∙ ap (more e) (p₄ ∙ ap (more d) (p₃ ∙ ap (more c) (p₂ ∙ ap (more b) p₁)))))) in
    on_this _ _ z all r done
