-- The expressions and patterns of a script are read back from their texts.
use Rattle.std.proofs.Common.{◌≡◌, ℕ, zero, suc, ◌+◌, ◌-◌, ◌<◌, ◌≤◌, Bool, true, false, cond, ◌&&◌, nat_le, nat_lt, List, [], ◌∷◌, ◌++◌, length, map, drop, refl, sym, ap, subst, ◌∙◌, arith}
use Rattle.std.specs.Prelude.{ℤ, Result, Ok, codes, max}
use Rattle.std.specs.Fmt.{signed_decimal}
use Rattle.std.specs.List.{list_all}
use Rattle.std.proofs.lemmas.Bool.Decides.{nat_tests}
use Rattle.sig_terms.specs.Words.{is_name, is_atom, is_atom_byte}
use Rattle.sig_terms.specs.Readable.{is_wide}
use Rattle.sig_terms.specs.TermText.{atom_text}
use Rattle.sig_terms.specs.declared.bytes.TheConstants.{MOST_WORD_BYTES}
use Rattle.sig_terms.proofs.Choices.{both_true}
use Rattle.sig_terms.proofs.TokenReads.{Stops}
use Rattle.sig_patterns.specs.declared.var.Var.{Var}
use Rattle.sig_patterns.specs.declared.expression.Expr.{Expr, roll-Expr, map-Expr}
use Rattle.sig_patterns.specs.declared.expression.Expr.TheOpen.{Expr-F}
use Rattle.sig_patterns.specs.declared.expression.Expr.TheOpen as expression
use Rattle.sig_patterns.specs.declared.expression.Expr.TheFolds.{fold-roll-Expr, ind-Expr}
use Rattle.sig_patterns.specs.declared.pattern.Pattern.{Pattern, roll-Pattern, map-Pattern}
use Rattle.sig_patterns.specs.declared.pattern.Pattern.TheVariants as pattern
use Rattle.sig_patterns.specs.declared.pattern.Pattern.TheOpen.{Pattern-F}
use Rattle.sig_patterns.specs.declared.pattern.Pattern.TheOpen as layer
use Rattle.sig_patterns.specs.declared.pattern.Pattern.TheFolds.{fold-Pattern, fold-roll-Pattern, ind-Pattern}
use Rattle.sig_tokens.specs.declared.fault.FaultKind.{FaultKind}
use Rattle.sig_tokens.specs.declared.known.Known.{Known}
use Rattle.sig_tokens.specs.declared.token.Sign as signs
use Rattle.sig_tokens.specs.declared.token.Sign.TheVariants as sign
use Rattle.sig_tokens.specs.declared.token.TokenKind.{TokenKind}
use Rattle.sig_tokens.specs.declared.token.TokenKind.TheVariants.{Name, Variable, Sign}
use Rattle.sig_tokens.specs.declared.token.Token.{Token}
use Rattle.sig_tokens.specs.Faults.{on_ok}
use Rattle.sig_tokens.specs.Names.{pid_of, name_at, variable_at}
use Rattle.sig_tokens.specs.Signs.{closes}
use Rattle.sig_tokens.specs.Phrases.{Spelling, Read, phrase_at, phrase_of}
use Rattle.sig_tokens.specs.Expressions.{expr_spelling}
use Rattle.sig_tokens.specs.PatternTexts.{pattern_spelling, nested}
use Rattle.sig_canon.specs.ScriptText.{name_of_place, expr_step, expr_text, Written, alone, pattern_step, pattern_written}
use Rattle.sig_canon.specs.ReadableScript.{is_variable_token, expr_count_step, expr_depth_step, expr_nodes, expr_depth, expr_step_is_plain, is_plain_expr, Counted, counts_alone, pattern_count_step, pattern_depth_step, pattern_step_is_plain, is_plain_pattern}
use Rattle.sig_reader.proofs.Seen.{expr_seen, expr_seen_step, pattern_seen, pattern_seen_step}
use Rattle.sig_canon.proofs.WordTexts.{name_word, variable_word, process_word, quoted_word, unquoted_again, int_word, int_again, open_brace, close_brace, open_bracket, close_bracket, caret, underscore}
use Rattle.sig_canon.proofs.CutTexts.{tokens_at, token_text, word_tokens, word_is_cut, behind_text, word_opens}
use Rattle.sig_canon.proofs.PhraseReads.{IsRead, IsTail, tail_as, word_step, byte_on, word_read, read_as, Closing, Opening, AreRead, none, more, tail_item, some_read, elements_read, bar_tail}
use Rattle.sig_patterns.specs.declared.building.TheConstants.{MOST_NODES, MOST_DEPTH}
use Rattle.sig_tokens.specs.Tokens.{IsNameToken, IsVariableToken}
use Rattle.sig_canon.proofs.KnownNames.{Reads}
use Rattle.sig_program.specs.declared.version.Version.{Version}

-- ---- what closes no bracket

abbrev ClosesNothing : TokenKind → Type 0
ClosesNothing kind = (close : signs.Sign) → closes close kind ≡ false

closes_nothing : (kind : TokenKind) → closes sign.CloseBrace kind ≡ false → closes sign.CloseBracket kind ≡ false → ClosesNothing kind
closes_nothing kind brace bracket sign.CloseBrace = brace
closes_nothing kind brace bracket sign.CloseBracket = bracket
closes_nothing kind brace bracket _ = refl

-- ---- brackets

and_false : (b : Bool) → (b && false) ≡ false
and_false true = refl
and_false false = refl

brace_opens : (version : Version) {A : Type 0} (s : Spelling A) → Opening version s sign.CloseBrace (Sign sign.OpenBrace) 123
brace_opens version s = record { word = open_brace version; none = closes_nothing _ refl refl; by = λ known line read bytes nodes ts. refl }

brace_closes : (version : Version) {A : Type 0} (s : Spelling A) → Closing version s sign.CloseBrace (Sign sign.CloseBrace) 125
brace_closes version s = record { word = close_brace version; stops = refl; no_comma = refl; no_tail = refl; closes = refl }

bracket_opens : (version : Version) {A : Type 0} (s : Spelling A) → Opening version s sign.CloseBracket (Sign sign.OpenBracket) 91
bracket_opens version s = record { word = open_bracket version; none = closes_nothing _ refl refl; by = λ known line read bytes nodes ts. refl }

bracket_closes : (version : Version) {A : Type 0} (s : Spelling A) → Closing version s sign.CloseBracket (Sign sign.CloseBracket) 93
bracket_closes version s = record { word = close_bracket version; stops = refl; no_comma = refl; no_tail = and_false s.has_tails; closes = refl }

-- ---- phrases of one word

int_read : (version : Version) {A : Type 0} (s : Spelling A) (known : Known) (z : ℤ) → is_wide z ≡ true → IsRead version s known (signed_decimal z) (s.int z) 1 1
int_read version s known z wide = word_read version s known (signed_decimal z) (s.int z) (int_word version z wide) (λ rest stops. stops) (closes_nothing _ refl refl) (λ line read nodes ts. ap (λ (i : ℤ). Ok (s.int i, nodes, ts)) (int_again z wide))

atom_read : (version : Version) {A : Type 0} (s : Spelling A) (known : Known) (bytes : List ℕ) → is_atom bytes ≡ true → IsRead version s known (atom_text bytes) (s.atom bytes) 1 1
atom_read version s known bytes atom =
    let test = both_true (nat_le (length bytes) MOST_WORD_BYTES) (list_all is_atom_byte bytes) atom in
    let few : length bytes ≤ MOST_WORD_BYTES = grind (arith, nat_tests, test.0) in
    elim (is_name bytes) as (λ v. is_name bytes ≡ v → IsRead version s known (cond v bytes (39 ∷ (bytes ++ 39 ∷ []))) (s.atom bytes) 1 1) [
      | true ↦ λ named. word_read version s known bytes (s.atom bytes) (name_word version bytes (few, named)) (λ rest stops. stops) (closes_nothing _ refl refl) (λ line read nodes ts. refl)
      | false ↦ λ named. word_read version s known (39 ∷ (bytes ++ 39 ∷ [])) (s.atom bytes) (quoted_word version bytes atom) (λ rest stops. tt) (closes_nothing _ refl refl) (λ line read nodes ts. ap (λ (b : List ℕ). Ok (s.atom b, nodes, ts)) (unquoted_again bytes atom))
    ] refl

variable_token : (word : List ℕ) → is_variable_token word ≡ true → IsVariableToken word
variable_token word h =
    let each = both_true (nat_lt (length word) (MOST_WORD_BYTES + 1)) _ h in
    let few : length word ≤ MOST_WORD_BYTES = grind (arith, nat_tests, each.0) in
    (few, each.1)

var_read : (version : Version) {A : Type 0} (s : Spelling A) (known : Known) (x : Var) → is_variable_token x.0 ≡ true → IsRead version s known x.0 (s.var x) 1 1
var_read version s known x token = word_read version s known x.0 (s.var x) (variable_word version x.0 (variable_token x.0 token)) (λ rest stops. stops) (closes_nothing _ refl refl) (λ line read nodes ts. refl)

pid_read : (version : Version) {A : Type 0} (s : Spelling A) (known : Known) (name : List ℕ) (n : ℕ) → IsNameToken name → pid_of known name ≡ Ok n → IsRead version s known (64 ∷ name) (s.pid (record { 0 = n })) 1 1
pid_read version {A} s known name n named found =
    word_read version s known (64 ∷ name) (s.pid (record { 0 = n })) (process_word version name named) (λ rest stops. stops) (closes_nothing _ refl refl) (λ line read nodes ts.
    ap (λ (r : Result ℕ FaultKind). on_ok (λ (x : A × List Token). (x.0, nodes, x.1)) (on_ok (λ i. (s.pid (record { 0 = i }), ts)) r)) found)

-- a name and a variable at the front
pub name_found : (version : Version) (line word rest : List ℕ) (at end : ℕ) → IsNameToken word → drop at line ≡ word ++ rest → end ≡ at + length word → Stops rest → name_at line (tokens_at version at (word ++ rest)) ≡ Ok (word, tokens_at version end rest)
name_found version line word rest at end named here e stops =
    ap (name_at line) (word_tokens version word rest at end (name_word version word named) stops e) ∙ ap (λ (bytes : List ℕ). Ok (bytes, tokens_at version end rest)) (token_text line word rest Name at here)

pub variable_found : (version : Version) (line word rest : List ℕ) (at end : ℕ) → IsVariableToken word → drop at line ≡ word ++ rest → end ≡ at + length word → Stops rest → variable_at line (tokens_at version at (word ++ rest)) ≡ Ok (word, tokens_at version end rest)
variable_found version line word rest at end named here e stops =
    ap (variable_at line) (word_tokens version word rest at end (variable_word version word named) stops e) ∙ ap (λ (bytes : List ℕ). Ok (bytes, tokens_at version end rest)) (token_text line word rest Variable at here)

-- ---- expressions

below : (p n : ℕ) → nat_lt p n ≡ true → p < n
below p n h = grind (arith, nat_tests)

abbrev pub ExprIsRead : Version → Known → List (List ℕ) → (ℕ → ℕ) → Expr → Type 0
ExprIsRead version known names f e = is_plain_expr (length names) e ≡ true → IsRead version expr_spelling known (expr_text names e) (expr_seen f e) (expr_nodes e) (expr_depth e)

exprs_read : (version : Version) (known : Known) (names : List (List ℕ)) (f : ℕ → ℕ) (es : List ((e : Expr) × ExprIsRead version known names f e)) → list_all (λ b. b) (map (is_plain_expr (length names)) (map (λ e. e.0) es)) ≡ true →
    AreRead version expr_spelling known (map (expr_text names) (map (λ e. e.0) es)) (map (expr_seen f) (map (λ e. e.0) es)) (map expr_nodes (map (λ e. e.0) es)) (map expr_depth (map (λ e. e.0) es))
exprs_read version known names f [] h = none
exprs_read version known names f (e ∷ es) h =
    let each = both_true (is_plain_expr (length names) e.0) (list_all (λ b. b) (map (is_plain_expr (length names)) (map (λ e. e.0) es))) h in
    more (e.1 each.0) (exprs_read version known names f es each.1)

-- an expression, by its layer
expr_layer : (version : Version) (known : Known) (names : List (List ℕ)) (f : ℕ → ℕ) (x : Expr-F Expr) →
    (expr_step_is_plain (length names) (map-Expr Expr Bool (is_plain_expr (length names)) x) ≡ true →
    IsRead version expr_spelling known (expr_step names (map-Expr Expr (List ℕ) (expr_text names) x)) (expr_seen_step f (map-Expr Expr Expr (expr_seen f) x)) (expr_count_step (map-Expr Expr ℕ expr_nodes x)) (expr_depth_step (map-Expr Expr ℕ expr_depth x)))
    → ExprIsRead version known names f (roll-Expr x)
expr_layer version known names f x r plain =
    read_as version (r (sym (fold-roll-Expr Bool (expr_step_is_plain (length names)) x) ∙ plain)) (sym (fold-roll-Expr (List ℕ) (expr_step names) x)) (sym (fold-roll-Expr Expr (expr_seen_step f) x))
    (sym (fold-roll-Expr ℕ expr_count_step x)) (sym (fold-roll-Expr ℕ expr_depth_step x))

expr_comes : (version : Version) (known : Known) (here : ℕ) (names labels : List (List ℕ)) (f g : ℕ → ℕ) → Reads known here names labels f g → (y : Expr-F ((e : Expr) × ExprIsRead version known names f e)) →
    ExprIsRead version known names f (roll-Expr (map-Expr ((e : Expr) × ExprIsRead version known names f e) Expr (λ e. e.0) y))
expr_comes version known here names labels f g reads (expression.Int z) = expr_layer version known names f (expression.Int z) (λ wide. int_read version expr_spelling known z wide)
expr_comes version known here names labels f g reads (expression.Atom bytes) = expr_layer version known names f (expression.Atom bytes) (λ atom. atom_read version expr_spelling known bytes atom)
expr_comes version known here names labels f g reads (expression.Pid p) =
    expr_layer version known names f (expression.Pid p) (λ low. let r = reads.pids p.0 (below p.0 (length names) low) in pid_read version expr_spelling known (name_of_place names p.0) (f p.0) r.0 r.1)
expr_comes version known here names labels f g reads (expression.Var x) = expr_layer version known names f (expression.Var x) (λ token. var_read version expr_spelling known x token)
expr_comes version known here names labels f g reads (expression.Tuple es) =
    expr_layer version known names f (expression.Tuple (map (λ e. e.0) es)) (λ each. elements_read version expr_spelling known sign.CloseBrace 123 125 (brace_opens version expr_spelling) (brace_closes version expr_spelling) (exprs_read version known names f es each))
expr_comes version known here names labels f g reads (expression.List es) =
    expr_layer version known names f (expression.List (map (λ e. e.0) es)) (λ each. elements_read version expr_spelling known sign.CloseBracket 91 93 (bracket_opens version expr_spelling) (bracket_closes version expr_spelling) (exprs_read version known names f es each))

pub expr_read : (version : Version) (known : Known) (here : ℕ) (names labels : List (List ℕ)) (f g : ℕ → ℕ) → Reads known here names labels f g → (e : Expr) → ExprIsRead version known names f e
expr_read version known here names labels f g reads = ind-Expr (ExprIsRead version known names f) (λ x y is. subst (λ z. ExprIsRead version known names f (roll-Expr z)) is (expr_comes version known here names labels f g reads y))

-- ---- patterns

abbrev nodes_counted : Pattern → Counted
nodes_counted = fold-Pattern Counted pattern_count_step

abbrev depth_counted : Pattern → Counted
depth_counted = fold-Pattern Counted pattern_depth_step

-- a pattern of these texts is read by itself and as the tail of a list
pub record IsReadTwice (version : Version) (known : Known) (w : Written) (q : Pattern) (nodes depth : Counted) : Type 0 where
  pub whole : IsRead version pattern_spelling known w.whole q nodes.whole depth.whole
  pub tail : IsTail version pattern_spelling known sign.CloseBracket w.tail (λ done. nested done q) nodes.tail depth.tail

abbrev PatternIsRead : Version → Known → List (List ℕ) → (ℕ → ℕ) → Pattern → Type 0
PatternIsRead version known names f p = is_plain_pattern (length names) p ≡ true → IsReadTwice version known (pattern_written names p) (pattern_seen f p) (nodes_counted p) (depth_counted p)

alone_read : (version : Version) (known : Known) (a : List ℕ) (q : Pattern) (n d : ℕ) → IsRead version pattern_spelling known a q n d → IsReadTwice version known (alone a) q (counts_alone n) (counts_alone d)
alone_read version known a q n d r = record { whole = r; tail = bar_tail version pattern_spelling known a q n d refl r }

read_twice_as : (version : Version) {known : Known} {v w : Written} {p q : Pattern} {n m d e : Counted} → IsReadTwice version known v p n d → v ≡ w → p ≡ q → n ≡ m → d ≡ e → IsReadTwice version known w q m e
read_twice_as version {known} {v} {w} {p} {q} {n} {m} {d} {e} r a b c l =
    subst (λ (z : Written). IsReadTwice version known z q m e) a (subst (λ (z : Pattern). IsReadTwice version known v z m e) b (subst (λ (z : Counted). IsReadTwice version known v p z e) c (subst (λ (z : Counted). IsReadTwice version known v p n z) l r)))

pattern_layer : (version : Version) (known : Known) (names : List (List ℕ)) (f : ℕ → ℕ) (x : Pattern-F Pattern) →
    (pattern_step_is_plain (length names) (map-Pattern Pattern Bool (is_plain_pattern (length names)) x) ≡ true →
    IsReadTwice version known (pattern_step names (map-Pattern Pattern Written (pattern_written names) x)) (pattern_seen_step f (map-Pattern Pattern Pattern (pattern_seen f) x)) (pattern_count_step (map-Pattern Pattern Counted nodes_counted x)) (pattern_depth_step (map-Pattern Pattern Counted depth_counted x)))
    → PatternIsRead version known names f (roll-Pattern x)
pattern_layer version known names f x r plain =
    read_twice_as version (r (sym (fold-roll-Pattern Bool (pattern_step_is_plain (length names)) x) ∙ plain)) (sym (fold-roll-Pattern Written (pattern_step names) x)) (sym (fold-roll-Pattern Pattern (pattern_seen_step f) x))
    (sym (fold-roll-Pattern Counted pattern_count_step x)) (sym (fold-roll-Pattern Counted pattern_depth_step x))

patterns_read : (version : Version) (known : Known) (names : List (List ℕ)) (f : ℕ → ℕ) (ps : List ((p : Pattern) × PatternIsRead version known names f p)) → list_all (λ b. b) (map (is_plain_pattern (length names)) (map (λ p. p.0) ps)) ≡ true →
    AreRead version pattern_spelling known (map (λ (w : Written). w.whole) (map (pattern_written names) (map (λ p. p.0) ps))) (map (pattern_seen f) (map (λ p. p.0) ps)) (map (λ (n : Counted). n.whole) (map nodes_counted (map (λ p. p.0) ps))) (map (λ (n : Counted). n.whole) (map depth_counted (map (λ p. p.0) ps)))
patterns_read version known names f [] h = none
patterns_read version known names f (p ∷ ps) h =
    let each = both_true (is_plain_pattern (length names) p.0) (list_all (λ b. b) (map (is_plain_pattern (length names)) (map (λ p. p.0) ps))) h in
    more (p.1 each.0).whole (patterns_read version known names f ps each.1)

any_read : (version : Version) (known : Known) → IsRead version pattern_spelling known (95 ∷ []) pattern.Any 1 1
any_read version known = word_read version pattern_spelling known (95 ∷ []) pattern.Any (underscore version) (λ rest stops. stops) (closes_nothing _ refl refl) (λ line read nodes ts. refl)

pin_again : (version : Version) (known : Known) (x : Var) → IsVariableToken x.0 → (line rest : List ℕ) (at end : ℕ) → drop at line ≡ 94 ∷ (x.0 ++ rest) → end ≡ at + 1 + length x.0 → Stops rest → (deep left all : ℕ) → 1 ≤ deep → all ≡ 1 + left →
    phrase_at pattern_spelling known line deep all (tokens_at version at (94 ∷ (x.0 ++ rest))) ≡ Ok (pattern.Pin x, left, tokens_at version end rest)
pin_again version known x named line rest at end here e stops zero left all le count = absurd (omega arith)
pin_again version known x named line rest at end here e stops (suc deep) left all le count =
    word_step version pattern_spelling known (94 ∷ []) (caret version) line (x.0 ++ rest) at (at + 1) here refl tt deep left all (omega (arith, count))
    ∙ ap (λ (r : Result (List ℕ × List Token) FaultKind). on_ok (λ (y : Pattern × List Token). (y.0, left, y.1)) (on_ok (λ (y : List ℕ × List Token). (pattern.Pin (record { 0 = y.0 }), y.1)) r))
    (variable_found version line x.0 rest (at + 1) end named (behind_text line (94 ∷ []) (x.0 ++ rest) at (at + 1) here refl) e stops)

pin_read : (version : Version) (known : Known) (x : Var) → is_variable_token x.0 ≡ true → IsRead version pattern_spelling known (94 ∷ x.0) (pattern.Pin x) 1 1
pin_read version known x token =
    let named = variable_token x.0 token in
    record {
      cut = byte_on version 94 x.0 (caret version) (word_is_cut version x.0 (variable_word version x.0 named));
      opens = λ rest at stops. word_opens version (94 ∷ []) (x.0 ++ rest) at (caret version) tt (closes_nothing _ refl refl);
      again = λ line rest at end here e stops deep left all le count. pin_again version known x named line rest at end here (omega (arith, e)) stops deep left all le count;
    }

nested_last : (done : List Pattern) (p q : Pattern) → nested (done ++ p ∷ []) q ≡ nested done (pattern.Cons p q)
nested_last [] p q = refl
nested_last (d ∷ ds) p q = ap (pattern.Cons d) (nested_last ds p q)

cons_read : (version : Version) (known : Known) (v w : Written) (p q : Pattern) (n m d e : Counted) → IsReadTwice version known v p n d → IsReadTwice version known w q m e →
    IsReadTwice version known (record { whole = codes "[" ++ v.whole ++ w.tail; tail = codes "," ++ v.whole ++ w.tail }) (pattern.Cons p q)
    (record { whole = 1 + (n.whole + m.tail); tail = n.whole + m.tail }) (record { whole = 1 + max d.whole e.tail; tail = max d.whole e.tail })
cons_read version known v w p q n m d e head tail = record {
  whole = some_read version pattern_spelling known sign.CloseBracket 91 (bracket_opens version pattern_spelling) v.whole w.tail p (λ done. nested done q) n.whole m.tail d.whole e.tail head.whole tail.tail;
  tail = tail_as version (tail_item version pattern_spelling known sign.CloseBracket v.whole w.tail p (λ done. nested done q) n.whole m.tail d.whole e.tail head.whole tail.tail) refl (λ done. nested_last done p q) refl refl;
}

pattern_comes : (version : Version) (known : Known) (here : ℕ) (names labels : List (List ℕ)) (f g : ℕ → ℕ) → Reads known here names labels f g → (y : Pattern-F ((p : Pattern) × PatternIsRead version known names f p)) →
    PatternIsRead version known names f (roll-Pattern (map-Pattern ((p : Pattern) × PatternIsRead version known names f p) Pattern (λ p. p.0) y))
pattern_comes version known here names labels f g reads layer.Any = pattern_layer version known names f layer.Any (λ _. alone_read version known (95 ∷ []) pattern.Any 1 1 (any_read version known))
pattern_comes version known here names labels f g reads (layer.Bind x) = pattern_layer version known names f (layer.Bind x) (λ token. alone_read version known x.0 (pattern.Bind x) 1 1 (var_read version pattern_spelling known x token))
pattern_comes version known here names labels f g reads (layer.Pin x) = pattern_layer version known names f (layer.Pin x) (λ token. alone_read version known (94 ∷ x.0) (pattern.Pin x) 1 1 (pin_read version known x token))
pattern_comes version known here names labels f g reads (layer.Int z) = pattern_layer version known names f (layer.Int z) (λ wide. alone_read version known (signed_decimal z) (pattern.Int z) 1 1 (int_read version pattern_spelling known z wide))
pattern_comes version known here names labels f g reads (layer.Atom bytes) = pattern_layer version known names f (layer.Atom bytes) (λ atom. alone_read version known (atom_text bytes) (pattern.Atom bytes) 1 1 (atom_read version pattern_spelling known bytes atom))
pattern_comes version known here names labels f g reads (layer.Pid p) =
    pattern_layer version known names f (layer.Pid p) (λ low. let r = reads.pids p.0 (below p.0 (length names) low) in
    alone_read version known (64 ∷ name_of_place names p.0) (pattern.Pid (record { 0 = f p.0 })) 1 1 (pid_read version pattern_spelling known (name_of_place names p.0) (f p.0) r.0 r.1))
pattern_comes version known here names labels f g reads (layer.Tuple ps) =
    pattern_layer version known names f (layer.Tuple (map (λ p. p.0) ps)) (λ each. alone_read version known _ _ _ _ (elements_read version pattern_spelling known sign.CloseBrace 123 125 (brace_opens version pattern_spelling) (brace_closes version pattern_spelling) (patterns_read version known names f ps each)))
pattern_comes version known here names labels f g reads (layer.List ps) =
    pattern_layer version known names f (layer.List (map (λ p. p.0) ps)) (λ each. alone_read version known _ _ _ _ (elements_read version pattern_spelling known sign.CloseBracket 91 93 (bracket_opens version pattern_spelling) (bracket_closes version pattern_spelling) (patterns_read version known names f ps each)))
pattern_comes version known here names labels f g reads (layer.Cons head tail) =
    pattern_layer version known names f (layer.Cons head.0 tail.0) (λ both.
    let each = both_true (is_plain_pattern (length names) head.0) (is_plain_pattern (length names) tail.0) both in
    cons_read version known (pattern_written names head.0) (pattern_written names tail.0) (pattern_seen f head.0) (pattern_seen f tail.0) (nodes_counted head.0) (nodes_counted tail.0) (depth_counted head.0) (depth_counted tail.0) (head.1 each.0) (tail.1 each.1))

pub pattern_read : (version : Version) (known : Known) (here : ℕ) (names labels : List (List ℕ)) (f g : ℕ → ℕ) → Reads known here names labels f g → (p : Pattern) → PatternIsRead version known names f p
pattern_read version known here names labels f g reads = ind-Pattern (PatternIsRead version known names f) (λ x y is. subst (λ z. PatternIsRead version known names f (roll-Pattern z)) is (pattern_comes version known here names labels f g reads y))

-- ---- a phrase at the front of tokens

pub phrase_found : (version : Version) {A : Type 0} (s : Spelling A) (known : Known) (a : List ℕ) (x : A) (n d : ℕ) → IsRead version s known a x n d → n ≤ MOST_NODES → d ≤ MOST_DEPTH →
    (line rest : List ℕ) (at end : ℕ) → drop at line ≡ a ++ rest → end ≡ at + length a → Stops rest → phrase_of s known line (tokens_at version at (a ++ rest)) ≡ Ok (x, tokens_at version end rest)
phrase_found version {A} s known a x n d r few flat line rest at end here e stops =
    ap (λ (o : Read A). on_ok (λ y. (y.0, y.2)) o) (r.again line rest at end here e stops MOST_DEPTH (MOST_NODES - n) MOST_NODES flat (omega arith))
