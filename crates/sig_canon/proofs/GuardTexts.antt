-- The guards of clauses are read back from their texts.
use Rattle.std.proofs.Common.{◌≡◌, ℕ, zero, suc, ◌+◌, ◌≤◌, true, List, [], ◌∷◌, ◌++◌, length, map, sum, drop, refl, sym, ap, subst, ◌∙◌, arith, append_assoc, length-append, ◌<◌}
use Rattle.std.specs.Prelude.{All, IfSome, Option, Some, None, option_map, ok_or, if◌then◌else◌, Result, Ok, Err, codes}
use Rattle.std.specs.List.{concat}
use Rattle.std.proofs.lemmas.List.Elements.{All-head, All-tail}
use Rattle.std.proofs.lemmas.List.Sums.{sum_by-cons}
use Rattle.sig_terms.proofs.TokenReads.{Stops}
use Rattle.sig_patterns.specs.declared.clause.Clause.{Clause}
use Rattle.sig_patterns.specs.declared.guard.Guard.{Guard}
use Rattle.sig_patterns.specs.declared.guard.Op.{Op}
use Rattle.sig_patterns.specs.declared.guard.Op.TheVariants as op
use Rattle.sig_patterns.specs.declared.guard.Operand.{Operand}
use Rattle.sig_patterns.specs.declared.guard.Operand.TheVariants as operand
use Rattle.sig_patterns.specs.declared.guard.TermKind.{TermKind}
use Rattle.sig_patterns.specs.declared.guard.TermKind.TheVariants as term_kind
use Rattle.sig_patterns.specs.declared.guard.Test.{Test}
use Rattle.sig_patterns.specs.declared.guard.Test.TheVariants as test
use Rattle.sig_patterns.specs.declared.pattern.Pattern.{Pattern}
use Rattle.sig_patterns.specs.declared.var.Var.{Var}
use Rattle.sig_program.specs.declared.version.Version.{Version}
use Rattle.sig_program.specs.declared.version.Version.TheVariants.{One, Two}
use Rattle.sig_tokens.specs.declared.fault.FaultKind.{FaultKind}
use Rattle.sig_tokens.specs.declared.fault.FaultKind.TheVariants.{Syntax}
use Rattle.sig_tokens.specs.declared.known.Known.{Known}
use Rattle.sig_tokens.specs.declared.token.Sign.TheVariants as sign
use Rattle.sig_tokens.specs.declared.token.TokenKind.{TokenKind}
use Rattle.sig_tokens.specs.declared.token.TokenKind.TheVariants.{Name, Variable, Integer, Sign}
use Rattle.sig_tokens.specs.declared.token.Token.{Token}
use Rattle.sig_tokens.specs.declared.token.Cut.{Cut}
use Rattle.sig_tokens.specs.Faults.{◌>>=◌, on_ok}
use Rattle.sig_tokens.specs.PatternTexts.{pattern_spelling}
use Rattle.sig_tokens.specs.Signs.{op_of}
use Rattle.sig_tokens.specs.Tokens.{IsNameToken, IsVariableToken}
use Rattle.sig_reader.specs.declared.form.Form.TheVariants as form
use Rattle.sig_reader.specs.declared.guards.Join.{Join}
use Rattle.sig_reader.specs.declared.guards.Join.TheVariants as join
use Rattle.sig_reader.specs.declared.guards.TheConstants.{MOST_TESTS}
use Rattle.sig_reader.specs.Drafts.{may_guard}
use Rattle.sig_reader.specs.Forms.{arrow_of, behind_pattern, on_of}
use Rattle.sig_reader.specs.Guards.{kind_word, kind_of, side_of, side_at, op_at, compare_at, behind_sign, enclosed_at, is_at, test_by, test_at, join_of, join_at, ReadGuard, joined, alternatives_from, is_when, some_guard_at, guard_at}
use Rattle.sig_reader.proofs.Seen.{pattern_seen, clause_seen}
use Rattle.sig_canon.specs.ScriptText.{after_blank, name_of_place, side_text, op_text, test_text, tests_text, alternatives_text, guard_text, pattern_text, target_text}
use Rattle.sig_canon.specs.ReadableScript.{IsReadableSide, IsReadableTest, IsReadableAlternative, IsReadableGuard, IsReadableClause}
use Rattle.sig_canon.proofs.WordTexts.{Anything, IsWord, name_word, variable_word, int_word, int_again, arrow, open_paren, close_paren, BeforeBlank, less_sign, greater_sign, at_most_sign, at_least_sign, equal_sign, unequal_sign}
use Rattle.sig_canon.proofs.CutTexts.{tokens_at, token_at, token_text, word_tokens, IsCut, word_is_cut, cut_on, behind_text, blank_tokens, no_tokens}
use Rattle.sig_canon.proofs.PhraseReads.{byte_on}
use Rattle.sig_canon.proofs.PhraseTexts.{name_found, variable_found, pattern_read, phrase_found}
use Rattle.sig_canon.proofs.FormReads.{IsRest, text_on, rest_on, rest_made, arrow_rest}
use Rattle.sig_canon.proofs.KnownNames.{Reads}

-- ---- comparisons

-- a side of a comparison is one word, which is read as this side
record IsSide (o : Operand) : Type 0 where
  pub kind : TokenKind
  pub word : IsWord Two Stops kind (side_text o)
  pub means : side_of kind (side_text o) ≡ Ok o
  pub compares : (line : List ℕ) (ts : List Token) → test_by kind line ts ≡ compare_at line ts

side_word : (o : Operand) → IsReadableSide o → IsSide o
side_word (operand.Int n) wide = record { kind = Integer; word = int_word Two n wide; means = ap (λ i. Ok (operand.Int i)) (int_again n wide); compares = λ line ts. refl }
side_word (operand.Var x) named = record { kind = Variable; word = variable_word Two x.0 named; means = refl; compares = λ line ts. refl }

side_found : (o : Operand) → IsSide o → (line rest : List ℕ) (at end : ℕ) → drop at line ≡ side_text o ++ rest → end ≡ at + length (side_text o) → Stops rest →
    side_at line (tokens_at Two at (side_text o ++ rest)) ≡ Ok (o, tokens_at Two end rest)
side_found o s line rest at end there place stops =
    ap (side_at line) (word_tokens Two (side_text o) rest at end s.word stops place)
    ∙ ap (λ (bytes : List ℕ). on_ok (λ z. (z, tokens_at Two end rest)) (side_of s.kind bytes)) (token_text line (side_text o) rest s.kind at there)
    ∙ ap (λ (r : Result Operand FaultKind). on_ok (λ z. (z, tokens_at Two end rest)) r) s.means

-- a comparison sign is one word, which is read as this sign
record IsOp (o : Op) : Type 0 where
  pub kind : TokenKind
  pub word : IsWord Two BeforeBlank kind (op_text o)
  pub means : op_of kind ≡ Some o

-- a word that ends anywhere ends before a blank
before_blank : {kind : TokenKind} {word : List ℕ} → IsWord Two Anything kind word → IsWord Two BeforeBlank kind word
before_blank w = record { front = λ rest blank. w.front rest tt; first = w.first; others = w.others; is = w.is; seen = w.seen; plain = w.plain; range = w.range; clean = w.clean }

op_word : (o : Op) → IsOp o
op_word op.Less = record { kind = Sign sign.Less; word = before_blank less_sign; means = refl }
op_word op.Greater = record { kind = Sign sign.Greater; word = greater_sign; means = refl }
op_word op.AtMost = record { kind = Sign sign.AtMost; word = before_blank at_most_sign; means = refl }
op_word op.AtLeast = record { kind = Sign sign.AtLeast; word = before_blank at_least_sign; means = refl }
op_word op.Equal = record { kind = Sign sign.EqualTo; word = before_blank equal_sign; means = refl }
op_word op.Unequal = record { kind = Sign sign.UnequalTo; word = before_blank unequal_sign; means = refl }

op_found : (o : Op) → (rest : List ℕ) (at end : ℕ) → end ≡ at + length (op_text o) → BeforeBlank rest → op_at (tokens_at Two at (op_text o ++ rest)) ≡ Ok (o, tokens_at Two end rest)
op_found o rest at end place blank =
    let w = op_word o in
    ap op_at (word_tokens Two (op_text o) rest at end w.word blank place)
    ∙ ap (λ (found : Option Op). on_ok (λ y. (y, tokens_at Two end rest)) (ok_or found Syntax)) w.means

-- ---- tests for a kind of terms

kind_again : (kind : TermKind) → kind_of (kind_word kind) ≡ Some kind
kind_again term_kind.Integer = refl
kind_again term_kind.Atom = refl
kind_again term_kind.Pid = refl
kind_again term_kind.Reference = refl
kind_again term_kind.Tuple = refl
kind_again term_kind.List = refl

kind_named : (kind : TermKind) → IsNameToken (kind_word kind)
kind_named term_kind.Integer = (omega arith, refl)
kind_named term_kind.Atom = (omega arith, refl)
kind_named term_kind.Pid = (omega arith, refl)
kind_named term_kind.Reference = (omega arith, refl)
kind_named term_kind.Tuple = (omega arith, refl)
kind_named term_kind.List = (omega arith, refl)

-- a variable between parentheses
abbrev enclosed : List ℕ → List ℕ
enclosed word = 40 ∷ (word ++ 41 ∷ [])

enclosed_cut : (word : List ℕ) → IsVariableToken word → IsCut Two Anything (enclosed word)
enclosed_cut word named =
    byte_on Two 40 (word ++ 41 ∷ []) open_paren (cut_on Two word (41 ∷ []) (word_is_cut Two word (variable_word Two word named)) (word_is_cut Two (41 ∷ []) close_paren) (λ rest _. refl))

kind_cut : (kind : TermKind) (word : List ℕ) → IsVariableToken word → IsCut Two Anything (kind_word kind ++ enclosed word)
kind_cut kind word named =
    cut_on Two (kind_word kind) (enclosed word) (word_is_cut Two (kind_word kind) (name_word Two (kind_word kind) (kind_named kind))) (enclosed_cut word named) (λ rest _. refl)

-- the text of a test for a kind
kind_text : (kind : TermKind) (word : List ℕ) → kind_word kind ++ codes "(" ++ word ++ codes ")" ≡ kind_word kind ++ enclosed word
kind_text kind word = append_assoc (kind_word kind ++ 40 ∷ []) word (41 ∷ []) ∙ append_assoc (kind_word kind) (40 ∷ []) (word ++ 41 ∷ [])

closed_found : (rest : List ℕ) (at end : ℕ) → end ≡ at + 1 → behind_sign sign.CloseParen (tokens_at Two at (41 ∷ rest)) ≡ Ok (tokens_at Two end rest)
closed_found rest at end place = ap (behind_sign sign.CloseParen) (word_tokens Two (41 ∷ []) rest at end close_paren tt place)

enclosed_found : (line word rest : List ℕ) (at end : ℕ) → IsVariableToken word → drop at line ≡ 40 ∷ (word ++ (41 ∷ rest)) → end ≡ at + 1 + length word + 1 →
    enclosed_at line (tokens_at Two at (40 ∷ (word ++ (41 ∷ rest)))) ≡ Ok (word, tokens_at Two end rest)
enclosed_found line word rest at end named there place =
    let inside : drop (at + 1) line ≡ word ++ (41 ∷ rest) = behind_text line (40 ∷ []) (word ++ (41 ∷ rest)) at (at + 1) there refl in
    ap (enclosed_at line) (word_tokens Two (40 ∷ []) (word ++ (41 ∷ rest)) at (at + 1) open_paren tt refl)
    ∙ ap (λ (r : Result (List ℕ × List Token) FaultKind). r >>= λ x. on_ok (λ vs. (x.0, vs)) (behind_sign sign.CloseParen x.1))
    (variable_found Two line word (41 ∷ rest) (at + 1) (at + 1 + length word) named inside refl refl)
    ∙ ap (λ (r : Result (List Token) FaultKind). on_ok (λ vs. (word, vs)) r) (closed_found rest (at + 1 + length word) end place)

-- a test that begins with a name
named_test : (line word rest : List ℕ) (at end : ℕ) → IsNameToken word → Stops rest → end ≡ at + length word → test_at line (tokens_at Two at (word ++ rest)) ≡ is_at line (tokens_at Two at (word ++ rest))
named_test line word rest at end named stops place =
    let front = word_tokens Two word rest at end (name_word Two word named) stops place in
    ap (test_at line) front ∙ ap (is_at line) (sym front)

kind_found : (kind : TermKind) (x : Var) (line rest : List ℕ) (at end : ℕ) → IsVariableToken x.0 → drop at line ≡ (kind_word kind ++ enclosed x.0) ++ rest → end ≡ at + length (kind_word kind ++ enclosed x.0) →
    test_at line (tokens_at Two at ((kind_word kind ++ enclosed x.0) ++ rest)) ≡ Ok (test.Is kind x, tokens_at Two end rest)
kind_found kind x line rest at end named there place =
    let word : List ℕ = kind_word kind in
    let mid : ℕ = at + length word in
    let bytes : List ℕ = 40 ∷ (x.0 ++ (41 ∷ rest)) in
    let split : (word ++ enclosed x.0) ++ rest ≡ word ++ bytes = append_assoc word (enclosed x.0) rest ∙ ap (λ (ys : List ℕ). word ++ 40 ∷ ys) (append_assoc x.0 (41 ∷ []) rest) in
    let here : drop at line ≡ word ++ bytes = there ∙ split in
    let inside : drop mid line ≡ bytes = behind_text line word bytes at mid here refl in
    let last : end ≡ mid + 1 + length x.0 + 1 = omega (arith, place, length-append word (enclosed x.0), length-append x.0 (41 ∷ [])) in
    ap (λ (ys : List ℕ). test_at line (tokens_at Two at ys)) split
    ∙ named_test line word bytes at mid (kind_named kind) refl refl
    ∙ ap (λ (r : Result (List ℕ × List Token) FaultKind). r >>= λ w. ok_or (kind_of w.0) Syntax >>= λ k. on_ok (λ y. (test.Is k (record { 0 = y.0 }), y.1)) (enclosed_at line w.1))
    (name_found Two line word bytes at mid (kind_named kind) here refl refl)
    ∙ ap (λ (found : Option TermKind). ok_or found Syntax >>= λ k. on_ok (λ y. (test.Is k (record { 0 = y.0 }), y.1)) (enclosed_at line (tokens_at Two mid bytes))) (kind_again kind)
    ∙ ap (λ (r : Result (List ℕ × List Token) FaultKind). on_ok (λ y. (test.Is kind (record { 0 = y.0 }), y.1)) r) (enclosed_found line x.0 rest mid end named inside last)

-- ---- tests, with a reader behind them

-- what is read behind what a first reader made
abbrev OfMore : Type 0 → Type 0 → Type 0
OfMore X Y = X → List ℕ → List Token → Result Y FaultKind

abbrev texts : List (List ℕ) → List ℕ
texts words = concat (map after_blank words)

-- a test that begins with a side is a comparison
compared : (line : List ℕ) (o : Operand) (s : IsSide o) (rest : List ℕ) (at end : ℕ) → Stops rest → end ≡ at + length (side_text o) → test_at line (tokens_at Two at (side_text o ++ rest)) ≡ compare_at line (tokens_at Two at (side_text o ++ rest))
compared line o s rest at end stops place =
    let front = word_tokens Two (side_text o) rest at end s.word stops place in
    ap (test_at line) front ∙ s.compares line (token_at s.kind at (side_text o) ∷ tokens_at Two end rest) ∙ ap (compare_at line) (sym front)

abbrev comparison : Operand → Op → Operand × List Token → Test × List Token
comparison left o z = (test.Compare left o z.0, z.1)

module _ {Y : Type 0} (more : OfMore Test Y) (rest : List (List ℕ)) (y : Y) where
  -- the last side, the sign and the first side of a comparison, each with what is read behind it
  right_rest : (left right : Operand) (o : Op) → IsSide right → IsRest Two (more (test.Compare left o right)) (texts rest) y →
      IsRest Two (λ line ts. side_at line ts >>= λ z. more (test.Compare left o z.0) line z.1) (texts (side_text right ∷ rest)) y
  right_rest left right o s r =
      rest_on Two (λ line ts. side_at line ts >>= λ z. more (test.Compare left o z.0) line z.1) (more (test.Compare left o right)) (side_text right) (texts rest) y y (word_is_cut Two (side_text right) s.word) r
      (λ line at end there e found. ap (λ (t : Result (Operand × List Token) FaultKind). t >>= λ z. more (test.Compare left o z.0) line z.1) (side_found right s line (texts rest) at end there e r.stops) ∙ found)

  op_rest : (left right : Operand) (o : Op) → IsSide right → IsRest Two (more (test.Compare left o right)) (texts rest) y →
      IsRest Two (λ line ts. op_at ts >>= λ x. side_at line x.1 >>= λ z. more (test.Compare left x.0 z.0) line z.1) (texts (op_text o ∷ side_text right ∷ rest)) y
  op_rest left right o s r =
      text_on Two (λ line ts. op_at ts >>= λ x. side_at line x.1 >>= λ z. more (test.Compare left x.0 z.0) line z.1) (λ line ts. side_at line ts >>= λ z. more (test.Compare left o z.0) line z.1)
      (op_text o) (texts (side_text right ∷ rest)) y y (word_is_cut Two (op_text o) (op_word o).word) refl (right_rest left right o s r)
      (λ line at end there e found.
      ap (λ (t : Result (Op × List Token) FaultKind). t >>= λ x. side_at line x.1 >>= λ z. more (test.Compare left x.0 z.0) line z.1) (op_found o (texts (side_text right ∷ rest)) at end e refl) ∙ found)

  behind_op : (left : Operand) (o : Op) (line : List ℕ) (r : Result (Operand × List Token) FaultKind) →
      (on_ok (comparison left o) r >>= λ x. more x.0 line x.1) ≡ (r >>= λ z. more (test.Compare left o z.0) line z.1)
  behind_op left o line (Ok z) = refl
  behind_op left o line (Err e) = refl

  behind_left : (left : Operand) (line : List ℕ) (r : Result (Op × List Token) FaultKind) →
      ((r >>= λ x. on_ok (comparison left x.0) (side_at line x.1)) >>= λ x. more x.0 line x.1) ≡ (r >>= λ x. side_at line x.1 >>= λ z. more (test.Compare left x.0 z.0) line z.1)
  behind_left left line (Ok x) = behind_op left x.0 line (side_at line x.1)
  behind_left left line (Err e) = refl

  compare_rest : (left right : Operand) (o : Op) → IsSide left → IsSide right → IsRest Two (more (test.Compare left o right)) (texts rest) y →
      IsRest Two (λ line ts. test_at line ts >>= λ x. more x.0 line x.1) (texts (side_text left ∷ op_text o ∷ side_text right ∷ rest)) y
  compare_rest left right o l s r =
      let bytes : List ℕ = texts (op_text o ∷ side_text right ∷ rest) in
      rest_on Two (λ line ts. test_at line ts >>= λ x. more x.0 line x.1) (λ line ts. op_at ts >>= λ x. side_at line x.1 >>= λ z. more (test.Compare left x.0 z.0) line z.1) (side_text left) bytes y y
      (word_is_cut Two (side_text left) l.word) (op_rest left right o s r) (λ line at end there e found.
      ap (λ (t : Result (Test × List Token) FaultKind). t >>= λ x. more x.0 line x.1) (compared line left l bytes at end refl e
      ∙ ap (λ (t : Result (Operand × List Token) FaultKind). t >>= λ x. op_at x.1 >>= λ w. on_ok (λ z. (test.Compare x.0 w.0 z.0, z.1)) (side_at line w.1)) (side_found left l line bytes at end there e refl))
      ∙ behind_left left line (op_at (tokens_at Two end bytes)) ∙ found)

  kind_rest : (kind : TermKind) (x : Var) → IsVariableToken x.0 → IsRest Two (more (test.Is kind x)) (texts rest) y → IsRest Two (λ line ts. test_at line ts >>= λ z. more z.0 line z.1) (texts ((kind_word kind ++ enclosed x.0) ∷ rest)) y
  kind_rest kind x named r =
      text_on Two (λ line ts. test_at line ts >>= λ z. more z.0 line z.1) (more (test.Is kind x)) (kind_word kind ++ enclosed x.0) (texts rest) y y (kind_cut kind x.0 named) tt r
      (λ line at end there e found. ap (λ (t : Result (Test × List Token) FaultKind). t >>= λ z. more z.0 line z.1) (kind_found kind x line (texts rest) at end named there e) ∙ found)

  test_rest : (t : Test) → IsReadableTest t → IsRest Two (more t) (texts rest) y → IsRest Two (λ line ts. test_at line ts >>= λ x. more x.0 line x.1) (texts (test_text t rest)) y
  test_rest (test.Compare left o right) readable r = compare_rest left right o (side_word left readable.0) (side_word right readable.1) r
  test_rest (test.Is kind x) named r =
      subst (λ (bytes : List ℕ). IsRest Two (λ line ts. test_at line ts >>= λ z. more z.0 line z.1) (texts (bytes ∷ rest)) y) (sym (kind_text kind x.0)) (kind_rest kind x named r)

-- ---- tests with `and` and `or` between them

join_found : (word : List ℕ) (j : Join) → IsNameToken word → join_of Name word ≡ Some j → (line rest : List ℕ) (at end : ℕ) → drop at line ≡ word ++ rest → end ≡ at + length word → Stops rest →
    join_at line (tokens_at Two at (word ++ rest)) ≡ Some (j, tokens_at Two end rest)
join_found word j named means line rest at end there place stops =
    ap (join_at line) (word_tokens Two word rest at end (name_word Two word named) stops place)
    ∙ ap (λ (bytes : List ℕ). option_map (λ i. (i, tokens_at Two end rest)) (join_of Name bytes)) (token_text line word rest Name at there)
    ∙ ap (λ (found : Option Join). option_map (λ i. (i, tokens_at Two end rest)) found) means

and_named : IsNameToken (codes "and")
and_named = (omega arith, refl)

or_named : IsNameToken (codes "or")
or_named = (omega arith, refl)

module _ {Y : Type 0} (next : OfMore (List (List Test)) Y) where
  abbrev from : ℕ → List (List Test) → List Test → List ℕ → List Token → Result Y FaultKind
  from room done tests line ts = alternatives_from line room done tests ts >>= λ x. next x.0 line x.1

  -- the same behind a test
  abbrev behind : ℕ → List (List Test) → List Test → List ℕ → List Token → Result Y FaultKind
  behind room done tests line ts = joined (alternatives_from line room) done tests ts (join_at line ts) >>= λ x. next x.0 line x.1

  behind_made : (room : ℕ) (done : List (List Test)) (tests : List Test) (line : List ℕ) (r : Result (Test × List Token) FaultKind) →
      ((r >>= λ x. joined (alternatives_from line room) done (tests ++ x.0 ∷ []) x.1 (join_at line x.1)) >>= λ x. next x.0 line x.1) ≡ (r >>= λ x. behind room done (tests ++ x.0 ∷ []) line x.1)
  behind_made room done tests line (Ok x) = refl
  behind_made room done tests line (Err e) = refl

  from_test : (room : ℕ) (done : List (List Test)) (tests : List Test) (line : List ℕ) (ts : List Token) →
      from (suc room) done tests line ts ≡ (test_at line ts >>= λ x. behind room done (tests ++ x.0 ∷ []) line x.1)
  unfolding alternatives_from
  from_test room done tests line ts = behind_made room done tests line (test_at line ts)

  and_rest : (room : ℕ) (done : List (List Test)) (tests : List Test) (bytes : List ℕ) (y : Y) → IsRest Two (from room done tests) bytes y → IsRest Two (behind room done tests) (32 ∷ (codes "and" ++ bytes)) y
  and_rest room done tests bytes y r =
      rest_on Two (behind room done tests) (from room done tests) (codes "and") bytes y y (word_is_cut Two (codes "and") (name_word Two (codes "and") and_named)) r (λ line at end there e found.
      ap (λ (j : Option (Join × List Token)). joined (alternatives_from line room) done tests (tokens_at Two at (codes "and" ++ bytes)) j >>= λ x. next x.0 line x.1)
      (join_found (codes "and") join.And and_named refl line bytes at end there e r.stops) ∙ found)

  or_rest : (room : ℕ) (done : List (List Test)) (tests : List Test) (bytes : List ℕ) (y : Y) → IsRest Two (from room (done ++ tests ∷ []) []) bytes y → IsRest Two (behind room done tests) (32 ∷ (codes "or" ++ bytes)) y
  or_rest room done tests bytes y r =
      rest_on Two (behind room done tests) (from room (done ++ tests ∷ []) []) (codes "or") bytes y y (word_is_cut Two (codes "or") (name_word Two (codes "or") or_named)) r (λ line at end there e found.
      ap (λ (j : Option (Join × List Token)). joined (alternatives_from line room) done tests (tokens_at Two at (codes "or" ++ bytes)) j >>= λ x. next x.0 line x.1)
      (join_found (codes "or") join.Or or_named refl line bytes at end there e r.stops) ∙ found)

  -- behind the last test stands no word that joins
  module _ (rest : List (List ℕ)) (y : Y) (ends : (line : List ℕ) (at : ℕ) → join_at line (tokens_at Two at (texts rest)) ≡ None) where
    end_rest : (room : ℕ) (done : List (List Test)) (tests : List Test) → IsRest Two (next (done ++ tests ∷ [])) (texts rest) y → IsRest Two (behind room done tests) (texts rest) y
    end_rest room done tests r = record {
      whole = r.whole;
      clean = r.clean;
      stops = r.stops;
      again = λ line at here.
          ap (λ (j : Option (Join × List Token)). joined (alternatives_from line room) done tests (tokens_at Two at (texts rest)) j >>= λ x. next x.0 line x.1) (ends line at) ∙ r.again line at here;
    }

    first_rest : (room : ℕ) (done : List (List Test)) (tests : List Test) (t : Test) (others : List (List ℕ)) → IsReadableTest t → IsRest Two (behind room done (tests ++ t ∷ [])) (texts others) y →
        IsRest Two (from (suc room) done tests) (texts (test_text t others)) y
    first_rest room done tests t others readable r =
        rest_made Two (test_rest (λ x. behind room done (tests ++ x ∷ [])) others y t readable r) (from (suc room) done tests) y (λ line ts found. from_test room done tests line ts ∙ found)

    -- the test t, the tests behind it, and the further alternatives
    tests_rest : (room : ℕ) (done : List (List Test)) (tests : List Test) (t : Test) (ts : List Test) (more : List (List Test)) → IsReadableTest t → All IsReadableTest ts → All IsReadableAlternative more →
        suc (length ts + sum (map (λ (us : List Test). length us) more)) ≤ room → IsRest Two (next (done ++ (tests ++ t ∷ ts) ∷ more)) (texts rest) y →
        IsRest Two (from room done tests) (texts (test_text t (tests_text (codes "and") ts (alternatives_text (codes "or") more rest)))) y
    tests_rest zero done tests t ts more first each all few r = absurd (omega arith)
    tests_rest (suc room) done tests t [] [] first each all few r = first_rest room done tests t rest first (end_rest room done (tests ++ t ∷ []) r)
    tests_rest (suc room) done tests t [] ([] ∷ more) first each all few r = let some = All-head IsReadableAlternative [] more all in absurd (omega (arith, some.0))
    tests_rest (suc room) done tests t [] ((u ∷ us) ∷ more) first each all few r =
        let alternative = All-head IsReadableAlternative (u ∷ us) more all in
        let count : sum (length (u ∷ us) ∷ map (λ (ws : List Test). length ws) more) ≡ length (u ∷ us) + sum (map (λ (ws : List Test). length ws) more) = sum_by-cons (λ k. k) (length (u ∷ us)) (map (λ (ws : List Test). length ws) more) in
        first_rest room done tests t (alternatives_text (codes "or") ((u ∷ us) ∷ more) rest) first
        (or_rest room done (tests ++ t ∷ []) (texts (test_text u (tests_text (codes "and") us (alternatives_text (codes "or") more rest)))) y
        (tests_rest room (done ++ (tests ++ t ∷ []) ∷ []) [] u us more (All-head IsReadableTest u us alternative.1) (All-tail IsReadableTest u us alternative.1) (All-tail IsReadableAlternative (u ∷ us) more all) (omega (arith, few, count))
        (subst (λ (g : List (List Test)). IsRest Two (next g) (texts rest) y) (sym (append_assoc done ((tests ++ t ∷ []) ∷ []) ((u ∷ us) ∷ more))) r)))
    tests_rest (suc room) done tests t (u ∷ us) more first each all few r =
        first_rest room done tests t (tests_text (codes "and") (u ∷ us) (alternatives_text (codes "or") more rest)) first
        (and_rest room done (tests ++ t ∷ []) (texts (test_text u (tests_text (codes "and") us (alternatives_text (codes "or") more rest)))) y
        (tests_rest room done (tests ++ t ∷ []) u us more (All-head IsReadableTest u us each) (All-tail IsReadableTest u us each) all (omega (arith, few))
        (subst (λ (ws : List Test). IsRest Two (next (done ++ ws ∷ more)) (texts rest) y) (sym (append_assoc tests (t ∷ []) (u ∷ us))) r)))

-- ---- behind a pattern

-- no token, or an arrow in front
abbrev Arrowed : List Token → Type 0
Arrowed [] = Unit {0}
Arrowed (t ∷ ts) = t.kind ≡ Sign sign.Arrow

target_front : (version : Version) (labels : List (List ℕ)) (target : Option ℕ) (at : ℕ) → Arrowed (tokens_at version at (texts (target_text labels target)))
target_front version labels None at = subst Arrowed (sym (no_tokens version at)) tt
target_front version labels (Some n) at =
    let bytes : List ℕ = 32 ∷ (name_of_place labels n ++ []) in
    let front : tokens_at version at (32 ∷ (codes "->" ++ bytes)) ≡ token_at (Sign sign.Arrow) (at + 1) (codes "->") ∷ tokens_at version (at + 1 + 2) bytes =
    ap (λ (c : Cut). c.tokens) (blank_tokens version (codes "->" ++ bytes) at (at + 1) refl) ∙ word_tokens version (codes "->") bytes (at + 1) (at + 1 + 2) (arrow version) tt refl in
    subst Arrowed (sym front) refl

no_join : (line : List ℕ) (ts : List Token) → Arrowed ts → join_at line ts ≡ None
no_join line [] h = refl
no_join line (t ∷ ts) h = rw h refl

no_guard : (line : List ℕ) (ts : List Token) → Arrowed ts → guard_at line ts ≡ Ok (None, ts)
no_guard line [] h = refl
no_guard line (t ∷ ts) h = rw h refl

when_named : IsNameToken (codes "when")
when_named = (omega arith, refl)

abbrev some_guard : List (List Test) × List Token → Option Guard × List Token
some_guard x = (Some (record { alternatives = x.0 }), x.1)

module _ (known : Known) (here : ℕ) where
  abbrev Behind : Type 0
  Behind = Option Guard × Option ℕ

  abbrev guarded : OfMore (List (List Test)) Behind
  guarded alternatives line ts = on_ok (λ target. (Some (record { alternatives = alternatives }), target)) (arrow_of known here line ts)

  abbrev with_target : List ℕ → Option Guard × List Token → Result Behind FaultKind
  with_target line x = on_ok (λ target. (x.0, target)) (arrow_of known here line x.1)

  guard_made : (line : List ℕ) (r : ReadGuard) → (on_ok some_guard r >>= λ x. with_target line x) ≡ (r >>= λ x. guarded x.0 line x.1)
  guard_made line (Ok x) = refl
  guard_made line (Err e) = refl

  when_found : (line rest : List ℕ) (at end : ℕ) → drop at line ≡ codes "when" ++ rest → end ≡ at + 4 → Stops rest → guard_at line (tokens_at Two at (codes "when" ++ rest)) ≡ some_guard_at line (tokens_at Two end rest)
  when_found line rest at end there place stops =
      ap (guard_at line) (word_tokens Two (codes "when") rest at end (name_word Two (codes "when") when_named) stops place)
      ∙ ap (λ (bytes : List ℕ). if is_when Name bytes then some_guard_at line (tokens_at Two end rest) else Ok (None, token_at Name at (codes "when") ∷ tokens_at Two end rest)) (token_text line (codes "when") rest Name at there)

  some_rest : (labels : List (List ℕ)) (target : Option ℕ) (y : Option ℕ) (alternatives : List (List Test)) → 1 ≤ length alternatives → All IsReadableAlternative alternatives →
      sum (map (λ (ts : List Test). length ts) alternatives) ≤ MOST_TESTS → IsRest Two (arrow_of known here) (texts (target_text labels target)) y →
      IsRest Two (behind_pattern known here) (texts (alternatives_text (codes "when") alternatives (target_text labels target))) (Some (record { alternatives = alternatives }), y)
  some_rest labels target y [] some all few r = absurd (omega arith)
  some_rest labels target y ([] ∷ more) some all few r = let first = All-head IsReadableAlternative [] more all in absurd (omega (arith, first.0))
  some_rest labels target y ((t ∷ ts) ∷ more) some all few r =
      let first = All-head IsReadableAlternative (t ∷ ts) more all in
      let count : sum (length (t ∷ ts) ∷ map (λ (ws : List Test). length ws) more) ≡ length (t ∷ ts) + sum (map (λ (ws : List Test). length ws) more) = sum_by-cons (λ k. k) (length (t ∷ ts)) (map (λ (ws : List Test). length ws) more) in
      let value : Behind = (Some (record { alternatives = (t ∷ ts) ∷ more }), y) in
      let last = rest_made Two r (guarded ((t ∷ ts) ∷ more)) value (λ line us found. ap (on_ok (λ target. (Some (record { alternatives = (t ∷ ts) ∷ more }), target))) found) in
      let tests = tests_rest guarded (target_text labels target) value (λ line at. no_join line (tokens_at Two at (texts (target_text labels target))) (target_front Two labels target at)) MOST_TESTS [] [] t ts more
      (All-head IsReadableTest t ts first.1) (All-tail IsReadableTest t ts first.1) (All-tail IsReadableAlternative (t ∷ ts) more all) (omega (arith, few, count)) last in
      let bytes : List ℕ = texts (test_text t (tests_text (codes "and") ts (alternatives_text (codes "or") more (target_text labels target)))) in
      rest_on Two (behind_pattern known here) (from guarded MOST_TESTS [] []) (codes "when") bytes value value (word_is_cut Two (codes "when") (name_word Two (codes "when") when_named)) tests (λ line at end there e found.
      ap (λ (x : Result (Option Guard × List Token) FaultKind). x >>= λ z. on_ok (λ target. (z.0, target)) (arrow_of known here line z.1)) (when_found line bytes at end there e tests.stops)
      ∙ guard_made line (alternatives_from line MOST_TESTS [] [] (tokens_at Two end bytes)) ∙ found)

  none_rest : (version : Version) (labels : List (List ℕ)) (target y : Option ℕ) → IsRest version (arrow_of known here) (texts (target_text labels target)) y →
      IsRest version (behind_pattern known here) (texts (target_text labels target)) (None, y)
  none_rest version labels target y r = record {
    whole = r.whole;
    clean = r.clean;
    stops = r.stops;
    again = λ line at there.
        ap (λ (x : Result (Option Guard × List Token) FaultKind). x >>= λ z. on_ok (λ target. (z.0, target)) (arrow_of known here line z.1))
        (no_guard line (tokens_at version at (texts (target_text labels target))) (target_front version labels target at))
        ∙ ap (on_ok (λ (t : Option ℕ). (None, t))) (r.again line at there);
  }

  guard_rest : (version : Version) (labels : List (List ℕ)) (guard : Option Guard) (target y : Option ℕ) → IfSome guard IsReadableGuard → may_guard version guard ≡ true →
      IsRest version (arrow_of known here) (texts (target_text labels target)) y → IsRest version (behind_pattern known here) (texts (guard_text guard (target_text labels target))) (guard, y)
  guard_rest version labels None target y readable allowed r = none_rest version labels target y r
  guard_rest One labels (Some guard) target y readable allowed r = absurd cc
  guard_rest Two labels (Some guard) target y readable allowed r = some_rest labels target y guard.alternatives readable.some readable.each readable.few r

-- a pattern, a guard and an arrow behind it
pub clause_rest : (version : Version) (known : Known) (here : ℕ) (names labels : List (List ℕ)) (f g : ℕ → ℕ) → Reads known here names labels f g → (c : Clause) → IsReadableClause version (length names) c → IfSome c.target (λ n. n < length labels) →
    IsRest version (on_of known here) (texts (pattern_text names c.pattern ∷ guard_text c.guard (target_text labels c.target))) (form.On (clause_seen f g c))
clause_rest version known here names labels f g reads c readable within =
    let r = (pattern_read version known here names labels f g reads c.pattern readable.pattern.plain).whole in
    let bytes : List ℕ = texts (guard_text c.guard (target_text labels c.target)) in
    let q : Pattern = pattern_seen f c.pattern in
    let behind = guard_rest known here version labels c.guard c.target (option_map g c.target) readable.guard readable.allowed (arrow_rest version known here names labels f g reads c.target within) in
    rest_on version (on_of known here) (behind_pattern known here) (pattern_text names c.pattern) bytes (form.On (clause_seen f g c)) (c.guard, option_map g c.target) r.cut behind (λ line at end there e found.
    ap (λ (t : Result (Pattern × List Token) FaultKind). t >>= λ x. on_ok (λ (y : Option Guard × Option ℕ). form.On (record { pattern = x.0; guard = y.0; target = y.1 })) (behind_pattern known here line x.1))
    (phrase_found version pattern_spelling known (pattern_text names c.pattern) q _ _ r readable.pattern.nodes readable.pattern.depth line bytes at end there e behind.stops)
    ∙ ap (on_ok (λ (y : Option Guard × Option ℕ). form.On (record { pattern = q; guard = y.0; target = y.1 }))) found)
