-- What a line says is readable.
use Rattle.std.proofs.Common.{◌≡◌, ℕ, List, [], ◌∷◌, length, All, IfSome, Bool, false, Option, Some, None, Result, codes, sym, subst}
use Rattle.std.proofs.lemmas.List.Elements.{All-nil, All-cons}
use Rattle.sig_patterns.specs.declared.guard.Guard.{Guard}
use Rattle.sig_patterns.specs.declared.var.Var.{Var}
use Rattle.sig_patterns.specs.declared.pattern.Pattern.{Pattern}
use Rattle.sig_program.specs.declared.version.Version.{Version}
use Rattle.sig_program.specs.declared.instruction.Instr.{Instr}
use Rattle.sig_tokens.specs.declared.fault.FaultKind.{FaultKind}
use Rattle.sig_tokens.specs.declared.token.Token.{Token}
use Rattle.sig_tokens.specs.declared.known.Known.TheVariants.{Among}
use Rattle.sig_program.specs.declared.instruction.Verb.{Verb}
use Rattle.sig_reader.specs.declared.keyword.Keyword.{Keyword}
use Rattle.sig_reader.specs.declared.keyword.Keyword.TheVariants as keyword
use Rattle.sig_reader.specs.declared.draft.Draft.{Draft}
use Rattle.sig_reader.specs.declared.form.Form.{Form}
use Rattle.sig_reader.specs.declared.form.Form.TheVariants as form
use Rattle.sig_program.specs.Instructions.{Operand, an_expr, a_variable, a_label, a_switch, a_mode, a_flag, Said, AllSaid, operands_of, instr_by, Says, spoken}
use Rattle.sig_program.specs.Parts.{said_exprs, said_vars, exprs_in, vars_in, clauses_in, using_in}
use Rattle.sig_program.specs.Scripts.{Program}
use Rattle.sig_tokens.specs.Faults.{◌>>=◌, on_ok}
use Rattle.sig_tokens.specs.Tokens.{text, tokens_of, IsNameToken, IsVariableToken}
use Rattle.sig_tokens.specs.Names.{label_of, name_at, variable_at}
use Rattle.sig_tokens.specs.PatternTexts.{pattern_of}
use Rattle.sig_reader.specs.Forms.{operand_at, all_said, mode_of, flag_of, switch_of, word_at, keyword_of, may_stand, ends, arrow_of, count_from, turns_of, whole_name, queue_data_at, marker_of, behind_pattern, on_of, instr_of, form_of, form_behind, said_by, said}
use Rattle.sig_canon.specs.ReadableScript.{IsReadableExpr, IsReadablePattern, IsReadableGuard, IsReadableClause, IsReadableInstr}
use Rattle.sig_reader.proofs.TableLemmas.{spoken_again, instr_as}
use Rattle.sig_reader.proofs.BoundTermLemmas.{Holds, anything, holds-if, holds-on_ok, holds-then, holds-ends}
use Rattle.sig_canon.proofs.WordLemmas.{AreWords, tokens-words}
use Rattle.sig_reader.specs.Guards.{guard_at}
use Rattle.sig_canon.proofs.ReadableGuards.{IsGuardRead, guard-read}
use Rattle.sig_canon.proofs.ReadablePhrases.{holds-weaker, name-read, variable-read, expr-read, pattern-read}

-- what is known of a form in a script of this version
abbrev pub IsReadableForm : Version → ℕ → Form → Type 0
IsReadableForm v count (form.Process name) = IsNameToken name
IsReadableForm v count (form.Label name) = IsNameToken name
IsReadableForm v count (form.Do i) = IsReadableInstr v count i
IsReadableForm v count (form.Receive using) = IfSome using (λ x. IsVariableToken x.0)
IsReadableForm v count (form.On c) = IsReadablePattern count c.pattern × IfSome c.guard IsReadableGuard
IsReadableForm v count _ = Unit {0}

-- a word that means something
meaning-read : {B : Type 0} (line : List ℕ) (meaning : List ℕ → Result B FaultKind) (ts : List Token) → AreWords line ts →
    Holds (λ (x : B × List Token). AreWords line x.1) (name_at line ts >>= λ x. on_ok (λ a. (a, x.1)) (meaning x.0))
meaning-read {B} line meaning ts h =
    holds-then (λ (x : List ℕ × List Token). IsNameToken x.0 × AreWords line x.1) (λ (x : B × List Token). AreWords line x.1) (λ x. on_ok (λ a. (a, x.1)) (meaning x.0)) (name_at line ts) (name-read line ts h)
    (λ x k. holds-on_ok (λ _. Unit {0}) (λ (y : B × List Token). AreWords line y.1) (λ a. (a, x.1)) (meaning x.0) (anything (meaning x.0)) (λ a _. k.1))

word-read : {B : Type 0} (line : List ℕ) (nothing : B) (meaning : List ℕ → Result B FaultKind) (ts : List Token) → AreWords line ts → Holds (λ (x : B × List Token). AreWords line x.1) (word_at nothing meaning line ts)
word-read line nothing meaning [] h = tt
word-read line nothing meaning (t ∷ ts) h = meaning-read line meaning (t ∷ ts) h

module _ (v : Version) (s : Program) (here : ℕ) (line : List ℕ) where
  abbrev count : ℕ
  count = length s.procs

  -- what is known of what an operand says
  abbrev IsReadableSaid : (o : Operand) → Said o → Type 0
  IsReadableSaid an_expr e = IsReadableExpr count e
  IsReadableSaid a_variable x = IsVariableToken x
  IsReadableSaid _ x = Unit {0}

  abbrev AreReadable : (os : List Operand) → AllSaid os → Type 0
  AreReadable [] x = Unit {0}
  AreReadable (o ∷ os) x = IsReadableSaid o x.0 × AreReadable os x.1

  abbrev IsFront : (o : Operand) → Said o × List Token → Type 0
  IsFront o x = IsReadableSaid o x.0 × AreWords line x.1

  operand-read : (o : Operand) (ts : List Token) → AreWords line ts → Holds (IsFront o) (operand_at (Among s) here line o ts)
  operand-read an_expr ts h = expr-read s line ts h
  operand-read a_variable ts h = variable-read line ts h
  operand-read a_label ts h = holds-weaker (λ (x : ℕ × List Token). AreWords line x.1) (IsFront a_label) _ (meaning-read line (label_of (Among s) here) ts h) (λ x k. (tt, k))
  operand-read a_switch ts h = holds-weaker (λ (x : Bool × List Token). AreWords line x.1) (IsFront a_switch) _ (meaning-read line switch_of ts h) (λ x k. (tt, k))
  operand-read a_mode ts h = holds-weaker (λ (x : Said a_mode × List Token). AreWords line x.1) (IsFront a_mode) _ (word-read line None mode_of ts h) (λ x k. (tt, k))
  operand-read (a_flag flag) ts h = holds-weaker (λ (x : Bool × List Token). AreWords line x.1) (IsFront (a_flag flag)) _ (word-read line false (flag_of flag) ts h) (λ x k. (tt, k))

  operands-read : (os : List Operand) (ts : List Token) → AreWords line ts → Holds (AreReadable os) (all_said (Among s) here line os ts)
  operands-read [] ts h = holds-ends (AreReadable []) tt ts tt
  operands-read (o ∷ os) ts h =
      holds-then (IsFront o) (AreReadable (o ∷ os)) (λ x. on_ok (λ xs. (x.0, xs)) (all_said (Among s) here line os x.1)) (operand_at (Among s) here line o ts) (operand-read o ts h)
      (λ x k. holds-on_ok (AreReadable os) (AreReadable (o ∷ os)) (λ xs. (x.0, xs)) (all_said (Among s) here line os x.1) (operands-read os x.1 k.1) (λ xs l. (k.0, l)))

  -- the parts of operands
  exprs-read : (os : List Operand) (x : AllSaid os) → AreReadable os x → All (IsReadableExpr count) (said_exprs os x)
  exprs-read [] x h = All-nil (IsReadableExpr count)
  exprs-read (an_expr ∷ os) x h = All-cons (IsReadableExpr count) x.0 (said_exprs os x.1) h.0 (exprs-read os x.1 h.1)
  exprs-read (_ ∷ os) x h = exprs-read os x.1 h.1

  vars-read : (os : List Operand) (x : AllSaid os) → AreReadable os x → All IsVariableToken (said_vars os x)
  vars-read [] x h = All-nil IsVariableToken
  vars-read (a_variable ∷ os) x h = All-cons IsVariableToken x.0 (said_vars os x.1) h.0 (vars-read os x.1 h.1)
  vars-read (_ ∷ os) x h = vars-read os x.1 h.1

  abbrev IsReadable : Instr → Type 0
  IsReadable i = IsReadableInstr v count i

  made-read : (verb : Verb) (x : AllSaid (operands_of verb)) → AreReadable (operands_of verb) x → IsReadable (instr_by verb x)
  made-read verb x h =
      let same : Says verb x ≡ spoken (instr_by verb x) = sym (spoken_again verb x) in
      record {
        exprs = subst (λ s. All (IsReadableExpr count) (exprs_in s)) same (exprs-read (operands_of verb) x h);
        clauses = subst (λ s. All (IsReadableClause v count) (clauses_in s)) same (All-nil (IsReadableClause v count));
        vars = subst (λ s. All IsVariableToken (vars_in s)) same (vars-read (operands_of verb) x h);
        using = subst (λ s. IfSome (using_in s) (λ y. IsVariableToken y.0)) same tt;
      }

  instr-read : (verb : Verb) (ts : List Token) → AreWords line ts → Holds IsReadable (instr_of (Among s) here verb line ts)
  instr-read verb ts w =
      subst (Holds IsReadable) (sym (instr_as (Among s) here verb line ts))
      (holds-on_ok (AreReadable (operands_of verb)) IsReadable (instr_by verb) (all_said (Among s) here line (operands_of verb) ts) (operands-read (operands_of verb) ts w) (λ x h. made-read verb x h))

  abbrev IsForm : Form → Type 0
  IsForm f = IsReadableForm v count f

  whole_name-read : (ts : List Token) → AreWords line ts → Holds IsNameToken (whole_name line ts)
  whole_name-read ts h =
      holds-then (λ (x : List ℕ × List Token). IsNameToken x.0 × AreWords line x.1) IsNameToken (λ x. ends x.0 x.1) (name_at line ts) (name-read line ts h) (λ x k. holds-ends IsNameToken x.0 x.1 k.0)

  abbrev IsMarker : Option Var → Type 0
  IsMarker using = IfSome using (λ x. IsVariableToken x.0)

  marker-read : (ts : List Token) → AreWords line ts → Holds IsMarker (marker_of line ts)
  marker-read [] h = tt
  marker-read (t ∷ ts) h =
      holds-then (λ (x : List ℕ × List Token). IsNameToken x.0 × AreWords line x.1) IsMarker
      (λ x. flag_of (codes "using") x.0 >>= λ is_using. variable_at line x.1 >>= λ y. ends (Some (record { 0 = y.0 })) y.1) (name_at line (t ∷ ts)) (name-read line (t ∷ ts) h)
      (λ x k. holds-then (λ _. Unit {0}) IsMarker (λ is_using. variable_at line x.1 >>= λ y. ends (Some (record { 0 = y.0 })) y.1) (flag_of (codes "using") x.0) (anything (flag_of (codes "using") x.0))
      (λ u _. holds-then (λ (y : List ℕ × List Token). IsVariableToken y.0 × AreWords line y.1) IsMarker (λ y. ends (Some (record { 0 = y.0 })) y.1) (variable_at line x.1) (variable-read line x.1 k.1)
      (λ y l. holds-ends IsMarker (Some (record { 0 = y.0 })) y.1 l.0)))

  abbrev IsEnd : Option Guard × Option ℕ → Type 0
  IsEnd y = IfSome y.0 IsReadableGuard

  behind_pattern-read : (ts : List Token) → AreWords line ts → Holds IsEnd (behind_pattern (Among s) here line ts)
  behind_pattern-read ts h =
      holds-then (IsGuardRead line) IsEnd (λ x. on_ok (λ target. (x.0, target)) (arrow_of (Among s) here line x.1)) (guard_at line ts) (guard-read line ts h)
      (λ x k. holds-on_ok (λ _. Unit {0}) IsEnd (λ target. (x.0, target)) (arrow_of (Among s) here line x.1) (anything (arrow_of (Among s) here line x.1)) (λ o _. k.0))

  on-read : (ts : List Token) → AreWords line ts → Holds IsForm (on_of (Among s) here line ts)
  on-read ts h =
      holds-then (λ (x : Pattern × List Token). IsReadablePattern count x.0 × AreWords line x.1) IsForm
      (λ x. on_ok (λ y. form.On (record { pattern = x.0; guard = y.0; target = y.1 })) (behind_pattern (Among s) here line x.1)) (pattern_of (Among s) line ts) (pattern-read s line ts h)
      (λ x k. holds-on_ok IsEnd IsForm (λ y. form.On (record { pattern = x.0; guard = y.0; target = y.1 })) (behind_pattern (Among s) here line x.1) (behind_pattern-read x.1 k.1) (λ y m. (k.0, m)))

  turns-read : (ts : List Token) → Holds IsForm (turns_of line ts)
  turns-read [] = tt
  turns-read (t ∷ ts) =
      holds-then (λ _. Unit {0}) IsForm (λ n. ends (form.Turns n) ts) (count_from t.kind (text line t)) (anything (count_from t.kind (text line t))) (λ n _. holds-ends IsForm (form.Turns n) ts tt)

  form-read : (word : Keyword) (ts : List Token) → AreWords line ts → Holds IsForm (form_of (Among s) here word line ts)
  unfolding form_of
  form-read keyword.Turns ts h = turns-read ts
  form-read keyword.Process ts h = holds-on_ok IsNameToken IsForm form.Process (whole_name line ts) (whole_name-read ts h) (λ n k. k)
  form-read keyword.QueueData ts h = holds-on_ok (λ _. Unit {0}) IsForm form.QueueData (queue_data_at line ts) (anything (queue_data_at line ts)) (λ q _. tt)
  form-read keyword.Label ts h = holds-on_ok IsNameToken IsForm form.Label (whole_name line ts) (whole_name-read ts h) (λ n k. k)
  form-read keyword.Receive ts h = holds-on_ok IsMarker IsForm form.Receive (marker_of line ts) (marker-read ts h) (λ u k. k)
  form-read keyword.On ts h = on-read ts h
  form-read keyword.After ts h =
      holds-on_ok (λ _. Unit {0}) IsForm (λ target. form.After (record { target = target })) (arrow_of (Among s) here line ts) (anything (arrow_of (Among s) here line ts)) (λ o _. tt)
  form-read keyword.End ts h = holds-ends IsForm form.End ts tt
  form-read (keyword.Do verb) ts h = holds-on_ok IsReadable IsForm form.Do (instr_of (Among s) here verb line ts) (instr-read verb ts h) (λ i k. k)

module _ (s : Program) (d : Draft) (line : List ℕ) where
  abbrev IsNext : Form → Type 0
  IsNext f = IsReadableForm d.version (length s.procs) f

  form_behind-read : (word : Option Keyword) (ts : List Token) → AreWords line ts → Holds IsNext (form_behind (Among s) d word line ts)
  form_behind-read None ts h = tt
  form_behind-read (Some word) ts h = holds-if IsNext (may_stand d word) _ _ (λ _. form-read d.version s (length d.procs) line word ts h) (λ _. tt)

  said_by-read : (ts : List Token) → AreWords line ts → Holds (λ o. IfSome o IsNext) (said_by (Among s) d line ts)
  unfolding said_by
  said_by-read [] h = tt
  said_by-read (w ∷ ts) h =
      holds-on_ok IsNext (λ o. IfSome o IsNext) Some (form_behind (Among s) d (keyword_of (text line w)) line ts) (form_behind-read (keyword_of (text line w)) ts h.1) (λ f k. k)

  -- what a line says behind what was read so far
  pub said-read : Holds (λ o. IfSome o IsNext) (said (Among s) d line)
  unfolding said
  said-read = holds-then (AreWords line) (λ o. IfSome o IsNext) (said_by (Among s) d line) (tokens_of d.version line) (tokens-words d.version line) (λ ts h. said_by-read ts h)
