-- What a line says where the names are those of a script: each pid is that of a process, and each target a label of its own.
use Rattle.std.proofs.Common.{◌≡◌, ◌≢◌, ℕ, ℤ, zero, suc, ◌<◌, ◌^◌, List, [], ◌∷◌, ◌++◌, length, drop, position, ok_or, All, IfSome, Bool, true, false, if◌then◌else◌, Option, Some, None, Result, Ok, Err, refl, sym, subst, arith, codes}
use Rattle.std.specs.Str.{bytes_eq}
use Rattle.std.proofs.lemmas.List.Quantifiers.{position-Some}
use Rattle.std.proofs.lemmas.List.Elements.{All-nil, All-cons, All-push}
use Rattle.sig_kinds.specs.declared.alias_mode.AliasMode.{AliasMode}
use Rattle.sig_kinds.specs.declared.alias_mode.AliasMode.TheVariants as alias_mode
use Rattle.sig_kinds.specs.declared.queue_data.QueueData.TheVariants.{OffHeap}
use Rattle.sig_patterns.specs.declared.clause.Clause.{Clause}
use Rattle.sig_patterns.specs.declared.guard.Guard.{Guard}
use Rattle.sig_patterns.specs.declared.var.Var.{Var}
use Rattle.sig_patterns.specs.declared.expression.Expr.{Expr}
use Rattle.sig_patterns.specs.declared.pattern.Pattern.{Pattern}
use Rattle.sig_patterns.specs.declared.pattern.Pattern.TheVariants as pattern
use Rattle.sig_program.specs.declared.label.Label.{Label}
use Rattle.sig_program.specs.declared.instruction.Instr.{Instr}
use Rattle.sig_tokens.specs.declared.fault.FaultKind.TheVariants.{UnknownProcess, UnknownLabel}
use Rattle.sig_tokens.specs.declared.token.Sign as signs
use Rattle.sig_tokens.specs.declared.token.Sign.TheVariants.{CloseBrace, CloseBracket}
use Rattle.sig_tokens.specs.declared.token.TokenKind.{TokenKind}
use Rattle.sig_tokens.specs.declared.token.TokenKind.TheVariants.{Name, Variable, Integer, Quoted, Process, Sign}
use Rattle.sig_tokens.specs.declared.token.Token.{Token}
use Rattle.sig_tokens.specs.declared.known.Known.TheVariants.{Among}
use Rattle.sig_program.specs.declared.instruction.Verb.{Verb}
use Rattle.sig_reader.specs.declared.keyword.Keyword.{Keyword}
use Rattle.sig_reader.specs.declared.keyword.Keyword.TheVariants as keyword
use Rattle.sig_reader.specs.declared.draft.Draft.{Draft}
use Rattle.sig_reader.specs.declared.form.Form.{Form}
use Rattle.sig_reader.specs.declared.form.Form.TheVariants as form
use Rattle.sig_program.specs.Instructions.{Operand, an_expr, a_label, a_mode, AllSaid, operands_of, instr_by}
use Rattle.sig_program.specs.Parts.{said_exprs, said_labels, said_mode, exprs_in, targets_in, mode_by, clauses_in, using_in}
use Rattle.sig_program.specs.Scripts.{Declared, Program, AreMarked, IsInstrWithin, IsExprBelow, IsPatternBelow, IsInstrBelow, bare_process}
use Rattle.sig_tokens.specs.Faults.{◌>>=◌, on_ok}
use Rattle.sig_tokens.specs.Tokens.{text, unquoted, tokens_of}
use Rattle.sig_tokens.specs.Numbers.{int_of}
use Rattle.sig_tokens.specs.Names.{pid_of, labels_at, label_of, name_at, variable_at, target_at}
use Rattle.sig_tokens.specs.Signs.{is_open_brace, is_open_bracket, is_arrow, is_comma, is_caret, is_underscore, closes}
use Rattle.sig_tokens.specs.Phrases.{Read, Spelling, behind, elements, closed, is_before_tail, ending, bracketed, single, phrase_by, phrase_front, phrase_at, phrase_of}
use Rattle.sig_tokens.specs.Expressions.{expr_enclosing, expr_spelling, expr_of}
use Rattle.sig_tokens.specs.PatternTexts.{pattern_signed, pattern_enclosing, pattern_spelling, pattern_of}
use Rattle.sig_reader.specs.Forms.{word_at, mode_of, operand_at, all_said, keyword_of, may_stand, ends, arrow_of, count_from, turns_of, whole_name, queue_data_at, marker_of, behind_pattern, on_of, instr_of, form_of, form_behind, said_by, said}
use Rattle.sig_reader.specs.Guards.{guard_at}
use Rattle.sig_reader.proofs.TableLemmas.{spoken_again, instr_as}
use Rattle.sig_tokens.proofs.NestLemmas.{nested_pids}
use Rattle.sig_patterns.proofs.PidLemmas.{int_pids, atom_pids, var_pids, pid_pids, tuple_pids, list_pids, any_pattern_pids, bind_pattern_pids, pin_pattern_pids, int_pattern_pids, atom_pattern_pids, pid_pattern_pids, tuple_pattern_pids, list_pattern_pids}
use Rattle.sig_patterns.specs.declared.building.TheConstants.{MOST_NODES, MOST_DEPTH}

-- what holds of a result that isn't a refusal
abbrev pub Holds : {A E : Type 0} → (A → Type 0) → Result A E → Type 0
Holds P (Ok x) = P x
Holds P (Err e) = Unit {0}

pub anything : {A E : Type 0} (r : Result A E) → Holds (λ _. Unit {0}) r
anything (Ok x) = tt
anything (Err e) = tt

pub holds-of : {A E : Type 0} (P : A → Type 0) (r : Result A E) (x : A) → Holds P r → r ≡ Ok x → P x
holds-of P (Ok y) x h e = let same : y ≡ x = cc in subst P same h
holds-of P (Err f) x h e = cc

pub holds-if : {A E : Type 0} (P : A → Type 0) (v : Bool) (x y : Result A E) → (v ≡ true → Holds P x) → (v ≡ false → Holds P y) → Holds P (if v then x else y)
holds-if P true x y f g = f refl
holds-if P false x y f g = g refl

pub holds-on_ok : {A B E : Type 0} (P : A → Type 0) (Q : B → Type 0) (f : A → B) (r : Result A E) → Holds P r → ((x : A) → P x → Q (f x)) → Holds Q (on_ok f r)
holds-on_ok P Q f (Ok x) h k = k x h
holds-on_ok P Q f (Err e) h k = tt

pub holds-then : {A B E : Type 0} (P : A → Type 0) (Q : B → Type 0) (f : A → Result B E) (r : Result A E) → Holds P r → ((x : A) → P x → Holds Q (f x)) → Holds Q (r >>= f)
holds-then P Q f (Ok x) h k = k x h
holds-then P Q f (Err e) h k = tt

-- the same of what was read, whatever is left behind it
abbrev pub Reads : {A : Type 0} → (A → Type 0) → Read A → Type 0
Reads {A} P r = Holds (λ (x : A × ℕ × List Token). P x.0) r

closed-reads : {A : Type 0} (P : A → Type 0) (ends : TokenKind → Bool) (item : A) (nodes : ℕ) (ts : List Token) → P item → Reads P (closed ends item nodes ts)
closed-reads P ends item nodes [] h = tt
closed-reads {A} P ends item nodes (t ∷ ts) h = holds-if (λ (x : A × ℕ × List Token). P x.0) (ends t.kind) _ _ (λ _. h) (λ _. tt)

-- from here on P holds of each element that is read, and Q of what the elements become
module _ {A B : Type 0} (P : A → Type 0) (Q : B → Type 0) (read : ℕ → List Token → Read A) (finish : List A → ℕ → List Token → Read B)
    (reads : (nodes : ℕ) (ts : List Token) → Reads P (read nodes ts))
    (finishes : (items : List A) (nodes : ℕ) (ts : List Token) → All P items → Reads Q (finish items nodes ts)) where
  behind-reads : (more : ℕ → List A → List Token → Read B) → ((nodes : ℕ) (items : List A) (ts : List Token) → All P items → Reads Q (more nodes items ts)) →
      (nodes : ℕ) (items : List A) (ts : List Token) → All P items → Reads Q (behind more finish nodes items ts)
  behind-reads more mores nodes items [] h = tt
  behind-reads more mores nodes items (t ∷ ts) h =
      holds-if (λ (x : B × ℕ × List Token). Q x.0) (is_comma t.kind) _ _ (λ _. mores nodes items ts h) (λ _. finishes items nodes (t ∷ ts) h)

  elements-read : (room nodes : ℕ) (items : List A) (ts : List Token) → All P items → Reads Q (elements read finish room nodes items ts)
  unfolding elements
  elements-read zero nodes items ts h = tt
  elements-read (suc room) nodes items ts h =
      holds-then (λ (x : A × ℕ × List Token). P x.0) (λ (x : B × ℕ × List Token). Q x.0)
      (λ x. behind (elements read finish room) finish x.1 (items ++ x.0 ∷ []) x.2) (read nodes ts) (reads nodes ts)
      (λ x p. behind-reads (elements read finish room) (elements-read room) x.1 (items ++ x.0 ∷ []) x.2 (All-push P items x.0 h p))

-- a place that was found
pub found : {E : Type 0} (e : E) (m : ℕ) (o : Option ℕ) → ((i : ℕ) → o ≡ Some i → i < m) → Holds (λ n. n < m) (ok_or o e)
found e m None h = tt
found e m (Some i) h = h i refl

-- the pids of a script's processes
pub pid-below : (s : Program) (name : List ℕ) → Holds (λ n. n < length s.procs) (pid_of (Among s) name)
pid-below s name =
    found UnknownProcess (length s.procs) (position (λ (p : Declared). bytes_eq p.name name) s.procs)
    (λ i e. (position-Some (λ (p : Declared). bytes_eq p.name name) s.procs i (bare_process OffHeap []) e).0)

abbrev IsProcess : Program → ℕ → Type 0
IsProcess s pid = pid < length s.procs

-- What holds of the phrases of one kind where it holds of their parts; of a process where it is one of so many.
record Keeps {A : Type 0} (count : ℕ) (P : A → Type 0) (s : Spelling A) : Type 0 where
  int : (n : ℤ) → P (s.int n)
  atom : (a : List ℕ) → P (s.atom a)
  var : (v : Var) → P (s.var v)
  pid : (n : ℕ) → n < count → P (s.pid (record { 0 = n }))
  signed : (line : List ℕ) (kind : TokenKind) (ts : List Token) → Holds (λ (x : A × List Token). P x.0) (s.signed line kind ts)
  enclosing : (close : signs.Sign) (items : List A) → All P items → P (s.enclosing close items)
  nested : (items : List A) (tail : A) → All P items → P tail → P (s.nested items tail)

-- from here on the names are those of a script, and such a P holds of each element that is read
module _ {A : Type 0} (P : A → Type 0) (s : Spelling A) (script : Program) (line : List ℕ) (keeps : Keeps (length script.procs) P s) where
  single-below : (kind : TokenKind) (word : List ℕ) (ts : List Token) → Holds (λ (x : A × List Token). P x.0) (single s (Among script) line kind word ts)
  single-below Name word ts = keeps.atom word
  single-below Quoted word ts = keeps.atom (unquoted word)
  single-below Integer word ts = keeps.int (int_of word)
  single-below Variable word ts = keeps.var (record { 0 = word })
  single-below Process word ts =
      holds-on_ok (λ n. n < length script.procs) (λ (x : A × List Token). P x.0) (λ n. (s.pid (record { 0 = n }), ts)) (pid_of (Among script) (drop 1 word)) (pid-below script (drop 1 word))
      (λ n h. keeps.pid n h)
  single-below (Sign g) word ts = keeps.signed line (Sign g) ts

  module _ (read : ℕ → List Token → Read A) (reads : (nodes : ℕ) (ts : List Token) → Reads P (read nodes ts)) where
    ending-below : (close : signs.Sign) (items : List A) (nodes : ℕ) (ts : List Token) → All P items → Reads P (ending s close read items nodes ts)
    ending-below close items nodes [] h = tt
    ending-below close items nodes (t ∷ ts) h =
        let Below : A × ℕ × List Token → Type 0 = λ x. P x.0 in
        holds-if Below (is_before_tail s close t.kind) _ _
        (λ _. holds-then Below Below (λ x. closed (closes close) (s.nested items x.0) x.1 x.2) (read nodes ts) (reads nodes ts)
        (λ x k. closed-reads P (closes close) (s.nested items x.0) x.1 x.2 (keeps.nested items x.0 h k)))
        (λ _. closed-reads P (closes close) (s.enclosing close items) nodes (t ∷ ts) (keeps.enclosing close items h))

    bracketed-below : (close : signs.Sign) (nodes : ℕ) (ts : List Token) → Reads P (bracketed s close read nodes ts)
    unfolding bracketed
    bracketed-below close nodes [] = tt
    bracketed-below close nodes (t ∷ ts) =
        holds-if (λ (x : A × ℕ × List Token). P x.0) (closes close t.kind) _ _ (λ _. keeps.enclosing close [] (All-nil P))
        (λ _. elements-read P P read (ending s close read) reads (ending-below close) (length (t ∷ ts)) nodes [] (t ∷ ts) (All-nil P))

    phrase_by-below : (kind : TokenKind) (word : List ℕ) (nodes : ℕ) (ts : List Token) → Reads P (phrase_by s (Among script) line read kind word nodes ts)
    phrase_by-below kind word nodes ts =
        let Below : A × ℕ × List Token → Type 0 = λ x. P x.0 in
        holds-if Below (is_open_brace kind) _ _ (λ _. bracketed-below CloseBrace nodes ts)
        (λ _. holds-if Below (is_open_bracket kind) _ _ (λ _. bracketed-below CloseBracket nodes ts)
        (λ _. holds-on_ok (λ (x : A × List Token). P x.0) Below (λ x. (x.0, nodes, x.1)) (single s (Among script) line kind word ts) (single-below kind word ts) (λ x h. h)))

    phrase_front-below : (nodes : ℕ) (ts : List Token) → Reads P (phrase_front s (Among script) line read nodes ts)
    unfolding phrase_front
    phrase_front-below zero ts = tt
    phrase_front-below (suc nodes) [] = tt
    phrase_front-below (suc nodes) (t ∷ ts) = phrase_by-below t.kind (text line t) nodes ts

  phrase_at-below : (depth nodes : ℕ) (ts : List Token) → Reads P (phrase_at s (Among script) line depth nodes ts)
  unfolding phrase_at
  phrase_at-below zero nodes ts = tt
  phrase_at-below (suc depth) nodes ts = phrase_front-below (phrase_at s (Among script) line depth) (phrase_at-below depth) nodes ts

  phrase_of-below : (ts : List Token) → Holds (λ (x : A × List Token). P x.0) (phrase_of s (Among script) line ts)
  phrase_of-below ts =
      holds-on_ok (λ (x : A × ℕ × List Token). P x.0) (λ (x : A × List Token). P x.0)
      (λ x. (x.0, x.2)) (phrase_at s (Among script) line MOST_DEPTH MOST_NODES ts) (phrase_at-below MOST_DEPTH MOST_NODES ts) (λ x h. h)

-- each pid of an expression is that of a process
expr_enclosing-below : (script : Program) (close : signs.Sign) (items : List Expr) → All (IsExprBelow (length script.procs)) items → IsExprBelow (length script.procs) (expr_enclosing close items)
expr_enclosing-below script CloseBrace items h = tuple_pids (IsProcess script) items h
expr_enclosing-below script _ items h = list_pids (IsProcess script) items h

exprs-keep : (script : Program) → Keeps (length script.procs) (IsExprBelow (length script.procs)) expr_spelling
exprs-keep script = record {
  int = int_pids (IsProcess script);
  atom = atom_pids (IsProcess script);
  var = var_pids (IsProcess script);
  pid = λ n h. pid_pids (IsProcess script) n h;
  signed = λ line kind ts. tt;
  enclosing = expr_enclosing-below script;
  nested = λ items tail h k. list_pids (IsProcess script) items h;
}

pub expr_of-below : (script : Program) (line : List ℕ) (ts : List Token) → Holds (λ (x : Expr × List Token). IsExprBelow (length script.procs) x.0) (expr_of (Among script) line ts)
expr_of-below script line ts = phrase_of-below (IsExprBelow (length script.procs)) expr_spelling script line (exprs-keep script) ts

-- each pid of a pattern is that of a process
pattern_signed-below : (script : Program) (line : List ℕ) (kind : TokenKind) (ts : List Token) → Holds (λ (x : Pattern × List Token). IsPatternBelow (length script.procs) x.0) (pattern_signed line kind ts)
pattern_signed-below script line kind ts =
    let Below : Pattern × List Token → Type 0 = λ x. IsPatternBelow (length script.procs) x.0 in
    holds-if Below (is_caret kind) _ _
    (λ _. holds-on_ok (λ (x : List ℕ × List Token). Unit {0}) Below (λ x. (pattern.Pin (record { 0 = x.0 }), x.1)) (variable_at line ts) (anything (variable_at line ts))
    (λ x _. pin_pattern_pids (IsProcess script) (record { 0 = x.0 })))
    (λ _. holds-if Below (is_underscore kind) _ _ (λ _. any_pattern_pids (IsProcess script)) (λ _. tt))

pattern_enclosing-below : (script : Program) (close : signs.Sign) (items : List Pattern) → All (IsPatternBelow (length script.procs)) items → IsPatternBelow (length script.procs) (pattern_enclosing close items)
pattern_enclosing-below script CloseBrace items h = tuple_pattern_pids (IsProcess script) items h
pattern_enclosing-below script _ items h = list_pattern_pids (IsProcess script) items h

patterns-keep : (script : Program) → Keeps (length script.procs) (IsPatternBelow (length script.procs)) pattern_spelling
patterns-keep script = record {
  int = int_pattern_pids (IsProcess script);
  atom = atom_pattern_pids (IsProcess script);
  var = bind_pattern_pids (IsProcess script);
  pid = λ n h. pid_pattern_pids (IsProcess script) n h;
  signed = pattern_signed-below script;
  enclosing = pattern_enclosing-below script;
  nested = nested_pids (IsProcess script);
}

pub pattern_of-below : (script : Program) (line : List ℕ) (ts : List Token) → Holds (λ (x : Pattern × List Token). IsPatternBelow (length script.procs) x.0) (pattern_of (Among script) line ts)
pattern_of-below script line ts = phrase_of-below (IsPatternBelow (length script.procs)) pattern_spelling script line (patterns-keep script) ts

-- nothing behind what was said
pub holds-ends : {A : Type 0} (P : A → Type 0) (x : A) (ts : List Token) → P x → Holds P (ends x ts)
holds-ends P x [] h = h
holds-ends P x (t ∷ ts) h = tt

-- the labels of a script's processes
label-below : (s : Program) (here : ℕ) (name : List ℕ) → Holds (λ n. n < length (labels_at here s.procs)) (label_of (Among s) here name)
label-below s here name =
    found UnknownLabel (length (labels_at here s.procs)) (position (λ (l : Label). bytes_eq l.name name) (labels_at here s.procs))
    (λ i e. (position-Some (λ (l : Label). bytes_eq l.name name) (labels_at here s.procs) i (record { name = []; place = 0 }) e).0)

-- a target is one of so many labels
abbrev pub IsTarget : ℕ → Option ℕ → Type 0
IsTarget labels target = IfSome target (λ t. t < labels)

-- the mode of a monitor's alias
abbrev pub IsMonitorMode : Option AliasMode → Type 0
IsMonitorMode mode = mode ≢ Some alias_mode.Reply

pub no-mode : IsMonitorMode None
no-mode e = cc

mode_of-meant : (word : List ℕ) → Holds IsMonitorMode (mode_of word)
mode_of-meant word =
    holds-if IsMonitorMode (bytes_eq word (codes "explicit_unalias")) _ _ (λ _ e. cc)
    (λ _. holds-if IsMonitorMode (bytes_eq word (codes "demonitor")) _ _ (λ _ e. cc)
    (λ _. holds-if IsMonitorMode (bytes_eq word (codes "reply_demonitor")) _ _ (λ _ e. cc) (λ _. tt)))

mode-meant : (line : List ℕ) (ts : List Token) → Holds (λ (x : Option AliasMode × List Token). IsMonitorMode x.0) (word_at None mode_of line ts)
mode-meant line [] = λ e. cc
mode-meant line (t ∷ ts) =
    holds-then (λ _. Unit {0}) (λ (x : Option AliasMode × List Token). IsMonitorMode x.0) (λ x. on_ok (λ a. (a, x.1)) (mode_of x.0)) (name_at line (t ∷ ts)) (anything (name_at line (t ∷ ts)))
    (λ x _. holds-on_ok IsMonitorMode (λ (y : Option AliasMode × List Token). IsMonitorMode y.0) (λ a. (a, x.1)) (mode_of x.0) (mode_of-meant x.0) (λ a h. h))

-- the targets of a form are labels, and its pids those of processes
abbrev pub IsMeantForm : ℕ → ℕ → Form → Type 0
IsMeantForm count labels (form.Do i) = IsInstrWithin labels i × IsInstrBelow count i
IsMeantForm count labels (form.On c) = IsPatternBelow count c.pattern × IsTarget labels c.target
IsMeantForm count labels (form.After after) = IsTarget labels after.target
IsMeantForm count labels _ = Unit {0}

module _ (s : Program) (here : ℕ) (line : List ℕ) where
  target-below : (ts : List Token) → Holds (λ (x : ℕ × List Token). x.0 < length (labels_at here s.procs)) (target_at (Among s) here line ts)
  target-below ts =
      holds-then (λ _. Unit {0}) (λ (x : ℕ × List Token). x.0 < length (labels_at here s.procs)) (λ x. on_ok (λ n. (n, x.1)) (label_of (Among s) here x.0)) (name_at line ts) (anything (name_at line ts))
      (λ x _. holds-on_ok (λ n. n < length (labels_at here s.procs)) (λ (x : ℕ × List Token). x.0 < length (labels_at here s.procs)) (λ n. (n, x.1)) (label_of (Among s) here x.0) (label-below s here x.0) (λ n h. h))

  arrow-below : (ts : List Token) → Holds (IsTarget (length (labels_at here s.procs))) (arrow_of (Among s) here line ts)
  arrow-below [] = tt
  arrow-below (t ∷ ts) =
      holds-if (IsTarget (length (labels_at here s.procs))) (is_arrow t.kind) _ _
      (λ _. holds-then (λ (x : ℕ × List Token). x.0 < length (labels_at here s.procs)) (IsTarget (length (labels_at here s.procs))) (λ x. ends (Some x.0) x.1) (target_at (Among s) here line ts) (target-below ts)
      (λ x h. holds-ends (IsTarget (length (labels_at here s.procs))) (Some x.0) x.1 h))
      (λ _. tt)

  abbrev IsLabel : ℕ → Type 0
  IsLabel target = target < length (labels_at here s.procs)

  abbrev IsBelow : Expr × List Token → Type 0
  IsBelow x = IsExprBelow (length s.procs) x.0

  abbrev AreMeant : (os : List Operand) → AllSaid os → Type 0
  AreMeant os x = All (IsExprBelow (length s.procs)) (said_exprs os x) × All IsLabel (said_labels os x) × IsMonitorMode (said_mode os x)

  operands-meant : (os : List Operand) (ts : List Token) → Holds (AreMeant os) (all_said (Among s) here line os ts)
  operands-meant [] ts = holds-ends (AreMeant []) tt ts (All-nil (IsExprBelow (length s.procs)), All-nil IsLabel, no-mode)
  operands-meant (an_expr ∷ os) ts =
      holds-then IsBelow (AreMeant (an_expr ∷ os)) (λ x. on_ok (λ xs. (x.0, xs)) (all_said (Among s) here line os x.1)) (expr_of (Among s) line ts) (expr_of-below s line ts)
      (λ x h. holds-on_ok (AreMeant os) (AreMeant (an_expr ∷ os)) (λ xs. (x.0, xs)) (all_said (Among s) here line os x.1) (operands-meant os x.1)
      (λ xs k. (All-cons (IsExprBelow (length s.procs)) x.0 (said_exprs os xs) h k.0, k.1, k.2)))
  operands-meant (a_label ∷ os) ts =
      holds-then (λ (x : ℕ × List Token). IsLabel x.0) (AreMeant (a_label ∷ os)) (λ x. on_ok (λ xs. (x.0, xs)) (all_said (Among s) here line os x.1)) (target_at (Among s) here line ts) (target-below ts)
      (λ x h. holds-on_ok (AreMeant os) (AreMeant (a_label ∷ os)) (λ xs. (x.0, xs)) (all_said (Among s) here line os x.1) (operands-meant os x.1)
      (λ xs k. (k.0, All-cons IsLabel x.0 (said_labels os xs) h k.1, k.2)))
  operands-meant (a_mode ∷ os) ts =
      holds-then (λ (x : Option AliasMode × List Token). IsMonitorMode x.0) (AreMeant (a_mode ∷ os)) (λ x. on_ok (λ xs. (x.0, xs)) (all_said (Among s) here line os x.1)) (word_at None mode_of line ts) (mode-meant line ts)
      (λ x h. holds-on_ok (AreMeant os) (AreMeant (a_mode ∷ os)) (λ xs. (x.0, xs)) (all_said (Among s) here line os x.1) (operands-meant os x.1)
      (λ xs k. (k.0, k.1, h)))
  operands-meant (o ∷ os) ts =
      holds-then (λ _. Unit {0}) (AreMeant (o ∷ os)) (λ x. on_ok (λ xs. (x.0, xs)) (all_said (Among s) here line os x.1)) (operand_at (Among s) here line o ts) (anything (operand_at (Among s) here line o ts))
      (λ x _. holds-on_ok (AreMeant os) (AreMeant (o ∷ os)) (λ xs. (x.0, xs)) (all_said (Among s) here line os x.1) (operands-meant os x.1) (λ xs k. k))

  abbrev IsMeantInstr : Instr → Type 0
  IsMeantInstr i = IsInstrWithin (length (labels_at here s.procs)) i × IsInstrBelow (length s.procs) i

  no-clauses : length {A = Clause} [] < 2 ^ 32
  no-clauses = omega arith

  -- An instruction has the expressions, the labels and the mode of its operands, and no marker and no clauses.
  made-meant : (v : Verb) (x : AllSaid (operands_of v)) → AreMeant (operands_of v) x → IsMeantInstr (instr_by v x)
  made-meant v x h =
      subst (λ t. ((length (clauses_in t) < 2 ^ 32) × All IsLabel (targets_in t) × IsMonitorMode (mode_by t) × AreMarked (using_in t) (clauses_in t))
      × (All (IsExprBelow (length s.procs)) (exprs_in t) × All (λ (c : Clause). IsPatternBelow (length s.procs) c.pattern) (clauses_in t))) (sym (spoken_again v x))
      ((no-clauses, h.1, h.2, tt), (h.0, All-nil (λ (c : Clause). IsPatternBelow (length s.procs) c.pattern)))

  instr-meant : (v : Verb) (ts : List Token) → Holds IsMeantInstr (instr_of (Among s) here v line ts)
  instr-meant v ts =
      subst (Holds IsMeantInstr) (sym (instr_as (Among s) here v line ts))
      (holds-on_ok (AreMeant (operands_of v)) IsMeantInstr (instr_by v) (all_said (Among s) here line (operands_of v) ts) (operands-meant (operands_of v) ts) (λ x h. made-meant v x h))

  abbrev IsMeantHere : Form → Type 0
  IsMeantHere f = IsMeantForm (length s.procs) (length (labels_at here s.procs)) f

  abbrev IsEndMeant : Option Guard × Option ℕ → Type 0
  IsEndMeant y = IsTarget (length (labels_at here s.procs)) y.1

  behind_pattern-meant : (ts : List Token) → Holds IsEndMeant (behind_pattern (Among s) here line ts)
  behind_pattern-meant ts =
      holds-then (λ _. Unit {0}) IsEndMeant (λ x. on_ok (λ target. (x.0, target)) (arrow_of (Among s) here line x.1)) (guard_at line ts) (anything (guard_at line ts))
      (λ x _. holds-on_ok (IsTarget (length (labels_at here s.procs))) IsEndMeant (λ target. (x.0, target)) (arrow_of (Among s) here line x.1) (arrow-below x.1) (λ o k. k))

  on-meant : (ts : List Token) → Holds IsMeantHere (on_of (Among s) here line ts)
  on-meant ts =
      holds-then (λ (x : Pattern × List Token). IsPatternBelow (length s.procs) x.0) IsMeantHere
      (λ x. on_ok (λ y. form.On (record { pattern = x.0; guard = y.0; target = y.1 })) (behind_pattern (Among s) here line x.1)) (pattern_of (Among s) line ts) (pattern_of-below s line ts)
      (λ x h. holds-on_ok IsEndMeant IsMeantHere (λ y. form.On (record { pattern = x.0; guard = y.0; target = y.1 })) (behind_pattern (Among s) here line x.1)
      (behind_pattern-meant x.1) (λ y k. (h, k)))

  turns-meant : (ts : List Token) → Holds IsMeantHere (turns_of line ts)
  turns-meant [] = tt
  turns-meant (t ∷ ts) =
      holds-then (λ _. Unit {0}) IsMeantHere (λ n. ends (form.Turns n) ts) (count_from t.kind (text line t)) (anything (count_from t.kind (text line t)))
      (λ n _. holds-ends IsMeantHere (form.Turns n) ts tt)

  form-meant : (word : Keyword) (ts : List Token) → Holds IsMeantHere (form_of (Among s) here word line ts)
  unfolding form_of
  form-meant keyword.Turns ts = turns-meant ts
  form-meant keyword.Process ts = holds-on_ok (λ _. Unit {0}) IsMeantHere form.Process (whole_name line ts) (anything (whole_name line ts)) (λ n _. tt)
  form-meant keyword.QueueData ts = holds-on_ok (λ _. Unit {0}) IsMeantHere form.QueueData (queue_data_at line ts) (anything (queue_data_at line ts)) (λ q _. tt)
  form-meant keyword.Label ts = holds-on_ok (λ _. Unit {0}) IsMeantHere form.Label (whole_name line ts) (anything (whole_name line ts)) (λ n _. tt)
  form-meant keyword.Receive ts = holds-on_ok (λ _. Unit {0}) IsMeantHere form.Receive (marker_of line ts) (anything (marker_of line ts)) (λ u _. tt)
  form-meant keyword.On ts = on-meant ts
  form-meant keyword.After ts =
      holds-on_ok (IsTarget (length (labels_at here s.procs))) IsMeantHere (λ target. form.After (record { target = target })) (arrow_of (Among s) here line ts) (arrow-below ts) (λ o h. h)
  form-meant keyword.End ts = holds-ends IsMeantHere form.End ts tt
  form-meant (keyword.Do v) ts = holds-on_ok IsMeantInstr IsMeantHere form.Do (instr_of (Among s) here v line ts) (instr-meant v ts) (λ i h. h)

module _ (s : Program) (d : Draft) (line : List ℕ) where
  abbrev pub IsMeantNext : Form → Type 0
  IsMeantNext f = IsMeantForm (length s.procs) (length (labels_at (length d.procs) s.procs)) f

  form_behind-meant : (word : Option Keyword) (ts : List Token) → Holds IsMeantNext (form_behind (Among s) d word line ts)
  form_behind-meant None ts = tt
  form_behind-meant (Some word) ts = holds-if IsMeantNext (may_stand d word) _ _ (λ _. form-meant s (length d.procs) line word ts) (λ _. tt)

  said_by-meant : (ts : List Token) → Holds (λ o. IfSome o IsMeantNext) (said_by (Among s) d line ts)
  unfolding said_by
  said_by-meant [] = tt
  said_by-meant (w ∷ ts) =
      holds-on_ok IsMeantNext (λ o. IfSome o IsMeantNext) Some (form_behind (Among s) d (keyword_of (text line w)) line ts) (form_behind-meant (keyword_of (text line w)) ts) (λ f h. h)

  -- what a line says behind what was read so far
  pub said-meant : Holds (λ o. IfSome o IsMeantNext) (said (Among s) d line)
  unfolding said
  said-meant = holds-then (λ _. Unit {0}) (λ o. IfSome o IsMeantNext) (said_by (Among s) d line) (tokens_of d.version line) (anything (tokens_of d.version line)) (λ ts _. said_by-meant ts)
