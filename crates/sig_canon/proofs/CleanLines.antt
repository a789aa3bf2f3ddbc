-- No line of the canonical text has a line feed, so that the text is cut into its lines again.
use Rattle.std.proofs.Common.{◌≡◌, ℕ, ◌+◌, ◌<◌, Bool, true, false, cond, not, ◌==◌, List, [], ◌∷◌, ◌++◌, length, map, filter, refl, sym, ap, subst, ◌∙◌, append_assoc}
use Rattle.std.specs.Prelude.{All, IfSome, Option, Some, None, codes, filter_map, option_to_list}
use Rattle.std.specs.List.{list_all, flat_map}
use Rattle.std.proofs.lemmas.List.{length-map}
use Rattle.std.proofs.lemmas.List.Elements.{All-head, All-tail, All-map}
use Rattle.sig_kinds.specs.declared.queue_data.QueueData.{QueueData}
use Rattle.sig_kinds.specs.declared.queue_data.QueueData.TheVariants.{OnHeap, OffHeap}
use Rattle.sig_patterns.specs.declared.clause.Clause.{Clause}
use Rattle.sig_terms.proofs.Choices.{both_true}
use Rattle.sig_program.specs.declared.version.Version.{Version}
use Rattle.sig_program.specs.declared.version.Version.TheVariants.{One, Two}
use Rattle.sig_program.specs.declared.label.Label.{Label}
use Rattle.sig_program.specs.declared.instruction.After.{After}
use Rattle.sig_program.specs.declared.instruction.Instr.{Instr}
use Rattle.sig_program.specs.declared.instruction.Instr.TheVariants as instr
use Rattle.sig_tokens.specs.declared.known.Known.TheVariants.{Any}
use Rattle.sig_reader.specs.declared.keyword.Keyword.TheVariants as keyword
use Rattle.sig_reader.specs.declared.form.Form.TheVariants as form
use Rattle.sig_program.specs.Scripts.{Declared, Program, IsInstrWithin}
use Rattle.sig_tokens.specs.Lines.{lines_of, onto_first}
use Rattle.sig_canon.specs.ScriptText.{clause_line, after_lines, instr_lines, label_line, labels_there, data_lines, placed_lines, process_lines, names_of, procs_lines, turns_line, header_line, script_lines, line_text, script_text}
use Rattle.sig_canon.specs.ReadableScript.{IsReadableClause, IsReadableInstr, IsReadableProc, IsReadableScript}
use Rattle.sig_reader.proofs.Seen.{zeroed, instr_seen}
use Rattle.sig_tokens.specs.Tokens.{IsNameToken}
use Rattle.sig_canon.proofs.KnownNames.{Reads, any_reads}
use Rattle.sig_canon.proofs.WordTexts.{is_inline, when_false}
use Rattle.sig_canon.proofs.FormReads.{line_clean}
use Rattle.sig_canon.proofs.FormTexts.{turns_form, process_form, label_form, receive_form, clause_form, after_form, IsInstrLine, is_receive, instr_form}

-- each of the lines is without a line feed
abbrev pub AreClean : List (List ℕ) → Type 0
AreClean [] = Unit {0}
AreClean (line ∷ lines) = (list_all is_inline line ≡ true) × AreClean lines

clean_on : (a b : List (List ℕ)) → AreClean a → AreClean b → AreClean (a ++ b)
clean_on [] b p q = q
clean_on (line ∷ lines) b p q = (p.0, clean_on lines b p.1 q)

no_feed : (b : Bool) → not b ≡ true → b ≡ false
no_feed true h = absurd cc
no_feed false h = refl

line_again : (line rest : List ℕ) → list_all is_inline line ≡ true → lines_of ((line ++ 10 ∷ []) ++ rest) ≡ line ∷ lines_of rest
line_again [] rest clean = refl
line_again (b ∷ bs) rest clean =
    let each = both_true (is_inline b) (list_all is_inline bs) clean in
    when_false (b == 10) _ _ (no_feed (b == 10) each.0) ∙ ap (onto_first b) (line_again bs rest each.1)

pub lines_cut : (lines : List (List ℕ)) → AreClean lines → lines_of (flat_map line_text lines) ≡ lines
lines_cut [] clean = refl
lines_cut (line ∷ lines) clean = line_again line (flat_map line_text lines) clean.0 ∙ ap (λ (ls : List (List ℕ)). line ∷ ls) (lines_cut lines clean.1)

-- ---- targets

-- what holds of the values in the options of a list
first_within : (o : Option ℕ) (rest : List ℕ) (n : ℕ) → All (λ t. t < n) (option_to_list o ++ rest) → IfSome o (λ t. t < n)
first_within None rest n h = tt
first_within (Some t) rest n h = All-head (λ t. t < n) t rest h

others_within : (o : Option ℕ) (rest : List ℕ) (n : ℕ) → All (λ t. t < n) (option_to_list o ++ rest) → All (λ t. t < n) rest
others_within None rest n h = h
others_within (Some t) rest n h = All-tail (λ t. t < n) t rest h

targets_split : (o : Option ℕ) (c : Clause) (cs : List Clause) → c.target ≡ o → filter_map (λ (d : Clause). d.target) (c ∷ cs) ≡ option_to_list o ++ filter_map (λ (d : Clause). d.target) cs
targets_split None c cs e = rw e refl
targets_split (Some t) c cs e = rw e refl

-- the targets of clauses, and those behind them
pub clause_targets : (c : Clause) (cs : List Clause) (rest : List ℕ) (n : ℕ) → All (λ t. t < n) (filter_map (λ (d : Clause). d.target) (c ∷ cs) ++ rest) →
    IfSome c.target (λ t. t < n) × All (λ t. t < n) (filter_map (λ (d : Clause). d.target) cs ++ rest)
clause_targets c cs rest n h =
    let same : filter_map (λ (d : Clause). d.target) (c ∷ cs) ++ rest ≡ option_to_list c.target ++ (filter_map (λ (d : Clause). d.target) cs ++ rest) =
    ap (λ (ts : List ℕ). ts ++ rest) (targets_split c.target c cs refl) ∙ append_assoc (option_to_list c.target) (filter_map (λ (d : Clause). d.target) cs) rest in
    let split = subst (All (λ t. t < n)) same h in
    (first_within c.target _ n split, others_within c.target _ n split)

pub after_targets : (clauses : List Clause) (rest : List ℕ) (n : ℕ) → All (λ t. t < n) (filter_map (λ (c : Clause). c.target) clauses ++ rest) → All (λ t. t < n) rest
after_targets [] rest n h = h
after_targets (c ∷ cs) rest n h = after_targets cs rest n (clause_targets c cs rest n h).1

target_within : (o : Option ℕ) (a : After) (n : ℕ) → a.target ≡ o → All (λ t. t < n) (filter_map (λ (b : After). b.target) (a ∷ [])) → IfSome o (λ t. t < n)
target_within None a n e h = tt
target_within (Some t) a n e h =
    let same : filter_map (λ (b : After). b.target) (a ∷ []) ≡ t ∷ [] = rw e refl in
    All-head (λ t. t < n) t [] (subst (All (λ t. t < n)) same h)

pub after_target : (a : After) (n : ℕ) → All (λ t. t < n) (filter_map (λ (b : After). b.target) (a ∷ [])) → IfSome a.target (λ t. t < n)
after_target a n h = target_within a.target a n refl h

-- ---- the lines of an instruction

abbrev IsPlain : List (List ℕ) → List (List ℕ) → Type 0
IsPlain names labels = Reads Any 0 names labels zeroed zeroed

one_clean : (lines : List (List ℕ)) (line : List ℕ) → lines ≡ line ∷ [] → list_all is_inline line ≡ true → AreClean lines
one_clean lines line is clean = subst AreClean (sym is) (clean, tt)

-- the line of where messages are kept
data_clean : (v : Version) (queue_data : QueueData) → AreClean (data_lines v queue_data)
data_clean One queue_data = tt
data_clean Two OnHeap = tt
data_clean Two OffHeap = (refl, tt)

-- in a script of this version
module _ (v : Version) where
  instr_line_clean : (lines : List (List ℕ)) (i : Instr) → IsInstrLine v Any 0 lines i → AreClean lines
  instr_line_clean lines i l = one_clean lines l.line l.is (line_clean v Any 0 l.line (keyword.Do l.verb) (form.Do i) l.form)

  clauses_clean : (names labels : List (List ℕ)) → IsPlain names labels → (clauses : List Clause) (rest : List ℕ) → All (IsReadableClause v (length names)) clauses →
      All (λ t. t < length labels) (filter_map (λ (c : Clause). c.target) clauses ++ rest) → AreClean (map (clause_line names labels) clauses)
  clauses_clean names labels reads [] rest readable within = tt
  clauses_clean names labels reads (c ∷ cs) rest readable within =
      let targets = clause_targets c cs rest (length labels) within in
      let first = clause_form v Any 0 names labels zeroed zeroed reads c (All-head (IsReadableClause v (length names)) c cs readable) targets.0 in
      (line_clean v Any 0 _ keyword.On _ first, clauses_clean names labels reads cs rest (All-tail (IsReadableClause v (length names)) c cs readable) targets.1)

  after_clean : (names labels : List (List ℕ)) → IsPlain names labels → (after : Option After) → All (λ t. t < length labels) (filter_map (λ (a : After). a.target) (option_to_list after)) → AreClean (after_lines labels after)
  after_clean names labels reads None within = tt
  after_clean names labels reads (Some a) within =
      (line_clean v Any 0 _ keyword.After _ (after_form v Any 0 names labels zeroed zeroed reads a (after_target a (length labels) within)), tt)

  receive_clean : (names labels : List (List ℕ)) → IsPlain names labels → (i : Instr) → is_receive i ≡ true → IsReadableInstr v (length names) i → IsInstrWithin (length labels) i → AreClean (instr_lines names labels i)
  unfolding instr_lines
  receive_clean names labels reads (instr.Receive r) it readable lawful =
      let targets = lawful.1 in
      let after_ones : List ℕ = filter_map (λ (a : After). a.target) (option_to_list r.after) in (
        line_clean v Any 0 _ keyword.Receive _ (receive_form v Any 0 r.using readable.using),
        clean_on (map (clause_line names labels) r.clauses ++ after_lines labels r.after) (codes "end" ∷ [])
            (clean_on (map (clause_line names labels) r.clauses) (after_lines labels r.after) (clauses_clean names labels reads r.clauses after_ones readable.clauses targets)
            (after_clean names labels reads r.after (after_targets r.clauses after_ones (length labels) targets)))
            (refl, tt),
      )
  receive_clean names labels reads instr.Stop it readable lawful = absurd cc
  receive_clean names labels reads _ it readable lawful = absurd cc

  instr_clean : (names labels : List (List ℕ)) → IsPlain names labels → (i : Instr) → IsReadableInstr v (length names) i → IsInstrWithin (length labels) i → AreClean (instr_lines names labels i)
  instr_clean names labels reads i readable lawful =
      elim (is_receive i) as (λ it. is_receive i ≡ it → AreClean (instr_lines names labels i)) [
        | true ↦ λ it. receive_clean names labels reads i it readable lawful
        | false ↦ λ other. instr_line_clean (instr_lines names labels i) (instr_seen zeroed zeroed i) (instr_form v Any 0 names labels zeroed zeroed reads i other readable lawful)
      ] refl

  -- the lines of a process
  picked_clean : (there : Bool) (l : Label) (ls : List Label) → IsNameToken l.name → AreClean (map label_line ls) → AreClean (map label_line (cond there (l ∷ ls) ls))
  picked_clean true l ls named clean = (line_clean v Any 0 (label_line l) keyword.Label (form.Label l.name) (label_form v Any 0 l named), clean)
  picked_clean false l ls named clean = clean

  labels_clean : (labels : List Label) (place : ℕ) → All (λ (l : Label). IsNameToken l.name) labels → AreClean (labels_there labels place)
  labels_clean [] place named = tt
  labels_clean (l ∷ ls) place named =
      picked_clean (l.place == place) l (filter (λ (m : Label). m.place == place) ls) (All-head (λ (m : Label). IsNameToken m.name) l ls named) (labels_clean ls place (All-tail (λ (m : Label). IsNameToken m.name) l ls named))

  placed_clean : (names : List (List ℕ)) (labels : List Label) → IsPlain names (map (λ (l : Label). l.name) labels) → All (λ (l : Label). IsNameToken l.name) labels → (place : ℕ) (instrs : List Instr) →
      All (IsReadableInstr v (length names)) instrs → All (IsInstrWithin (length (map (λ (l : Label). l.name) labels))) instrs → AreClean (placed_lines names labels place instrs)
  unfolding placed_lines
  placed_clean names labels reads named place [] readable lawful = labels_clean labels place named
  placed_clean names labels reads named place (i ∷ is) readable lawful =
      let tags : List (List ℕ) = map (λ (l : Label). l.name) labels in
      clean_on (labels_there labels place ++ instr_lines names tags i) (placed_lines names labels (place + 1) is)
      (clean_on (labels_there labels place) (instr_lines names tags i) (labels_clean labels place named)
      (instr_clean names tags reads i (All-head (IsReadableInstr v (length names)) i is readable) (All-head (IsInstrWithin (length tags)) i is lawful)))
      (placed_clean names labels reads named (place + 1) is (All-tail (IsReadableInstr v (length names)) i is readable) (All-tail (IsInstrWithin (length tags)) i is lawful))

  process_clean : (names : List (List ℕ)) (p : Declared) → All IsNameToken names → IsReadableProc v (length names) p → AreClean (process_lines v names p)
  unfolding process_lines
  process_clean names p named readable =
      let tags : List (List ℕ) = map (λ (l : Label). l.name) p.labels in
      let reads = any_reads 0 names tags named (All-map IsNameToken (λ (l : Label). l.name) p.labels readable.labels) in
      let same : length p.labels ≡ length tags = sym (length-map p.labels (λ (l : Label). l.name)) in (
        line_clean v Any 0 _ keyword.Process _ (process_form v Any 0 p.name readable.name),
        clean_on (data_lines v p.queue_data) (placed_lines names p.labels 1 p.instrs) (data_clean v p.queue_data) (placed_clean names p.labels reads readable.labels 1 p.instrs readable.instrs (subst (λ n. All (IsInstrWithin n) p.instrs) same readable.within.lawful)),
      )

  procs_clean : (names : List (List ℕ)) (procs : List Declared) → All IsNameToken names → All (IsReadableProc v (length names)) procs → AreClean (flat_map (process_lines v names) procs)
  procs_clean names [] named readable = tt
  procs_clean names (p ∷ ps) named readable =
      clean_on (process_lines v names p) _ (process_clean names p named (All-head (IsReadableProc v (length names)) p ps readable)) (procs_clean names ps named (All-tail (IsReadableProc v (length names)) p ps readable))

-- ---- the lines of a script

-- the names of readable processes are name tokens
pub names_named : (v : Version) (n : ℕ) (procs : List Declared) → All (IsReadableProc v n) procs → All IsNameToken (names_of procs)
names_named v n procs readable = All-map IsNameToken (λ (p : Declared). p.name) procs (λ k d lt. (readable k d lt).name)

header_clean : (v : Version) → list_all is_inline (header_line v) ≡ true
header_clean One = refl
header_clean Two = refl

pub lines_again : (s : Program) → IsReadableScript s → lines_of (script_text s) ≡ script_lines s
unfolding script_text script_lines
lines_again s readable =
    let names : List (List ℕ) = names_of s.procs in
    let same : length s.procs ≡ length names = sym (length-map s.procs (λ (p : Declared). p.name)) in
    let procs : AreClean (procs_lines s.version s.procs) = procs_clean s.version names s.procs (names_named s.version (length s.procs) s.procs readable.procs) (subst (λ n. All (IsReadableProc s.version n) s.procs) same readable.procs) in
    let turns = line_clean s.version Any 0 (turns_line s.turns) keyword.Turns (form.Turns s.turns) (turns_form s.version Any 0 s.turns readable.sound.turns) in
    lines_cut (script_lines s) (header_clean s.version, (turns, procs))
