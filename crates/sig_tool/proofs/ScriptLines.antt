-- No line of a script is the first of a record, so a script is cut from the record behind it.
use Rattle.std.proofs.Common.{◌≡◌, ◌≢◌, ℕ, suc, ◌+◌, ◌≤◌, Bool, true, false, cond, List, [], ◌∷◌, ◌++◌, length, take, drop, Option, Some, None, Result, Ok, Err, refl, sym, ap, ◌∙◌, subst, arith}
use Rattle.std.specs.Prelude.{codes, ◌==◌, nat_le}
use Rattle.std.specs.Str.{bytes_eq}
use Rattle.std.specs.List.{flat_map}
use Rattle.std.proofs.lemmas.List.{drop_at, take_at}
use Rattle.std.proofs.lemmas.Slice.Eq.{bytes_eq-Decides}
use Rattle.sig_tokens.specs.declared.fault.FaultKind.{FaultKind}
use Rattle.sig_tokens.specs.declared.fault.FaultKind.TheVariants.{Syntax, TooLong}
use Rattle.sig_tokens.specs.declared.known.Known.{Known}
use Rattle.sig_tokens.specs.declared.known.Known.TheVariants.{Any, Among}
use Rattle.sig_tokens.specs.declared.token.Token.{Token}
use Rattle.sig_tokens.specs.declared.token.TokenKind.TheVariants as kind
use Rattle.sig_tokens.specs.Faults.{Fault, ◌>>=◌}
use Rattle.sig_tokens.specs.Lines.{lines_of, onto_first}
use Rattle.sig_tokens.specs.Numbers.{number_after}
use Rattle.sig_tokens.specs.Tokens.{cut_of, tokens_of}
use Rattle.sig_program.specs.Scripts.{Program}
use Rattle.sig_program.specs.declared.version.Version.{Version}
use Rattle.sig_program.specs.declared.version.Version.TheVariants.{One, Two}
use Rattle.sig_reader.specs.declared.draft.Draft.{Draft}
use Rattle.sig_reader.specs.declared.reader.TheConstants.{MOST_BYTES}
use Rattle.sig_reader.specs.Drafts.{blank}
use Rattle.sig_reader.specs.Forms.{said, said_by}
use Rattle.sig_reader.specs.Grammar.{body, header_of, line_taken, located, script_behind, script_of, script_of_lines, taken_if, walk}
use Rattle.sig_record.specs.declared.report.Report.{Report}
use Rattle.sig_record.specs.RecordText.{record_text, report_text}
use Rattle.sig_record.specs.ReadableRecord.{IsReadableRecord}
use Rattle.sig_record.specs.RunRecord.{IsOfSettledRun}
use Rattle.sig_tool.specs.declared.given.TheConstants.{MOST_INPUT}
use Rattle.sig_tool.specs.declared.status.ToolStatus.TheVariants.{Done}
use Rattle.sig_tool.specs.declared.command.Command.{Command}
use Rattle.sig_tool.specs.declared.command.Command.TheVariants.{Check, Replay, Links, Before, Expand}
use Rattle.sig_tool.specs.Answers.{IsDue, IsRecordDue}
use Rattle.sig_tool.specs.Commands.{HasEvents}
use Rattle.sig_tool.specs.Split.{script_length, script_part, record_part}
use Rattle.sig_tool.proofs.SplitLemmas.{counted, counted_at, counted_on}

abbrev head : List ℕ
head = codes "sigrecord 1"

-- ---- the line is none of a script

abbrev its_tokens : List Token
its_tokens = record { kind = kind.Name; start = 0; end = 9 } ∷ record { kind = kind.Integer; start = 10; end = 11 } ∷ []

cut_head : (v : Version) → tokens_of v head ≡ Ok its_tokens
unfolding cut_of number_after
cut_head One = refl
cut_head Two = refl

said_head : (known : Known) (d : Draft) → said_by known d head its_tokens ≡ Err Syntax
unfolding said_by
said_head known d = refl

no_line : (known : Known) (d : Draft) → line_taken known d head ≡ Err Syntax
unfolding said
no_line known d =
    ap (λ (ts : Result (List Token) FaultKind). (ts >>= said_by known d head) >>= taken_if d) (cut_head d.version)
    ∙ ap (λ (f : Result _ FaultKind). f >>= taken_if d) (said_head known d)

no_header : header_of (tokens_of One head) head ≡ None
no_header = ap (λ (ts : Result (List Token) FaultKind). header_of ts head) (cut_head One)

-- no line is the first of a record
abbrev AreOthers : List (List ℕ) → Type 0
AreOthers [] = Unit {0}
AreOthers (line ∷ lines) = (bytes_eq line head ≡ false) × AreOthers lines

by_head : {C : Type 0} (line : List ℕ) → (line ≡ head → C) → (bytes_eq line head ≡ false → C) → C
by_head {C} line f g = elim (bytes_eq line head) as (λ v. bytes_eq line head ≡ v → C) [
  | true ↦ λ h. f ((bytes_eq-Decides line head).0 h)
  | false ↦ λ h. g h
] refl

taken_so : (known : Known) (n : ℕ) (d : Draft) (line : List ℕ) (lines : List (List ℕ)) (script : Program) (taken : Result Draft FaultKind) →
    (located n taken >>= λ e. body known (n + 1) e lines) ≡ Ok script → (e : Draft) × (taken ≡ Ok e) × (body known (n + 1) e lines ≡ Ok script)
taken_so known n d line lines script (Ok e) h = (e, refl, h)
taken_so known n d line lines script (Err k) h = cc

others : (known : Known) (n : ℕ) (d : Draft) (lines : List (List ℕ)) (script : Program) → body known n d lines ≡ Ok script → AreOthers lines
unfolding body
others known n d [] script h = tt
others known n d (line ∷ lines) script h =
    let so = taken_so known n d line lines script (line_taken known d line) h in
    by_head line
    (λ is. let bad : ◌≡◌ {A = Result Draft FaultKind} (Err Syntax) (Ok so.0) = sym (ap (line_taken known d) is ∙ no_line known d) ∙ so.1 in absurd (cc))
    (λ other. (other, others known (n + 1) so.0 lines script so.2))

walked : (v : Version) (lines : List (List ℕ)) (script : Program) (first : Result Program Fault) →
    (first >>= λ s. walk v (Among s) lines) ≡ Ok script → (s : Program) × (first ≡ Ok s)
walked v lines script (Ok s) h = (s, refl)
walked v lines script (Err f) h = cc

behind : (v : Option Version) (lines : List (List ℕ)) (script : Program) → script_behind v lines ≡ Ok script → AreOthers lines
behind None lines script h = cc
behind (Some v) lines script h =
    let one = walked v lines script (walk v Any lines) h in
    others Any 2 (blank v) lines one.0 one.1

all_others : (lines : List (List ℕ)) (script : Program) → script_of_lines lines ≡ Ok script → AreOthers lines
unfolding script_of_lines
all_others [] script h = cc
all_others (first ∷ lines) script h =
    by_head first
    (λ is. let none : script_behind None lines ≡ Ok script = ap (λ (v : Option Version). script_behind v lines) (sym (ap (λ (l : List ℕ). header_of (tokens_of One l) l) is ∙ no_header)) ∙ h in absurd (cc))
    (λ other. (other, behind (header_of (tokens_of One first) first) lines script h))

within : (b : Bool) (text : List ℕ) (fault : Fault) (script : Program) → cond b (script_of_lines (lines_of text)) (Err fault) ≡ Ok script → script_of_lines (lines_of text) ≡ Ok script
within true text fault script h = h
within false text fault script h = cc

spelled_lines : (text : List ℕ) (script : Program) → script_of text ≡ Ok script → script_of_lines (lines_of text) ≡ Ok script
unfolding script_of
spelled_lines text script h = within (nat_le (length text) MOST_BYTES) text (record { line = 0; kind = TooLong }) script h

-- ---- lines of a text behind another

-- a text that ends with a line feed has a line
some_line : (bs : List ℕ) → (line : List ℕ) × (more : List (List ℕ)) × (lines_of (bs ++ 10 ∷ []) ≡ line ∷ more)
some_line [] = ([], [], refl)
some_line (b ∷ bs) =
    let so = some_line bs in
    let lines : List (List ℕ) = lines_of (bs ++ 10 ∷ []) in
    elim (b == 10) as (λ v. (line : List ℕ) × (more : List (List ℕ)) × (cond v ([] ∷ lines) (onto_first b lines) ≡ line ∷ more)) [
      | true ↦ ([], lines, refl)
      | false ↦ (b ∷ so.0, so.1, ap (onto_first b) so.2)
    ]

onto_append : (b : ℕ) (lines : List (List ℕ)) (line : List ℕ) (more rest : List (List ℕ)) → lines ≡ line ∷ more → onto_first b (lines ++ rest) ≡ onto_first b lines ++ rest
onto_append b lines line more rest is =
    ap (λ (ls : List (List ℕ)). onto_first b (ls ++ rest)) is ∙ sym (ap (λ (ls : List (List ℕ)). onto_first b ls ++ rest) is)

-- its lines stand before those of what is behind it
lines_append : (bs more : List ℕ) → lines_of ((bs ++ 10 ∷ []) ++ more) ≡ lines_of (bs ++ 10 ∷ []) ++ lines_of more
lines_append [] more = refl
lines_append (b ∷ bs) more =
    let so = some_line bs in
    let lines : List (List ℕ) = lines_of (bs ++ 10 ∷ []) in
    let all : lines_of ((bs ++ 10 ∷ []) ++ more) ≡ lines ++ lines_of more = lines_append bs more in
    elim (b == 10) as (λ v. cond v ([] ∷ lines_of ((bs ++ 10 ∷ []) ++ more)) (onto_first b (lines_of ((bs ++ 10 ∷ []) ++ more)))
    ≡ cond v ([] ∷ lines) (onto_first b lines) ++ lines_of more) [
      | true ↦ ap (λ (ls : List (List ℕ)). [] ∷ ls) all
      | false ↦ ap (onto_first b) all ∙ onto_append b lines so.0 so.1 (lines_of more) so.2
    ]

-- the bytes of lines, each with a line feed
abbrev full : List (List ℕ) → ℕ
full [] = 0
full (line ∷ lines) = (length line + 1) + full lines

onto_full : (b : ℕ) (lines : List (List ℕ)) (line : List ℕ) (more : List (List ℕ)) → lines ≡ line ∷ more → full (onto_first b lines) ≡ full lines + 1
onto_full b lines line more is =
    let there : full lines ≡ (length line + 1) + full more = ap full is in
    let here : full (onto_first b lines) ≡ (suc (length line) + 1) + full more = ap (λ (ls : List (List ℕ)). full (onto_first b ls)) is in
    omega (arith, there, here)

full_lines : (bs : List ℕ) → full (lines_of (bs ++ 10 ∷ [])) ≡ length (bs ++ 10 ∷ [])
full_lines [] = refl
full_lines (b ∷ bs) =
    let so = some_line bs in
    let lines : List (List ℕ) = lines_of (bs ++ 10 ∷ []) in
    let all : full lines ≡ length (bs ++ 10 ∷ []) = full_lines bs in
    let more : full (onto_first b lines) ≡ full lines + 1 = onto_full b lines so.0 so.1 so.2 in
    elim (b == 10) as (λ v. full (cond v ([] ∷ lines) (onto_first b lines)) ≡ suc (length (bs ++ 10 ∷ []))) [
      | true ↦ (let one : full ([] ∷ lines) ≡ 1 + full lines = refl in omega (arith, one, all))
      | false ↦ omega (arith, more, all)
    ]

-- ---- the parts

counted_before : (lines rest : List (List ℕ)) → AreOthers lines → counted (lines ++ head ∷ rest) ≡ full lines
counted_before [] rest h = counted_at head rest refl
counted_before (line ∷ lines) rest h =
    counted_on line (lines ++ head ∷ rest) h.0 ∙ ap (λ (n : ℕ). (length line + 1) + n) (counted_before lines rest h.1)

record_lines : (reports : List Report) → lines_of (record_text reports) ≡ head ∷ lines_of (flat_map report_text reports)
record_lines reports = refl

module _ (text front : List ℕ) (ends : text ≡ front ++ codes "\n") (script : Program) (spelled : script_of text ≡ Ok script) (reports : List Report) where
  parts_length : script_length (text ++ record_text reports) ≡ length text
  unfolding script_length
  parts_length =
      let told : List ℕ = record_text reports in
      let lines : lines_of (text ++ told) ≡ lines_of text ++ head ∷ lines_of (flat_map report_text reports) =
      subst (λ (t : List ℕ). lines_of (t ++ told) ≡ lines_of t ++ lines_of told) (sym ends) (lines_append front told) in
      ap counted lines
      ∙ counted_before (lines_of text) (lines_of (flat_map report_text reports)) (all_others (lines_of text) script (spelled_lines text script spelled))
      ∙ subst (λ (t : List ℕ). full (lines_of t) ≡ length t) (sym ends) (full_lines front)

  pub script_cut : script_part (text ++ record_text reports) ≡ text
  unfolding script_part
  script_cut = ap (λ (n : ℕ). take n (text ++ record_text reports)) parts_length ∙ take_at text (record_text reports) (length text) refl

  pub record_cut : record_part (text ++ record_text reports) ≡ record_text reports
  unfolding record_part
  record_cut = ap (λ (n : ℕ). drop n (text ++ record_text reports)) parts_length ∙ drop_at text (record_text reports) (length text) refl

module _ (text front : List ℕ) (script : Program) (reports : List Report) (ends : text ≡ front ++ codes "\n") (spelled : script_of text ≡ Ok script)
    (readable : IsReadableRecord reports) (settled : IsOfSettledRun script reports) (short : length (text ++ record_text reports) ≤ MOST_INPUT) where
  record_due : (command : Command) → HasEvents command reports → IsRecordDue command (text ++ record_text reports) Done
  record_due command has = (
    script,
    reports,
    record {
      short = short;
      spelled = ap script_of (script_cut text front ends script spelled reports) ∙ spelled;
      readable = readable;
      printed = record_cut text front ends script spelled reports;
    },
    settled,
    has,
  )

  pub whole_due : (command : Command) → command ≢ Expand → HasEvents command reports → IsDue command (text ++ record_text reports) Done
  whole_due Check other has = record_due Check has
  whole_due Replay other has = record_due Replay has
  whole_due Links other has = record_due Links has
  whole_due (Before first second) other has = record_due (Before first second) has
  whole_due Expand other has = absurd (other refl)
