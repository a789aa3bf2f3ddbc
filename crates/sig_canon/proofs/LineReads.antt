-- Each line of the canonical text is read back as the form that it was printed from.
use Rattle.std.proofs.Common.{◌≡◌, ℕ, ◌<◌, ◌≤◌, true, false, List, [], ◌∷◌, length, map, ap}
use Rattle.std.specs.Prelude.{IfSome, Option, Some, option_map, Ok, codes}
use Rattle.sig_kinds.specs.declared.queue_data.QueueData.TheVariants.{OffHeap}
use Rattle.sig_patterns.specs.declared.clause.Clause.{Clause}
use Rattle.sig_patterns.specs.declared.var.Var.{Var}
use Rattle.sig_program.specs.declared.label.Label.{Label}
use Rattle.sig_program.specs.declared.instruction.After.{After}
use Rattle.sig_program.specs.declared.instruction.Instr.{Instr}
use Rattle.sig_tokens.specs.declared.known.Known.{Known}
use Rattle.sig_reader.specs.declared.keyword.Keyword.TheVariants as keyword
use Rattle.sig_reader.specs.declared.draft.Section.{Section}
use Rattle.sig_reader.specs.declared.draft.Section.TheVariants.{Outside}
use Rattle.sig_reader.specs.declared.draft.Draft.{Draft}
use Rattle.sig_reader.specs.declared.form.Form.{Form}
use Rattle.sig_reader.specs.declared.form.Form.TheVariants as form
use Rattle.sig_program.specs.declared.script.TheConstants.{MOST_TURNS}
use Rattle.sig_program.specs.Scripts.{Declared, IsInstrWithin}
use Rattle.sig_canon.specs.ScriptText.{spaced, target_text, marker_text, clause_line, instr_lines, label_line, turns_line}
use Rattle.sig_canon.specs.ReadableScript.{IsReadableClause, IsReadableInstr}
use Rattle.sig_reader.specs.Forms.{may_stand_at, may_stand, said}
use Rattle.sig_tokens.specs.Tokens.{IsNameToken, IsVariableToken}
use Rattle.sig_reader.proofs.Seen.{clause_seen, instr_seen}
use Rattle.sig_canon.proofs.FormReads.{line_said}
use Rattle.sig_canon.proofs.FormTexts.{turns_form, process_form, data_form, label_form, receive_form, clause_form, after_form, end_form, instr_form}
pub use Rattle.sig_canon.proofs.KnownNames.{Reads, any_reads, among_reads}
pub use Rattle.sig_reader.proofs.SeenLemmas.{expr_kept, pattern_kept, instr_kept, pins_seen}
pub use Rattle.sig_canon.proofs.FormTexts.{is_receive}
pub use Rattle.sig_canon.proofs.CleanLines.{lines_again}

abbrev pub label_names : List Label → List (List ℕ)
label_names labels = map (λ (l : Label). l.name) labels

-- these lines are one, which says the form
pub record IsSaid (known : Known) (d : Draft) (lines : List (List ℕ)) (f : Form) : Type 0 where
  pub line : List ℕ
  pub is : lines ≡ line ∷ []
  pub said : said known d line ≡ Ok (Some f)

pub turns_said : (known : Known) (d : Draft) (n : ℕ) → may_stand d keyword.Turns ≡ true → n ≤ MOST_TURNS → said known d (turns_line n) ≡ Ok (Some (form.Turns n))
turns_said known d n here few = line_said known d (turns_line n) keyword.Turns (form.Turns n) (turns_form d.version known (length d.procs) n few) here

pub process_said : (known : Known) (d : Draft) (name : List ℕ) → may_stand d keyword.Process ≡ true → IsNameToken name →
    said known d (spaced (codes "process") (name ∷ [])) ≡ Ok (Some (form.Process name))
process_said known d name here named = line_said known d (spaced (codes "process") (name ∷ [])) keyword.Process (form.Process name) (process_form d.version known (length d.procs) name named) here

pub data_said : (known : Known) (d : Draft) → may_stand d keyword.QueueData ≡ true →
    said known d (spaced (codes "message_queue_data") (codes "off_heap" ∷ [])) ≡ Ok (Some (form.QueueData OffHeap))
data_said known d here = line_said known d (spaced (codes "message_queue_data") (codes "off_heap" ∷ [])) keyword.QueueData (form.QueueData OffHeap) (data_form d.version known (length d.procs)) here

pub label_said : (known : Known) (d : Draft) (l : Label) → may_stand d keyword.Label ≡ true → IsNameToken l.name →
    said known d (label_line l) ≡ Ok (Some (form.Label l.name))
label_said known d l here named = line_said known d (label_line l) keyword.Label (form.Label l.name) (label_form d.version known (length d.procs) l named) here

-- an instruction that is no receive
pub instr_said : (known : Known) (d : Draft) (names labels : List (List ℕ)) (f g : ℕ → ℕ) → Reads known (length d.procs) names labels f g → (p : Declared) → d.section ≡ Outside p →
    (i : Instr) → is_receive i ≡ false → IsReadableInstr d.version (length names) i → IsInstrWithin (length labels) i → IsSaid known d (instr_lines names labels i) (form.Do (instr_seen f g i))
instr_said known d names labels f g reads p here i other readable lawful =
    let l = instr_form d.version known (length d.procs) names labels f g reads i other readable lawful in
    let stands : may_stand d (keyword.Do l.verb) ≡ true = ap (λ (s : Section). may_stand_at d s (keyword.Do l.verb)) here in
    record { line = l.line; is = l.is; said = line_said known d l.line (keyword.Do l.verb) (form.Do (instr_seen f g i)) l.form stands }

-- the lines of a receive
pub receive_said : (known : Known) (d : Draft) (using : Option Var) → may_stand d keyword.Receive ≡ true → IfSome using (λ x. IsVariableToken x.0) →
    said known d (spaced (codes "receive") (marker_text using)) ≡ Ok (Some (form.Receive using))
receive_said known d using here named = line_said known d (spaced (codes "receive") (marker_text using)) keyword.Receive (form.Receive using) (receive_form d.version known (length d.procs) using named) here

pub clause_said : (known : Known) (d : Draft) (names labels : List (List ℕ)) (f g : ℕ → ℕ) → Reads known (length d.procs) names labels f g → may_stand d keyword.On ≡ true →
    (c : Clause) → IsReadableClause d.version (length names) c → IfSome c.target (λ n. n < length labels) →
    said known d (clause_line names labels c) ≡ Ok (Some (form.On (clause_seen f g c)))
clause_said known d names labels f g reads here c readable within =
    line_said known d (clause_line names labels c) keyword.On (form.On (clause_seen f g c)) (clause_form d.version known (length d.procs) names labels f g reads c readable within) here

pub after_said : (known : Known) (d : Draft) (names labels : List (List ℕ)) (f g : ℕ → ℕ) → Reads known (length d.procs) names labels f g → may_stand d keyword.After ≡ true →
    (a : After) → IfSome a.target (λ n. n < length labels) →
    said known d (spaced (codes "after") (target_text labels a.target)) ≡ Ok (Some (form.After (record { target = option_map g a.target })))
after_said known d names labels f g reads here a within =
    line_said known d (spaced (codes "after") (target_text labels a.target)) keyword.After (form.After (record { target = option_map g a.target })) (after_form d.version known (length d.procs) names labels f g reads a within) here

pub end_said : (known : Known) (d : Draft) → may_stand d keyword.End ≡ true → said known d (codes "end") ≡ Ok (Some form.End)
end_said known d here = line_said known d (codes "end") keyword.End form.End (end_form d.version known (length d.procs)) here
