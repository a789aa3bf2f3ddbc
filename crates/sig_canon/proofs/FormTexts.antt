-- The lines of the canonical text, by the words with which they begin.
use Rattle.std.proofs.Common.{◌≡◌, ◌≢◌, ℕ, ◌<◌, ◌≤◌, Bool, true, false, List, [], ◌∷◌, ◌++◌, length, map, refl, ap, ◌∙◌, arith}
use Rattle.std.specs.Prelude.{All, IfSome, Result, Option, Some, option_map, codes, decimal}
use Rattle.std.specs.List.{concat}
use Rattle.std.proofs.lemmas.List.Elements.{All-head, All-tail}
use Rattle.sig_kinds.specs.declared.alias_mode.AliasMode.TheVariants as alias_mode
use Rattle.sig_kinds.specs.declared.queue_data.QueueData.TheVariants.{OffHeap}
use Rattle.sig_patterns.specs.declared.clause.Clause.{Clause}
use Rattle.sig_patterns.specs.declared.var.Var.{Var}
use Rattle.sig_patterns.specs.declared.expression.Expr.{Expr}
use Rattle.sig_program.specs.declared.label.Label.{Label}
use Rattle.sig_program.specs.declared.instruction.After.{After}
use Rattle.sig_program.specs.declared.instruction.Instr.{Instr}
use Rattle.sig_tokens.specs.declared.known.Known.{Known}
use Rattle.sig_program.specs.declared.instruction.Verb.{Verb}
use Rattle.sig_reader.specs.declared.keyword.Keyword.TheVariants as keyword
use Rattle.sig_reader.specs.declared.form.Form.TheVariants as form
use Rattle.sig_program.specs.declared.script.TheConstants.{MOST_TURNS}
use Rattle.sig_program.specs.Instructions.{Operand, an_expr, a_variable, a_label, a_switch, a_mode, a_flag, AllSaid, word_of, operands_of, instr_by, Spoken, Says, Receives, spoken}
use Rattle.sig_program.specs.Parts.{said_exprs, said_vars, said_labels, said_mode, exprs_in, vars_in, targets_in, mode_by}
use Rattle.sig_program.specs.Scripts.{IsInstrWithin}
use Rattle.sig_tokens.specs.declared.fault.FaultKind.{FaultKind}
use Rattle.sig_tokens.specs.Faults.{◌>>=◌, on_ok}
use Rattle.sig_reader.specs.Forms.{queue_data_of, form_of}
use Rattle.sig_canon.specs.ScriptText.{name_of_place, spaced, after_blank, expr_text, pattern_text, guard_text, switch_text, target_text, marker_text, clause_line, said_texts, spoken_lines, instr_lines, label_line, turns_line}
use Rattle.sig_canon.specs.ReadableScript.{IsReadableExpr, IsReadableClause, IsReadableInstr}
use Rattle.sig_reader.proofs.TableLemmas.{made_of, instr_as, word_means, word_named, AreOrderly, orderly}
use Rattle.sig_reader.proofs.Seen.{expr_seen, clause_seen, all_seen, spoken_seen, instr_seen}
use Rattle.sig_canon.proofs.FormReads.{no_rest, rest_made, AreOperands, no_operands, operand_on, expr_operand, variable_operand, label_operand, switch_read, mode_rest, flag_rest, name_rest, turns_rest, arrow_rest, marker_rest, IsFormLine}
use Rattle.sig_canon.proofs.GuardTexts.{clause_rest}
use Rattle.sig_tokens.specs.Tokens.{IsNameToken, IsVariableToken}
use Rattle.sig_canon.proofs.KnownNames.{Reads}
use Rattle.sig_program.specs.declared.version.Version.{Version}

-- ---- lines that are no instructions

pub turns_form : (version : Version) (known : Known) (here n : ℕ) → n ≤ MOST_TURNS → IsFormLine version known here (turns_line n) keyword.Turns (form.Turns n)
unfolding form_of
turns_form version known here n few = record {
  front = codes "turns";
  bytes = 32 ∷ (decimal n ++ []);
  is = refl;
  named = (omega arith, refl);
  means = refl;
  rest = rest_made version (turns_rest version n (omega arith)) (form_of known here keyword.Turns) (form.Turns n) (λ line ts found. found);
}

pub process_form : (version : Version) (known : Known) (here : ℕ) (name : List ℕ) → IsNameToken name → IsFormLine version known here (spaced (codes "process") (name ∷ [])) keyword.Process (form.Process name)
unfolding form_of
process_form version known here name named = record {
  front = codes "process";
  bytes = 32 ∷ (name ++ []);
  is = refl;
  named = (omega arith, refl);
  means = refl;
  rest = rest_made version (name_rest version name named) (form_of known here keyword.Process) (form.Process name) (λ line ts found. ap (on_ok form.Process) found);
}

pub data_form : (version : Version) (known : Known) (here : ℕ) → IsFormLine version known here (spaced (codes "message_queue_data") (codes "off_heap" ∷ [])) keyword.QueueData (form.QueueData OffHeap)
unfolding form_of
data_form version known here = record {
  front = codes "message_queue_data";
  bytes = 32 ∷ (codes "off_heap" ++ []);
  is = refl;
  named = (omega arith, refl);
  means = refl;
  rest = rest_made version (name_rest version (codes "off_heap") (omega arith, refl)) (form_of known here keyword.QueueData) (form.QueueData OffHeap)
      (λ line ts found. ap (λ (r : Result (List ℕ) FaultKind). on_ok form.QueueData (r >>= queue_data_of)) found);
}

pub label_form : (version : Version) (known : Known) (here : ℕ) (l : Label) → IsNameToken l.name → IsFormLine version known here (label_line l) keyword.Label (form.Label l.name)
unfolding form_of
label_form version known here l named = record {
  front = codes "label";
  bytes = 32 ∷ (l.name ++ []);
  is = refl;
  named = (omega arith, refl);
  means = refl;
  rest = rest_made version (name_rest version l.name named) (form_of known here keyword.Label) (form.Label l.name) (λ line ts found. ap (on_ok form.Label) found);
}

pub receive_form : (version : Version) (known : Known) (here : ℕ) (using : Option Var) → IfSome using (λ x. IsVariableToken x.0) → IsFormLine version known here (spaced (codes "receive") (marker_text using)) keyword.Receive (form.Receive using)
unfolding form_of
receive_form version known here using named = record {
  front = codes "receive";
  bytes = concat (map after_blank (marker_text using));
  is = refl;
  named = (omega arith, refl);
  means = refl;
  rest = rest_made version (marker_rest version using named) (form_of known here keyword.Receive) (form.Receive using) (λ line ts found. ap (on_ok form.Receive) found);
}

pub clause_form : (version : Version) (known : Known) (here : ℕ) (names labels : List (List ℕ)) (f g : ℕ → ℕ) → Reads known here names labels f g → (c : Clause) → IsReadableClause version (length names) c → IfSome c.target (λ n. n < length labels) →
    IsFormLine version known here (clause_line names labels c) keyword.On (form.On (clause_seen f g c))
unfolding form_of clause_line
clause_form version known here names labels f g reads c readable within = record {
  front = codes "on";
  bytes = concat (map after_blank (pattern_text names c.pattern ∷ guard_text c.guard (target_text labels c.target)));
  is = refl;
  named = (omega arith, refl);
  means = refl;
  rest = rest_made version (clause_rest version known here names labels f g reads c readable within) (form_of known here keyword.On) (form.On (clause_seen f g c)) (λ line ts found. found);
}

pub after_form : (version : Version) (known : Known) (here : ℕ) (names labels : List (List ℕ)) (f g : ℕ → ℕ) → Reads known here names labels f g → (a : After) → IfSome a.target (λ n. n < length labels) →
    IsFormLine version known here (spaced (codes "after") (target_text labels a.target)) keyword.After (form.After (record { target = option_map g a.target }))
unfolding form_of
after_form version known here names labels f g reads a within = record {
  front = codes "after";
  bytes = concat (map after_blank (target_text labels a.target));
  is = refl;
  named = (omega arith, refl);
  means = refl;
  rest = rest_made version (arrow_rest version known here names labels f g reads a.target within) (form_of known here keyword.After) (form.After (record { target = option_map g a.target })) (λ line ts found. ap (on_ok (λ target. form.After (record { target = target }))) found);
}

pub end_form : (version : Version) (known : Known) (here : ℕ) → IsFormLine version known here (codes "end") keyword.End form.End
unfolding form_of
end_form version known here = record {
  front = codes "end";
  bytes = [];
  is = refl;
  named = (omega arith, refl);
  means = refl;
  rest = no_rest version (form_of known here keyword.End) form.End (λ line. refl);
}

-- ---- instructions that are no receives

-- these lines are one, which is an instruction's
pub record IsInstrLine (version : Version) (known : Known) (here : ℕ) (lines : List (List ℕ)) (i : Instr) : Type 0 where
  pub line : List ℕ
  pub is : lines ≡ line ∷ []
  pub verb : Verb
  pub form : IsFormLine version known here line (keyword.Do verb) (form.Do i)

abbrev receives : Spoken → Bool
receives (Says v x) = false
receives (Receives r) = true

abbrev pub is_receive : Instr → Bool
is_receive i = receives (spoken i)

module _ (version : Version) (known : Known) (here : ℕ) (names labels : List (List ℕ)) (f g : ℕ → ℕ) (reads : Reads known here names labels f g) where
  abbrev IsExpr : Expr → Type 0
  IsExpr e = IsReadableExpr (length names) e

  abbrev IsLabel : ℕ → Type 0
  IsLabel n = n < length labels

  -- what operands say is read back from its texts
  operands_again : (os : List Operand) (x : AllSaid os) → AreOrderly os → All IsExpr (said_exprs os x) → All IsVariableToken (said_vars os x) → All IsLabel (said_labels os x) → said_mode os x ≢ Some alias_mode.Reply →
      AreOperands version known here os (concat (map after_blank (said_texts names labels os x))) (all_seen f g os x)
  operands_again [] x ordered es vs ls mode = no_operands version known here
  operands_again (an_expr ∷ os) x ordered es vs ls mode =
      operand_on version known here an_expr os (expr_text names x.0) _ (expr_seen f x.0) (all_seen f g os x.1)
      (expr_operand version known here names labels f g reads x.0 (All-head IsExpr x.0 (said_exprs os x.1) es)) (operands_again os x.1 ordered (All-tail IsExpr x.0 (said_exprs os x.1) es) vs ls mode)
  operands_again (a_variable ∷ os) x ordered es vs ls mode =
      operand_on version known here a_variable os x.0 _ x.0 (all_seen f g os x.1)
      (variable_operand version known here x.0 (All-head IsVariableToken x.0 (said_vars os x.1) vs)) (operands_again os x.1 ordered es (All-tail IsVariableToken x.0 (said_vars os x.1) vs) ls mode)
  operands_again (a_label ∷ os) x ordered es vs ls mode =
      let place = reads.places x.0 (All-head IsLabel x.0 (said_labels os x.1) ls) in
      operand_on version known here a_label os (name_of_place labels x.0) _ (g x.0) (all_seen f g os x.1)
      (label_operand version known here (name_of_place labels x.0) (g x.0) place.0 place.1) (operands_again os x.1 ordered es vs (All-tail IsLabel x.0 (said_labels os x.1) ls) mode)
  operands_again (a_switch ∷ os) x ordered es vs ls mode =
      operand_on version known here a_switch os (switch_text x.0) _ x.0 (all_seen f g os x.1) (switch_read version known here x.0) (operands_again os x.1 ordered es vs ls mode)
  operands_again (a_mode ∷ []) x ordered es vs ls mode = mode_rest version known here x.0 mode
  operands_again (a_flag word ∷ []) x ordered es vs ls mode = flag_rest version known here word ordered.0 x.0
  operands_again (a_mode ∷ o ∷ os) x ordered es vs ls mode = absurd cc
  operands_again (a_flag word ∷ o ∷ os) x ordered es vs ls mode = let last : (o ∷ os) ≡ [] = ordered.1 in absurd cc

  spoken_form : (s : Spoken) → receives s ≡ false → All IsExpr (exprs_in s) → All IsVariableToken (vars_in s) → All IsLabel (targets_in s) → mode_by s ≢ Some alias_mode.Reply →
      IsInstrLine version known here (spoken_lines names labels s) (made_of (spoken_seen f g s))
  unfolding form_of
  spoken_form (Says v x) other es vs ls mode =
      let os : List Operand = operands_of v in
      let i : Instr = instr_by v (all_seen f g os x) in
      let line : List ℕ = spaced (word_of v) (said_texts names labels os x) in
      record {
        line = line;
        is = refl;
        verb = v;
        form = record {
          front = word_of v;
          bytes = concat (map after_blank (said_texts names labels os x));
          is = refl;
          named = word_named v;
          means = word_means v;
          rest = rest_made version (operands_again os x (orderly v) es vs ls mode) (form_of known here (keyword.Do v)) (form.Do i)
              (λ line ts found. ap (on_ok form.Do) (instr_as known here v line ts ∙ ap (on_ok (instr_by v)) found));
        };
      }
  spoken_form (Receives r) other es vs ls mode = absurd cc

  pub instr_form : (i : Instr) → is_receive i ≡ false → IsReadableInstr version (length names) i → IsInstrWithin (length labels) i → IsInstrLine version known here (instr_lines names labels i) (instr_seen f g i)
  unfolding instr_lines
  instr_form i other readable lawful = spoken_form (spoken i) other readable.exprs readable.vars lawful.1 lawful.2
