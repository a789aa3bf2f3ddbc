-- What a line says where the names are known, and where the same names have other pids and other places.
use Rattle.std.proofs.Common.{◌≡◌, ℕ, List, [], ◌∷◌, length, map, false, Option, Some, None, Ok, refl, sym, ap, subst}
use Rattle.std.specs.Option.{option_map, is_some}
use Rattle.std.proofs.lemmas.List.{length-map}
use Rattle.sig_patterns.specs.declared.guard.Guard.{Guard}
use Rattle.sig_program.specs.declared.instruction.After.{After}
use Rattle.sig_tokens.specs.declared.token.Token.{Token}
use Rattle.sig_tokens.specs.declared.known.Known.{Known}
use Rattle.sig_program.specs.declared.instruction.Verb.{Verb}
use Rattle.sig_reader.specs.declared.keyword.Keyword.{Keyword}
use Rattle.sig_reader.specs.declared.keyword.Keyword.TheVariants as keyword
use Rattle.sig_reader.specs.declared.draft.Section.{Section}
use Rattle.sig_reader.specs.declared.draft.Section.TheVariants.{Before, Outside, Inside}
use Rattle.sig_reader.specs.declared.draft.Draft.{Draft}
use Rattle.sig_reader.specs.declared.form.Form.{Form}
use Rattle.sig_reader.specs.declared.form.Form.TheVariants as form
use Rattle.sig_program.specs.Scripts.{Declared}
use Rattle.sig_tokens.specs.Faults.{on_ok}
use Rattle.sig_tokens.specs.Tokens.{text, tokens_of}
use Rattle.sig_tokens.specs.Names.{pid_of, label_of, name_at, variable_at, target_at}
use Rattle.sig_tokens.specs.Signs.{is_arrow}
use Rattle.sig_tokens.specs.PatternTexts.{pattern_of}
use Rattle.sig_program.specs.Instructions.{Operand, an_expr, a_variable, a_label, a_switch, a_mode, a_flag, operands_of, instr_by, Spoken}
use Rattle.sig_reader.specs.Forms.{switch_at, word_at, mode_of, flag_of, operand_at, all_said, keyword_of, may_stand_at, may_stand, ends, arrow_of, count_from, turns_of, whole_name, queue_data_at, marker_of, behind_pattern, on_of, instr_of, form_of, form_behind, said_by, said}
use Rattle.sig_reader.specs.Guards.{guard_at}
use Rattle.sig_reader.proofs.TableLemmas.{made_of, spoken_again, instr_as}
use Rattle.sig_reader.proofs.Seen.{pattern_seen, clause_seen, after_seen, receiving_seen, said_seen, all_seen, spoken_seen, instr_seen}
use Rattle.sig_reader.proofs.OtherPhrases.{Sees, sees-same, sees-if, sees-on_ok, sees-then, first_seen, expr_of-sees, pattern_of-sees}

-- a form, and what was read so far, with other pids, by f, and other places of labels, by g
abbrev pub form_seen : (ℕ → ℕ) → (ℕ → ℕ) → Form → Form
form_seen f g (form.Do i) = form.Do (instr_seen f g i)
form_seen f g (form.On c) = form.On (clause_seen f g c)
form_seen f g (form.After after) = form.After (after_seen g after)
form_seen f g (form.Turns n) = form.Turns n
form_seen f g (form.Process name) = form.Process name
form_seen f g (form.QueueData q) = form.QueueData q
form_seen f g (form.Label name) = form.Label name
form_seen f g (form.Receive using) = form.Receive using
form_seen f g form.End = form.End

abbrev pub proc_seen : (ℕ → ℕ) → (ℕ → ℕ) → Declared → Declared
proc_seen f g p = record p { instrs = map (instr_seen f g) p.instrs }

abbrev pub section_seen : (ℕ → ℕ) → (ℕ → ℕ) → Section → Section
section_seen f g Before = Before
section_seen f g (Outside p) = Outside (proc_seen f g p)
section_seen f g (Inside p r) = Inside (proc_seen f g p) (receiving_seen f g r)

abbrev pub draft_seen : (ℕ → ℕ) → (ℕ → ℕ) → Draft → Draft
draft_seen f g d = record d { procs = map (proc_seen f g) d.procs; section = section_seen f g d.section }

-- nothing behind what was said
ends-see : {A B : Type 0} (m : A → B) (x : A) (y : B) (ts : List Token) → y ≡ m x → Sees m (ends x ts) (ends y ts)
ends-see m x y [] e = ap (λ z. Ok z) e
ends-see m x y (t ∷ ts) e = tt

-- Where one reader gives a number for a name, the other gives it as f says of a process, and as g says of a label.
pub record AreSeen (f g : ℕ → ℕ) (known other : Known) : Type 0 where
  pub pids : (name : List ℕ) → Sees f (pid_of known name) (pid_of other name)
  pub places : (here : ℕ) (name : List ℕ) → Sees g (label_of known here name) (label_of other here name)

module _ (f g : ℕ → ℕ) (known other : Known) (seen : AreSeen f g known other) (line : List ℕ) where
  module _ (here : ℕ) where
    target-sees : (ts : List Token) → Sees (first_seen g) (target_at known here line ts) (target_at other here line ts)
    target-sees ts =
        sees-then (λ x. x) (first_seen g) (λ x. on_ok (λ n. (n, x.1)) (label_of known here x.0)) (λ x. on_ok (λ n. (n, x.1)) (label_of other here x.0)) (name_at line ts) (name_at line ts)
        (sees-same (λ x. x) (name_at line ts) (λ x. refl))
        (λ x. sees-on_ok g (first_seen g) (λ n. (n, x.1)) (λ n. (n, x.1)) (label_of known here x.0) (label_of other here x.0) (seen.places here x.0) (λ n. refl))

    arrow-sees : (ts : List Token) → Sees (option_map g) (arrow_of known here line ts) (arrow_of other here line ts)
    arrow-sees [] = refl
    arrow-sees (t ∷ ts) =
        sees-if (option_map g) (is_arrow t.kind) _ _ _ _
        (sees-then (first_seen g) (option_map g) (λ x. ends (Some x.0) x.1) (λ x. ends (Some x.0) x.1) (target_at known here line ts) (target_at other here line ts) (target-sees ts)
        (λ x. ends-see (option_map g) (Some x.0) (Some (g x.0)) x.1 refl)) tt

    operand-sees : (o : Operand) (ts : List Token) → Sees (first_seen (said_seen f g o)) (operand_at known here line o ts) (operand_at other here line o ts)
    operand-sees an_expr ts = expr_of-sees f known other line seen.pids ts
    operand-sees a_variable ts = sees-same (first_seen (said_seen f g a_variable)) (variable_at line ts) (λ x. refl)
    operand-sees a_label ts = target-sees ts
    operand-sees a_switch ts = sees-same (first_seen (said_seen f g a_switch)) (switch_at line ts) (λ x. refl)
    operand-sees a_mode ts = sees-same (first_seen (said_seen f g a_mode)) (word_at None mode_of line ts) (λ x. refl)
    operand-sees (a_flag flag) ts = sees-same (first_seen (said_seen f g (a_flag flag))) (word_at false (flag_of flag) line ts) (λ x. refl)

    operands-see : (os : List Operand) (ts : List Token) → Sees (all_seen f g os) (all_said known here line os ts) (all_said other here line os ts)
    operands-see [] ts = ends-see (all_seen f g []) tt tt ts refl
    operands-see (o ∷ os) ts =
        sees-then (first_seen (said_seen f g o)) (all_seen f g (o ∷ os)) (λ x. on_ok (λ xs. (x.0, xs)) (all_said known here line os x.1)) (λ x. on_ok (λ xs. (x.0, xs)) (all_said other here line os x.1))
        (operand_at known here line o ts) (operand_at other here line o ts) (operand-sees o ts)
        (λ x. sees-on_ok (all_seen f g os) (all_seen f g (o ∷ os)) (λ xs. (x.0, xs)) (λ xs. (said_seen f g o x.0, xs)) (all_said known here line os x.1) (all_said other here line os x.1)
        (operands-see os x.1) (λ xs. refl))

    instr-sees : (v : Verb) (ts : List Token) → Sees (instr_seen f g) (instr_of known here v line ts) (instr_of other here v line ts)
    instr-sees v ts =
        let os : List Operand = operands_of v in
        let made = sees-on_ok (all_seen f g os) (instr_seen f g) (instr_by v) (instr_by v) (all_said known here line os ts) (all_said other here line os ts) (operands-see os ts)
        (λ x. ap (λ (s : Spoken). made_of (spoken_seen f g s)) (sym (spoken_again v x))) in
        subst (λ r. Sees (instr_seen f g) r (instr_of other here v line ts)) (sym (instr_as known here v line ts))
        (subst (Sees (instr_seen f g) (on_ok (instr_by v) (all_said known here line os ts))) (sym (instr_as other here v line ts)) made)

    turns-see : (ts : List Token) → Sees (form_seen f g) (turns_of line ts) (turns_of line ts)
    turns-see [] = tt
    turns-see (t ∷ ts) =
        sees-then (λ n. n) (form_seen f g) (λ n. ends (form.Turns n) ts) (λ n. ends (form.Turns n) ts) (count_from t.kind (text line t)) (count_from t.kind (text line t))
        (sees-same (λ n. n) (count_from t.kind (text line t)) (λ n. refl)) (λ n. ends-see (form_seen f g) (form.Turns n) (form.Turns n) ts refl)

    -- a guard is read by itself
    abbrev end_seen : Option Guard × Option ℕ → Option Guard × Option ℕ
    end_seen y = (y.0, option_map g y.1)

    behind_pattern-sees : (ts : List Token) → Sees end_seen (behind_pattern known here line ts) (behind_pattern other here line ts)
    behind_pattern-sees ts =
        sees-then (λ x. x) end_seen (λ x. on_ok (λ target. (x.0, target)) (arrow_of known here line x.1)) (λ x. on_ok (λ target. (x.0, target)) (arrow_of other here line x.1))
        (guard_at line ts) (guard_at line ts) (sees-same (λ x. x) (guard_at line ts) (λ x. refl))
        (λ x. sees-on_ok (option_map g) end_seen (λ target. (x.0, target)) (λ target. (x.0, target)) (arrow_of known here line x.1) (arrow_of other here line x.1) (arrow-sees x.1) (λ o. refl))

    on-sees : (ts : List Token) → Sees (form_seen f g) (on_of known here line ts) (on_of other here line ts)
    on-sees ts =
        sees-then (first_seen (pattern_seen f)) (form_seen f g)
        (λ x. on_ok (λ y. form.On (record { pattern = x.0; guard = y.0; target = y.1 })) (behind_pattern known here line x.1))
        (λ x. on_ok (λ y. form.On (record { pattern = x.0; guard = y.0; target = y.1 })) (behind_pattern other here line x.1))
        (pattern_of known line ts) (pattern_of other line ts) (pattern_of-sees f known other line seen.pids ts)
        (λ x. sees-on_ok end_seen (form_seen f g) (λ y. form.On (record { pattern = x.0; guard = y.0; target = y.1 })) (λ y. form.On (record { pattern = pattern_seen f x.0; guard = y.0; target = y.1 }))
        (behind_pattern known here line x.1) (behind_pattern other here line x.1) (behind_pattern-sees x.1) (λ y. refl))

    form-sees : (word : Keyword) (ts : List Token) → Sees (form_seen f g) (form_of known here word line ts) (form_of other here word line ts)
    unfolding form_of
    form-sees keyword.Turns ts = turns-see ts
    form-sees keyword.Process ts =
        sees-on_ok (λ x. x) (form_seen f g) form.Process form.Process (whole_name line ts) (whole_name line ts) (sees-same (λ x. x) (whole_name line ts) (λ x. refl)) (λ x. refl)
    form-sees keyword.QueueData ts =
        sees-on_ok (λ x. x) (form_seen f g) form.QueueData form.QueueData (queue_data_at line ts) (queue_data_at line ts) (sees-same (λ x. x) (queue_data_at line ts) (λ x. refl)) (λ x. refl)
    form-sees keyword.Label ts =
        sees-on_ok (λ x. x) (form_seen f g) form.Label form.Label (whole_name line ts) (whole_name line ts) (sees-same (λ x. x) (whole_name line ts) (λ x. refl)) (λ x. refl)
    form-sees keyword.Receive ts =
        sees-on_ok (λ x. x) (form_seen f g) form.Receive form.Receive (marker_of line ts) (marker_of line ts) (sees-same (λ x. x) (marker_of line ts) (λ x. refl)) (λ x. refl)
    form-sees keyword.On ts = on-sees ts
    form-sees keyword.After ts =
        sees-on_ok (option_map g) (form_seen f g) (λ target. form.After (record { target = target })) (λ target. form.After (record { target = target }))
        (arrow_of known here line ts) (arrow_of other here line ts) (arrow-sees ts) (λ o. refl)
    form-sees keyword.End ts = ends-see (form_seen f g) form.End form.End ts refl
    form-sees (keyword.Do v) ts =
        sees-on_ok (instr_seen f g) (form_seen f g) form.Do form.Do (instr_of known here v line ts) (instr_of other here v line ts) (instr-sees v ts) (λ i. refl)

  some-seen : (after : Option After) → is_some (option_map (after_seen g) after) ≡ is_some after
  some-seen None = refl
  some-seen (Some a) = refl

  may_stand-seen : (d : Draft) (section : Section) (word : Keyword) → may_stand_at (draft_seen f g d) (section_seen f g section) word ≡ may_stand_at d section word
  may_stand-seen d Before word = refl
  may_stand-seen d (Outside p) word = refl
  may_stand-seen d (Inside p r) word = rw (some-seen r.after) refl

  behind-sees : (d : Draft) (word : Option Keyword) (ts : List Token) → Sees (form_seen f g) (form_behind known d word line ts) (form_behind other (draft_seen f g d) word line ts)
  behind-sees d None ts = tt
  behind-sees d (Some word) ts =
      rw (may_stand-seen d d.section word, length-map d.procs (proc_seen f g))
      (sees-if (form_seen f g) (may_stand d word) _ _ _ _ (form-sees (length d.procs) word ts) tt)

  said_by-sees : (d : Draft) (ts : List Token) → Sees (option_map (form_seen f g)) (said_by known d line ts) (said_by other (draft_seen f g d) line ts)
  unfolding said_by
  said_by-sees d [] = refl
  said_by-sees d (w ∷ ts) =
      sees-on_ok (form_seen f g) (option_map (form_seen f g)) Some Some (form_behind known d (keyword_of (text line w)) line ts) (form_behind other (draft_seen f g d) (keyword_of (text line w)) line ts)
      (behind-sees d (keyword_of (text line w)) ts) (λ x. refl)

  -- what a line says behind what was read so far
  pub said-sees : (d : Draft) → Sees (option_map (form_seen f g)) (said known d line) (said other (draft_seen f g d) line)
  unfolding said
  said-sees d =
      sees-then (λ ts. ts) (option_map (form_seen f g)) (said_by known d line) (said_by other (draft_seen f g d) line) (tokens_of d.version line) (tokens_of d.version line) (sees-same (λ ts. ts) (tokens_of d.version line) (λ ts. refl))
      (λ ts. said_by-sees d ts)
