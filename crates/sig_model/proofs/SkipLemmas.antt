-- Where no message before the start of a receive's scan holds its reference, the scan from there on finds what the scan of all
-- messages finds.
use Rattle.std.proofs.Common.{◌≡◌, ℕ, ◌+◌, ◌-◌, ◌≤◌, List, take, drop, length, All, true, false, cond, Option, Some, None, IfSome, slice_get, refl, sym, ap, ◌∙◌, subst, arith}
use Rattle.std.specs.Option.{option_map}
use Rattle.std.proofs.lemmas.List.{take-append-drop, length-take-le, length-map}
use Rattle.std.proofs.lemmas.List.Elements.{All-weaker}
use Rattle.std.proofs.lemmas.Option.{same_Some, none-some}
use Rattle.sig_terms.specs.declared.reference.Ref.{Ref}
use Rattle.sig_terms.specs.declared.term.Term.{Term}
use Rattle.sig_terms.specs.declared.term.Term.TheVariants as term
use Rattle.sig_terms.specs.Nodes.{holds}
use Rattle.sig_patterns.specs.declared.clause.Clause.{Clause}
use Rattle.sig_patterns.specs.declared.var.Var.{Var}
use Rattle.sig_patterns.specs.Environment.{Environment, value_of_var}
use Rattle.sig_patterns.specs.Inbox.{terms_of, start_of}
use Rattle.sig_patterns.specs.Pinning.{pins, AskFor}
use Rattle.sig_patterns.specs.Scanning.{Hit, behind_messages, hit}
use Rattle.sig_patterns.proofs.MarkLemmas.{start_within}
use Rattle.sig_patterns.proofs.PinLemmas.{older_skipped}
use Rattle.sig_program.specs.declared.instruction.Instr.{Instr}
use Rattle.sig_program.specs.declared.instruction.Instr.TheVariants as instr
use Rattle.sig_program.specs.declared.instruction.After.{After}
use Rattle.sig_program.specs.Scripts.{Declared, AreMarked, IsInstrWithin, IsWithin}
use Rattle.sig_model.specs.ProcessState.{ProcessState}
use Rattle.sig_model.specs.Executing.{ref_in, using_ref, marked_start, from_mark, from_oldest, hit_from, taking, receiving, exec_body, executing, executing_whole, IsWaiting, SkipsNoneAt, SkipsNone}
use Rattle.sig_model.specs.Finishing.{finished_exec}
use Rattle.sig_model.specs.Running.{Running, advanced, can_exec, exec_next, exec_next_whole}
use Rattle.sig_model.proofs.Lookups.{at_place}
use Rattle.sig_model.proofs.Waiting.{waiting_iff}
use Rattle.sig_model.proofs.Guards.{exec_due}

ref_in_tells : (t : Term) (r : Ref) → ref_in t ≡ Some r → t ≡ term.Ref r
ref_in_tells (term.Ref q) r e = ap (λ p. term.Ref p) (same_Some q r e)
ref_in_tells _ r e = absurd (none-some r e)

-- each clause of a receive with a marker asks for the marker's reference
pub asks : (env : Environment) (using : Option Var) (clauses : List Clause) (r : Ref) → AreMarked using clauses → using_ref env using ≡ Some r → AskFor env r clauses
asks env None clauses r marked e = absurd (none-some r e)
asks env (Some x) clauses r marked e =
    All-weaker (λ (c : Clause). pins c.pattern x ≡ true) (λ (c : Clause). (y : Var) × (pins c.pattern y ≡ true) × (value_of_var env y.0 ≡ term.Ref r))
    (λ c pinned. (x, pinned, ref_in_tells (value_of_var env x.0) r e)) clauses marked

none_behind : (o : Option Hit) → o ≡ option_map (behind_messages 0) o
none_behind None = refl
none_behind (Some h) = let e : h.at ≡ h.at + 0 = omega arith in ap (λ (n : ℕ). Some (record h { at = n })) e

module _ (p : Declared) (s : ProcessState) where
  abbrev terms : List Term
  terms = terms_of s.tables.inbox.messages

  -- no message before the start holds the reference
  abbrev Skips : ℕ → Ref → Type 0
  Skips start r = All (λ (t : Term). holds r t ≡ false) (take start terms)

  module _ (using : Option Var) (clauses : List Clause) where
    abbrev start : ℕ
    start = marked_start s using

    within : start ≤ length terms
    within = omega (arith, start_within s.tables.inbox (using_ref s.tables.env using), length-map s.tables.inbox.messages (λ (m : ℕ × Term). m.1))

    skipped : (o : Option Ref) → using_ref s.tables.env using ≡ o → AreMarked using clauses → IfSome o (Skips start) → hit_from 0 clauses s ≡ option_map (behind_messages start) (hit_from start clauses s)
    skipped None e marked none =
        subst (λ n. hit_from 0 clauses s ≡ option_map (behind_messages n) (hit_from n clauses s)) (sym (ap (start_of s.tables.inbox) e)) (none_behind (hit_from 0 clauses s))
    skipped (Some r) e marked none =
        ap (hit clauses s.tables.env) (sym (take-append-drop start terms))
        ∙ older_skipped r s.tables.env clauses (take start terms) (drop start terms) (asks s.tables.env using clauses r marked e) none
        ∙ ap (λ n. option_map (behind_messages n) (hit_from start clauses s)) (length-take-le start terms within)

    same_row : (after : Option After) (n : ℕ) (o : Option Hit) → receiving p s after n 0 (option_map (behind_messages n) o) ≡ receiving p s after n n o
    same_row after n (Some h) = let e : 0 + (h.at + n) ≡ n + h.at = omega arith in ap (λ (at : ℕ). Some (taking p s n at h)) e
    same_row (Some after) n None = refl
    same_row None n None = refl

    same_receive : (after : Option After) → AreMarked using clauses → IfSome (using_ref s.tables.env using) (Skips start) →
        receiving p s after start 0 (hit_from 0 clauses s) ≡ receiving p s after start start (hit_from start clauses s)
    same_receive after marked none = ap (receiving p s after start 0) (skipped (using_ref s.tables.env using) refl marked none) ∙ same_row after start (hit_from start clauses s)

  same_body : (o : Option Instr) → IfSome o (IsInstrWithin (length p.labels)) → SkipsNoneAt s o → exec_body from_oldest p s o ≡ exec_body from_mark p s o
  same_body (Some (instr.Receive r)) lawful none = same_receive r.using r.clauses r.after lawful.3 none
  same_body _ lawful none = refl

  pub whole_same : IsWithin p → SkipsNone p s → executing_whole p s ≡ executing p s
  unfolding executing executing_whole
  whole_same w none = same_body (slice_get p.instrs (s.counts.place - 1)) (at_place (IsInstrWithin (length p.labels)) p.instrs (s.counts.place - 1) w.lawful) none

-- the process goes on alike
pub next_same : (r : Running) → IsWithin r.proc → SkipsNone r.proc r.state → exec_next_whole r ≡ exec_next r
unfolding exec_next exec_next_whole
next_same r w none = ap (λ body. cond (can_exec r) (option_map (advanced r) (option_map (finished_exec r.pid r.state) body)) None) (whole_same r.proc r.state w none)

-- where the process waits, it doesn't go on
pub waits_next : (r : Running) → can_exec r ≡ true → IsWaiting r.proc r.state → exec_next r ≡ None
waits_next r can w = exec_due r can ∙ ap (option_map (advanced r)) (ap (option_map (finished_exec r.pid r.state)) ((waiting_iff r.proc r.state).1 w))
