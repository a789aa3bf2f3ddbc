-- For the same bytes one status is due.
use Rattle.std.proofs.Common.{◌≡◌, ℕ, List, Result, Ok, Err, refl, sym, ap, ◌∙◌, subst, arith}
use Rattle.sig_program.specs.Scripts.{Program}
use Rattle.sig_tokens.specs.Faults.{Fault}
use Rattle.sig_tokens.specs.declared.fault.FaultKind.{FaultKind}
use Rattle.sig_reader.specs.Grammar.{script_of}
use Rattle.sig_record.specs.declared.report.Report.{Report}
use Rattle.sig_record.proofs.OneFault.{one_fault}
use Rattle.sig_record.proofs.RecordLaws.{one_record}
use Rattle.sig_record.specs.RunRecord.{IsOfSettledRun}
use Rattle.sig_check.specs.declared.verdict.Verdict.{Verdict}
use Rattle.sig_check.specs.declared.verdict.Verdict.TheVariants as verdict
use Rattle.sig_check.specs.Verdicts.{IsVerdict}
use Rattle.sig_check.proofs.OneVerdict.{one_verdict}
use Rattle.sig_edge.specs.Streams.{IsRefused}
use Rattle.sig_tool.specs.declared.status.ToolStatus.{ToolStatus}
use Rattle.sig_tool.specs.declared.status.ToolStatus.TheVariants.{Done, BadScript, Usage, ReadFault, WriteFault, Memory, No, BadRecord, TooLong, NoEvent, BadCall}
use Rattle.sig_tool.specs.declared.command.Command.{Command}
use Rattle.sig_tool.specs.declared.command.Command.TheVariants.{Check, Replay, Links, Before, Expand}
use Rattle.sig_tool.specs.Commands.{HasEvents, LacksEvent}
use Rattle.sig_tool.specs.Split.{script_part, record_part}
use Rattle.sig_tool.specs.Inputs.{IsPair}
use Rattle.sig_tool.specs.Answers.{IsDue, IsRecordDue}
use Rattle.sig_tool.proofs.CallLemmas.{one_calls_due}

-- the status that says a verdict
abbrev status_of : Verdict → ToolStatus
status_of verdict.Yes = Done
status_of (verdict.No event) = No event

-- a text spells one script, or is refused in one way
one_script : (text : List ℕ) (a b : Program) → script_of text ≡ Ok a → script_of text ≡ Ok b → a ≡ b
one_script text a b p q = cc

no_script : (text : List ℕ) (line : ℕ) (kind : FaultKind) (a : Program) → IsRefused line kind text → script_of text ≡ Ok a → ⊥
no_script text line kind a p q = cc

one_refusal : (text : List ℕ) (m n : ℕ) (j k : FaultKind) → IsRefused m j text → IsRefused n k text → BadScript m j ≡ BadScript n k
one_refusal text m n j k p q =
    let a : Fault = record { line = m; kind = j } in
    let b : Fault = record { line = n; kind = k } in
    let same : ◌≡◌ {A = Result Program Fault} (Err a) (Err b) = sym p ∙ q in
    let one : a ≡ b = cc in
    ap (λ (f : Fault). BadScript f.line f.kind) one

-- a record has the events of which a command asks, or lacks one
not_both : (command : Command) (reports : List Report) → HasEvents command reports → LacksEvent command reports → ⊥
not_both Check reports h l = l
not_both Replay reports h l = l
not_both Links reports h l = l
not_both (Before first second) reports h l = l h
not_both Expand reports h l = l

yes_and_no : {C : Type 0} (event : ℕ) → verdict.Yes ≡ verdict.No event → C
yes_and_no event h = cc

module _ (command : Command) (bytes : List ℕ) where
  -- what the bytes spell has this verdict
  abbrev HasVerdict : Verdict → Type 0
  HasVerdict v = (script : Program) × (reports : List Report) × IsPair bytes script reports × IsVerdict script reports v

  the_verdict : (v w : Verdict) → HasVerdict v → HasVerdict w → v ≡ w
  the_verdict v w p q =
      let script : p.0 ≡ q.0 = one_script (script_part bytes) p.0 q.0 p.2.spelled q.2.spelled in
      let reports : p.1 ≡ q.1 = one_record p.1 q.1 p.2.readable q.2.readable (sym p.2.printed ∙ q.2.printed) in
      one_verdict q.0 q.1 v w (subst (λ (s : Program). IsVerdict s q.1 v) script (subst (λ (rs : List Report). IsVerdict p.0 rs v) reports p.3)) q.3

  -- of a settled run's record
  of_settled : (script : Program) × (reports : List Report) × IsPair bytes script reports × IsOfSettledRun script reports × HasEvents command reports → HasVerdict verdict.Yes
  of_settled h = (h.0, h.1, h.2, h.3)

  of_lacking : IsRecordDue command bytes NoEvent → HasVerdict verdict.Yes
  of_lacking h = (h.0, h.1, h.2, h.3)

  has_and_lacks : IsRecordDue command bytes Done → IsRecordDue command bytes NoEvent → ⊥
  has_and_lacks p q =
      let reports : p.1 ≡ q.1 = one_record p.1 q.1 p.2.readable q.2.readable (sym p.2.printed ∙ q.2.printed) in
      not_both command q.1 (subst (λ (rs : List Report). HasEvents command rs) reports p.4) q.4

  by_verdict : (v : Verdict) → (IsRecordDue command bytes NoEvent → ⊥) → (b : ToolStatus) → HasVerdict v → IsRecordDue command bytes b → status_of v ≡ b
  by_verdict v apart Done h q = ap status_of (the_verdict v verdict.Yes h (of_settled q))
  by_verdict v apart (BadScript line kind) h q = absurd (no_script (script_part bytes) line kind h.0 q.1 h.2.spelled)
  by_verdict v apart Usage h q = absurd q
  by_verdict v apart ReadFault h q = absurd q
  by_verdict v apart WriteFault h q = absurd q
  by_verdict v apart Memory h q = absurd q
  by_verdict v apart (No event) h q = ap status_of (the_verdict v (verdict.No event) h q)
  by_verdict v apart (BadRecord line) h q = absurd (q.2.none h.1 h.2.readable h.2.printed)
  by_verdict v apart TooLong h q = absurd (omega (arith, h.2.short, q))
  by_verdict v apart NoEvent h q = absurd (apart q)
  by_verdict v apart (BadCall line kind) h q = absurd q

  by_record : (n : ℕ) (b : ToolStatus) → IsRecordDue command bytes (BadRecord n) → IsRecordDue command bytes b → BadRecord n ≡ b
  by_record n Done h q = absurd (h.2.none q.1 q.2.readable q.2.printed)
  by_record n (BadScript line kind) h q = absurd (no_script (script_part bytes) line kind h.1.0 q.1 h.1.1)
  by_record n Usage h q = absurd q
  by_record n ReadFault h q = absurd q
  by_record n WriteFault h q = absurd q
  by_record n Memory h q = absurd q
  by_record n (No event) h q = absurd (h.2.none q.1 q.2.readable q.2.printed)
  by_record n (BadRecord line) h q = ap (λ (l : ℕ). BadRecord l) (one_fault (record_part bytes) n line h.2.first q.2.first)
  by_record n TooLong h q = absurd (omega (arith, h.0, q))
  by_record n NoEvent h q = absurd (h.2.none q.1 q.2.readable q.2.printed)
  by_record n (BadCall line kind) h q = absurd q

  by_script : (n : ℕ) (k : FaultKind) (b : ToolStatus) → IsRecordDue command bytes (BadScript n k) → IsRecordDue command bytes b → BadScript n k ≡ b
  by_script n k Done h q = absurd (no_script (script_part bytes) n k q.0 h.1 q.2.spelled)
  by_script n k (BadScript line kind) h q = one_refusal (script_part bytes) n line k kind h.1 q.1
  by_script n k Usage h q = absurd q
  by_script n k ReadFault h q = absurd q
  by_script n k WriteFault h q = absurd q
  by_script n k Memory h q = absurd q
  by_script n k (No event) h q = absurd (no_script (script_part bytes) n k q.0 h.1 q.2.spelled)
  by_script n k (BadRecord line) h q = absurd (no_script (script_part bytes) n k q.1.0 h.1 q.1.1)
  by_script n k TooLong h q = absurd (omega (arith, h.0, q))
  by_script n k NoEvent h q = absurd (no_script (script_part bytes) n k q.0 h.1 q.2.spelled)
  by_script n k (BadCall line kind) h q = absurd q

  by_length : (b : ToolStatus) → IsRecordDue command bytes TooLong → IsRecordDue command bytes b → TooLong ≡ b
  by_length Done h q = absurd (omega (arith, h, q.2.short))
  by_length (BadScript line kind) h q = absurd (omega (arith, h, q.0))
  by_length Usage h q = absurd q
  by_length ReadFault h q = absurd q
  by_length WriteFault h q = absurd q
  by_length Memory h q = absurd q
  by_length (No event) h q = absurd (omega (arith, h, q.2.short))
  by_length (BadRecord line) h q = absurd (omega (arith, h, q.0))
  by_length TooLong h q = refl
  by_length NoEvent h q = absurd (omega (arith, h, q.2.short))
  by_length (BadCall line kind) h q = absurd q

  by_missing : (b : ToolStatus) → IsRecordDue command bytes NoEvent → IsRecordDue command bytes b → NoEvent ≡ b
  by_missing Done h q = absurd (has_and_lacks q h)
  by_missing (BadScript line kind) h q = absurd (no_script (script_part bytes) line kind h.0 q.1 h.2.spelled)
  by_missing Usage h q = absurd q
  by_missing ReadFault h q = absurd q
  by_missing WriteFault h q = absurd q
  by_missing Memory h q = absurd q
  by_missing (No event) h q = yes_and_no event (the_verdict verdict.Yes (verdict.No event) (of_lacking h) q)
  by_missing (BadRecord line) h q = absurd (q.2.none h.1 h.2.readable h.2.printed)
  by_missing TooLong h q = absurd (omega (arith, h.2.short, q))
  by_missing NoEvent h q = refl
  by_missing (BadCall line kind) h q = absurd q

  one_record_due : (a b : ToolStatus) → IsRecordDue command bytes a → IsRecordDue command bytes b → a ≡ b
  one_record_due Done b p q = by_verdict verdict.Yes (λ l. has_and_lacks p l) b (of_settled p) q
  one_record_due (BadScript line kind) b p q = by_script line kind b p q
  one_record_due Usage b p q = absurd p
  one_record_due ReadFault b p q = absurd p
  one_record_due WriteFault b p q = absurd p
  one_record_due Memory b p q = absurd p
  one_record_due (No event) b p q = by_verdict (verdict.No event) (λ l. yes_and_no event (the_verdict verdict.Yes (verdict.No event) (of_lacking l) p)) b p q
  one_record_due (BadRecord line) b p q = by_record line b p q
  one_record_due TooLong b p q = by_length b p q
  one_record_due NoEvent b p q = by_missing b p q
  one_record_due (BadCall line kind) b p q = absurd p

pub one_due : (command : Command) (bytes : List ℕ) (a b : ToolStatus) → IsDue command bytes a → IsDue command bytes b → a ≡ b
one_due Check bytes a b p q = one_record_due Check bytes a b p q
one_due Replay bytes a b p q = one_record_due Replay bytes a b p q
one_due Links bytes a b p q = one_record_due Links bytes a b p q
one_due (Before first second) bytes a b p q = one_record_due (Before first second) bytes a b p q
one_due Expand bytes a b p q = one_calls_due bytes a b p q
