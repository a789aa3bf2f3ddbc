-- For the same bytes one status is due.
use Rattle.std.proofs.Common.{◌≡◌, ◌⊎◌, inl, inr, ℕ, ◌<◌, List, length, Result, Ok, Err, refl, sym, ap, ◌∙◌, subst, arith}
use Rattle.std.specs.List.{filter}
use Rattle.std.proofs.lemmas.Bool.{false≢true}
use Rattle.sig_edge.specs.Streams.{IsRefused}
use Rattle.sig_program.specs.Scripts.{Program}
use Rattle.sig_tokens.specs.Faults.{Fault}
use Rattle.sig_tokens.specs.declared.fault.FaultKind.{FaultKind}
use Rattle.sig_reader.specs.Grammar.{script_of}
use Rattle.sig_record.specs.declared.report.Report.{Report}
use Rattle.sig_record.proofs.RecordLaws.{one_record}
use Rattle.sig_record.specs.declared.merging.MergedAt.{MergedAt}
use Rattle.sig_record.specs.RunRecord.{IsOfSettledRun}
use Rattle.sig_check.proofs.Orders.{one_order}
use Rattle.sig_chart.specs.Shown.{is_shown}
use Rattle.sig_tool.specs.declared.command.Command.TheVariants.{Check}
use Rattle.sig_tool.specs.declared.given.TheConstants.{MOST_INPUT}
use Rattle.sig_tool.specs.declared.status.ToolStatus.{ToolStatus}
use Rattle.sig_tool.specs.declared.status.ToolStatus.TheVariants as tool
use Rattle.sig_tool.specs.Inputs.{IsPair}
use Rattle.sig_tool.specs.Answers.{IsDue as IsDueOfTool}
use Rattle.sig_tool.proofs.DueLemmas.{one_due as one_of_tool}
use Rattle.sig_view.specs.declared.command.Command.{Command}
use Rattle.sig_view.specs.declared.command.Command.TheVariants.{Chart, Concurrent, Outcomes, OutcomeRecord}
use Rattle.sig_view.specs.declared.status.ViewStatus.{ViewStatus}
use Rattle.sig_view.specs.declared.status.ViewStatus.TheVariants.{Done, BadScript, Usage, ReadFault, WriteFault, Memory, No, BadRecord, TooLong, NoEvent, TooManyEvents, NoOutcome, NotFound, Unfinished}
use Rattle.sig_view.specs.Commands.{IsFit, LacksEvent, HasTooMany}
use Rattle.sig_view.specs.Statuses.{of_tool}
use Rattle.sig_view.specs.Outcomes.{IsNoScript, IsSpelled}
use Rattle.sig_view.specs.Answers.{IsDecided, IsDue, IsListDue, IsRecordDue}

-- a text spells a script, or is refused in one way
no_script : (text : List ℕ) (line : ℕ) (kind : FaultKind) (a : Program) → IsRefused line kind text → script_of text ≡ Ok a → ⊥
no_script text line kind a p q = cc

one_refusal : (text : List ℕ) (m n : ℕ) (j k : FaultKind) → IsRefused m j text → IsRefused n k text → BadScript m j ≡ BadScript n k
one_refusal text m n j k p q =
    let a : Fault = record { line = m; kind = j } in
    let b : Fault = record { line = n; kind = k } in
    let same : ◌≡◌ {A = Result Program Fault} (Err a) (Err b) = sym p ∙ q in
    let one : a ≡ b = cc in
    ap (λ (f : Fault). BadScript f.line f.kind) one

-- a command is fit for a record, or not so
fit_lacks : (command : Command) (reports : List Report) → IsFit command reports → LacksEvent command reports → ⊥
fit_lacks (Chart window) reports p q = q
fit_lacks (Concurrent event) reports p q = false≢true (sym q ∙ p)
fit_lacks (Outcomes states) reports p q = q
fit_lacks (OutcomeRecord states number) reports p q = q

fit_many : (command : Command) (reports : List Report) → IsFit command reports → HasTooMany command reports → ⊥
fit_many (Chart window) reports p q =
    let order : p.1.order ≡ q.of_window.order = one_order reports p.1.order q.of_window.order p.1.merged q.of_window.merged in
    let same : p.0 ≡ q.shown = p.1.those ∙ ap (λ (o : List MergedAt). filter (is_shown reports window) o) order ∙ sym q.of_window.those in
    omega (arith, ap length same, p.2, q.many)
fit_many (Concurrent event) reports p q = q
fit_many (Outcomes states) reports p q = q
fit_many (OutcomeRecord states number) reports p q = q

lacks_many : (command : Command) (reports : List Report) → LacksEvent command reports → HasTooMany command reports → ⊥
lacks_many (Chart window) reports p q = p
lacks_many (Concurrent event) reports p q = q
lacks_many (Outcomes states) reports p q = q
lacks_many (OutcomeRecord states number) reports p q = q

-- of one record one status is decided
module _ (command : Command) (reports : List Report) where
  by_fit : (b : ViewStatus) → IsFit command reports → IsDecided command reports b → Done ≡ b
  by_fit Done p q = refl
  by_fit (BadScript line kind) p q = absurd q
  by_fit Usage p q = absurd q
  by_fit ReadFault p q = absurd q
  by_fit WriteFault p q = absurd q
  by_fit Memory p q = absurd q
  by_fit (No event) p q = absurd q
  by_fit (BadRecord line) p q = absurd q
  by_fit TooLong p q = absurd q
  by_fit NoEvent p q = absurd (fit_lacks command reports p q)
  by_fit TooManyEvents p q = absurd (fit_many command reports p q)
  by_fit NoOutcome p q = absurd q
  by_fit (NotFound met) p q = absurd q
  by_fit (Unfinished states) p q = absurd q

  by_lack : (b : ViewStatus) → LacksEvent command reports → IsDecided command reports b → NoEvent ≡ b
  by_lack Done p q = absurd (fit_lacks command reports q p)
  by_lack (BadScript line kind) p q = absurd q
  by_lack Usage p q = absurd q
  by_lack ReadFault p q = absurd q
  by_lack WriteFault p q = absurd q
  by_lack Memory p q = absurd q
  by_lack (No event) p q = absurd q
  by_lack (BadRecord line) p q = absurd q
  by_lack TooLong p q = absurd q
  by_lack NoEvent p q = refl
  by_lack TooManyEvents p q = absurd (lacks_many command reports p q)
  by_lack NoOutcome p q = absurd q
  by_lack (NotFound met) p q = absurd q
  by_lack (Unfinished states) p q = absurd q

  by_many : (b : ViewStatus) → HasTooMany command reports → IsDecided command reports b → TooManyEvents ≡ b
  by_many Done p q = absurd (fit_many command reports q p)
  by_many (BadScript line kind) p q = absurd q
  by_many Usage p q = absurd q
  by_many ReadFault p q = absurd q
  by_many WriteFault p q = absurd q
  by_many Memory p q = absurd q
  by_many (No event) p q = absurd q
  by_many (BadRecord line) p q = absurd q
  by_many TooLong p q = absurd q
  by_many NoEvent p q = absurd (lacks_many command reports q p)
  by_many TooManyEvents p q = refl
  by_many NoOutcome p q = absurd q
  by_many (NotFound met) p q = absurd q
  by_many (Unfinished states) p q = absurd q

  decided : (a b : ViewStatus) → IsDecided command reports a → IsDecided command reports b → a ≡ b
  decided Done b p q = by_fit b p q
  decided (BadScript line kind) b p q = absurd p
  decided Usage b p q = absurd p
  decided ReadFault b p q = absurd p
  decided WriteFault b p q = absurd p
  decided Memory b p q = absurd p
  decided (No event) b p q = absurd p
  decided (BadRecord line) b p q = absurd p
  decided TooLong b p q = absurd p
  decided NoEvent b p q = by_lack b p q
  decided TooManyEvents b p q = by_many b p q
  decided NoOutcome b p q = absurd p
  decided (NotFound met) b p q = absurd p
  decided (Unfinished states) b p q = absurd p

-- what the tool would say of the input to `check`
abbrev to_tool : ViewStatus → ToolStatus
to_tool Done = tool.Done
to_tool (BadScript line kind) = tool.BadScript line kind
to_tool Usage = tool.Usage
to_tool ReadFault = tool.ReadFault
to_tool WriteFault = tool.WriteFault
to_tool Memory = tool.Memory
to_tool (No event) = tool.No event
to_tool (BadRecord line) = tool.BadRecord line
to_tool TooLong = tool.TooLong
to_tool NoEvent = tool.Done
to_tool TooManyEvents = tool.Done
to_tool NoOutcome = tool.Done
to_tool (NotFound met) = tool.Done
to_tool (Unfinished states) = tool.Done

module _ (command : Command) (bytes : List ℕ) where
  -- the bytes spell the record of a settled run, and this is decided of it
  abbrev Decided : ViewStatus → Type 0
  Decided status = (script : Program) × (reports : List Report) × IsPair bytes script reports × IsOfSettledRun script reports × IsDecided command reports status

  -- the status says what the tool does, which isn't that all is done
  record IsTools (status : ViewStatus) : Type 0 where
    back : of_tool (to_tool status) ≡ status
    other : to_tool status ≡ tool.Done → ⊥

  same_tool : (a : ViewStatus) → IsRecordDue command bytes a → IsDueOfTool Check bytes (to_tool a)
  same_tool Done h = (h.0, h.1, h.2, h.3, tt)
  same_tool (BadScript line kind) h = h
  same_tool Usage h = absurd h.4
  same_tool ReadFault h = absurd h.4
  same_tool WriteFault h = absurd h.4
  same_tool Memory h = absurd h.4
  same_tool (No event) h = h
  same_tool (BadRecord line) h = h
  same_tool TooLong h = h
  same_tool NoEvent h = (h.0, h.1, h.2, h.3, tt)
  same_tool TooManyEvents h = (h.0, h.1, h.2, h.3, tt)
  same_tool NoOutcome h = absurd h.4
  same_tool (NotFound met) h = absurd h.4
  same_tool (Unfinished states) h = absurd h.4

  which : (a : ViewStatus) → IsRecordDue command bytes a → IsTools a ⊎ ((to_tool a ≡ tool.Done) × Decided a)
  which Done h = inr (refl, h)
  which (BadScript line kind) h = inl (record { back = refl; other = λ e. cc })
  which Usage h = absurd h.4
  which ReadFault h = absurd h.4
  which WriteFault h = absurd h.4
  which Memory h = absurd h.4
  which (No event) h = inl (record { back = refl; other = λ e. cc })
  which (BadRecord line) h = inl (record { back = refl; other = λ e. cc })
  which TooLong h = inl (record { back = refl; other = λ e. cc })
  which NoEvent h = inr (refl, h)
  which TooManyEvents h = inr (refl, h)
  which NoOutcome h = absurd h.4
  which (NotFound met) h = absurd h.4
  which (Unfinished states) h = absurd h.4

  one_decided : (a b : ViewStatus) → Decided a → Decided b → a ≡ b
  one_decided a b p q =
      let reports : p.1 ≡ q.1 = one_record p.1 q.1 p.2.readable q.2.readable (sym p.2.printed ∙ q.2.printed) in
      decided command q.1 a b (subst (λ (rs : List Report). IsDecided command rs a) reports p.4) q.4

  one_record_due : (a b : ViewStatus) → IsRecordDue command bytes a → IsRecordDue command bytes b → a ≡ b
  one_record_due a b p q = by (which a p) (which b q)
    where
      same : to_tool a ≡ to_tool b
      same = one_of_tool Check bytes (to_tool a) (to_tool b) (same_tool a p) (same_tool b q)

      by : IsTools a ⊎ ((to_tool a ≡ tool.Done) × Decided a) → IsTools b ⊎ ((to_tool b ≡ tool.Done) × Decided b) → a ≡ b
      by (inl v) (inl w) = sym v.back ∙ ap of_tool same ∙ w.back
      by (inl v) (inr w) = absurd (v.other (same ∙ w.0))
      by (inr v) (inl w) = absurd (w.other (sym same ∙ v.0))
      by (inr v) (inr w) = one_decided a b v.1 w.1

-- ---- of a script alone

module _ (bytes : List ℕ) where
  by_refusal : (n : ℕ) (k : FaultKind) (b : ViewStatus) → IsNoScript bytes (BadScript n k) → IsNoScript bytes b → BadScript n k ≡ b
  by_refusal n k Done p q = absurd q
  by_refusal n k (BadScript line kind) p q = one_refusal bytes n line k kind p.1 q.1
  by_refusal n k Usage p q = absurd q
  by_refusal n k ReadFault p q = absurd q
  by_refusal n k WriteFault p q = absurd q
  by_refusal n k Memory p q = absurd q
  by_refusal n k (No event) p q = absurd q
  by_refusal n k (BadRecord line) p q = absurd q
  by_refusal n k TooLong p q = absurd (omega (arith, p.0, q))
  by_refusal n k NoEvent p q = absurd q
  by_refusal n k TooManyEvents p q = absurd q
  by_refusal n k NoOutcome p q = absurd q
  by_refusal n k (NotFound met) p q = absurd q
  by_refusal n k (Unfinished states) p q = absurd q

  by_length : (b : ViewStatus) → MOST_INPUT < length bytes → IsNoScript bytes b → TooLong ≡ b
  by_length Done p q = absurd q
  by_length (BadScript line kind) p q = absurd (omega (arith, p, q.0))
  by_length Usage p q = absurd q
  by_length ReadFault p q = absurd q
  by_length WriteFault p q = absurd q
  by_length Memory p q = absurd q
  by_length (No event) p q = absurd q
  by_length (BadRecord line) p q = absurd q
  by_length TooLong p q = refl
  by_length NoEvent p q = absurd q
  by_length TooManyEvents p q = absurd q
  by_length NoOutcome p q = absurd q
  by_length (NotFound met) p q = absurd q
  by_length (Unfinished states) p q = absurd q

  pub one_no_script : (a b : ViewStatus) → IsNoScript bytes a → IsNoScript bytes b → a ≡ b
  one_no_script Done b p q = absurd p
  one_no_script (BadScript line kind) b p q = by_refusal line kind b p q
  one_no_script Usage b p q = absurd p
  one_no_script ReadFault b p q = absurd p
  one_no_script WriteFault b p q = absurd p
  one_no_script Memory b p q = absurd p
  one_no_script (No event) b p q = absurd p
  one_no_script (BadRecord line) b p q = absurd p
  one_no_script TooLong b p q = by_length b p q
  one_no_script NoEvent b p q = absurd p
  one_no_script TooManyEvents b p q = absurd p
  one_no_script NoOutcome b p q = absurd p
  one_no_script (NotFound met) b p q = absurd p
  one_no_script (Unfinished states) b p q = absurd p

  -- bytes that spell a script are not refused
  pub spelled_once : (script : Program) (b : ViewStatus) → IsSpelled bytes script → IsNoScript bytes b → ⊥
  spelled_once script Done h q = q
  spelled_once script (BadScript line kind) h q = no_script bytes line kind script q.1 h.spelled
  spelled_once script Usage h q = q
  spelled_once script ReadFault h q = q
  spelled_once script WriteFault h q = q
  spelled_once script Memory h q = q
  spelled_once script (No event) h q = q
  spelled_once script (BadRecord line) h q = q
  spelled_once script TooLong h q = omega (arith, h.short, q)
  spelled_once script NoEvent h q = q
  spelled_once script TooManyEvents h q = q
  spelled_once script NoOutcome h q = q
  spelled_once script (NotFound met) h q = q
  spelled_once script (Unfinished states) h q = q

  is_list : (b : ViewStatus) → IsListDue bytes b → (b ≡ Done) ⊎ IsNoScript bytes b
  is_list Done q = inl refl
  is_list (BadScript line kind) q = inr q
  is_list Usage q = inr q
  is_list ReadFault q = inr q
  is_list WriteFault q = inr q
  is_list Memory q = inr q
  is_list (No event) q = inr q
  is_list (BadRecord line) q = inr q
  is_list TooLong q = inr q
  is_list NoEvent q = inr q
  is_list TooManyEvents q = inr q
  is_list NoOutcome q = inr q
  is_list (NotFound met) q = inr q
  is_list (Unfinished states) q = inr q

  one_list_due : (a b : ViewStatus) → IsListDue bytes a → IsListDue bytes b → a ≡ b
  one_list_due a b p q = by (is_list a p) (is_list b q)
    where
      spelled : (c : ViewStatus) → c ≡ Done → IsListDue bytes c → (script : Program) × IsSpelled bytes script
      spelled c e h = subst (λ (s : ViewStatus). IsListDue bytes s) e h

      by : (a ≡ Done) ⊎ IsNoScript bytes a → (b ≡ Done) ⊎ IsNoScript bytes b → a ≡ b
      by (inl d) (inl e) = d ∙ sym e
      by (inl d) (inr n) = absurd (spelled_once (spelled a d p).0 b (spelled a d p).1 n)
      by (inr m) (inl e) = absurd (spelled_once (spelled b e q).0 a (spelled b e q).1 m)
      by (inr m) (inr n) = one_no_script a b m n

-- ---- of each command

pub one_due : (command : Command) (bytes : List ℕ) (a b : ViewStatus) → IsDue command bytes a → IsDue command bytes b → a ≡ b
one_due (Chart window) bytes a b p q = one_record_due (Chart window) bytes a b p q
one_due (Concurrent event) bytes a b p q = one_record_due (Concurrent event) bytes a b p q
one_due (Outcomes states) bytes a b p q = one_list_due bytes a b p q
one_due (OutcomeRecord states number) bytes a b p q = one_no_script bytes a b p q
