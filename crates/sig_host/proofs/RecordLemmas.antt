-- What is printed of a run can be read back.
use Rattle.std.proofs.Common.{◌≡◌, ◌∙◌, ℕ, List, [], Bool, true, false, Option, Some, None, Result, Ok, Err, refl, sym, subst}
use Rattle.std.specs.Prelude.{IfOk, OnOk}
use Rattle.std.specs.declared.alloc.AllocError.{AllocError}
use Rattle.sig_base.specs.Flow.{Adds}
use Rattle.sig_program.specs.Scripts.{Program}
use Rattle.sig_reader.specs.Grammar.{script_of}
use Rattle.sig_edge.specs.Streams.{Reading, Spells, Writing}
use Rattle.sig_canon.specs.Generated.{generated}
use Rattle.sig_record.specs.declared.report.Report.{Report}
use Rattle.sig_record.specs.RunRecord.{IsOfSettledRun}
use Rattle.sig_record.specs.RecordFronts.{record_in}
use Rattle.sig_record.specs.RecordText.{record_text}
use Rattle.sig_record.specs.ReadableRecord.{CanBeReread, IsReadableRecord}
use Rattle.sig_record.specs.SizedRecord.{IsSizedRecord}
use Rattle.sig_record.proofs.RecordLaws.{one_record, record_again}
use Rattle.sig_record.proofs.SizedReads.{readable_by}
use Rattle.sig_host.specs.declared.status.Status.TheVariants.{Done}
use Rattle.sig_host.specs.declared.texts.Texts.{Texts}
use Rattle.sig_host.specs.Told.{text_in}
use Rattle.sig_host.specs.Answers.{AreTexts, IsAnswer, IsPrinted, IsRecordAlone, IsRecordOf, IsRun, summary_for}
use Rattle.sig_host.specs.ReadBack.{IsReadBack, IsScriptOf}

module _ (workers : ℕ) (script : Program) (asked : Bool) (reports : List Report) where
  are_texts : (t : Texts) → IsOfSettledRun script reports → (workers ≡ 1 → IsRecordAlone script reports) → IsReadableRecord reports
      → t.record.items ≡ record_text reports → text_in t.summary ≡ summary_for asked reports → AreTexts workers script asked t
  are_texts t run alone readable text summary = (reports, record { run = run; alone = alone; readable = readable }, text, summary)

  pub texts_kept : (result : Result Texts AllocError) → IsOfSettledRun script reports → (workers ≡ 1 → IsRecordAlone script reports)
      → IsSizedRecord reports → OnOk result (CanBeReread reports) → IfOk result (λ t. t.record.items ≡ record_text reports)
      → IfOk result (λ t. text_in t.summary ≡ summary_for asked reports) → IfOk result (AreTexts workers script asked)
  texts_kept (Ok t) run alone sized again text summary = are_texts t run alone (readable_by reports again sized) text summary
  texts_kept (Err e) run alone sized again text summary = tt

module _ (input output : List ℕ) (summary : Option (List ℕ)) where
  -- a printed record of a script
  abbrev Printed : ℕ → Program → Type 0
  Printed workers script = (reports : List Report) × IsRecordOf workers script reports × (output ≡ record_text reports)

  printed : (workers : ℕ) (script : Program) (asked : Bool) (w : Writing) → w.held ≡ Some [] → w.new ≡ Some output
      → IsPrinted workers script asked w summary → Printed workers script
  printed workers script asked w held new (_, (reports, run, added, _)) =
      let all : Some output ≡ Some (record_text reports) = sym new ∙ subst (λ (h : Option (List ℕ)). Adds h w.new (record_text reports)) held added in
      (reports, run, cc)

  spelled : (workers : ℕ) (r : Reading) (w : Writing) → r.left ≡ Some input → w.held ≡ Some [] → w.new ≡ Some output
      → (g : Option ℕ) → IsRun workers g r w Done summary → (script : Program) × IsScriptOf g input script × Printed workers script
  spelled workers r w left held new (Some calls) h = (generated calls, refl, printed workers (generated calls) true w held new h.1)
  spelled workers r w left held new None h =
      let found : (script : Program) × (script_of input ≡ Ok script) × IsPrinted workers script false w summary =
      subst (λ (l : Option (List ℕ)). Spells (record r { left = l }) (λ script. IsPrinted workers script false w summary)) left h.0 in
      (found.0, found.1, printed workers found.0 false w held new found.2)

  pub read_back : (words : List (List ℕ)) (r : Reading) (w : Writing) → r.left ≡ Some input → w.held ≡ Some [] → w.new ≡ Some output
      → IsAnswer words r w Done summary → IsReadBack words input output
  read_back words r w left held new (settings, are, run) =
      let found = spelled settings.workers r w left held new settings.generate run in
      let reports : List Report = found.2.0 in
      let readable : IsReadableRecord reports = found.2.1.readable in
      let text : output ≡ record_text reports = found.2.2 in
      record {
        settings = settings;
        asked = are;
        script = found.0;
        spelled = found.1;
        reports = reports;
        run = found.2.1;
        printed = text;
        again = subst (λ (bytes : List ℕ). record_in bytes ≡ Some reports) (sym text) (record_again reports readable);
        only = λ other reads same. one_record other reports reads readable (sym same ∙ text);
      }
