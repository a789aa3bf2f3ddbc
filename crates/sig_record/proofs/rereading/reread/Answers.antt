use Rattle.std.proofs.Common.{◌≡◌, ◌≢◌, ap, subst, List, [], ℕ, ◌++◌, ◌∙◌}
use Rattle.std.specs.Prelude.{IfOk, IsErrOf}
use Rattle.sig_record.specs.declared.refusal.RecordError.TheVariants as error
use Rattle.sig_record.specs.declared.report.Report.{Report}
use Rattle.sig_record.specs.RecordText.{record_text}
use Rattle.sig_record.specs.ReadableRecord.{IsReadableRecord}
use Rattle.sig_record.specs.Refusing.{TellsLine}
use Rattle.sig_record.specs.FaultLine.{IsFaultLine}
use Rattle.sig_record.proofs.SizedReads.{readable_by}
use Rattle.sig_record.proofs.rereading.reread.Goals as goal

-- what was printed behind nothing is the record's text
printed : {bytes text after : List ℕ} (own : List ℕ) → bytes ≡ text → text ≡ after ++ own → after ≡ [] → bytes ≡ own
printed own read put none = read ∙ put ∙ ap (λ (before : List ℕ). before ++ own) none

pub returns-clause-found : goal.returns-clause-found
returns-clause-found c =
    subst (λ (text : List ℕ). IfOk c.read_record.result (λ r. IsReadableRecord r × (text ≡ record_text r)))
    (printed (record_text c.args.given.now) c.as_slice.ensures.value c.in_ok-print_record.ensures.text c.new-text.ensures.items)
    c.read_record.ensures.found

pub returns-clause-bad : goal.returns-clause-bad
returns-clause-bad c =
    subst (λ (text : List ℕ). (line : ℕ) → IsErrOf c.read_record.result (error.BadRecord line) → (reports : List Report) → IsReadableRecord reports → text ≢ record_text reports)
    (printed (record_text c.args.given.now) c.as_slice.ensures.value c.in_ok-print_record.ensures.text c.new-text.ensures.items)
    c.read_record.ensures.bad

pub returns-clause-line : goal.returns-clause-line
returns-clause-line c =
    subst (λ (text : List ℕ). (line : ℕ) → IsErrOf c.read_record.result (error.BadRecord line) → IsFaultLine text line)
    (printed (record_text c.args.given.now) c.as_slice.ensures.value c.in_ok-print_record.ensures.text c.new-text.ensures.items)
    c.read_record.ensures.line

pub returns-clause-told : goal.returns-clause-told
returns-clause-told c =
    subst (λ (text : List ℕ). (line : ℕ) → IsFaultLine text line
    → ((reports : List Report) → IsReadableRecord reports → text ≢ record_text reports) → TellsLine line c.read_record.result)
    (printed (record_text c.args.given.now) c.as_slice.ensures.value c.in_ok-print_record.ensures.text c.new-text.ensures.items)
    c.read_record.ensures.told

pub returns-clause-again : goal.returns-clause-again
returns-clause-again c =
    λ sized. c.read_record.ensures.again c.args.given.now (readable_by c.args.given.now c.in_ok-print_record.ensures.readable sized)
    (printed (record_text c.args.given.now) c.as_slice.ensures.value c.in_ok-print_record.ensures.text c.new-text.ensures.items)
