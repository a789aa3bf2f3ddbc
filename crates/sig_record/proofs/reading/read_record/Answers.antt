use Rattle.std.proofs.Common.{◌≡◌, sym, ◌∙◌, Err}
use Rattle.sig_record.specs.declared.refusal.Refusal.TheVariants as refused
use Rattle.sig_record.specs.RecordLines.{record_lines}
use Rattle.sig_record.specs.RecordText.{record_text}
use Rattle.sig_record.specs.ReadableRecord.{IsReadableRecord}
use Rattle.sig_record.proofs.RecordLaws.{no_text, one_record}
use Rattle.sig_record.proofs.RecordFaults.{is_read, read_none, told_is_fault, fault_is_told}
use Rattle.sig_record.proofs.Refused.{bad_is_err}
use Rattle.sig_record.proofs.reading.read_record.Goals as goal

pub returns-in-Ok-clause-found : goal.returns-in-Ok-clause-found
returns-in-Ok-clause-found c = is_read c.args.bytes.now c.in-Ok.reports.items c.in-Ok.ensures

pub returns-in-Err-Bad-clause-bad : goal.returns-in-Err-Bad-clause-bad
returns-in-Err-Bad-clause-bad c =
    let bad : c.in-Err-Bad.field-0 ≡ refused.Bad c.in-Err-Bad.left = cc c.in-Err-Bad.field-0-is in
    let here : record_lines c.args.bytes.now ≡ Err c.in-Err-Bad.left = bad_is_err c.in-Err-Bad.field-0 c.in-Err-Bad.left (record_lines c.args.bytes.now) c.in-Err-Bad.ensures bad in
    λ line is reports readable. no_text c.args.bytes.now (read_none c.args.bytes.now c.in-Err-Bad.left here) reports readable

pub returns-in-Ok-clause-again : goal.returns-in-Ok-clause-again
returns-in-Ok-clause-again c =
    let told : IsReadableRecord c.in-Ok.reports.items × (c.args.bytes.now ≡ record_text c.in-Ok.reports.items) =
    is_read c.args.bytes.now c.in-Ok.reports.items c.in-Ok.ensures in
    λ reports readable text. one_record c.in-Ok.reports.items reports told.0 readable (sym told.1 ∙ text)

pub returns-in-Err-Bad-clause-again : goal.returns-in-Err-Bad-clause-again
returns-in-Err-Bad-clause-again c =
    let bad : c.in-Err-Bad.field-0 ≡ refused.Bad c.in-Err-Bad.left = cc c.in-Err-Bad.field-0-is in
    let here : record_lines c.args.bytes.now ≡ Err c.in-Err-Bad.left = bad_is_err c.in-Err-Bad.field-0 c.in-Err-Bad.left (record_lines c.args.bytes.now) c.in-Err-Bad.ensures bad in
    λ reports readable text. no_text c.args.bytes.now (read_none c.args.bytes.now c.in-Err-Bad.left here) reports readable text

pub returns-in-Err-Bad-clause-line : goal.returns-in-Err-Bad-clause-line
returns-in-Err-Bad-clause-line c =
    let bad : c.in-Err-Bad.field-0 ≡ refused.Bad c.in-Err-Bad.left = cc c.in-Err-Bad.field-0-is in
    let here : record_lines c.args.bytes.now ≡ Err c.in-Err-Bad.left = bad_is_err c.in-Err-Bad.field-0 c.in-Err-Bad.left (record_lines c.args.bytes.now) c.in-Err-Bad.ensures bad in
    λ line is. told_is_fault _ c.args.bytes.now c.in-Err-Bad.left c.line_at.result line here c.line_at.ensures is

pub returns-in-Ok-clause-told : goal.returns-in-Ok-clause-told
returns-in-Ok-clause-told c =
    let told : IsReadableRecord c.in-Ok.reports.items × (c.args.bytes.now ≡ record_text c.in-Ok.reports.items) =
    is_read c.args.bytes.now c.in-Ok.reports.items c.in-Ok.ensures in
    λ line fault none. none c.in-Ok.reports.items told.0 told.1

pub returns-in-Err-Bad-clause-told : goal.returns-in-Err-Bad-clause-told
returns-in-Err-Bad-clause-told c =
    let bad : c.in-Err-Bad.field-0 ≡ refused.Bad c.in-Err-Bad.left = cc c.in-Err-Bad.field-0-is in
    let here : record_lines c.args.bytes.now ≡ Err c.in-Err-Bad.left = bad_is_err c.in-Err-Bad.field-0 c.in-Err-Bad.left (record_lines c.args.bytes.now) c.in-Err-Bad.ensures bad in
    λ line fault none. fault_is_told c.args.bytes.now c.in-Err-Bad.left c.line_at.result line here c.line_at.ensures fault
