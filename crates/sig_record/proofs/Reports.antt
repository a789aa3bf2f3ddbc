-- The reports of the processes of a crew.
use Rattle.std.proofs.Common.{◌≡◌, List, [], ◌∷◌, ◌++◌, sym, ap, ◌∙◌}
use Rattle.std.proofs.lemmas.List.{map-append}
use Rattle.sig_process.specs.Standing.{Standing, runnings_of}
use Rattle.sig_record.specs.declared.report.Report.{Report}
use Rattle.sig_record.specs.RecordOf.{sorted_report, sorted_record}

-- one more report
pub one_more : (done : List Standing) (next : Standing) (reports after : List Report) (report : Report) → reports ≡ sorted_record (runnings_of done) →
    report ≡ sorted_report next.running → after ≡ reports ++ report ∷ [] → after ≡ sorted_record (runnings_of (done ++ next ∷ []))
one_more done next reports after report e f g =
    g ∙ ap (λ (xs : List Report). xs ++ report ∷ []) e ∙ ap (λ (x : Report). sorted_record (runnings_of done) ++ x ∷ []) f
    ∙ sym (ap sorted_record (map-append (λ (p : Standing). p.running) done (next ∷ [])) ∙ map-append sorted_report (runnings_of done) (runnings_of (next ∷ [])))
