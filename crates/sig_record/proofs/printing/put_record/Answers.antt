use Rattle.std.proofs.Common.{◌∙◌, ap, List, ℕ, ◌++◌, append_assoc}
use Rattle.std.specs.List.{flat_map}
use Rattle.std.specs.Prelude.{codes}
use Rattle.sig_record.specs.RecordText.{report_text}
use Rattle.sig_record.proofs.printing.put_record.Goals as goal

pub returns-clause-text : goal.returns-clause-text
returns-clause-text c =
    let text : List ℕ = flat_map report_text c.args.reports.now in (
      c.in_ok-put_each.ensures.text.0
          ∙ ap (λ (before : List ℕ). before ++ text) c.in_ok-put.ensures.0
          ∙ append_assoc c.args.into.now.items (codes "sigrecord 1\n") text,
      tt,
    )
