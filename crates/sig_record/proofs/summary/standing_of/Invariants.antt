use Rattle.std.proofs.Common.{◌≡◌, ◌≤◌, take}
use Rattle.std.specs.List.{count_by}
use Rattle.sig_record.specs.declared.report.Report.{Report}
use Rattle.sig_record.specs.SettledRecord.{is_cut}
use Rattle.sig_record.specs.Summarizing.{is_ended, is_waiting}
use Rattle.sig_record.proofs.summary.standing_of.Given as goal

abbrev pub invariant-loop-report : goal.invariant-loop-report
invariant-loop-report l = record {
  ended : l.standing.ended ≡ count_by (λ (r : Report). is_ended r.state) (take l.report-index l.reports);
  waiting : l.standing.waiting ≡ count_by (λ (r : Report). is_waiting r.state) (take l.report-index l.reports);
  cut : l.standing.cut ≡ count_by (λ (r : Report). is_cut r.state) (take l.report-index l.reports);
  within : (l.standing.ended ≤ l.report-index) × (l.standing.waiting ≤ l.report-index) × (l.standing.cut ≤ l.report-index);
}
