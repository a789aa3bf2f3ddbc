use Rattle.std.proofs.Common.{List, ap, sym, subst, ◌∙◌}
use Rattle.std.specs.Prelude.{map}
use Rattle.sig_model.specs.Running.{Running}
use Rattle.sig_runs.specs.Crew.{crew_machine}
use Rattle.sig_model.specs.Machine.{rules_of}
use Rattle.sig_model.specs.CrewLaw.{IsLawfulCrew, whole_member}
use Rattle.sig_model.specs.Keeping.{IsPlaced}
use Rattle.sig_process.specs.Standing.{runnings_of}
use Rattle.sig_record.specs.RecordOf.{record_of, AreInOrder, IsByPid}
use Rattle.sig_record.specs.RunRecord.{IsRecordOfRun}
use Rattle.sig_record.specs.Records.{IsRecord}
use Rattle.sig_record.proofs.CountedLemmas.{counted_in_order}
use Rattle.sig_record.proofs.CountedCrews.{crew_counted}
use Rattle.sig_record.proofs.RunLemmas.{record_of_a_run}
use Rattle.sig_record.proofs.RecordLemmas.{record_kept, same_record}
use Rattle.sig_record.proofs.record.Record.gathered.Goals as goal

pub invariant_of-result : goal.invariant_of-result
invariant_of-result c =
    let crew : List Running = runnings_of c.crew.inside.procs.items in
    let by_pid : IsByPid crew = subst IsByPid (sym (ap runnings_of c.crew.view_is)) c.requires.by_pid in
    subst IsRecord (sym c.in_ok-reports.ensures.reports) (record_kept crew by_pid c.in_ok-reports.ensures.keeping)

pub returns-clause-in_order : goal.returns-clause-in_order
returns-clause-in_order c =
    let crew : List Running = runnings_of c.crew.inside.procs.items in
    λ placed ordered. c.in_ok-reports.ensures.reports
    ∙ same_record crew (subst IsPlaced (sym (ap runnings_of c.crew.view_is)) placed) c.in_ok-reports.ensures.keeping (subst AreInOrder (sym (ap runnings_of c.crew.view_is)) ordered)
    ∙ ap record_of (ap runnings_of c.crew.view_is)

-- of a lawful crew
pub returns-clause-lawful : goal.returns-clause-lawful
returns-clause-lawful c =
    let crew : List Running = runnings_of c.crew.inside.procs.items in
    λ script law. c.in_ok-reports.ensures.reports
    ∙ same_record crew (subst IsPlaced (sym (ap runnings_of c.crew.view_is)) law.placed) c.in_ok-reports.ensures.keeping (counted_in_order crew c.in_ok-reports.ensures.keeping (crew_counted script crew (subst (IsLawfulCrew script) (sym (ap runnings_of c.crew.view_is)) law)))
    ∙ ap record_of (ap runnings_of c.crew.view_is)

pub returns-clause-run : goal.returns-clause-run
returns-clause-run c =
    λ script law. subst (IsRecordOfRun script (crew_machine (rules_of script) (map whole_member (runnings_of c.args.crew)))) (sym (returns-clause-lawful c script law)) (record_of_a_run script (runnings_of c.args.crew) law c.requires.clear)
