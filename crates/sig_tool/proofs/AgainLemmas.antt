-- What a replay of the record of a settled run gives.
use Rattle.std.proofs.Common.{◌≡◌, ℕ, List, subst}
use Rattle.sig_kinds.specs.declared.signal.Signal.{Signal}
use Rattle.sig_program.specs.Scripts.{Program}
use Rattle.sig_runs.specs.Machine.{Machine}
use Rattle.sig_model.specs.ProcessState.{ProcessState}
use Rattle.sig_model.specs.declared.origin.Origin.{Origin}
use Rattle.sig_process.specs.Standing.{Standing, runnings_of}
use Rattle.sig_record.specs.declared.report.Report.{Report}
use Rattle.sig_record.specs.RecordOf.{record_of}
use Rattle.sig_record.specs.RunRecord.{IsRecordOfRun, IsOfSettledRun}
use Rattle.sig_check.specs.declared.replaying.Replaying.{Replaying}
use Rattle.sig_check.specs.declared.replaying.Replaying.TheVariants.{Stopped, Replayed}
use Rattle.sig_check.specs.Replays.{GivesAgain, IsReplay, IsReplayed}

pub replayed_so : (script : Program) (reports : List Report) (v : Replaying) (crew : List Standing) (origins : List Origin) → v ≡ Replayed crew origins
    → IsReplay script reports v → IsReplayed script reports (runnings_of crew) origins
replayed_so script reports v crew origins is h = subst (IsReplay script reports) is h

module _ (script : Program) (reports : List Report) (v : Replaying) (settled : IsOfSettledRun script reports)
    (again : (machine : Machine ProcessState Signal) → IsRecordOfRun script machine reports → GivesAgain reports v) where
  -- it doesn't stop
  pub not_stopped : (event : ℕ) → v ≡ Stopped event → ⊥
  not_stopped event is = subst (GivesAgain reports) is (again settled.machine settled.run)

  -- the crew has the record
  pub same_again : (crew : List Standing) (origins : List Origin) → v ≡ Replayed crew origins → record_of (runnings_of crew) ≡ reports
  same_again crew origins is = subst (GivesAgain reports) is (again settled.machine settled.run)
