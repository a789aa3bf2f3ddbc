-- What a command writes of what the source spells; or why it writes nothing (this project's own).
use Rattle.std.specs.Prelude.{◌≡◌, ℕ, List, Result, Ok, Err}
use Rattle.sig_edge.specs.Streams.{Reading}
use Rattle.sig_view.specs.declared.command.Command.{Command}
use Rattle.sig_view.specs.declared.command.Command.TheVariants.{Outcomes, OutcomeRecord}
use Rattle.sig_view.specs.declared.status.ViewStatus.{ViewStatus}
use Rattle.sig_view.specs.declared.status.ViewStatus.TheVariants.{Done}
use Rattle.sig_view.specs.declared.text.Text.{Text}
use Rattle.sig_view.specs.Inputs.{IsRecordText, IsUnfitRecord}
use Rattle.sig_view.specs.Outcomes.{IsNoOutcomeFor, IsOutcomeRecordFor, IsOutcomesFor, LacksScript}

-- this is what the command writes, of a script alone or with a record behind it, and how the call ends when it is written
abbrev pub IsTextFor : Command → Reading → List ℕ → ViewStatus → Type 0
IsTextFor (Outcomes states) r text end = IsOutcomesFor states r text end
IsTextFor (OutcomeRecord states number) r text end = IsOutcomeRecordFor states number r text end
IsTextFor command r text end = (end ≡ Done) × IsRecordText command r text

-- why there is nothing that it could write
abbrev pub IsUnfitFor : Command → Reading → ViewStatus → Type 0
IsUnfitFor (Outcomes states) r status = LacksScript r status
IsUnfitFor (OutcomeRecord states number) r status = IsNoOutcomeFor states number r status
IsUnfitFor command r status = IsUnfitRecord command r status

abbrev pub IsTextRead : Command → Reading → Result Text ViewStatus → Type 0
IsTextRead command r (Ok text) = IsTextFor command r text.bytes.items text.end
IsTextRead command r (Err status) = IsUnfitFor command r status
