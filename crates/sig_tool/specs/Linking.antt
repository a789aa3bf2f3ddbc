-- What the command `links` writes (this project's own).
use Rattle.std.specs.Prelude.{◌≡◌, ℕ, List, ◌++◌, codes, decimal}
use Rattle.std.specs.List.{flat_map}
use Rattle.sig_program.specs.Scripts.{Program}
use Rattle.sig_model.specs.declared.origin.Origin.{Origin}
use Rattle.sig_model.specs.Running.{Running}
use Rattle.sig_check.specs.Replays.{IsReplayed}
use Rattle.sig_record.specs.declared.report.Report.{Report}
use Rattle.sig_record.specs.RecordOf.{record_of}
use Rattle.sig_linklaw.specs.declared.pair.Pair.{Pair}
use Rattle.sig_linklaw.specs.LinkReport.{HasComeToRest, linked_pairs}

-- a line for each pair
abbrev pub link_line : Pair → List ℕ
link_line pair = codes "link " ++ decimal pair.low.0 ++ codes " " ++ decimal pair.high.0 ++ codes "\n"

abbrev pub link_lines : List Pair → List ℕ
link_lines pairs = flat_map link_line pairs

-- The lines of the pairs of the crew of a replay: it has made the choices of this record's events in their order, has come to rest, and
-- its record is this one.
pub record IsLinksText (script : Program) (reports : List Report) (text : List ℕ) : Type 0 where
  pub crew : List Running
  pub origins : List Origin
  pub replayed : IsReplayed script reports crew origins
  pub rests : HasComeToRest script crew
  pub again : record_of crew ≡ reports
  pub is : text ≡ link_lines (linked_pairs crew)
