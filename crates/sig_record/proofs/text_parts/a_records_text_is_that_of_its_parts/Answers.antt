use Rattle.std.proofs.lemmas.Grind.{flat_map-append}
use Rattle.sig_record.specs.RecordText.{report_text}
use Rattle.sig_record.proofs.text_parts.a_records_text_is_that_of_its_parts.Goals as goal

pub returns-clause-parts : goal.returns-clause-parts
returns-clause-parts c = λ front back. flat_map-append report_text front back
