use Rattle.std.proofs.Common.{rules}
use Rattle.sig_host.proofs.writing.write_record.Goals as goal

pub returns-in-Whole : goal.returns-in-Whole
returns-in-Whole g c = search rules
