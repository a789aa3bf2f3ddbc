use Rattle.sig_canon.proofs.ReadableLemmas.{readable}
use Rattle.sig_canon.proofs.WalkBack.{reads_back}
use Rattle.sig_canon.proofs.laws.a_printed_script_is_read_back.Goals as goal

pub returns : goal.returns
returns c = record { readable = readable; reads_back = reads_back }
