use Rattle.sig_verdict.proofs.Checked.{checked}
use Rattle.sig_verdict.proofs.law.check_says_yes_to_what_run_wrote.Goals as goal

pub returns : goal.returns
returns c words r w summary front output answer read left held new few = checked words r w summary front output answer read left held new few
