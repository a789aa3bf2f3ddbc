use Rattle.std.proofs.Common.{ℕ, List, ◌++◌, refl}
use Rattle.std.specs.Prelude.{codes, decimal}
use Rattle.sig_record.proofs.Fronts.{put_behind}
use Rattle.sig_record.proofs.phrases.put_did.Goals as goal

pub returns-in_ok-put_pid-in-From : goal.returns-in_ok-put_pid-in-From
returns-in_ok-put_pid-in-From c =
    let from : List ℕ = codes "from " ++ decimal c.in-From.from.0 in
    let number : List ℕ = codes " " ++ decimal c.in-From.number in
    rw c.in-From.is
    (put_behind c.put_spaced_number.result c.args.into.now.items c.put_pid.new.into.items c.put_spaced_number.new.into.items from number (from ++ number)
    c.in_ok-put_pid-in-From.ensures.text.0 c.put_spaced_number.ensures.text refl)
