use Rattle.std.proofs.Common.{rules, refl}
use Rattle.sig_process.proofs.progress.Progress.make_room.Goals as goal

pub returns-in_err-room-3-clause-same : goal.returns-in_err-room-3-clause-same
returns-in_err-room-3-clause-same c = record {
  state = refl;
  queue = refl;
  events = refl;
  handled = search rules;
  own = search rules;
  taken_in = refl;
  outbox = search rules;
}
