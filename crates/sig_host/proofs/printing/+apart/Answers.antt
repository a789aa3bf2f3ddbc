use denote.Param.Send.{sendable}
use Rattle.std.proofs.Crossing.{crosses}
use Rattle.sig_record.proofs.Shares.{report_sync}
use Rattle.sig_host.proofs.printing.+apart.Goals as goal

pub join-behind-requires-send-F : goal.join-behind-requires-send-F
join-behind-requires-send-F g t c κs within = search (report_sync, crosses, sendable) depth 40
