use Rattle.std.proofs.Common.{ap}
use Rattle.sig_layout.specs.declared.knows.Knows.{Knows}
use Rattle.sig_queue.proofs.Sendings.{sent_put}
use Rattle.sig_workers.proofs.putting.put_at.Goals as goal

pub returns-in-Put : goal.returns-in-Put
returns-in-Put g c = let is = sent_put c.args.signal c.args.seat.now.knows c.send.new.seat.knows c.in-Put.via c.in-Put.ensures.sent in record {
  queue = c.in-Put.ensures.own;
  senders = ap (λ (z : Knows). z.senders) is;
  role = ap (λ (z : Knows). z.role) is;
  put = ap (λ (z : Knows). z.put) is;
  taken = ap (λ (z : Knows). z.taken) is;
}
