use Rattle.sig_queue.proofs.Sendable.{crossing}
use Rattle.example_relay.proofs.relaying.Line.TheSendSync as line
use Rattle.test_calls.proofs.putting.put_two.Goals as goal

pub join-requires-send-F : goal.join-requires-send-F
join-requires-send-F g c κs within = search (crossing, line.the_send) depth 12

pub join-requires-send-A : goal.join-requires-send-A
join-requires-send-A g c κs within = search crossing depth 12
