use Rattle.std.proofs.Common.{◌+◌, ℕ, List, ap, ◌∙◌, sym, length, if◌then◌else◌}
use Rattle.sig_kinds.specs.declared.signal.Signal.{Signal}
use Rattle.sig_layout.specs.declared.item.Item.{Item}
use Rattle.sig_layout.specs.Sent.{putter, of}
use Rattle.example_relay.specs.Relays.{message}
use Rattle.test_calls.specs.Queues.{is_put}
use Rattle.test_calls.proofs.Offers.{count_after, told_count}
use Rattle.test_calls.proofs.putting.put_next.Goals as goal

pub returns-clause-count : goal.returns-clause-count
returns-clause-count c = let x : Signal = message c.args.line.from c.args.line.to c.in_ok-number.number c.args.next in let way = c.offered-way.result.0 in
    told_count c.was_put.result way c.args.next _ c.was_put.ensures
    (ap (λ (l : List Item). length (of putter x.from.0 l)) c.offered-way.ensures.put ∙ (count_after c.args.seat.now.knows.put x way ∙ ap (λ (n : ℕ). n + (if is_put way then 1 else 0)) (sym c.requires.count)))
