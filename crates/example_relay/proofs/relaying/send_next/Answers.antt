use Rattle.std.proofs.Common.{◌+◌, ℕ, Bool, List, Option, ap, ◌∙◌, sym, subst, take, if◌then◌else◌, MatchOption, arith}
use Rattle.std.proofs.lemmas.List.{take_more, length-take-le}
use Rattle.sig_layout.specs.declared.knows.Knows.{Knows}
use Rattle.example_relay.specs.Relays.{Sends}
use Rattle.example_relay.proofs.Sendings.{count, sends_after}
use Rattle.example_relay.proofs.relaying.send_next.Goals as goal

pub put_message-requires-clause-next : goal.put_message-requires-clause-next
put_message-requires-clause-next c = let l = c.args.line in let xs : List ℕ = take c.args.next c.args.serials.now in
    let long = length-take-le c.args.next c.args.serials.now (let h = c.requires.next in omega arith) in
    c.in_ok-number.ensures.1 ∙ ap (λ (n : ℕ). l.first + n) (sym (count _ l xs 0 c.args.seat.now.knows c.requires.sender c.requires.sends ∙ long))

pub returns-clause-sends : goal.returns-clause-sends
returns-clause-sends c = let l = c.args.line in let xs : List ℕ = take c.args.next c.args.serials.now in let ys : List ℕ = take (c.args.next + 1) c.args.serials.now in let u : Knows = c.put_message.new.seat.knows in let p = c.put_message.ensures.put in
    let long = length-take-le c.args.next c.args.serials.now (let h = c.requires.next in omega arith) in
    subst (λ (r : Option Bool). MatchOption r (Sends c.args.queue.now.setup l.from xs u) (λ put. Sends c.args.queue.now.setup l.from (if put then ys else xs) u)) (sym p.1)
    (sends_after _ l xs ys _ c.in_ok-number.number c.args.seat.now.knows u p.0 c.requires.sender c.requires.sends (c.in_ok-number.ensures.1 ∙ ap (λ (n : ℕ). l.first + n) (sym long))
    (take_more c.args.serials.now c.args.next 0 c.requires.next) p.2)
