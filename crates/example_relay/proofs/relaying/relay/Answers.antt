use Rattle.std.proofs.Common.{rules, ◌≡◌, ◌++◌, ◌||◌, Bool, List, take, sym, ap, ◌∙◌, append-nil}
use Rattle.sig_kinds.specs.declared.queue_data.QueueData.TheVariants.{OffHeap}
use Rattle.sig_kinds.specs.declared.signal.Signal.{Signal}
use Rattle.sig_layout.specs.declared.setup.Setup.{Setup}
use Rattle.sig_layout.specs.declared.knows.Knows.{Knows}
use Rattle.sig_layout.specs.Sets.{has}
use Rattle.sig_layout.specs.Sent.{sender, of, signals}
use Rattle.sig_layout.specs.Openings.{first_of}
use Rattle.sig_layout.proofs.Members.{has_plus}
use Rattle.sig_queue.specs.Ends.{setup_of}
use Rattle.example_relay.specs.Relays.{messages, Sends, Receives}
use Rattle.example_relay.proofs.Sendings.{own_messages, or_yes}
use Rattle.example_relay.proofs.relaying.relay.Goals as goal

pub close-closed-requires-clause-all : goal.close-closed-requires-clause-all
close-closed-requires-clause-all g c s h = let mine : Knows = c.send_and_receive-sender.result.1.0.knows in let other : Knows = c.send_and_receive-sender.result.0.0.knows in
    let its : other.senders ≡ c.in_ok-queue.queue.setup.senders = search rules in
    ap (λ (v : Knows). has v.senders s) c.join.ensures.both ∙ (has_plus mine.senders other.senders s ∙ (ap (λ (b : Bool). has mine.senders s || b) (ap (λ (l : List _). has l s) its ∙ h) ∙ or_yes (has mine.senders s)))

pub returns : goal.returns
returns g c = let v : Knows = c.join.new.seat.knows in let j = c.join.ensures.both in
    let sends : Sends c.in_ok-queue.queue.setup c.args.from (take c.send_and_receive-sender.result.0.1 c.args.serials.now) c.send_and_receive-sender.result.0.0.knows = search rules in
    let receives : Receives c.send_and_receive-sender.result.1.1.items c.send_and_receive-sender.result.1.0.knows = search rules in
    let same : c.in_ok-queue.queue.setup ≡ setup_of c.args.policy OffHeap c.args.senders c.args.opening.now = search rules in
    let put = ap (λ (k : Knows). signals k.put) j ∙ ((λ i. signals (receives.none_put i ++ c.send_and_receive-sender.result.0.0.knows.put)) ∙ sends.put_is) in
    let taken : v.taken ≡ c.send_and_receive-sender.result.1.1.items = ap (λ (k : Knows). k.taken) j ∙ ((λ i. receives.taken_is i ++ sends.none_taken i) ∙ append-nil c.send_and_receive-sender.result.1.1.items) in
    ap (λ (l : List Signal). of sender c.args.from.0 (l ++ c.close-closed.result.rest)) (sym taken) ∙ (sym (c.close-closed.ensures.ends.order c.args.from.0) ∙ (ap (of sender c.args.from.0) put
    ∙ (own_messages c.args.from _ _ (take c.send_and_receive-sender.result.0.1 c.args.serials.now) ∙ ap (λ (z : Setup). messages c.args.from z.opening.receiver (first_of z c.args.from.0) (take c.send_and_receive-sender.result.0.1 c.args.serials.now)) same)))
