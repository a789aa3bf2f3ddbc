use Rattle.sig_workers.proofs.CloseLemmas.{rest_arrives, rest_continues, has_closed}
use Rattle.sig_workers.proofs.closing.close_one.Goals as goal

pub hand_over-requires-clause-arriving : goal.hand_over-requires-clause-arriving
hand_over-requires-clause-arriving c = rest_arrives c.args.queue c.args.seat c.args.process.now.running c.close-rest.result.rest c.close-rest.result.journal c.requires.can c.close-rest.ensures.ends

pub hand_over-requires-clause-continues : goal.hand_over-requires-clause-continues
hand_over-requires-clause-continues c = rest_continues c.args.queue c.args.seat c.args.process.now.running c.close-rest.result.rest c.close-rest.result.journal c.requires.can c.close-rest.ensures.ends

pub returns-clause-closed : goal.returns-clause-closed
returns-clause-closed c =
    has_closed c.args.queue c.args.seat c.args.process.now.running c.close-rest.result.rest c.close-rest.result.journal c.requires.can c.close-rest.ensures.ends
    c.close-rest.result.receipt c.hand_over.new.process.running c.close-rest.ensures.receipt c.in_ok-hand_over.ensures.given
