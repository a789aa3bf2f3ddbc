use Rattle.std.proofs.Common.{◌∙◌, sym}
use Rattle.sig_layout.specs.Sets.{has}
use Rattle.sig_workers.proofs.OpenLemmas.{in_tail, part_but, tail_given, still_fresh, now_fresh}
use Rattle.sig_workers.proofs.cutting.cut_one.Goals as goal

pub split-requires-clause-some : goal.split-requires-clause-some
split-requires-clause-some c s h =
    let given = part_but c.args.part c.args.first c.args.count c.args.at s (has c.senders_but.result s) (c.requires.part s) (c.senders_but.ensures s) in
    tail_given c.args.first c.args.count s c.args.at (has c.senders_but.result s) (has c.args.seat.now.knows.senders s) given (c.requires.fresh.senders s) h

pub split-requires-clause-role : goal.split-requires-clause-role
split-requires-clause-role c h = c.requires.fresh.role ∙ in_tail c.args.first c.args.count c.args.at (sym c.has_process-receiver.ensures ∙ h)

pub returns-clause-left : goal.returns-clause-left
returns-clause-left c = still_fresh _ c.args.first c.args.count c.args.at c.senders_but.result c.has_process-receiver.result _ _ c.requires.fresh c.split.ensures.own.0
    (λ s. part_but c.args.part c.args.first c.args.count c.args.at s (has c.senders_but.result s) (c.requires.part s) (c.senders_but.ensures s))
    c.has_process-receiver.ensures c.split.ensures.left

pub returns-clause-right : goal.returns-clause-right
returns-clause-right c = now_fresh _ c.args.first c.args.count c.args.at c.senders_but.result c.has_process-receiver.result _ _ c.requires.fresh c.split.ensures.own.1
    (λ s. part_but c.args.part c.args.first c.args.count c.args.at s (has c.senders_but.result s) (c.requires.part s) (c.senders_but.ensures s))
    c.has_process-receiver.ensures c.split.ensures.right
