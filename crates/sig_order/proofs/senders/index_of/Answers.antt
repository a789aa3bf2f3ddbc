use Rattle.std.proofs.Common.{cond, take, get_or, Some, sym, ap, ◌∙◌}
use Rattle.std.specs.BTreeMap.{is_at}
use Rattle.std.proofs.lemmas.List.{take_more}
use Rattle.sig_model.specs.declared.origin.Origin.{Origin}
use Rattle.sig_order.specs.Senders.{signal_cmp, key_of, told}
use Rattle.sig_order.proofs.Index.{told_push}
use Rattle.sig_order.proofs.senders.index_of.Goals as goal

pub loop-origin-preserved : goal.loop-origin-preserved
loop-origin-preserved c = λ q.
    let d : Origin = record { from = record { 0 = 0 }; to = record { 0 = 0 }; number = 0; event = 0 } in
    let i = c.loop-origin.origin-index in
    let o : Origin = get_or c.args.origins.now i d in
    c.in_ok-insert.ensures.updates.0 q
    ∙ ap (λ z. cond (is_at (signal_cmp (key_of o)) q) (Some o.event) z) (c.loop-origin.invariant q)
    ∙ sym (told_push (take i c.args.origins.now) o q)
    ∙ ap (λ os. told os q) (sym (take_more c.args.origins.now i d c.loop-origin-test.true))
