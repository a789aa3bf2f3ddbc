use Rattle.sig_links.proofs.Places.{added, added-order, replaced, replaced-order}
use Rattle.sig_links.proofs.tables.set_id.Goals as goal

pub returns-in-Ok-clause-order : goal.returns-in-Ok-clause-order
returns-in-Ok-clause-order c = replaced-order c.args.peer c.args.id c.args.awaited.now.items c.in-Ok.place c.requires (rw c.deref.ensures.value at c.in-Ok.ensures.place)

pub returns-in-Ok-clause-ok : goal.returns-in-Ok-clause-ok
returns-in-Ok-clause-ok c = replaced c.args.peer c.args.id c.args.awaited.now.items c.in-Ok.place (rw c.deref.ensures.value at c.in-Ok.ensures.place)

pub returns-in_ok-insert-in-Err-clause-order : goal.returns-in_ok-insert-in-Err-clause-order
returns-in_ok-insert-in-Err-clause-order c = rw c.in_ok-insert-in-Err.ensures.items (added-order c.args.peer c.args.id c.args.awaited.now.items c.in-Err.place c.requires (rw c.deref.ensures.value at c.in-Err.ensures.place))

pub returns-in_ok-insert-in-Err-clause-ok : goal.returns-in_ok-insert-in-Err-clause-ok
returns-in_ok-insert-in-Err-clause-ok c = rw c.in_ok-insert-in-Err.ensures.items (added c.args.peer c.args.id c.args.awaited.now.items c.in-Err.place (rw c.deref.ensures.value at c.in-Err.ensures.place))
