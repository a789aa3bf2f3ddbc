use Rattle.sig_links.proofs.Places.{removed, removed-order, from_entries-absent}
use Rattle.sig_links.proofs.tables.remove_id.Goals as goal

pub returns-in-Ok-clause-order : goal.returns-in-Ok-clause-order
returns-in-Ok-clause-order c = rw c.remove.ensures.items (removed-order c.args.peer c.args.awaited.now.items c.in-Ok.place c.requires (rw c.deref.ensures.value at c.in-Ok.ensures.place))

pub returns-in-Ok-clause-ids : goal.returns-in-Ok-clause-ids
returns-in-Ok-clause-ids c = rw c.remove.ensures.items (removed c.args.peer c.args.awaited.now.items c.in-Ok.place (rw c.deref.ensures.value at c.in-Ok.ensures.place))

pub returns-in_default-clause-ids : goal.returns-in_default-clause-ids
returns-in_default-clause-ids c = from_entries-absent c.args.peer c.args.awaited.now.items _ (rw c.deref.ensures.value at c.in_default.ensures.place)
