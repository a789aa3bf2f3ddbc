use Rattle.std.proofs.Common.{sym, ◌∙◌}
use Rattle.std.specs.Cmp.{nat_cmp_total}
use Rattle.std.specs.FinMap.{get-from_entries}
use Rattle.sig_links.proofs.Places.{find-at, find-gap}
use Rattle.sig_links.proofs.tables.id_of.Goals as goal

pub returns-in-Ok : goal.returns-in-Ok
returns-in-Ok c = sym (get-from_entries nat_cmp_total c.args.awaited.now c.args.peer ∙ find-at c.args.peer c.args.awaited.now c.in-Ok.place (0, 0) c.in-Ok.ensures.place)

pub returns-in-Err : goal.returns-in-Err
returns-in-Err c = sym (get-from_entries nat_cmp_total c.args.awaited.now c.args.peer ∙ find-gap c.args.peer c.args.awaited.now _ c.in-Err.ensures.place)
