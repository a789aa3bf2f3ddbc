use Rattle.std.proofs.Common.{◌≡◌, ◌-◌, [], length}
use Rattle.sig_record.specs.LineReaders.{lines_on}
use Rattle.sig_record.proofs.items.read_all.Given as goal

-- what is left goes on from the items so far
abbrev pub invariant-loop : goal.invariant-loop
invariant-loop g l =
    lines_on g.T.Item.begins (g.T.Item.front l.pid) (length l.bytes - l.counter) l.items l.rest ≡ lines_on g.T.Item.begins (g.T.Item.front l.pid) (length l.bytes) [] l.bytes
