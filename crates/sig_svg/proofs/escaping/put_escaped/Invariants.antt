use Rattle.std.proofs.Common.{◌≡◌, ◌++◌, drop}
use Rattle.sig_svg.specs.Escape.{escape}
use Rattle.sig_svg.proofs.escaping.put_escaped.Given as goal

-- with the bytes that are left, it is the whole
abbrev pub invariant-loop-byte : goal.invariant-loop-byte
invariant-loop-byte l = l.into.items ++ escape (drop l.byte-index l.bytes) ≡ l.fn.into.items ++ escape l.bytes
