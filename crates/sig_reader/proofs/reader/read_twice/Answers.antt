use Rattle.std.proofs.Common.{◌^◌, ◌≤◌, length, arith}
use Rattle.sig_tokens.specs.Lines.{lines_of}
use Rattle.sig_reader.proofs.BoundLemmas.{few_lines, procs_within, script_sound}
use Rattle.sig_reader.proofs.reader.read_twice.Goals as goal

pub seal-requires-clause-within : goal.seal-requires-clause-within
seal-requires-clause-within c =
    let le : length (lines_of c.args.bytes.now) ≤ 2 ^ 30 = omega (arith, c.requires, few_lines c.args.bytes.now) in
    procs_within c.args.version (lines_of c.args.bytes.now) c.in_ok-first.first c.in_ok-second.second c.in_ok-first.ensures c.in_ok-second.ensures le

pub seal-requires-clause-sound : goal.seal-requires-clause-sound
seal-requires-clause-sound c =
    let le : length (lines_of c.args.bytes.now) ≤ 2 ^ 30 = omega (arith, c.requires, few_lines c.args.bytes.now) in
    script_sound c.args.version (lines_of c.args.bytes.now) c.in_ok-first.first c.in_ok-second.second c.in_ok-first.ensures c.in_ok-second.ensures le
