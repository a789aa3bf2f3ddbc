use Rattle.std.proofs.Common.{◌^◌, ◌≤◌, length, sym, ap, ◌∙◌, arith, Ok}
use Rattle.sig_tokens.specs.Lines.{lines_of}
use Rattle.sig_program.specs.Scripts.{Program}
use Rattle.sig_reader.proofs.BoundLemmas.{few_lines}
use Rattle.sig_reader.proofs.OtherWalks.{once_read, once_within, once_sound}
use Rattle.sig_reader.proofs.reader.read_once.Goals as goal

pub seal-requires-clause-within : goal.seal-requires-clause-within
seal-requires-clause-within c =
    let le : length (lines_of c.args.bytes.now) ≤ 2 ^ 30 = omega (arith, c.requires.short, few_lines c.args.bytes.now) in
    once_within c.args.version c.args.known.now (lines_of c.args.bytes.now) c.in-Ok.script c.in-Ok.ensures (c.are_its_names.ensures.0 c.if-are_its_names.true) le

pub seal-requires-clause-sound : goal.seal-requires-clause-sound
seal-requires-clause-sound c =
    let le : length (lines_of c.args.bytes.now) ≤ 2 ^ 30 = omega (arith, c.requires.short, few_lines c.args.bytes.now) in
    once_sound c.args.version c.args.known.now (lines_of c.args.bytes.now) c.in-Ok.script c.in-Ok.ensures (c.are_its_names.ensures.0 c.if-are_its_names.true) le

pub returns-in_ok-seal-in-Ok : goal.returns-in_ok-seal-in-Ok
returns-in_ok-seal-in-Ok c =
    once_read c.args.version c.args.known.now (lines_of c.args.bytes.now) c.in-Ok.script c.in-Ok.ensures (c.are_its_names.ensures.0 c.if-are_its_names.true)
    ∙ ap (λ (s : Program). Ok s) (sym c.in_ok-seal-in-Ok.ensures)
