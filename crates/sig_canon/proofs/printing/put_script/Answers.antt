use Rattle.std.specs.List.{flat_map}
use Rattle.sig_canon.specs.ScriptText.{header_line, turns_line, procs_lines, script_text, line_text}
use Rattle.sig_canon.proofs.PrintLemmas.{three_put, script_split}
use Rattle.sig_canon.proofs.printing.put_script.Goals as goal

pub returns : goal.returns
returns c = (
  three_put c.args.into.now.items c.put_header.new.into.items c.put_turns.new.into.items c.put_procs.new.into.items
      (line_text (header_line c.args.version)) (line_text (turns_line c.args.turns)) (flat_map line_text (procs_lines c.args.version c.args.procs.now)) (script_text (record { version = c.args.version; turns = c.args.turns; procs = c.args.procs.now }))
      c.in_ok-put_header.ensures.0 c.in_ok-put_turns.ensures.0 c.in_ok-put_procs.ensures.0 (script_split c.args.version c.args.turns c.args.procs.now),
  tt,
)
