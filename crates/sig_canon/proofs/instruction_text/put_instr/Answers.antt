use Rattle.std.proofs.Common.{List, ℕ, map, codes}
use Rattle.std.specs.List.{flat_map}
use Rattle.sig_program.specs.declared.label.Label.{Label}
use Rattle.sig_canon.specs.ScriptText.{names_of, instr_lines, line_text}
use Rattle.sig_canon.specs.Printing.{first_of, rest_of}
use Rattle.sig_canon.proofs.PrintLemmas.{three_put, instr_split}
use Rattle.sig_canon.proofs.instruction_text.put_instr.Goals as goal

pub returns : goal.returns
returns c =
    let names : List (List ℕ) = names_of c.args.procs.now in
    let labels : List (List ℕ) = map (λ (l : Label). l.name) c.args.labels.now in
    let lines : List (List ℕ) = instr_lines names labels c.args.instr.now in (
      three_put c.args.into.now.items c.put_first_line.new.into.items c.put.new.into.items c.put_more_lines.new.into.items (first_of lines) (codes "\n") (flat_map line_text (rest_of lines)) (flat_map line_text lines)
          c.in_ok-put_first_line.ensures.0 c.in_ok-put.ensures.0 c.in_ok-put_more_lines.ensures.0 (instr_split names labels c.args.instr.now),
      tt,
    )
