use Rattle.std.proofs.Common.{ℕ, List, [], ◌∷◌, ◌++◌, codes, sym, ap, ◌∙◌}
use Rattle.std.specs.List.{flat_map}
use Rattle.sig_program.specs.declared.instruction.Instr.{Instr}
use Rattle.sig_program.specs.declared.label.Label.{Label}
use Rattle.sig_program.specs.Scripts.{Declared}
use Rattle.sig_canon.specs.ScriptText.{spaced, names_of, data_lines, placed_lines, process_lines, line_text}
use Rattle.sig_canon.proofs.PrintLemmas.{three_put, process_split}
use Rattle.sig_canon.proofs.printing.put_proc.Goals as goal

pub returns : goal.returns
returns c =
    let names : List (List ℕ) = names_of c.args.procs.now in
    let p : Declared = record { name = c.proc.inside.name; queue_data = c.proc.inside.queue_data; labels = c.proc.inside.labels; instrs = c.proc.inside.instrs } in
    let first : List ℕ = line_text (spaced (codes "process") (p.name ∷ [])) in
    let telling : List ℕ = flat_map line_text (data_lines c.args.version p.queue_data) in
    let placed : List Label → List Instr → List ℕ = λ labels instrs. flat_map line_text (placed_lines names labels 1 instrs) in (
      three_put c.args.into.now.items c.put_named.new.into.items c.put_queue_data.new.into.items c.put_placed.new.into.items
          first telling (placed c.as_slice.result.now c.as_slice-2.result.now) (flat_map line_text (process_lines c.args.version names c.args.proc.now))
          c.in_ok-put_named.ensures.0 c.in_ok-put_queue_data.ensures.0 c.in_ok-put_placed.ensures.0
          (ap (λ (q : Declared). flat_map line_text (process_lines c.args.version names q)) (sym c.proc.view_is) ∙ process_split c.args.version names p
          ∙ ap (λ (z : List ℕ). (first ++ telling) ++ z)
          (ap (λ (ls : List Label). placed ls p.instrs) (sym c.as_slice.ensures) ∙ ap (λ (is : List Instr). placed c.as_slice.result.now is) (sym c.as_slice-2.ensures))),
      tt,
    )
