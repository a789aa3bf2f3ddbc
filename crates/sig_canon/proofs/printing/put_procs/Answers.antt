use Rattle.std.proofs.Common.{arith, List, ℕ, take}
use Rattle.std.specs.List.{flat_map}
use Rattle.std.proofs.lemmas.Bool.Decides.{nat_tests}
use Rattle.sig_program.specs.Scripts.{Declared}
use Rattle.sig_canon.specs.ScriptText.{names_of, process_lines, line_text}
use Rattle.sig_canon.proofs.PrintLemmas.{refused, kept_front, each_put, all_put, lines_of_each}
use Rattle.sig_canon.proofs.printing.put_procs.Goals as goal

pub returns-in_err-put_proc : goal.returns-in_err-put_proc
returns-in_err-put_proc c =
    let text : Declared → List ℕ = λ p. flat_map line_text (process_lines c.args.version (names_of c.args.procs.now) p) in
    refused c.args.into.now.items c.put_proc.new.into.items _ c.from_residual.result c.from_residual.ensures.0
    (kept_front c.args.into.now.items c.loop-proc.into.items c.put_proc.new.into.items (flat_map text (take c.loop-proc.proc-index c.args.procs.now)) c.loop-proc.invariant c.in_err-put_proc.ensures.1)

pub loop-proc-preserved : goal.loop-proc-preserved
loop-proc-preserved c =
    let text : Declared → List ℕ = λ p. flat_map line_text (process_lines c.args.version (names_of c.args.procs.now) p) in
    each_put text c.args.procs.now c.loop-proc.proc-index c.proc-item.result c.args.into.now.items c.loop-proc.into.items c.put_proc.new.into.items
    (grind (arith, nat_tests, c.loop-proc-test.true)) c.proc-item.is c.loop-proc.invariant c.in_ok-put_proc.ensures.0

pub returns : goal.returns
returns c =
    let lines : Declared → List (List ℕ) = process_lines c.args.version (names_of c.args.procs.now) in (
      all_put (λ p. flat_map line_text (lines p)) c.args.procs.now c.loop-proc.proc-index c.args.into.now.items c.loop-proc.into.items _
          (grind (arith, nat_tests, c.loop-proc-test.false)) c.loop-proc.invariant (lines_of_each lines c.args.procs.now),
      tt,
    )
