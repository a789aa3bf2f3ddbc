use Rattle.std.proofs.Common.{◌≡◌, ◌++◌, take}
use Rattle.std.specs.List.{flat_map}
use Rattle.sig_program.specs.Scripts.{Declared}
use Rattle.sig_canon.specs.ScriptText.{names_of, process_lines, line_text}
use Rattle.sig_canon.proofs.printing.put_procs.Given as goal

-- the processes so far
abbrev pub invariant-loop-proc : goal.invariant-loop-proc
invariant-loop-proc l = l.into.items ≡ l.fn.into.items ++ flat_map (λ (p : Declared). flat_map line_text (process_lines l.version (names_of l.procs) p)) (take l.proc-index l.procs)
