use Rattle.std.proofs.Common.{◌≡◌, ◌++◌, take, map}
use Rattle.std.specs.List.{flat_map}
use Rattle.sig_patterns.specs.declared.clause.Clause.{Clause}
use Rattle.sig_program.specs.declared.label.Label.{Label}
use Rattle.sig_canon.specs.ScriptText.{names_of, clause_line, line_text}
use Rattle.sig_canon.proofs.instruction_text.put_clauses.Given as goal

-- the clauses so far
abbrev pub invariant-loop-clause : goal.invariant-loop-clause
invariant-loop-clause l =
    l.into.items ≡ l.fn.into.items ++ flat_map (λ (c : Clause). line_text (clause_line (names_of l.procs) (map (λ (m : Label). m.name) l.labels) c)) (take l.clause-index l.clauses)
