use Rattle.std.proofs.Common.{arith, List, ℕ, take, map}
use Rattle.std.specs.List.{flat_map}
use Rattle.std.proofs.lemmas.Bool.Decides.{nat_tests}
use Rattle.std.proofs.lemmas.List.Folds.{flat_map-map}
use Rattle.sig_patterns.specs.declared.clause.Clause.{Clause}
use Rattle.sig_program.specs.declared.label.Label.{Label}
use Rattle.sig_canon.specs.ScriptText.{names_of, clause_line, line_text}
use Rattle.sig_canon.proofs.PrintLemmas.{refused, kept_front, each_put, all_put}
use Rattle.sig_canon.proofs.instruction_text.put_clauses.Goals as goal

pub returns-in_err-put_clause : goal.returns-in_err-put_clause
returns-in_err-put_clause c =
    let line : Clause → List ℕ = clause_line (names_of c.args.procs.now) (map (λ (l : Label). l.name) c.args.labels.now) in
    refused c.args.into.now.items c.put_clause.new.into.items _ c.from_residual.result c.from_residual.ensures.0
    (kept_front c.args.into.now.items c.loop-clause.into.items c.put_clause.new.into.items (flat_map (λ k. line_text (line k)) (take c.loop-clause.clause-index c.args.clauses.now)) c.loop-clause.invariant c.in_err-put_clause.ensures.1)

pub loop-clause-preserved : goal.loop-clause-preserved
loop-clause-preserved c =
    let line : Clause → List ℕ = clause_line (names_of c.args.procs.now) (map (λ (l : Label). l.name) c.args.labels.now) in
    each_put (λ k. line_text (line k)) c.args.clauses.now c.loop-clause.clause-index c.clause-item.result c.args.into.now.items c.loop-clause.into.items c.put_clause.new.into.items
    (grind (arith, nat_tests, c.loop-clause-test.true)) c.clause-item.is c.loop-clause.invariant c.in_ok-put_clause.ensures.0

pub returns : goal.returns
returns c =
    let line : Clause → List ℕ = clause_line (names_of c.args.procs.now) (map (λ (l : Label). l.name) c.args.labels.now) in (
      all_put (λ k. line_text (line k)) c.args.clauses.now c.loop-clause.clause-index c.args.into.now.items c.loop-clause.into.items _
          (grind (arith, nat_tests, c.loop-clause-test.false)) c.loop-clause.invariant (flat_map-map line_text line c.args.clauses.now),
      tt,
    )
