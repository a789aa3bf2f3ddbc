use Rattle.std.proofs.Common.{List, [], ◌++◌, ℕ, map, codes}
use Rattle.std.specs.List.{concat}
use Rattle.sig_program.specs.declared.label.Label.{Label}
use Rattle.sig_canon.specs.ScriptText.{names_of, after_blank, guard_text, pattern_text, target_text, clause_line, line_text}
use Rattle.sig_canon.proofs.PrintLemmas.{two_put, more_put}
use Rattle.sig_canon.proofs.GuardPrints.{clause_split}
use Rattle.sig_canon.proofs.instruction_text.put_clause.Goals as goal

pub returns : goal.returns
returns c =
    let names : List (List ℕ) = names_of c.args.procs.now in
    let labels : List (List ℕ) = map (λ (l : Label). l.name) c.args.labels.now in
    let start : List ℕ = c.args.into.now.items in
    let front : List ℕ = codes "on " ++ pattern_text names c.args.clause.now.pattern in
    let guard : List ℕ = concat (map after_blank (guard_text c.args.clause.now.guard [])) in
    let target : List ℕ = concat (map after_blank (target_text labels c.args.clause.now.target)) in
    let one = more_put start c.put.new.into.items c.put_pattern.new.into.items (codes "on ") (pattern_text names c.args.clause.now.pattern) c.in_ok-put.ensures.0 c.in_ok-put_pattern.ensures.text in
    let two = more_put start c.put_pattern.new.into.items c.put_guard.new.into.items front guard one c.in_ok-put_guard.ensures.0 in
    let three = more_put start c.put_guard.new.into.items c.put_target.new.into.items (front ++ guard) target two c.in_ok-put_target.ensures.0 in
    two_put c.put-2.result start c.put_target.new.into.items c.put-2.new.into.items ((front ++ guard) ++ target) (codes "\n") (line_text (clause_line names labels c.args.clause.now)) three c.put-2.ensures
    (clause_split names labels c.args.clause.now)
