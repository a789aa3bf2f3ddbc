use Rattle.std.proofs.Common.{arith, sym, ◌++◌, ◌∙◌, ap, refl, List, ℕ, map, codes}
use Rattle.std.proofs.lemmas.Bool.Decides.{nat_tests}
use Rattle.sig_terms.specs.TermText.{joined}
use Rattle.sig_patterns.specs.declared.expression.Expr.{Expr}
use Rattle.sig_canon.specs.ScriptText.{names_of, expr_text}
use Rattle.sig_canon.proofs.PrintLemmas.{on_error, front_on, front_behind, kept_front, kept_two, last_text, last_front}
use Rattle.sig_canon.proofs.JoinedLemmas.{first_put, next_put, none_left, text_put, three_pieces, expr-Atom, expr-Pid, expr-Var, expr-Tuple, expr-List}
use Rattle.sig_canon.proofs.expression_text.+expression.Goals as goal

pub put_between-returns-in_err-put_elements-clause-front : goal.put_between-returns-in_err-put_elements-clause-front
put_between-returns-in_err-put_elements-clause-front t c =
    on_error c.from_residual-in_err-put_elements.result
    (kept_front c.args.into.now.items c.put.new.into.items c.put_elements.new.into.items c.args.opening.now c.in_ok-put.ensures.0 c.in_err-put_elements.ensures.front)

pub put_between-returns-clause-text : goal.put_between-returns-clause-text
put_between-returns-clause-text t c =
    let texts : List Expr → List (List ℕ) = map (expr_text (names_of c.args.procs.now)) in
    last_text c.put-2.result c.put_elements.new.into.items c.put-2.new.into.items _ c.args.closing.now c.put-2.ensures.0
    (c.in_ok-put_elements.ensures.text ∙ ap (λ (xs : List ℕ). xs ++ joined (texts c.args.items.now)) c.in_ok-put.ensures.0)

pub put_between-returns-clause-front : goal.put_between-returns-clause-front
put_between-returns-clause-front t c =
    let texts : List Expr → List (List ℕ) = map (expr_text (names_of c.args.procs.now)) in
    last_front c.put-2.result c.args.into.now.items c.put_elements.new.into.items c.put-2.new.into.items c.put-2.ensures.1
    (kept_two c.args.into.now.items c.put.new.into.items c.put_elements.new.into.items c.args.opening.now (joined (texts c.args.items.now)) c.in_ok-put.ensures.0 c.in_ok-put_elements.ensures.text)

pub put_elements-loop-item-init : goal.put_elements-loop-item-init
put_elements-loop-item-init t c =
    let text : Expr → List ℕ = expr_text (names_of c.args.procs.now) in
    let texts : List Expr → List (List ℕ) = map (expr_text (names_of c.args.procs.now)) in
    first_put text texts c.args.items.now c.first-item.result c.args.into.now.items c.put_expr.new.into.items (λ y ys. refl) c.in-len1-up.len_at_least c.first-item.is c.in_ok-put_expr-in-len1-up.ensures.text

pub put_elements-returns-in_err-put-in-len1-up-clause-front : goal.put_elements-returns-in_err-put-in-len1-up-clause-front
put_elements-returns-in_err-put-in-len1-up-clause-front t c =
    on_error c.from_residual-in_err-put-in-len1-up.result
    (front_on c.args.into.now.items c.loop-item.into.items c.put.new.into.items c.loop-item.invariant.1 c.in_err-put-in-len1-up.ensures.1)

pub put_elements-returns-in_err-put_expr-in-len1-up-2-clause-front : goal.put_elements-returns-in_err-put_expr-in-len1-up-2-clause-front
put_elements-returns-in_err-put_expr-in-len1-up-2-clause-front t c =
    on_error c.from_residual-in_err-put_expr-in-len1-up-2.result
    (front_behind c.args.into.now.items c.loop-item.into.items (codes ",") c.put.new.into.items c.put_expr-in-loop-item.new.into.items
    c.loop-item.invariant.1 c.in_ok-put-in-len1-up.ensures.0 c.in_err-put_expr-in-len1-up-2.ensures.front)

pub put_elements-loop-item-preserved : goal.put_elements-loop-item-preserved
put_elements-loop-item-preserved t c =
    let text : Expr → List ℕ = expr_text (names_of c.args.procs.now) in
    let texts : List Expr → List (List ℕ) = map (expr_text (names_of c.args.procs.now)) in
    next_put text texts _ c.loop-item.item-index c.item-item.result c.args.into.now.items c.loop-item.into.items c.put.new.into.items c.put_expr-in-loop-item.new.into.items _ (λ y ys. refl)
    (grind (arith, nat_tests, c.loop-item-test.true)) c.item-item.is c.in_ok-put-in-len1-up.ensures.0 c.in_ok-put_expr-in-len1-up-2.ensures.text c.loop-item.invariant

pub put_elements-returns-after-loop-item-clause-text : goal.put_elements-returns-after-loop-item-clause-text
put_elements-returns-after-loop-item-clause-text t c =
    let text : Expr → List ℕ = expr_text (names_of c.args.procs.now) in
    let texts : List Expr → List (List ℕ) = map (expr_text (names_of c.args.procs.now)) in
    none_left text texts _ c.loop-item.item-index c.loop-item.into.items _ refl (grind (arith, nat_tests, c.loop-item-test.false)) c.loop-item.invariant.0

pub put_expr-returns-in-Atom-clause-text : goal.put_expr-returns-in-Atom-clause-text
put_expr-returns-in-Atom-clause-text t c =
    let names : List (List ℕ) = names_of c.args.procs.now in
    text_put c.print.result c.args.into.now.items c.print.new.into.items _ _ (ap (expr_text names) c.in-Atom.is ∙ expr-Atom names c.in-Atom.atom) c.print.ensures.text

pub put_expr-returns-in-Pid-clause-text : goal.put_expr-returns-in-Pid-clause-text
put_expr-returns-in-Pid-clause-text t c =
    let names : List (List ℕ) = names_of c.args.procs.now in
    text_put c.put_process.result c.args.into.now.items c.put_process.new.into.items _ _ (ap (expr_text names) c.in-Pid.is ∙ expr-Pid names c.in-Pid.pid) c.put_process.ensures.0

pub put_expr-returns-in-Var-clause-text : goal.put_expr-returns-in-Var-clause-text
put_expr-returns-in-Var-clause-text t c =
    let names : List (List ℕ) = names_of c.args.procs.now in
    text_put c.put.result c.args.into.now.items c.put.new.into.items _ _ (ap (expr_text names) c.in-Var.is ∙ expr-Var names c.in-Var.var ∙ sym c.bytes.ensures.bytes) c.put.ensures.0

pub put_expr-returns-in-Tuple-clause-text : goal.put_expr-returns-in-Tuple-clause-text
put_expr-returns-in-Tuple-clause-text t c =
    let names : List (List ℕ) = names_of c.args.procs.now in
    three_pieces c.put_between.result c.args.into.now.items c.put_between.new.into.items _ (codes "{") _ (codes "}")
    (ap (expr_text names) c.in-Tuple.is ∙ expr-Tuple names c.in-Tuple.items ∙ ap (λ (es : List Expr). codes "{" ++ joined (map (expr_text names) es) ++ codes "}") (sym c.as_slice.ensures))
    c.put_between.ensures.text

pub put_expr-returns-in-List-clause-text : goal.put_expr-returns-in-List-clause-text
put_expr-returns-in-List-clause-text t c =
    let names : List (List ℕ) = names_of c.args.procs.now in
    three_pieces c.put_between-in-List.result c.args.into.now.items c.put_between-in-List.new.into.items _ (codes "[") _ (codes "]")
    (ap (expr_text names) c.in-List.is ∙ expr-List names c.in-List.items ∙ ap (λ (es : List Expr). codes "[" ++ joined (map (expr_text names) es) ++ codes "]") (sym c.as_slice-in-List.ensures))
    c.put_between-in-List.ensures.text
