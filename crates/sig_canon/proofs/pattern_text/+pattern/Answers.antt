use Rattle.std.proofs.Common.{arith, sym, ◌++◌, ◌∙◌, ap, refl, List, ℕ, map, codes}
use Rattle.std.proofs.lemmas.Bool.Decides.{nat_tests}
use Rattle.sig_terms.specs.TermText.{joined}
use Rattle.sig_patterns.specs.declared.pattern.Pattern.{Pattern}
use Rattle.sig_canon.specs.ScriptText.{names_of, pattern_written}
use Rattle.sig_canon.proofs.PrintLemmas.{on_error, front_on, kept_front, kept_one, kept_two, last_text, last_front}
use Rattle.sig_canon.proofs.JoinedLemmas.{first_put, next_put, none_left, text_put, three_pieces, last_piece, pattern-Any, pattern-Bind, pattern-Pin, pattern-Atom, pattern-Pid, pattern-Tuple, pattern-List, pattern-Cons, tail_alone}
use Rattle.sig_canon.proofs.pattern_text.+pattern.Goals as goal

pub put_between-returns-in_err-put_elements-clause-front : goal.put_between-returns-in_err-put_elements-clause-front
put_between-returns-in_err-put_elements-clause-front t c =
    on_error c.from_residual-in_err-put_elements.result
    (kept_front c.args.into.now.items c.put.new.into.items c.put_elements.new.into.items c.args.opening.now c.in_ok-put.ensures.0 c.in_err-put_elements.ensures.front)

pub put_between-returns-clause-text : goal.put_between-returns-clause-text
put_between-returns-clause-text t c =
    let texts : List Pattern → List (List ℕ) = λ ps. map (λ w. w.whole) (map (pattern_written (names_of c.args.procs.now)) ps) in
    last_text c.put-2.result c.put_elements.new.into.items c.put-2.new.into.items _ c.args.closing.now c.put-2.ensures.0
    (c.in_ok-put_elements.ensures.text ∙ ap (λ (xs : List ℕ). xs ++ joined (texts c.args.items.now)) c.in_ok-put.ensures.0)

pub put_between-returns-clause-front : goal.put_between-returns-clause-front
put_between-returns-clause-front t c =
    let texts : List Pattern → List (List ℕ) = λ ps. map (λ w. w.whole) (map (pattern_written (names_of c.args.procs.now)) ps) in
    last_front c.put-2.result c.args.into.now.items c.put_elements.new.into.items c.put-2.new.into.items c.put-2.ensures.1
    (kept_two c.args.into.now.items c.put.new.into.items c.put_elements.new.into.items c.args.opening.now (joined (texts c.args.items.now)) c.in_ok-put.ensures.0 c.in_ok-put_elements.ensures.text)

pub put_elements-loop-item-init : goal.put_elements-loop-item-init
put_elements-loop-item-init t c =
    let text : Pattern → List ℕ = λ p. (pattern_written (names_of c.args.procs.now) p).whole in
    let texts : List Pattern → List (List ℕ) = λ ps. map (λ w. w.whole) (map (pattern_written (names_of c.args.procs.now)) ps) in
    first_put text texts c.args.items.now c.first-item.result c.args.into.now.items c.put_pattern.new.into.items (λ y ys. refl) c.in-len1-up.len_at_least c.first-item.is c.in_ok-put_pattern-in-len1-up.ensures.text

pub put_elements-returns-in_err-put_behind-in-len1-up-clause-front : goal.put_elements-returns-in_err-put_behind-in-len1-up-clause-front
put_elements-returns-in_err-put_behind-in-len1-up-clause-front t c =
    on_error c.from_residual-in_err-put_behind-in-len1-up.result
    (front_on c.args.into.now.items c.loop-item.into.items c.put_behind.new.into.items c.loop-item.invariant.1 c.in_err-put_behind-in-len1-up.ensures.front)

pub put_elements-loop-item-preserved : goal.put_elements-loop-item-preserved
put_elements-loop-item-preserved t c =
    let text : Pattern → List ℕ = λ p. (pattern_written (names_of c.args.procs.now) p).whole in
    let texts : List Pattern → List (List ℕ) = λ ps. map (λ w. w.whole) (map (pattern_written (names_of c.args.procs.now)) ps) in
    next_put text texts _ c.loop-item.item-index c.item-item.result c.args.into.now.items c.loop-item.into.items (c.loop-item.into.items ++ codes ",") c.put_behind.new.into.items _ (λ y ys. refl)
    (grind (arith, nat_tests, c.loop-item-test.true)) c.item-item.is refl c.in_ok-put_behind-in-len1-up.ensures.text c.loop-item.invariant

pub put_elements-returns-after-loop-item-clause-text : goal.put_elements-returns-after-loop-item-clause-text
put_elements-returns-after-loop-item-clause-text t c =
    let text : Pattern → List ℕ = λ p. (pattern_written (names_of c.args.procs.now) p).whole in
    let texts : List Pattern → List (List ℕ) = λ ps. map (λ w. w.whole) (map (pattern_written (names_of c.args.procs.now)) ps) in
    none_left text texts _ c.loop-item.item-index c.loop-item.into.items _ refl (grind (arith, nat_tests, c.loop-item-test.false)) c.loop-item.invariant.0

pub put_behind-returns-clause-text : goal.put_behind-returns-clause-text
put_behind-returns-clause-text t c =
    last_text c.put_pattern.result c.put.new.into.items c.put_pattern.new.into.items (c.args.into.now.items ++ c.args.sign.now) (pattern_written (names_of c.args.procs.now) c.args.pattern.now).whole c.put_pattern.ensures.text c.in_ok-put.ensures.0

pub put_behind-returns-clause-front : goal.put_behind-returns-clause-front
put_behind-returns-clause-front t c =
    last_front c.put_pattern.result c.args.into.now.items c.put.new.into.items c.put_pattern.new.into.items c.put_pattern.ensures.front (kept_one c.args.into.now.items c.put.new.into.items c.args.sign.now c.in_ok-put.ensures.0)

pub put_pattern-returns-in-Any-clause-text : goal.put_pattern-returns-in-Any-clause-text
put_pattern-returns-in-Any-clause-text t c =
    let names : List (List ℕ) = names_of c.args.procs.now in
    text_put c.put.result c.args.into.now.items c.put.new.into.items _ _ (ap (λ p. (pattern_written names p).whole) c.in-Any.is ∙ ap (λ w. w.whole) (pattern-Any names)) c.put.ensures.0

pub put_pattern-returns-in-Bind-clause-text : goal.put_pattern-returns-in-Bind-clause-text
put_pattern-returns-in-Bind-clause-text t c =
    let names : List (List ℕ) = names_of c.args.procs.now in
    text_put c.put-in-Bind.result c.args.into.now.items c.put-in-Bind.new.into.items _ _
    (ap (λ p. (pattern_written names p).whole) c.in-Bind.is ∙ ap (λ w. w.whole) (pattern-Bind names c.in-Bind.var) ∙ sym c.bytes.ensures.bytes) c.put-in-Bind.ensures.0

pub put_pattern-returns-in-Pin-clause-text : goal.put_pattern-returns-in-Pin-clause-text
put_pattern-returns-in-Pin-clause-text t c =
    let names : List (List ℕ) = names_of c.args.procs.now in
    text_put c.put_pinned.result c.args.into.now.items c.put_pinned.new.into.items _ _
    (ap (λ p. (pattern_written names p).whole) c.in-Pin.is ∙ ap (λ w. w.whole) (pattern-Pin names c.in-Pin.var)) c.put_pinned.ensures.0

pub put_pattern-returns-in-Atom-clause-text : goal.put_pattern-returns-in-Atom-clause-text
put_pattern-returns-in-Atom-clause-text t c =
    let names : List (List ℕ) = names_of c.args.procs.now in
    text_put c.print.result c.args.into.now.items c.print.new.into.items _ _
    (ap (λ p. (pattern_written names p).whole) c.in-Atom.is ∙ ap (λ w. w.whole) (pattern-Atom names c.in-Atom.atom)) c.print.ensures.text

pub put_pattern-returns-in-Pid-clause-text : goal.put_pattern-returns-in-Pid-clause-text
put_pattern-returns-in-Pid-clause-text t c =
    let names : List (List ℕ) = names_of c.args.procs.now in
    text_put c.put_process.result c.args.into.now.items c.put_process.new.into.items _ _
    (ap (λ p. (pattern_written names p).whole) c.in-Pid.is ∙ ap (λ w. w.whole) (pattern-Pid names c.in-Pid.pid)) c.put_process.ensures.0

pub put_pattern-returns-in-Tuple-clause-text : goal.put_pattern-returns-in-Tuple-clause-text
put_pattern-returns-in-Tuple-clause-text t c =
    let names : List (List ℕ) = names_of c.args.procs.now in
    three_pieces c.put_between.result c.args.into.now.items c.put_between.new.into.items _ (codes "{") _ (codes "}")
    (ap (λ p. (pattern_written names p).whole) c.in-Tuple.is ∙ ap (λ w. w.whole) (pattern-Tuple names c.in-Tuple.items)
    ∙ ap (λ ps. codes "{" ++ joined (map (λ w. w.whole) (map (pattern_written names) ps)) ++ codes "}") (sym c.as_slice.ensures))
    c.put_between.ensures.text

pub put_pattern-returns-in-List-clause-text : goal.put_pattern-returns-in-List-clause-text
put_pattern-returns-in-List-clause-text t c =
    let names : List (List ℕ) = names_of c.args.procs.now in
    three_pieces c.put_between-in-List.result c.args.into.now.items c.put_between-in-List.new.into.items _ (codes "[") _ (codes "]")
    (ap (λ p. (pattern_written names p).whole) c.in-List.is ∙ ap (λ w. w.whole) (pattern-List names c.in-List.items)
    ∙ ap (λ ps. codes "[" ++ joined (map (λ w. w.whole) (map (pattern_written names) ps)) ++ codes "]") (sym c.as_slice-in-List.ensures))
    c.put_between-in-List.ensures.text

pub put_pattern-returns-in_ok-put_behind-in-Cons-clause-text : goal.put_pattern-returns-in_ok-put_behind-in-Cons-clause-text
put_pattern-returns-in_ok-put_behind-in-Cons-clause-text t c =
    let names : List (List ℕ) = names_of c.args.procs.now in
    last_piece c.put_tail.result c.args.into.now.items c.put_behind.new.into.items c.put_tail.new.into.items _ (codes "[") (pattern_written names c.get.result.now).whole (pattern_written names c.get-in-Cons.result.now).tail
    (ap (λ p. (pattern_written names p).whole) c.in-Cons.is ∙ ap (λ w. w.whole) (pattern-Cons names c.in-Cons.head c.in-Cons.tail)
    ∙ ap (λ p. codes "[" ++ (pattern_written names p).whole ++ (pattern_written names c.in-Cons.tail).tail) (sym c.get.ensures)
    ∙ ap (λ p. codes "[" ++ (pattern_written names c.get.result.now).whole ++ (pattern_written names p).tail) (sym c.get-in-Cons.ensures))
    c.in_ok-put_behind-in-Cons.ensures.text c.put_tail.ensures.text

pub put_pattern-returns-in_ok-put_behind-in-Cons-clause-front : goal.put_pattern-returns-in_ok-put_behind-in-Cons-clause-front
put_pattern-returns-in_ok-put_behind-in-Cons-clause-front t c =
    last_front c.put_tail.result c.args.into.now.items c.put_behind.new.into.items c.put_tail.new.into.items c.put_tail.ensures.front
    (kept_two c.args.into.now.items (c.args.into.now.items ++ codes "[") c.put_behind.new.into.items (codes "[") (pattern_written (names_of c.args.procs.now) c.get.result.now).whole refl c.in_ok-put_behind-in-Cons.ensures.text)

pub put_tail-returns-in_ok-put_behind-in-Cons-clause-text : goal.put_tail-returns-in_ok-put_behind-in-Cons-clause-text
put_tail-returns-in_ok-put_behind-in-Cons-clause-text t c =
    let names : List (List ℕ) = names_of c.args.procs.now in
    last_piece c.put_tail.result c.args.into.now.items c.put_behind.new.into.items c.put_tail.new.into.items _ (codes ",") (pattern_written names c.get.result.now).whole (pattern_written names c.get-in-Cons.result.now).tail
    (ap (λ p. (pattern_written names p).tail) c.in-Cons.is ∙ ap (λ w. w.tail) (pattern-Cons names c.in-Cons.head c.in-Cons.tail)
    ∙ ap (λ p. codes "," ++ (pattern_written names p).whole ++ (pattern_written names c.in-Cons.tail).tail) (sym c.get.ensures)
    ∙ ap (λ p. codes "," ++ (pattern_written names c.get.result.now).whole ++ (pattern_written names p).tail) (sym c.get-in-Cons.ensures))
    c.in_ok-put_behind-in-Cons.ensures.text c.put_tail.ensures.text

pub put_tail-returns-in_ok-put_behind-in-Cons-clause-front : goal.put_tail-returns-in_ok-put_behind-in-Cons-clause-front
put_tail-returns-in_ok-put_behind-in-Cons-clause-front t c =
    last_front c.put_tail.result c.args.into.now.items c.put_behind.new.into.items c.put_tail.new.into.items c.put_tail.ensures.front
    (kept_two c.args.into.now.items (c.args.into.now.items ++ codes ",") c.put_behind.new.into.items (codes ",") (pattern_written (names_of c.args.procs.now) c.get.result.now).whole refl c.in_ok-put_behind-in-Cons.ensures.text)

pub put_tail-returns-in_ok-put_behind-in_default-clause-text : goal.put_tail-returns-in_ok-put_behind-in_default-clause-text
put_tail-returns-in_ok-put_behind-in_default-clause-text t c =
    let names : List (List ℕ) = names_of c.args.procs.now in
    last_piece c.put.result c.args.into.now.items c.put_behind-in_default.new.into.items c.put.new.into.items _ (codes "|") (pattern_written names c.args.tail.now).whole (codes "]")
    (tail_alone names c.args.tail.now c.in_default.not-Cons)
    c.in_ok-put_behind-in_default.ensures.text c.put.ensures.0

pub put_tail-returns-in_ok-put_behind-in_default-clause-front : goal.put_tail-returns-in_ok-put_behind-in_default-clause-front
put_tail-returns-in_ok-put_behind-in_default-clause-front t c =
    last_front c.put.result c.args.into.now.items c.put_behind-in_default.new.into.items c.put.new.into.items c.put.ensures.1
    (kept_two c.args.into.now.items (c.args.into.now.items ++ codes "|") c.put_behind-in_default.new.into.items (codes "|") (pattern_written (names_of c.args.procs.now) c.args.tail.now).whole refl c.in_ok-put_behind-in_default.ensures.text)
