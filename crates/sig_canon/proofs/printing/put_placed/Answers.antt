use Rattle.std.proofs.Common.{rules, arith, ◌≡◌, [], ◌∷◌, ◌+◌, sym, ap, refl, map, drop, List, ℕ}
use Rattle.std.specs.List.{flat_map}
use Rattle.std.proofs.lemmas.Bool.Decides.{nat_tests}
use Rattle.std.proofs.lemmas.List.{drop_all, drop_more}
use Rattle.std.proofs.Math.Seq.{take-length}
use Rattle.sig_program.specs.declared.label.Label.{Label}
use Rattle.sig_canon.specs.ScriptText.{names_of, labels_there, instr_lines, line_text}
use Rattle.sig_canon.proofs.PrintLemmas.{refused, kept_more, front_on, front_behind}
use Rattle.sig_canon.proofs.LabelTextLemmas.{all_from, placed_step, placed_end, next_from, rest_rising, rest_behind}
use Rattle.sig_canon.proofs.printing.put_placed.Goals as goal

pub loop-instr-init : goal.loop-instr-init
loop-instr-init c = (refl, sym (all_from 1 c.args.labels.now c.requires.behind), refl, take-length c.args.into.now.items)

pub put_labels-requires-clause-rising : goal.put_labels-requires-clause-rising
put_labels-requires-clause-rising c = rest_rising c.loop-instr.place c.args.labels.now c.loop-instr.rest.now c.loop-instr.invariant.1 c.requires.rising

pub put_labels-requires-clause-behind : goal.put_labels-requires-clause-behind
put_labels-requires-clause-behind c = rest_behind c.loop-instr.place c.args.labels.now c.loop-instr.rest.now c.loop-instr.invariant.1

pub put_labels-requires-2-clause-rising : goal.put_labels-requires-2-clause-rising
put_labels-requires-2-clause-rising c = rest_rising c.loop-instr.place c.args.labels.now c.loop-instr.rest.now c.loop-instr.invariant.1 c.requires.rising

pub put_labels-requires-2-clause-behind : goal.put_labels-requires-2-clause-behind
put_labels-requires-2-clause-behind c = rest_behind c.loop-instr.place c.args.labels.now c.loop-instr.rest.now c.loop-instr.invariant.1

pub returns-in_err-rest : goal.returns-in_err-rest
returns-in_err-rest c =
    refused c.args.into.now.items c.put_labels.new.into.items _ c.from_residual.result c.from_residual.ensures.0
    (front_on c.args.into.now.items c.loop-instr.into.items c.put_labels.new.into.items c.loop-instr.invariant.3 c.in_err-rest.ensures.put.1)

pub returns-in_err-put_instr : goal.returns-in_err-put_instr
returns-in_err-put_instr c =
    refused c.args.into.now.items c.put_instr.new.into.items _ c.from_residual-in_err-put_instr.result c.from_residual-in_err-put_instr.ensures.0
    (front_behind c.args.into.now.items c.loop-instr.into.items (flat_map line_text (labels_there c.loop-instr.rest.now c.loop-instr.place)) c.put_labels.new.into.items c.put_instr.new.into.items
    c.loop-instr.invariant.3 c.in_ok-rest.ensures.put.0 c.in_err-put_instr.ensures.1)

pub returns-in_err-put_labels : goal.returns-in_err-put_labels
returns-in_err-put_labels c =
    refused c.args.into.now.items c.put_labels-2.new.into.items _ c.from_residual-in_err-put_labels.result c.from_residual-in_err-put_labels.ensures.0
    (front_on c.args.into.now.items c.loop-instr.into.items c.put_labels-2.new.into.items c.loop-instr.invariant.3 c.in_err-put_labels.ensures.put.1)

pub loop-instr-preserved : goal.loop-instr-preserved
loop-instr-preserved c =
    let more : drop c.loop-instr.instr-index c.args.instrs.now ≡ c.instr-item.result ∷ drop (c.loop-instr.instr-index + 1) c.args.instrs.now = search (rules, drop_more) in
    let names : List (List ℕ) = names_of c.args.procs.now in
    let there : List ℕ = flat_map line_text (labels_there c.loop-instr.rest.now c.loop-instr.place) in
    let own : List ℕ = flat_map line_text (instr_lines names (map (λ (l : Label). l.name) c.args.labels.now) c.instr-item.result) in (
      ap (λ (n : ℕ). n + 1) c.loop-instr.invariant.0,
      next_from c.loop-instr.place c.args.labels.now c.loop-instr.rest.now c.in_ok-rest.rest.now c.loop-instr.invariant.1 c.in_ok-rest.ensures.rest,
      placed_step names c.args.labels.now c.loop-instr.rest.now c.loop-instr.place (drop c.loop-instr.instr-index c.args.instrs.now) (drop (c.loop-instr.instr-index + 1) c.args.instrs.now) c.instr-item.result
          c.loop-instr.into.items c.put_labels.new.into.items c.put_instr.new.into.items _ more c.loop-instr.invariant.1 c.in_ok-rest.ensures.put.0 c.in_ok-put_instr.ensures.0 c.loop-instr.invariant.2,
      kept_more c.args.into.now.items c.put_labels.new.into.items own c.put_instr.new.into.items
          (kept_more c.args.into.now.items c.loop-instr.into.items there c.put_labels.new.into.items c.loop-instr.invariant.3 c.in_ok-rest.ensures.put.0) c.in_ok-put_instr.ensures.0,
    )

pub returns : goal.returns
returns c =
    let none : drop c.loop-instr.instr-index c.args.instrs.now ≡ [] = drop_all c.loop-instr.instr-index c.args.instrs.now (grind (arith, nat_tests, c.loop-instr-test.false)) in
    let names : List (List ℕ) = names_of c.args.procs.now in (
      placed_end names c.args.labels.now c.loop-instr.rest.now c.loop-instr.place (drop c.loop-instr.instr-index c.args.instrs.now) c.loop-instr.into.items c.put_labels-2.new.into.items _
          none c.loop-instr.invariant.1 c.in_ok-put_labels.ensures.put.0 c.loop-instr.invariant.2,
      tt,
    )
