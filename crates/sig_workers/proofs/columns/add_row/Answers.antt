use Rattle.std.proofs.Common.{◌≡◌, ◌∙◌, ◌+◌, ◌++◌, ◌<◌, ◌∷◌, [], ℕ, length, min, sym, ap, subst, arith}
use Rattle.std.proofs.Math.Nat.{min-le_right}
use Rattle.sig_workers.specs.Columns.{padded}
use Rattle.sig_workers.proofs.ColumnLemmas.{Added, added_one, added_number, all_added, behind_all}
use Rattle.sig_workers.proofs.columns.add_row.Goals as goal
use Rattle.sig_workers.proofs.columns.add_row.Goals.{then-number-ne1+in_ok-put_number, else-number-ne1}

pub loop-to-preserved : goal.loop-to-preserved
loop-to-preserved c =
    let inv = c.loop-to.invariant in
    let numbers = c.args.process.now.running.state.counts.next_numbers in
    let start = c.args.columns.now.items in
    let at = c.args.at in
    let to = c.loop-to.to in
    let within : to < length start = omega (arith, c.loop-to-test.true, c.loop-to.auto.to-end, c.min-end.ensures, min-le_right c.sent_between-low.result.1 c.len.result, c.len.ensures, c.args.columns.now.ok.0) in
    elim c.if-number-ne1.branch [
      | then-number-ne1+in_ok-put_number w ↦ subst (Added at numbers start (to + 1)) (sym (λ i. (w.columns-is i).items))
          (added_number at numbers start c.requires.short to c.loop-to.columns.items w.index_mut.result.now w.put_number.new.column within inv w.index_mut.ensures.value
          (w.in_ok-put_number.ensures ∙ ap (λ (z : ℕ). padded at w.index_mut.result.now ++ z ∷ []) c.next_number-number.ensures))
      | else-number-ne1 w ↦ subst (Added at numbers start (to + 1)) (sym (λ i. (w.columns-is i).items))
          (added_one at numbers start c.requires.short to c.loop-to.columns.items inv (sym c.next_number-number.ensures ∙ w.if-number-ne1.false))
    ]

pub returns-clause-next : goal.returns-clause-next
returns-clause-next c p lt =
    let len : c.len.result ≡ length c.args.columns.now.items = omega (arith, c.len.ensures, c.args.columns.now.ok.0) in
    let end : c.min-end.result ≡ min c.sent_between-low.result.1 (length c.args.columns.now.items) = c.min-end.ensures ∙ ap (λ (z : ℕ). min c.sent_between-low.result.1 z) len in
    all_added c.args.at c.args.process.now.running.state.counts.next_numbers c.args.columns.now.items c.requires.short c.sent_between-low.result.0 c.sent_between-low.result.1
    c.loop-to.to c.loop-to.columns.items c.sent_between-low.ensures c.requires.numbered c.loop-to.invariant
    (λ q le in_all. behind_all c.sent_between-low.result.1 (length c.args.columns.now.items) c.min-end.result c.loop-to.to q end c.loop-to-test.false le in_all) p lt
