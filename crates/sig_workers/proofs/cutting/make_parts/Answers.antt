use Rattle.std.proofs.Common.{suc, ◌≡◌, ◌≤◌, ◌+◌, ◌∷◌, ◌++◌, [], length, length-append, List, sym, subst, ap, ◌∙◌, arith, All}
use Rattle.std.proofs.lemmas.Grind.{common_steps}
use Rattle.sig_workers.specs.declared.part.Base.{Base}
use Rattle.sig_workers.specs.declared.part.Part.{Part}
use Rattle.sig_workers.specs.Rows.{FreshRow}
use Rattle.sig_workers.specs.Opening.{AreFresh}
use Rattle.sig_workers.proofs.RowLemmas.{push_part, left_length, left_again, all_left, all_last}
use Rattle.sig_workers.proofs.cutting.make_parts.Goals as goal

pub loop-base-preserved : goal.loop-base-preserved
loop-base-preserved c =
    let inv = c.loop-base.invariant in
    let queues = c.args.queues.now in
    let crew = c.args.procs.items in
    let ps = c.loop-base.procs.items in
    let new = c.cut_part.new.procs.items in
    let f = c.min-first.result in
    let le : f ≤ length ps = grind (arith, common_steps) in
    let e = c.in_ok-part.ensures in
    let more = c.in-Some.ensures.items in
    let all : All (λ (b : Base). b.crew.value.items ≡ crew) (c.pop.new.self.items ++ c.in-Some.base ∷ []) = subst (All (λ (b : Base). b.crew.value.items ≡ crew)) more inv.all in
    let long : length new ≡ f = left_length ps new f le e.procs in
    let count : length c.loop-base.bases.items ≡ length c.pop.new.self.items + length (c.in-Some.base ∷ []) = ap (λ z. length z) more ∙ length-append c.pop.new.self.items (c.in-Some.base ∷ []) in
    let base : c.in_ok-part.part.base.crew.value.items ≡ crew = ap (λ (b : Base). b.crew.value.items) e.part.1 ∙ all_last (λ (b : Base). b.crew.value.items ≡ crew) c.pop.new.self.items c.in-Some.base all in
    let inserted : length c.push_front.new.self.items ≡ suc (length c.loop-base.parts.items) = ap (λ (z : List Part). length z) c.in_ok-push_front.ensures.items in
    record {
      left = left_again crew ps new f inv.left le e.procs;
      few = omega (arith, long, le, inv.few);
      fresh = subst (λ z. AreFresh queues 0 z c.cut_part.new.seats.items) (sym long) e.left;
      row = subst (λ z. FreshRow queues crew z (length crew) c.push_front.new.self.items) (sym long)
          (subst (FreshRow queues crew f (length crew)) (sym c.in_ok-push_front.ensures.items) (push_part queues crew ps inv.left f le (length crew) c.in_ok-part.part c.loop-base.parts.items e.part.0 base e.part.2 e.right inv.row));
      all = all_left (λ (b : Base). b.crew.value.items ≡ crew) c.pop.new.self.items c.in-Some.base all;
      few_left = omega (arith, count, inv.few_left);
      some = λ e. omega (arith, inserted);
      none = λ e. (let zero : f ≡ 0 = grind (arith, common_steps, e) in long ∙ zero);
    }

-- a worker that would have no process
pub loop-base-preserved-then-first-len : goal.loop-base-preserved-then-first-len
loop-base-preserved-then-first-len c =
    let inv = c.loop-base.invariant in
    let crew = c.args.procs.items in
    let more = c.in-Some.ensures.items in
    let all : All (λ (b : Base). b.crew.value.items ≡ crew) (c.pop.new.self.items ++ c.in-Some.base ∷ []) = subst (All (λ (b : Base). b.crew.value.items ≡ crew)) more inv.all in
    let count : length c.loop-base.bases.items ≡ length c.pop.new.self.items + length (c.in-Some.base ∷ []) = ap (λ z. length z) more ∙ length-append c.pop.new.self.items (c.in-Some.base ∷ []) in
    record {
      left = inv.left;
      few = inv.few;
      fresh = inv.fresh;
      row = inv.row;
      all = all_left (λ (b : Base). b.crew.value.items ≡ crew) c.pop.new.self.items c.in-Some.base all;
      few_left = omega (arith, count, inv.few_left);
      some = λ e. absurd (let f : ⊥ = grind (arith, common_steps, e) in f);
      none = λ e. absurd (let f : ⊥ = grind (arith, common_steps, e) in f);
    }
