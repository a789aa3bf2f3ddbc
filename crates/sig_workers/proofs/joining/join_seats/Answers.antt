use Rattle.std.proofs.lemmas.Grind.{common_steps}
use Rattle.std.proofs.Common.{◌≡◌, ◌≢◌, ◌<◌, ◌+◌, [], ◌∷◌, List, length, sym, ap, ◌∙◌, subst, inl, inr, arith, length-append, length-set, get_or}
use Rattle.std.specs.Prelude.{slice_get, slice_set, Some}
use Rattle.std.proofs.lemmas.Bool.Decides.{eqb_tells}
use Rattle.std.proofs.lemmas.Option.{same_Some, slice_get_within}
use Rattle.sig_runs.proofs.Lists.{slice_get-set_same, slice_get-set_other}
use Rattle.sig_queue.specs.Seats.{Seated}
use Rattle.sig_workers.specs.Parts.{IsJoined}
use Rattle.sig_workers.proofs.PutLemmas.{at_place}
use Rattle.sig_workers.proofs.PoppedLemmas.{popped}
use Rattle.sig_workers.proofs.JoinLemmas.{own_queue}
use Rattle.sig_workers.proofs.joining.join_seats.Goals as goal

pub join-requires : goal.join-requires
join-requires c =
    let inv = c.loop-other.invariant in
    let n = length c.pop.new.self.items in
    let e : c.len-at.result ≡ n = grind (arith, common_steps, c.len-at.ensures) in
    let last = popped (length c.loop-other.others.items) c.args.others.items c.pop.new.self.items c.in-Some.other (sym c.in-Some.ensures.items ∙ inv.left) in
    let below : n < length c.args.others.items = slice_get_within c.args.others.items n c.in-Some.other last.1 in
    let many : length c.args.others.items ≡ length c.args.queues.now = grind (arith, common_steps, c.requires.many) in
    let as_many : length c.args.seats.now.items ≡ length c.args.queues.now = grind (arith, common_steps, c.requires.many) in
    let lt : n < length c.loop-other.seats.items = omega (arith, below, many, as_many, inv.many) in
    let mine : slice_get c.loop-other.seats.items n ≡ Some c.index_mut.result.now =
    at_place c.loop-other.seats.items n c.index_mut.result.now lt (subst (λ z. c.index_mut.result.now ≡ get_or c.loop-other.seats.items z c.index_mut.result.now) e c.index_mut.ensures.value) in
    let short : length c.loop-other.others.items ≡ n + 1 = ap (λ (z : List Seated). length z) c.in-Some.ensures.items ∙ length-append c.pop.new.self.items (c.in-Some.other ∷ []) in
    let old : slice_get c.args.seats.now.items n ≡ Some c.index_mut.result.now = sym (inv.rest n (omega (arith, short))) ∙ mine in
    let queue = at_place c.args.queues.now n c.index-queues-at.result (omega (arith, below, many)) (subst (λ z. c.index-queues-at.result ≡ get_or c.args.queues.now z c.index-queues-at.result) e c.index-queues-at.is) in
    record {
      own = (
        own_queue c.args.queues.now n c.index_mut.result.now c.index-queues-at.result (c.requires.own n c.index_mut.result.now old) queue,
        own_queue c.args.queues.now n c.in-Some.other c.index-queues-at.result (c.requires.other n c.in-Some.other last.1) queue,
      );
    }

pub loop-other-preserved : goal.loop-other-preserved
loop-other-preserved c =
    let inv = c.loop-other.invariant in
    let n = length c.pop.new.self.items in
    let e : c.len-at.result ≡ n = grind (arith, common_steps, c.len-at.ensures) in
    let last = popped (length c.loop-other.others.items) c.args.others.items c.pop.new.self.items c.in-Some.other (sym c.in-Some.ensures.items ∙ inv.left) in
    let below : n < length c.args.others.items = slice_get_within c.args.others.items n c.in-Some.other last.1 in
    let many : length c.args.others.items ≡ length c.args.queues.now = grind (arith, common_steps, c.requires.many) in
    let as_many : length c.args.seats.now.items ≡ length c.args.queues.now = grind (arith, common_steps, c.requires.many) in
    let lt : n < length c.loop-other.seats.items = omega (arith, below, many, as_many, inv.many) in
    let mine : slice_get c.loop-other.seats.items n ≡ Some c.index_mut.result.now =
    at_place c.loop-other.seats.items n c.index_mut.result.now lt (subst (λ z. c.index_mut.result.now ≡ get_or c.loop-other.seats.items z c.index_mut.result.now) e c.index_mut.ensures.value) in
    let short : length c.loop-other.others.items ≡ n + 1 = ap (λ (z : List Seated). length z) c.in-Some.ensures.items ∙ length-append c.pop.new.self.items (c.in-Some.other ∷ []) in
    let old : slice_get c.args.seats.now.items n ≡ Some c.index_mut.result.now = sym (inv.rest n (omega (arith, short))) ∙ mine in
    let xs = c.loop-other.seats.items in
    let w = c.join.new.seat in
    let here : slice_get (slice_set xs c.len-at.result w) n ≡ Some w = subst (λ z. slice_get (slice_set xs z w) n ≡ Some w) (sym e) (slice_get-set_same xs n w c.index_mut.result.now mine) in
    record {
      many = length-set xs c.len-at.result w ∙ inv.many;
      left = last.0;
      rest = λ p less. slice_get-set_other xs c.len-at.result p w (λ same. (let no : n ≡ p = sym e ∙ same in omega (arith, no, less))) ∙ inv.rest p (omega (arith, less, short));
      done = λ p a le h. elim (eqb_tells c.len-at.result p) [
        | inl s ↦ (
            let at : n ≡ p = sym e ∙ s.1 in (
              c.index_mut.result.now,
              c.in-Some.other,
              subst (λ z. slice_get c.args.seats.now.items z ≡ Some c.index_mut.result.now) at old,
              subst (λ z. slice_get c.args.others.items z ≡ Some c.in-Some.other) at last.1,
              subst (λ (z : Seated). IsJoined c.index_mut.result.now c.in-Some.other z) (same_Some w a (sym here ∙ ap (λ z. slice_get (slice_set xs c.len-at.result w) z) at ∙ h)) (record { queue = c.join.ensures.own; knows = c.join.ensures.both }),
            )
            )
        | inr s ↦ inv.done p a (let ne : c.len-at.result ≢ p = s.1 in omega (arith, ne, le, e, short)) (sym (slice_get-set_other xs c.len-at.result p w s.1) ∙ h)
      ];
    }
