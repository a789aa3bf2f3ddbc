use Rattle.sig_workers.specs.Parts.{procs_of}
use Rattle.std.proofs.Common.{◌≤◌, ◌<◌, ◌∙◌, length, refl, sym, arith}
use Rattle.sig_workers.proofs.PartLemmas.{many_running}
use Rattle.sig_workers.proofs.PassLemmas.{same_part, grow_refl, grow_trans, visit_grow, visit_rest, visit_passed, all_passed, acted_rest, acted_more}
use Rattle.sig_workers.proofs.working.pass.Goals as goal

pub loop-at-init : goal.loop-at-init
loop-at-init g c = record {
  many = refl;
  part = c.requires.part;
  empty = c.requires.empty;
  same = record { first = refl; count = refl; base = refl };
  grow = grow_refl (procs_of c.args.part.now);
  rest = λ i le. refl;
  stand = λ i le. refl;
  acted = λ i q lt. absurd (let f : ⊥ = omega (arith, lt) in f);
  passed = λ i t lt. absurd (let f : ⊥ = omega (arith, lt) in f);
}

pub loop-at-preserved : goal.loop-at-preserved
loop-at-preserved g c =
    let start = procs_of c.args.part.now in
    let procs = procs_of c.loop-at.part in
    let later = procs_of c.visit_at.new.part in
    let inv = c.loop-at.invariant in
    let v = c.in_ok-here.ensures.visited in
    record {
      many = sym (many_running c.visit_at.new.part.procs.items) ∙ c.in_ok-here.ensures.same.count ∙ many_running c.loop-at.part.procs.items ∙ inv.many;
      part = c.in_ok-here.ensures.part;
      empty = c.in_ok-here.ensures.empty;
      same = same_part c.args.part.now c.loop-at.part c.visit_at.new.part inv.same c.in_ok-here.ensures.same;
      grow = grow_trans start procs later inv.grow (visit_grow start procs later c.loop-at.at c.in_ok-here.here v);
      stand = acted_rest c.args.part.now.procs.items c.loop-at.part.procs.items c.visit_at.new.part.procs.items c.loop-at.at c.in_ok-here.ensures.acted inv.stand;
      acted = acted_more c.args.part.now.procs.items c.loop-at.part.procs.items c.visit_at.new.part.procs.items c.loop-at.at c.in_ok-here.ensures.acted inv.stand inv.acted;
      rest = visit_rest start procs later c.loop-at.at c.in_ok-here.here v inv.rest;
      passed = visit_passed start procs later c.loop-at.at c.in_ok-here.here v c.loop-at.moved inv.rest inv.passed;
    }

pub returns-clause-passed : goal.returns-clause-passed
returns-clause-passed g c =
    let le : length (procs_of c.loop-at.part) ≤ c.loop-at.at = omega (arith, many_running c.loop-at.part.procs.items, c.loop-at.invariant.many, c.loop-at-test.false) in
    all_passed c.loop-at.moved c.loop-at.at (procs_of c.args.part.now) (procs_of c.loop-at.part) le c.loop-at.invariant.passed

pub returns-clause-acted : goal.returns-clause-acted
returns-clause-acted g c i q lt is =
    let at : i < c.loop-at.at = omega (arith, lt, c.loop-at.invariant.many, c.loop-at-test.false) in
    c.loop-at.invariant.acted i q at is
