use Rattle.std.proofs.Common.{◌≡◌, ◌∙◌, ◌-◌, arith, take, drop, length, subst, List, ℕ, ap}
use Rattle.std.proofs.lemmas.Grind.{common_steps}
use Rattle.sig_base.specs.Flow.{Adds}
use Rattle.sig_base.proofs.Pieces.{Adds-take}
use Rattle.sig_base.proofs.writing.write_whole.Goals as goal

pub loop-at-preserved : goal.loop-at-preserved
loop-at-preserved g c =
    let bytes = c.args.bytes.now in
    let rest : List ℕ = drop c.loop-at.at bytes in
    let e : take (length bytes - c.loop-at.at) rest ≡ rest = grind (arith, common_steps) in
    let added = subst (λ (xs : List ℕ). Adds (g.O.Sink.held c.loop-at.sink) (g.O.Sink.held c.write.new.self) (take c.in-Ok.n xs)) e c.in-Ok.ensures.adds in
    record {
      within = omega (arith, c.in-Ok.ensures.within);
      added = Adds-take _ _ _ bytes c.loop-at.at c.in-Ok.n c.loop-at.invariant.added added;
      count = c.in-Ok.ensures.no_fault ∙ c.loop-at.invariant.count;
      empty = λ none. absurd (omega (arith, ap (λ (xs : List ℕ). length xs) none));
    }
