use Rattle.std.proofs.Common.{◌≡◌, ◌+◌, ◌≤◌, ◌++◌, arith, take, length, subst, sym, ◌∙◌, List, ℕ}
use Rattle.std.proofs.lemmas.Grind.{common_steps}
use Rattle.std.proofs.lemmas.List.{take-append-le}
use Rattle.sig_base.specs.Flow.{Took}
use Rattle.sig_base.proofs.Ends.{still_ahead}
use Rattle.sig_base.proofs.Pieces.{Took-more}
use Rattle.sig_base.proofs.reading.read_all.Goals as goal

pub loop-piece-preserved : goal.loop-piece-preserved
loop-piece-preserved g c =
    let e : c.extend_from_slice.new.self.items ≡ c.loop-piece.into.items ++ take c.in-Ok.n c.read.new.into = grind (arith, common_steps, take-append-le) in
    record {
      within = grind (arith, common_steps, c.in-Ok.ensures.within);
      took = subst (λ (xs : List ℕ). Took (g.S.Source.left c.args.source.now) (g.S.Source.left c.read.new.self) xs) (sym e) (Took-more _ _ _ _ _ _ c.loop-piece.invariant.took c.in-Ok.ensures.takes);
      ahead = λ h. still_ahead _ _ c.in-Ok.n c.in-Ok.n-test.1 c.in-Ok.ensures.ends (c.loop-piece.invariant.ahead h);
      count = c.in-Ok.ensures.no_fault ∙ c.loop-piece.invariant.count;
    }

-- the last piece is lost
pub returns-then-is_err-clause-read : goal.returns-then-is_err-clause-read
returns-then-is_err-clause-read g c =
    let kept : c.extend_from_slice.new.self.items ≡ c.loop-piece.into.items = grind (arith, common_steps) in
    let took = Took-more _ _ _ _ _ _ c.loop-piece.invariant.took c.in-Ok.ensures.takes in
    let short : length (c.loop-piece.into.items ++ take c.in-Ok.n c.read.new.into) ≤ c.args.limit + 1 = grind (arith, common_steps, c.in-Ok.ensures.within) in (
      take c.in-Ok.n c.read.new.into,
      subst (λ (xs : List ℕ). Took (g.S.Source.left c.args.source.now) (g.S.Source.left c.read.new.self) (xs ++ take c.in-Ok.n c.read.new.into)) (sym kept) took,
      subst (λ (xs : List ℕ). length (xs ++ take c.in-Ok.n c.read.new.into) ≤ c.args.limit + 1) (sym kept) short,
      c.in-Ok.ensures.no_fault ∙ c.loop-piece.invariant.count,
    )
