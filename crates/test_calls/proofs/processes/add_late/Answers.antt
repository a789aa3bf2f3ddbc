use Rattle.std.proofs.Common.{◌≡◌, List, [], ◌∷◌, ◌++◌, ap, ◌∙◌}
use Rattle.sig_kinds.specs.declared.signal.Signal.{Signal}
use Rattle.test_calls.proofs.Comings.{late, late_arriving, late_counts}
use Rattle.test_calls.proofs.processes.add_late.Goals as goal

pub returns : goal.returns
returns c = let items : c.add.new.self.items ≡ late c.in_ok-term.term ∷ [] = c.add.ensures.items ∙ ap (λ (xs : List Signal). xs ++ late c.in_ok-term.term ∷ []) (c.in_ok-room.ensures.items ∙ c.requires) in record {
  arriving = late_arriving _ c.in_ok-term.term c.add.new.self.items c.in_ok-term.ensures items;
  first = late_counts c.in_ok-term.term c.add.new.self.items items;
}
