use Rattle.std.proofs.Common.{rules, ◌≡◌, ◌++◌, ◌∷◌, [], List, ap, sym, ◌∙◌}
use Rattle.sig_kinds.specs.declared.signal.Signal.{Signal}
use Rattle.sig_layout.specs.Rooms.{all_pieces}
use Rattle.sig_layout.proofs.Pieced.{pieces_more}
use Rattle.sig_layout.proofs.growing.Growing.take.Goals as goal

pub returns-clause-list : goal.returns-clause-list
returns-clause-list c = let items : c.push_reserved.new.self.items ≡ c.self.inside.first.items ++ c.self.inside.last ∷ [] = search rules in let now : c.replace-before.new.dest ≡ c.args.batch = search rules in
    let view : c.args.self.now.list ≡ all_pieces c.self.inside.first.items ++ c.self.inside.last = search rules in
    (λ i. all_pieces (items i) ++ now i) ∙ (ap (λ (z : List Signal). z ++ c.args.batch) (pieces_more c.self.inside.first.items c.self.inside.last) ∙ ap (λ (z : List Signal). z ++ c.args.batch) (sym view))
