use Rattle.std.proofs.Common.{rules, ◌≡◌, ◌<◌, ◌++◌, [], List, length, length-set, set, get_or, ap, sym, ◌∙◌, arith, ℕ, append_assoc, append-nil}
use Rattle.sig_kinds.specs.declared.signal.Signal.{Signal}
use Rattle.sig_layout.specs.Rooms.{all_pieces}
use Rattle.sig_layout.proofs.Pieced.{or_any, poured_one, all_poured, fits_piece, left_pieces, emptied_at}
use Rattle.sig_layout.proofs.pieces.Pieces.pour_into.Goals as goal

pub pour_into-requires : goal.pour_into-requires
pour_into-requires c = let inv = c.loop-i.invariant in let ls : List (List Signal) = c.loop-i.self-inside.first.items in let h : c.loop-i.i < length ls = omega (arith, c.loop-i-test.true, inv.size) in
    let is : c.index_mut.result.now ≡ get_or ls c.loop-i.i [] = c.index_mut.ensures.value ∙ or_any ls c.loop-i.i c.index_mut.result.now [] h in let f = fits_piece ls c.loop-i.i _ _ inv.poured h inv.room in let l = ap length is in omega arith

pub loop-i-preserved : goal.loop-i-preserved
loop-i-preserved c = let inv = c.loop-i.invariant in let ls : List (List Signal) = c.loop-i.self-inside.first.items in let i : ℕ = c.loop-i.i in let h : i < length ls = omega (arith, c.loop-i-test.true, inv.size) in
    let is : c.index_mut.result.now ≡ get_or ls i [] = c.index_mut.ensures.value ∙ or_any ls i c.index_mut.result.now [] h in let left = left_pieces ls i inv.poured h in let l = ap length is in
    let sets : set ls i c.pour_into.new.self ≡ set ls i [] = ap (λ (x : List Signal). set ls i x) c.pour_into.ensures.rest in
    let all = ap (λ (z : List (List Signal)). length (all_pieces z)) sets in let room = inv.room in let spare = inv.spare in let p = c.pour_into.ensures.room in record {
      moved = (λ k. c.pour_into.ensures.list k ++ all_pieces (sets k)) ∙ (ap (λ (x : List Signal). (c.loop-i.into.items ++ x) ++ all_pieces (set ls i [])) is ∙ (append_assoc c.loop-i.into.items (get_or ls i []) (all_pieces (set ls i [])) ∙ (ap (λ (x : List Signal). c.loop-i.into.items ++ x) (poured_one ls i inv.poured h) ∙ inv.moved)));
      room = omega arith;
      spare = omega arith;
      last = inv.last;
      size = length-set ls i c.pour_into.new.self ∙ inv.size;
      poured = λ k l. ap (λ (z : List (List Signal)). get_or z k []) sets ∙ emptied_at ls i k inv.poured l;
    }

pub returns-clause-list : goal.returns-clause-list
returns-clause-list c = let inv = c.loop-i.invariant in let ls : List (List Signal) = c.loop-i.self-inside.first.items in
    let none : all_pieces ls ≡ [] = all_poured ls (λ k l. inv.poured k (omega (arith, c.loop-i-test.false, inv.size))) in
    let view : c.args.self.now ≡ all_pieces c.self.inside.first.items ++ c.self.inside.last = search rules in
    let into : c.loop-i.into.items ≡ c.args.into.now.items ++ all_pieces c.self.inside.first.items = sym (append-nil c.loop-i.into.items) ∙ (ap (λ (x : List Signal). c.loop-i.into.items ++ x) (sym none) ∙ inv.moved) in
    c.pour_with_room.ensures.list ∙ ((λ k. into k ++ inv.last k) ∙ (append_assoc c.args.into.now.items (all_pieces c.self.inside.first.items) c.self.inside.last ∙ ap (λ (x : List Signal). c.args.into.now.items ++ x) (sym view)))

pub returns-clause-rest : goal.returns-clause-rest
returns-clause-rest c = let inv = c.loop-i.invariant in let ls : List (List Signal) = c.loop-i.self-inside.first.items in
    let none : all_pieces ls ≡ [] = all_poured ls (λ k l. inv.poured k (omega (arith, c.loop-i-test.false, inv.size))) in λ k. none k ++ c.pour_with_room.ensures.rest k
