use Rattle.std.proofs.Common.{rules, ◌≡◌, ◌+◌, ◌++◌, ◌∷◌, [], ℕ, suc, List, length, get_or, get_or-set_other, ap, sym, ◌∙◌, arith, refl, false, Bool}
use Rattle.std.specs.Prelude.{vec_len}
use mathlib.Core.Option.{some}
use lib.ListN.{get_elem?}
use Rattle.sig_kinds.specs.declared.signal.Signal.{Signal}
use Rattle.sig_queue.specs.declared.slot.Slot.{Slot}
use Rattle.sig_queue.specs.declared.slot.Slot.TheVariants as slot
use Rattle.sig_layout.specs.Views.{table_from}
use Rattle.sig_layout.proofs.Putting.{length_table}
use Rattle.sig_queue.specs.Tied.{list_or}
use Rattle.sig_queue.proofs.Ending.{at_or, table_more, no_table, emptied_set}
use Rattle.sig_layout.specs.declared.layout.TheConstants.{BUFFERS}
use Rattle.sig_queue.proofs.Bodies.{Keeps, up_to}
use Rattle.sig_queue.proofs.close.take_lists.Code as code
use Rattle.sig_queue.proofs.close.take_lists.Goals as goal

pub loop-buffer-init : goal.loop-buffer-init
loop-buffer-init c = record {
  items = refl;
  size = refl;
  first = c.requires.filled 0 (omega arith);
  empty = λ k h l. absurd (omega arith);
  left = λ k h l. c.requires.filled k l;
  lists = c.requires.room.0 ∙ sym (no_table 1 (λ k. list_or (get_or c.args.closed.now.slots.items k slot.Out)));
  room = c.requires.room.1;
}

pub take_one-list-requires-clause-list : goal.take_one-list-requires-clause-list
take_one-list-requires-clause-list c = let inv = c.loop-buffer.invariant in let h = c.requires.held c.loop-buffer.buffer c.loop-buffer-test.true in (h.0, ap (λ (xs : List Slot). get_elem? xs (c.loop-buffer.buffer + 1)) inv.items ∙ h.1)

pub push_reserved-requires : goal.push_reserved-requires
push_reserved-requires c = let inv = c.loop-buffer.invariant in let e = ap length inv.lists ∙ length_table 1 c.loop-buffer.buffer (λ k. list_or (get_or c.args.closed.now.slots.items k slot.Out)) in let r = inv.room in let low = c.loop-buffer-test.true in
    let l : vec_len c.loop-buffer.lists ≡ length c.loop-buffer.lists.items = search rules in omega arith

pub loop-buffer-preserved : goal.loop-buffer-preserved
loop-buffer-preserved c = let inv = c.loop-buffer.invariant in let t = c.take_one-list.ensures in let b : ℕ = c.loop-buffer.buffer in let low = c.loop-buffer-test.true in let xs : List Slot = c.args.closed.now.slots.items in
    let f : ℕ → List Signal = (λ k. list_or (get_or xs k slot.Out)) in
    let at : get_elem? xs (b + 1) ≡ some (slot.List c.take_one-list.result) = ap (λ (ys : List Slot). get_elem? ys (b + 1)) (sym inv.items) ∙ t.list in
    let is : c.take_one-list.result ≡ f (1 + b) = sym (ap list_or (at_or xs (b + 1) (slot.List c.take_one-list.result) at)) ∙ ap f (omega arith) in
    let pushed : c.push_reserved.new.self.items ≡ c.loop-buffer.lists.items ++ c.take_one-list.result ∷ [] = search rules in record {
      items = t.same.0 ∙ inv.items;
      size = t.same.1 ∙ inv.size;
      first = ap (λ (fs : List Bool). get_or fs 0 false) t.taken ∙ (get_or-set_other c.loop-buffer.closed.slots.filled (b + 1) 0 false false (λ e. omega arith) ∙ inv.first);
      empty = λ k h l. ap (λ (fs : List Bool). get_or fs k false) t.taken ∙ emptied_set c.loop-buffer.closed.slots.filled b k inv.empty h l;
      left = λ k h l. ap (λ (fs : List Bool). get_or fs k false) t.taken ∙ (get_or-set_other c.loop-buffer.closed.slots.filled (b + 1) k false false (λ e. omega arith) ∙ inv.left k (omega arith) l);
      lists = pushed ∙ (ap (λ (l : List (List Signal)). l ++ c.take_one-list.result ∷ []) inv.lists ∙ (ap (λ (x : List Signal). table_from 1 b f ++ x ∷ []) is ∙ (table_more 1 b f ∙ ap (λ (n : ℕ). table_from 1 n f) (let e : suc b ≡ b + 1 = omega arith in e))));
      room = search rules;
    }

code_keeps : Keeps (up_to BUFFERS ∷ []) code.function
code_keeps = (refl, refl)
