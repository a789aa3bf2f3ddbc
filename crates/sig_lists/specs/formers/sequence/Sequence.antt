-- How a sequence holds its items, so that a type may hold a sequence of itself: it holds what the list of its items
-- holds, one after another, and the vector behind it adds nothing to that.
use mathlib.Core.Path.{◌≡◌, refl, sym}
use mathlib.Core.List.{List, []}
use mathlib.Core.Former.{Former, this, list, via, children}
use base.Stored.{code_map}
use denote.RattleType.{RattleType}
use denote.HoleLaws.{Alike}
use denote.HolePlaces.{Recodes, struct_places, laid}
use denote.Hole.Carrier.{listed, list-listed}
use denote.Hole.Fix.{over}
use denote.Param.Weighed.{Weighed, w_list}
use denote.Model.Placed.{view_places}
use Rattle.std.specs.formers.vec.Vec as vector
use Rattle.std.specs.declared.alloc.Global.{Global}
use Rattle.std.specs.contracts.alloc.Global as global
use Rattle.std.specs.contracts.impls.GlobalAllocator.TheImpl.{ghosts}
use Rattle.sig_lists.specs.declared.sequence.Sequence.TheInside.{Inside}
use Rattle.sig_lists.specs.declared.sequence.Sequence.TheView.{view, invariant}
use Rattle.sig_lists.specs.contracts.sequence.Sequence as sequence
use Rattle.sig_lists.specs.contracts.sequence.Sequence.TheInside as inside

-- as contracts see it, a sequence is the list of its items
abbrev pub the_former : Former {0} → Former {0}
the_former items = list items

abbrev pub the_weighed : {items : Former {0}} → Weighed items → Weighed (the_former items)
the_weighed weight = w_list weight

-- one without items, of whatever type
pub the_empty : List ⊥
the_empty = []

abbrev pub the_items : (Item : Type 0) → List Item → List Item
the_items Item items = items

pub the_items_listed : (Item : Type 0) (items : List Item) → listed _ (children (the_former this) Item items) ≡ the_items Item items
the_items_listed Item items = list-listed Item items

-- as it lies in memory: the one field, a vector
abbrev as_vector : Former {0}
as_vector = via (vector.the_former this Global) Inside (λ Item s. s.items) (λ Item v. record { items = v }) (λ Item s. refl) (λ Item v. refl)

module _ (R S : RattleType) (h : R.Denot → S.Denot) where
  pub the_places : Alike R S h → Alike (sequence.the_row R) (sequence.the_row S) ((the_former this).map R.Denot S.Denot h)
  the_places alike =
      view_places as_vector (list this) view (λ Item Other k items. refl) (λ Item items. refl) R.Denot S.Denot h
      (sequence.the_row R).coded (sequence.the_row S).coded
      (invariant R.Denot) (invariant S.Denot) (λ u p q. refl) (λ u p q. refl) (λ u e. tt) (λ u e. tt)
      (over (inside.the_row R)) (over (inside.the_row S))
      (struct_places (inside.the_type R) (inside.the_type S) (vector.mapped h, tt) _ (λ d. refl) refl
      (laid _ _ _ (vector.the_places global.the_row ghosts R S h alike), tt))

  pub the_codes_placed : Recodes R S h → Recodes (sequence.the_row R) (sequence.the_row S) ((the_former this).map R.Denot S.Denot h)
  the_codes_placed same items = sym (code_map R.coded.code S.coded.code h (λ item. sym (same item)) items)
