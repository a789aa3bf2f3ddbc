use Rattle.std.proofs.Common.{◌≡◌, ◌++◌, map}
use Rattle.std.specs.Prelude.{All}
use Rattle.std.specs.Vec.Iter.{into_iter_items}
use Rattle.sig_record.specs.EndText.{ends_text}
use Rattle.sig_record.specs.StoredEnds.{AreStoredEnds}
use Rattle.sig_view.specs.declared.ordering.Listed.{Listed}
use Rattle.sig_view.proofs.ordering.with_texts.Given as goal

-- those so far have the records that were taken, each with its text
abbrev pub invariant-loop-ending : goal.invariant-loop-ending
invariant-loop-ending l = record {
  those : map (λ (x : Listed). x.ending) l.listed.items ≡ l.yielded;
  texts : All (λ (x : Listed). x.text.items ≡ ends_text x.ending) l.listed.items;
  stored : All (λ (x : Listed). AreStoredEnds x.ending) l.listed.items;
  whole : l.yielded ++ into_iter_items l.ending-iterator ≡ l.fn.endings.items;
}
