use Rattle.std.proofs.Common.{ℕ, List, take, subst}
use Rattle.std.specs.Prelude.{All}
use Rattle.std.specs.List.{flat_map}
use Rattle.std.proofs.lemmas.List.{take_all}
use Rattle.sig_record.proofs.Fronts.{text_more, texts_whole, put_before}
use Rattle.sig_record.proofs.Stored.{one_more}
use Rattle.sig_record.proofs.ending_text.put_endings.Goals as goal

pub loop-ending-preserved : goal.loop-ending-preserved
loop-ending-preserved g c = record {
  text = text_more g.E.Ending.text c.args.endings.now c.loop-ending.ending-index c.ending-item.result c.args.into.now.items c.loop-ending.into.items c.put_ending.new.into.items
      c.loop-ending-test.true c.ending-item.is c.loop-ending.invariant.text c.in_ok-put_ending.ensures.text.0;
  stored = one_more g.E.Ending.IsStored c.args.endings.now c.loop-ending.ending-index c.ending-item.result c.loop-ending-test.true c.ending-item.is c.loop-ending.invariant.stored
      c.in_ok-put_ending.ensures.stored;
}

pub returns-in_err-put_ending-clause-text : goal.returns-in_err-put_ending-clause-text
returns-in_err-put_ending-clause-text g c =
    let done : List ℕ = flat_map g.E.Ending.text (take c.loop-ending.ending-index c.args.endings.now) in
    let text : List ℕ = flat_map g.E.Ending.text c.args.endings.now in
    put_before c.from_residual.result c.args.into.now.items c.loop-ending.into.items c.put_ending.new.into.items done text c.from_residual.ensures.0 c.loop-ending.invariant.text
    c.in_err-put_ending.ensures.text.1

pub returns-clause-text : goal.returns-clause-text
returns-clause-text g c = (texts_whole g.E.Ending.text c.args.endings.now c.loop-ending.ending-index c.args.into.now.items c.loop-ending.into.items c.loop-ending-test.false c.loop-ending.invariant.text, tt)

pub returns-clause-stored : goal.returns-clause-stored
returns-clause-stored g c = subst (All g.E.Ending.IsStored) (take_all c.loop-ending.ending-index c.args.endings.now c.loop-ending-test.false) c.loop-ending.invariant.stored
