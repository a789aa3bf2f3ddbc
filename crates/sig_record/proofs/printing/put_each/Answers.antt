use Rattle.std.proofs.Common.{ℕ, List, take, subst}
use Rattle.std.specs.Prelude.{All}
use Rattle.std.specs.List.{flat_map}
use Rattle.std.proofs.lemmas.List.{take_all}
use Rattle.sig_record.proofs.Fronts.{text_more, texts_whole, put_before}
use Rattle.sig_record.proofs.Stored.{one_more}
use Rattle.sig_record.proofs.printing.put_each.Goals as goal

pub loop-part-preserved : goal.loop-part-preserved
loop-part-preserved g c = record {
  text = text_more g.P.Part.text c.args.parts.now c.loop-part.part-index c.part-item.result c.args.into.now.items c.loop-part.into.items c.put.new.into.items
      c.loop-part-test.true c.part-item.is c.loop-part.invariant.text c.in_ok-put.ensures.text.0;
  stored = one_more g.P.Part.IsStored c.args.parts.now c.loop-part.part-index c.part-item.result c.loop-part-test.true c.part-item.is c.loop-part.invariant.stored c.in_ok-put.ensures.stored;
}

pub returns-in_err-put-clause-text : goal.returns-in_err-put-clause-text
returns-in_err-put-clause-text g c =
    let done : List ℕ = flat_map g.P.Part.text (take c.loop-part.part-index c.args.parts.now) in
    let text : List ℕ = flat_map g.P.Part.text c.args.parts.now in
    put_before c.from_residual.result c.args.into.now.items c.loop-part.into.items c.put.new.into.items done text c.from_residual.ensures.0 c.loop-part.invariant.text
    c.in_err-put.ensures.text.1

pub returns-clause-text : goal.returns-clause-text
returns-clause-text g c = (texts_whole g.P.Part.text c.args.parts.now c.loop-part.part-index c.args.into.now.items c.loop-part.into.items c.loop-part-test.false c.loop-part.invariant.text, tt)

pub returns-clause-stored : goal.returns-clause-stored
returns-clause-stored g c = subst (All g.P.Part.IsStored) (take_all c.loop-part.part-index c.args.parts.now c.loop-part-test.false) c.loop-part.invariant.stored
