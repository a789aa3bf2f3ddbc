use Rattle.std.proofs.Common.{Bool, ap, sym, ◌∙◌}
use Rattle.std.specs.Str.{bytes_eq}
use Rattle.sig_patterns.specs.declared.pattern.Pattern.TheVariants as pattern
use Rattle.sig_patterns.specs.declared.pattern.Pattern.TheOpen as layer
use Rattle.sig_patterns.specs.declared.pattern.Pattern.TheFolds.{fold-roll-Pattern}
use Rattle.sig_patterns.specs.Pinning.{pins, pins_step}
use Rattle.sig_patterns.proofs.NextPlace.{any_next}
use Rattle.sig_patterns.proofs.pinning.+pins.Goals as goal

pub any_pins-loop-item-preserved : goal.any_pins-loop-item-preserved
any_pins-loop-item-preserved t c =
    any_next (λ p. pins p c.args.var.now) c.args.items.now c.loop-item.item-index c.item-item.result c.loop-item-test.true c.item-item.is (sym c.pins.ensures ∙ c.if-pins.false)
    ∙ c.loop-item.invariant

pub pins-returns-in-Pin : goal.pins-returns-in-Pin
pins-returns-in-Pin t c =
    c.equal_bytes.ensures
    ∙ (λ i. bytes_eq (c.bytes.ensures.bytes i) (c.bytes-in-Pin.ensures.bytes i))
    ∙ sym (ap (λ p. pins p c.args.var.now) (c.in-Pin.is ∙ sym (pattern.rolls-Pin c.in-Pin.own)) ∙ fold-roll-Pattern Bool (pins_step c.args.var.now) (layer.Pin c.in-Pin.own))
