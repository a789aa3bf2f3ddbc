use Rattle.std.proofs.Common.{rules, sym, ap, ◌*◌, ◌%◌, ◌^◌, ◌<◌, ℕ, arith, refl}
use Rattle.sig_queue.specs.Parts.{first_part}
use Rattle.sig_queue.proofs.Ties.{sets_bit}
use Rattle.sig_queue.proofs.Bodies.{OneStep}
use Rattle.sig_queue.proofs.words.steps.set_bit.Code as code
use Rattle.sig_queue.proofs.words.steps.set_bit.Goals as goal

pub fetch_or-requires : goal.fetch_or-requires
fetch_or-requires c = let e = c.requires.one.0.1 in let low : (first_part c.args.place.now.me.0.parts).number < 64 = (let b = c.requires.table.2 in omega (arith, e)) in (search rules, search rules, sets_bit _ _ _ _ _ _ (ap (λ (n : ℕ). 1 * 2 ^ n % 2 ^ 64) (sym e)) c.requires.one.0.0 low c.requires.one.1)

one_step : OneStep code.function
one_step = (refl, refl, refl)
