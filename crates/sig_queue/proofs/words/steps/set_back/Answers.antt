use Rattle.std.proofs.Common.{rules, sym, ap, ◌∙◌, ◌*◌, ◌%◌, ◌^◌, ℕ, arith, refl}
use Rattle.sig_layout.specs.Views.{flag}
use Rattle.sig_queue.proofs.Ties.{sets_back}
use Rattle.sig_queue.proofs.Bodies.{OneStep}
use Rattle.sig_queue.proofs.words.steps.set_back.Code as code
use Rattle.sig_queue.proofs.words.steps.set_back.Goals as goal

pub fetch_or-requires : goal.fetch_or-requires
fetch_or-requires g c = let h = c.requires.masked in let e = c.requires.picked in (search rules, search rules, sets_back _ _ _ _ _ _ h.0.0 (let b = c.requires.table.2 in omega (arith, e)) (ap (λ (n : ℕ). 1 * 2 ^ n % 2 ^ 64) (sym e)) h.0.1 h.1 (ap (flag c.args.place.now.me.0.mask) e ∙ h.2))

one_step : OneStep code.function
one_step = (refl, refl, refl)
