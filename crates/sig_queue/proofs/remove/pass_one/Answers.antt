use Rattle.std.proofs.Common.{ap, ◌∙◌, refl, []}
use Rattle.sig_queue.specs.Tied.{Held}
use Rattle.sig_queue.proofs.Bodies.{Keeps}
use Rattle.sig_queue.proofs.remove.pass_one.Code as code
use Rattle.sig_queue.proofs.remove.pass_one.Goals as goal

pub returns-clause-tries : goal.returns-clause-tries
returns-clause-tries g c = let f = c.wait_buffer.ensures.tries in record {
  found = f.found;
  others = f.others;
  tries = ap (λ (m : Held). m.0.tries) c.leave_passed.ensures.left ∙ (ap (λ (m : Held). m.0.tries) c.put_list.ensures.back ∙ (ap (λ (m : Held). m.0.tries) c.take_list-list.ensures.taken ∙ f.tries));
}

code_keeps : Keeps [] code.function
code_keeps = (refl, refl)
