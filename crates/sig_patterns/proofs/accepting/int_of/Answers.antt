use Rattle.std.proofs.Common.{Some, SFits, w64, to_z-of_z, rules, sym, ap, ◌∙◌}
use Rattle.sig_patterns.specs.declared.guard.Operand.{Operand}
use Rattle.sig_patterns.specs.Guarding.{operand_value, int_value}
use Rattle.sig_patterns.specs.Fitting.{values_in}
use Rattle.sig_patterns.proofs.Comparing.{integer_is}
use Rattle.sig_patterns.proofs.accepting.int_of.Goals as goal

pub returns-in-Int : goal.returns-in-Int
returns-in-Int c =
    let fits : SFits w64 c.in-Int.n = search rules in
    ap Some (to_z-of_z fits)
    ∙ sym (ap (λ (o : Operand). int_value (operand_value (values_in c.args.whole) o)) c.in-Int.is ∙ integer_is c.in-Int.n)
