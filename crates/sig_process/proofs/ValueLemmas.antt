-- What an instruction does with the value of an expression.
use Rattle.std.proofs.Common.{◌≡◌, Option, arith}
use Rattle.std.specs.Prelude.{Ok}
use Rattle.std.specs.Option.{option_map_or}
use Rattle.sig_terms.specs.declared.reference.Ref.{Ref}
use Rattle.sig_terms.specs.declared.term.Term.{Term}
use Rattle.sig_model.specs.ProcessState.{ProcessState}
use Rattle.sig_model.specs.Bodies.{Body, ending, system_limit}
use Rattle.sig_model.specs.Executing.{with_ref}
use Rattle.sig_process.specs.Values.{reference_in}

-- the reference that it is
pub with_reference : (s : ProcessState) (built : Option Term) (go : Ref → Body) (r : Ref) → reference_in built ≡ Ok r → option_map_or (λ t. with_ref s t go) built (ending s system_limit) ≡ go r
with_reference s built go r e = grind arith
