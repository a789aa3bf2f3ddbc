-- What an instruction has of its expressions: the values that it needs, or the reason for which the process ends where it has none.
use Rattle.std.specs.Prelude.{◌≡◌, Option, Some, None, Result, Ok, Err}
use Rattle.sig_terms.specs.declared.pid.Pid.{Pid}
use Rattle.sig_terms.specs.declared.reference.Ref.{Ref}
use Rattle.sig_terms.specs.declared.term.Term.{Term}
use Rattle.sig_terms.specs.declared.term.Term.TheVariants as term
use Rattle.sig_model.specs.declared.target.Target.{Target}
use Rattle.sig_model.specs.declared.target.Target.TheVariants as target
use Rattle.sig_model.specs.Bodies.{badarg, system_limit}
use Rattle.sig_process.specs.declared.values.ValueFault.{ValueFault}
use Rattle.sig_process.specs.declared.values.ValueFault.TheVariants.{TooLarge, BadArg, Memory}

-- the value of an expression, where it is small enough to be built
abbrev pub value_in : Option Term → Result Term Term
value_in None = Err system_limit
value_in (Some t) = Ok t

-- the process that it names
abbrev pub pid_in : Option Term → Result Pid Term
pid_in None = Err system_limit
pid_in (Some (term.Pid p)) = Ok p
pid_in (Some _) = Err badarg

-- the reference that it is
abbrev pub reference_in : Option Term → Result Ref Term
reference_in None = Err system_limit
reference_in (Some (term.Ref r)) = Ok r
reference_in (Some _) = Err badarg

-- the process or the alias that it names
abbrev pub target_in : Option Term → Result Target Term
target_in None = Err system_limit
target_in (Some (term.Pid p)) = Ok (target.Process p)
target_in (Some (term.Ref r)) = Ok (target.Alias r)
target_in (Some _) = Err badarg

-- the values of two expressions
abbrev pub values_in : Option Term → Option Term → Result (Term × Term) Term
values_in (Some v) (Some w) = Ok (v, w)
values_in _ _ = Err system_limit

-- It is the value that is needed, or the fault that tells of the reason. A want of memory tells nothing.
abbrev pub IsUsed : {A : Type 0} → Result A Term → Result A ValueFault → Type 0
IsUsed needed (Ok value) = needed ≡ Ok value
IsUsed needed (Err TooLarge) = needed ≡ Err system_limit
IsUsed needed (Err BadArg) = needed ≡ Err badarg
IsUsed needed (Err Memory) = Unit {0}
