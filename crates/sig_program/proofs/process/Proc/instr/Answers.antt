use Rattle.std.proofs.Common.{arith, subst, sym, ◌≡◌, ◌-◌, ℕ, List, All, length, get_or, Some, None}
use Rattle.std.proofs.lemmas.Option.{slice_get_cases, slice_get_within}
use Rattle.std.proofs.lemmas.Grind.{common_steps}
use Rattle.std.specs.Prelude.{Option, IfSome, option_copied, slice_get}
use Rattle.sig_program.specs.Scripts.{IsWithin, IsInstrWithin}
use Rattle.sig_program.proofs.process.Proc.instr.Goals as goal

at_place : {A : Type 0} (xs : List A) (i : ℕ) (x : A) → slice_get xs i ≡ Some x → get_or xs i x ≡ x
at_place xs i x e = grind (arith, common_steps, slice_get_cases xs i)

-- what holds of all items holds of the one at a place
one_of : {A : Type 0} (P : A → Type 0) (xs : List A) (i : ℕ) (r : Option A) → r ≡ slice_get xs i → All P xs → IfSome r P
one_of P xs i None e all = tt
one_of P xs i (Some x) e all = subst P (at_place xs i x (sym e)) (all i x (slice_get_within xs i x (sym e)))

pub returns-clause-value : goal.returns-clause-value
returns-clause-value c = grind (arith, common_steps)

pub returns-clause-lawful : goal.returns-clause-lawful
returns-clause-lawful c =
    let within : IsWithin c.args.self.now = subst IsWithin c.self.view_is c.self.invariant in
    one_of (IsInstrWithin (length c.args.self.now.labels)) c.args.self.now.instrs (c.args.place - 1) (option_copied c.get.result) (grind (arith, common_steps)) within.lawful
