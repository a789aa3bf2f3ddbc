use Rattle.std.proofs.Common.{◌≡◌, sym, ap, ◌∙◌, subst, IfOk}
use Rattle.sig_terms.specs.declared.term.Term.{Term}
use Rattle.sig_patterns.specs.Building.{value_of}
use Rattle.sig_patterns.proofs.Extents.{pid_value, var_value}
use Rattle.sig_patterns.proofs.NextPlace.{map_next}
use Rattle.sig_patterns.proofs.building.+make.Goals as goal

pub make-returns-in-Pid : goal.make-returns-in-Pid
make-returns-in-Pid t c = sym (ap (value_of c.args.env.now) c.in-Pid.is ∙ pid_value c.args.env.now c.in-Pid.pid)

pub make-returns-in-Var : goal.make-returns-in-Var
make-returns-in-Var t c =
    subst (λ (v : Term). IfOk c.copy_value.result (λ t. t ≡ v)) (sym (ap (value_of c.args.env.now) c.in-Var.is ∙ var_value c.args.env.now c.in-Var.var)) c.copy_value.ensures

pub make_all-loop-item-preserved : goal.make_all-loop-item-preserved
make_all-loop-item-preserved t c =
    map_next (value_of c.args.env.now) c.args.items.now c.loop-item.item-index c.item-item.result _ _ c.in_ok-value.value c.in_ok-push.ensures.items c.loop-item.invariant c.in_ok-value.ensures c.loop-item-test.true c.item-item.is
