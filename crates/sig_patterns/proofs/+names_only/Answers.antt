use Rattle.std.proofs.Common.{◌≡◌, List, ℕ, All, take_all, ap, sym, subst, ◌∙◌, refl, ⊎_elim}
use Rattle.std.proofs.lemmas.Bool.{false≢true}
use Rattle.std.proofs.lemmas.List.Elements.{All-more}
use Rattle.sig_terms.specs.Names.{process, IsAmong}
use Rattle.sig_patterns.specs.Pids.{IsExprAmong}
use Rattle.sig_patterns.specs.declared.expression.Expr.{Expr}
use Rattle.sig_patterns.specs.declared.expression.Expr.TheVariants as expr
use Rattle.sig_patterns.proofs.PidLemmas.{pid_pids, pid_tells, tuple_pids, tuple_tells, list_pids, list_tells}
use Rattle.sig_patterns.proofs.+names_only.Goals as goal

pub expression::Expr::names_only-returns-in-Pid : goal.expression::Expr::names_only-returns-in-Pid
expression::Expr::names_only-returns-in-Pid t c =
    let P : ℕ → Type 0 = λ q. IsAmong c.args.known.now (process q) in
    let n : ℕ = c.in-Pid.pid.0 in (
      λ known. subst (IsExprAmong c.args.known.now) (sym c.in-Pid.is) (pid_pids P n (c.is_among.ensures.0 known)),
      λ h. c.is_among.ensures.1 (pid_tells P n (subst (IsExprAmong c.args.known.now) c.in-Pid.is h)),
    )

pub expression::Expr::names_only-returns-in-Tuple : goal.expression::Expr::names_only-returns-in-Tuple
expression::Expr::names_only-returns-in-Tuple t c =
    let P : ℕ → Type 0 = λ q. IsAmong c.args.known.now (process q) in
    let items : List Expr = c.as_slice.result.now in
    ⊎_elim
    (λ is.
    let whole : c.args.self.now ≡ expr.Tuple items = is ∙ ap expr.Tuple (sym c.as_slice.ensures) in (
      λ known. subst (IsExprAmong c.args.known.now) (sym whole) (tuple_pids P items (c.all_name_only.ensures.0 known)),
      λ h. c.all_name_only.ensures.1 (tuple_tells P items (subst (IsExprAmong c.args.known.now) whole h)),
    ))
    (λ is.
    let whole : c.args.self.now ≡ expr.List items = is ∙ ap expr.List (sym c.as_slice.ensures) in (
      λ known. subst (IsExprAmong c.args.known.now) (sym whole) (list_pids P items (c.all_name_only.ensures.0 known)),
      λ h. c.all_name_only.ensures.1 (list_tells P items (subst (IsExprAmong c.args.known.now) whole h)),
    ))
    c.in-Tuple.is

pub naming::all_name_only-loop-item-preserved : goal.naming::all_name_only-loop-item-preserved
naming::all_name_only-loop-item-preserved t c =
    All-more (IsExprAmong c.args.known.now) c.args.items.now c.loop-item.item-index c.item-item.result c.loop-item-test.true c.loop-item.invariant
    (subst (IsExprAmong c.args.known.now) c.item-item.is (c.names_only.ensures.0 c.if-not-names_only.false))

pub naming::all_name_only-returns-then-not-names_only : goal.naming::all_name_only-returns-then-not-names_only
naming::all_name_only-returns-then-not-names_only t c = (
  λ h. absurd (false≢true h),
  λ h. sym c.if-not-names_only.true ∙ c.names_only.ensures.1 (subst (IsExprAmong c.args.known.now) (sym c.item-item.is) (h c.loop-item.item-index c.item-item.result c.loop-item-test.true)),
)

pub naming::all_name_only-returns : goal.naming::all_name_only-returns
naming::all_name_only-returns t c = (
  λ _. subst (All (IsExprAmong c.args.known.now)) (take_all c.loop-item.item-index c.args.items.now c.loop-item-test.false) c.loop-item.invariant,
  λ _. refl,
)
