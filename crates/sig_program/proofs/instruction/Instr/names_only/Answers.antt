use Rattle.std.proofs.Common.{◌≡◌, ◌∙◌, List, [], ◌∷◌, All, rules, subst, sym}
use Rattle.std.proofs.lemmas.Bool.{false≢true}
use Rattle.std.proofs.lemmas.List.Elements.{All-cons, All-head, All-nil, All-tail}
use Rattle.sig_patterns.specs.Pids.{IsExprAmong}
use Rattle.sig_patterns.specs.declared.expression.Expr.{Expr}
use Rattle.sig_program.specs.Parts.{exprs_of}
use Rattle.sig_program.proofs.instruction.Instr.names_only.Goals as goal

pub returns-in-Set : goal.returns-in-Set
returns-in-Set c =
    let Known : Expr → Type 0 = IsExprAmong c.args.known.now in
    let one : exprs_of c.args.self.now ≡ c.in-Set.expr ∷ [] = search (rules, c.in-Set.is) in (
      λ h. subst (All Known) (sym one) (All-cons Known c.in-Set.expr [] (c.names_only.ensures.0 h) (All-nil Known)),
      λ h. c.names_only.ensures.1 (All-head Known c.in-Set.expr [] (subst (All Known) one h)),
    )

pub returns-then-names_only : goal.returns-then-names_only
returns-then-names_only c =
    let Known : Expr → Type 0 = IsExprAmong c.args.known.now in
    let first : Expr = c.in-Send.first in
    let second : Expr = c.in-Send.second in
    let two : exprs_of c.args.self.now ≡ first ∷ second ∷ [] = search (rules, c.in-Send.is) in (
      λ h. subst (All Known) (sym two) (All-cons Known first (second ∷ []) (c.names_only-in-Send.ensures.0 c.if-names_only.true) (All-cons Known second [] (c.names_only-then-names_only.ensures.0 h) (All-nil Known))),
      λ h. c.names_only-then-names_only.ensures.1 (All-head Known second [] (All-tail Known first (second ∷ []) (subst (All Known) two h))),
    )

pub returns-else-names_only : goal.returns-else-names_only
returns-else-names_only c =
    let Known : Expr → Type 0 = IsExprAmong c.args.known.now in
    let first : Expr = c.in-Send.first in
    let second : Expr = c.in-Send.second in
    let two : exprs_of c.args.self.now ≡ first ∷ second ∷ [] = search (rules, c.in-Send.is) in
    (λ h. absurd (false≢true (sym c.if-names_only.false ∙ h)), λ h. c.names_only-in-Send.ensures.1 (All-head Known first (second ∷ []) (subst (All Known) two h)))
