use Rattle.std.proofs.Common.{◌≡◌, ◌∙◌, ◌++◌, ◌∷◌, [], ℕ, List, length, ap, arith}
use Rattle.sig_layout.specs.declared.run.Run.{Run}
use Rattle.sig_layout.specs.Runs.{listed}
use Rattle.sig_layout.proofs.Numbering.{listed_number, pushed_len}
use Rattle.sig_layout.proofs.numbers.Numbers.add_run.Goals as goal

pub overflow_add-self : goal.overflow_add-self
overflow_add-self c =
    let same : c.self.inside.len ≡ length c.args.self.now = c.self.invariant.0 ∙ ap (λ (z : List ℕ). length z) c.self.view_is in
    omega (arith, same, c.requires)

pub invariant_of-self-2 : goal.invariant_of-self-2
invariant_of-self-2 c =
    let same : c.self.inside.len ≡ length c.args.self.now = c.self.invariant.0 ∙ ap (λ (z : List ℕ). length z) c.self.view_is in
    let is : listed c.push.new.self.items 0 ≡ c.args.self.now ++ c.args.number ∷ [] =
    ap (λ (z : List Run). listed z 0) c.in_ok-push.ensures.items ∙ listed_number c.self.inside.runs.items c.self.inside.ones c.args.number
    ∙ ap (λ (z : List ℕ). z ++ c.args.number ∷ []) c.self.view_is in
    (pushed_len c.args.self.now _ c.args.number c.self.inside.len is same, c.self.invariant.1)

pub returns : goal.returns
returns c =
    ap (λ (z : List Run). listed z 0) c.in_ok-push.ensures.items ∙ listed_number c.self.inside.runs.items c.self.inside.ones c.args.number
    ∙ ap (λ (z : List ℕ). z ++ c.args.number ∷ []) c.self.view_is
