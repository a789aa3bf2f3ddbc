use Rattle.std.proofs.Common.{List, ℕ, arith, subst}
use Rattle.std.proofs.lemmas.Grind.{common_steps}
use Rattle.std.specs.Global.{Global}
use Rattle.std.specs.String.{string_bytes}
use Rattle.sig_view.specs.Commands.{IsAsked}
use Rattle.sig_view.proofs.WordLemmas.{other_count}
use Rattle.sig_view.proofs.command.Command.of.Goals as goal

pub returns-in-len1 : goal.returns-in-len1
returns-in-len1 c = subst (λ (words : List (List ℕ)). IsAsked words c.of_one.result) (grind (arith, common_steps)) c.of_one.ensures

pub returns-in-len3 : goal.returns-in-len3
returns-in-len3 c = subst (λ (words : List (List ℕ)). IsAsked words c.of_three.result) (grind (arith, common_steps)) c.of_three.ensures

pub returns-in-len5 : goal.returns-in-len5
returns-in-len5 c = subst (λ (words : List (List ℕ)). IsAsked words c.of_five.result) (grind (arith, common_steps)) c.of_five.ensures

pub returns-in_default-2 : goal.returns-in_default-2
returns-in_default-2 c = other_count (string_bytes {Z = Global}) c.args.words.now (λ e. omega (arith, e, c.in_default.len_at_least)) (λ e. omega (arith, e, c.in_default.len_below)) (λ e. omega (arith, e, c.in_default.len_below))

pub returns-in_default-3 : goal.returns-in_default-3
returns-in_default-3 c = other_count (string_bytes {Z = Global}) c.args.words.now (λ e. omega (arith, e, c.in_default.len_at_least)) (λ e. omega (arith, e, c.in_default.len_at_least)) (λ e. omega (arith, e, c.in_default.len_below))

pub returns-in_default-4 : goal.returns-in_default-4
returns-in_default-4 c = other_count (string_bytes {Z = Global}) c.args.words.now (λ e. omega (arith, e, c.in_default.len_at_least)) (λ e. omega (arith, e, c.in_default.len_at_least)) (λ e. omega (arith, e, c.in_default.len_at_least))
