use Rattle.std.proofs.Common.{List, sym, ap, refl, ◌∙◌}
use Rattle.std.specs.FinMap.{insert}
use Rattle.sig_patterns.specs.declared.binding.Binding.{Binding}
use Rattle.sig_patterns.specs.Environment.{Environment, with_entry}
use Rattle.sig_patterns.specs.Matching.{overlaid}
use Rattle.sig_patterns.specs.Fitting.{bindings_of}
use Rattle.sig_patterns.proofs.EnvironmentLemmas.{restored, get-inserted_here}
use Rattle.sig_patterns.proofs.Placing.{overlaid-bindings}
use Rattle.sig_patterns.proofs.binding.+put_in.Goals as goal

pub returns-in-Ok-clause-ok : goal.returns-in-Ok-clause-ok
returns-in-Ok-clause-ok t c =
    c.in-Ok.ensures.ok
    ∙ ap (λ (e : Environment). overlaid e (bindings_of c.pop.new.self.items)) c.in_ok-before.ensures.ok
    ∙ sym (overlaid-bindings c.args.env.now c.pop.new.self.items c.in-Some.field-0)
    ∙ ap (λ (bindings : List Binding). overlaid c.args.env.now (bindings_of bindings)) (sym c.in-Some.ensures.items)

pub restore-requires : goal.restore-requires
restore-requires t c = rw (c.in-Err.ensures.err, c.in_ok-before.ensures.ok, get-inserted_here) refl

pub returns-in-Err-clause-err : goal.returns-in-Err-clause-err
returns-in-Err-clause-err t c =
    c.restore.ensures
    ∙ ap (λ (e : Environment). with_entry e c.in-Some.field-0.var.now.0 c.in_ok-before.before) (c.in-Err.ensures.err ∙ c.in_ok-before.ensures.ok)
    ∙ ap (with_entry (insert c.args.env.now c.in-Some.field-0.var.now.0 c.in-Some.field-0.value) c.in-Some.field-0.var.now.0) c.in_ok-before.ensures.before
    ∙ restored c.args.env.now c.in-Some.field-0.var.now.0 c.in-Some.field-0.value
