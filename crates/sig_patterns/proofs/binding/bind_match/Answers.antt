use Rattle.std.proofs.Common.{List, Some, ap, ◌++◌, ◌∙◌}
use Rattle.sig_patterns.specs.declared.binding.Binding.{Binding}
use Rattle.sig_patterns.specs.Matching.{Bindings, overlaid}
use Rattle.sig_patterns.specs.Fitting.{placed, bindings_of}
use Rattle.sig_patterns.proofs.Placing.{placed-match_of, bound_or_as_before}
use Rattle.sig_patterns.proofs.binding.bind_match.Goals as goal

pub returns : goal.returns
returns c =
    let own = placed c.args.pattern.now c.args.term.now in
    bound_or_as_before c.put_in.result _ _ _ _ c.put_in.ensures.ok c.put_in.ensures.err
    (ap (λ (bound : Bindings). Some (overlaid c.args.env.now bound))
    (c.in_ok-collect.ensures ∙ ap (λ (bindings : List Binding). bindings_of bindings ++ own) c.new-bindings.ensures.items)
    ∙ placed-match_of c.args.pattern.now c.args.env.now c.args.term.now c.requires)
