use Rattle.std.proofs.Common.{◌∙◌, ap, ◌++◌}
use Rattle.sig_canon.specs.Generated.{generated}
use Rattle.sig_canon.proofs.GeneratedLemmas.{sound_with}
use Rattle.sig_canon.proofs.generating.generate.Goals as goal

pub invariant_of-result : goal.invariant_of-result
invariant_of-result c = sound_with c.args.n c.add_procs.new.procs (c.in_ok-add_procs.ensures ∙ ap (λ ps. ps ++ (generated c.args.n).procs) c.new-procs.ensures)
