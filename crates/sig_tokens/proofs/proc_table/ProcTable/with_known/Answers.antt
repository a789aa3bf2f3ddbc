use Rattle.std.proofs.Common.{ap, ◌∙◌}
use Rattle.std.specs.List.{list_any}
use Rattle.std.specs.Str.{bytes_eq}
use Rattle.sig_program.specs.Scripts.{Declared}
use Rattle.sig_tokens.proofs.PlaceLemmas.{indexed_again}
use Rattle.sig_tokens.proofs.proc_table.ProcTable.with_known.Goals as goal

pub invariant_of-result : goal.invariant_of-result
invariant_of-result c = rw c.in_ok-add.ensures
    (indexed_again (λ (p : Declared). p.name) c.self.inside.procs c.args.proc c.self.inside.places.entries
    (ap (list_any (λ (p : Declared). bytes_eq p.name c.args.proc.name)) c.self.view_is ∙ c.requires) c.self.invariant)
