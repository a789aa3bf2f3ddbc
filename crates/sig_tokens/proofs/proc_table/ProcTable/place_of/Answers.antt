use Rattle.std.proofs.Common.{◌∙◌}
use Rattle.std.specs.Str.{bytes_eq}
use Rattle.sig_program.specs.Scripts.{Declared}
use Rattle.sig_tokens.proofs.PlaceLemmas.{place_within}
use Rattle.sig_tokens.proofs.proc_table.ProcTable.place_of.Goals as goal

pub returns-clause-place : goal.returns-clause-place
returns-clause-place c = rw (← c.self.view_is) (c.copied.ensures ∙ c.get.ensures.value ∙ c.self.invariant c.args.name.now)

pub returns-clause-within : goal.returns-clause-within
returns-clause-within c = rw (← c.self.view_is)
    (place_within (λ (p : Declared). bytes_eq p.name c.args.name.now) c.self.inside.procs c.copied.result (c.copied.ensures ∙ c.get.ensures.value ∙ c.self.invariant c.args.name.now))
