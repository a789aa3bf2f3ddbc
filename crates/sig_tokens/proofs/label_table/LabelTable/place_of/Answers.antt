use Rattle.std.proofs.Common.{◌∙◌}
use Rattle.sig_tokens.proofs.label_table.LabelTable.place_of.Goals as goal

pub returns : goal.returns
returns c = rw (← c.self.view_is) (c.copied.ensures ∙ c.get.ensures.value ∙ c.self.invariant c.args.name.now)
