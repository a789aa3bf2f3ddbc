use Rattle.sig_tokens.specs.declared.known.Known.TheVariants.{Any}
use Rattle.sig_reader.proofs.BoundLemmas.{fit_read}
use Rattle.sig_reader.proofs.guess.note_line.Goals as goal

pub returns-then-may_name : goal.returns-then-may_name
returns-then-may_name c = fit_read Any c.args.n c.args.draft.now c.take_line.new.draft c.args.line.now c.take_line.result c.requires.fit c.take_line.ensures
