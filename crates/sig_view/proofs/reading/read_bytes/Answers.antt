use Rattle.sig_base.specs.declared.reading.ReadAll.TheVariants.{Whole, TooLong, ReadFault, Memory}
use Rattle.sig_edge.proofs.TakenLemmas.{taken}
use Rattle.sig_tool.specs.declared.given.TheConstants.{MOST_INPUT}
use Rattle.sig_view.proofs.reading.read_bytes.Goals as goal

pub returns-in-Whole-clause-taken : goal.returns-in-Whole-clause-taken
returns-in-Whole-clause-taken g c = taken _ _ _ _ MOST_INPUT c.read_all.new.into.items Whole c.in-Whole.ensures.read

pub returns-in-TooLong-clause-taken : goal.returns-in-TooLong-clause-taken
returns-in-TooLong-clause-taken g c = taken _ _ _ _ MOST_INPUT c.read_all.new.into.items TooLong c.in-TooLong.ensures.read

pub returns-in-ReadFault-clause-taken : goal.returns-in-ReadFault-clause-taken
returns-in-ReadFault-clause-taken g c = taken _ _ _ _ MOST_INPUT c.read_all.new.into.items ReadFault c.in-ReadFault.ensures.read

pub returns-in-Memory-clause-taken : goal.returns-in-Memory-clause-taken
returns-in-Memory-clause-taken g c = taken _ _ _ _ MOST_INPUT c.read_all.new.into.items Memory c.in-Memory.ensures.read
