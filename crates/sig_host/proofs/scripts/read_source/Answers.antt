use Rattle.std.proofs.Common.{List, ℕ, [], Some, refl, subst, arith}
use Rattle.sig_base.specs.declared.reading.ReadAll.TheVariants.{Whole, TooLong, ReadFault, Memory}
use Rattle.sig_reader.specs.declared.reader.TheConstants.{MOST_BYTES}
use Rattle.sig_edge.specs.Streams.{reading}
use Rattle.sig_edge.proofs.TakenLemmas.{taken}
use Rattle.sig_host.specs.Answers.{IsSourceRead}
use Rattle.sig_host.proofs.ReadLemmas.{read_whole}
use Rattle.sig_host.proofs.TooLong.{too_long}
use Rattle.sig_host.proofs.scripts.read_source.Goals as goal

pub returns-in-Whole-clause-read : goal.returns-in-Whole-clause-read
returns-in-Whole-clause-read g c =
    read_whole _ _ _ _ _ c.read_all.new.into.items c.read_bytes.result c.in-Whole.ensures.read c.read_bytes.ensures.no_fault
    (subst (λ (bytes : List ℕ). IsSourceRead (reading (Some bytes) (Some []) 0 0) c.read_bytes.result) c.as_slice.ensures.value c.read_bytes.ensures.read)

pub returns-in-TooLong-clause-read : goal.returns-in-TooLong-clause-read
returns-in-TooLong-clause-read g c =
    (too_long _ _ c.read_all.new.into.items c.in-TooLong.ensures.read.0 (omega (arith, c.in-TooLong.ensures.read.1)), c.in-TooLong.ensures.read.2, λ other. absurd (other refl))

pub returns-in-Whole-clause-taken : goal.returns-in-Whole-clause-taken
returns-in-Whole-clause-taken g c = taken _ _ _ _ MOST_BYTES c.read_all.new.into.items Whole c.in-Whole.ensures.read

pub returns-in-TooLong-clause-taken : goal.returns-in-TooLong-clause-taken
returns-in-TooLong-clause-taken g c = taken _ _ _ _ MOST_BYTES c.read_all.new.into.items TooLong c.in-TooLong.ensures.read

pub returns-in-ReadFault-clause-taken : goal.returns-in-ReadFault-clause-taken
returns-in-ReadFault-clause-taken g c = taken _ _ _ _ MOST_BYTES c.read_all.new.into.items ReadFault c.in-ReadFault.ensures.read

pub returns-clause-taken : goal.returns-clause-taken
returns-clause-taken g c = taken _ _ _ _ MOST_BYTES c.read_all.new.into.items Memory c.in-Memory.ensures.read
