use Rattle.sig_host.specs.declared.status.Status.TheVariants.{BadScript, Usage, ReadFault, WriteFault, Memory}
use Rattle.sig_host.proofs.TellingLemmas.{told_of}
use Rattle.sig_host.proofs.telling.tell_status.Goals as goal

pub returns-in-BadScript : goal.returns-in-BadScript
returns-in-BadScript g c = told_of _ _ _ _ _ (BadScript c.in-BadScript.line c.in-BadScript.kind) _ _ c.in-BadScript.is c.tell_refusal.ensures.told

pub returns-in-Usage : goal.returns-in-Usage
returns-in-Usage g c = told_of _ _ _ _ _ Usage _ _ c.in-Usage.is c.tell_piece.ensures.told

pub returns-in-ReadFault : goal.returns-in-ReadFault
returns-in-ReadFault g c = told_of _ _ _ _ _ ReadFault _ _ c.in-ReadFault.is c.tell_read_fault.ensures.told

pub returns-in-WriteFault : goal.returns-in-WriteFault
returns-in-WriteFault g c = told_of _ _ _ _ _ WriteFault _ _ c.in-WriteFault.is c.tell_write_fault.ensures.told

pub returns-in-Memory : goal.returns-in-Memory
returns-in-Memory g c = told_of _ _ _ _ _ Memory _ _ c.in-Memory.is c.tell_memory.ensures.told
