-- Nothing is asked of a name: this holds of every process and of every script.
use Rattle.std.proofs.Common.{[]}
use Rattle.sig_terms.specs.Names.{Named}
use Rattle.sig_kinds.specs.declared.signal.Signal.{Signal}
use Rattle.sig_kinds.specs.declared.queue_data.QueueData.TheVariants.{OffHeap}
use Rattle.sig_kinds.specs.SignalNames.{SignalNames}
use Rattle.sig_program.specs.Scripts.{Declared, bare_process}
use Rattle.sig_model.specs.Names.{ScriptNames}

-- whatever a process names
abbrev pub Any : Named → Type 0
Any n = Unit {0}

-- whatever a signal says
pub any_signal : (x : Signal) → SignalNames Any x
any_signal x = record { from = tt; to = tt; kind = λ i d lt. tt }

-- a process that does nothing; what a process does with a signal depends on no part of a script
abbrev pub no_part : Declared
no_part = bare_process OffHeap []

pub any_script : (p : Declared) → ScriptNames Any p
any_script p = λ i d lt j e l m f g. tt
