-- How many processes a script has.
use Rattle.std.proofs.Common.{◌≤◌, length, arith}
use Rattle.sig_program.specs.declared.version.Version.{Version}
use Rattle.sig_program.specs.declared.version.Version.TheVariants.{One, Two}
use Rattle.sig_program.specs.declared.script.TheConstants.{MOST_PROCESSES}
use Rattle.sig_program.specs.Scripts.{Program, most_processes, IsScriptWithin}

-- no version allows more
pub most_of_all : (v : Version) → most_processes v ≤ MOST_PROCESSES
most_of_all One = omega arith
most_of_all Two = omega arith

pub few_procs : (s : Program) → IsScriptWithin s → length s.procs ≤ MOST_PROCESSES
few_procs s h = omega (arith, h.few, most_of_all s.version)
