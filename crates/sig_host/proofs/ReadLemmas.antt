-- What is known of a source that was read to its end.
use Rattle.std.proofs.Common.{◌≡◌, ◌≢◌, ℕ, List, [], Option, Some, Result, Ok, Err, refl}
use Rattle.sig_base.specs.Reading.{IsRead}
use Rattle.sig_base.specs.declared.reading.ReadAll.TheVariants.{Whole}
use Rattle.sig_program.specs.Scripts.{Program}
use Rattle.sig_reader.specs.Grammar.{script_of}
use Rattle.sig_host.specs.declared.status.Status.{Status}
use Rattle.sig_host.specs.declared.status.Status.TheVariants.{Done, BadScript, Usage, ReadFault, WriteFault, Memory}
use Rattle.sig_edge.specs.Streams.{IsRefused, reading}
use Rattle.sig_edge.proofs.ReadLemmas.{of_all, to_end}
use Rattle.sig_host.specs.Answers.{IsSourceRead}

-- the script that was read is the source's
pub read_whole : (left rest : Option (List ℕ)) (before after limit : ℕ) (into : List ℕ) (result : Result Program Status) → IsRead left rest before after limit into Whole
    → result ≢ Err ReadFault → IsSourceRead (reading (Some into) (Some []) 0 0) result → IsSourceRead (reading left rest before after) result
read_whole left rest before after limit into (Ok script) whole ne h =
    (of_all (λ bytes. script_of bytes ≡ Ok script) left into whole.2 h.0, whole.3, to_end left rest before after into whole.0 whole.2)
read_whole left rest before after limit into (Err (BadScript line kind)) whole ne h =
    (of_all (IsRefused line kind) left into whole.2 h.0, whole.3, λ short. to_end left rest before after into whole.0 whole.2)
read_whole left rest before after limit into (Err ReadFault) whole ne h = absurd (ne refl)
read_whole left rest before after limit into (Err Memory) whole ne h = whole.3
read_whole left rest before after limit into (Err Done) whole ne h = absurd h
read_whole left rest before after limit into (Err Usage) whole ne h = absurd h
read_whole left rest before after limit into (Err WriteFault) whole ne h = absurd h
