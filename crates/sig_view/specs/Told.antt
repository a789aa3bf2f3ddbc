-- What the viewer tells on `err`: one line, which begins with the program's name, or nothing (the texts are this project's own).
use Rattle.std.specs.Prelude.{◌≡◌, ◌⊎◌, ℕ, List, [], ◌++◌, Option, codes, decimal}
use Rattle.sig_base.specs.Flow.{Adds}
use Rattle.sig_chart.specs.declared.window.TheConstants.{MOST_EVENTS}
use Rattle.sig_edge.specs.Told.{memory_text, number_text, read_fault_text, refusal_text, write_fault_text}
use Rattle.sig_view.specs.declared.status.ViewStatus.{ViewStatus}
use Rattle.sig_view.specs.declared.status.ViewStatus.TheVariants.{Done, BadScript, Usage, ReadFault, WriteFault, Memory, No, BadRecord, TooLong, NoEvent, TooManyEvents, NoOutcome, NotFound, Unfinished}

abbrev pub program_name : List ℕ
program_name = codes "sigview"

abbrev pub told_text : ViewStatus → List ℕ
told_text Done = []
told_text (BadScript line kind) = refusal_text program_name line kind
told_text Usage = codes "usage: sigview chart [--from S] [--to T]|concurrent P I|outcomes [--states N] [--record K]\n"
told_text ReadFault = read_fault_text program_name
told_text WriteFault = write_fault_text program_name
told_text Memory = memory_text program_name
told_text (No event) = number_text program_name (codes "no at event") event []
told_text (BadRecord line) = number_text program_name (codes "record line") line []
told_text TooLong = program_name ++ codes ": too long\n"
told_text NoEvent = program_name ++ codes ": no such event\n"
told_text TooManyEvents = number_text program_name (codes "more than") MOST_EVENTS (codes " events: choose some with --from S --to T")
told_text NoOutcome = program_name ++ codes ": no such outcome\n"
told_text (NotFound states) = number_text program_name (codes "no such outcome was found; states met:") states (codes "; there may be more outcomes")
told_text (Unfinished states) = number_text program_name (codes "states met:") states (codes "; there may be more outcomes")

-- how far a search is
abbrev pub progress_text : ℕ → ℕ → List ℕ
progress_text visited met = program_name ++ codes ": " ++ (decimal visited ++ (codes " states visited of " ++ (decimal met ++ codes " met\n")))

-- that was told, or nothing
abbrev pub IsProgressTold : Option (List ℕ) → Option (List ℕ) → ℕ → ℕ → Type 0
IsProgressTold old new visited met = (new ≡ old) ⊎ Adds old new (progress_text visited met)
