-- What a run tells of its end: a number, and a text on `err`.
use Rattle.std.specs.Prelude.{ℕ, List, [], ◌++◌, Option, Some, None, option_map, codes, decimal, Vec}
use Rattle.std.specs.Global.{Global}
use Rattle.sig_edge.specs.Told.{memory_text, read_fault_text, refusal_text, write_fault_text}
use Rattle.sig_record.specs.declared.summary.Summary.{Summary}
use Rattle.sig_host.specs.declared.status.Status.{Status}
use Rattle.sig_host.specs.declared.status.Status.TheVariants.{Done, BadScript, Usage, ReadFault, WriteFault, Memory}

abbrev pub number_of : Status → ℕ
number_of Done = 0
number_of (BadScript line kind) = 1
number_of Usage = 2
number_of ReadFault = 3
number_of WriteFault = 4
number_of Memory = 5

-- how many there are of something
abbrev pub count_line : List ℕ → ℕ → List ℕ
count_line name count = name ++ codes " " ++ decimal count ++ codes "\n"

-- the six lines of a summary
abbrev pub summary_text : Summary → List ℕ
summary_text s =
    count_line (codes "processes") s.processes ++ count_line (codes "events") s.events ++ count_line (codes "kept") s.kept
    ++ count_line (codes "ended") s.ended ++ count_line (codes "waiting") s.waiting ++ count_line (codes "cut") s.cut

-- the bytes of a text, where there is one
abbrev pub text_in : Option (Vec ℕ Global) → Option (List ℕ)
text_in = option_map (λ text. text.items)

abbrev pub text_or_none : Option (List ℕ) → List ℕ
text_or_none None = []
text_or_none (Some text) = text

-- the program's name, with which what it tells begins
abbrev pub program_name : List ℕ
program_name = codes "sigrun"

-- what is told of a status, where Done has this text of a summary or none
abbrev pub told_text : Status → Option (List ℕ) → List ℕ
told_text Done summary = text_or_none summary
told_text (BadScript line kind) summary = refusal_text program_name line kind
told_text Usage summary = codes "usage: sigrun [--workers N] [--quota N] [--buffers never|always|churn:N|auto] [--generate N]\n"
told_text ReadFault summary = read_fault_text program_name
told_text WriteFault summary = write_fault_text program_name
told_text Memory summary = memory_text program_name
