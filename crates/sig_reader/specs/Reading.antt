-- What the reader answers.
use Rattle.std.specs.Prelude.{◌≡◌, ℕ, Result, Ok, Err}
use Rattle.sig_reader.specs.declared.draft.Section.{Section}
use Rattle.sig_reader.specs.declared.draft.Draft.{Draft}
use Rattle.sig_reader.specs.declared.reader.ScriptError.{ScriptError}
use Rattle.sig_reader.specs.declared.reader.ScriptError.TheVariants as error
use Rattle.sig_program.specs.Scripts.{Program}
use Rattle.sig_tokens.specs.Faults.{Fault}
use Rattle.sig_reader.specs.Drafts.{program_of}
use Rattle.sig_reader.specs.Grammar.{finished}

-- The script that was read is the one that is spelled, and a refusal tells the line and the kind that are said of the text.
abbrev pub Refuses : {A : Type 0} → ScriptError → Result A Fault → Type 0
Refuses (error.Fault line kind) spelled = spelled ≡ Err (record { line = line; kind = kind })
Refuses error.Memory spelled = Unit {0}

abbrev pub IsReading : Result Program Fault → Result Program ScriptError → Type 0
IsReading spelled (Ok script) = spelled ≡ Ok script
IsReading spelled (Err e) = Refuses e spelled

-- the lines were read, and line n would be the next, or one of them is refused
abbrev pub IsWalked : Result Program Fault → Draft → Result ℕ ScriptError → Type 0
IsWalked spelled d (Ok n) = finished n d d.section ≡ spelled
IsWalked spelled d (Err e) = Refuses e spelled

-- whether the text may end before line n
abbrev pub MayEnd : ℕ → Section → Result (Unit {0}) ScriptError → Type 0
MayEnd n section (Ok u) = (d : Draft) → finished n d section ≡ Ok (program_of d)
MayEnd n section (Err e) = (d : Draft) → Refuses e (finished n d section)
