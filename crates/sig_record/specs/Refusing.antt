-- What a reader of lines answers, by what stands at the front of the bytes.
use Rattle.std.specs.Prelude.{◌≡◌, ℕ, List, Result, Ok, Err}
use Rattle.sig_record.specs.declared.refusal.Refusal.{Refusal}
use Rattle.sig_record.specs.declared.refusal.RecordError.{RecordError}
use Rattle.sig_record.specs.declared.refusal.RecordError.TheVariants as wrong
use Rattle.sig_record.specs.declared.report.Report.{Report}
use Rattle.sig_record.specs.declared.refusal.Refusal.TheVariants as refused

-- so many bytes are left where the line begins that can't stand there, or memory ran out
abbrev pub Refuses : {Y : Type 0} → Refusal → Result Y ℕ → Type 0
Refuses (refused.Bad left) read = read ≡ Err left
Refuses refused.Memory read = Unit {0}

-- what stands there, seen by view, or where a line can't stand, unless memory ran out
abbrev pub Yields : {X Y : Type 0} → (X → Y) → Result X Refusal → Result Y ℕ → Type 0
Yields view (Ok x) read = read ≡ Ok (view x)
Yields view (Err e) read = Refuses e read

-- this record, unless memory ran out
abbrev pub GivesBack : List Report → Result (List Report) RecordError → Type 0
GivesBack reports (Ok given) = given ≡ reports
GivesBack reports (Err (wrong.BadRecord line)) = ⊥
GivesBack reports (Err wrong.Memory) = Unit {0}

-- that it is no record's text, at this line, unless memory ran out
abbrev pub TellsLine : ℕ → Result (List Report) RecordError → Type 0
TellsLine line (Ok given) = ⊥
TellsLine line (Err (wrong.BadRecord told)) = told ≡ line
TellsLine line (Err wrong.Memory) = Unit {0}
