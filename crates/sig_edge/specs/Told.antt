-- What a program tells when it can't go on: one line, which begins with its name (the texts are this project's own).
use Rattle.std.specs.Prelude.{◌≡◌, ◌⊎◌, ℕ, List, ◌++◌, take, codes, decimal, Option, Result, Ok, Err}
use Rattle.sig_base.specs.Flow.{one_more, Rose, Adds}
use Rattle.sig_tokens.specs.declared.fault.FaultKind.{FaultKind}
use Rattle.sig_tokens.specs.FaultWords.{fault_text}
use Rattle.sig_edge.specs.Streams.{Writing}

-- these words, a number, and what stands right behind it
abbrev pub number_text : List ℕ → List ℕ → ℕ → List ℕ → List ℕ
number_text program words number behind = program ++ codes ": " ++ words ++ codes " " ++ decimal number ++ behind ++ codes "\n"

-- the line of a script that is refused, and why
abbrev pub refusal_text : List ℕ → ℕ → FaultKind → List ℕ
refusal_text program line kind = program ++ codes ": " ++ fault_text line kind ++ codes "\n"

abbrev pub read_fault_text : List ℕ → List ℕ
read_fault_text program = program ++ codes ": read fault\n"

abbrev pub write_fault_text : List ℕ → List ℕ
write_fault_text program = program ++ codes ": write fault\n"

abbrev pub memory_text : List ℕ → List ℕ
memory_text program = program ++ codes ": out of memory\n"

-- the beginning of the text was added, which may be nothing or the whole
abbrev pub AddsBeginning : Option (List ℕ) → Option (List ℕ) → List ℕ → Type 0
AddsBeginning held new text = (n : ℕ) × Adds held new (take n text)

-- the text was written whole, and no write failed; or one did, and the beginning of the text was written
abbrev pub IsTold : {T E : Type 0} → Writing → List ℕ → Result T E → Type 0
IsTold w text (Ok t) = Adds w.held w.new text × (w.after ≡ w.before)
IsTold w text (Err e) = (w.after ≡ one_more w.before) × AddsBeginning w.held w.new text

-- no write failed, or one did
abbrev pub FailedOnceAtMost : Writing → Type 0
FailedOnceAtMost w = (w.after ≡ w.before) ⊎ (w.after ≡ one_more w.before)

-- the text was written where no write failed, and else its beginning; not more than one write failed
abbrev pub IsSaid : Writing → List ℕ → Type 0
IsSaid w text = ((Rose w.before w.after → ⊥) → Adds w.held w.new text) × AddsBeginning w.held w.new text × FailedOnceAtMost w
