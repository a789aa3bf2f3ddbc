-- How a program ends on its arguments, by what its answers say of the words in them.
use Rattle.std.specs.Prelude.{◌≡◌, ◌≢◌, ℕ, List, map, Result, Ok, Err, Vec, String, string_bytes}
use Rattle.std.specs.Global.{Global}
use Rattle.std.specs.IoError.{error_kind}
use Rattle.std.specs.declared.io.Error.{Error}
use Rattle.std.specs.declared.io.ErrorKind.TheVariants.{OutOfMemory}
use Rattle.sig_edge.specs.Streams.{IsUnread, IsUnwritten, Reading, Writing}
use Rattle.sig_edge.specs.Told.{IsSaid}

-- why the arguments can't be had: the one of these for want of memory, and the other where one of them is no text
abbrev pub IsWhy : {S : Type 0} → S → S → Error → S → Type 0
IsWhy memory usage fault status = (error_kind fault ≡ OutOfMemory → status ≡ memory) × (error_kind fault ≢ OutOfMemory → status ≡ usage)

-- what the status says of the arguments: what an answer of the program says of their words; or why they can't be had, and then
-- nothing is read or written
abbrev pub IsEnd : {S : Type 0} → (List (List ℕ) → Reading → Writing → S → Type 0) → S → S
    → Result (Vec (String Global) Global) Error → Reading → Writing → S → Type 0
IsEnd IsAnswer memory usage (Ok words) r w status = IsAnswer (map string_bytes words.items) r w status
IsEnd IsAnswer memory usage (Err fault) r w status = IsUnread r × IsUnwritten w × IsWhy memory usage fault status

-- the exit code is the number of a status that says so, and what this tells was said
abbrev pub EndsWith : {S : Type 0} → (S → ℕ) → (S → List ℕ) → (S → Type 0) → Writing → ℕ → Type 0
EndsWith {S} number_of told_text Says err code = (status : S) × (code ≡ number_of status) × Says status × IsSaid err (told_text status)
