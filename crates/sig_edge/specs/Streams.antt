-- What a program has read and written, and what its source spells.
use Rattle.std.specs.Prelude.{◌≡◌, ℕ, ◌≤◌, List, [], length, Option, Some, IfSome, Ok, Err}
use Rattle.sig_base.specs.Flow.{Took}
use Rattle.sig_program.specs.Scripts.{Program}
use Rattle.sig_reader.specs.Grammar.{script_of}
use Rattle.sig_tokens.specs.declared.fault.FaultKind.{FaultKind}

-- what a source had left and has, and its faults before and after
pub record Reading : Type 0 where
  pub left : Option (List ℕ)
  pub rest : Option (List ℕ)
  pub before : ℕ
  pub after : ℕ

abbrev pub reading : Option (List ℕ) → Option (List ℕ) → ℕ → ℕ → Reading
reading left rest before after = record { left = left; rest = rest; before = before; after = after }

-- what a sink held and holds, and its faults before and after
pub record Writing : Type 0 where
  pub held : Option (List ℕ)
  pub new : Option (List ℕ)
  pub before : ℕ
  pub after : ℕ

abbrev pub writing : Option (List ℕ) → Option (List ℕ) → ℕ → ℕ → Writing
writing held new before after = record { held = held; new = new; before = before; after = after }

-- no read failed
abbrev pub IsFine : Reading → Type 0
IsFine r = r.after ≡ r.before

-- the source wasn't read
abbrev pub IsUnread : Reading → Type 0
IsUnread r = (r.rest ≡ r.left) × IsFine r

-- the source has nothing left, where it tells its bytes
abbrev pub IsReadToEnd : Reading → Type 0
IsReadToEnd r = IfSome r.left (λ bytes. r.rest ≡ Some [])

-- at most so many bytes were taken from the source, where it tells its bytes
abbrev pub IsReadWithin : ℕ → Reading → Type 0
IsReadWithin most r = (bytes : List ℕ) × Took r.left r.rest bytes × (length bytes ≤ most)

-- nothing was written, and no write failed
abbrev pub IsUnwritten : Writing → Type 0
IsUnwritten w = (w.new ≡ w.held) × (w.after ≡ w.before)

-- the bytes are no script: this line is the first that is refused, and this is why
abbrev pub IsRefused : ℕ → FaultKind → List ℕ → Type 0
IsRefused line kind bytes = script_of bytes ≡ Err (record { line = line; kind = kind })

-- the source spells a script, of which this holds
abbrev pub Spells : Reading → (Program → Type 0) → Type 0
Spells r Holds = IfSome r.left (λ bytes. (script : Program) × (script_of bytes ≡ Ok script) × Holds script)
