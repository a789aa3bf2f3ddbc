-- Readers of whole lines (this project's own). Each gives what it has read and the bytes behind it, or how many bytes are left where
-- the line begins that can't stand there.
use Rattle.std.specs.Prelude.{ℕ, zero, suc, List, [], ◌∷◌, ◌++◌, length, Bool, if◌then◌else◌, Option, Some, None, Result, Ok, Err}
use Rattle.sig_record.specs.Readers.{Reader}

abbrev pub Lines : Type 0 → Type 0
Lines X = List ℕ → Result (X × List ℕ) ℕ

-- what was read, where it was, or else that so many bytes are left
abbrev pub or_left : {A : Type 0} → ℕ → Option A → Result A ℕ
or_left left None = Err left
or_left left (Some x) = Ok x

abbrev pub go_on : {A B : Type 0} → Result A ℕ → (A → Result B ℕ) → Result B ℕ
go_on (Err left) next = Err left
go_on (Ok x) next = next x

-- one line
abbrev pub one_line : {X : Type 0} → Reader X → Lines X
one_line read bytes = or_left (length bytes) (read bytes)

-- one behind the other
abbrev pub then_lines : {X Y : Type 0} → Lines X → Lines Y → Lines (X × Y)
then_lines first second bytes = go_on (first bytes) (λ x. go_on (second x.1) (λ y. Ok ((x.0, y.0), y.1)))

-- at most room items behind those that were read, as long as the bytes begin so, each by what was read before it
unfoldable pub lines_on : {X : Type 0} → (List ℕ → Bool) → (List X → Lines X) → ℕ → List X → Lines (List X)
lines_on begins read zero items bytes = if begins bytes then Err (length bytes) else Ok (items, bytes)
lines_on begins read (suc room) items bytes =
    if begins bytes then go_on (read items bytes) (λ x. lines_on begins read room (items ++ x.0 ∷ []) x.1) else Ok (items, bytes)

-- the items at the front
abbrev pub many_lines : {X : Type 0} → (List ℕ → Bool) → (List X → Lines X) → Lines (List X)
many_lines begins read bytes = lines_on begins read (length bytes) [] bytes
