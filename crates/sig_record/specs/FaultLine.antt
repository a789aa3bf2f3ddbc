-- The line at which bytes are told to be no record's text (this project's own): the first that can't stand behind those before it, or
-- that isn't whole. A line is whole where a line feed ends it.
use Rattle.std.specs.Prelude.{◌≡◌, ◌==◌, ◌⊎◌, ℕ, suc, List, [], ◌++◌, length, Bool, true, not, codes}
use Rattle.std.specs.List.{list_all, filter}
use Rattle.sig_record.specs.declared.report.Report.{Report}
use Rattle.sig_record.specs.RecordText.{record_text}
use Rattle.sig_record.specs.ReadableRecord.{IsReadableRecord}

abbrev pub is_feed : ℕ → Bool
is_feed b = b == 10

abbrev pub is_inline : ℕ → Bool
is_inline b = not (is_feed b)

-- no line feed is among the bytes
abbrev pub IsInline : List ℕ → Type 0
IsInline bytes = list_all is_inline bytes ≡ true

abbrev pub feeds : List ℕ → ℕ
feeds bytes = length (filter is_feed bytes)

-- each line of the bytes is whole
abbrev pub AreWhole : List ℕ → Type 0
AreWhole bytes = (bytes ≡ []) ⊎ ((front : List ℕ) × (bytes ≡ front ++ codes "\n"))

-- the text of some record that can be read begins with these bytes
abbrev pub BeginARecord : List ℕ → Type 0
BeginARecord bytes = (reports : List Report) × (rest : List ℕ) × IsReadableRecord reports × (record_text reports ≡ bytes ++ rest)

-- The lines before this one, whole, begin some record's text. No whole line follows them, or with the next one they begin none.
pub record IsFaultLine (bytes : List ℕ) (line : ℕ) : Type 0 where
  pub before : List ℕ
  pub rest : List ℕ
  pub cut : bytes ≡ before ++ rest
  pub whole : AreWhole before
  pub number : line ≡ suc (feeds before)
  pub begins : BeginARecord before
  pub last : (next more : List ℕ) → IsInline next → rest ≡ next ++ codes "\n" ++ more → ¬ BeginARecord (before ++ next ++ codes "\n")
