-- The two parts of an input: a script, and behind it a record, which begins with the line `sigrecord 1` (this project's own).
use Rattle.std.specs.Prelude.{ℕ, ◌+◌, Bool, not, List, length, take, drop, take_while, sum_by, codes}
use Rattle.std.specs.Str.{bytes_eq}
use Rattle.sig_tokens.specs.Lines.{lines_of}

-- the line isn't the first of a record
abbrev pub is_before : List ℕ → Bool
is_before line = not (bytes_eq line (codes "sigrecord 1"))

-- how many bytes the lines have before the first that is `sigrecord 1`, each with a line feed
unfoldable pub script_length : List ℕ → ℕ
script_length bytes = sum_by (λ line. length line + 1) (take_while is_before (lines_of bytes))

unfoldable pub script_part : List ℕ → List ℕ
script_part bytes = take (script_length bytes) bytes

-- empty where no line is `sigrecord 1`
unfoldable pub record_part : List ℕ → List ℕ
record_part bytes = drop (script_length bytes) bytes
