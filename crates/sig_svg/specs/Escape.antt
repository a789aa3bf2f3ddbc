-- Bytes of a script or a record, as they stand in the text of an element (Extensible Markup Language 1.0, Character Data and Markup,
-- Predefined Entities, Characters; that other bytes than those of printable ASCII are told by U+FFFD is this project's own).
use Rattle.std.specs.Prelude.{◌≡◌, ◌≤◌, ◌≢◌, ℕ, List, [], ◌∷◌, ◌++◌, ◌==◌, ◌&&◌, nat_le, if◌then◌else◌, codes}
use Rattle.std.specs.List.{flat_map}

-- an entity in place of a sign of XML, and of what isn't printable; else the byte itself
abbrev pub escape_byte : ℕ → List ℕ
escape_byte b =
    if b == 38 then codes "&amp;"
    else if b == 60 then codes "&lt;"
    else if b == 62 then codes "&gt;"
    else if b == 34 then codes "&quot;"
    else if b == 39 then codes "&#39;"
    else if nat_le 32 b && nat_le b 126 then b ∷ []
    else codes "&#65533;"

abbrev pub escape : List ℕ → List ℕ
escape = flat_map escape_byte

-- the entities that are used
pub data IsEntity : List ℕ → Type 0 where
  amp : IsEntity (codes "&amp;")
  lt : IsEntity (codes "&lt;")
  gt : IsEntity (codes "&gt;")
  quot : IsEntity (codes "&quot;")
  tick : IsEntity (codes "&#39;")
  replaced : IsEntity (codes "&#65533;")

-- printable, and none of `&`, `<`, `>`, `"` and `'`
pub record IsPlain (b : ℕ) : Type 0 where
  pub low : 32 ≤ b
  pub high : b ≤ 126
  pub no_amp : b ≢ 38
  pub no_lt : b ≢ 60
  pub no_gt : b ≢ 62
  pub no_quot : b ≢ 34
  pub no_tick : b ≢ 39

-- plain bytes and whole entities, one behind the other: so a `&` stands there only as the first byte of an entity, and none of `<`, `>`,
-- `"` and `'` stands there
pub data IsEscaped : List ℕ → Type 0 where
  none : IsEscaped []
  plain : {b : ℕ} {bs : List ℕ} → IsPlain b → IsEscaped bs → IsEscaped (b ∷ bs)
  entity : {e bs : List ℕ} → IsEntity e → IsEscaped bs → IsEscaped (e ++ bs)
