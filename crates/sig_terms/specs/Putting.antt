-- How a text is put behind what was there.
use Rattle.std.specs.Prelude.{◌≡◌, ℕ, List, ◌++◌, length, take, Result, OnOk, OnErr}

-- the text is behind it; where memory is refused, a part of the text may be
abbrev pub IsPut : {T E : Type 0} → List ℕ → List ℕ → List ℕ → Result T E → Type 0
IsPut before after text result = OnOk result (after ≡ before ++ text) × OnErr result (take (length before) after ≡ before)
