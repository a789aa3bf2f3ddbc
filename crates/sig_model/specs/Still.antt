-- A process that can do nothing (this project's own).
use Rattle.std.specs.Prelude.{◌≡◌, ℕ, List, false, Some, None, slice_get}
use Rattle.sig_model.specs.Running.{Running, can_handle, exec_next}

-- no signal may be handled, and no instruction executed
pub record IsStill (r : Running) : Type 0 where
  pub handle : can_handle r ≡ false
  pub exec : exec_next r ≡ None

-- no process of the crew can do anything
abbrev pub IsStillCrew : List Running → Type 0
IsStillCrew crew = (p : ℕ) (r : Running) → slice_get crew p ≡ Some r → IsStill r
