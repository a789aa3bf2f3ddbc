-- To which processes a process has sent (this project's own).
use Rattle.std.specs.Prelude.{ℕ, ◌<◌, ◌≤◌, List, slice_index}

-- below the first pid, and from the second on, each next number is 1, or 0 where there is no such process
pub record AreFirstOutside (low high : ℕ) (numbers : List ℕ) : Type 0 where
  pub below : (p : ℕ) → p < low → slice_index numbers p ≤ 1
  pub behind : (p : ℕ) → high ≤ p → slice_index numbers p ≤ 1
