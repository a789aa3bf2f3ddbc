-- Where the shapes stand: x to the right by the process, y downwards by the row (this project's own).
use Rattle.std.specs.Prelude.{ℕ, ◌+◌, ◌*◌, ◌/◌, ◌==◌, Option, None, Some, if◌then◌else◌}

abbrev pub lane_x : ℕ → ℕ
lane_x pid = 150 * pid + 100

abbrev pub side_x : ℕ → ℕ
side_x pid = 150 * pid + 60

abbrev pub row_y : ℕ → ℕ
row_y row = 40 * row + 90

-- at its row, or above all rows
abbrev pub start_y : Option ℕ → ℕ
start_y None = 56
start_y (Some row) = row_y row

-- in the middle between two lanes, or at the side of one
abbrev pub bend_x : ℕ → ℕ → ℕ
bend_x from to = if from == to then side_x from else (lane_x from + lane_x to) / 2

-- a third of the way from one lane to another, or at the side of one
abbrev pub toward : ℕ → ℕ → ℕ
toward from to = if from == to then side_x from else (2 * lane_x from + lane_x to) / 3
