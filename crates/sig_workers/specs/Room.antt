-- How far the stamps of the processes are from the last.
use Rattle.std.specs.Prelude.{ℕ, ◌-◌, List, sum_by}
use Rattle.sig_model.specs.declared.state.TheConstants.{LAST_STAMP}
use Rattle.sig_model.specs.Running.{Running}

abbrev pub room_of : Running → ℕ
room_of r = LAST_STAMP - r.state.counts.stamp

abbrev pub room : List Running → ℕ
room crew = sum_by room_of crew
