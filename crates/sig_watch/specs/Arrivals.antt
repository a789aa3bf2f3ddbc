-- The monitors that a process bears, in the order of their arrival, where one that has ended may still have its place.
use Rattle.std.specs.Prelude.{ℕ, List, Option, filter_map, count_by, not, is_some}
use Rattle.std.specs.Option.{option_map}
use Rattle.sig_terms.specs.declared.pid.Pid.{Pid}
use Rattle.sig_terms.specs.declared.reference.Ref.{Ref}

-- the monitor of a place, with its watcher; none where it has ended
abbrev pub monitor_of : Ref × Option ℕ → Option (Ref × ℕ)
monitor_of place = option_map (λ watcher. (place.0, watcher)) place.1

abbrev pub borne_in : List (Ref × Option ℕ) → List (Ref × ℕ)
borne_in places = filter_map monitor_of places

-- at how many places the monitor has ended
abbrev pub ended_in : List (Ref × Option ℕ) → ℕ
ended_in places = count_by (λ place. not (is_some place.1)) places

-- a monitor with the pid of its watcher as a number
abbrev pub by_number : Ref × Pid → Ref × ℕ
by_number monitor = (monitor.0, monitor.1.0)
