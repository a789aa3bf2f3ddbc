-- Numbers of the arguments, and the events that they name (this project's own).
use Rattle.std.specs.Prelude.{◌&&◌, ◌^◌, ℕ, List, length, Option, Some, None, option_and_then, if◌then◌else◌, nat_lt}
use Rattle.std.specs.Char.{is_ascii_digit}
use Rattle.std.specs.List.{list_all}
use Rattle.std.specs.Str.Parse.{digits_value}
use Rattle.sig_order.specs.declared.at.At.{At}

-- the number, where 64 bits hold it, and where 32 do
abbrev pub wide : ℕ → Option ℕ
wide n = if nat_lt n (2 ^ 64) then Some n else None

abbrev pub narrow : ℕ → Option ℕ
narrow n = if nat_lt n (2 ^ 32) then Some n else None

-- the number that one decimal digit or more spell, where 64 bits hold it; leading zeros count for nothing
abbrev pub number_in : List ℕ → Option ℕ
number_in text = if nat_lt 0 (length text) && list_all is_ascii_digit text then wide (digits_value 10 text) else None

abbrev pub pid_in : List ℕ → Option ℕ
pid_in text = option_and_then narrow (number_in text)

-- both, if there are both
abbrev pub event_of : Option ℕ → Option ℕ → Option At
event_of (Some pid) (Some event) = Some (record { pid = pid; event = event })
event_of _ _ = None

-- the event that these texts name: its process, and its number among that process's events
abbrev pub event_named : List ℕ → List ℕ → Option At
event_named pid event = event_of (pid_in pid) (number_in event)
