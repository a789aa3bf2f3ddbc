-- What plays of processes keep.
use Rattle.std.specs.Prelude.{◌≡◌}
use Rattle.sig_model.specs.Running.{Running}

-- the same process, to which the same signals have come
pub record SameCome (r s : Running) : Type 0 where
  pub pid : s.pid ≡ r.pid
  pub count : s.count ≡ r.count
  pub handled : s.handled ≡ r.handled
  pub taken_in : s.taken_in ≡ r.taken_in
