-- How a process stands: what it has run, and its saved place.
use Rattle.std.specs.Prelude.{ℕ, List, map}
use Rattle.sig_model.specs.Running.{Running}

pub record Standing : Type 0 where
  pub running : Running
  -- how many messages lie before the saved place: the last receive has looked at them, and none of its clauses matches one
  pub saved : ℕ

-- what these processes have run
abbrev pub runnings_of : List Standing → List Running
runnings_of crew = map (λ (p : Standing). p.running) crew
