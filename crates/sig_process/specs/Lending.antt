-- How a crew lends a process.
use Rattle.std.specs.Prelude.{ℕ, List, Option, slice_set}
use Rattle.std.specs.Borrow.{LendsIf, MutBor, Fml}
use Rattle.sig_process.specs.Standing.{Standing}
use Rattle.sig_process.specs.contracts.crew.Crew as crew
use Rattle.sig_process.specs.contracts.process.Process as process

-- the crew ends with what is left of the process in its place; where there is none, as it was
abbrev pub LendsProcess : MutBor (List Standing) → ℕ → Option (MutBor Standing) → Fml
LendsProcess lender pid result = LendsIf crew.the_row process.the_row lender result (λ p. slice_set lender.now pid p) lender.now
