-- What the work of a round does for each process: one that can do something does something (this project's own).
use Rattle.std.specs.Prelude.{◌≡◌, ◌⊎◌, ℕ, ◌+◌, ◌<◌, ◌≤◌, List, length, slice_get, slice_set, Some}
use Rattle.sig_model.specs.Still.{IsStill}
use Rattle.sig_process.specs.Standing.{Standing}

-- an event more; or none, and then it can do nothing, and its saved place lies no earlier
abbrev pub HasActed : Standing → Standing → Type 0
HasActed p q =
    (length p.running.events < length q.running.events)
    ⊎ ((length q.running.events ≡ length p.running.events) × IsStill q.running × (p.saved ≤ q.saved))

-- the process at this place is another now
pub record HasActedAt (at : ℕ) (procs later : List Standing) : Type 0 where
  pub old : Standing
  pub there : slice_get procs at ≡ Some old
  pub new : Standing
  pub set : later ≡ slice_set procs at new
  pub acted : HasActed old new

-- the first n processes
abbrev pub ActBelow : ℕ → List Standing → List Standing → Type 0
ActBelow n procs later =
    (i : ℕ) (q : Standing) → i < n → slice_get later i ≡ Some q → (p : Standing) × (slice_get procs i ≡ Some p) × HasActed p q

-- all processes, which stand in the crew from this place on
abbrev pub HaveActed : List Standing → ℕ → List Standing → Type 0
HaveActed crew first later =
    (i : ℕ) (q : Standing) → slice_get later i ≡ Some q → (p : Standing) × (slice_get crew (first + i) ≡ Some p) × HasActed p q

-- the same processes, with the same saved places and events
abbrev pub KeepEvents : List Standing → List Standing → Type 0
KeepEvents procs later =
    (i : ℕ) (q : Standing) → slice_get later i ≡ Some q →
    (p : Standing) × (slice_get procs i ≡ Some p) × (q.running.events ≡ p.running.events) × (q.saved ≡ p.saved)
