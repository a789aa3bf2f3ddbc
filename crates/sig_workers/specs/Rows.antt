-- Parts in a row, from one process to another.
use Rattle.std.specs.Prelude.{◌≡◌, ℕ, ◌+◌, ◌<◌, Bool, List, [], ◌∷◌, length, slice_get, Some, Result, Ok, Err}
use Rattle.std.specs.Bool.{MatchBool}
use Rattle.std.specs.declared.alloc.AllocError.{AllocError}
use Rattle.sig_model.specs.Running.{Running}
use Rattle.sig_model.specs.Still.{IsStill}
use Rattle.sig_queue.specs.Seats.{Queue}
use Rattle.sig_process.specs.Standing.{Standing, runnings_of}
use Rattle.sig_workers.specs.Parts.{procs_of, crew_of, IsPart}
use Rattle.sig_workers.specs.Acting.{HaveActed}
use Rattle.sig_workers.specs.Opening.{AreFresh}
use Rattle.sig_workers.specs.declared.part.Part.{Part}
use Rattle.sig_workers.specs.declared.part.Worked.{Worked}

-- these processes stand in the crew from this place on
abbrev pub SliceOf : {X : Type 0} → List X → ℕ → List X → Type 0
SliceOf {X = X} crew first procs = (i : ℕ) (r : X) → slice_get procs i ≡ Some r → slice_get crew (first + i) ≡ Some r

-- parts with fresh seats, in a row
abbrev pub FreshRow : List Queue → List Standing → ℕ → ℕ → List Part → Type 0
FreshRow queues crew first end [] = first ≡ end
FreshRow queues crew first end (p ∷ ps) =
    (p.first ≡ first) × (crew_of p ≡ crew) × AreFresh queues first (length (procs_of p)) p.seats.items × SliceOf crew first p.procs.items
    × FreshRow queues crew (first + length (procs_of p)) end ps

-- some process from this place on has more events than in the crew; or none has, and they can do nothing
abbrev pub HasGrownBy : List Running → ℕ → List Running → Bool → Type 0
HasGrownBy crew first procs moved =
    MatchBool moved ((p : ℕ) × (r : Running) × (t : Running) × (slice_get crew (first + p) ≡ Some r) × (slice_get procs p ≡ Some t) × (length r.events < length t.events))
    ((p : ℕ) (t : Running) → slice_get procs p ≡ Some t → (r : Running) × (slice_get crew (first + p) ≡ Some r) × (length t.events ≡ length r.events) × IsStill t)

-- parts at the end of their work, in a row
abbrev pub DoneRow : List Queue → List Standing → ℕ → ℕ → List (Result Worked AllocError) → Type 0
DoneRow queues crew first end [] = first ≡ end
DoneRow queues crew first end (Err e ∷ ds) = Unit {0}
DoneRow queues crew first end (Ok w ∷ ds) =
    IsPart queues w.part × (w.part.first ≡ first) × (crew_of w.part ≡ crew) × HasGrownBy (runnings_of crew) first (procs_of w.part) w.moved
    × HaveActed crew first w.part.procs.items × DoneRow queues crew (first + length (procs_of w.part)) end ds

-- a part that has the first processes, so many
pub record IsWhole (queues : List Queue) (crew : List Standing) (count : ℕ) (w : Worked) : Type 0 where
  pub is_part : IsPart queues w.part
  pub first : w.part.first ≡ 0
  pub base : crew_of w.part ≡ crew
  pub count_is : length (procs_of w.part) ≡ count
  pub grown : HasGrownBy (runnings_of crew) 0 (procs_of w.part) w.moved
  pub acted : HaveActed crew 0 w.part.procs.items
