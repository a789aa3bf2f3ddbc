-- The processes of a crew stay at their places.
use Rattle.std.proofs.Common.{◌≡◌, ℕ, List, length, Option, Some, None, refl, sym, ◌∙◌, subst, inl, inr}
use Rattle.std.specs.Prelude.{slice_get, slice_set}
use Rattle.std.proofs.lemmas.List.{length-set}
use Rattle.std.proofs.lemmas.Option.{same_Some}
use Rattle.sig_kinds.specs.declared.signal.Signal.{Signal}
use Rattle.sig_program.specs.Scripts.{Program}
use Rattle.sig_model.specs.Running.{Running}
use Rattle.sig_model.specs.Keeping.{IsPlaced}
use Rattle.sig_model.specs.OneWorker.{visited, arrived, deliver_to, opened_crew}
use Rattle.sig_model.proofs.Guards.{Executed, Handled, exec_next_tells, handle_next_tells}
use Rattle.sig_model.proofs.EventLemmas.{IsStep}
use Rattle.sig_model.proofs.Lookups.{at_set}
use Rattle.sig_model.proofs.GoingLemmas.{Goes, stays, on, goes_visited}
use Rattle.sig_model.proofs.OpeningLemmas.{IsOpened, opened_tells, opened_length}

-- the same process, in a crew of as many
pub record IsSame (r t : Running) : Type 0 where
  pub pid : t.pid ≡ r.pid
  pub count : t.count ≡ r.count

-- an event leaves both
pub step_same : (r t : Running) → IsStep r t → IsSame r t
step_same r t (inl e) =
    let h : Handled r t = handle_next_tells r t e in
    subst (λ z. IsSame r z) h.is (record { pid = refl; count = refl })
step_same r t (inr e) =
    let h : Executed r t = exec_next_tells r t e in
    subst (λ z. IsSame r z) h.is (record { pid = refl; count = refl })

goes_same : (r t : Running) → Goes r t → IsSame r t
goes_same r _ (stays _) = record { pid = refl; count = refl }
goes_same r _ (on _ u t step later) =
    let a : IsSame r u = step_same r u step in
    let b : IsSame u t = goes_same u t later in
    record { pid = b.pid ∙ a.pid; count = b.count ∙ a.count }

pub visited_same : (r : Running) → IsSame r (visited r)
visited_same r = goes_same r (visited r) (goes_visited r)

-- one process of the crew is changed
pub set_placed : (crew : List Running) (i : ℕ) (r t : Running) → slice_get crew i ≡ Some r → IsSame r t → IsPlaced crew → IsPlaced (slice_set crew i t)
set_placed crew i r t there s placed =
    let long : length crew ≡ length (slice_set crew i t) = sym (length-set crew i t) in
    let at : (r.pid ≡ i) × (r.count ≡ length crew) = placed i r there in
    at_set (λ q o. (u : Running) → o ≡ Some u → (u.pid ≡ q) × (u.count ≡ length (slice_set crew i t))) crew i r t there
    (λ u e. subst (λ (z : Running). (z.pid ≡ i) × (z.count ≡ length (slice_set crew i t))) (same_Some t u e) (s.pid ∙ at.0, s.count ∙ at.1 ∙ long))
    (λ q h u e. ((placed q u e).0, (placed q u e).1 ∙ long))

pub deliver_placed : (x : Signal) (o : Option Running) (crew : List Running) → slice_get crew x.to.0 ≡ o → IsPlaced crew → IsPlaced (deliver_to o x crew)
deliver_placed x None crew there placed = placed
deliver_placed x (Some r) crew there placed = set_placed crew x.to.0 r (arrived r x) there (record { pid = refl; count = refl }) placed

-- the processes of a script, as it opens them
pub opened_placed : (script : Program) → IsPlaced (opened_crew script)
opened_placed script q r is =
    let o : IsOpened script q r = opened_tells script q r is in
    subst (λ (z : Running). (z.pid ≡ q) × (z.count ≡ length (opened_crew script))) o.is
    (refl, sym (opened_length 0 (length script.procs) script.turns script.procs))
