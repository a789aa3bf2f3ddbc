-- Whether processes can go on.
use Rattle.std.proofs.Common.{◌≡◌, ℕ, ◌+◌, ◌<◌, List, length, Some, None, Bool, true, false, refl, sym, ap, ◌∙◌, subst, get_or, set, inl, inr, ◌⊎◌, arith, [], ◌∷◌}
use Rattle.std.specs.Prelude.{slice_get, slice_set}
use Rattle.std.specs.Bool.{MatchBool}
use Rattle.std.specs.Option.{option_map}
use Rattle.std.proofs.lemmas.Bool.{cases_order}
use Rattle.std.proofs.lemmas.List.{map-set}
use Rattle.std.proofs.lemmas.Option.{slice_get-get_or, slice_get-map, same_Some, none-some}
use Rattle.sig_kinds.specs.declared.signal.Signal.{Signal}
use Rattle.sig_model.specs.Running.{Running, can_handle, exec_next, handle_next, handled_first, handled_one, next_of}
use Rattle.sig_model.specs.Still.{IsStill}
use Rattle.sig_model.proofs.Guards.{CanHandle, can_handle_tells, handle_due}
use Rattle.sig_model.proofs.ReachLemmas.{set_here}
use Rattle.sig_process.specs.Standing.{Standing, runnings_of}
use Rattle.sig_check.specs.Going.{CanGo, SomeCanGo, IsStillAt}

-- it can handle its next signal
pub handle_goes : (r : Running) → can_handle r ≡ true → CanGo r
handle_goes r h = go r.own r.taken_in refl refl
  where
    w : CanHandle r
    w = can_handle_tells r h

    none : next_of r.own r.taken_in ≡ None → ⊥
    none e = none-some w.next (sym e ∙ w.is_next)

    due : (own taken : List Signal) → r.own ≡ own → r.taken_in ≡ taken → handle_next r ≡ handled_first r own taken
    due own taken o i = handle_due r h ∙ ap (λ xs. handled_first r xs r.taken_in) o ∙ ap (λ xs. handled_first r own xs) i

    go : (own taken : List Signal) → r.own ≡ own → r.taken_in ≡ taken → CanGo r
    go (x ∷ own) taken o i = (handled_one (record r { own = own }) x, inl (due (x ∷ own) taken o i))
    go [] (x ∷ taken) o i = (handled_one (record r { taken_in = taken }) x, inl (due [] (x ∷ taken) o i))
    go [] [] o i = absurd (none (ap (λ xs. next_of xs r.taken_in) o ∙ ap (λ xs. next_of [] xs) i))

-- by what the execution tells
pub told_goes : (r t : Running) (goes : Bool) → can_handle r ≡ false → MatchBool goes (exec_next r ≡ Some t) (exec_next r ≡ None) → (goes ≡ false → t ≡ r) →
    MatchBool goes (CanGo r) ((t ≡ r) × IsStill r)
told_goes r t true handle h same = (t, inr h)
told_goes r t false handle h same = (same refl, record { handle = handle; exec = h })

-- the process at this place
module _ (procs : List Standing) (at : ℕ) (p q : Standing) (lt : at < length procs) (is : p ≡ get_or procs at p) where
  there : slice_get (runnings_of procs) at ≡ Some p.running
  there =
      slice_get-map (λ (z : Standing). z.running) procs at ∙ ap (λ o. option_map (λ (z : Standing). z.running) o) (slice_get-get_or procs at p lt ∙ ap (λ (z : Standing). Some z) (sym is))

  pub goes_at : (goes : Bool) → MatchBool goes (CanGo p.running) ((q.running ≡ p.running) × IsStill p.running) → MatchBool goes (SomeCanGo (runnings_of procs)) (IsStillAt at (runnings_of procs) (runnings_of (set procs at q)))
  goes_at true can = (at, (p.running, (there, can)))
  goes_at false h = (
    map-set (λ (z : Standing). z.running) procs at q ∙ ap (λ z. slice_set (runnings_of procs) at z) h.0 ∙ set_here (runnings_of procs) at p.running there,
    λ r e. subst IsStill (same_Some p.running r (sym there ∙ e)) h.1,
  )

-- those before this place can't
abbrev pub AreStillBelow : ℕ → List Running → Type 0
AreStillBelow n crew = (p : ℕ) (r : Running) → p < n → slice_get crew p ≡ Some r → IsStill r

pub still_none : (crew : List Running) → AreStillBelow 0 crew
still_none crew p r lt e = absurd (let f : ⊥ = omega (arith, lt) in f)

pub still_more : (n : ℕ) (first crew after : List Running) → crew ≡ first → AreStillBelow n first → IsStillAt n crew after → AreStillBelow (n + 1) first
still_more n first crew after same h here p r lt e = go (cases_order p n)
  where
    go : (p ≡ n) ⊎ ((p < n) ⊎ (n < p)) → IsStill r
    go (inl f) = here.1 r (ap (λ c. slice_get c n) same ∙ ap (λ k. slice_get first k) (sym f) ∙ e)
    go (inr (inl f)) = h p r f e
    go (inr (inr f)) = absurd (let g : ⊥ = omega (arith, lt, f) in g)
