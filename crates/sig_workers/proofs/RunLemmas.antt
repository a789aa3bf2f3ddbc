-- The run of one worker, step by step.
use Rattle.std.proofs.Common.{◌≡◌, ℕ, zero, suc, ◌+◌, ◌-◌, ◌<◌, ◌≤◌, List, Bool, true, false, Some, None, refl, sym, ◌∙◌, ap, subst, arith, ◌||◌}
use Rattle.std.specs.Prelude.{unwrap_or}
use Rattle.std.specs.Option.{option_map}
use Rattle.sig_model.specs.Finishing.{finished_exec}
use Rattle.sig_model.specs.Running.{Running, advanced, can_exec, can_handle, exec_next, handle_next}
use Rattle.sig_model.specs.OneWorker.{handle_all, exec_or_stay, visit, has_moved, pass_from, pass, RunsTo, rests, goes}
use Rattle.sig_model.proofs.Guards.{exec_due, exec_refused, handle_refused}
use Rattle.sig_model.proofs.Waiting.{waiting_iff}
use Rattle.sig_process.specs.declared.executing.Exec.{Exec}
use Rattle.sig_process.specs.declared.executing.Exec.TheVariants.{Stepped, Waiting}
use Rattle.sig_process.specs.Standing.{Standing}
use Rattle.sig_process.specs.Steps.{IsExec}

pub exec_stays : (r : Running) → can_exec r ≡ false → exec_or_stay r ≡ r
exec_stays r h = ap (λ o. unwrap_or o r) (exec_refused r h)

-- an instruction was executed, or the process waits
pub exec_goes : (before after : Standing) (e : Exec) → can_exec before.running ≡ true → IsExec before after e → after.running ≡ exec_or_stay before.running
exec_goes before after Stepped can h = sym (ap (λ o. unwrap_or o before.running) h.0)
exec_goes before after Waiting can h =
    let r : Running = before.running in
    let none : exec_next r ≡ None = exec_due r can ∙ ap (λ o. option_map (advanced r) (option_map (finished_exec r.pid r.state) o)) ((waiting_iff r.proc r.state).1 h.0) in
    h.1 ∙ sym (ap (λ o. unwrap_or o r) none)

handle_stops : (n : ℕ) (r : Running) → handle_next r ≡ None → handle_all n r ≡ r
unfolding handle_all
handle_stops zero r h = refl
handle_stops (suc n) r h = rw h refl

-- no signal may be handled
pub handle_stays : (n : ℕ) (r : Running) → can_handle r ≡ false → handle_all n r ≡ r
handle_stays n r h = handle_stops n r (handle_refused r h)

handle_goes : (n : ℕ) (r t : Running) → handle_next r ≡ Some t → handle_all (suc n) r ≡ handle_all n t
unfolding handle_all
handle_goes n r t h = rw h refl

pub handle_none : (n : ℕ) (r : Running) → n ≡ 0 → handle_all n r ≡ r
unfolding handle_all
handle_none n r e = ap (λ (k : ℕ). handle_all k r) e

-- one more signal is handled
pub turn_goes : (n i : ℕ) (r t : Running) → i < n → handle_next r ≡ Some t → handle_all (n - (i + 1)) t ≡ handle_all (n - i) r
turn_goes n i r t lt h =
    sym (ap (λ (k : ℕ). handle_all k r) (let e : n - i ≡ suc (n - (i + 1)) = omega arith in e) ∙ handle_goes (n - (i + 1)) r t h)

-- one more visit of a pass
pub pass_goes : (n at : ℕ) (moved here : Bool) (crew after : List Running) → at < n → after ≡ visit at crew → here ≡ has_moved at crew after →
    pass_from (n - (at + 1)) (at + 1) (moved || here) after ≡ pass_from (n - at) at moved crew
unfolding pass_from
pass_goes n at moved here crew after lt is_after is_here =
    let e : n - at ≡ suc (n - (at + 1)) = omega arith in
    let whole : pass_from (n - at) at moved crew ≡ pass_from (n - (at + 1)) (at + 1) (moved || has_moved at crew (visit at crew)) (visit at crew) =
    ap (λ (k : ℕ). pass_from k at moved crew) e in
    ap (λ (b : Bool). pass_from (n - (at + 1)) (at + 1) (moved || b) after) is_here
    ∙ ap (λ (xs : List Running). pass_from (n - (at + 1)) (at + 1) (moved || has_moved at crew xs) xs) is_after
    ∙ sym whole

pub pass_ends : (n at : ℕ) (moved : Bool) (crew : List Running) → n ≤ at → pass_from (n - at) at moved crew ≡ (crew, moved)
unfolding pass_from
pass_ends n at moved crew h = ap (λ (k : ℕ). pass_from k at moved crew) (let e : n - at ≡ 0 = omega arith in e)

-- a pass without an event ends the run
pub run_rests : (crew after : List Running) (moved : Bool) → (after, moved) ≡ pass crew → moved ≡ false → RunsTo crew after
run_rests crew after moved e h =
    subst (λ (xs : List Running). RunsTo crew xs) (sym (ap (λ (p : List Running × Bool). p.0) e))
    (rests crew (sym (ap (λ (p : List Running × Bool). p.1) e) ∙ h))

-- the run goes on after a pass with an event
pub run_goes : (crew after last : List Running) (moved : Bool) → (after, moved) ≡ pass crew → moved ≡ true → RunsTo after last → RunsTo crew last
run_goes crew after last moved e h r =
    goes crew last (sym (ap (λ (p : List Running × Bool). p.1) e) ∙ h)
    (subst (λ (xs : List Running). RunsTo xs last) (ap (λ (p : List Running × Bool). p.0) e) r)
