-- A process that can do nothing could do nothing before it took in more.
use Rattle.std.proofs.Common.{◌≡◌, ℕ, List, [], ◌∷◌, ◌++◌, length, Bool, true, false, Option, None, Some, refl, subst}
use Rattle.std.specs.Prelude.{◌&&◌, not, if◌then◌else◌}
use Rattle.std.specs.Option.{option_map}
use Rattle.sig_kinds.specs.declared.signal.Signal.{Signal}
use Rattle.sig_model.specs.ProcessState.{is_cut}
use Rattle.sig_model.specs.Running.{Running, can_handle, can_exec, exec_next, next_of, is_early, advanced}
use Rattle.sig_model.specs.Machine.{execution}
use Rattle.sig_model.specs.Still.{IsStill}
use Rattle.sig_queue.specs.Seats.{Seated}
use Rattle.sig_workers.specs.SeatAccounts.{taken_at}
use Rattle.sig_workers.specs.Gone.{HasGone}

first_early : (b : Bool) (own taken more : List Signal) → (b && is_early (next_of own (taken ++ more))) ≡ false → (b && is_early (next_of own taken)) ≡ false
first_early b (x ∷ own) taken more h = h
first_early b [] (x ∷ taken) more h = h
first_early true [] [] more h = refl
first_early false [] [] more h = refl

unmapped : {X Y : Type 0} (f g : X → Y) (b : Bool) (o : Option X) → (if b then option_map f o else None) ≡ None → (if b then option_map g o else None) ≡ None
unmapped f g true None h = refl
unmapped f g true (Some x) h = cc
unmapped f g false o h = refl

handle_before : (b : Running) (more : List Signal) → can_handle (record b { taken_in = b.taken_in ++ more }) ≡ false → can_handle b ≡ false
unfolding can_handle
handle_before b more h = first_early (not (is_cut b.turns b.state)) b.own b.taken_in more h

exec_before : (b : Running) (more : List Signal) → exec_next (record b { taken_in = b.taken_in ++ more }) ≡ None → exec_next b ≡ None
unfolding exec_next can_exec
exec_before b more h = unmapped (advanced (record b { taken_in = b.taken_in ++ more })) (advanced b) (can_exec b) (execution b.pid b.proc b.state) h

pub still_before : (pid : ℕ) (b r : Running) (seats : List Seated) → HasGone pid b r seats → length r.events ≡ length b.events → IsStill r → IsStill b
still_before pid b r seats gone none still =
    let s : IsStill (record b { taken_in = b.taken_in ++ taken_at pid seats }) = subst IsStill (gone.still none) still in
    record { handle = handle_before b (taken_at pid seats) s.handle; exec = exec_before b (taken_at pid seats) s.exec }
