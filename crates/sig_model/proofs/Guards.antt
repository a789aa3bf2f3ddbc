-- What it means that a process can execute its next instruction or handle its next signal, and what it is after that.
use Rattle.std.proofs.Common.{◌≡◌, ℕ, ◌<◌, List, [], ◌∷◌, length, Bool, true, false, cond, not, ◌&&◌, ◌||◌, Option, Some, None, is_none, refl, sym, ap, ◌∙◌, subst}
use Rattle.std.specs.Prelude.{◌==◌, nat_le}
use Rattle.std.specs.Bool.{MatchBool}
use Rattle.std.specs.Option.{option_map}
use Rattle.std.proofs.lemmas.Bool.{ltb-true, eqb-true, leb-false, and_parts, or_parts, not-true}
use Rattle.std.proofs.lemmas.List.{nil_from_length}
use Rattle.std.proofs.lemmas.Option.{same_Some, none-some}
use Rattle.sig_kinds.specs.declared.signal.Signal.{Signal}
use Rattle.sig_runs.specs.Rules.{Effect}
use Rattle.sig_model.specs.declared.event.Event.{Event}
use Rattle.sig_model.specs.declared.state.TheConstants.{LAST_STAMP}
use Rattle.sig_model.specs.ProcessState.{ProcessState, is_cut}
use Rattle.sig_model.specs.Machine.{execution}
use Rattle.sig_model.specs.Running.{Running, advanced, can_exec, exec_next, next_of, is_early, can_handle, handled_one, handled_first, handle_next}
use Rattle.sig_model.proofs.Lookups.{mapped_tells}

-- it is neither ended nor cut, and has no own signal to handle
pub record CanExec (r : Running) : Type 0 where
  pub alive : r.state.tables.end ≡ None
  pub uncut : is_cut r.turns r.state ≡ false
  -- there are turns left, and the last stamp is below 2^62
  pub turns : r.state.counts.executed < r.turns
  pub stamp : r.state.counts.stamp < LAST_STAMP
  pub alone : r.own ≡ []

-- it isn't cut, and the signal that it handles next isn't late
pub record CanHandle (r : Running) : Type 0 where
  pub uncut : is_cut r.turns r.state ≡ false
  pub stamp : r.state.counts.stamp < LAST_STAMP
  pub next : Signal
  pub is_next : next_of r.own r.taken_in ≡ Some next
  pub early : next.stamp < LAST_STAMP

-- where a process isn't cut, its last stamp is below 2^62
pub uncut_stamp : (turns : ℕ) (s : ProcessState) → is_cut turns s ≡ false → s.counts.stamp < LAST_STAMP
uncut_stamp turns s h =
    leb-false LAST_STAMP s.counts.stamp (or_parts (is_none s.tables.end && nat_le turns s.counts.executed) (nat_le LAST_STAMP s.counts.stamp) h).1

none_there : {A : Type 0} (o : Option A) → is_none o ≡ true → o ≡ None
none_there None h = refl
none_there (Some x) h = cc

pub can_exec_tells : (r : Running) → can_exec r ≡ true → CanExec r
unfolding can_exec
can_exec_tells r h =
    let alive : Bool = is_none r.state.tables.end in
    let spent : Bool = nat_le r.turns r.state.counts.executed in
    let high : Bool = nat_le LAST_STAMP r.state.counts.stamp in
    let w : ((alive && not ((alive && spent) || high)) ≡ true) × ((length r.own == 0) ≡ true) =
    and_parts (alive && not ((alive && spent) || high)) (length r.own == 0) h in
    let v : (alive ≡ true) × (not ((alive && spent) || high) ≡ true) = and_parts alive (not ((alive && spent) || high)) w.0 in
    let uncut : ((alive && spent) || high) ≡ false = not-true ((alive && spent) || high) v.1 in
    record {
      alive = none_there r.state.tables.end v.0;
      uncut = uncut;
      turns = leb-false r.turns r.state.counts.executed (ap (λ c. c && spent) (sym v.0) ∙ (or_parts (alive && spent) high uncut).0);
      stamp = uncut_stamp r.turns r.state uncut;
      alone = nil_from_length r.own (eqb-true (length r.own) 0 w.1);
    }

early_signal : (o : Option Signal) → is_early o ≡ true → (x : Signal) × (o ≡ Some x) × (x.stamp < LAST_STAMP)
early_signal None h = cc
early_signal (Some x) h = (x, refl, ltb-true x.stamp LAST_STAMP h)

pub can_handle_tells : (r : Running) → can_handle r ≡ true → CanHandle r
unfolding can_handle
can_handle_tells r h =
    let w : (not (is_cut r.turns r.state) ≡ true) × (is_early (next_of r.own r.taken_in) ≡ true) =
    and_parts (not (is_cut r.turns r.state)) (is_early (next_of r.own r.taken_in)) h in
    let uncut : is_cut r.turns r.state ≡ false = not-true (is_cut r.turns r.state) w.0 in
    let due : (x : Signal) × (next_of r.own r.taken_in ≡ Some x) × (x.stamp < LAST_STAMP) = early_signal (next_of r.own r.taken_in) w.1 in
    record { uncut = uncut; stamp = uncut_stamp r.turns r.state uncut; next = due.0; is_next = due.1; early = due.2 }

-- the next instruction is executed where it may be, and else not
pub exec_due : (r : Running) → can_exec r ≡ true → exec_next r ≡ option_map (advanced r) (execution r.pid r.proc r.state)
unfolding exec_next
exec_due r h = ap (λ c. cond c (option_map (advanced r) (execution r.pid r.proc r.state)) None) h

pub exec_refused : (r : Running) → can_exec r ≡ false → exec_next r ≡ None
unfolding exec_next
exec_refused r h = ap (λ c. cond c (option_map (advanced r) (execution r.pid r.proc r.state)) None) h

-- the next signal is handled where it may be, and else not
pub handle_due : (r : Running) → can_handle r ≡ true → handle_next r ≡ handled_first r r.own r.taken_in
unfolding handle_next
handle_due r h = ap (λ c. cond c (handled_first r r.own r.taken_in) None) h

pub handle_refused : (r : Running) → can_handle r ≡ false → handle_next r ≡ None
unfolding handle_next
handle_refused r h = ap (λ c. cond c (handled_first r r.own r.taken_in) None) h

-- it can execute, and t is what it is after its next instruction
pub record Executed (r t : Running) : Type 0 where
  pub can : CanExec r
  pub effect : Effect ProcessState Signal Event
  pub is_effect : execution r.pid r.proc r.state ≡ Some effect
  pub is : advanced r effect ≡ t

-- it can handle its next signal, and t is what it is after that
pub record Handled (r t : Running) : Type 0 where
  pub can : CanHandle r
  pub signal : Signal
  pub early : signal.stamp < LAST_STAMP
  -- it is its oldest own one, or where it has none of its own the oldest of others, and the rest lies behind it
  pub mine : Bool
  pub rest : List Signal
  pub first : MatchBool mine (r.own ≡ signal ∷ rest) ((r.own ≡ []) × (r.taken_in ≡ signal ∷ rest))
  pub is : handled_one (record r { own = cond mine rest r.own; taken_in = cond mine r.taken_in rest }) signal ≡ t

executed_by : (b : Bool) (r t : Running) → can_exec r ≡ b → cond b (option_map (advanced r) (execution r.pid r.proc r.state)) None ≡ Some t → Executed r t
executed_by true r t h e =
    let w : (f : Effect ProcessState Signal Event) × (execution r.pid r.proc r.state ≡ Some f) × (advanced r f ≡ t) =
    mapped_tells (advanced r) (execution r.pid r.proc r.state) t e in
    record { can = can_exec_tells r h; effect = w.0; is_effect = w.1; is = w.2 }
executed_by false r t h e = absurd (none-some t e)

pub exec_next_tells : (r t : Running) → exec_next r ≡ Some t → Executed r t
unfolding exec_next
exec_next_tells r t e = executed_by (can_exec r) r t refl e

-- the signal x is the one that may be handled next
next_early : (r : Running) (can : CanHandle r) (x : Signal) → next_of r.own r.taken_in ≡ Some x → x.stamp < LAST_STAMP
next_early r can x e = subst (λ (y : Signal). y.stamp < LAST_STAMP) (same_Some can.next x (sym can.is_next ∙ e)) can.early

handled_by : (r t : Running) (own taken : List Signal) → CanHandle r → r.own ≡ own → r.taken_in ≡ taken → handled_first r own taken ≡ Some t → Handled r t
handled_by r t [] [] can o i e = absurd (none-some t e)
handled_by r t (x ∷ own) taken can o i e = record {
  can = can;
  signal = x;
  early = next_early r can x (ap (λ xs. next_of xs r.taken_in) o);
  mine = true;
  rest = own;
  first = o;
  is = same_Some (handled_one (record r { own = own }) x) t e;
}
handled_by r t [] (x ∷ taken) can o i e = record {
  can = can;
  signal = x;
  early = next_early r can x (ap (λ xs. next_of xs r.taken_in) o ∙ ap (λ xs. next_of [] xs) i);
  mine = false;
  rest = taken;
  first = (o, i);
  is = same_Some (handled_one (record r { taken_in = taken }) x) t e;
}

handle_case : (b : Bool) (r t : Running) → can_handle r ≡ b → cond b (handled_first r r.own r.taken_in) None ≡ Some t → Handled r t
handle_case true r t h e = handled_by r t r.own r.taken_in (can_handle_tells r h) refl refl e
handle_case false r t h e = absurd (none-some t e)

pub handle_next_tells : (r t : Running) → handle_next r ≡ Some t → Handled r t
unfolding handle_next
handle_next_tells r t e = handle_case (can_handle r) r t refl e
