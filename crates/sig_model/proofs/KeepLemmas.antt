-- What every running process keeps, from its opening on.
use Rattle.std.proofs.Common.{◌≡◌, ◌≢◌, ℕ, ◌<◌, ◌≤◌, List, [], ◌∷◌, ◌++◌, Bool, true, false, Option, Some, refl, sym, ◌∙◌, subst, inl, inr, arith}
use Rattle.std.specs.Prelude.{All, ◌==◌}
use Rattle.std.specs.Bool.{MatchBool}
use Rattle.std.proofs.lemmas.List.Elements.{All-nil, All-cons, All-head, All-append, All-push, All-filter, All-weaker}
use Rattle.std.proofs.lemmas.Option.{IfSome_then}
use Rattle.sig_terms.specs.Names.{IsNameBelow}
use Rattle.sig_kinds.specs.declared.signal.Signal.{Signal}
use Rattle.sig_kinds.specs.SignalNames.{IsSignalBelow}
use Rattle.sig_program.specs.Scripts.{Declared, IsWithin, IsProcBelow}
use Rattle.sig_runs.specs.Rules.{Effect, Rules}
use Rattle.sig_runs.specs.LocalRun.{Input, handled_in}
use Rattle.sig_runs.specs.LocalRun.Input.{Execute, Handle}
use Rattle.sig_runs.specs.OnTheWay.{IsHandledNext}
use Rattle.sig_runs.proofs.Replay.{one_more}
use Rattle.sig_model.specs.declared.event.Event.{Event}
use Rattle.sig_model.specs.declared.state.TheConstants.{LAST_STAMP}
use Rattle.sig_model.specs.ProcessState.{ProcessState, owner_of, TableNames}
use Rattle.sig_model.specs.Bodies.{Body}
use Rattle.sig_model.specs.Executing.{executing}
use Rattle.sig_model.specs.Handling.{handling}
use Rattle.sig_model.specs.Machine.{rules_with}
use Rattle.sig_model.specs.Running.{Running, opened, exec_next, handle_next}
use Rattle.sig_model.specs.OneWorker.{arrived}
use Rattle.sig_model.specs.Names.{PostNames, IsRunningBelow}
use Rattle.sig_model.specs.Bounds.{IsBounded}
use Rattle.sig_model.specs.Keeping.{IsToItself, IsLeaving, IsArriving, opening_local, local_of, IsKeeping}
use Rattle.sig_model.proofs.StampLemmas.{IsFinished, act_finished, numbered_all, stamps_kept}
use Rattle.sig_model.proofs.TableLemmas.{opening_names}
use Rattle.sig_model.proofs.BodyLemmas.{IsKeptBody}
use Rattle.sig_model.proofs.ExecutingLemmas.{executing_kept, script_names}
use Rattle.sig_model.proofs.HandlingLemmas.{handling_kept}
use Rattle.sig_model.proofs.BoundLemmas.{bounded_opening, finished_bounded}
use Rattle.sig_model.proofs.EventLemmas.{member_of, IsKept, IsEvent, IsStep, with_event, step_event, event_keeps, own_left_all, taken_in_all}

-- the process as the script opens it: every process that is named in it is one of the script's, and it keeps all this
opened_below : (pid count turns : ℕ) (p : Declared) → pid < count → IsProcBelow count p → IsRunningBelow (opened pid count turns p)
opened_below pid count turns p lt h = record {
  pid = lt;
  proc = h;
  tables = opening_names (IsNameBelow count) pid lt;
  handled = All-nil (IsSignalBelow count);
  own = All-nil (IsSignalBelow count);
  taken_in = All-nil (IsSignalBelow count);
  outbox = All-nil (IsSignalBelow count);
}

pub opened_keeps : (pid count turns : ℕ) (p : Declared) → pid < count → IsWithin p → IsProcBelow count p → IsKeeping (opened pid count turns p)
opened_keeps pid count turns p lt within h = record {
  below = opened_below pid count turns p lt h;
  ran = record { runs = refl; events_told = refl; handled_told = refl };
  owner = refl;
  within = within;
  bounds = bounded_opening p pid count;
  low = omega arith;
  own = All-nil (IsToItself pid 0);
  taken_in = All-nil (IsArriving pid count);
  outbox = All-nil (IsLeaving pid 0);
}

-- signals of others that come to it, and other ones in its outbox
lists_keep : (r : Running) (taken out : List Signal) → IsKeeping r → All (IsArriving r.pid r.count) taken
    → All (IsLeaving r.pid r.state.counts.stamp) out → All (IsSignalBelow r.count) out
    → IsKeeping (record r { taken_in = taken; outbox = out })
lists_keep r taken out k h g below = record {
  below = record {
    pid = k.below.pid;
    proc = k.below.proc;
    tables = k.below.tables;
    handled = k.below.handled;
    own = k.below.own;
    taken_in = All-weaker (IsArriving r.pid r.count) (IsSignalBelow r.count) (λ x a. a.below) taken h;
    outbox = below;
  };
  ran = k.ran;
  owner = k.owner;
  within = k.within;
  bounds = k.bounds;
  low = k.low;
  own = k.own;
  taken_in = h;
  outbox = g;
}

pub arrived_keeps : (r : Running) (x : Signal) → IsKeeping r → IsArriving r.pid r.count x → IsKeeping (arrived r x)
arrived_keeps r x k h = lists_keep r (r.taken_in ++ x ∷ []) r.outbox k (All-push (IsArriving r.pid r.count) r.taken_in x k.taken_in h) k.outbox k.below.outbox

pub outbox_keeps : (r : Running) (left : List Signal) → IsKeeping r → All (IsLeaving r.pid r.state.counts.stamp) left → All (IsSignalBelow r.count) left → IsKeeping (record r { outbox = left })
outbox_keeps r left k h below = lists_keep r r.taken_in left k k.taken_in h below

-- a signal that leaves a process may arrive at its receiver
pub leaving_arrives : (r : Running) (x : Signal) → IsKeeping r → IsLeaving r.pid r.state.counts.stamp x → IsSignalBelow r.count x → IsArriving x.to.0 r.count x
leaving_arrives r x k h below = record {
  from = λ e. h.to (sym e ∙ h.from);
  to = refl;
  below = below;
  stamp = omega (arith, h.stamp, k.low);
}

module _ (r : Running) where
  abbrev pub part : ℕ → Option Declared
  part p = Some r.proc

  abbrev pub rules : Rules ProcessState Signal Event
  rules = rules_with r.turns part

  pub is_kept : IsKeeping r → IsKept r.turns part r.pid r
  is_kept k = record {
    process = (refl, refl, refl);
    own = k.own;
    others = All-weaker (IsArriving r.pid r.count) (λ (x : Signal). x.from.0 ≢ r.pid) (λ x h. h.from) r.taken_in k.taken_in;
    outbox = k.outbox;
  }

  -- the signal that it handles is one of those that wait
  handled_all : (P : Signal → Type 0) (i : Input Signal) → IsHandledNext rules r.pid (member_of r) i → All P r.own → All P r.taken_in → All P (handled_in i)
  handled_all P Execute h o t = All-nil P
  handled_all P (Handle x) h o t = All-cons P x [] (oldest (rules.from x == r.pid) h) (All-nil P)
    where
      oldest : (c : Bool) → MatchBool c ((rest : List Signal) × (r.own ≡ x ∷ rest)) ((rest : List Signal) × (r.taken_in ≡ x ∷ rest)) → P x
      oldest true w = All-head P x w.0 (subst (λ xs. All P xs) w.1 o)
      oldest false w = All-head P x w.0 (subst (λ xs. All P xs) w.1 t)

  module _ (t : Running) (e : IsEvent r.turns part r.pid r t) (k : IsKeeping r) where
    abbrev Below : Signal → Type 0
    Below = IsSignalBelow r.count

    abbrev Kept : Body → Type 0
    Kept = IsKeptBody (IsNameBelow r.count) (Unit {0}) r.proc r.state

    handled : All Below (handled_in e.input)
    handled = handled_all Below e.input e.next k.below.own k.below.taken_in

    did : IsFinished Kept r.pid r.state e.effect
    did =
        act_finished r.turns part r.pid r.state r.own Kept e.effect e.input
        (IfSome_then (executing r.proc r.state) (executing_kept (IsNameBelow r.count) (Unit {0}) r.proc r.state k.below.tables (λ j. k.bounds) (λ j. k.within) (script_names r.count r.proc k.below.proc)) (λ b h. h (λ n. tt)))
        (All-weaker Below (λ (x : Signal). Kept (handling r.pid r.state x)) (λ x h. handling_kept (IsNameBelow r.count) (Unit {0}) r.proc r.state k.below.tables (λ j. k.bounds) r.pid x h) (handled_in e.input) handled) e.can

    sent : All Below e.effect.sends
    sent =
        subst (λ (f : Effect ProcessState Signal Event). All Below f.sends) did.is
        (numbered_all r.pid did.stamp Below (PostNames (IsNameBelow r.count)) (λ q n h. record { from = k.below.pid; to = h.to; kind = h.kind }) r.state.counts.next_numbers did.body.posts did.holds.names.posts)

    next_keeps : IsKeeping (with_event r.turns part r.pid r e.input e.effect)
    unfolding rules_with
    next_keeps =
        let kept : IsKept r.turns part r.pid (with_event r.turns part r.pid r e.input e.effect) = event_keeps r.turns part r.pid r t e (is_kept k) in
        record {
          below = record {
            pid = k.below.pid;
            proc = k.below.proc;
            tables = subst (λ (f : Effect ProcessState Signal Event). TableNames (IsNameBelow r.count) f.state.tables) did.is did.holds.names.tables;
            handled = All-append Below r.handled _ k.below.handled handled;
            own = All-append Below _ _ (own_left_all r.turns part r.pid r t e Below e.input r.own k.below.own) (All-filter _ Below e.effect.sends sent);
            taken_in = taken_in_all r.turns part r.pid r t e Below e.input r.taken_in k.below.taken_in;
            outbox = All-append Below r.outbox _ k.below.outbox (All-filter _ Below e.effect.sends sent);
          };
          ran =
              (one_more rules (stamps_kept r.turns part) r.pid (opening_local r) (local_of r) r.events r.handled (record { input = e.input; effect = e.effect }) k.ran e.can).ran;
          owner = subst (λ (f : Effect ProcessState Signal Event). owner_of f.state.tables ≡ r.pid) did.is (did.holds.owner ∙ k.owner);
          within = k.within;
          bounds = subst (λ (f : Effect ProcessState Signal Event). IsBounded r.proc f.state) did.is
              (finished_bounded r.proc r.state k.bounds r.pid did.executed did.stamp did.what did.body (did.holds.bounds tt) did.later);
          low = subst (λ (f : Effect ProcessState Signal Event). f.state.counts.stamp ≤ LAST_STAMP) did.is did.low;
          own = kept.own;
          taken_in = taken_in_all r.turns part r.pid r t e (IsArriving r.pid r.count) e.input r.taken_in k.taken_in;
          outbox = kept.outbox;
        }

pub step_keeps : (r t : Running) → IsKeeping r → IsStep r t → IsKeeping t
step_keeps r t k step =
    let e : IsEvent r.turns (part r) r.pid r t = step_event r.turns (part r) r.pid r t (is_kept r k) step in
    subst IsKeeping (sym e.is) (next_keeps r t e k)

-- the next instruction is executed, or the next signal handled
pub exec_keeps : (r t : Running) → IsKeeping r → exec_next r ≡ Some t → IsKeeping t
exec_keeps r t k e = step_keeps r t k (inr e)

pub handle_keeps : (r t : Running) → IsKeeping r → handle_next r ≡ Some t → IsKeeping t
handle_keeps r t k e = step_keeps r t k (inl e)
