-- The machine of a crew at work: an event of a process is a step of it, and a delivery is none.
use Rattle.std.proofs.Common.{◌≡◌, ◌≢◌, ℕ, zero, suc, ◌<◌, List, [], ◌∷◌, ◌++◌, drop, map, length, true, false, cond, ◌&&◌, Some, None, refl, sym, ap, ◌∙◌, subst, arith}
use Rattle.std.specs.Prelude.{◌==◌, slice_get, slice_set, if◌then◌else◌}
use Rattle.std.specs.Option.{option_map}
use Rattle.std.proofs.Math.Path.{fun_ext}
use Rattle.std.proofs.Math.Seq.{map-set_same}
use Rattle.std.proofs.lemmas.Bool.{eq-eqb, ne_eqb}
use Rattle.std.proofs.lemmas.List.{map-set, length-set}
use Rattle.std.proofs.lemmas.Option.{slice_get-map, slice_get_within, get_or_from_slice_get}
use Rattle.sig_kinds.specs.declared.signal.Signal.{Signal}
use Rattle.sig_runs.specs.Rules.{addressed}
use Rattle.sig_runs.specs.Machine.{Machine, apply, choice, posted}
use Rattle.sig_runs.specs.LocalRun.{Input, CanDo}
use Rattle.sig_runs.specs.LocalRun.Input.{Execute, Handle}
use Rattle.sig_runs.specs.Crew.{Member}
use Rattle.sig_runs.specs.OnTheWay.{IsHandledNext, outgoing, own_part, taken_in_part, on_way, boxes_after, boxes_with}
use Rattle.sig_runs.proofs.Steps.{applies, pulled, IsOldest}
use Rattle.sig_runs.proofs.OnTheWay.{next_is_oldest, way_step, delivery_keeps_way}
use Rattle.sig_program.specs.Scripts.{Program}
use Rattle.sig_model.specs.declared.event.Event.{Event}
use Rattle.sig_model.specs.ProcessState.{ProcessState}
use Rattle.sig_model.specs.Machine.{rules_of, rules_with}
use Rattle.sig_model.specs.Running.{Running}
use Rattle.sig_model.specs.OneWorker.{arrived}
use Rattle.sig_model.proofs.StampLemmas.{stamps_kept}
use Rattle.sig_model.proofs.EventLemmas.{member_of, IsEventOf}

abbrev pub Mate : Type 0
Mate = Member ProcessState Signal Event

abbrev pub members : List Running → List Mate
members crew = map member_of crew

-- what lies in the outboxes while p is visited: these signals in that of p, and none in the others
abbrev pub only : ℕ → List Signal → ℕ → List Signal
only p box q = if p == q then box else []

-- the machine has the states of the processes, and for each process there what is on its way to it
pub record IsAtWork (script : Program) (boxes : ℕ → List Signal) (mates : List Mate) (m : Machine ProcessState Signal) : Type 0 where
  pub states : m.procs ≡ map (λ (n : Mate). n.local.state) mates
  pub queued : (s t : ℕ) → t < length mates → m.queued s t ≡ on_way (rules_of script) mates boxes s t

pub at_member : (crew : List Running) (p : ℕ) (r : Running) → slice_get crew p ≡ Some r → slice_get (members crew) p ≡ Some (member_of r)
at_member crew p r there = slice_get-map member_of crew p ∙ ap (λ o. option_map member_of o) there

module _ (script : Program) (p : ℕ) (r t : Running) (e : IsEventOf script p r t) (crew : List Running) (there : slice_get crew p ≡ Some r) (m : Machine ProcessState Signal) (w : IsAtWork script (only p r.outbox) (members crew) m) where
  abbrev here : slice_get (members crew) p ≡ Some (member_of r)
  here = at_member crew p r there

  abbrev way : ℕ → ℕ → List Signal
  way = on_way (rules_of script) (members crew) (only p r.outbox)

  within : p < length (members crew)
  within = slice_get_within (members crew) p (member_of r) here

  state_at : slice_get m.procs p ≡ Some r.state
  state_at = ap (λ xs. slice_get xs p) w.states ∙ slice_get-map (λ (n : Mate). n.local.state) (members crew) p ∙ ap (λ o. option_map (λ (n : Mate). n.local.state) o) here

  own_at : m.queued p p ≡ r.own
  own_at =
      w.queued p p within
      ∙ ap (λ c. cond c (own_part (slice_get (members crew) p)) (taken_in_part (rules_of script) p (slice_get (members crew) p) ++ addressed (rules_of script) p (only p r.outbox p))) (eq-eqb p p refl)
      ∙ ap (λ o. own_part o) here

  can_here : CanDo (rules_of script) p (record { state = r.state; own = m.queued p p }) e.input e.effect
  can_here = subst (λ z. CanDo (rules_of script) p (record { state = r.state; own = z }) e.input e.effect) (sym own_at) e.can

  oldest_of : (i : Input Signal) → IsHandledNext (rules_of script) p (member_of r) i → IsOldest (rules_of script) p i m.queued
  oldest_of Execute h = tt
  oldest_of (Handle x) h =
      let o : (rest : List Signal) × (way ((rules_of script).from x) p ≡ x ∷ rest) = next_is_oldest (rules_of script) (members crew) (only p r.outbox) p (member_of r) here (Handle x) h in
      (o.0, w.queued ((rules_of script).from x) p within ∙ o.1)

  -- the machine after the event
  abbrev pub after_event : Machine ProcessState Signal
  after_event = record { procs = slice_set m.procs p e.effect.state; queued = posted (rules_of script) p e.effect.sends (pulled (rules_of script) p e.input m.queued) }

  -- the event is a step of the machine
  pub event_applies : apply (rules_of script) m (choice p ((rules_of script).did e.effect.event)) ≡ Some (record { machine = after_event; event = e.effect.event })
  event_applies = applies (rules_of script) (stamps_kept script.turns (slice_get script.procs)) m p r.state e.input e.effect state_at can_here (oldest_of e.input e.next)

  boxes_now : boxes_after (rules_of script) p e.effect.sends (only p r.outbox) ≡ only p t.outbox
  boxes_now = fun_ext (λ q. elim (p == q) as (λ c. cond c (cond c r.outbox [] ++ outgoing (rules_of script) p e.effect.sends) (cond c r.outbox []) ≡ cond c t.outbox []) [ true ↦ sym (ap (λ (z : Running). z.outbox) e.is) | false ↦ refl ])

  point_same : (i : Input Signal) (a b : ℕ → ℕ → List Signal) (s q : ℕ) → a s q ≡ b s q →
      posted (rules_of script) p e.effect.sends (pulled (rules_of script) p i a) s q ≡ posted (rules_of script) p e.effect.sends (pulled (rules_of script) p i b) s q
  point_same Execute a b s q h = ap (λ z. cond (p == s) (z ++ addressed (rules_of script) q e.effect.sends) z) h
  point_same (Handle x) a b s q h =
      ap (λ z. cond (p == s) (cond ((rules_of script).from x == s && p == q) (drop 1 z) z ++ addressed (rules_of script) q e.effect.sends) (cond ((rules_of script).from x == s && p == q) (drop 1 z) z)) h

  -- and the crew after the event is at work in the machine after it
  pub event_at_work : IsAtWork script (only p t.outbox) (members (slice_set crew p t)) after_event
  event_at_work =
      subst (λ mates. IsAtWork script (only p t.outbox) mates after_event) (sym (map-set member_of crew p t))
      (record {
        states =
            ap (λ xs. slice_set xs p e.effect.state) w.states
            ∙ ap (λ z. slice_set (map (λ (n : Mate). n.local.state) (members crew)) p z) (ap (λ (z : Running). z.state) (sym e.is))
            ∙ sym (map-set (λ (n : Mate). n.local.state) (members crew) p (member_of t));
        queued = λ s q lt.
            point_same e.input m.queued way s q (w.queued s q (subst (λ n. q < n) (length-set (members crew) p (member_of t)) lt))
            ∙ sym (way_step (rules_of script) (members crew) (only p r.outbox) p (member_of r) here (record { input = e.input; effect = e.effect }) e.next (member_of t) (ap (λ (z : Running). z.own) e.is) (ap (λ (z : Running). z.taken_in) e.is) s q)
            ∙ ap (λ b. on_way (rules_of script) (slice_set (members crew) p (member_of t)) b s q) boxes_now;
      })

absent : (crew : List Running) (q : ℕ) → slice_get crew q ≡ None → q < length (members crew) → ⊥
absent [] q h lt = (let f : ⊥ = omega (arith, lt) in f)
absent (r ∷ rs) zero h lt = cc
absent (r ∷ rs) (suc q) h lt = absent rs q h (omega (arith, lt))

module _ (script : Program) (p : ℕ) (x : Signal) (xs : List Signal) (crew : List Running) (from : x.from.0 ≡ p) (to : x.to.0 ≢ p) (m : Machine ProcessState Signal) (w : IsAtWork script (only p (x ∷ xs)) (members crew) m) where
  -- a signal to a process that isn't there reaches none
  elsewhere : slice_get crew x.to.0 ≡ None → (q : ℕ) → q < length (members crew) → x.to.0 ≢ q
  elsewhere none q lt e = absent crew q (subst (λ n. slice_get crew n ≡ None) e none) lt

  pub lost : slice_get crew x.to.0 ≡ None → IsAtWork script (only p xs) (members crew) m
  unfolding rules_with
  lost none = record {
    states = w.states;
    queued = λ s q lt.
        w.queued s q lt
        ∙ ap (λ z. cond (s == q) (own_part (slice_get (members crew) q)) (taken_in_part (rules_of script) s (slice_get (members crew) q) ++ z))
        (elim (p == s) as (λ c. addressed (rules_of script) q (cond c (x ∷ xs) []) ≡ addressed (rules_of script) q (cond c xs [])) [
          | true ↦ ap (λ c. cond c (x ∷ addressed (rules_of script) q xs) (addressed (rules_of script) q xs)) (ne_eqb x.to.0 q (elsewhere none q lt))
          | false ↦ refl
        ]);
  }

  boxes_left : boxes_with p xs (only p (x ∷ xs)) ≡ only p xs
  boxes_left = fun_ext (λ q. elim (p == q) as (λ c. cond c xs (cond c (x ∷ xs) []) ≡ cond c xs []) [ true ↦ refl | false ↦ refl ])

  -- a delivery is no step
  pub given : (u : Running) → slice_get crew x.to.0 ≡ Some u → IsAtWork script (only p xs) (members (slice_set crew x.to.0 (arrived u x))) m
  unfolding rules_with
  given u there =
      let here : slice_get (members crew) x.to.0 ≡ Some (member_of u) = at_member crew x.to.0 u there in
      let n : Mate = member_of (arrived u x) in
      subst (λ mates. IsAtWork script (only p xs) mates m) (sym (map-set member_of crew x.to.0 (arrived u x)))
      (record {
        states =
            w.states
            ∙ sym (map-set_same (λ (y : Mate). y.local.state) (members crew) x.to.0 n (member_of u) (sym (ap (λ (y : Mate). y.local.state) (get_or_from_slice_get (members crew) x.to.0 (member_of u) (member_of u) here))));
        queued = λ s q lt.
            w.queued s q (subst (λ k. q < k) (length-set (members crew) x.to.0 n) lt)
            ∙ sym (ap (λ f. f s q) (delivery_keeps_way (rules_of script) (members crew) (only p (x ∷ xs)) p x.to.0 (λ e. to (sym e)) x xs (ap (λ c. cond c (x ∷ xs) []) (eq-eqb p p refl)) from refl (member_of u) here n refl refl))
            ∙ ap (λ b. on_way (rules_of script) (slice_set (members crew) x.to.0 n) b s q) boxes_left;
      })
