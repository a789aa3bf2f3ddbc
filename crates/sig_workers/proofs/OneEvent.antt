-- What one event makes of a process.
use Rattle.std.proofs.Common.{◌≡◌, ◌≢◌, ℕ, ◌<◌, List, [], ◌∷◌, ◌++◌, drop, Bool, true, false, cond, not, refl, sym, ap, ◌∙◌, inl, inr, arith, append_assoc, Some}
use Rattle.std.specs.Prelude.{◌==◌}
use Rattle.std.specs.Bool.{MatchBool}
use Rattle.std.specs.List.{filter}
use Rattle.std.proofs.lemmas.Bool.{ne_eqb}
use Rattle.std.proofs.lemmas.Bool.Decides.{eqb_tells}
use Rattle.std.proofs.lemmas.List.{append-nil}
use Rattle.std.proofs.lemmas.List.Elements.{filter-append}
use Rattle.sig_kinds.specs.declared.signal.Signal.{Signal}
use Rattle.sig_runs.specs.LocalRun.{Input, handled_in}
use Rattle.sig_runs.specs.LocalRun.Input.{Execute, Handle}
use Rattle.sig_runs.specs.OnTheWay.{IsHandledNext, outgoing, taken_in_left}
use Rattle.sig_runs.proofs.Replay.{one_more}
use Rattle.sig_runs.proofs.Steps.{act_stamp}
use Rattle.sig_model.specs.declared.event.Event.{Event}
use Rattle.sig_model.specs.Machine.{rules_with}
use Rattle.sig_model.specs.Running.{Running, exec_next, handle_next}
use Rattle.sig_model.specs.Keeping.{IsKeeping, opening_local, local_of}
use Rattle.sig_model.specs.Accounts.{sent_by, came, went, bound_for, coming_from}
use Rattle.sig_model.proofs.StampLemmas.{stamps_kept}
use Rattle.sig_model.proofs.EventLemmas.{IsEvent, IsStep, step_event, member_of}
use Rattle.sig_model.proofs.KeepLemmas.{part, rules, is_kept, step_keeps}

pub record IsOneEvent (r t : Running) : Type 0 where
  pub pid : t.pid ≡ r.pid
  pub count : t.count ≡ r.count
  pub turns : t.turns ≡ r.turns
  pub proc : t.proc ≡ r.proc
  pub keeping : IsKeeping t
  pub event : Event
  pub events : t.events ≡ r.events ++ event ∷ []
  pub stamp : r.state.counts.stamp < t.state.counts.stamp
  pub came : (s : ℕ) → s ≢ r.pid → came s t ≡ came s r
  pub sends : List Signal
  pub went : (p : ℕ) → went p t ≡ went p r ++ bound_for p sends
  pub outbox : (p : ℕ) → p ≢ r.pid → bound_for p t.outbox ≡ bound_for p r.outbox ++ bound_for p sends

not_both : (p pid to : ℕ) → p ≢ pid → (to == p) ≡ true → (to == pid) ≡ false
not_both p pid to ne e = elim (eqb_tells to p) [
  | inl a ↦ ne_eqb to pid (λ q. ne (sym a.1 ∙ q))
  | inr a ↦ (let f : true ≡ false = sym e ∙ a.0 in absurd cc)
]

-- of the signals to others, those to another one
others_bound : (p pid : ℕ) (xs : List Signal) → p ≢ pid → bound_for p (filter (λ (x : Signal). not (x.to.0 == pid)) xs) ≡ bound_for p xs
others_bound p pid [] ne = refl
others_bound p pid (x ∷ xs) ne = go (x.to.0 == p) (x.to.0 == pid) refl refl (others_bound p pid xs ne)
  where
    rest : List Signal
    rest = filter (λ (y : Signal). not (y.to.0 == pid)) xs

    go : (a b : Bool) → (x.to.0 == p) ≡ a → (x.to.0 == pid) ≡ b → bound_for p rest ≡ bound_for p xs → bound_for p (cond (not (x.to.0 == pid)) (x ∷ rest) rest) ≡ cond (x.to.0 == p) (x ∷ bound_for p xs) (bound_for p xs)
    go true true a b ih = (let f : true ≡ false = sym b ∙ not_both p pid x.to.0 ne a in absurd cc)
    go true false a b ih = rw (a, b) (rw a (ap (λ z. x ∷ z) ih))
    go false true a b ih = rw (a, b) ih
    go false false a b ih = rw (a, b) (rw a ih)

module _ (r t : Running) (k : IsKeeping r) (e : IsEvent r.turns (part r) r.pid r t) where
  sent_more : sent_by t ≡ sent_by r ++ e.effect.sends
  unfolding sent_by
  sent_more =
      ap sent_by e.is
      ∙ (one_more (rules r) (stamps_kept r.turns (part r)) r.pid (opening_local r) (local_of r) r.events r.handled (record { input = e.input; effect = e.effect }) k.ran e.can).sent_more

  went_more : (p : ℕ) → went p t ≡ went p r ++ bound_for p e.effect.sends
  went_more p = ap (λ z. bound_for p z) sent_more ∙ filter-append (λ (x : Signal). x.to.0 == p) (sent_by r) e.effect.sends

  outbox_more : (p : ℕ) → p ≢ r.pid → bound_for p t.outbox ≡ bound_for p r.outbox ++ bound_for p e.effect.sends
  unfolding rules_with
  outbox_more p ne =
      ap (λ (z : Running). bound_for p z.outbox) e.is
      ∙ filter-append (λ (x : Signal). x.to.0 == p) r.outbox (outgoing (rules r) r.pid e.effect.sends)
      ∙ ap (λ z. bound_for p r.outbox ++ z) (others_bound p r.pid e.effect.sends ne)

  -- what came of s, after this was handled
  came_case : (s : ℕ) (i : Input Signal) → s ≢ r.pid → IsHandledNext (rules r) r.pid (member_of r) i → coming_from s ((r.handled ++ handled_in i) ++ taken_in_left (rules r) r.pid i r.taken_in) ≡ came s r
  unfolding rules_with
  came_case s Execute ne next = ap (λ z. coming_from s (z ++ r.taken_in)) (append-nil r.handled)
  came_case s (Handle x) ne next = go (x.from.0 == r.pid) refl next
    where
      go : (b : Bool) → (x.from.0 == r.pid) ≡ b → MatchBool b ((rest : List Signal) × (r.own ≡ x ∷ rest)) ((rest : List Signal) × (r.taken_in ≡ x ∷ rest)) →
          coming_from s ((r.handled ++ x ∷ []) ++ cond b r.taken_in (drop 1 r.taken_in)) ≡ came s r
      go true b h =
          let mine : (x.from.0 == s) ≡ false = elim (eqb_tells x.from.0 s) as (λ _. (x.from.0 == s) ≡ false) [
            | inl a ↦ (elim (eqb_tells x.from.0 r.pid) [ inl q ↦ absurd (ne (sym a.1 ∙ q.1)) | inr q ↦ (let f : true ≡ false = sym b ∙ q.0 in absurd cc) ])
            | inr a ↦ a.0
          ] in
          ap (coming_from s) (append_assoc r.handled (x ∷ []) r.taken_in)
          ∙ filter-append (λ (y : Signal). y.from.0 == s) r.handled (x ∷ r.taken_in)
          ∙ ap (λ c. coming_from s r.handled ++ cond c (x ∷ coming_from s r.taken_in) (coming_from s r.taken_in)) mine
          ∙ sym (filter-append (λ (y : Signal). y.from.0 == s) r.handled r.taken_in)
      go false b h =
          ap (λ z. coming_from s ((r.handled ++ x ∷ []) ++ drop 1 z)) h.1
          ∙ ap (coming_from s) (append_assoc r.handled (x ∷ []) h.0)
          ∙ ap (λ z. coming_from s (r.handled ++ z)) (sym h.1)

  came_same : (s : ℕ) → s ≢ r.pid → came s t ≡ came s r
  came_same s ne = ap (λ (z : Running). came s z) e.is ∙ came_case s e.input ne e.next

  stamp_more : r.state.counts.stamp < t.state.counts.stamp
  unfolding rules_with
  stamp_more =
      let w : (e.effect.event.stamp ≡ e.effect.state.counts.stamp) × (r.state.counts.stamp < e.effect.event.stamp) = act_stamp (rules r) (stamps_kept r.turns (part r)) r.pid (local_of r) e.input e.effect e.can in
      omega (arith, w.0, w.1, ap (λ (z : Running). z.state.counts.stamp) e.is)

  one_event : IsStep r t → IsOneEvent r t
  one_event step = record {
    pid = ap (λ (z : Running). z.pid) e.is;
    count = ap (λ (z : Running). z.count) e.is;
    turns = ap (λ (z : Running). z.turns) e.is;
    proc = ap (λ (z : Running). z.proc) e.is;
    keeping = step_keeps r t k step;
    event = e.effect.event;
    events = ap (λ (z : Running). z.events) e.is;
    stamp = stamp_more;
    came = came_same;
    sends = e.effect.sends;
    went = went_more;
    outbox = outbox_more;
  }

step_one : (r t : Running) → IsKeeping r → IsStep r t → IsOneEvent r t
step_one r t k step = one_event r t k (step_event r.turns (part r) r.pid r t (is_kept r k) step) step

pub executed_one : (r t : Running) → IsKeeping r → exec_next r ≡ Some t → IsOneEvent r t
executed_one r t k e = step_one r t k (inr e)

pub handled_one_event : (r t : Running) → IsKeeping r → handle_next r ≡ Some t → IsOneEvent r t
handled_one_event r t k e = step_one r t k (inl e)
