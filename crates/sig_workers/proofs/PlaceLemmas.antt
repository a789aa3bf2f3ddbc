-- Signals are delivered to the processes of a crew at their places.
use Rattle.std.proofs.Common.{◌≡◌, ℕ, ◌<◌, List, [], ◌∷◌, length, Some, refl, sym, ap, ◌∙◌, subst, slice_get, set}
use Rattle.std.specs.Prelude.{All, IfSome, OnOk, MatchResult, Result, Ok, Err, get_or}
use Rattle.std.specs.Option.{option_map}
use Rattle.std.proofs.lemmas.List.{length-map, map-set}
use Rattle.std.proofs.lemmas.List.Elements.{All-head, All-tail}
use Rattle.std.proofs.lemmas.Option.{slice_get-get_or, slice_get-map}
use Rattle.sig_kinds.specs.declared.signal.Signal.{Signal}
use Rattle.sig_model.specs.Running.{Running}
use Rattle.sig_model.specs.Keeping.{IsArriving, IsPlaced}
use Rattle.sig_model.specs.OneWorker.{visited, arrived, deliver_to, deliver_all}
use Rattle.sig_model.proofs.PlacedLemmas.{IsSame, visited_same, set_placed, deliver_placed}
use Rattle.sig_process.specs.Standing.{Standing, runnings_of}

-- signals that may arrive at their receivers, among so many processes
abbrev pub AreArriving : ℕ → List Signal → Type 0
AreArriving count signals = All (λ (x : Signal). IsArriving x.to.0 count x) signals

-- the signals behind the one that is delivered
pub first_arriving : (count : ℕ) (x : Signal) (signals left : List Signal) → signals ≡ x ∷ left → AreArriving count signals → IsArriving x.to.0 count x
first_arriving count x signals left e h = All-head (λ (y : Signal). IsArriving y.to.0 count y) x left (subst (AreArriving count) e h)

pub left_arriving : (count after : ℕ) (x : Signal) (signals left : List Signal) → signals ≡ x ∷ left → after ≡ count → AreArriving count signals → AreArriving after left
left_arriving count after x signals left e c h =
    subst (λ n. AreArriving n left) (sym c) (All-tail (λ (y : Signal). IsArriving y.to.0 count y) x left (subst (AreArriving count) e h))

-- what a visited process has sent
pub visited_arriving : (r v : Running) (signals : List Signal) → v ≡ visited r → AreArriving v.count signals → AreArriving r.count signals
visited_arriving r v signals e h = subst (λ n. AreArriving n signals) (ap (λ (z : Running). z.count) e ∙ (visited_same r).count) h

pub delivered_rest : (crew after : List Running) (x : Signal) (signals left : List Signal) → signals ≡ x ∷ left → after ≡ deliver_to (slice_get crew x.to.0) x crew →
    deliver_all left after ≡ deliver_all signals crew
unfolding deliver_all
delivered_rest crew after x signals left e d =
    ap (λ (ys : List Running). deliver_all left ys) d ∙ sym (ap (λ (xs : List Signal). deliver_all xs crew) e)

-- the process at a place is replaced
module _ (procs : List Standing) (at : ℕ) (p : Standing) (lt : at < length procs) (is : p ≡ get_or procs at p) where
  abbrev crew : List Running
  crew = runnings_of procs

  there : slice_get crew at ≡ Some p.running
  there =
      slice_get-map (λ (q : Standing). q.running) procs at
      ∙ ap (option_map (λ (q : Standing). q.running)) (slice_get-get_or procs at p lt ∙ ap (λ (q : Standing). Some q) (sym is))

  replaced : (q : Standing) (r : Running) → q.running ≡ r → runnings_of (set procs at q) ≡ set crew at r
  replaced q r e = map-set (λ (s : Standing). s.running) procs at q ∙ ap (λ (z : Running). set crew at z) e

  -- its pid is its place
  here : IsPlaced crew → (p.running.pid ≡ at) × (p.running.count ≡ length procs)
  here placed = let h : (p.running.pid ≡ at) × (p.running.count ≡ length crew) = placed at p.running there in (h.0, h.1 ∙ length-map procs (λ (q : Standing). q.running))

  -- a signal may arrive at it
  pub may_arrive : (x : Signal) → IsPlaced crew → IsArriving at (length procs) x → IsArriving p.running.pid p.running.count x
  may_arrive x placed h = subst (λ n. IsArriving n p.running.count x) (sym (here placed).0) (subst (λ n. IsArriving at n x) (sym (here placed).1) h)

  -- it was visited
  pub visit_done : {T E : Type 0} (o : Result T E) (q : Standing) (sent : List Signal) → OnOk o (q.running ≡ record (visited p.running) { outbox = [] }) → OnOk o (sent ≡ (visited p.running).outbox) →
      OnOk o (IfSome (slice_get crew at) (λ r. (runnings_of (set procs at q) ≡ set crew at (record (visited r) { outbox = [] })) × (sent ≡ (visited r).outbox)))
  visit_done (Ok t) q sent e h =
      subst (λ o. IfSome o (λ r. (runnings_of (set procs at q) ≡ set crew at (record (visited r) { outbox = [] })) × (sent ≡ (visited r).outbox))) (sym there)
      (replaced q (record (visited p.running) { outbox = [] }) e, h)
  visit_done (Err f) q sent e h = tt

  pub visit_placed : {T E : Type 0} (o : Result T E) (q : Standing) → OnOk o (q.running ≡ record (visited p.running) { outbox = [] }) → IsPlaced crew → OnOk o (IsPlaced (runnings_of (set procs at q)))
  visit_placed (Ok t) q e placed =
      let s : IsSame p.running (visited p.running) = visited_same p.running in
      subst IsPlaced (sym (replaced q (record (visited p.running) { outbox = [] }) e))
      (set_placed crew at p.running (record (visited p.running) { outbox = [] }) there (record { pid = s.pid; count = s.count }) placed)
  visit_placed (Err f) q e placed = tt

  pub visit_arriving : {T E : Type 0} (o : Result T E) (sent : List Signal) → IsPlaced crew → OnOk o (AreArriving p.running.count sent) → OnOk o (AreArriving (length procs) sent)
  visit_arriving (Ok t) sent placed h = subst (λ n. AreArriving n sent) (here placed).1 h
  visit_arriving (Err f) sent placed h = tt

-- the signal has arrived at its receiver
module _ (procs : List Standing) (x : Signal) (p : Standing) (lt : x.to.0 < length procs) (is : p ≡ get_or procs x.to.0 p) (q : Standing) (e : q.running ≡ arrived p.running x) where
  pub delivered : runnings_of (set procs x.to.0 q) ≡ deliver_to (slice_get (runnings_of procs) x.to.0) x (runnings_of procs)
  delivered =
      replaced procs x.to.0 p lt is q (arrived p.running x) e
      ∙ sym (ap (λ o. deliver_to o x (runnings_of procs)) (there procs x.to.0 p lt is))

  pub delivered_placed : IsPlaced (runnings_of procs) → IsPlaced (runnings_of (set procs x.to.0 q))
  delivered_placed placed = subst IsPlaced (sym delivered) (deliver_placed x (slice_get (runnings_of procs) x.to.0) (runnings_of procs) refl placed)

-- a fact of a call that succeeded gives another
pub if_arrived : {T E : Type 0} {P R : Type 0} (Q : Type 0) (o : Result T E) → MatchResult o (λ _. P) (λ _. Q) → (P → R) → OnOk o R
if_arrived Q (Ok x) h f = f h
if_arrived Q (Err e) h f = tt
