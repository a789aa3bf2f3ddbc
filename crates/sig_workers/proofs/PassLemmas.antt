-- Passes over a part.
use Rattle.std.proofs.Common.{◌≡◌, ◌≢◌, ℕ, ◌+◌, ◌<◌, ◌≤◌, List, length, Bool, true, false, ◌||◌, Some, refl, sym, ap, ◌∙◌, subst, inl, inr, arith, length-set, get_or}
use Rattle.std.specs.Prelude.{slice_get}
use Rattle.std.specs.Bool.{MatchBool}
use Rattle.std.proofs.lemmas.Bool.{true≢false}
use Rattle.std.proofs.lemmas.Bool.Decides.{eqb_tells}
use Rattle.std.proofs.lemmas.Option.{same_Some, slice_get_within, slice_get-get_or}
use Rattle.sig_runs.proofs.Lists.{slice_get-set_same, slice_get-set_other}
use Rattle.sig_model.specs.Running.{Running}
use Rattle.sig_model.specs.Still.{IsStill}
use Rattle.sig_process.specs.Standing.{Standing}
use Rattle.sig_workers.specs.Visits.{HasMoved}
use Rattle.sig_workers.specs.Acting.{HasActed, HasActedAt, ActBelow}
use Rattle.sig_workers.specs.Parts.{procs_of, HasVisited, Grow, AnyMore, StillBelow, HavePassed, IsSamePart}
use Rattle.sig_workers.specs.declared.part.Part.{Part}

pub same_part : (a b c : Part) → IsSamePart a b → IsSamePart b c → IsSamePart a c
same_part a b c h k = record { first = k.first ∙ h.first; count = k.count ∙ h.count; base = k.base ∙ h.base }

pub grow_refl : (xs : List Running) → Grow xs xs
grow_refl xs i t here = (t, here, omega arith)

pub grow_trans : (xs ys zs : List Running) → Grow xs ys → Grow ys zs → Grow xs zs
grow_trans xs ys zs h k i t here =
    let m : (r : Running) × (slice_get ys i ≡ Some r) × (length r.events ≤ length t.events) = k i t here in
    let n : (r : Running) × (slice_get xs i ≡ Some r) × (length r.events ≤ length m.0.events) = h i m.0 m.1 in
    (n.0, n.1, omega (arith, m.2, n.2))

-- more stays more
pub any_grows : (xs ys zs : List Running) → length zs ≡ length ys → AnyMore xs ys → Grow ys zs → AnyMore xs zs
any_grows xs ys zs same a g =
    let lt : a.at < length zs = (let w : a.at < length ys = slice_get_within ys a.at a.new a.here in omega (arith, w, same)) in
    let t : Running = get_or zs a.at a.new in
    let here : slice_get zs a.at ≡ Some t = slice_get-get_or zs a.at a.new lt in
    let m : (r : Running) × (slice_get ys a.at ≡ Some r) × (length r.events ≤ length t.events) = g a.at t here in
    let same_r : a.new ≡ m.0 = same_Some a.new m.0 (sym a.here ∙ m.1) in
    let le : length a.new.events ≤ length t.events = subst (λ (z : Running). length z.events ≤ length t.events) (sym same_r) m.2 in
    record { at = a.at; old = a.old; there = a.there; new = t; here = here; more = omega (arith, a.more, le) }

module _ (start procs later : List Running) (at : ℕ) (here : Bool) (v : HasVisited at procs later here) where
  at_new : slice_get later at ≡ Some v.new
  at_new = ap (λ z. slice_get z at) v.set ∙ slice_get-set_same procs at v.new v.old v.there

  at_other : (i : ℕ) → at ≢ i → slice_get later i ≡ slice_get procs i
  at_other i ne = ap (λ z. slice_get z i) v.set ∙ slice_get-set_other procs at i v.new ne

  pub visit_length : length later ≡ length procs
  visit_length = ap (λ (z : List Running). length z) v.set ∙ length-set procs at v.new

  pub visit_grow : Grow procs later
  visit_grow i t is = elim (eqb_tells at i) [
    | inl e ↦ (v.old, subst (λ z. slice_get procs z ≡ Some v.old) e.1 v.there, subst (λ (z : Running). length v.old.events ≤ length z.events) (same_Some v.new t (sym at_new ∙ ap (λ z. slice_get later z) e.1 ∙ is)) v.events)
    | inr e ↦ (t, sym (at_other i e.1) ∙ is, omega arith)
  ]

  pub visit_rest : ((i : ℕ) → at ≤ i → slice_get procs i ≡ slice_get start i) → (i : ℕ) → at + 1 ≤ i → slice_get later i ≡ slice_get start i
  visit_rest rest i le = at_other i (λ e. (let f : ⊥ = omega (arith, le, e) in f)) ∙ rest i (omega (arith, le))

  -- the first at + 1
  more_now : slice_get start at ≡ Some v.old → length v.old.events < length v.new.events → AnyMore start later
  more_now s m = record { at = at; old = v.old; there = s; new = v.new; here = at_new; more = m }

  still_now : slice_get start at ≡ Some v.old → StillBelow at start procs → (length v.new.events ≡ length v.old.events) × IsStill v.new → StillBelow (at + 1) start later
  still_now s h m i t lt is = elim (eqb_tells at i) [
    | inl e ↦ (
        let same : v.new ≡ t = same_Some v.new t (sym at_new ∙ ap (λ z. slice_get later z) e.1 ∙ is) in
        (v.old, subst (λ z. slice_get start z ≡ Some v.old) e.1 s, subst (λ (z : Running). length z.events ≡ length v.old.events) same m.0, subst IsStill same m.1)
        )
    | inr e ↦ h i t (let f : i < at = omega (arith, lt, e.1) in f) (sym (at_other i e.1) ∙ is)
  ]

  visit_case : (a b : Bool) → slice_get start at ≡ Some v.old → MatchBool a (AnyMore start procs) (StillBelow at start procs) → HasMoved v.old v.new b → MatchBool (a || b) (AnyMore start later) (StillBelow (at + 1) start later)
  visit_case true b s h m = any_grows start procs later visit_length h visit_grow
  visit_case false true s h m = more_now s m
  visit_case false false s h m = still_now s h m

  pub visit_passed : (a : Bool) → ((i : ℕ) → at ≤ i → slice_get procs i ≡ slice_get start i) → MatchBool a (AnyMore start procs) (StillBelow at start procs) → MatchBool (a || here) (AnyMore start later) (StillBelow (at + 1) start later)
  visit_passed a rest h = visit_case a here (sym (rest at (omega arith)) ∙ v.there) h v.moved_is

-- who can act acts, at one place
module _ (start procs later : List Standing) (at : ℕ) (v : HasActedAt at procs later) where
  stands_new : slice_get later at ≡ Some v.new
  stands_new = ap (λ z. slice_get z at) v.set ∙ slice_get-set_same procs at v.new v.old v.there

  stands_other : (i : ℕ) → at ≢ i → slice_get later i ≡ slice_get procs i
  stands_other i ne = ap (λ z. slice_get z i) v.set ∙ slice_get-set_other procs at i v.new ne

  pub acted_rest : ((i : ℕ) → at ≤ i → slice_get procs i ≡ slice_get start i) → (i : ℕ) → at + 1 ≤ i → slice_get later i ≡ slice_get start i
  acted_rest rest i le = stands_other i (λ e. (let f : ⊥ = omega (arith, le, e) in f)) ∙ rest i (omega (arith, le))

  pub acted_more : ((i : ℕ) → at ≤ i → slice_get procs i ≡ slice_get start i) → ActBelow at start procs → ActBelow (at + 1) start later
  acted_more rest h i q lt is = elim (eqb_tells at i) [
    | inl e ↦ (
      v.old,
      subst (λ z. slice_get start z ≡ Some v.old) e.1 (sym (rest at (omega arith)) ∙ v.there),
      subst (HasActed v.old) (same_Some v.new q (sym stands_new ∙ ap (λ z. slice_get later z) e.1 ∙ is)) v.acted,
    )
    | inr e ↦ h i q (let f : i < at = omega (arith, lt, e.1) in f) (sym (stands_other i e.1) ∙ is)
  ]

-- two passes
acts_on : (p m q : Standing) → HasActed p m → HasActed m q → HasActed p q
acts_on p m q (inl a) (inl b) = inl (omega (arith, a, b))
acts_on p m q (inl a) (inr b) = inl (omega (arith, a, b.0))
acts_on p m q (inr a) (inl b) = inl (omega (arith, a.0, b))
acts_on p m q (inr a) (inr b) = inr (b.0 ∙ a.0, b.1, omega (arith, a.2, b.2))

pub act_twice : (xs ys zs : List Standing) → ActBelow (length ys) xs ys → ActBelow (length zs) ys zs → ActBelow (length zs) xs zs
act_twice xs ys zs h k i q lt at =
    let w : (m : Standing) × (slice_get ys i ≡ Some m) × HasActed m q = k i q lt at in
    let v : (p : Standing) × (slice_get xs i ≡ Some p) × HasActed p w.0 = h i w.0 (slice_get_within ys i w.0 w.1) w.1 in
    (v.0, v.1, acts_on v.0 w.0 q v.2 w.2)

pub acted_pass : (start mid end : Part) (a : Bool) → MatchBool a (AnyMore (procs_of start) (procs_of mid)) (mid ≡ start) → (a ≡ true → ActBelow (length mid.procs.items) start.procs.items mid.procs.items) →
    ActBelow (length end.procs.items) mid.procs.items end.procs.items → ActBelow (length end.procs.items) start.procs.items end.procs.items
acted_pass start mid end true m h k = act_twice start.procs.items mid.procs.items end.procs.items (h refl) k
acted_pass start mid end false m h k = subst (λ (z : Part). ActBelow (length end.procs.items) z.procs.items end.procs.items) m k

-- Passes in a row without an event, and one pass more. They may have fetched, so the part isn't as it was; but no process had an event,
-- and so what the last pass tells of events is true since the first.
module _ (start mid end : Part) (none : StillBelow (length (procs_of mid)) (procs_of start) (procs_of mid)) where
  as_many : (i : ℕ) (m : Running) → slice_get (procs_of mid) i ≡ Some m → (r : Running) × (slice_get (procs_of start) i ≡ Some r) × (length m.events ≡ length r.events)
  as_many i m at =
      let w : (r : Running) × (slice_get (procs_of start) i ≡ Some r) × (length m.events ≡ length r.events) × IsStill m = none i m (slice_get_within (procs_of mid) i m at) at in
      (w.0, w.1, w.2)

  again_more : AnyMore (procs_of mid) (procs_of end) → AnyMore (procs_of start) (procs_of end)
  again_more a =
      let w : (r : Running) × (slice_get (procs_of start) a.at ≡ Some r) × (length a.old.events ≡ length r.events) = as_many a.at a.old a.there in
      record { at = a.at; old = w.0; there = w.1; new = a.new; here = a.here; more = omega (arith, a.more, w.2) }

  again_still : StillBelow (length (procs_of end)) (procs_of mid) (procs_of end) → StillBelow (length (procs_of end)) (procs_of start) (procs_of end)
  again_still h i t lt is =
      let m : (m : Running) × (slice_get (procs_of mid) i ≡ Some m) × (length t.events ≡ length m.events) × IsStill t = h i t lt is in
      let w : (r : Running) × (slice_get (procs_of start) i ≡ Some r) × (length m.0.events ≡ length r.events) = as_many i m.0 m.1 in
      (w.0, w.1, m.2 ∙ w.2, m.3)

  again_passed : (b : Bool) → HavePassed (procs_of mid) (procs_of end) b → HavePassed (procs_of start) (procs_of end) b
  again_passed true h = again_more h
  again_passed false h = again_still h

pub pass_again : (start mid end : Part) (a b : Bool) → a ≡ false → HavePassed (procs_of start) (procs_of mid) a → HavePassed (procs_of mid) (procs_of end) b → HavePassed (procs_of start) (procs_of end) b
pass_again start mid end true b e h k = absurd (true≢false e)
pass_again start mid end false b e h k = again_passed start mid end h b k

-- several passes
-- one pass more, which had an event or had none
module _ (start mid end : Part) (same : IsSamePart mid end) (g : Grow (procs_of mid) (procs_of end)) where
  pub one_pass : (a b : Bool) → MatchBool a (AnyMore (procs_of start) (procs_of mid)) (mid ≡ start) → HavePassed (procs_of mid) (procs_of end) b → HavePassed (procs_of start) (procs_of end) (a || b)
  one_pass true b h m = any_grows (procs_of start) (procs_of mid) (procs_of end) same.count h g
  one_pass false true h m = subst (λ (z : Part). AnyMore (procs_of z) (procs_of end)) h m
  one_pass false false h m = subst (λ (z : Part). StillBelow (length (procs_of end)) (procs_of z) (procs_of end)) h m

  pub one_turn : (a b : Bool) → b ≡ true → MatchBool a (AnyMore (procs_of start) (procs_of mid)) (mid ≡ start) → HavePassed (procs_of mid) (procs_of end) b → MatchBool (a || b) (AnyMore (procs_of start) (procs_of end)) (end ≡ start)
  one_turn true b e h m = any_grows (procs_of start) (procs_of mid) (procs_of end) same.count h g
  one_turn false true e h m = subst (λ (z : Part). AnyMore (procs_of z) (procs_of end)) h m
  one_turn false false e h m = absurd (true≢false (sym e))

pub all_passed : (a : Bool) (n : ℕ) (start later : List Running) → length later ≤ n → MatchBool a (AnyMore start later) (StillBelow n start later) → HavePassed start later a
all_passed true n start later le h = h
all_passed false n start later le h = λ i t lt is. h i t (omega (arith, lt, le)) is

pub or_true : (a b : Bool) → b ≡ true → (a || b) ≡ true
or_true true b e = refl
or_true false b e = e
