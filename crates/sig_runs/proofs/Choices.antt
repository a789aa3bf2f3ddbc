-- What a choice that was possible tells of the machine before it.
use Rattle.std.proofs.Common.{◌≡◌, ◌≢◌, ℕ, Bool, true, false, not, ◌||◌, List, [], ◌∷◌, Option, Some, None, refl, sym, ap, ◌∙◌, ◌⊎◌, inl, inr}
use Rattle.std.proofs.lemmas.Bool.{ltb-true}
use Rattle.std.proofs.lemmas.Bool.Decides.{eqb_tells}
use Rattle.std.specs.Prelude.{◌==◌, ◌^◌, ◌<◌, nat_lt, slice_get, if◌then◌else◌}
use Rattle.std.proofs.lemmas.Option.{same_Some}
use Rattle.sig_runs.specs.Rules.{Effect, Rules}
use Rattle.sig_runs.specs.Machine.{Machine, Applied, execute, executed, handle, moved, without_oldest, is_empty}
use Rattle.sig_runs.specs.Possible.{IsExecution, IsHandling}

or_false : (a b : Bool) → (a || b) ≡ false → ((a ≡ false) × (b ≡ false))
or_false true b h = absurd cc
or_false false b h = (refl, h)

not_false : (a : Bool) → not a ≡ false → a ≡ true
not_false true h = refl
not_false false h = absurd cc

none_left : {A : Type 0} (xs : List A) → is_empty xs ≡ true → xs ≡ []
none_left [] h = refl
none_left (x ∷ xs) h = absurd cc

none_there : {A : Type 0} (xs : List A) → not (is_empty xs) ≡ false → xs ≡ []
none_there [] h = refl
none_there (x ∷ xs) h = absurd cc

module _ {S X E : Type 0} (rules : Rules S X E) where
  pub record DidExecute (m : Machine S X) (p : ℕ) (o : Option S) (r : Applied S X E) : Type 0 where
    pub state : S
    pub effect : Effect S X E
    pub at : o ≡ Some state
    pub going : rules.is_ended state ≡ false
    pub uncut : rules.is_cut state ≡ false
    pub no_own : m.queued p p ≡ []
    pub defined : rules.exec p state ≡ Some effect
    pub is : r ≡ moved rules m p m.queued effect

  pub record DidHandle (m : Machine S X) (p f : ℕ) (o : Option S) (xs : List X) (r : Applied S X E) : Type 0 where
    pub state : S
    pub signal : X
    pub rest : List X
    pub at : o ≡ Some state
    pub oldest : xs ≡ signal ∷ rest
    pub uncut : rules.is_cut state ≡ false
    pub low : rules.stamp signal < 2 ^ 62
    pub own_first : (f ≡ p) ⊎ (m.queued p p ≡ [])
    pub is : r ≡ moved rules m p (without_oldest f p m.queued) (rules.handle p state signal)

  pub did_execute : (m : Machine S X) (p : ℕ) (o : Option S) (r : Applied S X E) → execute rules m p o ≡ Some r → DidExecute m p o r
  did_execute m p None r h = absurd cc
  did_execute m p (Some s) r h = go tests refl h
    where
      tests : Bool
      tests = rules.is_ended s || (rules.is_cut s || not (is_empty (m.queued p p)))

      some : tests ≡ false → (o : Option (Effect S X E)) → rules.exec p s ≡ o → executed rules m p o ≡ Some r → DidExecute m p (Some s) r
      some t None e g = absurd cc
      some t (Some ef) e g =
          let first : (rules.is_ended s ≡ false) × ((rules.is_cut s || not (is_empty (m.queued p p))) ≡ false) = or_false (rules.is_ended s) (rules.is_cut s || not (is_empty (m.queued p p))) t in
          let second : (rules.is_cut s ≡ false) × (not (is_empty (m.queued p p)) ≡ false) = or_false (rules.is_cut s) (not (is_empty (m.queued p p))) first.1 in
          record {
            state = s;
            effect = ef;
            at = refl;
            going = first.0;
            uncut = second.0;
            no_own = none_there (m.queued p p) second.1;
            defined = e;
            is = sym (same_Some (moved rules m p m.queued ef) r g);
          }

      go : (b : Bool) → tests ≡ b → (if b then None else executed rules m p (rules.exec p s)) ≡ Some r → DidExecute m p (Some s) r
      go true t g = absurd cc
      go false t g = some t (rules.exec p s) refl g

  pub did_handle : (m : Machine S X) (p f : ℕ) (o : Option S) (xs : List X) (r : Applied S X E) → handle rules m p f o xs ≡ Some r → DidHandle m p f o xs r
  did_handle m p f None xs r h = absurd cc
  did_handle m p f (Some s) [] r h = absurd cc
  did_handle m p f (Some s) (x ∷ rest) r h = go tests refl h
    where
      tests : Bool
      tests = rules.is_cut s || (not (nat_lt (rules.stamp x) (2 ^ 62)) || not (f == p || is_empty (m.queued p p)))

      own_or_none : (((f == p) ≡ true) × (f ≡ p)) ⊎ (((f == p) ≡ false) × (f ≢ p)) → (f == p || is_empty (m.queued p p)) ≡ true → (f ≡ p) ⊎ (m.queued p p ≡ [])
      own_or_none (inl own) t = inl own.1
      own_or_none (inr other) t = inr (none_left (m.queued p p) (ap (λ (b : Bool). b || is_empty (m.queued p p)) (sym other.0) ∙ t))

      go : (b : Bool) → tests ≡ b → (if b then None else Some (moved rules m p (without_oldest f p m.queued) (rules.handle p s x))) ≡ Some r → DidHandle m p f (Some s) (x ∷ rest) r
      go true t g = absurd cc
      go false t g =
          let first : (rules.is_cut s ≡ false) × ((not (nat_lt (rules.stamp x) (2 ^ 62)) || not (f == p || is_empty (m.queued p p))) ≡ false) =
          or_false (rules.is_cut s) (not (nat_lt (rules.stamp x) (2 ^ 62)) || not (f == p || is_empty (m.queued p p))) t in
          let second : (not (nat_lt (rules.stamp x) (2 ^ 62)) ≡ false) × (not (f == p || is_empty (m.queued p p)) ≡ false) =
          or_false (not (nat_lt (rules.stamp x) (2 ^ 62))) (not (f == p || is_empty (m.queued p p))) first.1 in
          record {
            state = s;
            signal = x;
            rest = rest;
            at = refl;
            oldest = refl;
            uncut = first.0;
            low = ltb-true (rules.stamp x) (2 ^ 62) (not_false (nat_lt (rules.stamp x) (2 ^ 62)) second.0);
            own_first = own_or_none (eqb_tells f p) (not_false (f == p || is_empty (m.queued p p)) second.1);
            is = sym (same_Some (moved rules m p (without_oldest f p m.queued) (rules.handle p s x)) r g);
          }

  -- what an execution and a handling come of
  module _ (m : Machine S X) (p : ℕ) (next : Applied S X E) where
    pub is_execution : execute rules m p (slice_get m.procs p) ≡ Some next → IsExecution rules m p next
    is_execution h =
        let d : DidExecute m p (slice_get m.procs p) next = did_execute m p (slice_get m.procs p) next h in
        record {
          state = d.state;
          there = d.at;
          going = d.going;
          uncut = d.uncut;
          no_own = d.no_own;
          effect = d.effect;
          defined = d.defined;
          event = ap (λ (r : Applied S X E). r.event) d.is;
        }

    pub is_handling : (f : ℕ) → handle rules m p f (slice_get m.procs p) (m.queued f p) ≡ Some next → IsHandling rules m p f next
    is_handling f h =
        let d : DidHandle m p f (slice_get m.procs p) (m.queued f p) next = did_handle m p f (slice_get m.procs p) (m.queued f p) next h in
        record {
          state = d.state;
          there = d.at;
          uncut = d.uncut;
          signal = d.signal;
          newer = d.rest;
          oldest = d.oldest;
          early = d.low;
          own_first = d.own_first;
          event = ap (λ (r : Applied S X E). r.event) d.is;
        }
