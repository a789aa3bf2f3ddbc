-- Seats that are cut one by one.
use Rattle.std.proofs.Common.{◌≡◌, ◌≢◌, ℕ, zero, suc, ◌+◌, ◌<◌, ◌≤◌, List, [], ◌∷◌, ◌++◌, length, Some, refl, sym, ap, ◌∙◌, subst, inl, inr, ◌⊎◌, arith, length-append}
use Rattle.std.specs.Prelude.{slice_get, slice_set}
use Rattle.std.proofs.lemmas.Bool.Decides.{eqb_tells}
use Rattle.std.proofs.lemmas.Option.{same_Some, slice_get_within}
use Rattle.sig_runs.proofs.Lists.{slice_get-set_same, slice_get-set_other}
use Rattle.sig_layout.specs.declared.policy.Policy.{Policy}
use Rattle.sig_model.specs.Running.{Running}
use Rattle.sig_queue.specs.Seats.{Queue, Seated}
use Rattle.sig_workers.specs.Opening.{first_seated, IsFreshSeat, AreFresh, IsQueueOf, AreOpened}

abbrev pub FreshTo : List Queue → ℕ → ℕ → ℕ → List Seated → Type 0
FreshTo queues first count at seats = (p : ℕ) (v : Seated) → p < at → slice_get seats p ≡ Some v → (q : Queue) × (slice_get queues p ≡ Some q) × IsFreshSeat q first count p v

pub get_push : {X : Type 0} (xs : List X) (x : X) (p : ℕ) (v : X) → slice_get (xs ++ x ∷ []) p ≡ Some v → (slice_get xs p ≡ Some v) ⊎ ((p ≡ length xs) × (x ≡ v))
get_push [] x zero v h = inr (refl, same_Some x v h)
get_push [] x (suc p) v h = cc
get_push (y ∷ xs) x zero v h = inl h
get_push (y ∷ xs) x (suc p) v h = elim (get_push xs x p v h) [
  | inl e ↦ inl e
  | inr w ↦ inr (ap suc w.0, w.1)
]

pub fresh_pushed : (queues : List Queue) (first count at : ℕ) (seats : List Seated) (w : Seated) (q : Queue) → length seats ≡ at → slice_get queues at ≡ Some q → IsFreshSeat q first count at w → FreshTo queues first count at seats → FreshTo queues first count (at + 1) (seats ++ w ∷ [])
fresh_pushed queues first count at seats w q len there f old p v lt h = elim (get_push seats w p v h) [
  | inl e ↦ old p v (let n : p < length seats = slice_get_within seats p v e in omega (arith, n, len)) e
  | inr e ↦ (q, subst (λ z. slice_get queues z ≡ Some q) (sym (e.0 ∙ len)) there, subst (λ z. IsFreshSeat q first count z v) (sym (e.0 ∙ len)) (subst (λ z. IsFreshSeat q first count at z) e.1 f))
]

pub fresh_set : (queues : List Queue) (first count at : ℕ) (seats : List Seated) (old w : Seated) (q : Queue) → slice_get seats at ≡ Some old → slice_get queues at ≡ Some q → IsFreshSeat q first count at w → FreshTo queues first count at seats → FreshTo queues first count (at + 1) (slice_set seats at w)
fresh_set queues first count at seats old w q mine there f before p v lt h = elim (eqb_tells at p) [
  | inl e ↦ (q, subst (λ z. slice_get queues z ≡ Some q) e.1 there, subst (λ z. IsFreshSeat q first count z v) e.1 (subst (λ z. IsFreshSeat q first count at z) (same_Some w v (sym (slice_get-set_same seats at w old mine) ∙ ap (λ z. slice_get (slice_set seats at w) z) e.1 ∙ h)) f))
  | inr e ↦ before p v (let ne : at ≢ p = e.1 in omega (arith, ne, lt)) (sym (slice_get-set_other seats at p w e.1) ∙ h)
]

pub rest_set : (seats start : List Seated) (at : ℕ) (w : Seated) → ((p : ℕ) → at ≤ p → slice_get seats p ≡ slice_get start p) → (p : ℕ) → at + 1 ≤ p → slice_get (slice_set seats at w) p ≡ slice_get start p
rest_set seats start at w before p le = slice_get-set_other seats at p w (λ e. (let n : at + 1 ≤ at = subst (λ z. at + 1 ≤ z) (sym e) le in omega (arith, n))) ∙ before p (omega (arith, le))

pub all_fresh : (queues : List Queue) (first count at : ℕ) (seats : List Seated) → length seats ≡ length queues → length queues ≤ at → FreshTo queues first count at seats → AreFresh queues first count seats
all_fresh queues first count at seats many le f = record {
  many = many;
  each = λ p v h. f p v (let n : p < length seats = slice_get_within seats p v h in omega (arith, n, many, le)) h;
}

get_kept : {X : Type 0} (xs ys : List X) (p : ℕ) (v : X) → slice_get xs p ≡ Some v → slice_get (xs ++ ys) p ≡ Some v
get_kept [] ys p v h = cc
get_kept (x ∷ xs) ys zero v h = h
get_kept (x ∷ xs) ys (suc p) v h = get_kept xs ys p v h

get_end : {X : Type 0} (xs : List X) (x : X) → slice_get (xs ++ x ∷ []) (length xs) ≡ Some x
get_end [] x = refl
get_end (y ∷ xs) x = get_end xs x

pub opened_push : (policy : Policy) (crew : List Running) (at : ℕ) (queues : List Queue) (seats : List Seated) (q : Queue) (v : Seated) → length queues ≡ at → AreOpened policy crew queues seats → IsQueueOf policy crew at q × (v ≡ first_seated q) → AreOpened policy crew (queues ++ q ∷ []) (seats ++ v ∷ [])
opened_push policy crew at queues seats q v len old new = record {
  many = length-append seats (v ∷ []) ∙ ap (λ z. z + 1) old.many ∙ sym (length-append queues (q ∷ []));
  each = λ p r h. elim (get_push queues q p r h) [
    | inl e ↦ ((old.each p r e).0, get_kept seats (v ∷ []) p (first_seated r) (old.each p r e).1)
    | inr e ↦ (
      subst (λ z. IsQueueOf policy crew z r) (sym (e.0 ∙ len)) (subst (λ z. IsQueueOf policy crew at z) e.1 new.0),
      subst (λ z. slice_get (seats ++ v ∷ []) z ≡ Some (first_seated r)) (old.many ∙ sym e.0) (get_end seats v ∙ ap Some (new.1 ∙ ap first_seated e.1)),
    )
  ];
}

-- the fresh seat of a queue that was read
pub fresh_here : (queues : List Queue) (first count at : ℕ) (seats : List Seated) (v : Seated) (q : Queue) → AreFresh queues first count seats → slice_get seats at ≡ Some v → slice_get queues at ≡ Some q → IsFreshSeat q first count at v
fresh_here queues first count at seats v q f mine there =
    let e : (k : Queue) × (slice_get queues at ≡ Some k) × IsFreshSeat k first count at v = f.each at v mine in
    subst (λ z. IsFreshSeat z first count at v) (same_Some e.0 q (sym e.1 ∙ there)) e.2
