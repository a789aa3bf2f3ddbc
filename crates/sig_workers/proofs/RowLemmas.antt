-- Parts in a row: they are ready, they work, and they are joined.
use Rattle.std.proofs.Common.{◌≡◌, ℕ, zero, suc, ◌+◌, ◌-◌, ◌≤◌, List, [], ◌∷◌, ◌++◌, length, take, drop, Bool, true, false, ◌||◌, Some, None, refl, sym, ap, ◌∙◌, subst, inl, inr, ◌⊎◌, arith, length-append}
use Rattle.std.specs.Prelude.{slice_get, All, Result, Ok, Err}
use Rattle.std.specs.declared.alloc.AllocError.{AllocError}
use Rattle.std.proofs.lemmas.List.Elements.{All-nil, All-cons, All-head, All-tail}
use Rattle.std.proofs.lemmas.Option.{same_Some, slice_get_within}
use Rattle.sig_model.specs.Running.{Running}
use Rattle.sig_model.specs.OneWorker.{IsClear}
use Rattle.sig_layout.specs.declared.policy.Policy.{Policy}
use Rattle.sig_model.specs.Still.{IsStill}
use Rattle.sig_workers.specs.Parts.{procs_of, crew_of, base_of, AreSeats, HasPlace, IsPart, HavePassed, HasWorked, HaveWorked, HasJoined}
use Rattle.sig_program.specs.Scripts.{Program}
use Rattle.sig_model.specs.CrewLaw.{IsLawfulCrew}
use Rattle.sig_queue.specs.Seats.{Queue}
use Rattle.sig_workers.specs.Opening.{IsQueueOf, AreFresh}
use Rattle.sig_workers.specs.Acting.{HasActed, ActBelow, HaveActed}
use Rattle.sig_workers.specs.Rows.{SliceOf, FreshRow, HasGrownBy, DoneRow, IsWhole}
use Rattle.sig_workers.specs.declared.part.Part.{Part}
use Rattle.sig_workers.specs.declared.part.Worked.{Worked}
use Rattle.std.proofs.lemmas.List.{length-take-le, take-take}
use Rattle.sig_process.specs.Standing.{Standing, runnings_of}
use Rattle.sig_workers.proofs.PartLemmas.{many_running}
use Rattle.sig_workers.proofs.JoinLemmas.{get_append, both_procs}
use Rattle.sig_workers.proofs.FreshLemmas.{fresh_seats, fresh_place}

get_left : (xs ys : List Running) (p : ℕ) (t : Running) → slice_get xs p ≡ Some t → slice_get (xs ++ ys) p ≡ Some t
get_left [] ys p t h = cc
get_left (x ∷ xs) ys zero t h = h
get_left (x ∷ xs) ys (suc p) t h = get_left xs ys p t h

get_right : (xs ys : List Running) (p : ℕ) (t : Running) → slice_get ys p ≡ Some t → slice_get (xs ++ ys) (length xs + p) ≡ Some t
get_right [] ys p t h = subst (λ z. slice_get ys z ≡ Some t) (let e : p ≡ 0 + p = omega arith in e) h
get_right (x ∷ xs) ys p t h = subst (λ z. slice_get (x ∷ (xs ++ ys)) z ≡ Some t) (let e : suc (length xs + p) ≡ length (x ∷ xs) + p = omega arith in e) (get_right xs ys p t h)

module _ (queues : List Queue) (crew : List Standing) (end : ℕ) where
  pub row_first : (w : Worked) (o : Result Worked AllocError) (done rest : List (Result Worked AllocError)) → done ≡ o ∷ rest → o ≡ Ok w → (first : ℕ) → DoneRow queues crew first end done →
      IsPart queues w.part × (w.part.first ≡ first) × (crew_of w.part ≡ crew) × HasGrownBy (runnings_of crew) first (procs_of w.part) w.moved × HaveActed crew first w.part.procs.items × DoneRow queues crew (first + length (procs_of w.part)) end rest
  row_first w o done rest e is first h = subst (λ z. DoneRow queues crew first end (z ∷ rest)) is (subst (DoneRow queues crew first end) e h)

  -- where no part is left
  pub row_ended : (first : ℕ) (done : List (Result Worked AllocError)) → length done ≡ 0 → DoneRow queues crew first end done → first ≡ end
  row_ended first [] none row = row
  row_ended first (o ∷ done) none row = absurd (let f : ⊥ = omega (arith, none) in f)

  pub first_whole : (w : Worked) (rest : List (Result Worked AllocError)) →
      IsPart queues w.part × (w.part.first ≡ 0) × (crew_of w.part ≡ crew) × HasGrownBy (runnings_of crew) 0 (procs_of w.part) w.moved × HaveActed crew 0 w.part.procs.items × DoneRow queues crew (0 + length (procs_of w.part)) end rest → IsWhole queues crew (length (procs_of w.part)) w
  first_whole w rest h = record { is_part = h.0; first = h.1; base = h.2; count_is = refl; grown = h.3; acted = h.4 }

  grown_joined : (xs ys zs : List Running) (a b : Bool) → zs ≡ xs ++ ys → HasGrownBy (runnings_of crew) 0 xs a → HasGrownBy (runnings_of crew) (length xs) ys b → HasGrownBy (runnings_of crew) 0 zs (a || b)
  grown_joined xs ys zs true b e h k = (h.0, h.1, h.2, h.3, subst (λ q. slice_get q h.0 ≡ Some h.2) (sym e) (get_left xs ys h.0 h.2 h.4), h.5)
  grown_joined xs ys zs false true e h k = (
    length xs + k.0,
    k.1,
    k.2,
    subst (λ q. slice_get (runnings_of crew) q ≡ Some k.1) (let z : length xs + k.0 ≡ 0 + (length xs + k.0) = omega arith in z) k.3,
    subst (λ q. slice_get q (length xs + k.0) ≡ Some k.2) (sym e) (get_right xs ys k.0 k.2 k.4),
    k.5,
  )
  grown_joined xs ys zs false false e h k = λ p t at. go p t (get_append xs ys p t (subst (λ q. slice_get q p ≡ Some t) e at))
    where
      go : (p : ℕ) (t : Running) → (slice_get xs p ≡ Some t) ⊎ ((j : ℕ) × (p ≡ length xs + j) × (slice_get ys j ≡ Some t)) → (r : Running) × (slice_get (runnings_of crew) (0 + p) ≡ Some r) × (length t.events ≡ length r.events) × IsStill t
      go p t (inl m) = h p t m
      go p t (inr m) =
          let w : (r : Running) × (slice_get (runnings_of crew) (length xs + m.0) ≡ Some r) × (length t.events ≡ length r.events) × IsStill t = k m.0 t m.2 in
          (w.0, subst (λ q. slice_get (runnings_of crew) q ≡ Some w.0) (let z : length xs + m.0 ≡ 0 + p = omega (arith, m.1) in z) w.1, w.2, w.3)

  acted_joined : (xs ys zs : List Standing) → zs ≡ xs ++ ys → HaveActed crew 0 xs → HaveActed crew (length xs) ys → HaveActed crew 0 zs
  acted_joined xs ys zs e h k = λ i q at. go i q (get_append xs ys i q (subst (λ z. slice_get z i ≡ Some q) e at))
    where
      go : (i : ℕ) (q : Standing) → (slice_get xs i ≡ Some q) ⊎ ((j : ℕ) × (i ≡ length xs + j) × (slice_get ys j ≡ Some q)) → (p : Standing) × (slice_get crew (0 + i) ≡ Some p) × HasActed p q
      go i q (inl m) = h i q m
      go i q (inr m) =
          let w : (p : Standing) × (slice_get crew (length xs + m.0) ≡ Some p) × HasActed p q = k m.0 q m.2 in
          (w.0, subst (λ n. slice_get crew n ≡ Some w.0) (let z : length xs + m.0 ≡ 0 + i = omega (arith, m.1) in z) w.1, w.2)

  module _ (whole next later : Worked) (w : IsWhole queues crew (length (procs_of whole.part)) whole) (first : next.part.first ≡ length (procs_of whole.part)) (grown : HasGrownBy (runnings_of crew) (length (procs_of whole.part)) (procs_of next.part) next.moved)
      (acted : HaveActed crew (length (procs_of whole.part)) next.part.procs.items)
      (part : IsPart queues later.part) (j : HasJoined whole.part next.part later.part) (moved : later.moved ≡ (whole.moved || next.moved)) where
    procs_joined : procs_of later.part ≡ procs_of whole.part ++ procs_of next.part
    procs_joined = both_procs whole.part.procs.items next.part.procs.items later.part.procs.items j.procs

    pub joined_whole : IsWhole queues crew (length (procs_of later.part)) later
    joined_whole = record {
      is_part = part;
      first = j.first ∙ w.first;
      base = j.base ∙ w.base;
      count_is = refl;
      grown = subst (HasGrownBy (runnings_of crew) 0 (procs_of later.part)) (sym moved) (grown_joined (procs_of whole.part) (procs_of next.part) (procs_of later.part) whole.moved next.moved procs_joined w.grown grown);
      acted = acted_joined whole.part.procs.items next.part.procs.items later.part.procs.items j.procs w.acted (subst (λ n. HaveActed crew n next.part.procs.items) (many_running whole.part.procs.items) acted);
    }

    pub joined_row : (rest : List (Result Worked AllocError)) → DoneRow queues crew (length (procs_of whole.part) + length (procs_of next.part)) end rest → DoneRow queues crew (length (procs_of later.part)) end rest
    joined_row rest h = subst (λ z. DoneRow queues crew z end rest) (sym (ap (λ (z : List Running). length z) procs_joined ∙ length-append (procs_of whole.part) (procs_of next.part))) h

-- a part with fresh seats in a row is ready
row_end : (queues : List Queue) (crew : List Standing) (first end : ℕ) (ps : List Part) → FreshRow queues crew first end ps → first ≤ end
row_end queues crew first end [] h = omega (arith, h)
row_end queues crew first end (p ∷ ps) h = let e : first + length (procs_of p) ≤ end = row_end queues crew (first + length (procs_of p)) end ps h.4 in omega (arith, e)

-- a process that stands somewhere
pub running_there : (procs : List Standing) (i : ℕ) (r : Running) → slice_get (runnings_of procs) i ≡ Some r → (q : Standing) × (slice_get procs i ≡ Some q) × (q.running ≡ r)
running_there [] i r h = cc
running_there (p ∷ ps) zero r h = (p, refl, same_Some p.running r h)
running_there (p ∷ ps) (suc i) r h = running_there ps i r h

pub there_running : (procs : List Standing) (i : ℕ) (q : Standing) → slice_get procs i ≡ Some q → slice_get (runnings_of procs) i ≡ Some q.running
there_running [] i q h = cc
there_running (p ∷ ps) zero q h = ap (λ (z : Standing). Some z.running) (same_Some p q h)
there_running (p ∷ ps) (suc i) q h = there_running ps i q h

slice_running : (crew procs : List Standing) (first : ℕ) → SliceOf crew first procs → SliceOf (runnings_of crew) first (runnings_of procs)
slice_running crew procs first h = λ i r at.
    let w : (q : Standing) × (slice_get procs i ≡ Some q) × (q.running ≡ r) = running_there procs i r at in
    there_running crew (first + i) w.0 (h i w.0 w.1) ∙ ap (λ (z : Running). Some z) w.2

module _ (script : Program) (policy : Policy) (crew : List Standing) (queues : List Queue) (law : IsLawfulCrew script (runnings_of crew)) (few : length (runnings_of crew) ≤ 256) (clear : IsClear (runnings_of crew)) (same : length queues ≡ length (runnings_of crew)) (each : (p : ℕ) (q : Queue) → slice_get queues p ≡ Some q → IsQueueOf policy (runnings_of crew) p q) where
  one_part : (first : ℕ) (p : Part) → p.first ≡ first → crew_of p ≡ crew → AreFresh queues first (length (procs_of p)) p.seats.items → SliceOf (runnings_of crew) first (procs_of p) → first + length (procs_of p) ≤ length (runnings_of crew) → IsPart queues p
  one_part first p is base fresh slice le = record {
    few = omega (arith, same, few);
    within = subst (λ z. z + length (procs_of p) ≤ length queues) (sym is) (omega (arith, le, same));
    seats = subst (λ z. AreSeats queues z (length (procs_of p)) p.seats.items) (sym is) (fresh_seats queues first (length (procs_of p)) p.seats.items fresh);
    procs = λ i r at.
        subst (λ z. HasPlace queues (base_of p) p.seats.items (z + i) r) (sym is)
        (subst (λ z. HasPlace queues (runnings_of z) p.seats.items (first + i) r) (sym base)
        (fresh_place script policy (runnings_of crew) queues law few clear same each first (length (procs_of p)) p.seats.items fresh le i r (slice_get_within (procs_of p) i r at) (slice i r at)));
  }

  pub row_parts : (first : ℕ) (ps : List Part) → FreshRow queues crew first (length (runnings_of crew)) ps → All (IsPart queues) ps
  row_parts first [] h = All-nil (IsPart queues)
  row_parts first (p ∷ ps) h =
      All-cons (IsPart queues) p ps
      (one_part first p h.0 h.1 h.2 (slice_running crew p.procs.items first h.3) (row_end queues crew (first + length (procs_of p)) (length (runnings_of crew)) ps h.4))
      (row_parts (first + length (procs_of p)) ps h.4)

-- what the parts' work did, in a row
more_case : (crew xs ys : List Running) (first : ℕ) (b : Bool) → SliceOf crew first xs → HavePassed xs ys b → HasGrownBy crew first ys b
more_case crew xs ys first true slice h = (h.at, h.old, h.new, slice h.at h.old h.there, h.here, h.more)
more_case crew xs ys first false slice h = λ p t at.
    let w : (r : Running) × (slice_get xs p ≡ Some r) × (length t.events ≡ length r.events) × IsStill t = h p t (slice_get_within ys p t at) at in
    (w.0, slice p w.0 w.1, w.2, w.3)

acted_case : (crew xs ys : List Standing) (first : ℕ) → SliceOf crew first xs → ActBelow (length ys) xs ys → HaveActed crew first ys
acted_case crew xs ys first slice h = λ i q at.
    let w : (p : Standing) × (slice_get xs i ≡ Some p) × HasActed p q = h i q (slice_get_within ys i q at) at in
    (w.0, slice i w.0 w.1, w.2)

pub row_done : (queues : List Queue) (crew : List Standing) (first end : ℕ) (ps : List Part) (ds : List (Result Worked AllocError)) → FreshRow queues crew first end ps → length ds ≡ length ps → HaveWorked queues ps ds → DoneRow queues crew first end ds
row_done queues crew first end [] [] f e h = f
row_done queues crew first end [] (d ∷ ds) f e h = absurd (let z : ⊥ = omega (arith, e) in z)
row_done queues crew first end (p ∷ ps) [] f e h = absurd (let z : ⊥ = omega (arith, e) in z)
row_done queues crew first end (p ∷ ps) (Err x ∷ ds) f e h = tt
row_done queues crew first end (p ∷ ps) (Ok w ∷ ds) f e h =
    let k : HasWorked queues p w = h 0 p (Ok w) (omega arith) in
    let rest : DoneRow queues crew (first + length (procs_of p)) end ds = row_done queues crew (first + length (procs_of p)) end ps ds f.4 (omega (arith, e)) (λ i q d lt. h (suc i) q d (omega (arith, lt))) in (
      k.part,
      k.same.first ∙ f.0,
      k.same.base ∙ f.1,
      more_case (runnings_of crew) (procs_of p) (procs_of w.part) first w.moved (slice_running crew p.procs.items first f.3) k.passed,
      acted_case crew p.procs.items w.part.procs.items first f.3 k.acted,
      subst (λ z. DoneRow queues crew (first + z) end ds) (sym k.same.count) rest,
    )

get_take : {X : Type 0} (n : ℕ) (xs : List X) (i : ℕ) (r : X) → slice_get (take n xs) i ≡ Some r → slice_get xs i ≡ Some r
get_take zero xs i r h = (let e : slice_get (take zero xs) i ≡ None = none_at xs i in let f : None ≡ Some r = sym e ∙ h in absurd cc)
  where
    none_at : {X : Type 0} (xs : List X) (i : ℕ) → slice_get (take zero xs) i ≡ None
    none_at [] i = refl
    none_at (x ∷ xs) i = refl
get_take (suc n) [] i r h = h
get_take (suc n) (x ∷ xs) zero r h = h
get_take (suc n) (x ∷ xs) (suc i) r h = get_take n xs i r h

get_drop : {X : Type 0} (n : ℕ) (xs : List X) (i : ℕ) (r : X) → slice_get (drop n xs) i ≡ Some r → slice_get xs (n + i) ≡ Some r
get_drop zero xs i r h = subst (λ z. slice_get xs z ≡ Some r) (let e : i ≡ 0 + i = omega arith in e) h
get_drop (suc n) [] i r h = cc
get_drop (suc n) (x ∷ xs) i r h = subst (λ z. slice_get (x ∷ xs) z ≡ Some r) (let e : suc (n + i) ≡ suc n + i = omega arith in e) (get_drop n xs i r h)

-- one more part, cut off from the processes that are left
module _ (queues : List Queue) (crew ps : List Standing) (left : ps ≡ take (length ps) crew) (f : ℕ) (le : f ≤ length ps) where
  slice_left : SliceOf crew f (drop f ps)
  slice_left i r h = get_take (length ps) crew (f + i) r (subst (λ z. slice_get z (f + i) ≡ Some r) left (get_drop f ps i r h))

  pub push_part : (end : ℕ) (p : Part) (parts : List Part) → p.first ≡ f → crew_of p ≡ crew → p.procs.items ≡ drop f ps → AreFresh queues f (length ps - f) p.seats.items → FreshRow queues crew (length ps) end parts → FreshRow queues crew f end (p ∷ parts)
  push_part end p parts first base procs fresh row =
      let n : length (procs_of p) ≡ length ps - f = many_running p.procs.items ∙ ap (λ (z : List Standing). length z) procs ∙ Rattle.std.proofs.Common.length-drop f ps in (
        first,
        base,
        subst (λ z. AreFresh queues f z p.seats.items) (sym n) fresh,
        subst (SliceOf crew f) (sym procs) slice_left,
        subst (λ z. FreshRow queues crew z end parts) (let e : length ps ≡ f + length (procs_of p) = omega (arith, n, le) in e) row,
      )

pub all_left : {X : Type 0} (P : X → Type 0) (xs : List X) (x : X) → All P (xs ++ x ∷ []) → All P xs
all_left P [] x h = All-nil P
all_left P (y ∷ ys) x h = All-cons P y ys (All-head P y (ys ++ x ∷ []) h) (all_left P ys x (All-tail P y (ys ++ x ∷ []) h))

pub all_last : {X : Type 0} (P : X → Type 0) (xs : List X) (x : X) → All P (xs ++ x ∷ []) → P x
all_last P [] x h = All-head P x [] h
all_last P (y ∷ ys) x h = all_last P ys x (All-tail P y (ys ++ x ∷ []) h)

-- the same of the processes themselves
pub left_length : {X : Type 0} (ps new : List X) (f : ℕ) → f ≤ length ps → new ≡ take f ps → length new ≡ f
left_length ps new f le e = ap (λ (z : List _). length z) e ∙ length-take-le f ps le

pub left_again : {X : Type 0} (crew ps new : List X) (f : ℕ) → ps ≡ take (length ps) crew → f ≤ length ps → new ≡ take f ps → new ≡ take (length new) crew
left_again crew ps new f left le e = e ∙ ap (λ z. take f z) left ∙ take-take f (length ps) crew le ∙ ap (λ z. take z crew) (sym (left_length ps new f le e))
