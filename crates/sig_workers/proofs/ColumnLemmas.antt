-- The numbers of the next signals, row by row.
use Rattle.std.proofs.Common.{◌≡◌, ◌≢◌, ℕ, suc, ◌+◌, ◌-◌, ◌<◌, ◌≤◌, List, [], ◌∷◌, ◌++◌, length, replicate, take, get_or, set, refl, sym, ap, ◌∙◌, subst, min, arith, inl, inr, ⊎_elim, append_assoc, append-nil, length-append, length-set}
use Rattle.std.specs.Prelude.{slice_index}
use Rattle.std.proofs.lemmas.Bool.{cases_lt}
use Rattle.std.proofs.Math.Nat.{min-eq_left, min-eq_right}
use Rattle.std.proofs.lemmas.Bool.Decides.{eqb_tells}
use Rattle.std.proofs.lemmas.List.{length-replicate, replicate_more, take_more, take_all, get_or-set_same, get_or-set_other, get_or-replicate, get_or_default}
use Rattle.sig_model.specs.Running.{Running}
use Rattle.sig_process.specs.Standing.{Standing, runnings_of}
use Rattle.sig_process.specs.SentTo.{AreFirstOutside}
use Rattle.sig_workers.specs.Opening.{numbers_to, AreNumbered}
use Rattle.sig_workers.specs.Columns.{padded, HasNext, IsColumn}
use Rattle.sig_workers.proofs.PartLemmas.{many_running, running_at}

abbrev ones : ℕ → List ℕ
ones k = replicate k 1

ones_more : (k : ℕ) → ones k ++ 1 ∷ [] ≡ ones (k + 1)
ones_more k = replicate_more k 1

ones_length : (k : ℕ) → length (ones k) ≡ k
ones_length k = length-replicate k 1

abbrev empties : ℕ → List (List ℕ)
empties k = replicate k []

padded_length : (n : ℕ) (xs : List ℕ) → length xs ≤ n → length (padded n xs) ≡ n
padded_length n xs le =
    (let l : length (padded n xs) ≡ length xs + length (ones (n - length xs)) = length-append xs (ones (n - length xs)) in
    let k : length (ones (n - length xs)) ≡ n - length xs = ones_length (n - length xs) in
    omega (arith, l, k, le))

-- a one that is left out
pub left_one : (at n : ℕ) (xs : List ℕ) → length xs ≤ at → n ≡ 1 → HasNext at n xs xs
left_one at n xs le one = record {
  short = omega (arith, le);
  is = (let e : at + 1 - length xs ≡ (at - length xs) + 1 = omega (arith, le) in
      ap (λ (k : ℕ). xs ++ ones k) e ∙ ap (λ (z : List ℕ). xs ++ z) (sym (ones_more (at - length xs)))
      ∙ sym (append_assoc xs (ones (at - length xs)) (1 ∷ [])) ∙ ap (λ (z : ℕ). padded at xs ++ z ∷ []) (sym one));
}

-- and a number that is put
pub put_next : (at n : ℕ) (old new : List ℕ) → length old ≤ at → new ≡ padded at old ++ n ∷ [] → HasNext at n old new
put_next at n old new le e =
    (let long : length new ≡ at + 1 = ap (λ (z : List ℕ). length z) e ∙ length-append (padded at old) (n ∷ []) ∙ ap (λ (z : ℕ). z + 1) (padded_length at old le) in
    let none : at + 1 - length new ≡ 0 = omega (arith, long) in
    record { short = omega (arith, long); is = ap (λ (k : ℕ). new ++ ones k) none ∙ append-nil new ∙ e })

-- outside of the pids to which the process has sent
pub outside : (low high p : ℕ) (xs : List ℕ) → AreFirstOutside low high xs → 1 ≤ slice_index xs p → p < low → slice_index xs p ≡ 1
outside low high p xs f one lt = omega (arith, f.below p lt, one)

pub outside_behind : (low high p : ℕ) (xs : List ℕ) → AreFirstOutside low high xs → 1 ≤ slice_index xs p → high ≤ p → slice_index xs p ≡ 1
outside_behind low high p xs f one le = omega (arith, f.behind p le, one)

-- the lists below this place have their next number, and the others are as they were
pub record Added (at : ℕ) (numbers : List ℕ) (start : List (List ℕ)) (to : ℕ) (now : List (List ℕ)) : Type 0 where
  pub many : length now ≡ length start
  pub done : (p : ℕ) → p < to → p < length start → HasNext at (slice_index numbers p) (get_or start p []) (get_or now p [])
  pub rest : (p : ℕ) → to ≤ p → get_or now p [] ≡ get_or start p []

module _ (at : ℕ) (numbers : List ℕ) (start : List (List ℕ)) (short : (p : ℕ) → p < length start → length (get_or start p []) ≤ at) where
  pub none_added : (low high : ℕ) → AreFirstOutside low high numbers → ((p : ℕ) → p < length start → 1 ≤ slice_index numbers p) → Added at numbers start low start
  none_added low high f one = record {
    many = refl;
    done = λ p lt in_all. left_one at (slice_index numbers p) (get_or start p []) (short p in_all) (outside low high p numbers f (one p in_all) lt);
    rest = λ p le. refl;
  }

  pub added_one : (to : ℕ) (now : List (List ℕ)) → Added at numbers start to now → slice_index numbers to ≡ 1 → Added at numbers start (to + 1) now
  added_one to now a one = record {
    many = a.many;
    done = λ p lt in_all. elim (eqb_tells to p) [
      | inl e ↦ (let same : get_or now p [] ≡ get_or start p [] = a.rest p (omega (arith, e.1)) in
          subst (HasNext at (slice_index numbers p) (get_or start p [])) (sym same)
          (left_one at (slice_index numbers p) (get_or start p []) (short p in_all) (ap (slice_index numbers) (sym e.1) ∙ one)))
      | inr e ↦ (let ne : to ≢ p = e.1 in a.done p (omega (arith, ne, lt)) in_all)
    ];
    rest = λ p le. a.rest p (omega (arith, le));
  }

  pub added_number : (to : ℕ) (now : List (List ℕ)) (old new : List ℕ) → to < length start → Added at numbers start to now → old ≡ get_or now to old
      → new ≡ padded at old ++ slice_index numbers to ∷ [] → Added at numbers start (to + 1) (set now to new)
  added_number to now old new within a here is =
      (let low : to < length now = omega (arith, within, a.many) in
      let there : old ≡ get_or start to [] = here ∙ get_or_default now to old [] low ∙ a.rest to (omega arith) in
      record {
        many = length-set now to new ∙ a.many;
        done = λ p lt in_all. elim (eqb_tells to p) [
          | inl e ↦ subst (λ (q : ℕ). HasNext at (slice_index numbers q) (get_or start q []) (get_or (set now to new) q [])) e.1
              (subst (HasNext at (slice_index numbers to) (get_or start to [])) (sym (get_or-set_same now to new [] low))
              (put_next at (slice_index numbers to) (get_or start to []) new (short to within) (is ∙ ap (λ (z : List ℕ). padded at z ++ slice_index numbers to ∷ []) there)))
          | inr e ↦ (let ne : to ≢ p = e.1 in
              subst (HasNext at (slice_index numbers p) (get_or start p [])) (sym (get_or-set_other now to p new [] (λ q. ne (sym q)))) (a.done p (omega (arith, ne, lt)) in_all))
        ];
        rest = λ p le. get_or-set_other now to p new [] (λ q. (let f : ⊥ = omega (arith, q, le) in f)) ∙ a.rest p (omega (arith, le));
      })

  pub all_added : (low high to : ℕ) (now : List (List ℕ)) → AreFirstOutside low high numbers → ((p : ℕ) → p < length start → 1 ≤ slice_index numbers p)
      → Added at numbers start to now → ((p : ℕ) → to ≤ p → p < length start → high ≤ p)
      → (p : ℕ) → p < length start → HasNext at (slice_index numbers p) (get_or start p []) (get_or now p [])
  all_added low high to now f one a end p in_all = ⊎_elim
      (λ (lt : p < to). a.done p lt in_all)
      (λ (ge : to ≤ p). subst (HasNext at (slice_index numbers p) (get_or start p [])) (sym (a.rest p ge))
      (left_one at (slice_index numbers p) (get_or start p []) (short p in_all) (outside_behind low high p numbers f (one p in_all) (end p ge in_all))))
      (cases_lt p to)

-- behind the last of the lists at which it was looked
pub behind_all : (high len end to p : ℕ) → end ≡ min high len → end ≤ to → to ≤ p → p < len → high ≤ p
behind_all high len end to p e a b c = ⊎_elim
    (λ (lt : len < high). (let m : min high len ≡ len = min-eq_right (omega (arith, lt)) in absurd (let f : ⊥ = omega (arith, m, e, a, b, c) in f)))
    (λ (ge : high ≤ len). (let m : min high len ≡ high = min-eq_left ge in omega (arith, m, e, a, b)))
    (cases_lt len high)

-- one process more
pub numbers_more : (procs : List Standing) (at p : ℕ) (r : Standing) → at < length procs → r ≡ get_or procs at r
    → numbers_to p (runnings_of (take (at + 1) procs)) ≡ numbers_to p (runnings_of (take at procs)) ++ slice_index r.running.state.counts.next_numbers p ∷ []
numbers_more procs at p r lt is =
    ap (λ (z : List Standing). numbers_to p (runnings_of z)) (take_more procs at r lt ∙ ap (λ (z : Standing). take at procs ++ z ∷ []) (sym is))
    ∙ pushed (take at procs)
  where
    pushed : (xs : List Standing) → numbers_to p (runnings_of (xs ++ r ∷ [])) ≡ numbers_to p (runnings_of xs) ++ slice_index r.running.state.counts.next_numbers p ∷ []
    pushed [] = refl
    pushed (x ∷ xs) = ap (λ (z : List ℕ). slice_index x.running.state.counts.next_numbers p ∷ z) (pushed xs)

pub column_more : (procs : List Standing) (at p : ℕ) (r : Standing) (old new : List ℕ) → at < length procs → r ≡ get_or procs at r
    → IsColumn at p (runnings_of (take at procs)) old → HasNext at (slice_index r.running.state.counts.next_numbers p) old new
    → IsColumn (at + 1) p (runnings_of (take (at + 1) procs)) new
column_more procs at p r old new lt is c h = record {
  short = h.short;
  is = h.is ∙ ap (λ (z : List ℕ). z ++ slice_index r.running.state.counts.next_numbers p ∷ []) c.is ∙ sym (numbers_more procs at p r lt is);
}

-- behind the last process
pub whole_column : (procs : List Standing) (at p : ℕ) (xs : List ℕ) → at ≡ length procs → IsColumn at p (runnings_of (take at procs)) xs → IsColumn (length procs) p (runnings_of procs) xs
whole_column procs at p xs e c =
    (let all : take at procs ≡ procs = take_all at procs (omega (arith, e)) in
    subst (λ (n : ℕ). IsColumn n p (runnings_of procs) xs) e (subst (λ (z : List Standing). IsColumn at p (runnings_of z) xs) all c))

-- before the first process
empty_column : (n p : ℕ) → p < n → IsColumn 0 p [] (get_or (empties n) p [])
empty_column n p lt = (let e : get_or (empties n) p [] ≡ [] = get_or-replicate n p [] [] lt in
    subst (IsColumn 0 p []) (sym e) (record { short = omega arith; is = refl }))

pub empty_columns : (n : ℕ) (columns : List (List ℕ)) → columns ≡ replicate n [] → (length columns ≡ n) × ((p : ℕ) → p < n → IsColumn 0 p [] (get_or columns p []))
empty_columns n columns e =
    (ap (λ (z : List (List ℕ)). length z) e ∙ length-replicate n [], λ p lt. subst (λ (z : List (List ℕ)). IsColumn 0 p [] (get_or z p [])) (sym e) (empty_column n p lt))

-- the process at this place numbers its signals from 1 on
pub row_numbered : (procs : List Standing) (at n : ℕ) (r : Standing) → at < length procs → r ≡ get_or procs at r → AreNumbered (runnings_of procs) → n ≡ length procs
    → (p : ℕ) → p < n → 1 ≤ slice_index r.running.state.counts.next_numbers p
row_numbered procs at n r lt is numbered many p in_all =
    (numbered p at r.running (running_at procs at r lt is) (let e = many_running procs in omega (arith, in_all, many, e))).0

-- the lists that are left
module _ (n at : ℕ) (crew : List Running) (columns rest : List (List ℕ)) (x : List ℕ) (is : columns ≡ x ∷ rest)
    (all : (k : ℕ) → at + k < n → IsColumn n (at + k) crew (get_or columns k [])) where
  pub first_column : at < n → IsColumn n at crew x
  first_column lt =
      (let e : at + 0 ≡ at = omega arith in
      subst (λ (p : ℕ). IsColumn n p crew x) e (subst (λ (z : List (List ℕ)). IsColumn n (at + 0) crew (get_or z 0 [])) is (all 0 (omega (arith, lt)))))

  pub rest_columns : (k : ℕ) → at + 1 + k < n → IsColumn n (at + 1 + k) crew (get_or rest k [])
  rest_columns k lt =
      (let e : at + suc k ≡ at + 1 + k = omega arith in
      subst (λ (p : ℕ). IsColumn n p crew (get_or rest k [])) e
      (subst (λ (z : List (List ℕ)). IsColumn n (at + suc k) crew (get_or z (suc k) [])) is (all (suc k) (omega (arith, lt)))))

pub column_numbers : (n p : ℕ) (crew : List Running) (xs new : List ℕ) → IsColumn n p crew xs → new ≡ padded n xs → new ≡ numbers_to p crew
column_numbers n p crew xs new c e = e ∙ c.is
