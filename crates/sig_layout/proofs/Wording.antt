-- The running summary says of a journal what the table of the policies asks, and a journal whose entries were allowed one by one
-- is lawful.
use Rattle.std.proofs.Common.{◌≡◌, ◌≢◌, ◌⊎◌, ℕ, ◌+◌, ◌-◌, ◌<◌, ◌≤◌, ltb, leb, subst, Bool, true, false, if◌then◌else◌, List, [], ◌∷◌, ◌++◌, sym, refl, ap, ◌∙◌, arith, append_assoc, append-nil, inl, inr, ⊎_elim}
use Rattle.std.specs.List.{All}
use Rattle.std.proofs.lemmas.Bool.{ltb-true, ltb-false, leb-true, leb-false}
use Rattle.std.proofs.lemmas.List.Elements.{All-append, All-nil, All-cons, All-head, All-tail}
use Rattle.sig_layout.specs.declared.entry.Entry.{Entry}
use Rattle.sig_layout.specs.declared.entry.Entry.TheVariants.{Direct, Fetch, Install, Remove}
use Rattle.sig_layout.specs.declared.summary.Summary.{Summary}
use Rattle.sig_layout.specs.declared.decision.Due.{Due}
use Rattle.sig_layout.specs.declared.decision.Due.TheVariants as due
use Rattle.sig_layout.specs.declared.policy.Policy.{Policy}
use Rattle.sig_layout.specs.declared.policy.Policy.TheVariants.{Never, Always, Churn, Auto}
use Rattle.sig_layout.specs.Summaries.{fresh, scored, run_on, after, summary, summed, due_of, due_at, Allowed, IsAllowed, May}
use Rattle.sig_layout.specs.Policies.{IsNoSwitch, IsDirect, IsLittle, direct_count, fetch_count, IsPeriod, whole, installed, removed, score_from, HasReached, HasIdled, InstallDue, RemoveDue, IsDue, RemovesNext, IsLawfulJournal}
use Rattle.sig_layout.proofs.Sending.{or_cases, or_neither}
use Rattle.sig_layout.proofs.Summing.{put_keeps, neither, summed_more}

abbrev Entries : Type 0
Entries = List Entry

abbrev tail_of : Entries → Entries
tail_of [] = []
tail_of (x ∷ xs) = xs

abbrev head_or : Entry → Entries → Entry
head_or d [] = d
head_or d (x ∷ xs) = x

all_front : (P : Entry → Type 0) (xs ys : Entries) → All P (xs ++ ys) → All P xs
all_front P [] ys h = All-nil P
all_front P (x ∷ xs) ys h = All-cons P x xs (All-head P x (xs ++ ys) h) (all_front P xs ys (All-tail P x (xs ++ ys) h))

all_rest : (P : Entry → Type 0) (xs ys : Entries) → All P (xs ++ ys) → All P ys
all_rest P [] ys h = h
all_rest P (x ∷ xs) ys h = all_rest P xs ys (All-tail P x (xs ++ ys) h)

all_more : (P : Entry → Type 0) (xs : Entries) (x : Entry) → All P xs → P x → All P (xs ++ x ∷ [])
all_more P xs x h k = All-append P xs (x ∷ []) h (All-cons P x [] k (All-nil P))

-- a list with one entry more, cut in two
pub record LaterCut (p front rest : Entries) (e : Entry) : Type 0 where
  pub middle : Entries
  pub is : p ≡ front ++ middle
  pub tail : rest ≡ middle ++ e ∷ []

cut : (p front rest : Entries) (e : Entry) → p ++ e ∷ [] ≡ front ++ rest
    → ((rest ≡ []) × (front ≡ p ++ e ∷ [])) ⊎ LaterCut p front rest e
cut p [] rest e h = inr record { middle = p; is = refl; tail = sym h }
cut [] (x ∷ []) [] e h = inl (refl, sym h)
cut [] (x ∷ []) (y ∷ ys) e h = let k : [] ≡ y ∷ ys = ap tail_of h in absurd cc
cut [] (x ∷ (z ∷ zs)) rest e h = let k : [] ≡ z ∷ (zs ++ rest) = ap tail_of h in absurd cc
cut (y ∷ p) (x ∷ front) rest e h = let same : y ≡ x = ap (head_or y) h in ⊎_elim
    (λ (t : (rest ≡ []) × (front ≡ p ++ e ∷ [])). inl (t.0, λ i. sym same i ∷ t.1 i))
    (λ (t : LaterCut p front rest e). inr record { middle = t.middle; is = λ i. same i ∷ t.is i; tail = t.tail })
    (cut p front rest e (ap tail_of h))

-- the period is one list, and installed or not
abbrev step : Bool × Entries → Entry → Bool × Entries
step s (Direct r) = (s.0, s.1 ++ Direct r ∷ [])
step s (Fetch m) = (s.0, s.1 ++ Fetch m ∷ [])
step s Install = (true, [])
step s Remove = (false, [])

abbrev walk : Bool × Entries → Entries → Bool × Entries
walk s [] = s
walk s (e ∷ es) = walk (step s e) es

walk-append : (s : Bool × Entries) (xs ys : Entries) → walk s (xs ++ ys) ≡ walk (walk s xs) ys
walk-append s [] ys = refl
walk-append s (x ∷ xs) ys = walk-append (step s x) xs ys

step_still : (b : Bool) (q : Entries) (e : Entry) → IsNoSwitch e → step (b, q) e ≡ (b, q ++ e ∷ [])
step_still b q (Direct r) h = refl
step_still b q (Fetch m) h = refl
step_still b q Install h = absurd h
step_still b q Remove h = absurd h

walk_still : (b : Bool) (q p : Entries) → All IsNoSwitch p → walk (b, q) p ≡ (b, q ++ p)
walk_still b q [] h = ap (λ (z : Entries). (b, z)) (sym (append-nil q))
walk_still b q (e ∷ es) h = ap (λ (s : Bool × Entries). walk s es) (step_still b q e (All-head IsNoSwitch e es h))
    ∙ (walk_still b (q ++ e ∷ []) es (All-tail IsNoSwitch e es h) ∙ ap (λ (z : Entries). (b, z)) (append_assoc q (e ∷ []) es))

period_is : (j : Entries) (b : Bool) (p : Entries) → IsPeriod j b p → walk (false, []) j ≡ (b, p)
period_is _ _ _ (whole p h) = walk_still false [] p h
period_is _ _ _ (installed before p h) = walk-append (false, []) before (Install ∷ p) ∙ walk_still true [] p h
period_is _ _ _ (removed before p h) = walk-append (false, []) before (Remove ∷ p) ∙ walk_still false [] p h

one_period : (j : Entries) (b c : Bool) (p q : Entries) → IsPeriod j b p → IsPeriod j c q → (b ≡ c) × (p ≡ q)
one_period j b c p q h k = let e : (b, p) ≡ (c, q) = sym (period_is j b p h) ∙ period_is j c q k in
    (ap (λ (z : Bool × Entries). z.0) e, ap (λ (z : Bool × Entries). z.1) e)

period_more : (j : Entries) (b : Bool) (p : Entries) (e : Entry) → IsNoSwitch e → IsPeriod j b p → IsPeriod (j ++ e ∷ []) b (p ++ e ∷ [])
period_more _ _ _ e s (whole p h) = whole (p ++ e ∷ []) (all_more IsNoSwitch p e h s)
period_more _ _ _ e s (installed before p h) = subst (λ (z : Entries). IsPeriod z true (p ++ e ∷ []))
    (sym (append_assoc before (Install ∷ p) (e ∷ []))) (installed before (p ++ e ∷ []) (all_more IsNoSwitch p e h s))
period_more _ _ _ e s (removed before p h) = subst (λ (z : Entries). IsPeriod z false (p ++ e ∷ []))
    (sym (append_assoc before (Remove ∷ p) (e ∷ []))) (removed before (p ++ e ∷ []) (all_more IsNoSwitch p e h s))

-- counts and the score of a list with more behind it
directs-append : (a b : Entries) → direct_count (a ++ b) ≡ direct_count a + direct_count b
directs-append [] b = omega arith
directs-append (Direct r ∷ es) b = let h = directs-append es b in omega arith
directs-append (Fetch m ∷ es) b = directs-append es b
directs-append (Install ∷ es) b = directs-append es b
directs-append (Remove ∷ es) b = directs-append es b

fetches-append : (a b : Entries) → fetch_count (a ++ b) ≡ fetch_count a + fetch_count b
fetches-append [] b = omega arith
fetches-append (Direct r ∷ es) b = fetches-append es b
fetches-append (Fetch m ∷ es) b = let h = fetches-append es b in omega arith
fetches-append (Install ∷ es) b = fetches-append es b
fetches-append (Remove ∷ es) b = fetches-append es b

score-append : (n : ℕ) (a b : Entries) → score_from n (a ++ b) ≡ score_from (score_from n a) b
score-append n [] b = refl
score-append n (Direct true ∷ es) b = score-append (n + 1) es b
score-append n (Direct false ∷ es) b = score-append (n - 1) es b
score-append n (Fetch m ∷ es) b = score-append n es b
score-append n (Install ∷ es) b = score-append n es b
score-append n (Remove ∷ es) b = score-append n es b

-- the end of a period in which all is little
pub record Row (p row : Entries) : Type 0 where
  pub front : Entries
  pub is : p ≡ front ++ row
  pub little : All IsLittle row

-- the greatest count of fetches in such an end
pub record RowIs (p : Entries) (n : ℕ) : Type 0 where
  pub row : Entries
  pub ends : Row p row
  pub count : fetch_count row ≡ n
  pub most : (r : Entries) → Row p r → fetch_count r ≤ n

-- what the summary says of the period
pub record Tells (j : Entries) (s : Summary) : Type 0 where
  pub p : Entries
  pub is : IsPeriod j s.installed p
  pub directs : s.directs ≡ direct_count p
  pub fetches : s.fetches ≡ fetch_count p
  pub score : s.score ≡ score_from 0 p
  pub reached : s.reached ≡ true → HasReached p
  pub unreached : s.reached ≡ false → HasReached p → ⊥
  pub row : RowIs p s.run
  pub idled : s.whole_run ≡ true → HasIdled p
  pub busy : s.whole_run ≡ false → HasIdled p → ⊥
  pub low : s.whole_run ≡ false → s.run < 16

module _ (p : Entries) (e : Entry) where
  abbrev More : Entries
  More = p ++ e ∷ []

  reached_more : HasReached p → HasReached More
  reached_more h = record {
    front = h.front;
    rest = h.rest ++ e ∷ [];
    is = ap (λ (z : Entries). z ++ e ∷ []) h.is ∙ append_assoc h.front h.rest (e ∷ []);
    score = h.score;
  }

  reached_now : 64 ≤ score_from 0 More → HasReached More
  reached_now k = record { front = More; rest = []; is = sym (append-nil More); score = k }

  unreached_more : (HasReached p → ⊥) → score_from 0 More < 64 → HasReached More → ⊥
  unreached_more never low h = ⊎_elim
      (λ (t : (h.rest ≡ []) × (h.front ≡ More)). let k = h.score in let a = ap (score_from 0) t.1 in absurd (omega arith))
      (λ (t : LaterCut p h.front h.rest e). never record { front = h.front; rest = t.middle; is = t.is; score = h.score })
      (cut p h.front h.rest e h.is)

  idled_more : HasIdled p → HasIdled More
  idled_more h = record {
    front = h.front;
    row = h.row;
    rest = h.rest ++ e ∷ [];
    is = ap (λ (z : Entries). z ++ e ∷ []) h.is ∙ (append_assoc h.front (h.row ++ h.rest) (e ∷ [])
        ∙ ap (λ (z : Entries). h.front ++ z) (append_assoc h.row h.rest (e ∷ [])));
    little = h.little;
    whole_run = h.whole_run;
  }

  busy_more : (HasIdled p → ⊥) → ((r : Entries) → Row More r → fetch_count r < 16) → HasIdled More → ⊥
  busy_more never few h = ⊎_elim
      (λ (t : (h.rest ≡ []) × (h.front ++ h.row ≡ More)). let k = few h.row record {
        front = h.front;
        is = sym t.1;
        little = h.little;
      } in let l = h.whole_run in absurd (omega arith))
      (λ (t : LaterCut p (h.front ++ h.row) h.rest e). never record {
        front = h.front;
        row = h.row;
        rest = t.middle;
        is = t.is ∙ append_assoc h.front h.row t.middle;
        little = h.little;
        whole_run = h.whole_run;
      })
      (cut p (h.front ++ h.row) h.rest e (h.is ∙ sym (append_assoc h.front h.row h.rest)))

  row_more : (r : Entries) → Row p r → IsLittle e → Row More (r ++ e ∷ [])
  row_more r h l = record {
    front = h.front;
    is = ap (λ (z : Entries). z ++ e ∷ []) h.is ∙ append_assoc h.front r (e ∷ []);
    little = all_more IsLittle r e h.little l;
  }

  -- a row at the end is none, or one before with this entry behind it
  row_cut : (r : Entries) → Row More r → (r ≡ []) ⊎ ((m : Entries) × (r ≡ m ++ e ∷ []) × Row p m × IsLittle e)
  row_cut r h = ⊎_elim
      (λ (t : (r ≡ []) × (h.front ≡ More)). inl t.0)
      (λ (t : LaterCut p h.front r e). let all = subst (All IsLittle) t.tail h.little in
      inr (
        t.middle,
        t.tail,
        record {
          front = h.front;
          is = t.is;
          little = all_front IsLittle t.middle (e ∷ []) all;
        },
        All-head IsLittle e [] (all_rest IsLittle t.middle (e ∷ []) all),
      ))
      (cut p h.front r e h.is)

idled_now : (p r : Entries) → Row p r → 16 ≤ fetch_count r → HasIdled p
idled_now p r h k = record {
  front = h.front;
  row = r;
  rest = [];
  is = h.is ∙ ap (λ (z : Entries). h.front ++ z) (sym (append-nil r));
  little = h.little;
  whole_run = k;
}

row_direct : (p : Entries) (n : ℕ) (b : Bool) → RowIs p n → RowIs (p ++ Direct b ∷ []) n
row_direct p n b h = record {
  row = h.row ++ Direct b ∷ [];
  ends = row_more p (Direct b) h.row h.ends tt;
  count = (let a = fetches-append h.row (Direct b ∷ []) in let k = h.count in omega arith);
  most = λ r w. ⊎_elim
      (λ (t : r ≡ []). let a = ap fetch_count t in omega arith)
      (λ (t : (m : Entries) × (r ≡ m ++ Direct b ∷ []) × Row p m × IsLittle (Direct b)). let a = ap fetch_count t.1 in
      let d = fetches-append t.0 (Direct b ∷ []) in let k = h.most t.0 t.2 in omega arith)
      (row_cut p (Direct b) r w);
}

row_fetch_by : (p : Entries) (n m : ℕ) (b : Bool) → ltb m 4 ≡ b → RowIs p n → RowIs (p ++ Fetch m ∷ []) (if b then n + 1 else 0)
row_fetch_by p n m true little h = record {
  row = h.row ++ Fetch m ∷ [];
  ends = row_more p (Fetch m) h.row h.ends (ltb-true m 4 little);
  count = (let a = fetches-append h.row (Fetch m ∷ []) in let k = h.count in omega arith);
  most = λ r w. ⊎_elim
      (λ (t : r ≡ []). let a = ap fetch_count t in omega arith)
      (λ (t : (x : Entries) × (r ≡ x ++ Fetch m ∷ []) × Row p x × IsLittle (Fetch m)). let a = ap fetch_count t.1 in
      let d = fetches-append t.0 (Fetch m ∷ []) in let k = h.most t.0 t.2 in omega arith)
      (row_cut p (Fetch m) r w);
}
row_fetch_by p n m false much h = record {
  row = [];
  ends = record { front = p ++ Fetch m ∷ []; is = sym (append-nil (p ++ Fetch m ∷ [])); little = All-nil IsLittle };
  count = refl;
  most = λ r w. ⊎_elim
      (λ (t : r ≡ []). let a = ap fetch_count t in omega arith)
      (λ (t : (x : Entries) × (r ≡ x ++ Fetch m ∷ []) × Row p x × IsLittle (Fetch m)). let a = ltb-false m 4 much in
      let l : m < 4 = t.3 in absurd (omega arith))
      (row_cut p (Fetch m) r w);
}

row_fetch : (p : Entries) (n m : ℕ) → RowIs p n → RowIs (p ++ Fetch m ∷ []) (run_on n m)
row_fetch p n m h = row_fetch_by p n m (ltb m 4) refl h

score_direct : (p : Entries) (n : ℕ) (r : Bool) → n ≡ score_from 0 p → scored n r ≡ score_from 0 (p ++ Direct r ∷ [])
score_direct p n true h = ap (λ (z : ℕ). z + 1) h ∙ sym (score-append 0 p (Direct true ∷ []))
score_direct p n false h = ap (λ (z : ℕ). z - 1) h ∙ sym (score-append 0 p (Direct false ∷ []))

unreached_fetch : (p : Entries) (m : ℕ) → (HasReached p → ⊥) → HasReached (p ++ Fetch m ∷ []) → ⊥
unreached_fetch p m never h = ⊎_elim
    (λ (t : (h.rest ≡ []) × (h.front ≡ p ++ Fetch m ∷ [])). let k = h.score in let a = ap (score_from 0) t.1 in
    let b = score-append 0 p (Fetch m ∷ []) in never record { front = p; rest = []; is = sym (append-nil p); score = omega arith })
    (λ (t : LaterCut p h.front h.rest (Fetch m)). never record { front = h.front; rest = t.middle; is = t.is; score = h.score })
    (cut p h.front h.rest (Fetch m) h.is)

none_reached : (front rest : Entries) → [] ≡ front ++ rest → 64 ≤ score_from 0 front → ⊥
none_reached [] rest e k = absurd (omega arith)
none_reached (x ∷ xs) rest e k = absurd cc

no_row : (front row : Entries) → [] ≡ front ++ row → fetch_count row ≡ 0
no_row [] [] e = refl
no_row [] (x ∷ xs) e = absurd cc
no_row (x ∷ xs) row e = absurd cc

none_idled : (front row rest : Entries) → [] ≡ front ++ (row ++ rest) → 16 ≤ fetch_count row → ⊥
none_idled [] [] rest e k = absurd (omega arith)
none_idled [] (x ∷ xs) rest e k = absurd cc
none_idled (x ∷ xs) row rest e k = absurd cc

tells_fresh : (j : Entries) (b : Bool) → IsPeriod j b [] → Tells j (fresh b)
tells_fresh j b h = record {
  p = [];
  is = h;
  directs = refl;
  fetches = refl;
  score = refl;
  reached = λ k. absurd cc;
  unreached = λ _ r. none_reached r.front r.rest r.is r.score;
  row = record {
    row = [];
    ends = record { front = []; is = refl; little = All-nil IsLittle };
    count = refl;
    most = λ r w. let k = no_row w.front r w.is in omega arith;
  };
  idled = λ k. absurd cc;
  busy = λ _ r. none_idled r.front r.row r.rest r.is r.whole_run;
  low = λ _. omega arith;
}

tells_direct : (j : Entries) (s : Summary) (r : Bool) → Tells j s → Tells (j ++ Direct r ∷ []) (after s (Direct r))
tells_direct j s r t = let score = score_direct t.p s.score r t.score in let row = row_direct t.p s.run r t.row in record {
  p = t.p ++ Direct r ∷ [];
  is = period_more j s.installed t.p (Direct r) tt t.is;
  directs = (let a = directs-append t.p (Direct r ∷ []) in let d = t.directs in omega arith);
  fetches = (let a = fetches-append t.p (Direct r ∷ []) in let d = t.fetches in omega arith);
  score = score;
  reached = λ h. ⊎_elim
      (λ (k : s.reached ≡ true). reached_more t.p (Direct r) (t.reached k))
      (λ (k : leb 64 (scored s.score r) ≡ true). let l = leb-true 64 (scored s.score r) k in
      reached_now t.p (Direct r) (omega arith)) (or_cases s.reached (leb 64 (scored s.score r)) h);
  unreached = λ h. let off = or_neither s.reached (leb 64 (scored s.score r)) h in let l = leb-false 64 (scored s.score r) off.1 in
      unreached_more t.p (Direct r) (t.unreached off.0) (omega arith);
  row = row;
  idled = λ h. idled_more t.p (Direct r) (t.idled h);
  busy = λ h. busy_more t.p (Direct r) (t.busy h) (λ x w. let k = row.most x w in let l = t.low h in omega arith);
  low = t.low;
}

tells_fetch : (j : Entries) (s : Summary) (m : ℕ) → Tells j s → Tells (j ++ Fetch m ∷ []) (after s (Fetch m))
tells_fetch j s m t = let row = row_fetch t.p s.run m t.row in let n : ℕ = run_on s.run m in record {
  p = t.p ++ Fetch m ∷ [];
  is = period_more j s.installed t.p (Fetch m) tt t.is;
  directs = (let a = directs-append t.p (Fetch m ∷ []) in let d = t.directs in omega arith);
  fetches = (let a = fetches-append t.p (Fetch m ∷ []) in let d = t.fetches in omega arith);
  score = t.score ∙ sym (score-append 0 t.p (Fetch m ∷ []));
  reached = λ h. reached_more t.p (Fetch m) (t.reached h);
  unreached = λ h r. unreached_fetch t.p m (t.unreached h) r;
  row = row;
  idled = λ h. ⊎_elim
      (λ (k : s.whole_run ≡ true). idled_more t.p (Fetch m) (t.idled k))
      (λ (k : leb 16 n ≡ true). let l = leb-true 16 n k in let c = row.count in
      idled_now (t.p ++ Fetch m ∷ []) row.row row.ends (omega arith)) (or_cases s.whole_run (leb 16 n) h);
  busy = λ h. let off = or_neither s.whole_run (leb 16 n) h in let l = leb-false 16 n off.1 in
      busy_more t.p (Fetch m) (t.busy off.0) (λ x w. let k = row.most x w in omega arith);
  low = λ h. let off = or_neither s.whole_run (leb 16 n) h in let l = leb-false 16 n off.1 in omega arith;
}

tells_after : (j : Entries) (s : Summary) (e : Entry) → Tells j s → Tells (j ++ e ∷ []) (after s e)
tells_after j s (Direct r) t = tells_direct j s r t
tells_after j s (Fetch m) t = tells_fetch j s m t
tells_after j s Install t = tells_fresh (j ++ Install ∷ []) true (installed j [] (All-nil IsNoSwitch))
tells_after j s Remove t = tells_fresh (j ++ Remove ∷ []) false (removed j [] (All-nil IsNoSwitch))

tells_from : (before : Entries) (s : Summary) (es : Entries) → Tells before s → Tells (before ++ es) (summary s es)
tells_from before s [] t = subst (λ (z : Entries). Tells z s) (sym (append-nil before)) t
tells_from before s (e ∷ es) t = subst (λ (z : Entries). Tells z (summary (after s e) es)) (append_assoc before (e ∷ []) es)
    (tells_from (before ++ e ∷ []) (after s e) es (tells_after before s e t))

pub tells : (j : List Entry) → Tells j (summed j)
tells j = tells_from [] (fresh false) j (tells_fresh [] false (whole [] (All-nil IsNoSwitch)))

-- the table, by the summary
module _ (j : Entries) (s : Summary) (t : Tells j s) where
  is_on : (b : Bool) → s.installed ≡ b → IsPeriod j b t.p
  is_on b h = subst (λ (z : Bool). IsPeriod j z t.p) h t.is

  not_off : (policy : Policy) → s.installed ≡ true → InstallDue policy j → ⊥
  not_off policy h d = let same = one_period j true false t.p d.0 (is_on true h) d.1 in let e : true ≡ false = same.0 in absurd cc

  not_on : (policy : Policy) → s.installed ≡ false → RemoveDue policy j → ⊥
  not_on policy h d = let same = one_period j false true t.p d.0 (is_on false h) d.1 in let e : false ≡ true = same.0 in absurd cc

  always_by : (b : Bool) → s.installed ≡ b → IsDue Always j (if b then due.Nothing else due.Install)
  always_by true h = (not_off Always h, λ d. d.2)
  always_by false h = (t.p, is_on false h, tt)

  churn_by : (n : ℕ) (b f d : Bool) → s.installed ≡ b → ltb s.fetches n ≡ f → ltb s.directs n ≡ d
      → IsDue (Churn n) j (if b then (if f then due.Nothing else due.Remove) else (if d then due.Nothing else due.Install))
  churn_by n true true d h f g = (
    not_off (Churn n) h,
    λ r. let e = ap fetch_count
        (one_period j true true t.p r.0 (is_on true h) r.1).1 in let l = ltb-true s.fetches n f in let k : n ≤ fetch_count r.0 = r.2 in
        let c = t.fetches in absurd (omega arith),
  )
  churn_by n true false d h f g = (t.p, is_on true h, (let l = ltb-false s.fetches n f in let c = t.fetches in omega arith))
  churn_by n false f true h k g = (
    (λ r. let e = ap direct_count (one_period j false false t.p r.0 (is_on false h) r.1).1 in
        let l = ltb-true s.directs n g in let k : n ≤ direct_count r.0 = r.2 in let c = t.directs in
        absurd (omega arith)),
    not_on (Churn n) h,
  )
  churn_by n false f false h k g = (t.p, is_on false h, (let l = ltb-false s.directs n g in let c = t.directs in omega arith))

  auto_by : (b f d : Bool) → s.installed ≡ b → s.whole_run ≡ f → s.reached ≡ d
      → IsDue Auto j (if b then (if f then due.Remove else due.Nothing) else (if d then due.Install else due.Nothing))
  auto_by true true d h f g = (t.p, is_on true h, t.idled f)
  auto_by true false d h f g = (
    not_off Auto h,
    λ r. t.busy f
        (subst HasIdled (sym (one_period j true true t.p r.0 (is_on true h) r.1).1) r.2),
  )
  auto_by false f true h k g = (t.p, is_on false h, t.reached g)
  auto_by false f false h k g = (
    (λ r. t.unreached g
        (subst HasReached (sym (one_period j false false t.p r.0 (is_on false h) r.1).1) r.2)),
    not_on Auto h,
  )

  due_by : (policy : Policy) → IsDue policy j (due_of policy s)
  due_by Never = ((λ d. d.2), (λ d. d.2))
  due_by Always = always_by s.installed refl
  due_by (Churn n) = churn_by n s.installed (ltb s.fetches n) (ltb s.directs n) refl refl refl
  due_by Auto = auto_by s.installed s.whole_run s.reached refl refl refl

pub due_table : (policy : Policy) (j : List Entry) → IsDue policy j (due_at policy j)
due_table policy j = due_by j (summed j) (tells j) policy

apart : (policy : Policy) (j : Entries) → InstallDue policy j → RemoveDue policy j → ⊥
apart policy j d e = let same = (one_period j false true d.0 e.0 d.1 e.1).0 in absurd cc

pub one_due : (policy : Policy) (j : List Entry) (d e : Due) → IsDue policy j d → IsDue policy j e → d ≡ e
one_due policy j due.Nothing due.Nothing h k = refl
one_due policy j due.Nothing due.Install h k = absurd (h.0 k)
one_due policy j due.Nothing due.Remove h k = absurd (h.1 k)
one_due policy j due.Install due.Nothing h k = absurd (k.0 h)
one_due policy j due.Install due.Install h k = refl
one_due policy j due.Install due.Remove h k = absurd (apart policy j h k)
one_due policy j due.Remove due.Nothing h k = absurd (k.1 h)
one_due policy j due.Remove due.Install h k = absurd (apart policy j k h)
one_due policy j due.Remove due.Remove h k = refl

pub is_due : (policy : Policy) (j : List Entry) (d : Due) → IsDue policy j d → due_at policy j ≡ d
is_due policy j d h = one_due policy j (due_at policy j) d (due_table policy j) h

pub due_so : (policy : Policy) (j : List Entry) (d : Due) → due_at policy j ≡ d → IsDue policy j d
due_so policy j d e = subst (IsDue policy j) e (due_table policy j)

-- the installed state, by the summary
pub period_of : (j : List Entry) → (p : List Entry) × IsPeriod j (summed j).installed p
period_of j = let t = tells j in (t.p, t.is)

-- what follows a part of a journal that is allowed
allowed_rest : (policy : Policy) (s : Summary) (front rest : Entries) → Allowed policy s (front ++ rest)
    → Allowed policy (summary s front) rest
allowed_rest policy s [] rest h = h
allowed_rest policy s (x ∷ xs) rest h = allowed_rest policy (after s x) xs rest h.1

installs_next : (policy : Policy) (s : Summary) (rest : Entries) → due_of policy s ≡ due.Install → Allowed policy s rest
    → (more : Entries) × (rest ≡ Install ∷ more)
installs_next policy s [] d h = absurd (h d)
installs_next policy s (Direct r ∷ es) d h = absurd (h.0 d)
installs_next policy s (Fetch m ∷ es) d h = let e : due.Install ≡ due.Nothing = sym d ∙ h.0 in absurd cc
installs_next policy s (Install ∷ es) d h = (es, refl)
installs_next policy s (Remove ∷ es) d h = let e : due.Install ≡ due.Remove = sym d ∙ h.0 in absurd cc

removes_next : (policy : Policy) (s : Summary) (rest : Entries) → due_of policy s ≡ due.Remove → Allowed policy s rest
    → RemovesNext rest
removes_next policy s [] d h = record { directs = []; rest = []; is = refl; direct = All-nil IsDirect; next = inl refl }
removes_next policy s (Direct r ∷ es) d h = let n = removes_next policy (after s (Direct r)) es (put_keeps policy s r d) h.1 in
    record {
      directs = Direct r ∷ n.directs;
      rest = n.rest;
      is = ap (λ (z : Entries). Direct r ∷ z) n.is;
      direct = All-cons IsDirect (Direct r) n.directs tt n.direct;
      next = n.next;
    }
removes_next policy s (Fetch m ∷ es) d h = let e : due.Remove ≡ due.Nothing = sym d ∙ h.0 in absurd cc
removes_next policy s (Install ∷ es) d h = let e : due.Remove ≡ due.Install = sym d ∙ h.0 in absurd cc
removes_next policy s (Remove ∷ es) d h = record {
  directs = [];
  rest = Remove ∷ es;
  is = refl;
  direct = All-nil IsDirect;
  next = inr (es, refl);
}

pub lawful_of : (policy : Policy) (j : List Entry) → IsAllowed policy j → IsLawfulJournal policy j
lawful_of policy j h = let behind : (front rest : Entries) → j ≡ front ++ rest
    → Allowed policy (summed front) rest = (λ front rest is. allowed_rest policy (fresh false) front rest
    (subst (IsAllowed policy) is h)) in record {
      installs = λ front rest is d. installs_next policy (summed front) rest (is_due policy front due.Install d)
          (behind front rest is);
      install_due = λ front rest is. due_so policy front due.Install (behind front (Install ∷ rest) is).0;
      removes = λ front rest is d. removes_next policy (summed front) rest (is_due policy front due.Remove d) (behind front rest is);
      remove_due = λ front rest is. due_so policy front due.Remove (behind front (Remove ∷ rest) is).0;
    }

-- a journal that is lawful was allowed, entry by entry
fetch_first : (m : ℕ) (es directs rest : Entries) → Fetch m ∷ es ≡ directs ++ rest → All IsDirect directs
    → (rest ≡ []) ⊎ ((more : Entries) × (rest ≡ Remove ∷ more)) → ⊥
fetch_first m es [] rest is all (inl e) = let k : Fetch m ∷ es ≡ [] = is ∙ e in absurd cc
fetch_first m es [] rest is all (inr t) = let k : Fetch m ≡ Remove = ap (head_or Install) (is ∙ t.1) in absurd cc
fetch_first m es (x ∷ xs) rest is all next = let same : Fetch m ≡ x = ap (head_or Install) is in
    absurd (subst IsDirect (sym same) (All-head IsDirect x xs all))

module _ (policy : Policy) (j : Entries) (law : IsLawfulJournal policy j) where
  not_install : (front rest : Entries) (e : Entry) → j ≡ front ++ e ∷ rest → (e ≡ Install → ⊥) → due_at policy front ≢ due.Install
  not_install front rest e is never d = let m = law.installs front (e ∷ rest) is (due_so policy front due.Install d) in
      never (ap (head_or Install) m.1)

  may_be : (front rest : Entries) (e : Entry) → j ≡ front ++ e ∷ rest → May policy (summed front) e
  may_be front rest (Direct r) is = not_install front rest (Direct r) is (λ e. absurd cc)
  may_be front rest (Fetch m) is = neither (due_at policy front) (not_install front rest (Fetch m) is (λ e. absurd cc))
      (λ d. let n = law.removes front (Fetch m ∷ rest) is (due_so policy front due.Remove d) in
      fetch_first m rest n.directs n.rest n.is n.direct n.next)
  may_be front rest Install is = is_due policy front due.Install (law.install_due front rest is)
  may_be front rest Remove is = is_due policy front due.Remove (law.remove_due front rest is)

  allowed_from : (front rest : Entries) → j ≡ front ++ rest → Allowed policy (summed front) rest
  allowed_from front [] is = λ d. let m = law.installs front [] is (due_so policy front due.Install d) in
      let k : [] ≡ Install ∷ m.0 = m.1 in absurd cc
  allowed_from front (e ∷ es) is = (
    may_be front es e is,
    subst (λ (s : Summary). Allowed policy s es) (summed_more front e)
        (allowed_from (front ++ e ∷ []) es (is ∙ sym (append_assoc front (e ∷ []) es))),
  )

pub allowed_of : (policy : Policy) (j : List Entry) → IsLawfulJournal policy j → IsAllowed policy j
allowed_of policy j law = allowed_from policy j law [] j refl
