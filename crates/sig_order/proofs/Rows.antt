-- The rows of counts, and with the counts of one event more.
use Rattle.std.proofs.Common.{◌≡◌, ◌≢◌, ℕ, ◌+◌, ◌-◌, ◌<◌, ◌≤◌, max, Bool, cond, List, [], ◌∷◌, ◌++◌, length, get_or, Option, Some, None, refl, sym, ap, subst, ◌∙◌, inl, inr, ◌⊎◌, arith}
use Rattle.std.specs.Prelude.{◌==◌, nat_lt, slice_set}
use Rattle.std.proofs.lemmas.Bool.{cases_eq, cases_lt, eq-eqb, ne_eqb, lt-ltb, le-ltb}
use Rattle.std.proofs.lemmas.List.{length-set, length_push, get_or-set_same, get_or-set_other, get_or_append_left, get_or_push, get_or_past}
use Rattle.sig_order.specs.declared.at.At.{At}
use Rattle.sig_order.specs.declared.counts.Rows.{Rows}
use Rattle.sig_order.specs.Counting.{no_rows, rows_of, counted_of, last_row, row_at, count_at, IsDone, last_of, IsLearned, with_event}
use Rattle.sig_order.proofs.Ats.{or_none}
use Rattle.sig_order.proofs.Right.{Counts, MoreCounts}

-- the count of an event, by the rows of its process
abbrev count_in : Rows → At → ℕ → ℕ
count_in r a q = cond (nat_lt (length r.known) a.event) 0 (cond (q == a.pid) a.event (get_or (row_at r a.event) q 0))

-- every event goes by a row that is there, and the last one by the last row
pub record IsWell (r : Rows) : Type 0 where
  pub last : get_or r.known (length r.known - 1) 0 ≡ length r.learned
  pub below : (k : ℕ) → k < length r.known → get_or r.known k 0 ≤ length r.learned

pub none_well : IsWell no_rows
none_well = record { last = refl; below = λ k h. absurd (omega (arith, h)) }

-- of no rows the last one is none, of others it is there
last_none : (learned : List (List ℕ)) (n : ℕ) → n ≡ 0 → last_row learned n ≡ []
last_none learned n z = ap (λ (b : Bool). cond b [] (get_or learned (n - 1) [])) (eq-eqb n 0 z)

last_some : (learned : List (List ℕ)) (n : ℕ) → n ≢ 0 → last_row learned n ≡ get_or learned (n - 1) []
last_some learned n h = ap (λ (b : Bool). cond b [] (get_or learned (n - 1) [])) (ne_eqb n 0 h)

-- a row more at the end changes none of those before
last_stays : (learned : List (List ℕ)) (row : List ℕ) (n : ℕ) → n ≤ length learned → last_row (learned ++ row ∷ []) n ≡ last_row learned n
last_stays learned row n h = by (cases_eq n 0)
  where
    by : (n ≡ 0) ⊎ (n ≡ 0 → ⊥) → last_row (learned ++ row ∷ []) n ≡ last_row learned n
    by (inl z) = last_none (learned ++ row ∷ []) n z ∙ sym (last_none learned n z)
    by (inr ne) =
        last_some (learned ++ row ∷ []) n ne ∙ get_or_append_left learned (row ∷ []) [] (n - 1) (omega (arith, h, ne)) ∙ sym (last_some learned n ne)

last_push : (learned : List (List ℕ)) (row : List ℕ) → last_row (learned ++ row ∷ []) (length (learned ++ row ∷ [])) ≡ row
last_push learned row =
    let many : length (learned ++ row ∷ []) ≡ length learned + 1 = length_push learned row in
    last_some (learned ++ row ∷ []) (length (learned ++ row ∷ [])) (λ z. omega (arith, z, many))
    ∙ get_or_push learned row [] (length (learned ++ row ∷ []) - 1) (omega (arith, many))

-- the rows of a process, with one event more
pub record IsMore (r now : Rows) : Type 0 where
  pub long : length now.known ≡ length r.known + 1
  pub stays : (event : ℕ) → 0 < event → event ≤ length r.known → row_at now event ≡ row_at r event
  pub newest : row_at now (length r.known + 1) ≡ last_row now.learned (length now.learned)
  pub well : IsWell now

module _ (r : Rows) (well : IsWell r) where
  module _ (learned : List (List ℕ)) (more : length r.learned ≤ length learned) (keeps : (n : ℕ) → n ≤ length r.learned → last_row learned n ≡ last_row r.learned n) where
    abbrev now : Rows
    now = record { learned = learned; known = r.known ++ length learned ∷ [] }

    long : length now.known ≡ length r.known + 1
    long = length_push r.known (length learned)

    at_old : (k : ℕ) → k < length r.known → get_or now.known k 0 ≡ get_or r.known k 0
    at_old k h = get_or_append_left r.known (length learned ∷ []) 0 k h

    at_new : (k : ℕ) → length r.known ≡ k → get_or now.known k 0 ≡ length learned
    at_new k h = get_or_push r.known (length learned) 0 k h

    below_now : (k : ℕ) → k < length now.known → get_or now.known k 0 ≤ length learned
    below_now k h = by (cases_lt k (length r.known))
      where
        by : (k < length r.known) ⊎ (length r.known ≤ k) → get_or now.known k 0 ≤ length learned
        by (inl l) = omega (arith, at_old k l, well.below k l, more)
        by (inr l) = omega (arith, at_new k (omega (arith, l, h, long)))

    is_more_with : IsMore r now
    is_more_with = record {
      long = long;
      stays = λ event h le.
          let place : event - 1 < length r.known = omega (arith, h, le) in
          ap (λ n. cond (event == 0) [] (last_row learned n)) (at_old (event - 1) place)
          ∙ ap (λ (xs : List ℕ). cond (event == 0) [] xs) (keeps (get_or r.known (event - 1) 0) (well.below (event - 1) place));
      newest =
          ap (λ (b : Bool). cond b [] (last_row learned (get_or now.known (length r.known + 1 - 1) 0))) (ne_eqb (length r.known + 1) 0 (λ z. omega (arith, z)))
          ∙ ap (λ n. last_row learned n) (at_new (length r.known + 1 - 1) (omega arith));
      well = record {
        last = at_new (length now.known - 1) (omega (arith, long));
        below = below_now;
      };
    }

  pub is_more : (row : Option (List ℕ)) → IsMore r (with_event r row)
  is_more None = is_more_with r.learned (omega arith) (λ n h. refl)
  is_more (Some row) = is_more_with (r.learned ++ row ∷ []) (omega (arith, length_push r.learned row)) (last_stays r.learned row)

  -- the last event goes by the last row
  row_last : row_at r (length r.known) ≡ last_row r.learned (length r.learned)
  row_last = by (cases_eq (length r.known) 0)
    where
      by : (length r.known ≡ 0) ⊎ (length r.known ≡ 0 → ⊥) → row_at r (length r.known) ≡ last_row r.learned (length r.learned)
      by (inl z) =
          let none : get_or r.known (length r.known - 1) 0 ≡ 0 = get_or_past r.known (length r.known - 1) 0 (omega (arith, z)) in
          ap (λ (b : Bool). cond b [] (last_row r.learned (get_or r.known (length r.known - 1) 0))) (eq-eqb (length r.known) 0 z)
          ∙ sym (last_none r.learned (length r.learned) (sym well.last ∙ none))
      by (inr n) =
          ap (λ (b : Bool). cond b [] (last_row r.learned (get_or r.known (length r.known - 1) 0))) (ne_eqb (length r.known) 0 n)
          ∙ ap (λ k. last_row r.learned k) well.last

-- the counts that an event has
module _ (r : Rows) (a : At) (q : ℕ) where
  pub counted : a.event ≤ length r.known → count_in r a q ≡ cond (q == a.pid) a.event (get_or (row_at r a.event) q 0)
  counted h = ap (λ (b : Bool). cond b 0 (cond (q == a.pid) a.event (get_or (row_at r a.event) q 0))) (le-ltb (length r.known) a.event h)

  pub uncounted : length r.known < a.event → count_in r a q ≡ 0
  uncounted h = ap (λ (b : Bool). cond b 0 (cond (q == a.pid) a.event (get_or (row_at r a.event) q 0))) (lt-ltb (length r.known) a.event h)

  pub counted_own : a.event ≤ length r.known → q ≡ a.pid → count_in r a q ≡ a.event
  counted_own h e = counted h ∙ ap (λ (b : Bool). cond b a.event (get_or (row_at r a.event) q 0)) (eq-eqb q a.pid e)

  pub counted_other : a.event ≤ length r.known → q ≢ a.pid → count_in r a q ≡ get_or (row_at r a.event) q 0
  counted_other h n = counted h ∙ ap (λ (b : Bool). cond b a.event (get_or (row_at r a.event) q 0)) (ne_eqb q a.pid n)

  -- the event 0 counts nothing
  pub none_counted : a.event ≡ 0 → count_in r a q ≡ 0
  none_counted z = by (cases_eq q a.pid)
    where
      le : a.event ≤ length r.known
      le = omega (arith, z)

      row : row_at r a.event ≡ []
      row = ap (λ (b : Bool). cond b [] (last_row r.learned (get_or r.known (a.event - 1) 0))) (eq-eqb a.event 0 z)

      by : (q ≡ a.pid) ⊎ (q ≡ a.pid → ⊥) → count_in r a q ≡ 0
      by (inl e) = counted_own le e ∙ z
      by (inr n) = counted_other le n ∙ ap (λ (xs : List ℕ). get_or xs q 0) row

  pub stays_with : (now : Rows) → IsMore r now → 0 < a.event → a.event ≤ length r.known → count_in now a q ≡ count_in r a q
  stays_with now more h le =
      ap (λ (b : Bool). cond b 0 (cond (q == a.pid) a.event (get_or (row_at now a.event) q 0))) (le-ltb (length now.known) a.event (omega (arith, le, more.long)))
      ∙ ap (λ (xs : List ℕ). cond (q == a.pid) a.event (get_or xs q 0)) (more.stays a.event h le)
      ∙ sym (counted le)

-- the counts that the rows tell
abbrev pub counts_of : List Rows → Counts
counts_of rows = record { many = counted_of rows; count = count_at rows }

-- an event that counts something has counts
pub counts_done : (rows : List Rows) (a : At) (q : ℕ) → 0 < count_at rows a q → IsDone rows a
counts_done rows a q h = by (cases_eq a.event 0) (cases_lt (counted_of rows a.pid) a.event)
  where
    by : (a.event ≡ 0) ⊎ (a.event ≡ 0 → ⊥) → (counted_of rows a.pid < a.event) ⊎ (a.event ≤ counted_of rows a.pid) → IsDone rows a
    by (inl z) c = absurd (omega (arith, h, none_counted (rows_of rows a.pid) a q z))
    by (inr n) (inl past) = absurd (omega (arith, h, uncounted (rows_of rows a.pid) a q past))
    by (inr n) (inr within) = (omega (arith, n), within)

-- the rows with the counts of the event a
module _ (rows : List Rows) (a : At) (source : Option At) (row : Option (List ℕ)) (lt : a.pid < length rows) where
  abbrev r : Rows
  r = rows_of rows a.pid

  abbrev pub after : List Rows
  after = slice_set rows a.pid (with_event r row)

  pub after_many : length after ≡ length rows
  after_many = length-set rows a.pid (with_event r row)

  after_same : rows_of after a.pid ≡ with_event r row
  after_same = get_or-set_same rows a.pid (with_event r row) no_rows lt

  pub after_other : (q : ℕ) → q ≢ a.pid → rows_of after q ≡ rows_of rows q
  after_other q n = get_or-set_other rows a.pid q (with_event r row) no_rows n

  module _ (wells : (pid : ℕ) → IsWell (rows_of rows pid)) where
    more : IsMore r (with_event r row)
    more = is_more r (wells a.pid) row

    pub after_counted : counted_of after a.pid ≡ counted_of rows a.pid + 1
    after_counted = ap (λ (z : Rows). length z.known) after_same ∙ more.long

    pub after_wells : (pid : ℕ) → IsWell (rows_of after pid)
    after_wells pid = by (cases_eq pid a.pid)
      where
        by : (pid ≡ a.pid) ⊎ (pid ≡ a.pid → ⊥) → IsWell (rows_of after pid)
        by (inl e) = subst (λ p. IsWell (rows_of after p)) (sym e) (subst IsWell (sym after_same) more.well)
        by (inr n) = subst IsWell (sym (after_other pid n)) (wells pid)

    stays : (f : At) (q : ℕ) → IsDone rows f → count_at after f q ≡ count_at rows f q
    stays f q d = by (cases_eq f.pid a.pid)
      where
        by : (f.pid ≡ a.pid) ⊎ (f.pid ≡ a.pid → ⊥) → count_at after f q ≡ count_at rows f q
        by (inl e) =
            let there : f.event ≤ length r.known = subst (λ p. f.event ≤ counted_of rows p) e d.1 in
            ap (λ p. count_in (rows_of after p) f q) e ∙ ap (λ (z : Rows). count_in z f q) after_same
            ∙ stays_with r f q (with_event r row) more d.0 there
            ∙ ap (λ p. count_in (rows_of rows p) f q) (sym e)
        by (inr n) = ap (λ (z : Rows). count_in z f q) (after_other f.pid n)

    module _ (next : a.event ≡ counted_of rows a.pid + 1) (most : (f : At) (q : ℕ) → count_at rows f q ≤ counted_of rows q) (learned : IsLearned rows a source row) where
      there_now : a.event ≤ length (with_event r row).known
      there_now = omega (arith, next, more.long)

      own : count_at after a a.pid ≡ a.event
      own = ap (λ (z : Rows). count_in z a a.pid) after_same ∙ counted_own (with_event r row) a a.pid there_now refl

      -- of another process, by the last row
      by_last : (q : ℕ) → q ≢ a.pid → count_at after a q ≡ get_or (last_row (with_event r row).learned (length (with_event r row).learned)) q 0
      by_last q n =
          ap (λ (z : Rows). count_in z a q) after_same ∙ counted_other (with_event r row) a q there_now n
          ∙ ap (λ k. get_or (row_at (with_event r row) k) q 0) next ∙ ap (λ (xs : List ℕ). get_or xs q 0) more.newest

      -- which is the one of the event before it
      as_before : (q : ℕ) → q ≢ a.pid → get_or (last_row r.learned (length r.learned)) q 0 ≡ count_at rows (last_of a) q
      as_before q n =
          let before : a.event - 1 ≡ length r.known = omega (arith, next) in
          ap (λ (xs : List ℕ). get_or xs q 0) (sym (row_last r (wells a.pid))) ∙ ap (λ k. get_or (row_at r k) q 0) (sym before)
          ∙ sym (counted_other r (last_of a) q (omega (arith, before)) n)

      newest_by : (s : Option At) (o : Option (List ℕ)) → IsLearned rows a s o → (q : ℕ) → q ≢ a.pid
          → get_or (last_row (with_event r o).learned (length (with_event r o).learned)) q 0 ≡ max (count_at rows (last_of a) q) (count_at rows (or_none a.pid s) q)
      newest_by None None h q n =
          let nobody : At = or_none a.pid None in
          let none : count_at rows nobody q ≡ 0 = none_counted (rows_of rows a.pid) nobody q refl in
          as_before q n ∙ (let e : count_at rows (last_of a) q ≡ max (count_at rows (last_of a) q) (count_at rows nobody q) = omega (arith, none) in e)
      newest_by None (Some new) h q n = absurd h
      newest_by (Some sender) None h q n = absurd h
      newest_by (Some sender) (Some new) h q n = ap (λ (xs : List ℕ). get_or xs q 0) (last_push r.learned new) ∙ by (cases_lt q (length rows))
        where
          by : (q < length rows) ⊎ (length rows ≤ q) → get_or new q 0 ≡ max (count_at rows (last_of a) q) (count_at rows sender q)
          by (inl within) = h.counts q within
          by (inr past) =
              let none : get_or new q 0 ≡ 0 = get_or_past new q 0 (omega (arith, past, h.many)) in
              let few : counted_of rows q ≡ 0 = ap (λ (z : Rows). length z.known) (get_or_past rows q no_rows past) in
              omega (arith, none, few, most (last_of a) q, most sender q)

      pub more_counts : MoreCounts (counts_of rows) (counts_of after) a (or_none a.pid source)
      more_counts = record {
        here = after_counted;
        others = λ q n. ap (λ (z : Rows). length z.known) (after_other q n);
        stays = stays;
        own = own;
        newest = λ q n. by_last q n ∙ newest_by source row learned q n;
      }
