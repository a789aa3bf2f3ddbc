-- The loop over the merged events: those so far have their counts, and at the end all have.
use Rattle.std.proofs.Common.{◌≡◌, ◌≢◌, ℕ, zero, suc, ◌+◌, ◌-◌, ◌<◌, ◌≤◌, true, false, List, [], ◌∷◌, length, get_or, replicate, IfSome, Option, Some, None, is_some, refl, sym, ap, subst, ◌∙◌, inl, inr, ◌⊎◌, arith}
use Rattle.std.specs.Prelude.{slice_get, option_and_then}
use Rattle.std.specs.Option.{option_map_or}
use Rattle.std.proofs.lemmas.Bool.{cases_eq, cases_lt, cases_order, false≢true}
use Rattle.std.proofs.lemmas.List.{get_or-replicate, length-replicate, get_or_past, get_or_default}
use Rattle.std.proofs.lemmas.Option.{slice_get_within}
use Rattle.sig_model.specs.declared.event.Event.{Event}
use Rattle.sig_model.specs.declared.origin.Origin.{Origin}
use Rattle.sig_record.specs.declared.report.Report.{Report}
use Rattle.sig_record.specs.declared.merging.MergedAt.{MergedAt}
use Rattle.sig_record.specs.Merging.{IsMerged, event_at, events_in, stamp_at}
use Rattle.sig_order.specs.declared.at.At.{At}
use Rattle.sig_order.specs.declared.counts.Rows.{Rows}
use Rattle.sig_order.specs.declared.senders.SignalKey.{SignalKey}
use Rattle.sig_order.specs.Senders.{IsIndex, sender_of}
use Rattle.sig_order.specs.Happening.{is_there, stamp_of, handled_by, handled_at, HappenedBefore, IsTraced}
use Rattle.sig_order.specs.Counting.{no_rows, rows_of, counted_of, count_at, IsDone, IsLearned, AddsCounts, IsCounted}
use Rattle.sig_order.proofs.Ats.{or_none, at_of, event_of-at, from_one, place_of, event_of-place}
use Rattle.sig_order.proofs.Chains.{before_rises}
use Rattle.sig_order.proofs.Right.{IsRight, right_more, before_counts, at_most}
use Rattle.sig_order.proofs.Rows.{IsWell, none_well, counts_of, counts_done, after, after_many, after_counted, after_other, after_wells, more_counts}
use Rattle.sig_order.proofs.Merged.{listed, is_listed, lower_first, apart}
use Rattle.sig_order.proofs.Index.{sender_known, sender_says}

-- an earlier event of a process is there where a later one is
there_earlier : {X : Type 0} (xs : List X) (i j : ℕ) → i ≤ j → is_some (slice_get xs j) ≡ true → is_some (slice_get xs i) ≡ true
there_earlier [] i j h e = e
there_earlier (x ∷ xs) zero j h e = refl
there_earlier (x ∷ xs) (suc i) zero h e = absurd (omega (arith, h))
there_earlier (x ∷ xs) (suc i) (suc j) h e = there_earlier xs i j (omega (arith, h)) e

module _ (reports : List Report) (origins : List Origin) (order : List MergedAt) where
  abbrev rows_for : List Rows → MergedAt → ℕ
  rows_for rows m = counted_of rows m.pid.0

  -- the first i of the merged events have their counts, and no others
  pub record IsReached (i : ℕ) (rows : List Rows) : Type 0 where
    pub many : length rows ≡ length reports
    pub seen : (k : ℕ) (d : MergedAt) → k < i → k < length order → (get_or order k d).place < rows_for rows (get_or order k d)
    pub unseen : (k : ℕ) (d : MergedAt) → i ≤ k → k < length order → rows_for rows (get_or order k d) ≤ (get_or order k d).place
    pub wells : (pid : ℕ) → IsWell (rows_of rows pid)
    pub right : IsRight reports origins (counts_of rows)

  -- before the first event
  pub reached_none : IsReached 0 (replicate (length reports) no_rows)
  reached_none = record {
    many = length-replicate (length reports) no_rows;
    seen = λ k d h lt. absurd (omega (arith, h));
    unseen = λ k d h lt. omega (arith, none (get_or order k d).pid.0);
    wells = λ pid. subst IsWell (sym (no_row pid)) none_well;
    right = record {
      only = counts_done (replicate (length reports) no_rows);
      known = λ f d. absurd (none_done f d);
      within = λ f q d. absurd (none_done f d);
      own = λ f d. absurd (none_done f d);
      sound = λ e f d. absurd (none_done f d);
      grows = λ g f d. absurd (none_done f d);
    };
  }
    where
      no_row : (pid : ℕ) → rows_of (replicate (length reports) no_rows) pid ≡ no_rows
      no_row pid = by (cases_lt pid (length reports))
        where
          by : (pid < length reports) ⊎ (length reports ≤ pid) → rows_of (replicate (length reports) no_rows) pid ≡ no_rows
          by (inl lt) = get_or-replicate (length reports) pid no_rows no_rows lt
          by (inr past) = get_or_past (replicate (length reports) no_rows) pid no_rows (omega (arith, past, length-replicate {A = Rows} (length reports) no_rows))

      none : (pid : ℕ) → counted_of (replicate (length reports) no_rows) pid ≡ 0
      none pid = ap (λ (r : Rows). length r.known) (no_row pid)

      none_done : (f : At) → IsDone (replicate (length reports) no_rows) f → ⊥
      none_done f d = omega (arith, d.0, d.1, none f.pid)

  module _ (traced : IsTraced reports origins) (merged : IsMerged reports order) where
    -- later events of a process have higher stamps
    stamps_go : (pid n i j : ℕ) → i + 1 + n ≡ j → 0 < i → is_there reports (record { pid = pid; event = j }) ≡ true → stamp_of reports (record { pid = pid; event = i }) < stamp_of reports (record { pid = pid; event = j })
    stamps_go pid zero i j e h there =
        traced.rises (record { pid = pid; event = i }) (record { pid = pid; event = j })
        (record { first = lower pid i j h (omega (arith, e)) there; second = there; leads = inl (refl, let f : j ≡ i + 1 = omega (arith, e) in f) })
      where
        lower : (pid i j : ℕ) → 0 < i → i ≤ j → is_there reports (record { pid = pid; event = j }) ≡ true → is_there reports (record { pid = pid; event = i }) ≡ true
        lower pid i j h le there =
            ap is_some (event_of-place reports (record { pid = pid; event = i }) h)
            ∙ there_earlier (events_in (slice_get reports pid)) (i - 1) (j - 1) (omega (arith, le)) (sym (ap is_some (event_of-place reports (record { pid = pid; event = j }) (omega (arith, h, le)))) ∙ there)
    stamps_go pid (suc n) i j e h there =
        let k : ℕ = i + 1 + n in
        let k_there : is_there reports (record { pid = pid; event = k }) ≡ true =
        ap is_some (event_of-place reports (record { pid = pid; event = k }) (omega arith))
        ∙ there_earlier (events_in (slice_get reports pid)) (k - 1) (j - 1) (omega (arith, e)) (sym (ap is_some (event_of-place reports (record { pid = pid; event = j }) (omega (arith, e)))) ∙ there) in
        let first : stamp_of reports (record { pid = pid; event = i }) < stamp_of reports (record { pid = pid; event = k }) = stamps_go pid n i k refl h k_there in
        let second : stamp_of reports (record { pid = pid; event = k }) < stamp_of reports (record { pid = pid; event = j }) =
        traced.rises (record { pid = pid; event = k }) (record { pid = pid; event = j }) (record { first = k_there; second = there; leads = inl (refl, let f : j ≡ k + 1 = omega (arith, e) in f) }) in
        omega (arith, first, second)

    -- the stamp of an event at a place
    stamp_place : (m : MergedAt) → stamp_of reports (at_of m) ≡ stamp_at reports m
    stamp_place m = ap (λ (o : Option Event). option_map_or (λ (e : Event). e.stamp) o 0) (event_of-at reports m)

    there_place : (m : MergedAt) → is_there reports (at_of m) ≡ is_some (event_at reports m)
    there_place m = ap is_some (event_of-at reports m)

    module _ (i : ℕ) (rows : List Rows) (reached : IsReached i rows) (lt : i < length order) (d : MergedAt) where
      abbrev at : ℕ → MergedAt
      at k = get_or order k d

      abbrev now : MergedAt
      now = at i

      there : is_some (event_at reports now) ≡ true
      there = is_listed reports order merged d i lt

      -- an event with a lower stamp has its counts
      lower_done : (a : At) → is_there reports a ≡ true → stamp_of reports a < stamp_of reports (at_of now) → IsDone rows a
      lower_done a h less =
          let from : 0 < a.event = from_one reports a h in
          let is : is_some (event_at reports (place_of reports a)) ≡ true = sym (ap is_some (event_of-place reports a from)) ∙ h in
          let w = listed reports order merged d (place_of reports a) is in
          let k : ℕ = w.0 in
          let same : stamp_at reports (place_of reports a) ≡ stamp_at reports (at k) = (λ z. stamp_at reports (record { pid = record { 0 = w.2.0 z }; place = w.2.1 z })) in
          let its : stamp_of reports a ≡ stamp_at reports (place_of reports a) = ap (λ (o : Option Event). option_map_or (λ (e : Event). e.stamp) o 0) (event_of-place reports a from) in
          let before : k < i = lower_first reports order merged d i k w.1 lt (omega (arith, same, its, less, stamp_place now)) in
          let seen : (at k).place < rows_for rows (at k) = reached.seen k d before w.1 in
          let row : counted_of rows (at k).pid.0 ≡ counted_of rows a.pid = ap (λ p. counted_of rows p) (sym w.2.0) in
          let place : a.event - 1 ≡ (at k).place = w.2.1 in
          (from, omega (arith, seen, row, place, from))

      -- its place is behind those of its process that have counts
      pub next : now.place ≡ rows_for rows now
      next = by (cases_order now.place (rows_for rows now))
        where
          last : ℕ
          last = rows_for rows now

          behind : rows_for rows now ≤ now.place
          behind = reached.unseen i d (omega arith) lt

          by : (now.place ≡ last) ⊎ ((now.place < last) ⊎ (last < now.place)) → now.place ≡ last
          by (inl e) = e
          by (inr (inl less)) = absurd (omega (arith, less, behind))
          by (inr (inr more)) =
              let a : At = record { pid = now.pid.0; event = last + 1 } in
              let is : is_there reports a ≡ true =
              there_place (record { pid = record { 0 = now.pid.0 }; place = last }) ∙ there_earlier (events_in (slice_get reports now.pid.0)) last now.place (omega (arith, more)) there in
              let less : stamp_of reports a < stamp_of reports (at_of now) =
              stamps_go now.pid.0 (now.place - last - 1) (last + 1) (now.place + 1) (omega (arith, more)) (omega arith) (there_place now ∙ there) in
              let done : IsDone rows a = lower_done a is less in
              absurd (omega (arith, done.1))

      pub process_within : now.pid.0 < length rows
      process_within = by (cases_lt now.pid.0 (length reports))
        where
          by : (now.pid.0 < length reports) ⊎ (length reports ≤ now.pid.0) → now.pid.0 < length rows
          by (inl h) = omega (arith, h, reached.many)
          by (inr past) = absurd (none (slice_get reports now.pid.0) refl there)
            where
              none : (o : Option Report) → slice_get reports now.pid.0 ≡ o → is_some (slice_get (events_in o) now.place) ≡ true → ⊥
              none None e g = let w : false ≡ true = g in cc
              none (Some r) e g = let w : now.pid.0 < length reports = slice_get_within reports now.pid.0 r e in omega (arith, w, past)

      module _ (entries : List (SignalKey × ℕ)) (index : IsIndex origins entries) (event : Event) (is : event_at reports now ≡ Some event) (row : Option (List ℕ))
          (learned : IsLearned rows (at_of now) (sender_of entries now.pid.0 event.did) row) where
        abbrev source : Option At
        source = sender_of entries now.pid.0 event.did

        abbrev sender : At
        sender = or_none now.pid.0 source

        abbrev grown : List Rows
        grown = after rows (at_of now) source row process_within

        handled : handled_at reports (at_of now) ≡ handled_by event.did
        handled = ap (λ (o : Option Event). option_and_then (λ (e : Event). handled_by e.did) o) (event_of-at reports now ∙ is)

        grown_right : IsRight reports origins (counts_of grown)
        grown_right =
            right_more reports origins (counts_of rows) (counts_of grown) reached.right (at_of now) sender (omega (arith, next)) (there_place now ∙ there)
            (more_counts rows (at_of now) source row process_within reached.wells (omega (arith, next)) (at_most reports origins (counts_of rows) reached.right) learned)
            (counts_done grown)
            (λ g step. lower_done g step.first (traced.rises g (at_of now) step))
            (sender_known reports origins traced entries index (at_of now) event.did handled)
            (λ done. sender_says reports origins traced entries index (at_of now) event.did handled done.0)

        -- of the event's process there is one more, of the others there are as many as before
        abbrev Here : ℕ → Type 0
        Here k = ((at k).pid.0 ≡ now.pid.0) × (rows_for grown (at k) ≡ rows_for rows now + 1) × (rows_for rows (at k) ≡ rows_for rows now)

        abbrev Elsewhere : ℕ → Type 0
        Elsewhere k = rows_for grown (at k) ≡ rows_for rows (at k)

        now_more : rows_for grown now ≡ rows_for rows now + 1
        now_more = after_counted rows (at_of now) source row process_within reached.wells

        rows_more : (k : ℕ) → ((at k).pid.0 ≡ now.pid.0) ⊎ ((at k).pid.0 ≡ now.pid.0 → ⊥) → Here k ⊎ Elsewhere k
        rows_more k (inl e) = inl (e, ap (λ p. counted_of grown p) e ∙ now_more, ap (λ p. counted_of rows p) e)
        rows_more k (inr n) = inr (ap (λ (r : Rows). length r.known) (after_other rows (at_of now) source row process_within (at k).pid.0 n))

        seen_more : (k : ℕ) → k < i + 1 → k < length order → (at k).place < rows_for grown (at k)
        seen_more k h l = by (cases_lt k i) (rows_more k (cases_eq (at k).pid.0 now.pid.0))
          where
            here : k ≡ i → (at k).place ≡ now.place
            here e = ap (λ z. (at z).place) e

            by : (k < i) ⊎ (i ≤ k) → Here k ⊎ Elsewhere k → (at k).place < rows_for grown (at k)
            by (inl less) (inl w) = omega (arith, reached.seen k d less l, w.1, w.2)
            by (inl less) (inr w) = omega (arith, reached.seen k d less l, w)
            by (inr more) (inl w) = omega (arith, here (omega (arith, more, h)), next, w.1)
            by (inr more) (inr w) =
                let same : k ≡ i = omega (arith, more, h) in
                let p : rows_for grown (at k) ≡ rows_for rows now + 1 = ap (λ z. rows_for grown (at z)) same ∙ now_more in
                omega (arith, here same, next, p)

        unseen_more : (k : ℕ) → i + 1 ≤ k → k < length order → rows_for grown (at k) ≤ (at k).place
        unseen_more k h l = by (rows_more k (cases_eq (at k).pid.0 now.pid.0))
          where
            old : rows_for rows (at k) ≤ (at k).place
            old = reached.unseen k d (omega (arith, h)) l

            by : Here k ⊎ Elsewhere k → rows_for grown (at k) ≤ (at k).place
            by (inl w) =
                let other : now.place ≢ (at k).place = apart reports order merged d i k (omega (arith, h)) l (sym w.0) in
                omega (arith, old, w.1, w.2, next, other)
            by (inr w) = omega (arith, old, w)

        default : (k : ℕ) (e : MergedAt) → k < length order → get_or order k e ≡ at k
        default k e l = get_or_default order k e d l

        pub reached_more : IsReached (i + 1) grown
        reached_more = record {
          many = after_many rows (at_of now) source row process_within ∙ reached.many;
          seen = λ k e h l. subst (λ (m : MergedAt). m.place < rows_for grown m) (sym (default k e l)) (seen_more k h l);
          unseen = λ k e h l. subst (λ (m : MergedAt). rows_for grown m ≤ m.place) (sym (default k e l)) (unseen_more k h l);
          wells = after_wells rows (at_of now) source row process_within reached.wells;
          right = grown_right;
        }

      -- the call that adds counts, where the event is there
      pub reached_by : (entries : List (SignalKey × ℕ)) (index : IsIndex origins entries) (new : List Rows) → IfSome (event_at reports now) (λ (e : Event). AddsCounts rows entries now e.did new) → IsReached (i + 1) new
      reached_by entries index new h = by (event_at reports now) refl there h
        where
          by : (o : Option Event) → event_at reports now ≡ o → is_some o ≡ true → IfSome o (λ (e : Event). AddsCounts rows entries now e.did new) → IsReached (i + 1) new
          by None e t g = absurd (false≢true t)
          by (Some event) e t g = subst (λ (rs : List Rows). IsReached (i + 1) rs) (sym g.2) (reached_more entries index event e g.0 g.1)

    -- at the end
    pub counted : (rows : List Rows) (d : MergedAt) → IsReached (length order) rows → IsCounted reports origins rows
    counted rows d reached = record {
      done = done;
      only = reached.right.known;
      counts = λ e f first second. (
        (λ le. reached.right.sound e f (done f second) (from_one reports e first) le),
        (λ w. back e f second w),
      );
      stamps = before_rises reports origins traced;
    }
      where
        done : (a : At) → is_there reports a ≡ true → IsDone rows a
        done a h =
            let from : 0 < a.event = from_one reports a h in
            let w = listed reports order merged d (place_of reports a) (sym (ap is_some (event_of-place reports a from)) ∙ h) in
            let seen : (get_or order w.0 d).place < rows_for rows (get_or order w.0 d) = reached.seen w.0 d w.1 w.1 in
            let row : counted_of rows (get_or order w.0 d).pid.0 ≡ counted_of rows a.pid = ap (λ p. counted_of rows p) (sym w.2.0) in
            let place : a.event - 1 ≡ (get_or order w.0 d).place = w.2.1 in
            (from, omega (arith, seen, row, place, from))

        back : (e f : At) → is_there reports f ≡ true → (e ≡ f) ⊎ HappenedBefore reports origins e f → e.event ≤ count_at rows f e.pid
        back e f second (inl same) = subst (λ (z : At). z.event ≤ count_at rows f z.pid) (sym same) (omega (arith, reached.right.own f (done f second)))
        back e f second (inr before) = before_counts reports origins (counts_of rows) reached.right e f before (done f second)
