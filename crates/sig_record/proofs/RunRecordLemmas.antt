-- The record of a crew is the record of a run that ends in the crew's machine.
use Rattle.std.proofs.Common.{◌≡◌, ◌≢◌, ℕ, zero, suc, ◌+◌, ◌<◌, List, [], ◌∷◌, ◌++◌, map, length, Bool, true, false, cond, ◌||◌, All, Option, Some, refl, sym, ap, ◌∙◌, subst, append_assoc, arith, inl, inr, ◌⊎◌}
use Rattle.std.specs.Prelude.{◌==◌, nat_lt, slice_get, if◌then◌else◌}
use Rattle.std.specs.List.{filter, list_any}
use Rattle.std.proofs.lemmas.Bool.{eq-eqb, ne_eqb, lt-ltb}
use Rattle.std.proofs.lemmas.Bool.Decides.{eqb_tells, nat_tests}
use Rattle.std.proofs.lemmas.List.{append-nil}
use Rattle.std.proofs.lemmas.List.Folds.{list_any-append}
use Rattle.std.proofs.lemmas.Option.{same_Some}
use Rattle.std.proofs.lemmas.List.Elements.{All-head, All-tail, All-weaker}
use Rattle.sig_terms.specs.declared.term.Term.{Term}
use Rattle.sig_kinds.specs.declared.signal.Signal.{Signal}
use Rattle.sig_program.specs.Scripts.{Declared, Program}
use Rattle.sig_runs.specs.Machine.{Machine, At}
use Rattle.sig_runs.specs.Order.{events_by}
use Rattle.sig_model.specs.declared.event.Event.{Event}
use Rattle.sig_model.specs.declared.state.State.{State}
use Rattle.sig_model.specs.ProcessState.{ProcessState, is_cut}
use Rattle.sig_model.specs.PrintedState.{is_late_signal, is_late, state_of, printed_state}
use Rattle.sig_model.specs.Running.{Running}
use Rattle.sig_model.specs.SettledRun.{waiting_of}
use Rattle.sig_record.specs.declared.report.Report.{Report}
use Rattle.sig_record.specs.RecordOf.{left_of, is_from, queued_below, report_of}
use Rattle.sig_record.specs.RunRecord.{queued_for, run_report, run_reports}

pub none_from : (n : ℕ) (xs : List Signal) → All (λ (x : Signal). x.from.0 ≢ n) xs → filter (is_from n) xs ≡ []
none_from n [] h = refl
none_from n (x ∷ xs) h =
    ap (λ c. cond c (x ∷ filter (is_from n) xs) (filter (is_from n) xs)) (ne_eqb x.from.0 n (All-head (λ (y : Signal). y.from.0 ≢ n) x xs h))
    ∙ none_from n xs (All-tail (λ (y : Signal). y.from.0 ≢ n) x xs h)

pub all_from : (n : ℕ) (xs : List Signal) → All (λ (x : Signal). x.from.0 ≡ n) xs → filter (is_from n) xs ≡ xs
all_from n [] h = refl
all_from n (x ∷ xs) h =
    ap (λ c. cond c (x ∷ filter (is_from n) xs) (filter (is_from n) xs)) (eq-eqb x.from.0 n (All-head (λ (y : Signal). y.from.0 ≡ n) x xs h))
    ∙ ap (λ ys. x ∷ ys) (all_from n xs (All-tail (λ (y : Signal). y.from.0 ≡ n) x xs h))

-- Signals of a process to itself, and signals of others.
module _ (p : ℕ) (own others : List Signal) (mine : All (λ (x : Signal). x.from.0 ≡ p) own) (theirs : All (λ (x : Signal). x.from.0 ≢ p) others) where
  -- those of one sender
  abbrev of_sender : ℕ → List Signal
  of_sender n = if n == p then own else filter (is_from n) others

  one_sender : (n : ℕ) → filter (is_from n) own ++ filter (is_from n) others ≡ of_sender n
  one_sender n = go (eqb_tells n p)
    where
      go : (((n == p) ≡ true) × (n ≡ p)) ⊎ (((n == p) ≡ false) × (n ≢ p)) → filter (is_from n) own ++ filter (is_from n) others ≡ of_sender n
      go (inl e) =
          ap (λ ys. ys ++ filter (is_from n) others) (all_from n own (All-weaker (λ (x : Signal). x.from.0 ≡ p) (λ (x : Signal). x.from.0 ≡ n) (λ x q. q ∙ sym e.1) own mine))
          ∙ ap (λ ys. own ++ ys) (none_from n others (All-weaker (λ (x : Signal). x.from.0 ≢ p) (λ (x : Signal). x.from.0 ≢ n) (λ x q r. q (r ∙ e.1)) others theirs))
          ∙ append-nil own
          ∙ sym (ap (λ c. cond c own (filter (is_from n) others)) e.0)
      go (inr e) =
          ap (λ ys. ys ++ filter (is_from n) others) (none_from n own (All-weaker (λ (x : Signal). x.from.0 ≡ p) (λ (x : Signal). x.from.0 ≢ n) (λ x q r. e.1 (sym r ∙ q)) own mine))
          ∙ sym (ap (λ c. cond c own (filter (is_from n) others)) e.0)

  -- are queued in the machine as the crew has them
  pub queued_alike : (m : Machine ProcessState Signal) → ((s : ℕ) → m.queued s p ≡ of_sender s) → (n : ℕ) → queued_for m p n ≡ queued_below n own others
  unfolding queued_for queued_below
  queued_alike m h zero = refl
  queued_alike m h (suc n) =
      ap (λ ys. ys ++ m.queued n p) (queued_alike m h n) ∙ ap (λ ys. queued_below n own others ++ ys) (h n ∙ sym (one_sender n))
      ∙ sym (append_assoc (queued_below n own others) (filter (is_from n) own) (filter (is_from n) others))

-- whether one of the signals passes the test, told of those of the senders below a pid
module _ (f : Signal → Bool) where
  or_four : (a b c d : Bool) → ((a || b) || (c || d)) ≡ ((a || c) || (b || d))
  or_four true b c d = refl
  or_four false true true d = refl
  or_four false true false d = refl
  or_four false false c d = refl

  or_assoc : (a b c : Bool) → ((a || b) || c) ≡ (a || (b || c))
  or_assoc true b c = refl
  or_assoc false b c = refl

  or_swap : (a b c : Bool) → (a || (b || c)) ≡ (b || (a || c))
  or_swap true true c = refl
  or_swap true false c = refl
  or_swap false b c = refl

  abbrev any : List Signal → Bool
  any xs = list_any f xs

  abbrev is_below : ℕ → Signal → Bool
  is_below n x = nat_lt x.from.0 n

  -- whether the first of them is chosen
  kept : (c : Bool) (x : Signal) (xs : List Signal) → any (cond c (x ∷ xs) xs) ≡ cond c (f x || any xs) (any xs)
  kept true x xs = refl
  kept false x xs = refl

  head_step : (b e g : Bool) (v r s t : Bool) → ((b ≡ true) × (e ≡ false) × (g ≡ true)) ⊎ (((b ≡ false) × (e ≡ true) × (g ≡ true)) ⊎ ((b ≡ false) × (e ≡ false) × (g ≡ false)))
      → (r || s) ≡ t → (cond b (v || r) r || cond e (v || s) s) ≡ cond g (v || t) t
  head_step b e g v r s t (inl h) ih = rw (h.0, h.1, h.2) (or_assoc v r s ∙ ap (λ z. v || z) ih)
  head_step b e g v r s t (inr (inl h)) ih = rw (h.0, h.1, h.2) (or_swap r v s ∙ ap (λ z. v || z) ih)
  head_step b e g v r s t (inr (inr h)) ih = rw (h.0, h.1, h.2) ih

  three : (m n : ℕ) → ((nat_lt m n ≡ true) × ((m == n) ≡ false) × (nat_lt m (suc n) ≡ true))
      ⊎ (((nat_lt m n ≡ false) × ((m == n) ≡ true) × (nat_lt m (suc n) ≡ true)) ⊎ ((nat_lt m n ≡ false) × ((m == n) ≡ false) × (nat_lt m (suc n) ≡ false)))
  three m n = grind (arith, nat_tests)

  one_more_sender : (n : ℕ) (xs : List Signal) → (any (filter (is_below n) xs) || any (filter (is_from n) xs)) ≡ any (filter (is_below (suc n)) xs)
  one_more_sender n [] = refl
  one_more_sender n (x ∷ xs) =
      ap (λ b. b || any (filter (is_from n) (x ∷ xs))) (kept (is_below n x) x (filter (is_below n) xs))
      ∙ ap (λ b. cond (is_below n x) (f x || any (filter (is_below n) xs)) (any (filter (is_below n) xs)) || b) (kept (is_from n x) x (filter (is_from n) xs))
      ∙ head_step (is_below n x) (is_from n x) (is_below (suc n) x) (f x) (any (filter (is_below n) xs)) (any (filter (is_from n) xs)) (any (filter (is_below (suc n)) xs)) (three x.from.0 n) (one_more_sender n xs)
      ∙ sym (kept (is_below (suc n) x) x (filter (is_below (suc n)) xs))

  none_below : (n : ℕ) → nat_lt n 0 ≡ false
  none_below n = grind (arith, nat_tests)

  no_sender : (xs : List Signal) → filter (is_below 0) xs ≡ []
  no_sender [] = refl
  no_sender (x ∷ xs) = ap (λ c. cond c (x ∷ filter (is_below 0) xs) (filter (is_below 0) xs)) (none_below x.from.0) ∙ no_sender xs

  each_sender : (count : ℕ) (xs : List Signal) → All (λ (x : Signal). x.from.0 < count) xs → filter (is_below count) xs ≡ xs
  each_sender count [] h = refl
  each_sender count (x ∷ xs) h =
      ap (λ c. cond c (x ∷ filter (is_below count) xs) (filter (is_below count) xs)) (lt-ltb x.from.0 count (All-head (λ (y : Signal). y.from.0 < count) x xs h))
      ∙ ap (λ ys. x ∷ ys) (each_sender count xs (All-tail (λ (y : Signal). y.from.0 < count) x xs h))

  any_below : (own others : List Signal) (n : ℕ) → any (queued_below n own others) ≡ (any (filter (is_below n) own) || any (filter (is_below n) others))
  unfolding queued_below
  any_below own others zero = sym (ap (λ xs. any xs || any (filter (is_below 0) others)) (no_sender own) ∙ ap any (no_sender others))
  any_below own others (suc n) =
      ap any (append_assoc (queued_below n own others) (filter (is_from n) own) (filter (is_from n) others))
      ∙ list_any-append f (queued_below n own others) (filter (is_from n) own ++ filter (is_from n) others)
      ∙ ap (λ b. b || any (filter (is_from n) own ++ filter (is_from n) others)) (any_below own others n)
      ∙ ap (λ b. (any (filter (is_below n) own) || any (filter (is_below n) others)) || b) (list_any-append f (filter (is_from n) own) (filter (is_from n) others))
      ∙ or_four (any (filter (is_below n) own)) (any (filter (is_below n) others)) (any (filter (is_from n) own)) (any (filter (is_from n) others))
      ∙ ap (λ b. b || (any (filter (is_below n) others) || any (filter (is_from n) others))) (one_more_sender n own)
      ∙ ap (λ b. any (filter (is_below (suc n)) own) || b) (one_more_sender n others)

  -- grouping the signals by their senders changes nothing of that
  pub any_queued : (count : ℕ) (own others : List Signal) → All (λ (x : Signal). x.from.0 < count) own → All (λ (x : Signal). x.from.0 < count) others → any (queued_below count own others) ≡ (any own || any others)
  any_queued count own others h g =
      any_below own others count ∙ ap (λ xs. any xs || any (filter (is_below count) others)) (each_sender count own h) ∙ ap (λ xs. any own || any xs) (each_sender count others g)

-- the process p of a crew has the signals that the machine has queued for it
pub record HasQueued (m : Machine ProcessState Signal) (count p : ℕ) (r : Running) : Type 0 where
  pub queued : (s : ℕ) → m.queued s p ≡ waiting_of s p r
  pub mine : All (λ (x : Signal). x.from.0 ≡ p) r.own
  pub theirs : All (λ (x : Signal). x.from.0 ≢ p) r.taken_in
  pub own_below : All (λ (x : Signal). x.from.0 < count) r.own
  pub others_below : All (λ (x : Signal). x.from.0 < count) r.taken_in

module _ (script : Program) (events : List (At Event)) (m : Machine ProcessState Signal) (count : ℕ) where
  -- its report is that of the run
  pub report_alike : (p : ℕ) (r : Running) → r.pid ≡ p → r.turns ≡ script.turns → r.events ≡ events_by p events → HasQueued m count p r →
      report_of count r ≡ run_report count script.turns events m p r.proc r.state
  report_alike p r pid turns told q =
      let same : queued_for m p count ≡ queued_below count r.own r.taken_in = queued_alike p r.own r.taken_in q.mine q.theirs m q.queued count in
      let late : list_any is_late_signal (queued_for m p count) ≡ is_late r = ap (list_any is_late_signal) same ∙ any_queued is_late_signal count r.own r.taken_in q.own_below q.others_below in
      let below : List Signal = queued_below count r.own r.taken_in in
      let end : Option Term = r.state.tables.end in
      let ended : printed_state r ≡ state_of end (is_cut script.turns r.state || list_any is_late_signal (queued_for m p count)) =
      ap (λ n. state_of end (is_cut n r.state || is_late r)) turns ∙ ap (λ b. state_of end (is_cut script.turns r.state || b)) (sym late) in
      let all : ℕ → List Event → List Signal → State → Report =
      λ n es xs st. record { pid = record { 0 = n }; name = r.proc.name; events = es; left = map left_of r.state.tables.inbox.messages; queued = xs; state = st } in
      ap (λ n. all n r.events below (printed_state r)) pid
      ∙ ap (λ es. all p es below (printed_state r)) told
      ∙ ap (λ xs. all p (events_by p events) xs (printed_state r)) (sym same)
      ∙ ap (λ st. all p (events_by p events) (queued_for m p count) st) ended

  -- and so are the reports of all
  pub reports_alike : (p : ℕ) (crew : List Running) (procs : List Declared) →
      ((i : ℕ) (r : Running) → slice_get crew i ≡ Some r → (slice_get procs i ≡ Some r.proc) × ((r.pid ≡ p + i) × (r.turns ≡ script.turns) × (r.events ≡ events_by (p + i) events) × HasQueued m count (p + i) r)) →
      length crew ≡ length procs → map (report_of count) crew ≡ run_reports count script.turns events m p procs (map (λ (r : Running). r.state) crew)
  reports_alike p [] [] h e = refl
  reports_alike p [] (d ∷ ds) h e = absurd (let f : ⊥ = omega (arith, e) in f)
  reports_alike p (r ∷ rs) [] h e = absurd (let f : ⊥ = omega (arith, e) in f)
  reports_alike p (r ∷ rs) (d ∷ ds) h e =
      let zero_on : p + 0 ≡ p = omega arith in
      let first = h 0 r refl in
      let part : d ≡ r.proc = same_Some d r.proc first.0 in
      let one : report_of count r ≡ run_report count script.turns events m p r.proc r.state =
      report_alike p r (first.1.0 ∙ zero_on) first.1.1 (subst (λ k. r.events ≡ events_by k events) zero_on first.1.2) (subst (λ k. HasQueued m count k r) zero_on first.1.3) in
      let rest : map (report_of count) rs ≡ run_reports count script.turns events m (p + 1) ds (map (λ (r : Running). r.state) rs) =
      reports_alike (p + 1) rs ds
      (λ i q at. let step : p + suc i ≡ p + 1 + i = omega arith in
      let g = h (suc i) q at in (g.0, (g.1.0 ∙ step, g.1.1, subst (λ k. q.events ≡ events_by k events) step g.1.2, subst (λ k. HasQueued m count k q) step g.1.3)))
      (let k : length rs ≡ length ds = omega (arith, e) in k) in
      rw (part) (ap (λ x. x ∷ map (report_of count) rs) one ∙ ap (λ xs. run_report count script.turns events m p r.proc r.state ∷ xs) rest)
