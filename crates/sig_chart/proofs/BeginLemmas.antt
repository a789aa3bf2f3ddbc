-- An arrow begins at the event that sent the signal.
use Rattle.std.proofs.Common.{◌≡◌, ℕ, suc, ◌+◌, ◌-◌, ◌<◌, ◌≤◌, Bool, true, false, cond, List, [], ◌∷◌, ◌++◌, length, Option, Some, None, refl, sym, ap, ◌∙◌, arith}
use Rattle.std.specs.Prelude.{All, slice_get}
use Rattle.std.specs.List.{Contains}
use Rattle.std.proofs.lemmas.Bool.Decides.{nat_tests}
use Rattle.std.proofs.lemmas.List.Elements.{All-cons}
use Rattle.sig_model.specs.declared.event.Did.{Did}
use Rattle.sig_model.specs.declared.event.Did.TheVariants.{Exec, From}
use Rattle.sig_model.specs.declared.event.Event.{Event}
use Rattle.sig_model.specs.declared.origin.Origin.{Origin}
use Rattle.sig_record.specs.declared.merging.MergedAt.{MergedAt}
use Rattle.sig_record.specs.Merging.{event_at}
use Rattle.sig_svg.specs.declared.shape.Arrow.{Arrow}
use Rattle.sig_chart.specs.Finding.{is_of, sent_by, is_event, row_of}
use Rattle.sig_chart.specs.Shapes.{Ground, arrow_from, arrow_by, arrow_of, arrow_at, by_rows}
use Rattle.sig_chart.specs.Laid.{BeginsAtSender}

-- ---- the row of an event

-- the event with this number of this process stands in the row, among those from a first row on
pub record IsRowOf (first : ℕ) (ms : List MergedAt) (pid event row : ℕ) : Type 0 where
  pub past : first ≤ row
  pub m : MergedAt
  pub at : slice_get ms (row - first) ≡ Some m
  pub process : m.pid.0 ≡ pid
  pub number : m.place + 1 ≡ event

of_test : (pid event : ℕ) (m : MergedAt) → is_event pid event m ≡ true → (m.pid.0 ≡ pid) × (m.place + 1 ≡ event)
of_test pid event m h = grind (arith, nat_tests)

behind : (first : ℕ) (x : MergedAt) (ms : List MergedAt) (pid event row : ℕ) → IsRowOf (first + 1) ms pid event row → IsRowOf first (x ∷ ms) pid event row
behind first x ms pid event row h =
    let past : first + 1 ≤ row = h.past in
    let one : row - first ≡ suc (row - (first + 1)) = omega arith in
    record { past = omega arith; m = h.m; at = ap (λ (k : ℕ). slice_get (x ∷ ms) k) one ∙ h.at; process = h.process; number = h.number }

row_step : (first : ℕ) (x : MergedAt) (ms : List MergedAt) (pid event row : ℕ) (b : Bool) → is_event pid event x ≡ b →
    (row_of (first + 1) ms pid event ≡ Some row → IsRowOf (first + 1) ms pid event row) →
    cond b (Some first) (row_of (first + 1) ms pid event) ≡ Some row → IsRowOf first (x ∷ ms) pid event row
row_step first x ms pid event row true is rest h =
    let e : first ≡ row = cc in
    let zero_th : row - first ≡ 0 = omega arith in
    record { past = omega arith; m = x; at = ap (λ (k : ℕ). slice_get (x ∷ ms) k) zero_th; process = (of_test pid event x is).0; number = (of_test pid event x is).1 }
row_step first x ms pid event row false is rest h = behind first x ms pid event row (rest h)

pub row_is : (first : ℕ) (ms : List MergedAt) (pid event row : ℕ) → row_of first ms pid event ≡ Some row → IsRowOf first ms pid event row
row_is first [] pid event row h = absurd cc
row_is first (x ∷ ms) pid event row h =
    row_step first x ms pid event row (is_event pid event x) refl (row_is (first + 1) ms pid event row) h

-- ---- the origin of a signal

abbrev pub origin_with : ℕ → ℕ → ℕ → ℕ → Origin
origin_with from to number event = record { from = record { 0 = from }; to = record { 0 = to }; number = number; event = event }

pub origin_is : (o : Origin) (from to number : ℕ) → is_of o from to number ≡ true → o ≡ origin_with from to number o.event
origin_is o from to number h =
    let sender : o.from.0 ≡ from = grind (arith, nat_tests) in
    let receiver : o.to.0 ≡ to = grind (arith, nat_tests) in
    let its : o.number ≡ number = grind (arith, nat_tests) in
    ap (λ (n : ℕ). origin_with n o.to.0 o.number o.event) sender ∙ ap (λ (n : ℕ). origin_with from n o.number o.event) receiver
    ∙ ap (λ (n : ℕ). origin_with from to n o.event) its

pub further : (o x : Origin) (os : List Origin) → Contains os x → Contains (o ∷ os) x
further o x os h = let lt : h.0 < length os = h.1 in (suc h.0, omega arith, h.2)

known_step : (o : Origin) (os : List Origin) (from to number place : ℕ) (b : Bool) → is_of o from to number ≡ b →
    (sent_by os from to number ≡ place + 1 → Contains os (origin_with from to number (place + 1))) →
    cond b o.event (sent_by os from to number) ≡ place + 1 → Contains (o ∷ os) (origin_with from to number (place + 1))
known_step o os from to number place true is rest h =
    (0, omega arith, origin_is o from to number is ∙ ap (origin_with from to number) h)
known_step o os from to number place false is rest h = further o (origin_with from to number (place + 1)) os (rest h)

-- an event that is told as the signal's is told by one of the origins
known : (os : List Origin) (from to number place : ℕ) → sent_by os from to number ≡ place + 1 → Contains os (origin_with from to number (place + 1))
known [] from to number place h = absurd (omega (arith, h))
known (o ∷ os) from to number place h = known_step o os from to number place (is_of o from to number) refl (known os from to number place) h

-- ---- the arrows

begins : (g : Ground) (row pid : ℕ) (e : Event) (from number : ℕ) → BeginsAtSender g (arrow_from g row pid e from number (sent_by g.origins from pid number))
begins g row pid e from number start h =
    let w : IsRowOf 0 g.shown from (sent_by g.origins from pid number) start = row_is 0 g.shown from (sent_by g.origins from pid number) start h in
    let same : start ≡ start - 0 = omega arith in
    (w.m, ap (λ (k : ℕ). slice_get g.shown k) same ∙ w.at, w.process, known g.origins from pid number w.m.place (sym w.number))

-- what holds of the arrow of each handling holds of all arrows
module _ (g : Ground) (P : Arrow → Type 0)
    (each : (row pid : ℕ) (e : Event) (from number : ℕ) → P (arrow_from g row pid e from number (sent_by g.origins from pid number))) where
  by_did : (row pid : ℕ) (e : Event) (d : Did) (rest : List Arrow) → All P rest → All P (arrow_by g row pid e d ++ rest)
  by_did row pid e (Exec place) rest h = h
  by_did row pid e (From sender number) rest h =
      All-cons P (arrow_from g row pid e sender.0 number (sent_by g.origins sender.0 pid number)) rest (each row pid e sender.0 number) h

  by_event : (row pid : ℕ) (o : Option Event) (rest : List Arrow) → All P rest → All P (arrow_of g row pid o ++ rest)
  by_event row pid None rest h = h
  by_event row pid (Some e) rest h = by_did row pid e e.did rest h

  pub all_arrows : (row : ℕ) (ms : List MergedAt) → All P (by_rows (arrow_at g) row ms)
  all_arrows row [] = λ k d lt. absurd (omega arith)
  all_arrows row (m ∷ ms) = by_event row m.pid.0 (event_at g.reports m) (by_rows (arrow_at g) (row + 1) ms) (all_arrows (row + 1) ms)

pub begin_at_senders : (g : Ground) (row : ℕ) (ms : List MergedAt) → All (BeginsAtSender g) (by_rows (arrow_at g) row ms)
begin_at_senders g = all_arrows g (BeginsAtSender g) (begins g)
