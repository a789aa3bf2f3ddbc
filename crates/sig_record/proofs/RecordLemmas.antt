-- The record of a crew: what it keeps, and which record it is where the signals of each sender stand by ascending number.
use Rattle.std.proofs.Common.{◌≡◌, ℕ, ◌<◌, List, [], ◌∷◌, ◌++◌, map, length, get_or, Option, Some, None, refl, sym, ap, ◌∙◌, subst}
use Rattle.std.specs.Prelude.{slice_get, All}
use Rattle.std.specs.Option.{option_map, unwrap_or}
use Rattle.std.proofs.lemmas.Option.{slice_get-map, slice_get_within, get_or_from_slice_get, slice_get-get_or}
use Rattle.std.proofs.lemmas.List.Elements.{All-head, All-tail, All-append, All-weaker, All-get_or}
use Rattle.sig_kinds.specs.declared.signal.Signal.{Signal}
use Rattle.sig_kinds.specs.SignalNames.{IsSignalBelow}
use Rattle.sig_model.specs.Running.{Running}
use Rattle.sig_model.specs.Keeping.{IsKeeping, IsPlaced, IsToItself, IsArriving}
use Rattle.sig_model.specs.SettledRun.{events_of}
use Rattle.sig_record.specs.declared.report.Report.{Report}
use Rattle.sig_record.specs.Sorting.{is_lower}
use Rattle.sig_record.specs.RecordOf.{report_with, report_of, sorted_report, record_of, sorted_record, IsInOrder, AreInOrder, IsByPid}
use Rattle.sig_record.specs.Records.{IsReport, IsRecord}
use Rattle.sig_record.specs.Merging.{events_in}
use Rattle.sig_record.proofs.SortLemmas.{sorted_all}
use Rattle.sig_record.proofs.QueueLemmas.{sorted_signals_rise, sorted_is_queued}

-- the report of one process
report_kept : (pid : ℕ) (r : Running) → r.pid ≡ pid → IsKeeping r → IsReport pid (sorted_report r)
report_kept pid r p keep = record {
  process = p;
  to = sorted_all is_lower (λ (x : Signal). x.to.0 ≡ pid) (r.own ++ r.taken_in)
      (All-append (λ (x : Signal). x.to.0 ≡ pid) r.own r.taken_in
      (All-weaker (IsToItself r.pid r.state.counts.stamp) (λ (x : Signal). x.to.0 ≡ pid) (λ x h. h.to ∙ p) r.own keep.own)
      (All-weaker (IsArriving r.pid r.count) (λ (x : Signal). x.to.0 ≡ pid) (λ x h. h.to ∙ p) r.taken_in keep.taken_in));
  rising = sorted_signals_rise (r.own ++ r.taken_in);
}

-- what holds of each process holds of the one at this place
all_at : (P : Running → Type 0) (crew : List Running) (p : ℕ) (r : Running) → slice_get crew p ≡ Some r → All P crew → P r
all_at P crew p r e all = subst P (get_or_from_slice_get crew p r r e) (All-get_or P crew p r (slice_get_within crew p r e) all)

module _ (crew : List Running) (by_pid : IsByPid crew) (keeping : All IsKeeping crew) where
  report_at : (pid : ℕ) (o : Option Running) (t : Report) → slice_get crew pid ≡ o → option_map sorted_report o ≡ Some t → IsReport pid t
  report_at pid None t e f = cc
  report_at pid (Some r) t e f =
      subst (IsReport pid) (ap (λ (x : Option Report). unwrap_or x t) f) (report_kept pid r (by_pid pid r e) (all_at IsKeeping crew pid r e keeping))

  -- the sorted record is a record
  pub record_kept : IsRecord (sorted_record crew)
  record_kept pid t e = report_at pid (slice_get crew pid) t refl (sym (slice_get-map sorted_report crew pid) ∙ e)

-- in a crew with all processes of its script
module _ (crew : List Running) (placed : IsPlaced crew) (keeping : All IsKeeping crew) where
  from_below : (r : Running) → r.count ≡ length crew → IsKeeping r → All (λ (x : Signal). x.from.0 < length crew) (r.own ++ r.taken_in)
  from_below r many keep =
      All-append (λ (x : Signal). x.from.0 < length crew) r.own r.taken_in
      (All-weaker (IsSignalBelow r.count) (λ (x : Signal). x.from.0 < length crew) (λ x h. subst (λ n. x.from.0 < n) many h.from) r.own keep.below.own)
      (All-weaker (IsSignalBelow r.count) (λ (x : Signal). x.from.0 < length crew) (λ x h. subst (λ n. x.from.0 < n) many h.from) r.taken_in keep.below.taken_in)

  same_report : (r : Running) → r.count ≡ length crew → IsKeeping r → IsInOrder r → sorted_report r ≡ report_of (length crew) r
  same_report r many keep ordered = ap (λ (queued : List Signal). report_with queued r) (sorted_is_queued (length crew) r.own r.taken_in ordered (from_below r many keep))

  same_at : AreInOrder crew → All (λ (r : Running). sorted_report r ≡ report_of (length crew) r) crew
  same_at ordered k d lt =
      let place : (r : Running) → slice_get crew k ≡ Some r → (r.pid ≡ k) × (r.count ≡ length crew) = placed k in
      same_report (get_or crew k d) (place (get_or crew k d) (slice_get-get_or crew k d lt)).1 (keeping k d lt) (ordered k d lt)

same_map : (n : ℕ) (rs : List Running) → All (λ (r : Running). sorted_report r ≡ report_of n r) rs → map sorted_report rs ≡ map (report_of n) rs
same_map n [] h = refl
same_map n (r ∷ rs) h =
    ap (λ (t : Report). t ∷ map sorted_report rs) (All-head (λ (r : Running). sorted_report r ≡ report_of n r) r rs h)
    ∙ ap (λ (ts : List Report). report_of n r ∷ ts) (same_map n rs (All-tail (λ (r : Running). sorted_report r ≡ report_of n r) r rs h))

-- where the signals of each sender stand by ascending number, it is the record by senders
pub same_record : (crew : List Running) → IsPlaced crew → All IsKeeping crew → AreInOrder crew → sorted_record crew ≡ record_of crew
same_record crew placed keeping ordered = same_map (length crew) crew (same_at crew placed keeping ordered)

-- the events that it tells are those of the processes
events_at : (n : ℕ) (o : Option Running) → events_in (option_map (report_of n) o) ≡ events_of o
events_at n None = refl
events_at n (Some r) = refl

pub record_events : (crew : List Running) (p : ℕ) → events_of (slice_get crew p) ≡ events_in (slice_get (record_of crew) p)
record_events crew p = sym (events_at (length crew) (slice_get crew p)) ∙ ap events_in (sym (slice_get-map (report_of (length crew)) crew p))
