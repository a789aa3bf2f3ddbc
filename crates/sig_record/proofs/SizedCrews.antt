-- The record of a lawful crew has names that are name tokens and terms no larger than what is read.
use Rattle.std.proofs.Common.{◌≡◌, ℕ, zero, suc, List, [], ◌∷◌, length, get_or, true, false, Bool, IfSome, Option, Some, None, sym, ap, ◌∙◌, subst}
use Rattle.std.specs.Prelude.{All, slice_get, ◌==◌}
use Rattle.std.specs.Option.{option_map}
use Rattle.std.proofs.lemmas.Bool.{cond_both}
use Rattle.std.proofs.lemmas.Option.{slice_get-map, slice_get_within, get_or_from_slice_get, slice_get-get_or}
use Rattle.std.proofs.lemmas.List.Elements.{All-nil, All-cons, All-head, All-tail, All-append, All-weaker, All-map, All-get_or}
use Rattle.sig_terms.specs.Words.{is_name}
use Rattle.sig_terms.specs.declared.term.Term.{Term}
use Rattle.sig_kinds.specs.declared.signal.Signal.{Signal}
use Rattle.sig_program.specs.Scripts.{Declared, Program}
use Rattle.sig_program.specs.ScriptNames.{AreNames}
use Rattle.sig_runs.specs.Machine.{Machine, At, IsRun}
use Rattle.sig_runs.specs.Crew.{opening_machine}
use Rattle.sig_runs.specs.Order.{events_by}
use Rattle.sig_runs.specs.Everywhere.{HoldEverywhere}
use Rattle.sig_model.specs.declared.event.Event.{Event}
use Rattle.sig_model.specs.ProcessState.{ProcessState}
use Rattle.sig_model.specs.PrintedState.{state_of}
use Rattle.sig_model.specs.Machine.{rules_of, opening_of}
use Rattle.sig_model.specs.Running.{Running}
use Rattle.sig_model.specs.Keeping.{IsKeeping}
use Rattle.sig_model.specs.SettledRun.{events_of}
use Rattle.sig_model.specs.OneWorker.{IsClear}
use Rattle.sig_model.specs.CrewLaw.{IsLawfulCrew}
use Rattle.sig_model.specs.TermSizes.{IsSmallTerm, KindSizes, TableSizes, term_sizes}
use Rattle.sig_model.proofs.TermSizeLemmas.{small_kept}
use Rattle.sig_model.proofs.SizeLaw.{sizes_everywhere}
use Rattle.sig_record.specs.declared.merging.MergedAt.{MergedAt}
use Rattle.sig_record.specs.Merging.{IsMerged}
use Rattle.sig_record.specs.RecordOf.{left_of, report_of, record_of}
use Rattle.sig_record.specs.RunRecord.{events_listed, queued_for}
use Rattle.sig_record.specs.SizedRecord.{IsSizedEvent, IsSizedLeft, IsSizedSignal, IsSizedState, IsSizedReport, IsSizedRecord}
use Rattle.sig_record.specs.Records.{IsRecord}
use Rattle.sig_record.specs.RecordText.{record_text}
use Rattle.sig_record.specs.RecordFronts.{record_in}
use Rattle.sig_record.specs.ReadableRecord.{IsReadableRecord}
use Rattle.sig_record.specs.StoredRecord.{IsStoredRecord}
use Rattle.sig_record.proofs.CountedCrews.{crew_counted}
use Rattle.sig_record.proofs.CountedLemmas.{counted_in_order}
use Rattle.sig_record.proofs.RecordLaws.{record_again}
use Rattle.sig_record.proofs.RecordLemmas.{record_kept, same_record}
use Rattle.sig_record.proofs.PhraseRows.{small_kind}
use Rattle.sig_record.proofs.EventSizes.{run_told}
use Rattle.sig_record.proofs.KeySorting.{order_of}
use Rattle.sig_record.proofs.RunLemmas.{machine, has_queued, states_alike, plain_run, told_by, merged_order}
use Rattle.sig_record.proofs.RunRecordLemmas.{HasQueued, queued_alike}

-- what holds of all events holds of those of one process
by_all : (P : Event → Type 0) (p : ℕ) (es : List (At Event)) → All (λ (a : At Event). P a.event) es → All P (events_by p es)
by_all P p [] h = All-nil P
by_all P p (a ∷ later) h =
    let rest : All P (events_by p later) = by_all P p later (All-tail (λ (b : At Event). P b.event) a later h) in
    cond_both (a.pid == p) (a.event ∷ events_by p later) (events_by p later) (All P)
    (λ e. All-cons P a.event (events_by p later) (All-head (λ (b : At Event). P b.event) a later h) rest) (λ e. rest)

state_sized : (end : Option Term) (cut : Bool) → IfSome end IsSmallTerm → IsSizedState (state_of end cut)
state_sized (Some reason) cut h = small_kept reason h
state_sized None true h = tt
state_sized None false h = tt

queued_sized : (m : Machine ProcessState Signal) (p : ℕ) → ((s : ℕ) → All (λ (x : Signal). KindSizes x.kind) (m.queued s p)) → (n : ℕ) → All IsSizedSignal (queued_for m p n)
unfolding queued_for
queued_sized m p h zero = All-nil IsSizedSignal
queued_sized m p h (suc n) =
    All-append IsSizedSignal (queued_for m p n) (m.queued n p) (queued_sized m p h n)
    (All-weaker (λ (x : Signal). KindSizes x.kind) IsSizedSignal (λ x k. small_kind x.kind k) (m.queued n p) (h n))

-- what holds of each part of the script holds of the one at this place
part_at : (P : Declared → Type 0) (ds : List Declared) (p : ℕ) (d : Declared) → slice_get ds p ≡ Some d → All P ds → P d
part_at P ds p d e all = subst P (get_or_from_slice_get ds p d d e) (All-get_or P ds p d (slice_get_within ds p d e) all)

module _ (script : Program) (crew : List Running) (law : IsLawfulCrew script crew) (clear : IsClear crew) where
  abbrev order : List MergedAt
  order = order_of (record_of crew)

  abbrev end : Machine ProcessState Signal
  end = machine script crew law

  abbrev events : List (At Event)
  events = events_listed (record_of crew) order

  merged : IsMerged (record_of crew) order
  merged = merged_order script crew law clear

  run : IsRun (rules_of script) (opening_machine (opening_of script)) events end
  run = plain_run script crew law clear order merged

  holds : HoldEverywhere term_sizes end
  holds = sizes_everywhere script events end run

  state_at : (p : ℕ) (r : Running) → slice_get crew p ≡ Some r → slice_get end.procs p ≡ Some r.state
  state_at p r at =
      ap (λ ss. slice_get ss p) (sym (states_alike script crew law)) ∙ slice_get-map (λ (x : Running). x.state) crew p ∙ ap (λ o. option_map (λ (x : Running). x.state) o) at

  report_sized : AreNames script → (p : ℕ) (r : Running) → slice_get crew p ≡ Some r → IsSizedReport (report_of (length crew) r)
  report_sized names p r at =
      let k : TableSizes r.state.tables = holds.states p r.state (state_at p r at) in
      let q : HasQueued end (length crew) p r = has_queued script crew law p r at in
      record {
        name = part_at (λ (d : Declared). is_name d.name ≡ true) script.procs p r.proc (law.processes p r at).proc names;
        events = subst (All IsSizedEvent) (told_by script crew law clear order merged p ∙ ap (λ o. events_of o) at) (by_all IsSizedEvent p events (run_told script events end run));
        left = All-map IsSizedLeft left_of r.state.tables.inbox.messages k.messages;
        queued = subst (All IsSizedSignal) (queued_alike p r.own r.taken_in q.mine q.theirs end q.queued (length crew)) (queued_sized end p (λ s. holds.signals s p) (length crew));
        state = state_sized r.state.tables.end _ k.end;
      }

  pub record_sized : AreNames script → IsSizedRecord (record_of crew)
  record_sized names =
      All-map IsSizedReport (report_of (length crew)) crew (λ i d lt. report_sized names i (get_or crew i d) (slice_get-get_or crew i d lt))

  keeping : All IsKeeping crew
  keeping = λ i d lt. law.keeping i (get_or crew i d) (slice_get-get_or crew i d lt)

  kept : IsRecord (record_of crew)
  kept =
      subst IsRecord (same_record crew law.placed keeping (counted_in_order crew keeping (crew_counted script crew law)))
      (record_kept crew (λ p r at. (law.placed p r at).0) keeping)

  -- so it can be read where it lies in memory
  pub record_readable : AreNames script → IsStoredRecord (record_of crew) → IsReadableRecord (record_of crew)
  record_readable names stored = record { kept = kept; stored = stored; sized = record_sized names }

  pub record_reread : AreNames script → IsStoredRecord (record_of crew) → record_in (record_text (record_of crew)) ≡ Some (record_of crew)
  record_reread names stored = record_again (record_of crew) (record_readable names stored)
