-- What comes of a script that was made or read, and of settings that were read first.
use Rattle.std.proofs.Common.{◌≡◌, ◌∙◌, ℕ, ◌≤◌, List, Bool, true, false, Option, Some, None, Result, Ok, Err, inl, inr, refl, ap, sym, subst, arith}
use Rattle.std.specs.Prelude.{IfOk, IfSome, Vec, is_some}
use Rattle.std.specs.Global.{Global}
use Rattle.std.specs.declared.alloc.AllocError.{AllocError}
use Rattle.sig_program.specs.Scripts.{Program}
use Rattle.sig_reader.specs.Grammar.{script_of}
use Rattle.sig_edge.specs.Streams.{IsReadWithin, IsUnread, IsUnwritten, Reading, Writing, reading, writing}
use Rattle.sig_model.specs.Running.{Running}
use Rattle.sig_model.specs.OneWorker.{RunsTo, opened_crew}
use Rattle.sig_record.specs.declared.report.Report.{Report}
use Rattle.sig_record.specs.RecordOf.{record_of}
use Rattle.sig_host.specs.declared.settings.Settings.{Settings}
use Rattle.sig_host.specs.declared.status.Status.{Status}
use Rattle.sig_host.specs.declared.status.Status.TheVariants.{Done, BadScript, Usage, ReadFault, WriteFault, Memory}
use Rattle.sig_host.specs.Alone.{IsOfOne}
use Rattle.sig_host.specs.Words.{AreRefused, AreSettings, IsInRange}
use Rattle.sig_host.specs.Told.{text_in}
use Rattle.sig_host.specs.declared.ending.Ending.{Ending}
use Rattle.sig_host.proofs.AnswerLemmas.{answered}
use Rattle.sig_host.specs.Answers.{IsAnswer, IsCutOff, IsPrinted, IsRecordAlone, IsRun, IsScriptFor, IsScriptRun, IsSourceRead, IsSourceRun}

spelled : (left : Option (List ℕ)) (script : Program) (Holds : Program → Type 0) → IfSome left (λ bytes. script_of bytes ≡ Ok script) → Holds script
    → IfSome left (λ bytes. (found : Program) × (script_of bytes ≡ Ok found) × Holds found)
spelled None script Holds e h = tt
spelled (Some bytes) script Holds e h = (script, e, h)

module _ (r : Reading) (w : Writing) (workers : ℕ) where
  source_run : (script : Program) (status : Status) (summary : Option (List ℕ)) → IsSourceRead r (Ok script) → IsScriptRun workers script false w status summary
      → IsSourceRun workers r w status summary
  source_run script Done summary (told, fine, end) (kept, (reports, of, added, text)) =
      (spelled r.left script (λ s. IsPrinted workers s false w summary) told (kept, (reports, of, added, text)), kept, fine, end, text)
  source_run script WriteFault summary (told, fine, end) run = (spelled r.left script (λ s. IsCutOff workers s w) told run, run.0, fine, end)
  source_run script Memory summary (told, fine, end) run = (fine, run)
  source_run script (BadScript line kind) summary h run = absurd run
  source_run script ReadFault summary h run = absurd run
  source_run script Usage summary h run = absurd run

  -- the script that was asked for was run
  run_for : (calls : Option ℕ) (script : Program) (status : Status) (summary : Option (List ℕ)) → IsScriptFor calls r (Ok script)
      → IsScriptRun workers script (is_some calls) w status summary → IsRun workers calls r w status summary
  run_for (Some calls) script status summary h run = (h.0, subst (λ (s : Program). IsScriptRun workers s true w status summary) h.1 run)
  run_for None script status summary h run = source_run script status summary h run

  pub script_run : (calls : Option ℕ) (script : Program) (asked : Bool) (status : Status) (summary : Option (List ℕ)) → asked ≡ is_some calls
      → IsScriptFor calls r (Ok script) → IsScriptRun workers script asked w status summary → IsRun workers calls r w status summary
  script_run calls script asked status summary e h run =
      run_for calls script status summary h (subst (λ (b : Bool). IsScriptRun workers script b w status summary) e run)

  -- there was no script, so nothing was run
  none_for : (calls : Option ℕ) (status : Status) → IsScriptFor calls r (Err status) → IsUnwritten w → IsRun workers calls r w status None
  none_for (Some calls) Memory h none = (h.0, none)
  none_for (Some calls) Done h none = absurd h.1
  none_for (Some calls) (BadScript line kind) h none = absurd h.1
  none_for (Some calls) Usage h none = absurd h.1
  none_for (Some calls) ReadFault h none = absurd h.1
  none_for (Some calls) WriteFault h none = absurd h.1
  none_for None Memory h none = (h, none)
  none_for None (BadScript line kind) h none = (h.0, h.1, h.2, none)
  none_for None ReadFault h none = (h, none)
  none_for None Done h none = absurd h
  none_for None Usage h none = absurd h
  none_for None WriteFault h none = absurd h

  pub no_script : (calls : Option ℕ) (why : Status) (ending : Ending) → ending.status ≡ why → ending.summary ≡ None → IsScriptFor calls r (Err why) → IsUnwritten w
      → IsRun workers calls r w ending.status (text_in ending.summary)
  no_script calls why ending is short h none =
      subst (λ (text : Option (Vec ℕ Global)). IsRun workers calls r w ending.status (text_in text)) (sym short)
      (subst (λ (s : Status). IsRun workers calls r w s None) (sym is) (none_for calls why h none))

-- the record at the end of the run of one worker
pub of_one_worker : (script : Program) (first last : List Running) (result : Result (List Report) AllocError) → first ≡ opened_crew script → RunsTo first last
    → IfOk result (λ r. r ≡ record_of last) → IfOk result (IsRecordAlone script)
of_one_worker script first last (Ok reports) opened run told = (last, subst (λ (crew : List Running). RunsTo crew last) opened run, told)
of_one_worker script first last (Err e) opened run told = tt

one_worker : (s : Settings) → IsInRange s → s.workers ≤ 1 → s.workers ≡ 1
one_worker s range few = omega (arith, range.least_workers, few)

-- an answer of a run with one worker is one of a run with as many as the settings ask for
pub answered_alone : (r : Reading) (w : Writing) (summary : Option (List ℕ)) (words : List (List ℕ)) (s : Settings) (status : Status) → AreSettings words s
    → IsInRange s → s.workers ≤ 1 → IsRun 1 s.generate r w status summary → IsAnswer words r w status summary
answered_alone r w summary words s status are range few run =
    answered r w summary words s status are (subst (λ (n : ℕ). IsRun n s.generate r w status summary) (sym (one_worker s range few)) run)

-- the settings of words are one
same_settings : (words : List (List ℕ)) (s t : Settings) → AreSettings words s → AreSettings words t → t ≡ s
unfolding AreSettings
same_settings words s t a b = let both : Some t ≡ Some s = sym b.1 ∙ a.1 in cc

-- words that are refused have none
none_refused : (words : List (List ℕ)) (s : Settings) → AreRefused words → AreSettings words s → ⊥
unfolding AreSettings AreRefused
none_refused words s (inl h) are = h.1 are.0
none_refused words s (inr h) are = let bad : Some s ≡ None = sym are.1 ∙ h.1 in cc

module _ (words : List (List ℕ)) (r : Reading) where
  -- the settings were those of one worker
  pub of_one : (s : Settings) (status : Status) → AreSettings words s → IsInRange s → s.workers ≤ 1 → IsOfOne words r status
  of_one s status are range few t more =
      inl (ap (λ (x : Settings). x.workers) (same_settings words s t are more) ∙ one_worker s range few)

  pub of_refused : (status : Status) → AreRefused words → IsOfOne words r status
  of_refused status refused t are = absurd (none_refused words t refused are)

  pub of_no_memory : IsUnread r → IsOfOne words r Memory
  of_no_memory unread t are = inr (refl, unread)

-- What was neither read nor written before counts for nothing.

unread_before : (left middle rest : Option (List ℕ)) (m k n : ℕ) → IsUnread (reading left middle m k) → reading middle rest k n ≡ reading left rest m n
unread_before left middle rest m k n h = ap (λ (x : Option (List ℕ)). reading x rest k n) h.0 ∙ ap (λ (x : ℕ). reading left rest x n) h.1

unwritten_before : (held middle new : Option (List ℕ)) (m k n : ℕ) → IsUnwritten (writing held middle m k) → writing middle new k n ≡ writing held new m n
unwritten_before held middle new m k n h = ap (λ (x : Option (List ℕ)). writing x new k n) h.0 ∙ ap (λ (x : ℕ). writing held new x n) h.1

pub answered_later : (words : List (List ℕ)) (s : Settings) (status : Status) (summary : Option (List ℕ)) (left middle rest held between new : Option (List ℕ))
    (m k n a b c : ℕ) → AreSettings words s → IsUnread (reading left middle m k) → IsUnwritten (writing held between a b)
    → IsRun s.workers s.generate (reading middle rest k n) (writing between new b c) status summary → IsAnswer words (reading left rest m n) (writing held new a c) status summary
answered_later words s status summary left middle rest held between new m k n a b c are unread unwritten run =
    answered _ _ summary words s status are
    (subst (λ (r : Reading). IsRun s.workers s.generate r (writing held new a c) status summary) (unread_before left middle rest m k n unread)
    (subst (λ (w : Writing). IsRun s.workers s.generate (reading middle rest k n) w status summary) (unwritten_before held between new a b c unwritten) run))

pub taken_later : (most : ℕ) (left middle rest : Option (List ℕ)) (m k n : ℕ) → IsUnread (reading left middle m k) → IsReadWithin most (reading middle rest k n)
    → IsReadWithin most (reading left rest m n)
taken_later most left middle rest m k n unread taken = subst (IsReadWithin most) (unread_before left middle rest m k n unread) taken
