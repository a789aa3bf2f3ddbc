-- A replay of the record of a settled run has come to rest, and gives the text of its links.
use Rattle.std.proofs.Common.{◌≡◌, ℕ, List, [], All, map, Option, Some, None, IfSome, slice_get, Result, Ok, Err, refl, sym, ap, ◌∙◌, subst}
use Rattle.std.specs.Prelude.{IfOk, Vec}
use Rattle.std.specs.Global.{Global}
use Rattle.sig_kinds.specs.declared.signal.Signal.{Signal}
use Rattle.sig_program.specs.Scripts.{Program, IsWithin}
use Rattle.sig_runs.specs.Machine.{Machine, At, IsRun}
use Rattle.sig_runs.specs.Crew.{opening_machine, crew_machine}
use Rattle.sig_runs.specs.Marks.{AllMarksSound}
use Rattle.sig_runs.specs.Settled.{IsSettled}
use Rattle.sig_model.specs.declared.event.Event.{Event}
use Rattle.sig_model.specs.declared.origin.Origin.{Origin}
use Rattle.sig_model.specs.ProcessState.{ProcessState}
use Rattle.sig_model.specs.Machine.{rules_of, opening_of}
use Rattle.sig_model.specs.Marking.{marking}
use Rattle.sig_model.specs.Running.{Running}
use Rattle.sig_model.specs.OneWorker.{IsClear}
use Rattle.sig_model.specs.CrewLaw.{outbox_of, whole_member, machine_of}
use Rattle.sig_model.proofs.Lookups.{at_place}
use Rattle.sig_model.proofs.MarkedRuns.{end_sound, from_head}
use Rattle.sig_choices.specs.Choosing.{AreEmptied}
use Rattle.sig_choices.proofs.Clear.{clear_machine}
use Rattle.sig_record.specs.declared.report.Report.{Report}
use Rattle.sig_record.specs.declared.merging.MergedAt.{MergedAt}
use Rattle.sig_record.specs.Merging.{IsMerged}
use Rattle.sig_record.specs.RecordOf.{record_of}
use Rattle.sig_record.specs.RunRecord.{events_listed, IsOfSettledRun}
use Rattle.sig_record.proofs.RunLemmas.{all_within}
use Rattle.sig_check.specs.Replays.{HasRetraced, IsReplayed}
use Rattle.sig_check.proofs.ReplayLemmas.{makes_same, its_run}
use Rattle.sig_check.proofs.RestLemmas.{settled_marked}
use Rattle.sig_linklaw.specs.declared.pair.Pair.{Pair}
use Rattle.sig_linklaw.specs.LinkReport.{HasComeToRest, linked_pairs}
use Rattle.sig_tool.specs.Linking.{link_lines, IsLinksText}

emptied_at : (o : Option Running) → IfSome o (λ (r : Running). r.outbox ≡ []) → outbox_of o ≡ []
emptied_at None h = refl
emptied_at (Some r) h = h

emptied : (crew : List Running) → IsClear crew → AreEmptied crew
emptied crew clear q = emptied_at (slice_get crew q) (at_place (λ (r : Running). r.outbox ≡ []) crew q clear)

module _ (script : Program) (reports : List Report) (crew : List Running) (order : List MergedAt) (merged : IsMerged reports order) (retraced : HasRetraced script (events_listed reports order) crew) (clear : IsClear crew) (w : IsOfSettledRun script reports) where
  abbrev events : List (At Event)
  events = events_listed reports order

  abbrev machine : Machine ProcessState Signal
  machine = crew_machine (rules_of script) (map whole_member crew)

  run : IsRun (rules_of script) (opening_machine (opening_of script)) events w.machine
  run = its_run script reports order merged (all_within script crew retraced.lawful) w.machine w.run

  -- the events lead to one machine
  same : w.machine ≡ machine
  same =
      sym (makes_same script events retraced.made (opening_machine (opening_of script)) w.machine (machine_of script crew) run retraced.run).1
      ∙ clear_machine script crew (emptied crew clear)

  within : All IsWithin script.procs
  within = all_within script crew retraced.lawful

  sound : AllMarksSound marking w.machine
  sound = end_sound script events w.machine within (from_head script events w.machine within run)

  pub comes_to_rest : HasComeToRest script crew
  comes_to_rest = record {
    lawful = retraced.lawful;
    clear = clear;
    settled = subst (λ m. IsSettled (rules_of script) m) same (settled_marked script within w.machine sound w.settled);
  }

-- the text of the links of a replay's crew
pub text_so : {E : Type 0} (script : Program) (reports : List Report) (crew : List Running) (origins : List Origin) → IsReplayed script reports crew origins → IsOfSettledRun script reports →
    (pairs : List Pair) (result : Result (Vec ℕ Global) E) → record_of crew ≡ reports → pairs ≡ linked_pairs crew →
    IfOk result (λ text. text.items ≡ link_lines pairs) → IfOk result (λ text. IsLinksText script reports text.items)
text_so script reports crew origins w run pairs (Ok text) again equal h = record {
  crew = crew;
  origins = origins;
  replayed = w;
  rests = comes_to_rest script reports crew w.order w.merged w.retraced w.clear run;
  again = again;
  is = h ∙ ap link_lines equal;
}
text_so script reports crew origins w run pairs (Err e) again equal h = tt
