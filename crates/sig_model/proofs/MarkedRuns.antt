-- The runs of a script's machine from its opening, from the marks and over all messages.
use Rattle.std.proofs.Common.{◌≡◌, ℕ, List, All, length, Some, slice_get}
use Rattle.sig_kinds.specs.declared.signal.Signal.{Signal}
use Rattle.sig_program.specs.Scripts.{Declared, Program, IsWithin, IsProcBelow, IsScriptWithin}
use Rattle.sig_runs.specs.Machine.{Machine, At, IsRun}
use Rattle.sig_runs.specs.Crew.{opening_machine}
use Rattle.sig_runs.specs.Fresh.{MakesFresh}
use Rattle.sig_runs.specs.Marks.{AllMarksSound, by_whole}
use Rattle.sig_runs.specs.Settled.{IsSettled}
use Rattle.sig_runs.specs.Everywhere.{HoldEverywhere}
use Rattle.sig_runs.proofs.Marks.{run_sound, whole_run, marked_run, settled_whole}
use Rattle.sig_runs.proofs.Everywhere.{run_keeps_facts}
use Rattle.sig_model.specs.declared.event.Event.{Event}
use Rattle.sig_model.specs.ProcessState.{ProcessState}
use Rattle.sig_model.specs.Executing.{SkipsNone}
use Rattle.sig_model.specs.Machine.{rules_of, opening_of}
use Rattle.sig_model.specs.Marking.{marking, whole_of}
use Rattle.sig_model.specs.NameLaw.{names_below}
use Rattle.sig_model.proofs.Lookups.{at_place}
use Rattle.sig_model.proofs.FreshLemmas.{makes_fresh}
use Rattle.sig_model.proofs.MarkerLemmas.{skips_none, keeps_sound, opening_sound}
use Rattle.sig_model.proofs.NameLawLemmas.{event_keeps_names, opening_below}

module _ (script : Program) where
  pub script_fresh : MakesFresh marking (rules_of script)
  script_fresh = makes_fresh script.turns (slice_get script.procs)

  module _ (events : List (At Event)) (end : Machine ProcessState Signal) where
    -- a run from the opening, and one that looks at all messages
    abbrev MarkedRun : Type 0
    MarkedRun = IsRun (rules_of script) (opening_machine (opening_of script)) events end

    abbrev WholeRun : Type 0
    WholeRun = IsRun (by_whole (rules_of script) (whole_of script)) (opening_machine (opening_of script)) events end

    pub marked_names : IsScriptWithin script → MarkedRun → HoldEverywhere (names_below (length script.procs)) end
    marked_names sound run =
        run_keeps_facts (rules_of script) (names_below (length script.procs))
        (event_keeps_names (length script.procs) script.turns (slice_get script.procs) (λ pid. at_place (IsProcBelow (length script.procs)) script.procs pid sound.pids))
        events (opening_machine (opening_of script)) end (opening_below script) run

    module _ (within : All IsWithin script.procs) where
      pub from_mark : WholeRun → MarkedRun
      from_mark run = marked_run (rules_of script) marking script_fresh (whole_of script) (keeps_sound script within) events (opening_machine (opening_of script)) end (opening_sound script) run

      pub from_head : MarkedRun → WholeRun
      from_head run = whole_run (rules_of script) marking script_fresh (whole_of script) (keeps_sound script within) events (opening_machine (opening_of script)) end (opening_sound script) run

      pub end_sound : WholeRun → AllMarksSound marking end
      end_sound run = run_sound (rules_of script) marking script_fresh (whole_of script) (keeps_sound script within) events (opening_machine (opening_of script)) end (opening_sound script) (from_mark run)

      -- so no receive through a marker skips a message that could match
      pub none_skipped : WholeRun → (pid : ℕ) (s : ProcessState) (p : Declared) → slice_get end.procs pid ≡ Some s → slice_get script.procs pid ≡ Some p → SkipsNone p s
      none_skipped run pid s p at part = skips_none pid s ((end_sound run).marks pid s at) p

  pub still_settled : (m : Machine ProcessState Signal) → All IsWithin script.procs → AllMarksSound marking m → IsSettled (rules_of script) m → IsSettled (by_whole (rules_of script) (whole_of script)) m
  still_settled m within sound settled = settled_whole (rules_of script) marking script_fresh (whole_of script) (keeps_sound script within) m sound settled
