-- A crew that made all events has come to rest exactly where no process can go on, as far as a run has fewer than 2^62 events.
use Rattle.std.proofs.Common.{◌<◌, ◌^◌, List, map, length, sym, ◌∙◌, subst, inl, inr, ◌⊎◌}
use Rattle.std.specs.Prelude.{All, slice_set}
use Rattle.sig_kinds.specs.declared.signal.Signal.{Signal}
use Rattle.sig_program.specs.Scripts.{Program, IsWithin}
use Rattle.sig_runs.specs.Machine.{Machine, At, IsRun}
use Rattle.sig_runs.specs.Marks.{AllMarksSound}
use Rattle.sig_runs.specs.Crew.{opening_machine, crew_machine}
use Rattle.sig_runs.specs.Settled.{IsLate, HasNoSignal, IsAtRest, IsSettled, HandlesLate}
use Rattle.sig_runs.proofs.Settled.{settled_choice}
use Rattle.sig_model.specs.declared.event.Event.{Event}
use Rattle.sig_model.specs.ProcessState.{ProcessState}
use Rattle.sig_model.specs.Machine.{rules_of, opening_of}
use Rattle.sig_model.specs.Marking.{marking}
use Rattle.sig_model.specs.Running.{Running}
use Rattle.sig_model.specs.OneWorker.{IsClear}
use Rattle.sig_model.specs.Still.{IsStillCrew}
use Rattle.sig_model.specs.CrewLaw.{IsMachineStep, whole_member, machine_of}
use Rattle.sig_model.proofs.KeptLawLemmas.{step_applies}
use Rattle.sig_model.proofs.LawfulRunLemmas.{still_settled}
use Rattle.sig_model.proofs.MarkerLemmas.{keeps_sound}
use Rattle.sig_model.proofs.MarkedRuns.{end_sound, from_head, still_settled as settled_whole}
use Rattle.sig_record.specs.RunRecord.{whole_rules}
use Rattle.sig_choices.specs.Choosing.{AreEmptied}
use Rattle.sig_choices.specs.Following.{HasFollowed}
use Rattle.sig_choices.proofs.Clear.{clear_machine}
use Rattle.sig_check.specs.Going.{SomeCanGo}
use Rattle.sig_check.proofs.FewStamps.{none_late}

module _ (script : Program) (within : All IsWithin script.procs) (m : Machine ProcessState Signal) (sound : AllMarksSound marking m) where
  -- what is at rest over the whole list is at rest from the marks
  pub settled_marked : IsSettled (whole_rules script) m → IsSettled (rules_of script) m
  settled_marked settled p s at = go (settled p s at)
    where
      late : IsLate (whole_rules script) m p → IsLate (rules_of script) m p
      late l = record { sender = l.sender; signal = l.signal; queued = l.queued; late = l.late }

      signals : HasNoSignal m p ⊎ IsLate (whole_rules script) m p → HasNoSignal m p ⊎ IsLate (rules_of script) m p
      signals (inl none) = inl none
      signals (inr l) = inr (late l)

      go : IsAtRest (whole_rules script) m p s → IsAtRest (rules_of script) m p s
      go (inl cut) = inl cut
      go (inr (inl ended, q)) = inr (inl ended, signals q)
      go (inr (inr none, q)) = inr (inr (sym ((keeps_sound script within).agrees p s (sound.marks p s at)) ∙ none), signals q)

module _ (script : Program) (within : All IsWithin script.procs) (events : List (At Event)) (crew : List Running) (h : HasFollowed script events crew) (empty : AreEmptied crew) where
  abbrev machine : Machine ProcessState Signal
  machine = crew_machine (rules_of script) (map whole_member crew)

  run : IsRun (rules_of script) (opening_machine (opening_of script)) events machine
  run = subst (λ m. IsRun (rules_of script) (opening_machine (opening_of script)) events m) (clear_machine script crew empty) h.run

  sound : AllMarksSound marking machine
  sound = end_sound script events machine within (from_head script events machine within run)

  -- none can go on
  pub rests : IsClear crew → IsStillCrew crew → IsSettled (whole_rules script) machine
  rests clear still = settled_whole script machine within sound (still_settled script crew h.lawful clear still)

  -- one can
  pub goes : length events < 2 ^ 62 → SomeCanGo crew → IsSettled (whole_rules script) machine → ⊥
  goes few (p, (r, (there, (t, can)))) settled =
      let s : IsMachineStep script crew p r t = step_applies script crew h.lawful p r there t can in
      let f : HandlesLate (rules_of script) (machine_of script crew) p ((rules_of script).did s.event) =
      settled_choice (rules_of script) (machine_of script crew)
      (subst (λ m. IsSettled (rules_of script) m) (sym (clear_machine script crew empty)) (settled_marked script within machine sound settled))
      p ((rules_of script).did s.event) (record { machine = machine_of script (slice_set crew p t); event = s.event }) s.step in
      none_late script events (machine_of script crew) p h.run few f.is_late
