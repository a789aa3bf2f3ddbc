-- A lawful crew in which no process can do anything is what a settled run of the script's machine leads to.
use Rattle.std.proofs.Common.{◌≡◌, ℕ, List, [], ◌∷◌, map, Option, Some, None, refl, ap, ◌∙◌}
use Rattle.std.specs.Prelude.{slice_get}
use Rattle.sig_kinds.specs.declared.signal.Signal.{Signal}
use Rattle.sig_program.specs.Scripts.{Program}
use Rattle.sig_runs.specs.LocalRun.{Act}
use Rattle.sig_runs.specs.Crew.{Member, acts_of, queued_at, crew_machine}
use Rattle.sig_runs.specs.Order.{Place, IsOrder, events_at}
use Rattle.sig_runs.proofs.Order.{order_is_run, order_events}
use Rattle.sig_model.specs.declared.event.Event.{Event}
use Rattle.sig_model.specs.ProcessState.{ProcessState}
use Rattle.sig_model.specs.Machine.{rules_with, rules_of, opening_of}
use Rattle.sig_model.specs.Running.{Running}
use Rattle.sig_model.specs.OneWorker.{IsClear}
use Rattle.sig_model.specs.SettledRun.{IsMachineOf, events_of, IsSettledRun}
use Rattle.sig_model.specs.Still.{IsStillCrew}
use Rattle.sig_model.specs.CrewLaw.{IsLawfulCrew, whole_member}
use Rattle.sig_model.proofs.StampLemmas.{stamps_kept}
use Rattle.sig_model.proofs.SettledLemmas.{is_resting}
use Rattle.sig_model.proofs.LawLemmas.{mate, mate_at, kept_of, lawful_clear}
use Rattle.sig_model.proofs.LawfulRunLemmas.{still_settled}

states_of : (crew : List Running) → map (λ (m : Member ProcessState Signal Event). m.local.state) (map whole_member crew) ≡ map (λ (r : Running). r.state) crew
states_of [] = refl
states_of (r ∷ rs) = ap (λ z. r.state ∷ z) (states_of rs)

module _ (script : Program) (crew : List Running) (law : IsLawfulCrew script crew) (clear : IsClear crew) (still : IsStillCrew crew) where
  abbrev mates : List (Member ProcessState Signal Event)
  mates = map whole_member crew

  shown : IsMachineOf crew (crew_machine (rules_of script) mates)
  unfolding rules_with
  shown = record { states = states_of crew; queued = λ s p r at. ap (λ o. queued_at (rules_of script) s p o) (mate_at script crew p (Some r) at) }

  told_case : (p : ℕ) (o : Option Running) → slice_get crew p ≡ o → map (λ (a : Act ProcessState Signal Event). a.effect.event) (acts_of (mate o)) ≡ events_of o
  told_case p None at = refl
  told_case p (Some r) at = (law.keeping p r at).ran.events_told

  -- the events in the order of their stamps are that run
  pub still_run : (order : List Place) → IsOrder (rules_of script) mates order → (run : IsSettledRun script crew) × (run.events ≡ events_at mates order)
  still_run order o = (
    record {
      events = events_at mates order;
      machine = crew_machine (rules_of script) mates;
      run = order_is_run (rules_of script) (stamps_kept script.turns (slice_get script.procs)) (opening_of script) mates order (lawful_clear script crew law clear) o;
      shown = shown;
      processes = law.processes;
      told = λ p.
          order_events (rules_of script) (stamps_kept script.turns (slice_get script.procs)) (opening_of script) mates order (lawful_clear script crew law clear) o p
          ∙ ap (λ z. map (λ (a : Act ProcessState Signal Event). a.effect.event) (acts_of z)) (mate_at script crew p (slice_get crew p) refl)
          ∙ told_case p (slice_get crew p) refl;
      settled = still_settled script crew law clear still;
      many = law.many;
      resting = λ p r at. is_resting script p r (kept_of script p r (law.processes p r at) (law.keeping p r at)) (still p r at);
    },
    refl,
  )
