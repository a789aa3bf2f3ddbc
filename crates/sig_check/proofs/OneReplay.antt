-- A record has one replay.
use Rattle.std.proofs.Common.{◌≡◌, ℕ, suc, ◌+◌, List, [], ◌∷◌, ◌++◌, length, Some, None, refl, sym, ap, ◌∙◌, subst}
use Rattle.std.specs.Prelude.{slice_get, Option}
use Rattle.std.proofs.Math.Path.{ap₂}
use Rattle.std.proofs.lemmas.Option.{same_Some, none-some}
use Rattle.sig_kinds.specs.declared.signal.Signal.{Signal}
use Rattle.sig_program.specs.Scripts.{Program}
use Rattle.sig_runs.specs.Machine.{Machine, At, Applied, apply, choice}
use Rattle.sig_runs.specs.Crew.{opening_machine}
use Rattle.sig_model.specs.declared.event.Event.{Event}
use Rattle.sig_model.specs.declared.origin.Origin.{Origin}
use Rattle.sig_model.specs.ProcessState.{ProcessState}
use Rattle.sig_model.specs.Machine.{acted_at, rules_of, opening_of}
use Rattle.sig_model.specs.Running.{Running}
use Rattle.sig_model.specs.OneWorker.{IsClear}
use Rattle.sig_model.specs.CrewLaw.{outbox_of, machine_of}
use Rattle.sig_model.proofs.ClearLemmas.{clear_at}
use Rattle.sig_choices.specs.Choosing.{AreEmptied}
use Rattle.sig_choices.specs.Origins.{origins_of}
use Rattle.sig_choices.proofs.Clear.{clear_machine}
use Rattle.sig_process.specs.Standing.{runnings_of}
use Rattle.sig_record.specs.declared.report.Report.{Report}
use Rattle.sig_record.specs.declared.merging.MergedAt.{MergedAt}
use Rattle.sig_record.specs.RecordOf.{record_of}
use Rattle.sig_record.specs.RunRecord.{events_listed, record_of_run}
use Rattle.sig_record.proofs.RunLemmas.{record_alike}
use Rattle.sig_check.specs.declared.replaying.Replaying.{Replaying}
use Rattle.sig_check.specs.declared.replaying.Replaying.TheVariants.{Stopped, Replayed}
use Rattle.sig_check.specs.Replays.{Makes, HasRetraced, StopsAt, IsReplayed, IsStopped, IsReplay, IsSameReplay}
use Rattle.sig_check.proofs.Orders.{one_order}

-- no outbox has a signal, at whatever place it is looked for
all_emptied : (crew : List Running) → IsClear crew → AreEmptied crew
all_emptied crew clear q = at (slice_get crew q) refl
  where
    at : (o : Option Running) → slice_get crew q ≡ o → outbox_of o ≡ []
    at None is = refl
    at (Some r) is = clear_at crew q r is clear

module _ (script : Program) where
  -- what the choice that the event tells leads to, from the machine m
  abbrev led : Machine ProcessState Signal → At Event → Option (Applied ProcessState Signal Event)
  led m a = apply (rules_of script) m (choice a.pid (acted_at a.event.did))

  -- the first of the choices is possible, so another try of it leads to the same machine and event
  first_same : (m : Machine ProcessState Signal) (a : At Event) (e f : Event) (next other : Machine ProcessState Signal) →
      led m a ≡ Some (record { machine = next; event = e }) → led m a ≡ Some (record { machine = other; event = f }) → (next ≡ other) × (e ≡ f)
  first_same m a e f next other h g =
      let same : record { machine = next; event = e } ≡ record { machine = other; event = f } =
      same_Some (record { machine = next; event = e }) (record { machine = other; event = f }) (sym h ∙ g) in
      (ap (λ (z : Applied ProcessState Signal Event). z.machine) same, ap (λ (z : Applied ProcessState Signal Event). z.event) same)

  -- choices make one list of events, and lead to one machine
  makes_one : (given made others : List (At Event)) (m end far : Machine ProcessState Signal) →
      Makes script m given made end → Makes script m given others far → (made ≡ others) × (end ≡ far)
  makes_one [] made others m end far h g = (h.0 ∙ sym g.0, sym h.1 ∙ g.1)
  makes_one (a ∷ given) made others m end far h g =
      let same : (h.2 ≡ g.2) × (h.0 ≡ g.0) = first_same m a h.0 g.0 h.2 g.2 h.4 g.4 in
      let rest : (h.1 ≡ g.1) × (end ≡ far) =
      makes_one given h.1 g.1 h.2 end far h.5 (subst (λ z. Makes script z given g.1 far) (sym same.0) g.5) in
      (h.3 ∙ ap₂ (λ (e : Event) (es : List (At Event)). record { pid = a.pid; event = e } ∷ es) same.1 rest.0 ∙ sym g.3, rest.1)

  -- where all choices are possible, there is none that isn't
  no_end : (before rest made all : List (At Event)) (next : At Event) (m end far : Machine ProcessState Signal) →
      Makes script m before made end → led end next ≡ None → Makes script m (before ++ next ∷ rest) all far → ⊥
  no_end [] rest made all next m end far h none g =
      none-some (record { machine = g.2; event = g.0 }) (sym none ∙ ap (λ z. led z next) (sym h.1) ∙ g.4)
  no_end (a ∷ before) rest made all next m end far h none g =
      let same : (h.2 ≡ g.2) × (h.0 ≡ g.0) = first_same m a h.0 g.0 h.2 g.2 h.4 g.4 in
      no_end before rest h.1 g.1 next h.2 end far h.5 none (subst (λ z. Makes script z (before ++ next ∷ rest) g.1 far) (sym same.0) g.5)

  -- of the same choices there is one that isn't possible first
  one_end : (xs ys zs ws made others : List (At Event)) (a b : At Event) (m end far : Machine ProcessState Signal) →
      xs ++ a ∷ ys ≡ zs ++ b ∷ ws → Makes script m xs made end → led end a ≡ None → Makes script m zs others far → led far b ≡ None → length xs ≡ length zs
  one_end [] ys [] ws made others a b m end far same h stop g halt = refl
  one_end [] ys (z ∷ zs) ws made others a b m end far same h stop g halt =
      let is : a ≡ z = cc in
      absurd (none-some (record { machine = g.2; event = g.0 }) (sym stop ∙ ap (λ n. led n a) (sym h.1) ∙ ap (λ c. led m c) is ∙ g.4))
  one_end (x ∷ xs) ys [] ws made others a b m end far same h stop g halt =
      let is : b ≡ x = cc in
      absurd (none-some (record { machine = h.2; event = h.0 }) (sym halt ∙ ap (λ n. led n b) (sym g.1) ∙ ap (λ c. led m c) is ∙ h.4))
  one_end (x ∷ xs) ys (z ∷ zs) ws made others a b m end far same h stop g halt =
      let is : z ≡ x = cc in
      let tails : xs ++ a ∷ ys ≡ zs ++ b ∷ ws = cc in
      let next : (h.2 ≡ g.2) × (h.0 ≡ g.0) = first_same m x h.0 g.0 h.2 g.2 h.4 (ap (λ c. led m c) (sym is) ∙ g.4) in
      ap suc (one_end xs ys zs ws h.1 g.1 a b h.2 end far tails h.5 stop (subst (λ n. Makes script n zs g.1 far) (sym next.0) g.5) halt)

  abbrev opening : Machine ProcessState Signal
  opening = opening_machine (opening_of script)

  one_stop : (es : List (At Event)) (m n : ℕ) → StopsAt script es m → StopsAt script es n → m ≡ n
  one_stop es m n h g =
      h.many
      ∙ one_end h.before h.rest g.before g.rest h.made g.made h.next g.next opening h.machine g.machine (sym h.split ∙ g.split) h.run h.none g.run g.none
      ∙ sym g.many

  goes_on : (es : List (At Event)) (n : ℕ) (crew : List Running) → HasRetraced script es crew → StopsAt script es n → ⊥
  goes_on es n crew h g =
      no_end g.before g.rest g.made h.made g.next opening g.machine (machine_of script crew) g.run g.none
      (subst (λ xs. Makes script opening xs h.made (machine_of script crew)) g.split h.run)

  module _ (es : List (At Event)) (crew other : List Running) (h : HasRetraced script es crew) (g : HasRetraced script es other) where
    both : (h.made ≡ g.made) × (machine_of script crew ≡ machine_of script other)
    both = makes_one es h.made g.made opening (machine_of script crew) (machine_of script other) h.run g.run

    -- a crew that has made choices has the record of what they made
    its_record : (team : List Running) (r : HasRetraced script es team) → IsClear team → record_of team ≡ record_of_run script r.made (machine_of script team)
    its_record team r clear =
        record_alike script team r.lawful r.made r.told
        ∙ ap (λ m. record_of_run script r.made m) (sym (clear_machine script team (all_emptied team clear)))

    crews_alike : IsClear crew → IsClear other → record_of crew ≡ record_of other
    crews_alike c d =
        its_record crew h c
        ∙ ap₂ (λ (made : List (At Event)) (m : Machine ProcessState Signal). record_of_run script made m) both.0 both.1
        ∙ sym (its_record other g d)

  module _ (reports : List Report) where
    abbrev events : List MergedAt → List (At Event)
    events o = events_listed reports o

    clash : (n : ℕ) (crew : List Running) (origins : List Origin) → IsReplayed script reports crew origins → IsStopped script reports n → ⊥
    clash n crew origins h g =
        goes_on (events g.order) g.before crew
        (subst (λ o. HasRetraced script (events o) crew) (one_order reports h.order g.order h.merged g.merged) h.retraced) g.stops

    alike : (crew other : List Running) (origins others : List Origin) → IsReplayed script reports crew origins → IsReplayed script reports other others →
        (machine_of script crew ≡ machine_of script other) × (record_of crew ≡ record_of other) × (origins ≡ others)
    alike crew other origins others h g =
        let one : h.order ≡ g.order = one_order reports h.order g.order h.merged g.merged in
        let there : HasRetraced script (events g.order) crew = subst (λ o. HasRetraced script (events o) crew) one h.retraced in (
          (both (events g.order) crew other there g.retraced).1,
          crews_alike (events g.order) crew other there g.retraced h.clear g.clear,
          h.told ∙ ap (λ o. origins_of script (events o)) one ∙ sym g.told,
        )

    same_number : (m n : ℕ) → IsStopped script reports m → IsStopped script reports n → m ≡ n
    same_number m n h g =
        let one : h.order ≡ g.order = one_order reports h.order g.order h.merged g.merged in
        h.number
        ∙ ap (λ k. k + 1) (one_stop (events g.order) h.before g.before (subst (λ o. StopsAt script (events o) h.before) one h.stops) g.stops)
        ∙ sym g.number

    pub one_replay : (a b : Replaying) → IsReplay script reports a → IsReplay script reports b → IsSameReplay script a b
    one_replay (Stopped m) (Stopped n) h g = same_number m n h g
    one_replay (Stopped m) (Replayed crew origins) h g = clash m (runnings_of crew) origins g h
    one_replay (Replayed crew origins) (Stopped n) h g = clash n (runnings_of crew) origins h g
    one_replay (Replayed crew origins) (Replayed other others) h g = alike (runnings_of crew) (runnings_of other) origins others h g
