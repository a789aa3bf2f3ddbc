-- A crew in which what waits for one process stands in another order, each sender's signals as before: it is lawful too, and its
-- machine is the same.
use Rattle.std.proofs.Common.{◌≡◌, ℕ, zero, suc, List, [], ◌∷◌, ◌++◌, map, cond, Option, Some, refl, sym, ap, ◌∙◌, subst}
use Rattle.std.specs.Prelude.{All, ◌==◌, slice_get, slice_set}
use Rattle.std.specs.Option.{option_map}
use Rattle.std.proofs.Math.Path.{fun_ext, ap₂}
use Rattle.std.proofs.lemmas.List.{length-set}
use Rattle.std.proofs.lemmas.List.Elements.{All-weaker, filter-append}
use Rattle.std.proofs.lemmas.Option.{same_Some, slice_get-map}
use Rattle.sig_kinds.specs.declared.signal.Signal.{Signal}
use Rattle.sig_kinds.specs.SignalNames.{IsSignalBelow}
use Rattle.sig_program.specs.Scripts.{Program}
use Rattle.sig_runs.specs.Rules.{addressed}
use Rattle.sig_runs.specs.Crew.{Member}
use Rattle.sig_runs.specs.OnTheWay.{own_part, taken_in_part, on_way}
use Rattle.sig_model.specs.declared.event.Event.{Event}
use Rattle.sig_model.specs.ProcessState.{ProcessState}
use Rattle.sig_model.specs.Machine.{rules_with, rules_of}
use Rattle.sig_model.specs.Running.{Running}
use Rattle.sig_model.specs.Keeping.{IsArriving, IsKeeping}
use Rattle.sig_model.specs.Accounts.{sent_by, coming_from}
use Rattle.sig_model.specs.SettledRun.{IsProcessOf}
use Rattle.sig_model.specs.CrewLaw.{came_to, went_from, outbox_of, left_for, ArePaired, IsLawfulCrew, whole_member, machine_of}
use Rattle.sig_model.proofs.Lookups.{at_set}
use Rattle.sig_model.proofs.KeptLawLemmas.{IsMember, AreMembers, members_of, lawful_of}
use Rattle.sig_choices.specs.Waiting.{AreAlike}

abbrev pub CrewMember : Type 0
CrewMember = Member ProcessState Signal Event

abbrev pub crew_member : Option Running → Option CrewMember
crew_member o = option_map whole_member o

module _ (script : Program) (crew : List Running) (law : IsLawfulCrew script crew) (p : ℕ) (r : Running) (there : slice_get crew p ≡ Some r)
    (xs : List Signal) (alike : AreAlike xs r.taken_in) (arriving : All (IsArriving r.pid r.count) xs) where
  abbrev pub reordered : Running
  reordered = record r { taken_in = xs }

  abbrev pub reordered_crew : List Running
  reordered_crew = slice_set crew p reordered

  abbrev k : IsKeeping r
  k = law.keeping p r there

  keeps : IsKeeping reordered
  keeps = record {
    below = record {
      pid = k.below.pid;
      proc = k.below.proc;
      tables = k.below.tables;
      handled = k.below.handled;
      own = k.below.own;
      taken_in = All-weaker (IsArriving r.pid r.count) (IsSignalBelow r.count) (λ x a. a.below) xs arriving;
      outbox = k.below.outbox;
    };
    ran = k.ran;
    owner = k.owner;
    within = k.within;
    bounds = k.bounds;
    low = k.low;
    own = k.own;
    taken_in = arriving;
    outbox = k.outbox;
  }

  member : IsMember script p reordered
  member =
      let w : IsProcessOf script p r = law.processes p r there in
      record {
        process = record { pid = w.pid; turns = w.turns; proc = w.proc };
        count = (law.placed p r there).1 ∙ law.many;
        keeping = keeps;
      }

  members : AreMembers script reordered_crew
  members q =
      at_set (λ q o. (u : Running) → o ≡ Some u → IsMember script q u) crew p r reordered there
      (λ u e. subst (λ z. IsMember script p z) (same_Some reordered u e) member) (λ q h. members_of script crew law q) q

  came_here : (s : ℕ) → came_to s (Some reordered) ≡ came_to s (Some r)
  came_here s =
      filter-append (λ (x : Signal). x.from.0 == s) r.handled xs
      ∙ ap (λ z. coming_from s r.handled ++ z) (alike s)
      ∙ sym (filter-append (λ (x : Signal). x.from.0 == s) r.handled r.taken_in)

  came_same : (s t : ℕ) → came_to s (slice_get reordered_crew t) ≡ came_to s (slice_get crew t)
  came_same s =
      at_set (λ t o. came_to s o ≡ came_to s (slice_get crew t)) crew p r reordered there
      (came_here s ∙ ap (λ o. came_to s o) (sym there)) (λ q h. refl)

  left_same : (t s : ℕ) → left_for t (slice_get reordered_crew s) ≡ left_for t (slice_get crew s)
  left_same t =
      at_set (λ s o. left_for t o ≡ left_for t (slice_get crew s)) crew p r reordered there
      (ap (λ o. left_for t o) (sym there)) (λ q h. refl)

  went_here : (t : ℕ) → went_from t (Some reordered) ≡ went_from t (Some r)
  unfolding sent_by
  went_here t = refl

  went_same : (t s : ℕ) → went_from t (slice_get reordered_crew s) ≡ went_from t (slice_get crew s)
  went_same t =
      at_set (λ s o. went_from t o ≡ went_from t (slice_get crew s)) crew p r reordered there
      (went_here t ∙ ap (λ o. went_from t o) (sym there)) (λ q h. refl)

  paired : ArePaired reordered_crew
  paired s t ne =
      ap₂ (λ a b. a ++ b) (came_same s t) (left_same t s) ∙ law.pairs s t ne ∙ sym (went_same t s)

  -- it is lawful
  pub reordered_lawful : IsLawfulCrew script reordered_crew
  reordered_lawful = lawful_of script reordered_crew (length-set crew p reordered ∙ law.many) members paired

  states_same : (rs : List Running) (q : ℕ) → slice_get rs q ≡ Some r →
      map (λ (n : CrewMember). n.local.state) (map whole_member (slice_set rs q reordered)) ≡ map (λ (n : CrewMember). n.local.state) (map whole_member rs)
  states_same [] q h = cc
  states_same (u ∷ us) zero h =
      ap (λ (z : Running). z.state ∷ map (λ (n : CrewMember). n.local.state) (map whole_member us)) (sym (same_Some u r h))
  states_same (u ∷ us) (suc q) h = ap (λ zs. u.state ∷ zs) (states_same us q h)

  own_same : (t : ℕ) → own_part (crew_member (slice_get reordered_crew t)) ≡ own_part (crew_member (slice_get crew t))
  own_same =
      at_set (λ t o. own_part (crew_member o) ≡ own_part (crew_member (slice_get crew t))) crew p r reordered there
      (ap (λ o. own_part (crew_member o)) (sym there)) (λ q h. refl)

  taken_here : (s : ℕ) → taken_in_part (rules_of script) s (crew_member (Some reordered)) ≡ taken_in_part (rules_of script) s (crew_member (Some r))
  unfolding rules_with
  taken_here s = alike s

  taken_same : (s t : ℕ) → taken_in_part (rules_of script) s (crew_member (slice_get reordered_crew t)) ≡ taken_in_part (rules_of script) s (crew_member (slice_get crew t))
  taken_same s =
      at_set (λ t o. taken_in_part (rules_of script) s (crew_member o) ≡ taken_in_part (rules_of script) s (crew_member (slice_get crew t))) crew p r reordered there
      (taken_here s ∙ ap (λ o. taken_in_part (rules_of script) s (crew_member o)) (sym there)) (λ q h. refl)

  box_same : (s : ℕ) → outbox_of (slice_get reordered_crew s) ≡ outbox_of (slice_get crew s)
  box_same =
      at_set (λ s o. outbox_of o ≡ outbox_of (slice_get crew s)) crew p r reordered there
      (ap (λ o. outbox_of o) (sym there)) (λ q h. refl)

  abbrev way : List Running → ℕ → ℕ → List Signal
  way rs = on_way (rules_of script) (map whole_member rs) (λ q. outbox_of (slice_get rs q))

  -- what is on its way, process by process
  abbrev parts : List Running → ℕ → ℕ → List Signal
  parts rs s t =
      cond (s == t) (own_part (crew_member (slice_get rs t)))
      (taken_in_part (rules_of script) s (crew_member (slice_get rs t)) ++ addressed (rules_of script) t (outbox_of (slice_get rs s)))

  way_is : (rs : List Running) (s t : ℕ) → way rs s t ≡ parts rs s t
  way_is rs s t =
      ap (λ o. cond (s == t) (own_part o) (taken_in_part (rules_of script) s o ++ addressed (rules_of script) t (outbox_of (slice_get rs s)))) (slice_get-map whole_member rs t)

  parts_same : (s t : ℕ) → parts reordered_crew s t ≡ parts crew s t
  parts_same s t =
      ap (λ z. cond (s == t) z (taken_in_part (rules_of script) s (crew_member (slice_get reordered_crew t)) ++ addressed (rules_of script) t (outbox_of (slice_get reordered_crew s)))) (own_same t)
      ∙ ap₂ (λ a b. cond (s == t) (own_part (crew_member (slice_get crew t))) (a ++ addressed (rules_of script) t b)) (taken_same s t) (box_same s)

  way_same : way reordered_crew ≡ way crew
  way_same = fun_ext (λ s. fun_ext (λ t. way_is reordered_crew s t ∙ parts_same s t ∙ sym (way_is crew s t)))

  -- and its machine is the same
  pub reordered_still : machine_of script reordered_crew ≡ machine_of script crew
  reordered_still = ap₂ (λ a b. record { procs = a; queued = b }) (states_same crew p there) way_same
