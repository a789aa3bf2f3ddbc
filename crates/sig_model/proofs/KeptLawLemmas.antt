-- A lawful crew stays lawful at each event of one of its processes, and at each delivery.
use Rattle.std.proofs.Common.{◌≡◌, ◌≢◌, ℕ, ◌<◌, List, [], ◌∷◌, ◌++◌, length, cond, Some, refl, sym, ap, ◌∙◌, subst}
use Rattle.std.specs.Prelude.{All, get_or, slice_get, slice_set}
use Rattle.std.proofs.Math.Path.{fun_ext}
use Rattle.std.proofs.Math.Seq.{map-set_same}
use Rattle.std.proofs.lemmas.Bool.{eq-eqb, ne_eqb}
use Rattle.std.proofs.lemmas.List.{length-set, map-set}
use Rattle.std.proofs.lemmas.List.Elements.{All-head, All-tail}
use Rattle.std.proofs.lemmas.Option.{same_Some, slice_get-get_or, get_or_from_slice_get}
use Rattle.sig_kinds.specs.declared.signal.Signal.{Signal}
use Rattle.sig_kinds.specs.SignalNames.{IsSignalBelow}
use Rattle.sig_program.specs.Scripts.{Program}
use Rattle.sig_runs.specs.LocalRun.{Input, Act, CanDo}
use Rattle.sig_runs.specs.LocalRun.Input.{Execute, Handle}
use Rattle.sig_runs.specs.OnTheWay.{IsHandledNext, DoesAct, Delivers, outgoing, boxes_after, boxes_with}
use Rattle.sig_runs.proofs.AtWork.{act_keeps_lawful, act_steps, delivery_keeps_lawful, delivery_is_no_step}
use Rattle.sig_runs.proofs.Lists.{slice_get-set_other}
use Rattle.sig_runs.proofs.Replay.{one_more}
use Rattle.sig_model.specs.declared.event.Event.{Event}
use Rattle.sig_model.specs.ProcessState.{ProcessState}
use Rattle.sig_model.specs.Machine.{rules_with, rules_of, opening_of}
use Rattle.sig_model.specs.Running.{Running}
use Rattle.sig_model.specs.OneWorker.{arrived}
use Rattle.sig_model.specs.Keeping.{IsArriving, IsLeaving, IsKeeping, own_rules, opening_local, local_of}
use Rattle.sig_model.specs.SettledRun.{IsProcessOf}
use Rattle.sig_model.specs.CrewLaw.{outbox_of, ArePaired, IsLawfulCrew, IsMachineStep, whole_member, crew_at_work, machine_of}
use Rattle.sig_model.proofs.Lookups.{at_set}
use Rattle.sig_model.proofs.StampLemmas.{stamps_kept}
use Rattle.sig_model.proofs.EventLemmas.{member_of, IsEventOf, IsStep, step_event}
use Rattle.sig_model.proofs.KeepLemmas.{part, step_keeps, arrived_keeps, outbox_keeps, leaving_arrives}
use Rattle.sig_model.proofs.NumberLemmas.{keeping_numbered}
use Rattle.sig_model.proofs.LawLemmas.{can_elsewhere, kept_of, mate_at, paired, lawful_at_work}

-- what the law says of one process, of a script
pub record IsMember (script : Program) (p : ℕ) (r : Running) : Type 0 where
  pub process : IsProcessOf script p r
  pub count : r.count ≡ length script.procs
  pub keeping : IsKeeping r

abbrev pub AreMembers : Program → List Running → Type 0
AreMembers script crew = (p : ℕ) (r : Running) → slice_get crew p ≡ Some r → IsMember script p r

module _ (script : Program) where
  pub members_of : (crew : List Running) → IsLawfulCrew script crew → AreMembers script crew
  members_of crew law p r at = record { process = law.processes p r at; count = (law.placed p r at).1 ∙ law.many; keeping = law.keeping p r at }

  pub lawful_of : (crew : List Running) → length crew ≡ length script.procs → AreMembers script crew → ArePaired crew → IsLawfulCrew script crew
  lawful_of crew many members pairs = record {
    many = many;
    placed = λ p r at. ((members p r at).process.pid, (members p r at).count ∙ sym many);
    processes = λ p r at. (members p r at).process;
    keeping = λ p r at. (members p r at).keeping;
    numbered = λ p r at. keeping_numbered r (members p r at).keeping;
    pairs = pairs;
  }

  -- one process is changed
  members_set : (crew : List Running) (p : ℕ) (r t : Running) → slice_get crew p ≡ Some r → AreMembers script crew → IsMember script p t → AreMembers script (slice_set crew p t)
  members_set crew p r t there members m q =
      at_set (λ q o. (u : Running) → o ≡ Some u → IsMember script q u) crew p r t there
      (λ u e. subst (λ z. IsMember script p z) (same_Some t u e) m) (λ q h. members q) q

  -- the lists of the signals of others, and of those to others
  lists_member : (p : ℕ) (r : Running) (taken out : List Signal) → IsMember script p r → IsKeeping (record r { taken_in = taken; outbox = out }) → IsMember script p (record r { taken_in = taken; outbox = out })
  lists_member p r taken out m k = record {
    process = record { pid = m.process.pid; turns = m.process.turns; proc = m.process.proc };
    count = m.count;
    keeping = k;
  }

  module _ (crew : List Running) (law : IsLawfulCrew script crew) (p : ℕ) (r : Running) (there : slice_get crew p ≡ Some r) where
    abbrev process : IsProcessOf script p r
    process = law.processes p r there

    abbrev keeps : IsKeeping r
    keeps = law.keeping p r there

    module _ (t : Running) (step : IsStep r t) where
      event : IsEventOf script p r t
      event = step_event script.turns (slice_get script.procs) p r t (kept_of script p r process keeps) step

      abbrev after : List Running
      after = slice_set crew p t

      step_member : IsMember script p t
      step_member = record {
        process = record {
          pid = ap (λ (z : Running). z.pid) event.is ∙ process.pid;
          turns = ap (λ (z : Running). z.turns) event.is ∙ process.turns;
          proc = process.proc ∙ ap (λ (z : Running). Some z.proc) (sym event.is);
        };
        count = ap (λ (z : Running). z.count) event.is ∙ (law.placed p r there).1 ∙ law.many;
        keeping = step_keeps r t keeps step;
      }

      abbrev act : Act ProcessState Signal Event
      act = record { input = event.input; effect = event.effect }

      can_alone : CanDo (own_rules r) r.pid (local_of r) event.input event.effect
      can_alone =
          subst (λ n. CanDo (rules_with n (part r)) r.pid (local_of r) event.input event.effect) (sym process.turns)
          (subst (λ q. CanDo (rules_with script.turns (part r)) q (local_of r) event.input event.effect) (sym process.pid)
          (can_elsewhere script.turns (slice_get script.procs) (part r) p process.proc (local_of r) event.input event.effect event.can))

      more : (whole_member t).acts ≡ (whole_member r).acts ++ act ∷ []
      more =
          ap (λ z. (whole_member z).acts) event.is
          ∙ (one_more (own_rules r) (stamps_kept r.turns (part r)) r.pid (opening_local r) (local_of r) r.events r.handled act keeps.ran can_alone).acts_more

      next_of : (i : Input Signal) → IsHandledNext (rules_of script) p (member_of r) i → IsHandledNext (rules_of script) p (whole_member r) i
      next_of Execute h = h
      next_of (Handle x) h = h

      boxes : (q : ℕ) → outbox_of (slice_get after q) ≡ boxes_after (rules_of script) p event.effect.sends (λ s. outbox_of (slice_get crew s)) q
      boxes =
          at_set (λ q o. outbox_of o ≡ boxes_after (rules_of script) p event.effect.sends (λ s. outbox_of (slice_get crew s)) q) crew p r t there
          (ap (λ (z : Running). z.outbox) event.is
          ∙ ap (λ o. outbox_of o ++ outgoing (rules_of script) p event.effect.sends) (sym there)
          ∙ ap (λ c. cond c (outbox_of (slice_get crew p) ++ outgoing (rules_of script) p event.effect.sends) (outbox_of (slice_get crew p))) (sym (eq-eqb p p refl)))
          (λ q h. ap (λ c. cond c (outbox_of (slice_get crew q) ++ outgoing (rules_of script) p event.effect.sends) (outbox_of (slice_get crew q))) (sym (ne_eqb p q h)))

      does : DoesAct (rules_of script) (crew_at_work crew) p act (crew_at_work after)
      does = record {
        member = whole_member r;
        there = mate_at script crew p (Some r) there;
        can = event.can;
        next = next_of event.input event.next;
        grown = whole_member t;
        local = ap (λ z. local_of z) event.is;
        taken_in = ap (λ (z : Running). z.taken_in) event.is;
        acts = more;
        crew = map-set whole_member crew p t;
        outbox = fun_ext boxes;
      }

      -- an event of one process keeps the crew lawful
      pub step_lawful : IsLawfulCrew script after
      step_lawful =
          let members : AreMembers script after = members_set crew p r t there (members_of crew law) step_member in
          lawful_of after (length-set crew p t ∙ law.many) members
          (paired script after (λ q u at. (members q u at).keeping)
          (act_keeps_lawful (rules_of script) (opening_of script) (crew_at_work crew) (crew_at_work after) (lawful_at_work script crew law) (stamps_kept script.turns (slice_get script.procs)) p act does))

      -- and is one step of the script's machine
      pub step_applies : IsMachineStep script crew p r t
      step_applies = record {
        event = event.effect.event;
        more = ap (λ (z : Running). z.events) event.is;
        step = act_steps (rules_of script) (opening_of script) (crew_at_work crew) (crew_at_work after) (lawful_at_work script crew law) (stamps_kept script.turns (slice_get script.procs)) p act does;
      }

    module _ (x : Signal) (left : List Signal) (oldest : r.outbox ≡ x ∷ left) where
      abbrev fetched : Running
      fetched = record r { outbox = left }

      leaving : All (IsLeaving r.pid r.state.counts.stamp) (x ∷ left)
      leaving = subst (λ xs. All (IsLeaving r.pid r.state.counts.stamp) xs) oldest keeps.outbox

      below : All (IsSignalBelow r.count) (x ∷ left)
      below = subst (λ xs. All (IsSignalBelow r.count) xs) oldest keeps.below.outbox

      abbrev first : IsLeaving r.pid r.state.counts.stamp x
      first = All-head (IsLeaving r.pid r.state.counts.stamp) x left leaving

      pub apart : p ≢ x.to.0
      apart e = first.to (sym (process.pid ∙ e))

      -- its receiver is there
      pub receiver : (u : Running) × (slice_get crew x.to.0 ≡ Some u)
      receiver =
          let lt : x.to.0 < length crew = subst (λ n. x.to.0 < n) (law.placed p r there).1 (All-head (IsSignalBelow r.count) x left below).to in
          (get_or crew x.to.0 r, slice_get-get_or crew x.to.0 r lt)

      module _ (u : Running) (at : slice_get crew x.to.0 ≡ Some u) where
        abbrev middle : List Running
        middle = slice_set crew p fetched

        abbrev delivered : List Running
        delivered = slice_set middle x.to.0 (arrived u x)

        at_middle : slice_get middle x.to.0 ≡ Some u
        at_middle = slice_get-set_other crew p x.to.0 fetched apart ∙ at

        members : AreMembers script delivered
        members =
            let all : AreMembers script crew = members_of crew law in
            let here : IsMember script p fetched =
            lists_member p r r.taken_in left (all p r there)
            (outbox_keeps r left keeps (All-tail (IsLeaving r.pid r.state.counts.stamp) x left leaving) (All-tail (IsSignalBelow r.count) x left below)) in
            let w : IsMember script x.to.0 u = all x.to.0 u at in
            let arrives : IsArriving u.pid u.count x = subst (λ q. IsArriving q u.count x) (sym w.process.pid) (subst (λ n. IsArriving x.to.0 n x) ((all p r there).count ∙ sym w.count) (leaving_arrives r x keeps first (All-head (IsSignalBelow r.count) x left below))) in
            members_set middle x.to.0 u (arrived u x) at_middle (members_set crew p r fetched there all here)
            (lists_member x.to.0 u (u.taken_in ++ x ∷ []) u.outbox w (arrived_keeps u x w.keeping arrives))

        boxes_left : (q : ℕ) → outbox_of (slice_get delivered q) ≡ boxes_with p left (λ s. outbox_of (slice_get crew s)) q
        boxes_left =
            at_set (λ q o. outbox_of o ≡ boxes_with p left (λ s. outbox_of (slice_get crew s)) q) middle x.to.0 u (arrived u x) at_middle
            (ap (λ o. outbox_of o) (sym at) ∙ ap (λ c. cond c left (outbox_of (slice_get crew x.to.0))) (sym (ne_eqb p x.to.0 apart)))
            (λ q h. at_set (λ q o. outbox_of o ≡ boxes_with p left (λ s. outbox_of (slice_get crew s)) q) crew p r fetched there
            (ap (λ c. cond c left (outbox_of (slice_get crew p))) (sym (eq-eqb p p refl)))
            (λ q h. ap (λ c. cond c left (outbox_of (slice_get crew q))) (sym (ne_eqb p q h))) q)

        delivers : Delivers (rules_of script) (crew_at_work crew) p x.to.0 (crew_at_work delivered)
        unfolding rules_with
        delivers = record {
          signal = x;
          left = left;
          oldest = ap (λ o. outbox_of o) there ∙ oldest;
          sender = first.from ∙ process.pid;
          receiver = refl;
          apart = apart;
          member = whole_member u;
          there = mate_at script crew x.to.0 (Some u) at;
          given = whole_member (arrived u x);
          local = refl;
          taken_in = refl;
          acts = refl;
          crew = map-set whole_member middle x.to.0 (arrived u x)
              ∙ ap (λ ms. slice_set ms x.to.0 (whole_member (arrived u x)))
              (map-set_same whole_member crew p fetched r (ap (λ z. whole_member z) (sym (get_or_from_slice_get crew p r r there))));
          outbox = fun_ext boxes_left;
        }

        -- a delivery keeps the crew lawful
        pub delivery_lawful : IsLawfulCrew script delivered
        delivery_lawful =
            lawful_of delivered (length-set middle x.to.0 (arrived u x) ∙ length-set crew p fetched ∙ law.many) members
            (paired script delivered (λ q v e. (members q v e).keeping)
            (delivery_keeps_lawful (rules_of script) (opening_of script) (crew_at_work crew) (crew_at_work delivered) (lawful_at_work script crew law) p x.to.0 delivers))

        -- and is no step
        pub delivery_still : machine_of script delivered ≡ machine_of script crew
        delivery_still = delivery_is_no_step (rules_of script) (opening_of script) (crew_at_work crew) (crew_at_work delivered) (lawful_at_work script crew law) p x.to.0 delivers
