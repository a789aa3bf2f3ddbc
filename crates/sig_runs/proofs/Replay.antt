-- The lists that a process keeps tell its local run, and one more event makes both one longer.
use Rattle.std.proofs.Common.{◌≡◌, ℕ, List, [], ◌∷◌, ◌++◌, map, refl, sym, ap, ◌∙◌, subst, append_assoc}
use Rattle.std.proofs.lemmas.List.{append-nil, map-append}
use Rattle.std.proofs.Math.Path.{ap₂}
use Rattle.sig_runs.specs.Rules.{Effect, Rules, KeepStamps}
use Rattle.sig_runs.specs.LocalRun.{Local, Input, Act, CanDo, after, IsLocalRun, handled_in, handles, sends}
use Rattle.sig_runs.specs.LocalRun.Input.{Execute, Handle}
use Rattle.sig_runs.specs.Replay.{exec_act, handle_act, replay, acts_told, RanAlone, OneMore}

pub handles-push : {S X E : Type 0} (acts : List (Act S X E)) (a : Act S X E) → handles (acts ++ a ∷ []) ≡ handles acts ++ handled_in a.input
handles-push [] a = append-nil (handled_in a.input)
handles-push (b ∷ later) a = ap (λ z. handled_in b.input ++ z) (handles-push later a) ∙ sym (append_assoc (handled_in b.input) (handles later) (handled_in a.input))

pub sends-push : {S X E : Type 0} (acts : List (Act S X E)) (a : Act S X E) → sends (acts ++ a ∷ []) ≡ sends acts ++ a.effect.sends
sends-push [] a = append-nil a.effect.sends
sends-push (b ∷ later) a = ap (λ z. b.effect.sends ++ z) (sends-push later a) ∙ sym (append_assoc b.effect.sends (sends later) a.effect.sends)

module _ {S X E : Type 0} (rules : Rules S X E) (stamped : KeepStamps rules) (p : ℕ) where
  abbrev told_by : Local S X → List (Act S X E) → List (Act S X E)
  told_by l acts = acts_told rules p l (map (λ a. a.effect.event) acts) (handles acts)

  -- the acts of a local run are told by its events and its handled signals
  pub told : (acts : List (Act S X E)) (l end : Local S X) → IsLocalRun rules p l acts end → told_by l acts ≡ acts
  told [] l end h = refl
  told (a ∷ later) l end h = go a.input a.effect h.0 (told later (after rules p l a) end h.1)
    where
      Rest : List (Act S X E) → Input X → Effect S X E → Type 0
      Rest later i ef = told_by (after rules p l (record { input = i; effect = ef })) later ≡ later

      go : (i : Input X) (ef : Effect S X E) → CanDo rules p l i ef → Rest later i ef →
          replay rules p l (rules.did ef.event ∷ map rules.did (map (λ b. b.effect.event) later)) (handled_in i ++ handles later) ≡ record { input = i; effect = ef } ∷ later
      go Execute ef can ih = rw (stamped.executed p l.state ef can.3).told (rw (can.3, replay) (ap (λ z. exec_act ef ∷ z) ih))
      go (Handle x) ef can ih =
          let ih' : Rest later (Handle x) (rules.handle p l.state x) = subst (λ f. Rest later (Handle x) f) (sym can.3) ih in
          let is : record { input = Handle x; effect = ef } ≡ handle_act rules p l.state x = ap (λ f. record { input = Handle x; effect = f }) (sym can.3) in
          rw (← can.3) (rw (stamped.handled p l.state x).told (ap (λ z. handle_act rules p l.state x ∷ z) ih'))

  -- a local run by its acts
  pub from_acts : (acts : List (Act S X E)) (l end : Local S X) → IsLocalRun rules p l acts end → RanAlone rules p l (map (λ a. a.effect.event) acts) (handles acts) end
  from_acts acts l end h = record {
    runs = subst (λ z. IsLocalRun rules p l z end) (sym (told acts l end h)) h;
    events_told = ap (λ z. map (λ a. a.effect.event) z) (told acts l end h);
    handled_told = ap (λ z. handles z) (told acts l end h);
  }

  pub run-push : (acts : List (Act S X E)) (a : Act S X E) (l mid : Local S X) → IsLocalRun rules p l acts mid → CanDo rules p mid a.input a.effect → IsLocalRun rules p l (acts ++ a ∷ []) (after rules p mid a)
  run-push [] a l mid h can = (
    subst (λ (z : Local S X). CanDo rules p z a.input a.effect) (sym h) can,
    ap (λ (z : Local S X). after rules p z a) h,
  )
  run-push (b ∷ later) a l mid h can = (h.0, run-push later a (after rules p l b) mid h.1 can)

  -- one more act makes what the process keeps one longer
  pub one_more : (l mid : Local S X) (events : List E) (handled : List X) (a : Act S X E) → RanAlone rules p l events handled mid → CanDo rules p mid a.input a.effect → OneMore rules p l mid events handled a
  one_more l mid events handled a r can = record {
    ran = subst (λ z. RanAlone rules p l z (handled ++ handled_in a.input) (after rules p mid a)) evs (subst (λ z. RanAlone rules p l (map (λ b. b.effect.event) more) z (after rules p mid a)) hand ran);
    acts_more = sym (ap₂ (λ e h. acts_told rules p l e h) evs hand) ∙ told more l (after rules p mid a) runs;
    sent_more = ap (λ z. sends z) (sym (ap₂ (λ e h. acts_told rules p l e h) evs hand) ∙ told more l (after rules p mid a) runs) ∙ sends-push acts a;
  }
    where
      acts : List (Act S X E)
      acts = acts_told rules p l events handled

      more : List (Act S X E)
      more = acts ++ a ∷ []

      runs : IsLocalRun rules p l more (after rules p mid a)
      runs = run-push acts a l mid r.runs can

      ran : RanAlone rules p l (map (λ b. b.effect.event) more) (handles more) (after rules p mid a)
      ran = from_acts more l (after rules p mid a) runs

      evs : map (λ b. b.effect.event) more ≡ events ++ a.effect.event ∷ []
      evs = map-append (λ b. b.effect.event) acts (a ∷ []) ∙ ap (λ z. z ++ a.effect.event ∷ []) r.events_told

      hand : handles more ≡ handled ++ handled_in a.input
      hand = handles-push acts a ∙ ap (λ z. z ++ handled_in a.input) r.handled_told
