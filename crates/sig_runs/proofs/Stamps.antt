-- No stamp of a local run is above the last one of its end.
use Rattle.std.proofs.Common.{◌≡◌, ℕ, ◌<◌, ◌≤◌, List, [], ◌∷◌, subst, arith}
use Rattle.std.specs.List.{All}
use Rattle.std.proofs.lemmas.List.Elements.{All-nil, All-cons, All-append, All-map}
use Rattle.sig_runs.specs.Rules.{Effect, Rules, KeepStamps}
use Rattle.sig_runs.specs.LocalRun.{Local, Input, Act, CanDo, after, IsLocalRun, handled_in, handles}
use Rattle.sig_runs.specs.LocalRun.Input.{Execute, Handle}
use Rattle.sig_runs.specs.Replay.{RanAlone, acts_told}
use Rattle.sig_runs.proofs.Steps.{act_stamp, handled_above}

module _ {S X E : Type 0} (rules : Rules S X E) (stamped : KeepStamps rules) (p : ℕ) where
  abbrev IsEarlier : Local S X → X → Type 0
  IsEarlier end x = rules.stamp x < rules.last end.state

  abbrev IsEventBy : Local S X → Act S X E → Type 0
  IsEventBy end a = rules.event_stamp a.effect.event ≤ rules.last end.state

  handled_earlier : (l end : Local S X) (i : Input X) (ef : Effect S X E) → CanDo rules p l i ef → rules.event_stamp ef.event ≤ rules.last end.state → All (IsEarlier end) (handled_in i)
  handled_earlier l end Execute ef can le = All-nil (IsEarlier end)
  handled_earlier l end (Handle x) ef can le =
      let above : rules.stamp x < rules.event_stamp ef.event = handled_above rules stamped p l x ef can in
      All-cons (IsEarlier end) x [] (omega (arith, above, le)) (All-nil (IsEarlier end))

  acts_below : (acts : List (Act S X E)) (l end : Local S X) → IsLocalRun rules p l acts end
      → (rules.last l.state ≤ rules.last end.state) × All (IsEventBy end) acts × All (IsEarlier end) (handles acts)
  acts_below [] l end h = (subst (λ (e : Local S X). rules.last l.state ≤ rules.last e.state) h (omega arith), All-nil (IsEventBy end), All-nil (IsEarlier end))
  acts_below (a ∷ later) l end h =
      let rest : (rules.last a.effect.state ≤ rules.last end.state) × All (IsEventBy end) later × All (IsEarlier end) (handles later) = acts_below later (after rules p l a) end h.1 in
      let stamp : (rules.event_stamp a.effect.event ≡ rules.last a.effect.state) × (rules.last l.state < rules.event_stamp a.effect.event) = act_stamp rules stamped p l a.input a.effect h.0 in
      let by : rules.event_stamp a.effect.event ≤ rules.last end.state = omega (arith, stamp.0, rest.0) in (
        omega (arith, stamp.1, by),
        All-cons (IsEventBy end) a later by rest.1,
        All-append (IsEarlier end) (handled_in a.input) (handles later) (handled_earlier l end a.input a.effect h.0 by) rest.2,
      )

  module _ (l end : Local S X) (events : List E) (handled : List X) (ran : RanAlone rules p l events handled end) where
    pub events_by_last : All (λ e. rules.event_stamp e ≤ rules.last end.state) events
    events_by_last =
        subst (λ es. All (λ e. rules.event_stamp e ≤ rules.last end.state) es) ran.events_told
        (All-map (λ e. rules.event_stamp e ≤ rules.last end.state) (λ (a : Act S X E). a.effect.event) (acts_told rules p l events handled) (acts_below (acts_told rules p l events handled) l end ran.runs).1)

    pub handled_before_last : All (λ x. rules.stamp x < rules.last end.state) handled
    handled_before_last = subst (All (IsEarlier end)) ran.handled_told (acts_below (acts_told rules p l events handled) l end ran.runs).2
