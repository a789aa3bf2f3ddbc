-- The lists of a pair: what a process's own run tells of its signals to itself, and what a round keeps.
use Rattle.std.proofs.Common.{append_assoc, ◌≡◌, ℕ, Bool, true, false, cond, List, [], ◌∷◌, ◌++◌, drop, refl, sym, ap, ◌∙◌}
use Rattle.std.specs.Prelude.{◌==◌, if◌then◌else◌}
use Rattle.std.specs.Bool.{MatchBool}
use Rattle.std.proofs.lemmas.List.{append-nil}
use Rattle.std.proofs.lemmas.List.Elements.{filter-append}
use Rattle.sig_runs.specs.Rules.{Effect, Rules, addressed, coming_from}
use Rattle.sig_runs.specs.LocalRun.{Local, Input, Act, CanDo, after, IsLocalRun, handles, sends, handled_in, own_left}
use Rattle.sig_runs.proofs.Lists.{own_step}
use Rattle.sig_runs.specs.LocalRun.Input.{Execute, Handle}

module _ {S X E : Type 0} (rules : Rules S X E) (p : ℕ) where
  own_moves : (l : Local S X) (i : Input X) (ef : Effect S X E) → CanDo rules p l i ef → coming_from rules p (handled_in i) ++ own_left rules p i l.own ≡ l.own
  own_moves l Execute ef can = refl
  own_moves l (Handle x) ef can = go (rules.from x == p) l.own can.2
    where
      go : (c : Bool) (own : List X) → MatchBool c ((rest : List X) × (own ≡ x ∷ rest)) (own ≡ []) → cond c (x ∷ []) [] ++ (if c then drop 1 own else own) ≡ own
      go true own h = rw h.1 refl
      go false own h = refl

  -- The signals to itself that a process handled, and then those that it has not, are those that it sent to itself. So
  -- the law of the pair (p, p) follows from the local run.
  pub own_law : (acts : List (Act S X E)) (l end : Local S X) → IsLocalRun rules p l acts end → coming_from rules p (handles acts) ++ end.own ≡ l.own ++ addressed rules p (sends acts)
  own_law [] l end h = ap (λ (z : Local S X). z.own) (sym h) ∙ sym (append-nil l.own)
  own_law (a ∷ later) l end h =
      ap (λ z. z ++ end.own) (filter-append (λ x. rules.from x == p) (handled_in a.input) (handles later))
      ∙ own_step (coming_from rules p (handled_in a.input)) (coming_from rules p (handles later)) end.own l.own (own_left rules p a.input l.own) (addressed rules p a.effect.sends) (addressed rules p (sends later))
      (own_moves l a.input a.effect h.0) (own_law later (after rules p l a) end h.1)
      ∙ ap (λ z. l.own ++ z) (sym (filter-append (λ x. rules.to x == p) a.effect.sends (sends later)))

-- A round keeps the law of a pair. Before it, t handled H of s, had Q of s queued, and s had sent t A. In it t fetched F
-- of s and s put N; the queue has R of s left at its end, which goes behind what is queued.
pub round_pair : {X : Type 0} (H Q A H' Q' F N R : List X) → H ++ Q ≡ A → H' ++ Q' ≡ (H ++ Q) ++ F → N ≡ F ++ R → H' ++ (Q' ++ R) ≡ A ++ N
round_pair H Q A H' Q' F N R old grew closed =
    sym (append_assoc H' Q' R) ∙ ap (λ z. z ++ R) grew ∙ append_assoc (H ++ Q) F R ∙ ap (λ z. z ++ (F ++ R)) old ∙ ap (λ z. A ++ z) (sym closed)
