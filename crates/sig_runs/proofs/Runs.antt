-- Runs: one choice more at the end, a run cut in two, and that its events tell its end.
use Rattle.std.proofs.Common.{◌≡◌, List, [], ◌∷◌, ◌++◌, Some, refl, sym, ap, ◌∙◌, subst}
use Rattle.std.proofs.lemmas.Option.{same_Some}
use Rattle.sig_runs.specs.Rules.{Rules}
use Rattle.sig_runs.specs.Machine.{Machine, At, Applied, Choice, apply, choice, IsRun}

module _ {S X E : Type 0} (rules : Rules S X E) where
  -- one choice more
  pub run-push : (es : List (At E)) (a : At E) (m mid end : Machine S X) → IsRun rules m es mid → apply rules mid (choice a.pid (rules.did a.event)) ≡ Some (record { machine = end; event = a.event }) → IsRun rules m (es ++ a ∷ []) end
  run-push [] a m mid end h step = (end, subst (λ (z : Machine S X). apply rules z (choice a.pid (rules.did a.event)) ≡ Some (record { machine = end; event = a.event })) (sym h) step, refl)
  run-push (b ∷ later) a m mid end h step = (h.0, h.1, run-push later a h.0 mid end h.2 step)

  -- a run of the first events and then of the others
  pub run-append : (es later : List (At E)) (m mid end : Machine S X) → IsRun rules m es mid → IsRun rules mid later end → IsRun rules m (es ++ later) end
  run-append [] later m mid end h g = subst (λ z. IsRun rules z later end) (sym h) g
  run-append (b ∷ es) later m mid end h g = (h.0, h.1, run-append es later h.0 mid end h.2 g)

  -- the same events from the same machine end in the same machine, and go on from there
  pub run-rest : (es later : List (At E)) (m mid end : Machine S X) → IsRun rules m es mid → IsRun rules m (es ++ later) end → IsRun rules mid later end
  run-rest [] later m mid end h g = subst (λ z. IsRun rules z later end) h g
  run-rest (b ∷ es) later m mid end h g =
      let same : record { machine = h.0; event = b.event } ≡ record { machine = g.0; event = b.event } =
      same_Some (record { machine = h.0; event = b.event }) (record { machine = g.0; event = b.event }) (sym h.1 ∙ g.1) in
      run-rest es later h.0 mid end h.2 (subst (λ (z : Machine S X). IsRun rules z (es ++ later) end) (sym (ap (λ (z : Applied S X E). z.machine) same)) g.2)

  -- what every choice keeps holds at the end of a run
  pub run_keeps : (Inv : Machine S X → Type 0) → ((m : Machine S X) (c : Choice) (next : Applied S X E) → Inv m → apply rules m c ≡ Some next → Inv next.machine) → (es : List (At E)) (m end : Machine S X) → Inv m → IsRun rules m es end → Inv end
  run_keeps Inv keeps [] m end inv h = subst Inv h inv
  run_keeps Inv keeps (a ∷ later) m end inv h = run_keeps Inv keeps later h.0 end (keeps m (choice a.pid (rules.did a.event)) (record { machine = h.0; event = a.event }) inv h.1) h.2
