use Rattle.std.proofs.Common.{ℕ, List, ◌∷◌, refl, ap, sym, ◌∙◌, subst, []}
use Rattle.sig_layout.specs.declared.knows.Knows.{Knows}
use Rattle.sig_layout.specs.Core.{Begins, some_refused}
use Rattle.sig_queue.specs.declared.slot.Slot.{Slot}
use Rattle.sig_queue.specs.declared.slot.Slot.TheVariants as slot
use Rattle.sig_queue.specs.Calls.{PutHeld}
use Rattle.sig_queue.specs.Tied.{Held}
use Rattle.sig_queue.proofs.Offering.{out_held}
use Rattle.sig_queue.proofs.Bodies.{Keeps}
use Rattle.sig_queue.proofs.to_outer.offer_outer.Code as code
use Rattle.sig_queue.proofs.to_outer.offer_outer.Goals as goal

pub try_outer-found-requires-clause-idle : goal.try_outer-found-requires-clause-idle
try_outer-found-requires-clause-idle c = (c.requires.idle.0, c.requires.somebody.0, c.requires.somebody.1)

pub returns-then-found-ne0-clause-bare : goal.returns-then-found-ne0-clause-bare
returns-then-found-ne0-clause-bare c = let r = c.try_outer-found.ensures.refused c.if-found-ne0.true in ap (λ (m : Held). m.1) r.0 ∙ c.requires.idle.4

pub returns-then-found-ne0-clause-offered : goal.returns-then-found-ne0-clause-offered
returns-then-found-ne0-clause-offered c = let r = c.try_outer-found.ensures.refused c.if-found-ne0.true in (refl, ap (λ (m : Held). m.0) r.0, r.1)

pub put_held-requires-clause-begins : goal.put_held-requires-clause-begins
put_held-requires-clause-begins c = let i = c.requires.idle in let t = c.try_outer-found.ensures.took c.if-found-ne0.false in (
  t.0,
  subst (λ (v : Knows). Begins v t.0) (sym (ap (λ (m : Held). m.0) t.1)) (record { held = refl; fetching = i.1; removing = i.2; switched = i.3 }),
  ap (λ (m : Held). m.1) t.1 ∙ ap (λ (r : List (ℕ × Slot)). (0, slot.Outer t.0) ∷ r) i.4,
)

pub put_held-requires-clause-off : goal.put_held-requires-clause-off
put_held-requires-clause-off c = let t = c.try_outer-found.ensures.took c.if-found-ne0.false in ap (λ (m : Held). m.0.saw_off) t.1 ∙ c.requires.off

pub put_held-requires-clause-refused : goal.put_held-requires-clause-refused
put_held-requires-clause-refused c = let t = c.try_outer-found.ensures.took c.if-found-ne0.false in c.requires.refused ∙ sym (ap (λ (m : Held). some_refused m.0.refused) t.1)

pub returns-clause-offered : goal.returns-clause-offered
returns-clause-offered c = let t = c.try_outer-found.ensures.took c.if-found-ne0.false in
    out_held c.args.signal c.args.place.now.me.0 c.put_held.new.place.me.0 t.0 c.put_held.result c.requires.idle.0
    (subst (λ (m : Held). PutHeld c.args.signal m.0 c.put_held.result c.put_held.new.place.me.0) t.1 c.put_held.ensures.offered)

code_keeps : Keeps [] code.function
code_keeps = (refl, refl)
