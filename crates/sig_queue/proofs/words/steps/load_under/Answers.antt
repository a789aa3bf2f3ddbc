use Rattle.std.proofs.Common.{rules, ◌<◌, ◌==◌, Bool, ap, ◌∙◌, subst, arith, refl}
use Rattle.sig_layout.specs.declared.policy.Policy.{Policy}
use Rattle.sig_layout.specs.Policies.{AllowsMode}
use Rattle.sig_layout.specs.Views.{saw_under}
use Rattle.sig_queue.specs.Tied.{Held}
use Rattle.sig_queue.specs.Parts.{first_part}
use Rattle.sig_queue.proofs.Ties.{loads_under, word_on}
use Rattle.sig_queue.proofs.Bodies.{OneStep}
use Rattle.sig_queue.proofs.words.steps.load_under.Code as code
use Rattle.sig_queue.proofs.words.steps.load_under.Goals as goal

pub load-requires : goal.load-requires
load-requires g c = let e = c.requires.one.1 in let low : (first_part c.args.place.now.me.0.parts).number < 64 = (let b = c.requires.table.2 in omega (arith, e)) in (search rules, search rules, loads_under _ _ _ _ _ _ c.requires.picked c.requires.idle c.requires.one.0 low)

pub returns-clause-saw : goal.returns-clause-saw
returns-clause-saw g c = let t = c.load.ensures.2 (first_part c.args.place.now.me.0.parts) c.requires.one.0 in
    t.2 ∙ ap (λ (on : Bool). let m : Held = (saw_under c.args.place.now.me.0 (first_part c.args.place.now.me.0.parts) on, c.args.place.now.me.1) in m) (word_on t.0 c.load.result t.1)

pub returns-clause-allowed : goal.returns-clause-allowed
returns-clause-allowed g c = let t = c.load.ensures.2 (first_part c.args.place.now.me.0.parts) c.requires.one.0 in
    subst (λ (p : Policy). AllowsMode p (c.load.result == 1)) c.requires.picked (subst (λ (on : Bool). AllowsMode g.G.Ruled.policy on) (word_on t.0 c.load.result t.1) t.3)

one_step : OneStep code.function
one_step = (refl, refl, refl)
