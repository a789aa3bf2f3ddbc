use Rattle.std.proofs.Common.{rules, ◌==◌, Bool, ap, ◌∙◌, subst, refl}
use Rattle.sig_layout.specs.declared.policy.Policy.{Policy}
use Rattle.sig_layout.specs.Policies.{AllowsMode}
use Rattle.sig_layout.specs.Views.{saw}
use Rattle.sig_queue.specs.Tied.{Held}
use Rattle.sig_queue.proofs.Ties.{loads_mode, word_on}
use Rattle.sig_queue.proofs.Bodies.{OneStep}
use Rattle.sig_queue.proofs.words.steps.load_mode.Code as code
use Rattle.sig_queue.proofs.words.steps.load_mode.Goals as goal

pub load-requires : goal.load-requires
load-requires g c = (search rules, search rules, loads_mode _ _ _ _ _ c.requires.picked c.requires.idle)

pub returns-clause-saw : goal.returns-clause-saw
returns-clause-saw g c = let t = c.load.ensures.2 in t.2 ∙ ap (λ (on : Bool). let m : Held = (saw c.args.place.now.me.0 on, c.args.place.now.me.1) in m) (word_on t.0 c.load.result t.1)

pub returns-clause-allowed : goal.returns-clause-allowed
returns-clause-allowed g c = let t = c.load.ensures.2 in subst (λ (p : Policy). AllowsMode p (c.load.result == 1)) c.requires.picked (subst (λ (on : Bool). AllowsMode g.G.Ruled.policy on) (word_on t.0 c.load.result t.1) t.3)

one_step : OneStep code.function
one_step = (refl, refl, refl)
