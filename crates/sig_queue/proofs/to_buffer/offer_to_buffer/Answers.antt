use Rattle.std.proofs.Common.{◌≡◌, ◌+◌, ap, ◌∙◌, subst, true, refl, []}
use Rattle.sig_layout.specs.declared.knows.Knows.{Knows}
use Rattle.sig_layout.specs.Views.{saw, gains, turned_away_at}
use Rattle.sig_queue.specs.Tied.{Held, Foreign}
use Rattle.sig_queue.specs.Calls.{Under}
use Rattle.sig_queue.proofs.Offering.{to_buffer_busy, to_buffer_off, to_buffer_under}
use Rattle.sig_queue.proofs.Bodies.{Keeps}
use Rattle.sig_queue.proofs.to_buffer.offer_to_buffer.Code as code
use Rattle.sig_queue.proofs.to_buffer.offer_to_buffer.Goals as goal

pub returns-then-found-ne0-clause-offered : goal.returns-then-found-ne0-clause-offered
returns-then-found-ne0-clause-offered c = let v : Knows = c.args.place.now.me.0 in let on : c.load_mode.new.place.me.0 ≡ saw v true = ap (λ (m : Held). m.0) c.if-not-load_mode.ensures.saw in let r = c.try_buffer-found.ensures.refused c.if-found-ne0.true in
    to_buffer_busy c.args.buffer c.args.signal v c.try_buffer-found.result _ c.requires.idle.0 (ap (λ (m : Held). m.0) r.0 ∙ ap (λ (z : Knows). turned_away_at z (c.args.buffer + 3) c.try_buffer-found.result) on) (subst (λ (z : Knows). Foreign z c.try_buffer-found.result) on r.1)

pub returns-clause-offered : goal.returns-clause-offered
returns-clause-offered c = let v : Knows = c.args.place.now.me.0 in let on : c.load_mode.new.place.me.0 ≡ saw v true = ap (λ (m : Held). m.0) c.if-not-load_mode.ensures.saw in let t = c.try_buffer-found.ensures.took c.if-found-ne0.false in
    to_buffer_under c.args.buffer c.args.signal v t.0 _ _ c.requires.idle.0 (subst (λ (z : Knows). Under c.args.signal z c.under_turn.result c.under_turn.new.place.me.0) (ap (λ (m : Held). m.0) t.1 ∙ ap (λ (z : Knows). gains z c.args.buffer t.0) on) c.under_turn.ensures.offered)

pub returns-then-not-load_mode-clause-offered : goal.returns-then-not-load_mode-clause-offered
returns-then-not-load_mode-clause-offered c = to_buffer_off c.args.buffer c.args.signal c.args.place.now.me.0 c.load_mode.new.place.me.0 (ap (λ (m : Held). m.0) c.if-not-load_mode.ensures.saw)

code_keeps : Keeps [] code.function
code_keeps = (refl, refl)
