use Rattle.std.proofs.Common.{◌≡◌, List, ap, sym, ◌∙◌, subst, refl, []}
use mathlib.Core.Option.{some-injective}
use lib.ListN.{get_elem?}
use Rattle.sig_layout.specs.declared.setup.Setup.{Setup}
use Rattle.sig_layout.specs.Sets.{has}
use Rattle.sig_queue.specs.declared.slot.Slot.{Slot}
use Rattle.sig_queue.specs.declared.slot.Slot.TheVariants as slot
use Rattle.sig_queue.specs.Tied.{outer_or}
use Rattle.sig_queue.specs.Seats.{Queue}
use Rattle.sig_queue.specs.SeatWords.{key_of}
use Rattle.sig_queue.specs.Ends.{EndsAs}
use Rattle.sig_queue.proofs.Ending.{ends, ended_as}
use Rattle.sig_queue.proofs.Bodies.{Keeps}
use Rattle.sig_queue.proofs.sig_queue.SigQueue.end.Code as code
use Rattle.sig_queue.proofs.sig_queue.SigQueue.end.Goals as goal

pub take_lists-requires-clause-held : goal.take_lists-requires-clause-held
take_lists-requires-clause-held c k h = let same = ap (λ (x : Queue). x.setup) c.self.view_is in let e = ends (key_of c.self.inside.words) c.args.place.id c.args.place.me.0 _ _ c.close_with-closed.ensures.values.2 c.requires.idle.idle c.requires.idle.role (λ s h. c.requires.idle.every s (ap (λ (y : Setup). has y.senders s) (sym same) ∙ h)) in
    (e.list k, e.at_buffer k h)

pub unreachable-requires : goal.unreachable-requires
unreachable-requires c = let same = ap (λ (x : Queue). x.setup) c.self.view_is in let e = ends (key_of c.self.inside.words) c.args.place.id c.args.place.me.0 _ _ c.close_with-closed.ensures.values.2 c.requires.idle.idle c.requires.idle.role (λ s h. c.requires.idle.every s (ap (λ (y : Setup). has y.senders s) (sym same) ∙ h)) in
    c.in_default.not-Outer e.outer (sym (some-injective _ _ (sym (ap (λ (xs : List Slot). get_elem? xs 0) c.take_lists.ensures.same.0 ∙ e.at_outer) ∙ c.take-slot.ensures.value)))

pub returns : goal.returns
returns c = let same = ap (λ (x : Queue). x.setup) c.self.view_is in let e = ends (key_of c.self.inside.words) c.args.place.id c.args.place.me.0 _ _ c.close_with-closed.ensures.values.2 c.requires.idle.idle c.requires.idle.role (λ s h. c.requires.idle.every s (ap (λ (y : Setup). has y.senders s) (sym same) ∙ h)) in
    let at : slot.Outer e.outer ≡ c.take-slot.result = some-injective _ _ (sym (ap (λ (xs : List Slot). get_elem? xs 0) c.take_lists.ensures.same.0 ∙ e.at_outer) ∙ c.take-slot.ensures.value) in
    let is : c.into_outer-signals.result ≡ e.outer = c.into_outer-signals.ensures ∙ sym (ap outer_or (at ∙ c.in-Outer.is)) in
    record { ends = subst (λ (y : Setup). EndsAs y c.args.place.me.0 c.new.result c.into_outer-signals.result.journal) same (ended_as _ c.args.place.me.0 _ e c.into_outer-signals.result c.take_lists.new.lists.items c.new.result is c.take_lists.ensures.lists c.new.ensures) }

code_keeps : Keeps [] code.function
code_keeps = (refl, refl)
