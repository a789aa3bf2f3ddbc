use Rattle.std.proofs.Common.{◌≡◌, ◌∙◌, ◌+◌, ◌++◌, List, Some, length, length-append, append_assoc, ap, sym, refl, []}
use Rattle.sig_kinds.specs.declared.signal.Signal.{Signal}
use Rattle.sig_layout.specs.declared.outer.Outer.{Outer}
use Rattle.sig_layout.specs.Outers.{emptied}
use Rattle.sig_layout.specs.Views.{signals_of}
use Rattle.sig_queue.specs.Fetching.{all_of}
use Rattle.sig_queue.proofs.Bodies.{Keeps}
use Rattle.sig_queue.proofs.fetch_settle.settle.Code as code
use Rattle.sig_queue.proofs.fetch_settle.settle.Goals as goal

pub finish-taken-requires-clause-standing : goal.finish-taken-requires-clause-standing
finish-taken-requires-clause-standing c = c.requires.standing

pub finish-taken-requires-clause-held : goal.finish-taken-requires-clause-held
finish-taken-requires-clause-held c =
    let total : c.in-Some.total ≡ length (all_of c.args.place.now.me.0.parts) = rw c.in-Some.is at c.requires.total in
    (c.args.outer, c.requires.held, c.in-Ok.ensures.ok.0 ∙ ap (emptied c.args.outer) total)

pub finish-taken-requires-clause-fetching : goal.finish-taken-requires-clause-fetching
finish-taken-requires-clause-fetching c = c.requires.fetching

pub give_up-requires-in_default-fetch-clause-standing : goal.give_up-requires-in_default-fetch-clause-standing
give_up-requires-in_default-fetch-clause-standing c = c.requires.standing

pub give_up-requires-in_default-fetch-clause-held : goal.give_up-requires-in_default-fetch-clause-held
give_up-requires-in_default-fetch-clause-held c = c.requires.held ∙ ap (λ (o : Outer). Some o) (sym c.in_default-fetch.ensures.err.0)

pub returns-in_default-fetch-clause-settled : goal.returns-in_default-fetch-clause-settled
returns-in_default-fetch-clause-settled c = (c.in_default-fetch.ensures.err.1, c.give_up-in_default-fetch.ensures.left)

pub returns-clause-settled : goal.returns-clause-settled
returns-clause-settled c =
    let parts = all_of c.args.place.now.me.0.parts in
    let total : c.in-Some.total ≡ length parts = rw c.in-Some.is at c.requires.total in
    let outer : c.args.outer.signals ≡ signals_of c.args.place.now.me.0.held = sym (ap signals_of c.requires.held) in (
      c.finish-taken.ensures.moved ∙ ap (λ (z : List Signal). z ++ parts) c.in-Ok.ensures.ok.1 ∙ append_assoc c.args.into.now.items c.args.outer.signals parts ∙ ap (λ (z : List Signal). c.args.into.now.items ++ (z ++ parts)) outer,
      c.finish-taken.ensures.count ∙ c.in-Ok.ensures.count ∙ ap (λ n. length c.args.outer.signals + n) total ∙ sym (length-append c.args.outer.signals parts) ∙ ap (λ (z : List Signal). length (z ++ parts)) outer,
      c.finish-taken.ensures.finished,
    )

code_keeps : Keeps [] code.function
code_keeps = (refl, refl)
