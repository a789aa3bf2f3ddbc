use Rattle.std.proofs.Common.{Bool, ap, sym, ◌∙◌, subst, refl, []}
use Rattle.sig_queue.specs.Tied.{Held, FoundOuter, outer_in}
use Rattle.sig_queue.specs.Seats.{Queue, Seated, IsSeat}
use Rattle.sig_queue.specs.SeatWords.{key_of}
use Rattle.sig_queue.specs.Calls.{FetchedHeld, Fetched}
use Rattle.sig_queue.proofs.Settling.{fetched_by, seat_fetched}
use Rattle.sig_queue.proofs.Bodies.{Keeps}
use Rattle.sig_queue.proofs.sig_queue.SigQueue.try_fetch.Code as code
use Rattle.sig_queue.proofs.sig_queue.SigQueue.try_fetch.Goals as goal

pub returns-clause-fetched : goal.returns-clause-fetched
returns-clause-fetched c = let t = c.try_outer-found.ensures.took c.if-found-ne0.false in let f = c.fetch_held-fetch in
    subst (λ (p : Queue × Seated). Fetched p.0.setup c.args.into.now.items f.new.into.items p.1.knows f.result f.new.place.me.0) (λ i. (c.self.view_is i, c.seat.view_is i))
    (fetched_by (key_of c.self.inside.words) c.args.into.now.items f.new.into.items c.seat.inside.place.me.0 f.new.place.me.0 t.0 f.result
    (subst (λ (m : Held). FoundOuter (key_of c.self.inside.words) c.seat.inside.place.me.0 (outer_in m.1)) t.1 (c.try_outer-found.ensures.found c.if-found-ne0.false))
    (subst (λ (m : Held). FetchedHeld (key_of c.self.inside.words) c.args.into.now.items f.new.into.items m.0 f.result f.new.place.me.0) t.1 f.ensures.fetched))

pub invariant_of-seat-2 : goal.invariant_of-seat-2
invariant_of-seat-2 c = let t = c.try_outer-found.ensures.took c.if-found-ne0.false in let f = c.fetch_held-fetch in let s = c.seat.inside in let i = c.seat.invariant in
    subst (λ (due : Bool). IsSeat f.new.place.me (record s.kept { due = due })) (sym c.is_removal_due-seat-inside.ensures)
    (seat_fetched (key_of c.self.inside.words) c.args.into.now.items f.new.into.items s.place.me.0 f.new.place.me.0 t.0 i.idle s.kept i.keeps f.new.place.me.1 f.ensures.bare
    (ap (λ (x : Seated). x.knows.due) c.seat.view_is ∙ c.requires.not_due) f.result
    (subst (λ (m : Held). FetchedHeld (key_of c.self.inside.words) c.args.into.now.items f.new.into.items m.0 f.result f.new.place.me.0) t.1 f.ensures.fetched))

code_keeps : Keeps [] code.function
code_keeps = (refl, refl)
