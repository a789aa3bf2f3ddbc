use Rattle.std.proofs.Common.{◌≡◌, ap, ◌∙◌, refl, []}
use Rattle.sig_layout.specs.declared.knows.Knows.{Knows}
use Rattle.sig_layout.specs.Views.{with_bits}
use Rattle.sig_queue.specs.Tied.{Held}
use Rattle.sig_queue.specs.SeatWords.{key_of}
use Rattle.sig_queue.proofs.Fetches.{outer_within, standing_starts}
use Rattle.sig_queue.proofs.Settling.{fetched_all, fetched_none}
use Rattle.sig_queue.proofs.Bodies.{Keeps}
use Rattle.sig_queue.proofs.fetch.fetch_held.Code as code
use Rattle.sig_queue.proofs.fetch.fetch_held.Goals as goal

pub bring_front-requires : goal.bring_front-requires
bring_front-requires c = outer_within _ _ _ _ c.find_all-found.ensures.found

pub settle-requires-clause-standing : goal.settle-requires-clause-standing
settle-requires-clause-standing c = standing_starts _ _ c.find_all-found.new.place.me c.bring_front.new.place.me _ c.find_all-found.ensures.found (ap (λ (x : Held). x.0) c.bring_front.ensures.round) (ap (λ (x : Held). x.1) c.bring_front.ensures.round)

pub returns-in-Some-clause-fetched : goal.returns-in-Some-clause-fetched
returns-in-Some-clause-fetched c = let v : Knows = c.args.place.now.me.0 in let taking : Knows = c.take_bits-bits.new.place.me.0 in let b = c.requires.begins in let i = c.requires.idle in
    let took : taking ≡ with_bits v c.take_bits-bits.result = ap (λ (x : Held). x.0) c.take_bits-bits.ensures.took ∙ ap (λ (x : Held). with_bits x.0 c.take_bits-bits.result) c.take_value-outer.ensures.taken in
    fetched_all (key_of c.args.words.now) c.args.into.now.items c.settle.new.into.items v taking c.bring_front.new.place.me.0 c.settle.new.place.me.0 c.take_bits-bits.result c.find_all-found.new.place.me c.find_all-found.result c.find_all-found.ensures.found took (ap (λ (x : Held). x.0) c.bring_front.ensures.round) b.1.fetching i.0 i.2 i.3 i.4 i.1 c.in-Some.taken c.in-Some.ensures.settled

pub returns-in-None-clause-fetched : goal.returns-in-None-clause-fetched
returns-in-None-clause-fetched c = let v : Knows = c.args.place.now.me.0 in let taking : Knows = c.take_bits-bits.new.place.me.0 in let b = c.requires.begins in let i = c.requires.idle in
    let took : taking ≡ with_bits v c.take_bits-bits.result = ap (λ (x : Held). x.0) c.take_bits-bits.ensures.took ∙ ap (λ (x : Held). with_bits x.0 c.take_bits-bits.result) c.take_value-outer.ensures.taken in
    fetched_none (key_of c.args.words.now) c.args.into.now.items c.settle.new.into.items v taking c.bring_front.new.place.me.0 c.settle.new.place.me.0 c.take_bits-bits.result c.find_all-found.new.place.me c.find_all-found.result c.find_all-found.ensures.found took (ap (λ (x : Held). x.0) c.bring_front.ensures.round) b.1.fetching i.0 i.2 i.3 i.4 i.1 c.in-None.ensures.settled

code_keeps : Keeps [] code.function
code_keeps = (refl, refl)
