use Rattle.std.proofs.Common.{◌≡◌, ℕ, ◌+◌, ◌∷◌, List, length, ap, sym, ◌∙◌, subst, arith, refl, []}
use Rattle.std.specs.Prelude.{IfSome}
use Rattle.atomic_table.specs.Table.{rest}
use Rattle.sig_queue.specs.declared.slot.Slot.{Slot}
use Rattle.sig_queue.specs.declared.slot.Slot.TheVariants as slot
use Rattle.sig_layout.specs.Views.{flag, given_back}
use Rattle.sig_layout.specs.declared.knows.Knows.{Knows}
use Rattle.sig_queue.specs.Tied.{Held}
use Rattle.sig_queue.specs.Fetching.{all_of}
use Rattle.sig_queue.proofs.Fetches.{finding_apart, finding_few, finding_held, finding_skipped, same_front, total_more}
use Rattle.sig_queue.proofs.Bodies.{Keeps}
use Rattle.sig_queue.proofs.fetch_find.find_one.Code as code
use Rattle.sig_queue.proofs.fetch_find.find_one.Goals as goal

pub try_buffer-requires-clause-apart : goal.try_buffer-requires-clause-apart
try_buffer-requires-clause-apart c = let f = c.requires.finding in finding_apart f.0 f.1 c.args.buffer _ _ f.2 c.requires.table.2

pub overflow_add-found : goal.overflow_add-found
overflow_add-found c = let f = c.requires.finding in let few = finding_few f.0 f.1 c.args.buffer _ _ f.2 c.requires.table.2 in let low = c.requires.table.2 in omega arith

pub set_back-requires-clause-masked : goal.set_back-requires-clause-masked
set_back-requires-clause-masked c = let f = c.requires.finding in let h = c.requires.fetching in let m = ap (λ (x : Held). x.0) (c.try_buffer.ensures.refused c.if-try_buffer-ne0.true).0 in
    ((h.0.0, ap (λ (v : Knows). v.held) m ∙ h.0.1), ap (λ (v : Knows). v.fetching) m ∙ h.1, ap (λ (v : Knows). flag v.mask c.args.buffer) m ∙ (f.2.to_come c.args.buffer c.requires.table.2 (omega arith) ∙ f.3))

pub list_len-length-requires-clause-out : goal.list_len-length-requires-clause-out
list_len-length-requires-clause-out c = let t = c.try_buffer.ensures.took c.if-try_buffer-ne0.false in let e = ap (λ (m : Held). m.1) t.1 in
    (t.0, e ∙ ap (λ (r : List (ℕ × Slot)). (c.args.buffer + 1, slot.List t.0) ∷ r) (sym (ap rest e)))

pub returns-then-try_buffer-ne0-clause-finding : goal.returns-then-try_buffer-ne0-clause-finding
returns-then-try_buffer-ne0-clause-finding c v n f bit blind = let r = c.try_buffer.ensures.refused c.if-try_buffer-ne0.true in
    finding_skipped v n c.args.buffer c.args.place.now.me c.args.found.now f c.requires.table.2 c.try_buffer.result _ _ (c.set_back.ensures.back ∙ ap (λ (m : Held). let w : Held = (given_back m.0 c.args.buffer, m.1) in w) r.0) r.1 blind refl refl refl refl bit

pub returns-clause-finding : goal.returns-clause-finding
returns-clause-finding c v n f bit blind = let t = c.try_buffer.ensures.took c.if-try_buffer-ne0.false in let m = c.list_len-length.ensures.length in
    let same : m.0 ≡ t.0 = same_front (c.args.buffer + 1) m.0 t.0 _ c.args.place.now.me.1 c.try_buffer.new.place.me.1 m.1 (ap (λ (x : Held). x.1) t.1) in
    let total = total_more c.args.found.now.total c.plus-found.result c.list_len-length.result (length (all_of c.args.place.now.me.0.parts)) c.plus-found.ensures f.total in
    finding_held v n c.args.buffer c.args.place.now.me c.args.found.now f c.requires.table.2 t.0 _ _ bit (c.list_len-length.ensures.still ∙ t.1) refl refl refl
    (subst (λ (x : ℕ). IfSome c.plus-found.result (λ s. s ≡ length (all_of c.args.place.now.me.0.parts) + x)) (m.2 ∙ ap length same) total) t.2

code_keeps : Keeps [] code.function
code_keeps = (refl, refl)
