use Rattle.std.proofs.Common.{◌≡◌, ℕ, ◌+◌, ap, sym, ◌∙◌, subst, refl, Some, [], ◌∷◌}
use Rattle.sig_layout.specs.declared.knows.Knows.{Knows}
use Rattle.sig_queue.specs.declared.fetch_find.Caught.{Caught}
use Rattle.sig_queue.specs.Tied.{Held}
use Rattle.sig_queue.specs.Fetching.{Finding}
use Rattle.sig_queue.proofs.Fetches.{finding_starts}
use Rattle.sig_queue.proofs.NextBits.{at_end, finding_to}
use Rattle.sig_layout.specs.declared.layout.TheConstants.{BUFFERS}
use Rattle.sig_queue.proofs.Bodies.{Keeps, up_to}
use Rattle.sig_queue.proofs.fetch_find.find_all.Code as code
use Rattle.sig_queue.proofs.fetch_find.find_all.Goals as goal

pub loop-buffer-init : goal.loop-buffer-init
loop-buffer-init c = let b = c.requires.begins in let next = c.next_bit-buffer.ensures in let z : Caught = record { held = 0; skipped = 0; count = 0; total = Some 0 } in
    let starts = subst (λ (w : Knows). Finding w c.args.bits 0 c.args.place.now.me z) (sym (ap (λ (m : Held). m.0) b.1)) (finding_starts b.0 c.args.bits c.args.place.now.me z b.1 b.2 refl refl refl refl) in record {
      table = refl;
      id = refl;
      found = finding_to c.args.place.now.me.0 c.args.bits c.args.place.now.me z 0 c.next_bit-buffer.result next.within.0 next.within.1 next.passed starts;
      within = next.within.1;
      set = next.set;
    }

pub find_one-requires-clause-finding : goal.find_one-requires-clause-finding
find_one-requires-clause-finding c = let inv = c.loop-buffer.invariant in let b = c.requires.begins in
    (c.args.place.now.me.0, c.args.bits, inv.found, inv.set c.loop-buffer-test.true, ap (λ (m : Held). m.0.saw_off) b.1 ∙ b.3)

pub loop-buffer-preserved : goal.loop-buffer-preserved
loop-buffer-preserved c = let inv = c.loop-buffer.invariant in let b = c.requires.begins in let v : Knows = c.args.place.now.me.0 in let k : ℕ = c.loop-buffer.buffer in let next = c.next_bit-buffer-in-loop-buffer.ensures in
    let f = c.find_one.ensures.finding v c.args.bits inv.found (inv.set c.loop-buffer-test.true) (ap (λ (m : Held). m.0.saw_off) b.1 ∙ b.3) in record {
      table = c.find_one.ensures.same.0 ∙ inv.table;
      id = c.find_one.ensures.same.1 ∙ inv.id;
      found = finding_to v c.args.bits c.find_one.new.place.me c.find_one.new.found (k + 1) c.next_bit-buffer-in-loop-buffer.result next.within.0 next.within.1 next.passed f;
      within = next.within.1;
      set = next.set;
    }

pub returns-clause-found : goal.returns-clause-found
returns-clause-found c = let inv = c.loop-buffer.invariant in let e : c.loop-buffer.buffer ≡ BUFFERS = at_end c.loop-buffer.buffer inv.within c.loop-buffer-test.false in
    subst (λ (k : ℕ). Finding c.args.place.now.me.0 c.args.bits k c.loop-buffer.place.me c.loop-buffer.found) e inv.found

code_keeps : Keeps (up_to BUFFERS ∷ []) code.function
code_keeps = (refl, refl)
