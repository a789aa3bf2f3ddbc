use Rattle.std.proofs.Common.{◌≡◌, ℕ, List, ◌+◌, ◌++◌, ◌∷◌, [], true, ap, sym, ◌∙◌, subst, refl}
use Rattle.atomic_table.specs.Table.{rest}
use Rattle.sig_kinds.specs.declared.signal.Signal.{Signal}
use Rattle.sig_layout.specs.declared.knows.Knows.{Knows}
use Rattle.sig_layout.specs.declared.held_buffer.HeldBuffer.{HeldBuffer}
use Rattle.sig_layout.specs.Sets.{has}
use Rattle.sig_layout.specs.Openings.{IsNext}
use Rattle.sig_layout.specs.Views.{saw_under, loses, marked, put_to_buffer}
use Rattle.sig_queue.specs.declared.slot.Slot.{Slot}
use Rattle.sig_queue.specs.declared.slot.Slot.TheVariants as slot
use Rattle.sig_queue.specs.Tied.{Held, list_in}
use Rattle.sig_queue.specs.Parts.{first_part}
use Rattle.sig_queue.specs.SeatWords.{key_of}
use Rattle.sig_queue.proofs.Offering.{put_under}
use Rattle.sig_queue.proofs.Bodies.{Keeps}
use Rattle.sig_queue.proofs.to_buffer.under_turn.Code as code
use Rattle.sig_queue.proofs.to_buffer.under_turn.Goals as goal

pub push_signal-requires-clause-out : goal.push_signal-requires-clause-out
push_signal-requires-clause-out c = let e = ap (λ (m : Held). m.1) c.load_under.ensures.saw ∙ c.requires.out in
    ((first_part c.args.place.now.me.0.parts).list, e ∙ ap (λ (r : List (ℕ × Slot)). (c.args.buffer + 1, slot.List (first_part c.args.place.now.me.0.parts).list) ∷ r) (sym (ap rest e)))

pub leave_filled-requires-clause-out : goal.leave_filled-requires-clause-out
leave_filled-requires-clause-out c = let x : Signal = c.args.signal in let v : Knows = c.args.place.now.me.0 in let p : HeldBuffer = first_part v.parts in let m : Held = c.push_signal.new.place.me in let saw = c.if-not-load_under.ensures.saw in
    let before : Held = c.load_under.new.place.me in let pushed = c.in_default.ensures.ok in
    let seat : m.0 ≡ saw_under v p true = ap (λ (h : Held). h.0) pushed ∙ ap (λ (h : Held). h.0) saw in
    let list : list_in before.1 ≡ (first_part m.0.parts).list = ap list_in (ap (λ (h : Held). h.1) saw ∙ c.requires.out) ∙ ap (λ (w : Knows). (first_part w.parts).list) (sym seat) in
    let slots = ap (λ (h : Held). h.1) pushed in (
      x,
      ap (λ (w : Knows). has w.senders x.from.0) seat ∙ c.requires.from.0,
      subst (λ (w : Knows). IsNext (key_of c.args.words.now) w.put x) (sym seat) c.requires.next,
      c.requires.from.1,
      slots ∙ (λ k. (c.args.buffer + 1, slot.List (list k ++ x ∷ [])) ∷ sym (ap rest slots) k),
    )

pub returns-in-Err-clause-offered : goal.returns-in-Err-clause-offered
returns-in-Err-clause-offered c = (
  c.in-Err.ensures.err.0,
  ap (λ (h : Held). h.0) c.leave_buffer-in-Err.ensures.left ∙ (ap (λ (h : Held). loses h.0) c.in-Err.ensures.err.1 ∙ ap (λ (h : Held). loses h.0) c.if-not-load_under.ensures.saw),
)

pub returns-clause-offered : goal.returns-clause-offered
returns-clause-offered c = let x : Signal = c.args.signal in let v : Knows = c.args.place.now.me.0 in let p : HeldBuffer = first_part v.parts in let m : Held = c.push_signal.new.place.me in let saw = c.if-not-load_under.ensures.saw in
    let before : Held = c.load_under.new.place.me in let pushed = c.in_default.ensures.ok in
    let seat : m.0 ≡ saw_under v p true = ap (λ (h : Held). h.0) pushed ∙ ap (λ (h : Held). h.0) saw in
    let list : list_in before.1 ≡ p.list = ap list_in (ap (λ (h : Held). h.1) saw ∙ c.requires.out) in
    let slots = ap (λ (h : Held). list_in h.1) pushed in
    ap (λ (h : Held). h.0) c.leave_filled.ensures.left ∙ ((λ k. put_to_buffer (marked (seat k) (first_part (seat k).parts)) (slots k)) ∙ put_under x v p (list_in before.1 ++ x ∷ []) c.requires.one.0 (λ j. list j ++ x ∷ []))

code_keeps : Keeps [] code.function
code_keeps = (refl, refl)
