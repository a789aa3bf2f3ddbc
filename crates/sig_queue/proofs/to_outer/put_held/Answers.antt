use Rattle.std.proofs.Common.{◌≡◌, ◌++◌, ◌∷◌, [], length, drop, false, None, ap, sym, ◌∙◌, subst, refl}
use Rattle.std.proofs.Math.Seq.{drop-append_seam}
use Rattle.atomic_table.specs.Table.{rest}
use Rattle.sig_layout.specs.Sets.{has}
use Rattle.sig_layout.specs.Openings.{IsNext}
use Rattle.sig_layout.specs.Outers.{added}
use Rattle.sig_queue.specs.declared.slot.Slot.TheVariants as slot
use Rattle.sig_layout.specs.declared.entry.Entry.TheVariants.{Direct}
use Rattle.sig_layout.specs.declared.knows.Knows.{Knows}
use Rattle.sig_layout.specs.declared.via.Via.TheVariants as via
use Rattle.sig_layout.specs.Views.{signals_of, put_by, after_put}
use Rattle.sig_layout.specs.Core.{Begins, some_refused}
use Rattle.sig_layout.specs.Summaries.{due_at, is_install}
use Rattle.sig_queue.specs.Tied.{Held, outer_in}
use Rattle.sig_queue.specs.SeatWords.{key_of}
use Rattle.sig_queue.proofs.Bodies.{Keeps}
use Rattle.sig_queue.proofs.to_outer.put_held.Code as code
use Rattle.sig_queue.proofs.to_outer.put_held.Goals as goal

pub install_if-requires-clause-begins : goal.install_if-requires-clause-begins
install_if-requires-clause-begins c = let b = c.requires.begins in
    let is : outer_in c.args.place.now.me.1 ≡ b.0 = ap outer_in b.2 in
    let seat : c.push_outer.new.place.me.0 ≡ c.args.place.now.me.0 = ap (λ (m : Held). m.0) c.in-Ok.ensures.ok in (
      b.0,
      subst (λ (v : Knows). Begins v b.0) (sym seat) b.1,
      c.in-Ok.ensures.due ∙ (λ k. is_install (due_at (sym c.requires.policy k) ((is k).journal ++ Direct ((c.requires.refused ∙ ap (λ (v : Knows). some_refused v.refused) (sym seat)) k) ∷ []))),
    )

pub leave_put-requires-clause-held : goal.leave_put-requires-clause-held
leave_put-requires-clause-held c = let b = c.requires.begins in let m : Held = c.install_if.new.place.me in
    let is : outer_in c.args.place.now.me.1 ≡ b.0 = ap outer_in b.2 in
    let seat : m.0 ≡ record c.args.place.now.me.0 { switched = c.in-Ok.switched } =
    ap (λ (x : Held). x.0) c.install_if.ensures.switched ∙ ap (λ (x : Held). record x.0 { switched = c.in-Ok.switched }) c.in-Ok.ensures.ok in
    let refused = c.requires.refused ∙ ap (λ (v : Knows). some_refused v.refused) (sym seat) in
    let slots = ap (λ (x : Held). x.1) c.install_if.ensures.switched ∙ ap (λ (x : Held). x.1) c.in-Ok.ensures.ok in (
      b.0,
      c.args.signal,
      ap (λ (v : Knows). v.held) seat ∙ b.1.held,
      ap (λ (v : Knows). v.switched) seat ∙ (c.in-Ok.ensures.due ∙ (λ k. is_install (due_at (sym c.requires.policy k) ((is k).journal ++ Direct (refused k) ∷ [])))),
      ap (λ (v : Knows). has v.senders c.args.signal.from.0) seat ∙ c.requires.from,
      subst (λ (v : Knows). IsNext (key_of c.args.words.now) v.put c.args.signal) (sym seat) c.requires.next,
      slots ∙ (λ k. (0, slot.Outer (added (is k) c.args.signal (refused k) (sym (ap (λ (v : Knows). v.switched) seat) k))) ∷ sym (ap rest slots) k),
    )

pub returns-in-Ok-clause-offered : goal.returns-in-Ok-clause-offered
returns-in-Ok-clause-offered c = let b = c.requires.begins in let v : Knows = c.args.place.now.me.0 in let m : Held = c.install_if.new.place.me in
    let is : outer_in c.args.place.now.me.1 ≡ b.0 = ap outer_in b.2 in
    let seat : m.0 ≡ record v { switched = c.in-Ok.switched } =
    ap (λ (x : Held). x.0) c.install_if.ensures.switched ∙ ap (λ (x : Held). record x.0 { switched = c.in-Ok.switched }) c.in-Ok.ensures.ok in
    let outer : outer_in m.1 ≡ added b.0 c.args.signal c.args.refused.now c.in-Ok.switched =
    ap (λ (x : Held). outer_in x.1) c.install_if.ensures.switched ∙ (ap (λ (x : Held). outer_in x.1) c.in-Ok.ensures.ok ∙ (λ k. added (is k) c.args.signal c.args.refused.now c.in-Ok.switched)) in
    let new : drop (length (signals_of v.held)) (outer_in m.1).signals ≡ c.args.signal ∷ [] =
    (λ k. drop (length (signals_of (b.1.held k))) (outer k).signals) ∙ drop-append_seam b.0.signals (c.args.signal ∷ []) in
    ap (λ (x : Held). x.0) c.leave_put.ensures.put ∙ (ap (λ (w : Knows). after_put w (outer_in m.1)) seat
    ∙ (λ k. record v { held = None; switched = sym b.1.switched k; saw_off = false; put = v.put ++ put_by via.Outer (new k); refused = 0 }))

pub returns-in-Ok-clause-refused : goal.returns-in-Ok-clause-refused
returns-in-Ok-clause-refused c = sym (ap (λ (x : Held). some_refused x.0.refused) c.leave_put.ensures.put)

code_keeps : Keeps [] code.function
code_keeps = (refl, refl)
