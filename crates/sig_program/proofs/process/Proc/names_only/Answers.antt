use Rattle.std.proofs.Common.{◌≡◌, ◌<◌, ◌≤◌, ◌∙◌, List, All, ap, get_or, length, refl, subst, sym, take_all}
use Rattle.std.proofs.lemmas.Bool.{false≢true}
use Rattle.std.proofs.lemmas.List.Elements.{All-more}
use Rattle.sig_program.specs.declared.instruction.Instr.{Instr}
use Rattle.sig_program.specs.Parts.{IsInstrAmong}
use Rattle.sig_program.specs.Scripts.{Declared}
use Rattle.sig_program.proofs.process.Proc.names_only.Goals as goal

pub loop-instr-preserved : goal.loop-instr-preserved
loop-instr-preserved c =
    let items : c.as_slice-instr-items.result.now ≡ c.args.self.now.instrs = c.as_slice-instr-items.ensures ∙ ap (λ (d : Declared). d.instrs) c.self.view_is in
    let here = subst (λ (is : List Instr). c.loop-instr.instr-index < length is) items c.loop-instr-test.true in
    let item = c.instr-item.is ∙ ap (λ (is : List Instr). get_or is c.loop-instr.instr-index c.instr-item.result) items in
    All-more (IsInstrAmong c.args.known.now) c.args.self.now.instrs c.loop-instr.instr-index c.instr-item.result here c.loop-instr.invariant
    (subst (IsInstrAmong c.args.known.now) item (c.names_only.ensures.0 c.if-not-names_only.false))

pub returns-then-not-names_only : goal.returns-then-not-names_only
returns-then-not-names_only c =
    let items : c.as_slice-instr-items.result.now ≡ c.args.self.now.instrs = c.as_slice-instr-items.ensures ∙ ap (λ (d : Declared). d.instrs) c.self.view_is in
    let here = subst (λ (is : List Instr). c.loop-instr.instr-index < length is) items c.loop-instr-test.true in
    let item = c.instr-item.is ∙ ap (λ (is : List Instr). get_or is c.loop-instr.instr-index c.instr-item.result) items in (
      λ h. absurd (false≢true h),
      λ h. sym c.if-not-names_only.true ∙ c.names_only.ensures.1 (subst (IsInstrAmong c.args.known.now) (sym item) (h c.loop-instr.instr-index c.instr-item.result here)),
    )

pub returns : goal.returns
returns c =
    let items : c.as_slice-instr-items.result.now ≡ c.args.self.now.instrs = c.as_slice-instr-items.ensures ∙ ap (λ (d : Declared). d.instrs) c.self.view_is in
    let ended = subst (λ (is : List Instr). length is ≤ c.loop-instr.instr-index) items c.loop-instr-test.false in
    (λ _. subst (All (IsInstrAmong c.args.known.now)) (take_all c.loop-instr.instr-index c.args.self.now.instrs ended) c.loop-instr.invariant, λ _. refl)
