use Rattle.std.proofs.Common.{ℕ, ◌-◌, List, length, drop, Some, Err, sym, ap, ◌∙◌, arith, length-drop}
use Rattle.std.proofs.lemmas.List.{take_all}
use Rattle.sig_terms.specs.declared.refusal.ReadTerm.{ReadTerm}
use Rattle.sig_record.proofs.TermFronts.{front_is, front_fails}
use Rattle.sig_record.proofs.pieces.term.Goals as goal

pub returns-in-Ok : goal.returns-in-Ok
returns-in-Ok c =
    let bytes : List ℕ = c.args.bytes.now in
    let used : ℕ = c.in-Ok.front.used in
    front_is bytes c.in-Ok.front.term used c.in-Ok.ensures.readable c.in-Ok.ensures.text.0 c.in-Ok.ensures.text.1 c.in-Ok.ensures.longest
    ∙ ap (λ (rest : List ℕ). Some (c.in-Ok.front.term, rest)) (sym (take_all (length bytes - used) (drop used bytes) (omega (arith, length-drop used bytes))))

pub returns-in-Err : goal.returns-in-Err
returns-in-Err c = front_fails c.in-Err.e c.args.bytes.now (λ h. c.in-Err.ensures.bad (ap (λ (e : ReadTerm). Err e) h))
