use Rattle.std.proofs.Common.{Err, sym, ap, ◌∙◌, subst}
use Rattle.std.proofs.lemmas.Result.{err_from_is_err_and}
use Rattle.sig_reader.specs.Grammar.{script_of}
use Rattle.sig_tool.specs.Inputs.{ArePartsOf}
use Rattle.sig_tool.specs.declared.status.ToolStatus.{ToolStatus}
use Rattle.sig_tool.proofs.InputLemmas.{told_fault}
use Rattle.sig_tool.proofs.given.parts_of.Goals as goal

pub returns-in_err-told : goal.returns-in_err-told
returns-in_err-told c =
    let p = err_from_is_err_and c.from_residual-in_err-told.result c.from_residual-in_err-told.ensures.1 in
    subst (ArePartsOf c.args.bytes.now) (sym (p.1 ∙ ap (λ (s : ToolStatus). Err s) p.2))
    (told_fault c.args.bytes.now c.split.result.1.now c.in_err-told.field-0.0 c.in_ok-script.script c.requires c.split.ensures.rest
    (ap script_of (sym c.split.ensures.script) ∙ c.in_ok-script.ensures) c.in_err-told.ensures.bad c.in_err-told.ensures.line)
