use Rattle.std.proofs.Common.{Err, sym, ap, ◌∙◌, subst}
use Rattle.std.proofs.lemmas.Result.{err_from_is_err_and}
use Rattle.sig_tool.specs.Expanding.{IsExpandedOf}
use Rattle.sig_tool.specs.declared.status.ToolStatus.{ToolStatus}
use Rattle.sig_tool.proofs.CallLemmas.{told_so}
use Rattle.sig_tool.proofs.expanding.expanded_text.Goals as goal

pub returns-in_err-script : goal.returns-in_err-script
returns-in_err-script c =
    let p = err_from_is_err_and c.from_residual.result c.from_residual.ensures.1 in
    subst (IsExpandedOf c.args.bytes.now) (sym (p.1 ∙ ap (λ (s : ToolStatus). Err s) p.2))
    (told_so c.args.bytes.now c.in_err-script.field-0.0 c.requires c.in_err-script.ensures.expansion)
