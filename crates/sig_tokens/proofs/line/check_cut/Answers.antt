use Rattle.std.proofs.Common.{sym, ◌∙◌, ap}
use Rattle.std.specs.List.{list_all}
use Rattle.sig_tokens.specs.Tokens.{text, is_token_in_range}
use Rattle.sig_tokens.proofs.SpellingLemmas.{all_whole}
use Rattle.sig_tokens.proofs.line.check_cut.Goals as goal

pub returns-clause-spelled : goal.returns-clause-spelled
returns-clause-spelled c =
    all_whole c.args.line.now c.args.cut.tokens c.requires
    (ap (list_all (λ t. is_token_in_range (text c.args.line.now t) t.kind)) (sym c.as_slice.ensures) ∙ sym c.if-not-all_fit.ensures)
