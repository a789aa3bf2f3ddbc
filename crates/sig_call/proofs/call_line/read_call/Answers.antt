use Rattle.std.proofs.Common.{List, drop, sym, subst}
use Rattle.std.proofs.lemmas.List.{take_rest}
use Rattle.sig_tokens.specs.declared.token.Token.{Token}
use Rattle.sig_tokens.specs.Tokens.{AreTokens}
use Rattle.sig_call.proofs.CallLineLemmas.{tokens_behind}
use Rattle.sig_call.proofs.call_line.read_call.Goals as goal

pub take_label-requires : goal.take_label-requires
take_label-requires c =
    subst (AreTokens c.args.line.now) (sym (take_rest c.as_slice-2.result.now c.in_ok-message.last))
    (subst (λ (ts : List Token). AreTokens c.args.line.now (drop c.in_ok-message.last ts)) (sym c.as_slice-2.ensures) (tokens_behind c.args.line.now c.in_ok-message.last c.args.tokens.now c.requires.known))
