use Rattle.std.proofs.Common.{◌+◌, Some, None, Ok, Err, sym, ◌∙◌, ap}
use Rattle.sig_call.specs.Expanding.{ExpandedText}
use Rattle.sig_call.proofs.ExpansionLemmas.{said_is, given_expanded, call_expanded, line_refused}
use Rattle.sig_call.proofs.expanding.expand_line.Goals as goal

pub returns-in-Ok-None-clause-expanded : goal.returns-in-Ok-None-clause-expanded
returns-in-Ok-None-clause-expanded c =
    let said = said_is c.args.version c.args.line.now c.in_ok-cut.cut (Ok None) c.in_ok-cut.ensures.cut (rw c.in-Ok-None.field-0-is at c.in-Ok-None.ensures) in
    given_expanded c.args.version c.args.n c.args.k c.args.line.now c.args.into.now said ∙ ap (λ (x : ExpandedText). Ok (c.args.k, x)) (sym c.in_ok-put_given-in-Ok-None.ensures)

pub returns-in-Ok-Some-clause-expanded : goal.returns-in-Ok-Some-clause-expanded
returns-in-Ok-Some-clause-expanded c =
    let said = said_is c.args.version c.args.line.now c.in_ok-cut.cut (Ok (Some c.in-Ok-Some.call)) c.in_ok-cut.ensures.cut (rw c.in-Ok-Some.field-0-is at c.in-Ok-Some.ensures) in
    call_expanded c.args.version c.args.n c.args.k c.args.line.now c.args.into.now c.in-Ok-Some.call said
    ∙ ap (λ (x : ExpandedText). Ok (c.args.k + 1, x)) (sym c.in_ok-put_call-in-Ok-Some.ensures)

pub returns-clause-expanded : goal.returns-clause-expanded
returns-clause-expanded c =
    line_refused c.args.version c.args.n c.args.k c.args.line.now c.args.into.now c.in-Err.kind
    (said_is c.args.version c.args.line.now c.in_ok-cut.cut (Err c.in-Err.kind) c.in_ok-cut.ensures.cut c.in-Err.ensures)
