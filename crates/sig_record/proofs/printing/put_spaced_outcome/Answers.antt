use Rattle.std.proofs.Common.{ℕ, List, ◌++◌, refl}
use Rattle.std.specs.Prelude.{codes}
use Rattle.sig_terms.specs.TermText.{term_text}
use Rattle.sig_record.proofs.Fronts.{put_behind}
use Rattle.sig_record.proofs.printing.put_spaced_outcome.Goals as goal

pub returns-in_ok-put_term-in-Sent-clause-text : goal.returns-in_ok-put_term-in-Sent-clause-text
returns-in_ok-put_term-in-Sent-clause-text c =
    let to : List ℕ = codes " sent " ++ term_text c.in-Sent.to in
    let message : List ℕ = codes " " ++ term_text c.in-Sent.message in
    rw c.in-Sent.is
    (put_behind c.put_spaced_term.result c.args.into.now.items c.put_term.new.into.items c.put_spaced_term.new.into.items to message (to ++ message)
    c.in_ok-put_term-in-Sent.ensures.text.0 c.put_spaced_term.ensures.text refl)
