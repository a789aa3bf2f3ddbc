use Rattle.std.proofs.Common.{ℕ, List, ◌++◌}
use Rattle.std.specs.Prelude.{codes, decimal}
use Rattle.sig_terms.specs.TermText.{term_text}
use Rattle.sig_record.proofs.Fronts.{put_with_gap}
use Rattle.sig_record.proofs.printing.put_spaced_took.Goals as goal

pub returns-clause-text : goal.returns-clause-text
returns-clause-text c =
    let old : List ℕ = c.args.into.now.items in
    let now : List ℕ = c.put_took.new.into.items in
    let numbers : List ℕ = codes " took " ++ decimal c.args.clause ++ codes " " ++ decimal c.args.looked in
    put_with_gap c.put_spaced_term.result old now c.put_spaced_term.new.into.items numbers (codes " ") (term_text c.args.message.now)
    c.in_ok-put_took.ensures.text.0 c.put_spaced_term.ensures.text
