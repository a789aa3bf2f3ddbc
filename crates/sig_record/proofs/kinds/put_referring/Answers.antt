use Rattle.std.proofs.Common.{ℕ, List, ◌++◌}
use Rattle.std.specs.Prelude.{codes}
use Rattle.sig_terms.specs.TermText.{term_text, reference_text}
use Rattle.sig_record.proofs.Fronts.{put_with_gap}
use Rattle.sig_record.proofs.kinds.put_referring.Goals as goal

pub returns-clause-text : goal.returns-clause-text
returns-clause-text c =
    let reference : List ℕ = c.args.word.now ++ reference_text c.args.reference in
    put_with_gap c.put_spaced_term.result c.args.into.now.items c.put_reference.new.into.items c.put_spaced_term.new.into.items reference (codes " ") (term_text c.args.term.now)
    c.in_ok-put_reference.ensures.text.0 c.put_spaced_term.ensures.text
