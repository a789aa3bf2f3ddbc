use Rattle.std.proofs.Common.{ℕ, List, ◌++◌, refl}
use Rattle.std.specs.Prelude.{codes, decimal}
use Rattle.sig_terms.specs.TermText.{term_text}
use Rattle.sig_record.specs.declared.report.Left.{Left}
use Rattle.sig_record.specs.RecordText.{left_text}
use Rattle.sig_record.proofs.Fronts.{two_put, put_behind}
use Rattle.sig_record.proofs.Stored.{if_ok}
use Rattle.sig_record.proofs.printing.LeftPart.put.Goals as goal

pub returns-clause-stored : goal.returns-clause-stored
returns-clause-stored c = if_ok c.put_byte.result (c.put_numbered.ensures.wide, c.in_ok-put_spaced_term.ensures.stored)

pub returns-clause-text : goal.returns-clause-text
unfolding left_text
returns-clause-text c =
    let old : List ℕ = c.args.into.now.items in
    let now : List ℕ = c.put_spaced_term.new.into.items in
    let l : Left = c.args.self.now in
    let first : List ℕ = codes "left " ++ decimal l.arrival in
    let more : List ℕ = term_text l.message in
    put_behind c.put_byte.result old now c.put_byte.new.into.items (first ++ codes " " ++ more) (codes "\n") (left_text l)
    (two_put old c.put_numbered.new.into.items now first (codes " ") more c.in_ok-put_numbered.ensures.text.0 c.in_ok-put_spaced_term.ensures.text.0)
    c.put_byte.ensures refl
