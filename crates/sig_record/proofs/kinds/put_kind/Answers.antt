use Rattle.std.proofs.Common.{ℕ, List, ◌++◌, ap, ◌∙◌, subst, append_assoc}
use Rattle.std.specs.Prelude.{codes}
use Rattle.sig_terms.specs.TermText.{term_text}
use Rattle.sig_terms.specs.Putting.{IsPut}
use Rattle.sig_record.specs.Phrases.{link_text}
use Rattle.sig_record.proofs.kinds.put_kind.Goals as goal

pub returns-in-Exit-clause-text : goal.returns-in-Exit-clause-text
returns-in-Exit-clause-text c =
    let reason : List ℕ = term_text c.in-Exit.reason in
    rw c.in-Exit.is
    (subst (λ (text : List ℕ). IsPut c.args.into.now.items c.put_term-in-Exit.new.into.items text c.put_term-in-Exit.result)
    (ap (λ (words : List ℕ). words ++ reason) c.exit_words.ensures ∙ ap (λ (t : List ℕ). codes "exit " ++ t) (append_assoc (link_text c.in-Exit.linked) (codes " ") reason))
    c.put_term-in-Exit.ensures.text)
