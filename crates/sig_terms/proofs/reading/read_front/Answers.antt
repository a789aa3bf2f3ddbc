use Rattle.std.proofs.Common.{◌≡◌, ℕ, List, sym, ◌∙◌, arith}
use Rattle.sig_terms.specs.declared.term.Term.{Term}
use Rattle.std.proofs.lemmas.Result.{err_from_is_err_and}
use Rattle.sig_terms.specs.declared.refusal.ReadTerm.TheVariants as refusal
use Rattle.sig_terms.specs.Fronts.{term_at}
use Rattle.sig_terms.proofs.WholeReads.{fails_bad, readable_at, used_at, text_at, longest_at, bad_at, one_term}
use Rattle.sig_terms.proofs.reading.read_front.Goals as goal
use Rattle.sig_terms.specs.declared.reading.TheConstants.{READ_DEPTH, READ_NODES}

pub returns-in_err-term-clause-bad : goal.returns-in_err-term-clause-bad
returns-in_err-term-clause-bad c = λ h.
    let p = err_from_is_err_and c.from_residual.result c.from_residual.ensures.1 in
    let is_bad : c.in_err-term.field-0.0 ≡ refusal.BadTerm = cc (p.1, p.2, h) in
    bad_at c.args.bytes.now (fails_bad c.in_err-term.field-0.0 (term_at READ_DEPTH READ_NODES c.args.bytes.now) c.in_err-term.ensures is_bad)

pub overflow_sub-used : goal.overflow_sub-used
overflow_sub-used c = used_at c.args.bytes.now (c.in_ok-term.term, c.in_ok-term.field-0-1, c.in_ok-term.rest.now) c.in_ok-term.ensures

pub returns-clause-readable : goal.returns-clause-readable
returns-clause-readable c = readable_at c.args.bytes.now (c.in_ok-term.term, c.in_ok-term.field-0-1, c.in_ok-term.rest.now) c.in_ok-term.ensures

pub returns-clause-text : goal.returns-clause-text
returns-clause-text c = (omega arith, text_at c.args.bytes.now (c.in_ok-term.term, c.in_ok-term.field-0-1, c.in_ok-term.rest.now) c.in_ok-term.ensures)

pub returns-clause-longest : goal.returns-clause-longest
returns-clause-longest c = longest_at c.args.bytes.now (c.in_ok-term.term, c.in_ok-term.field-0-1, c.in_ok-term.rest.now) c.in_ok-term.ensures

pub returns-clause-only : goal.returns-clause-only
returns-clause-only c = λ t p e.
    let x : Term × ℕ × List ℕ = (c.in_ok-term.term, c.in_ok-term.field-0-1, c.in_ok-term.rest.now) in
    one_term t c.in_ok-term.term p (readable_at c.args.bytes.now x c.in_ok-term.ensures).term (sym e ∙ text_at c.args.bytes.now x c.in_ok-term.ensures)
