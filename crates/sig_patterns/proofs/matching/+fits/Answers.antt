use Rattle.std.proofs.Common.{ℕ, List, sym, ap, ◌∙◌}
use Rattle.std.specs.Option.{option_map}
use Rattle.sig_terms.specs.TermTest.{same_term}
use Rattle.sig_terms.specs.declared.term.Term.TheVariants as term
use Rattle.sig_patterns.specs.declared.pattern.Pattern.TheVariants as pattern
use Rattle.sig_patterns.specs.declared.pattern.Pattern.TheOpen as layer
use Rattle.sig_patterns.specs.Fitting.{term_seen, first_in, fits}
use Rattle.sig_patterns.proofs.NextPlace.{fits_each_next}
use Rattle.sig_patterns.proofs.PartWalks.{fits_case, fits_tuple, fits_list, fits_uncut}
use Rattle.sig_patterns.proofs.matching.+fits.Goals as goal

pub each_fits-loop-i-preserved : goal.each_fits-loop-i-preserved
each_fits-loop-i-preserved t c =
    let fit = fits c.args.whole.env.now (first_in c.args.whole.pattern.now (term_seen c.args.whole.seen)) in (
      c.loop-i.invariant.0,
      c.loop-i.invariant.1
          ∙ fits_each_next fit c.args.patterns.now c.in-Some.terms.now c.loop-i.i c.index-patterns-i.result c.index-terms-i.result c.loop-i-test.true c.loop-i.invariant.0 c.index-patterns-i.is c.index-terms-i.is
          (sym c.fits.ensures ∙ c.if-not-fits.false),
    )

pub fits-returns-in-Tuple : goal.fits-returns-in-Tuple
fits-returns-in-Tuple t c =
    c.each_fits.ensures
    ∙ fits_tuple c.args.whole.env.now (first_in c.args.whole.pattern.now (term_seen c.args.whole.seen)) c.args.pattern.now c.as_slice.result.now (term_seen c.args.seen) _
    (c.in-Tuple.is ∙ ap pattern.Tuple (sym c.as_slice.ensures)) c.tuple_items.ensures

pub fits-returns-in-List : goal.fits-returns-in-List
fits-returns-in-List t c =
    c.each_fits-in-List.ensures
    ∙ fits_list c.args.whole.env.now (first_in c.args.whole.pattern.now (term_seen c.args.whole.seen)) c.args.pattern.now c.as_slice-in-List.result.now (term_seen c.args.seen) _
    (c.in-List.is ∙ ap pattern.List (sym c.as_slice-in-List.ensures)) c.list_items.ensures

pub fits-returns-in-Bind : goal.fits-returns-in-Bind
fits-returns-in-Bind t c =
    c.is_first.ensures ∙ fits_case c.args.whole.env.now (first_in c.args.whole.pattern.now (term_seen c.args.whole.seen)) (layer.Bind c.in-Bind.var) c.args.pattern.now (term_seen c.args.seen) (c.in-Bind.is ∙ sym (pattern.rolls-Bind c.in-Bind.var))

pub fits-returns-in-Atom : goal.fits-returns-in-Atom
fits-returns-in-Atom t c =
    c.is_atom.ensures ∙ ap (λ (a : List ℕ). same_term (term.Atom a) (term_seen c.args.seen)) c.bytes.ensures.bytes ∙ fits_case c.args.whole.env.now (first_in c.args.whole.pattern.now (term_seen c.args.whole.seen)) (layer.Atom c.in-Atom.atom) c.args.pattern.now (term_seen c.args.seen) (c.in-Atom.is ∙ sym (pattern.rolls-Atom c.in-Atom.atom))

pub fits-returns-in-Pid : goal.fits-returns-in-Pid
fits-returns-in-Pid t c =
    c.is_pid.ensures ∙ fits_case c.args.whole.env.now (first_in c.args.whole.pattern.now (term_seen c.args.whole.seen)) (layer.Pid c.in-Pid.pid) c.args.pattern.now (term_seen c.args.seen) (c.in-Pid.is ∙ sym (pattern.rolls-Pid c.in-Pid.pid))

pub fits-returns-in-None : goal.fits-returns-in-None
fits-returns-in-None t c =
    fits_uncut c.args.whole.env.now (first_in c.args.whole.pattern.now (term_seen c.args.whole.seen)) c.args.pattern.now _ _ (term_seen c.args.seen) c.in-Cons.is (ap (option_map (λ parts. (parts.0.now, parts.1.now))) (sym c.in-None.is) ∙ c.split_list.ensures)

pub fits-returns-in-Pin : goal.fits-returns-in-Pin
fits-returns-in-Pin t c =
    cc (fits_case c.args.whole.env.now (first_in c.args.whole.pattern.now (term_seen c.args.whole.seen)) (layer.Pin c.in-Pin.var) c.args.pattern.now (term_seen c.args.seen) (c.in-Pin.is ∙ sym (pattern.rolls-Pin c.in-Pin.var)))
