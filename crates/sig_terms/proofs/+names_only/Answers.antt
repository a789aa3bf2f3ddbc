use Rattle.std.proofs.Common.{◌≡◌, List, ap, sym, subst, ◌∙◌}
use Rattle.sig_terms.specs.declared.term.Term.{Term}
use Rattle.sig_terms.specs.declared.term.Term.TheVariants as term
use Rattle.sig_terms.specs.Names.{Named, AllNames, IsAmong}
use Rattle.sig_terms.proofs.NameLemmas.{pid_names, pid_tells, ref_names, ref_tells, tuple_names, tuple_tells, list_names, list_tells}
use Rattle.sig_terms.proofs.+names_only.Goals as goal

pub term::Term::names_only-returns-in-Pid : goal.term::Term::names_only-returns-in-Pid
term::Term::names_only-returns-in-Pid t c =
    let P : Named → Type 0 = IsAmong c.args.known.now in
    let pid = c.in-Pid.pid in
    (λ known. subst (AllNames P) (sym c.in-Pid.is) (pid_names P pid (c.is_among.ensures.0 known)), λ h. c.is_among.ensures.1 (pid_tells P pid (subst (AllNames P) c.in-Pid.is h)))

pub term::Term::names_only-returns-in-Ref : goal.term::Term::names_only-returns-in-Ref
term::Term::names_only-returns-in-Ref t c =
    let P : Named → Type 0 = IsAmong c.args.known.now in
    let r = c.in-Ref.reference in (
      λ known. subst (AllNames P) (sym c.in-Ref.is) (ref_names P r tt (c.is_among-in-Ref.ensures.0 known)),
      λ h. c.is_among-in-Ref.ensures.1 (ref_tells P r (subst (AllNames P) c.in-Ref.is h)).1,
    )

pub term::Term::names_only-returns-in-Tuple : goal.term::Term::names_only-returns-in-Tuple
term::Term::names_only-returns-in-Tuple t c =
    let P : Named → Type 0 = IsAmong c.args.known.now in
    let items : List Term = c.as_slice.result.now in
    let is : c.args.self.now ≡ term.Tuple items = c.in-Tuple.is ∙ ap term.Tuple (sym c.as_slice.ensures) in
    (λ known. subst (AllNames P) (sym is) (tuple_names P items (c.all_name_only.ensures.0 known)), λ h. c.all_name_only.ensures.1 (tuple_tells P items (subst (AllNames P) is h)))

pub term::Term::names_only-returns-in-List : goal.term::Term::names_only-returns-in-List
term::Term::names_only-returns-in-List t c =
    let P : Named → Type 0 = IsAmong c.args.known.now in
    let items : List Term = c.as_slice-in-List.result.now in
    let is : c.args.self.now ≡ term.List items = c.in-List.is ∙ ap term.List (sym c.as_slice-in-List.ensures) in
    (λ known. subst (AllNames P) (sym is) (list_names P items (c.all_name_only-in-List.ensures.0 known)), λ h. c.all_name_only-in-List.ensures.1 (list_tells P items (subst (AllNames P) is h)))
