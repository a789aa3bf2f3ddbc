use Rattle.std.proofs.Common.{sym, ap, codes, ◌∙◌}
use Rattle.sig_terms.specs.declared.term.Term.TheOpen as layer
use Rattle.sig_patterns.specs.declared.guard.TermKind.{TermKind}
use Rattle.sig_patterns.specs.Guarding.{is_kind_layer}
use Rattle.sig_patterns.proofs.Comparing.{undefined_kind}
use Rattle.sig_patterns.proofs.accepting.is_kind_of_undefined.Goals as goal

pub returns-in-Atom : goal.returns-in-Atom
returns-in-Atom c = ap (λ (k : TermKind). is_kind_layer k (layer.Atom (codes "undefined"))) (sym c.in-Atom.is) ∙ undefined_kind c.args.kind

pub returns-in-Integer : goal.returns-in-Integer
returns-in-Integer c = ap (λ (k : TermKind). is_kind_layer k (layer.Atom (codes "undefined"))) (sym c.in-Integer.is) ∙ undefined_kind c.args.kind

pub returns-in-Pid : goal.returns-in-Pid
returns-in-Pid c = ap (λ (k : TermKind). is_kind_layer k (layer.Atom (codes "undefined"))) (sym c.in-Pid.is) ∙ undefined_kind c.args.kind

pub returns-in-Reference : goal.returns-in-Reference
returns-in-Reference c = ap (λ (k : TermKind). is_kind_layer k (layer.Atom (codes "undefined"))) (sym c.in-Reference.is) ∙ undefined_kind c.args.kind

pub returns-in-Tuple : goal.returns-in-Tuple
returns-in-Tuple c = ap (λ (k : TermKind). is_kind_layer k (layer.Atom (codes "undefined"))) (sym c.in-Tuple.is) ∙ undefined_kind c.args.kind

pub returns-in-List : goal.returns-in-List
returns-in-List c = ap (λ (k : TermKind). is_kind_layer k (layer.Atom (codes "undefined"))) (sym c.in-List.is) ∙ undefined_kind c.args.kind
