-- What the definitions over terms say of a term, by its layer.
use Rattle.std.proofs.Common.{◌≡◌, ℕ, List, Bool, sym, ap, ◌∙◌}
use Rattle.std.specs.Prelude.{ℤ}
use Rattle.sig_terms.specs.declared.pid.Pid.{Pid}
use Rattle.sig_terms.specs.declared.reference.Ref.{Ref}
use Rattle.sig_terms.specs.TermText.{term_text, text_step}
use Rattle.sig_terms.specs.Nodes.{node_count, depth_of, count_step, depth_step}
use Rattle.sig_terms.specs.Readable.{is_term, is_term_step}
use Rattle.sig_terms.specs.declared.term.Term.{Term, roll-Term, map-Term}
use Rattle.sig_terms.specs.declared.term.Term.TheVariants as term
use Rattle.sig_terms.specs.declared.term.Term.TheOpen.{Term-F}
use Rattle.sig_terms.specs.declared.term.Term.TheOpen as layer
use Rattle.sig_terms.specs.declared.term.Term.TheFolds.{fold-roll-Term, fold-Term}

folded : (A : Type 0) (step : Term-F A → A) (t : Term) (x : Term-F Term) → t ≡ roll-Term x → fold-Term A step t ≡ step (map-Term Term A (fold-Term A step) x)
folded A step t x e = ap (fold-Term A step) e ∙ fold-roll-Term A step x

-- the term is of this layer
pub record Shows (t : Term) (x : Term-F Term) : Type 0 where
  pub text : term_text t ≡ text_step (map-Term Term (List ℕ) term_text x)
  pub nodes : node_count t ≡ count_step (map-Term Term ℕ node_count x)
  pub depth : depth_of t ≡ depth_step (map-Term Term ℕ depth_of x)
  pub term : is_term t ≡ is_term_step (map-Term Term Bool is_term x)

pub shows : (t : Term) (x : Term-F Term) → t ≡ roll-Term x → Shows t x
shows t x e = record {
  text = folded (List ℕ) text_step t x e;
  nodes = folded ℕ count_step t x e;
  depth = folded ℕ depth_step t x e;
  term = folded Bool is_term_step t x e;
}

pub shows-Int : (z : ℤ) → Shows (term.Int z) (layer.Int z)
shows-Int z = shows (term.Int z) (layer.Int z) (sym (term.rolls-Int z))

pub shows-Atom : (bytes : List ℕ) → Shows (term.Atom bytes) (layer.Atom bytes)
shows-Atom bytes = shows (term.Atom bytes) (layer.Atom bytes) (sym (term.rolls-Atom bytes))

pub shows-Pid : (p : Pid) → Shows (term.Pid p) (layer.Pid p)
shows-Pid p = shows (term.Pid p) (layer.Pid p) (sym (term.rolls-Pid p))

pub shows-Ref : (r : Ref) → Shows (term.Ref r) (layer.Ref r)
shows-Ref r = shows (term.Ref r) (layer.Ref r) (sym (term.rolls-Ref r))

pub shows-Tuple : (ts : List Term) → Shows (term.Tuple ts) (layer.Tuple ts)
shows-Tuple ts = shows (term.Tuple ts) (layer.Tuple ts) (sym (term.rolls-Tuple ts))

pub shows-List : (ts : List Term) → Shows (term.List ts) (layer.List ts)
shows-List ts = shows (term.List ts) (layer.List ts) (sym (term.rolls-List ts))
