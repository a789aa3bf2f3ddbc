-- A comparison is true of integers alone. A variable without an entry is an atom.
use Rattle.std.proofs.Common.{◌≡◌, ℕ, ℤ, true, List, refl, sym, ap, ◌∙◌, Option, Some, None}
use Rattle.std.proofs.lemmas.Bool.{false≢true}
use Rattle.std.proofs.lemmas.Option.{none-some, same_Some}
use Rattle.std.specs.Option.{unwrap_or}
use Rattle.std.specs.Prelude.{codes}
use Rattle.std.specs.FinMap.{get}
use Rattle.sig_terms.specs.declared.term.Term.{Term, roll-Term}
use Rattle.sig_terms.specs.declared.term.Term.TheVariants as term
use Rattle.sig_terms.specs.declared.term.Term.TheOpen.{Term-F}
use Rattle.sig_terms.specs.declared.term.Term.TheOpen as layer
use Rattle.sig_terms.specs.declared.term.Term.TheFolds.{ind-Term}
use Rattle.sig_terms.specs.declared.term.Term.TheViews.{out-roll-Term}
use Rattle.sig_patterns.specs.declared.guard.Op.{Op}
use Rattle.sig_patterns.specs.declared.guard.TermKind.{TermKind}
use Rattle.sig_patterns.specs.declared.guard.TermKind.TheVariants as kind
use Rattle.sig_patterns.specs.Environment.{Environment, undefined, value_of_var}
use Rattle.sig_patterns.specs.Guarding.{int_layer, int_value, compares_ints, compares_both, compares, is_kind_layer, is_kind}

-- an integer, and what it is seen by
pub integer_is : (n : ℤ) → int_value (term.Int n) ≡ Some n
integer_is n = ap int_value (sym (term.rolls-Int n)) ∙ ap int_layer (out-roll-Term (layer.Int n))

pub compares_integers : (op : Op) (m n : ℤ) → compares op (term.Int m) (term.Int n) ≡ compares_ints op m n
compares_integers op m n = ap (λ (o : Option ℤ). compares_both op o (int_value (term.Int n))) (integer_is m) ∙ ap (compares_both op (Some m)) (integer_is n)

rolled_integer : (z : Term-F Term) (n : ℤ) → int_layer z ≡ Some n → roll-Term z ≡ term.Int n
rolled_integer (layer.Int m) n e = term.rolls-Int m ∙ ap term.Int (same_Some m n e)
rolled_integer _ n e = absurd (none-some n e)

is_integer : (t : Term) (n : ℤ) → int_value t ≡ Some n → t ≡ term.Int n
is_integer = ind-Term (λ t. (n : ℤ) → int_value t ≡ Some n → t ≡ term.Int n)
    (λ z _ _ n e. rolled_integer z n (ap int_layer (sym (out-roll-Term z)) ∙ e))

both_there : (op : Op) (o p : Option ℤ) → compares_both op o p ≡ true → (m : ℤ) × (n : ℤ) × ((o ≡ Some m) × (p ≡ Some n))
both_there op (Some m) (Some n) h = (m, n, (refl, refl))
both_there op (Some m) None h = absurd (false≢true h)
both_there op None p h = absurd (false≢true h)

pub compares_others : (op : Op) (t u : Term) → compares op t u ≡ true → (m : ℤ) × (n : ℤ) × ((t ≡ term.Int m) × (u ≡ term.Int n))
compares_others op t u h =
    let both = both_there op (int_value t) (int_value u) h in
    (both.0, both.1, (is_integer t both.0 both.2.0, is_integer u both.1 both.2.1))

-- the kind of a term, by its top layer
pub kind_is : (k : TermKind) (z : Term-F Term) (t : Term) → roll-Term z ≡ t → is_kind k t ≡ is_kind_layer k z
kind_is k z t is = ap (is_kind k) (sym is) ∙ ap (is_kind_layer k) (out-roll-Term z)

pub undefined_value : (env : Environment) (x : List ℕ) → get env x ≡ None → value_of_var env x ≡ term.Atom (codes "undefined")
undefined_value env x none = ap (λ (o : Option Term). unwrap_or o undefined) none

pub undefined_is_atom : (env : Environment) (x : List ℕ) → get env x ≡ None → is_kind kind.Atom (value_of_var env x) ≡ true
undefined_is_atom env x none =
    ap (is_kind kind.Atom) (undefined_value env x none) ∙ kind_is kind.Atom (layer.Atom (codes "undefined")) undefined (term.rolls-Atom (codes "undefined"))

pub undefined_kind : (k : TermKind) → is_kind_layer k (layer.Atom (codes "undefined")) ≡ is_kind k undefined
undefined_kind k = sym (kind_is k (layer.Atom (codes "undefined")) undefined (term.rolls-Atom (codes "undefined")))
