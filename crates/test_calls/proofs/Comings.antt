-- The signals that come to a process in a play.
use Rattle.std.proofs.Common.{◌≡◌, ℕ, ◌<◌, List, [], ◌∷◌, ◌++◌, Bool, true, false, cond, refl, sym, subst, arith}
use Rattle.std.specs.Prelude.{All, ◌==◌}
use Rattle.std.proofs.lemmas.List.Elements.{All-nil, All-cons, All-append}
use Rattle.sig_terms.specs.declared.reference.Ref.{Ref}
use Rattle.sig_terms.specs.declared.term.Term.{Term}
use Rattle.sig_terms.specs.declared.term.Term.TheVariants as term
use Rattle.sig_terms.specs.Names.{names_of, names_of_ref, IsNameBelow}
use Rattle.sig_terms.proofs.NameLemmas.{ref_below, atom_names}
use Rattle.sig_kinds.specs.declared.signal.Signal.{Signal}
use Rattle.sig_kinds.specs.declared.signal.Kind.TheVariants.{AliasMessage}
use Rattle.sig_kinds.specs.Counting.{IsCounting}
use Rattle.sig_model.specs.Accounts.{coming_from}
use Rattle.sig_model.specs.Keeping.{IsArriving}
use Rattle.sig_model.specs.Running.{Running}
use Rattle.sig_model.proofs.Guards.{exec_next_tells}
use Rattle.sig_process.specs.declared.executing.Exec.{Exec}
use Rattle.sig_process.specs.declared.executing.Exec.TheVariants.{Stepped, Waiting}
use Rattle.sig_process.specs.Standing.{Standing}
use Rattle.sig_process.specs.Steps.{IsExec}
use Rattle.test_calls.specs.Plays.{SameCome}

come_as : (r s : Running) (a : Running) → a ≡ s → SameCome r a → SameCome r s
come_as r s a e h = subst (SameCome r) e h

-- an execution changes nothing in what has come
pub executed_same : (x y : Standing) (a : Exec) → IsExec x y a → SameCome x.running y.running
executed_same x y Stepped e = come_as x.running y.running _ (exec_next_tells x.running y.running e.0).is (record { pid = refl; count = refl; handled = refl; taken_in = refl })
executed_same x y Waiting e = come_as x.running y.running x.running (sym e.1) (record { pid = refl; count = refl; handled = refl; taken_in = refl })

abbrev pub alias : Ref
alias = record { owner = record { 0 = 0 }; serial = 1 }

-- the message through the alias
abbrev pub late : Term → Signal
late t = record { from = record { 0 = 1 }; to = record { 0 = 0 }; number = 1; stamp = 5; kind = AliasMessage alias t }

alias_below : (count : ℕ) → 1 < count → All (IsNameBelow count) (names_of_ref alias)
alias_below count lt = ref_below count alias (omega (arith, lt))

late_names : (count : ℕ) (word : List ℕ) (t : Term) → 1 < count → t ≡ term.Atom word → All (IsNameBelow count) (names_of_ref alias ++ names_of t)
late_names count word t lt is = All-append (IsNameBelow count) (names_of_ref alias) (names_of t) (alias_below count lt) (subst (λ (u : Term). All (IsNameBelow count) (names_of u)) (sym is) (atom_names (IsNameBelow count) word))

late_arrives : (count : ℕ) (word : List ℕ) (t : Term) → 1 < count → t ≡ term.Atom word → IsArriving 0 count (late t)
late_arrives count word t lt is = record {
  from = λ e. absurd (let f : ⊥ = omega (arith, e) in f);
  to = refl;
  below = record { from = lt; to = omega (arith, lt); kind = late_names count word t lt is };
  stamp = omega arith;
}

pub late_arriving : (word : List ℕ) (t : Term) (signals : List Signal) → t ≡ term.Atom word → signals ≡ late t ∷ [] → (count : ℕ) → 1 < count → All (IsArriving 0 count) signals
late_arriving word t signals is are count lt = subst (All (IsArriving 0 count)) (sym are) (All-cons (IsArriving 0 count) (late t) [] (late_arrives count word t lt is) (All-nil (IsArriving 0 count)))

counts : (t : Term) (b : Bool) → IsCounting 1 (cond b (late t ∷ []) [])
counts t true = (refl, tt)
counts t false = tt

pub late_counts : (t : Term) (signals : List Signal) → signals ≡ late t ∷ [] → (s : ℕ) → IsCounting 1 (coming_from s signals)
late_counts t signals are s = subst (λ (xs : List Signal). IsCounting 1 (coming_from s xs)) (sym are) (counts t (1 == s))
