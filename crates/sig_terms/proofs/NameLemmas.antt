-- What holds of every name in a term, by the term's cases.
use Rattle.std.proofs.Common.{◌≡◌, ℕ, ℤ, List, [], ◌∷◌, ◌++◌, length, take, drop, map, All, refl, sym, ap, ◌∙◌}
use Rattle.std.specs.List.{flat_map}
use Rattle.std.proofs.lemmas.List.{take_at}
use Rattle.std.proofs.lemmas.List.Prefix.{front_rest}
use Rattle.std.proofs.lemmas.List.Elements.{All-nil, All-cons, All-head, All-tail, All-append, All-take, All-drop, All-same}
use Rattle.sig_terms.specs.declared.pid.Pid.{Pid}
use Rattle.sig_terms.specs.declared.reference.Ref.{Ref}
use Rattle.sig_terms.specs.declared.term.Term.{Term, out-Term, map-Term}
use Rattle.sig_terms.specs.declared.term.Term.TheVariants as term
use Rattle.sig_terms.specs.declared.term.Term.TheOpen.{Term-F}
use Rattle.sig_terms.specs.declared.term.Term.TheOpen as layer
use Rattle.sig_terms.specs.declared.term.Term.TheFolds.{fold-roll-Term, fold_out-Term}
use Rattle.sig_terms.specs.Names.{Named, process, reference, names_of_ref, names_step, names_of, AllNames, IsNameBelow, IsRefBelow}

-- the names in terms, one term behind the other
abbrev pub names_of_each : List Term → List Named
names_of_each ts = flat_map (λ ns. ns) (map names_of ts)

-- the names in a term, by its layer
names_of_int : (n : ℤ) → names_of (term.Int n) ≡ []
names_of_int n = ap names_of (sym (term.rolls-Int n)) ∙ fold-roll-Term (List Named) names_step (layer.Int n)

names_of_atom : (a : List ℕ) → names_of (term.Atom a) ≡ []
names_of_atom a = ap names_of (sym (term.rolls-Atom a)) ∙ fold-roll-Term (List Named) names_step (layer.Atom a)

names_of_pid : (p : Pid) → names_of (term.Pid p) ≡ process p.0 ∷ []
names_of_pid p = ap names_of (sym (term.rolls-Pid p)) ∙ fold-roll-Term (List Named) names_step (layer.Pid p)

names_of_reference : (r : Ref) → names_of (term.Ref r) ≡ names_of_ref r
names_of_reference r = ap names_of (sym (term.rolls-Ref r)) ∙ fold-roll-Term (List Named) names_step (layer.Ref r)

names_of_tuple : (ts : List Term) → names_of (term.Tuple ts) ≡ names_of_each ts
names_of_tuple ts = ap names_of (sym (term.rolls-Tuple ts)) ∙ fold-roll-Term (List Named) names_step (layer.Tuple ts)

names_of_list : (ts : List Term) → names_of (term.List ts) ≡ names_of_each ts
names_of_list ts = ap names_of (sym (term.rolls-List ts)) ∙ fold-roll-Term (List Named) names_step (layer.List ts)

module _ (P : Named → Type 0) where
  -- of both parts of a list
  pub all_before : (xs ys : List Named) → All P (xs ++ ys) → All P xs
  all_before xs ys h = All-same P xs (take (length xs) (xs ++ ys)) (sym (take_at xs ys (length xs) refl)) (All-take P (length xs) (xs ++ ys) h)

  pub all_behind : (xs ys : List Named) → All P (xs ++ ys) → All P ys
  all_behind xs ys h = All-same P ys (drop (length xs) (xs ++ ys)) (sym (front_rest (xs ++ ys) xs ys refl)) (All-drop P (length xs) (xs ++ ys) h)

  -- of the names in terms, and of each term
  pub all_of_each : (ts : List Term) → All (AllNames P) ts → All P (names_of_each ts)
  all_of_each [] h = All-nil P
  all_of_each (t ∷ ts) h = All-append P (names_of t) (names_of_each ts) (All-head (AllNames P) t ts h) (all_of_each ts (All-tail (AllNames P) t ts h))

  pub each_of_all : (ts : List Term) → All P (names_of_each ts) → All (AllNames P) ts
  each_of_all [] h = All-nil (AllNames P)
  each_of_all (t ∷ ts) h = All-cons (AllNames P) t ts (all_before (names_of t) (names_of_each ts) h) (each_of_all ts (all_behind (names_of t) (names_of_each ts) h))

  -- a reference and its owner
  pub all_of_ref : (r : Ref) → P (reference r) → P (process r.owner.0) → All P (names_of_ref r)
  all_of_ref r h o = All-cons P (reference r) (process r.owner.0 ∷ []) h (All-cons P (process r.owner.0) [] o (All-nil P))

  pub ref_of_all : (r : Ref) → All P (names_of_ref r) → P (reference r) × P (process r.owner.0)
  ref_of_all r h =
      (All-head P (reference r) (process r.owner.0 ∷ []) h, All-head P (process r.owner.0) [] (All-tail P (reference r) (process r.owner.0 ∷ []) h))

  -- the cases of a term
  pub int_names : (n : ℤ) → AllNames P (term.Int n)
  int_names n = All-same P (names_of (term.Int n)) [] (names_of_int n) (All-nil P)

  pub atom_names : (a : List ℕ) → AllNames P (term.Atom a)
  atom_names a = All-same P (names_of (term.Atom a)) [] (names_of_atom a) (All-nil P)

  pub pid_names : (p : Pid) → P (process p.0) → AllNames P (term.Pid p)
  pid_names p h = All-same P (names_of (term.Pid p)) (process p.0 ∷ []) (names_of_pid p) (All-cons P (process p.0) [] h (All-nil P))

  pub pid_tells : (p : Pid) → AllNames P (term.Pid p) → P (process p.0)
  pid_tells p h = All-head P (process p.0) [] (All-same P (process p.0 ∷ []) (names_of (term.Pid p)) (sym (names_of_pid p)) h)

  pub ref_names : (r : Ref) → P (reference r) → P (process r.owner.0) → AllNames P (term.Ref r)
  ref_names r h o = All-same P (names_of (term.Ref r)) (names_of_ref r) (names_of_reference r) (all_of_ref r h o)

  pub ref_tells : (r : Ref) → AllNames P (term.Ref r) → P (reference r) × P (process r.owner.0)
  ref_tells r h = ref_of_all r (All-same P (names_of_ref r) (names_of (term.Ref r)) (sym (names_of_reference r)) h)

  pub tuple_names : (ts : List Term) → All (AllNames P) ts → AllNames P (term.Tuple ts)
  tuple_names ts h = All-same P (names_of (term.Tuple ts)) (names_of_each ts) (names_of_tuple ts) (all_of_each ts h)

  pub list_names : (ts : List Term) → All (AllNames P) ts → AllNames P (term.List ts)
  list_names ts h = All-same P (names_of (term.List ts)) (names_of_each ts) (names_of_list ts) (all_of_each ts h)

  pub tuple_tells : (ts : List Term) → AllNames P (term.Tuple ts) → All (AllNames P) ts
  tuple_tells ts h = each_of_all ts (All-same P (names_of_each ts) (names_of (term.Tuple ts)) (sym (names_of_tuple ts)) h)

  pub list_tells : (ts : List Term) → AllNames P (term.List ts) → All (AllNames P) ts
  list_tells ts h = each_of_all ts (All-same P (names_of_each ts) (names_of (term.List ts)) (sym (names_of_list ts)) h)

  -- the elements of a tuple or a list, by the layer of a term
  abbrev pub AllOfLayer : Term-F Term → Type 0
  AllOfLayer (layer.Tuple ts) = All (AllNames P) ts
  AllOfLayer (layer.List ts) = All (AllNames P) ts
  AllOfLayer _ = Unit {0}

  layer_tells : (x : Term-F Term) → All P (names_step (map-Term Term (List Named) names_of x)) → AllOfLayer x
  layer_tells (layer.Tuple ts) h = each_of_all ts h
  layer_tells (layer.List ts) h = each_of_all ts h
  layer_tells _ h = tt

  pub elements_tell : (t : Term) → AllNames P t → AllOfLayer (out-Term t)
  elements_tell t h =
      layer_tells (out-Term t) (All-same P (names_step (map-Term Term (List Named) names_of (out-Term t))) (names_of t) (sym (fold_out-Term (List Named) names_step t)) h)

-- a reference whose owner is one of so many
pub ref_below : (count : ℕ) (r : Ref) → IsRefBelow count r → All (IsNameBelow count) (names_of_ref r)
ref_below count r h = all_of_ref (IsNameBelow count) r tt h
