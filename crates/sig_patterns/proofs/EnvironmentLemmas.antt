-- A sorted map from keys of bytes looks up, inserts, replaces and removes as the environment of its entries does.
use Rattle.std.proofs.Common.{◌≡◌, ℕ, Bool, true, false, List, refl, sym, ap, subst, ◌∙◌, Option, Some, None, cond, ⊎_elim}
use Rattle.std.proofs.lemmas.Bool.{cases_Bool, cond-true, cond-false}
use Rattle.std.proofs.lemmas.Map.Text.{is_eq-slice_cmp}
use Rattle.std.specs.Ordering.{is_eq, nat_cmp, eq_by_cmp}
use Rattle.std.specs.Cmp.{eq_by_cmp_equiv}
use Rattle.std.specs.Cmp.Lexicographic.{slice_cmp, bytes_decides, nat_list_cmp_total, nat_list_eq_equiv}
use Rattle.std.specs.Str.{bytes_eq}
use Rattle.std.specs.FinMap.{get, insert, get-insert, get-remove, get-from_entries, same_map, slice_cmp-IsAntisymmetric, nat_cmp-IsAntisymmetric}
use Rattle.std.specs.Map.{lookup, IsKeyTest, AreApart, KeepsOthers}
use Rattle.std.specs.BTreeMap.{BTreeMap, UpdatesBy, is_at, insert_entry}
use Rattle.std.specs.declared.vec.Vec.{Vec}
use Rattle.std.specs.declared.alloc.Global.{Global}
use Rattle.sig_terms.specs.declared.term.Term.{Term}
use Rattle.sig_patterns.specs.Entries.{by_bytes, environment_of}
use Rattle.sig_patterns.specs.Environment.{Environment, with_entry}
use Rattle.sig_patterns.proofs.ByteKeyLemmas.{find-with_bytes, lookup-insert_entry}

pub get-environment_of : (q : List ℕ) (es : List (Vec ℕ Global × Term)) → get (environment_of es) q ≡ lookup (is_at (λ k. slice_cmp nat_cmp q k.items)) es
get-environment_of q es = get-from_entries nat_list_cmp_total (by_bytes es) q ∙ find-with_bytes q es

same_environment : (a b : Environment) → ((q : List ℕ) → get a q ≡ get b q) → a ≡ b
same_environment a b same = same_map nat_list_cmp_total (slice_cmp-IsAntisymmetric nat_cmp-IsAntisymmetric) a b same

pub insert-environment_of : (k : Vec ℕ Global) (v : Term) (es : List (Vec ℕ Global × Term)) → environment_of (insert_entry (λ x y. slice_cmp nat_cmp x.items y.items) es k v) ≡ insert (environment_of es) k.items v
insert-environment_of k v es = same_environment _ _
    (λ q. get-environment_of q (insert_entry (λ x y. slice_cmp nat_cmp x.items y.items) es k v)
    ∙ lookup-insert_entry q k v es
    ∙ sym (get-insert nat_list_cmp_total (environment_of es) k.items v q ∙ ap (cond (eq_by_cmp (slice_cmp nat_cmp) q k.items) (Some v)) (get-environment_of q es)))

apart : (bs cs ks : List ℕ) → bytes_eq bs cs ≡ false → is_eq (slice_cmp nat_cmp bs ks) ≡ true → is_eq (slice_cmp nat_cmp cs ks) ≡ false
apart bs cs ks n y =
    is_eq-slice_cmp cs ks ∙ nat_list_eq_equiv.symm cs ks ∙ sym (nat_list_eq_equiv.congr bs ks cs (sym (is_eq-slice_cmp bs ks) ∙ y)) ∙ n

other_entries : (test : Vec ℕ Global → Bool) (old new : List (Vec ℕ Global × Term)) → KeepsOthers (eq_by_cmp (λ x y. slice_cmp nat_cmp x.items y.items)) test old new
    → (other : Vec ℕ Global → Bool) → IsKeyTest (eq_by_cmp (λ x y. slice_cmp nat_cmp x.items y.items)) other → AreApart test other → lookup other new ≡ lookup other old
unfolding KeepsOthers
other_entries test old new h = h

-- a map in which a key of these bytes has another entry, or none
abbrev pub Updated : List ℕ → BTreeMap (Vec ℕ Global) Term → BTreeMap (Vec ℕ Global) Term → Option Term → Type 0
Updated bs m n entry = UpdatesBy (λ x y. slice_cmp nat_cmp x.items y.items) (λ k. slice_cmp nat_cmp bs k.items) m n entry

updated_at : (bs : List ℕ) (m n : BTreeMap (Vec ℕ Global) Term) (entry : Option Term) → Updated bs m n entry → (q : List ℕ)
    → get (environment_of n.entries) q ≡ cond (bytes_eq bs q) entry (get (environment_of m.entries) q)
updated_at bs m n entry h q =
    ⊎_elim
    (λ same. get-environment_of q n.entries
    ∙ subst (λ (ks : List ℕ). lookup (is_at (λ k. slice_cmp nat_cmp ks k.items)) n.entries ≡ entry) ((bytes_decides bs q).0 same) h.1
    ∙ sym (cond-true (bytes_eq bs q) entry (get (environment_of m.entries) q) same))
    (λ other. get-environment_of q n.entries
    ∙ other_entries _ m.entries n.entries h.3 (is_at (λ k. slice_cmp nat_cmp q k.items))
    (λ x y. (eq_by_cmp_equiv nat_list_cmp_total).congr q x.items y.items)
    (λ k. apart bs q k.items other)
    ∙ sym (get-environment_of q m.entries)
    ∙ sym (cond-false (bytes_eq bs q) entry (get (environment_of m.entries) q) other))
    (cases_Bool (bytes_eq bs q))

eq_turned : (bs q : List ℕ) → eq_by_cmp (slice_cmp nat_cmp) q bs ≡ bytes_eq bs q
eq_turned bs q = is_eq-slice_cmp q bs ∙ nat_list_eq_equiv.symm q bs

with_entry_at : (env : Environment) (bs : List ℕ) (entry : Option Term) (q : List ℕ) → get (with_entry env bs entry) q ≡ cond (bytes_eq bs q) entry (get env q)
with_entry_at env bs (Some v) q = get-insert nat_list_cmp_total env bs v q ∙ ap (λ b. cond b (Some v) (get env q)) (eq_turned bs q)
with_entry_at env bs None q = get-remove nat_list_cmp_total env bs q ∙ ap (λ b. cond b None (get env q)) (eq_turned bs q)

pub updated-environment_of : (bs : List ℕ) (m n : BTreeMap (Vec ℕ Global) Term) (entry : Option Term) → Updated bs m n entry → environment_of n.entries ≡ with_entry (environment_of m.entries) bs entry
updated-environment_of bs m n entry h =
    same_environment _ _ (λ q. updated_at bs m n entry h q ∙ sym (with_entry_at (environment_of m.entries) bs entry q))

put_back : (b : Bool) (entry : Option Term) (v : Term) (old : Option Term) → (b ≡ true → entry ≡ old) → cond b entry (cond b (Some v) old) ≡ old
put_back true entry v old same = same refl
put_back false entry v old same = refl

-- what the variable had, put back
pub restored : (env : Environment) (bs : List ℕ) (v : Term) → with_entry (insert env bs v) bs (get env bs) ≡ env
restored env bs v =
    same_environment _ _
    (λ q. with_entry_at (insert env bs v) bs (get env bs) q
    ∙ ap (cond (bytes_eq bs q) (get env bs)) (with_entry_at env bs (Some v) q)
    ∙ put_back (bytes_eq bs q) (get env bs) v (get env q) (λ same. ap (get env) ((bytes_decides bs q).0 same)))

inserted_at : (b : Bool) (v : Term) (old : Option Term) → b ≡ true → cond b (Some v) old ≡ Some v
inserted_at b v old is = cond-true b (Some v) old is

-- a variable that was just put in has that entry
pub get-inserted_here : (env : Environment) (bs : List ℕ) (v : Term) → get (insert env bs v) bs ≡ Some v
get-inserted_here env bs v = with_entry_at env bs (Some v) bs ∙ inserted_at (bytes_eq bs bs) v (get env bs) ((bytes_decides bs bs).1 refl)
