-- What sig_terms' reader of a front gives, as a reader of this crate.
use Rattle.std.proofs.Common.{◌≡◌, ℕ, ◌+◌, ◌-◌, ◌≤◌, List, ◌++◌, length, take, drop, Option, Some, None, refl, sym, ap, subst, ◌∙◌, arith, length-append, length-drop}
use Rattle.std.specs.Prelude.{IfSome}
use Rattle.std.proofs.lemmas.List.{take-append-drop, take_at, drop_at}
use Rattle.std.proofs.lemmas.Option.{none-some, same_Some}
use Rattle.sig_terms.specs.Tokens.{◌>>=◌}
use Rattle.sig_terms.specs.Fronts.{Fails, term_at}
use Rattle.sig_terms.specs.declared.refusal.ReadTerm.{ReadTerm}
use Rattle.sig_terms.specs.declared.refusal.ReadTerm.TheVariants as refusal
use Rattle.sig_terms.specs.TermText.{term_text}
use Rattle.sig_terms.specs.Nodes.{node_count}
use Rattle.sig_terms.specs.Readable.{IsReadable, Begins}
use Rattle.sig_terms.specs.declared.term.Term.{Term}
use Rattle.sig_terms.specs.declared.reading.TheConstants.{READ_DEPTH, READ_NODES}
use Rattle.sig_terms.proofs.FrontTexts.{IsFound, term_found}
use Rattle.sig_terms.proofs.FrontReads.{reads}
use Rattle.sig_terms.proofs.WholeReads.{readable_at, one_term}
use Rattle.sig_record.specs.Phrases.{term_front}

pub if_some_at : {A : Type 0} (P : A → Type 0) (o : Option A) (x : A) → o ≡ Some x → IfSome o P → P x
if_some_at P None x e h = absurd (none-some x e)
if_some_at P (Some y) x e h = subst P (same_Some y x e) h

found_at : (bytes : List ℕ) (x : Term × ℕ × List ℕ) → term_at READ_DEPTH READ_NODES bytes ≡ Some x → IsFound READ_DEPTH READ_NODES bytes x
found_at bytes x e = if_some_at (IsFound READ_DEPTH READ_NODES bytes) (term_at READ_DEPTH READ_NODES bytes) x e (term_found READ_DEPTH READ_NODES bytes)

none_by : (bytes : List ℕ) (o : Option (Term × ℕ × List ℕ)) → term_at READ_DEPTH READ_NODES bytes ≡ o → ((t : Term) → IsReadable t → ¬ Begins bytes t) → o ≡ None
none_by bytes None e h = refl
none_by bytes (Some x) e h = absurd (h x.0 (readable_at bytes x e) (x.2, (found_at bytes x e).text))

-- no term stands there
pub front_bad : (bytes : List ℕ) → ((t : Term) → IsReadable t → ¬ Begins bytes t) → term_front bytes ≡ None
front_bad bytes h = ap (λ (o : Option (Term × ℕ × List ℕ)). o >>= λ x. Some (x.0, x.2)) (none_by bytes (term_at READ_DEPTH READ_NODES bytes) refl h)

-- a reader that answers BadTerm found none
pub front_fails : (e : ReadTerm) (bytes : List ℕ) → (e ≡ refusal.BadTerm → (t : Term) → IsReadable t → ¬ Begins bytes t) → Fails e (term_front bytes)
front_fails refusal.BadTerm bytes h = front_bad bytes (h refl)
front_fails refusal.Memory bytes h = tt

-- the longest term is the one that stands there
pub front_is : (bytes : List ℕ) (t : Term) (used : ℕ) → IsReadable t → used ≤ length bytes → take used bytes ≡ term_text t
    → ((u : Term) → IsReadable u → Begins bytes u → length (term_text u) ≤ used) → term_front bytes ≡ Some (t, drop used bytes)
front_is bytes t used r within text longest =
    let rest : List ℕ = drop used bytes in
    let whole : bytes ≡ term_text t ++ rest = sym (take-append-drop used bytes) ∙ ap (λ (e : List ℕ). e ++ rest) text in
    let left : ℕ = READ_NODES - node_count t in
    let c = reads t r.term READ_DEPTH left rest r.depth in
    let count : READ_NODES ≡ node_count t + left = omega (arith, r.nodes) in
    let here : term_at READ_DEPTH READ_NODES bytes ≡ Some c.found =
    ap (λ (n : ℕ). term_at READ_DEPTH n bytes) count ∙ ap (term_at READ_DEPTH (node_count t + left)) whole ∙ c.is in
    let f : IsFound READ_DEPTH READ_NODES bytes c.found = found_at bytes c.found here in
    let u : Term = c.found.0 in
    let readable : IsReadable u = readable_at bytes c.found here in
    let short : length (term_text u) ≤ used = longest u readable (c.found.2, f.text) in
    let all : length bytes ≡ length (term_text u) + length c.found.2 = ap length f.text ∙ length-append (term_text u) c.found.2 in
    let exact : length (term_text u) ≡ used = omega (arith, short, all, c.shorter, within, length-drop used bytes) in
    let same_text : term_text u ≡ term_text t = sym (ap (take used) f.text ∙ take_at (term_text u) c.found.2 used exact) ∙ text in
    let same : u ≡ t = one_term u t readable.term r.term same_text in
    let behind : c.found.2 ≡ rest = sym (ap (drop used) f.text ∙ drop_at (term_text u) c.found.2 used exact) in
    ap (λ (o : Option (Term × ℕ × List ℕ)). o >>= λ x. Some (x.0, x.2)) here ∙ ap (λ (v : Term). Some (v, c.found.2)) same ∙ ap (λ (e : List ℕ). Some (t, e)) behind
