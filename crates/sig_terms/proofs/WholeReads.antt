-- What the reader of a front answers, by the laws of what is written and read.
use Rattle.std.proofs.Common.{◌≡◌, ℕ, ◌+◌, ◌-◌, ◌≤◌, List, [], ◌++◌, length, take, Option, Some, None, sym, ap, subst, ◌∙◌, arith, length-append, add_comm}
use Rattle.std.specs.Prelude.{IfSome}
use Rattle.std.proofs.lemmas.List.{take_at}
use Rattle.std.proofs.lemmas.Option.{none-some, same_Some}
use Rattle.sig_terms.specs.TermText.{term_text}
use Rattle.sig_terms.specs.Nodes.{node_count, depth_of}
use Rattle.sig_terms.specs.Readable.{IsTerm, IsReadable, Begins}
use Rattle.sig_terms.specs.declared.term.Term.{Term}
use Rattle.sig_terms.specs.declared.refusal.ReadTerm.{ReadTerm}
use Rattle.sig_terms.specs.declared.refusal.ReadTerm.TheVariants as refusal
use Rattle.sig_terms.specs.Fronts.{Fails, term_at}
use Rattle.sig_terms.proofs.FrontTexts.{IsFound, term_found}
use Rattle.sig_terms.proofs.FrontReads.{reads}
use Rattle.sig_terms.specs.declared.reading.TheConstants.{READ_DEPTH, READ_NODES}

abbrev Found : Type 0
Found = Term × ℕ × List ℕ

if_some_at : (P : Found → Type 0) (o : Option Found) (x : Found) → o ≡ Some x → IfSome o P → P x
if_some_at P None x e h = absurd (none-some x e)
if_some_at P (Some y) x e h = subst P (same_Some y x e) h

found_at : (bytes : List ℕ) (x : Found) → term_at READ_DEPTH READ_NODES bytes ≡ Some x → IsFound READ_DEPTH READ_NODES bytes x
found_at bytes x e = if_some_at (IsFound READ_DEPTH READ_NODES bytes) (term_at READ_DEPTH READ_NODES bytes) x e (term_found READ_DEPTH READ_NODES bytes)

-- what is read is readable
pub readable_at : (bytes : List ℕ) (x : Found) → term_at READ_DEPTH READ_NODES bytes ≡ Some x → IsReadable x.0
readable_at bytes x e =
    let f = found_at bytes x e in
    record { term = f.term; nodes = omega (arith, f.counted); depth = f.within }

-- how many bytes it takes
pub used_at : (bytes : List ℕ) (x : Found) → term_at READ_DEPTH READ_NODES bytes ≡ Some x → length x.2 ≤ length bytes
used_at bytes x e = let f = found_at bytes x e in omega (arith, ap length f.text, length-append (term_text x.0) x.2)

pub text_at : (bytes : List ℕ) (x : Found) → term_at READ_DEPTH READ_NODES bytes ≡ Some x → take (length bytes - length x.2) bytes ≡ term_text x.0
text_at bytes x e =
    let f = found_at bytes x e in
    let used : length (term_text x.0) ≡ length bytes - length x.2 = omega (arith, ap length f.text, length-append (term_text x.0) x.2) in
    ap (take (length bytes - length x.2)) f.text ∙ take_at (term_text x.0) x.2 (length bytes - length x.2) used

-- a readable term that stands at the front is read, or one that reaches further
comes_at : (bytes : List ℕ) (t : Term) → IsReadable t → (b : Begins bytes t) → (found : Found) × (term_at READ_DEPTH READ_NODES bytes ≡ Some found) × (length found.2 ≤ length b.0)
comes_at bytes t r b =
    let left : ℕ = READ_NODES - node_count t in
    let c = reads t r.term READ_DEPTH left b.0 r.depth in
    let count : READ_NODES ≡ node_count t + left = omega (arith, r.nodes) in
    (c.found, ap (λ (n : ℕ). term_at READ_DEPTH n bytes) count ∙ ap (term_at READ_DEPTH (node_count t + left)) b.1 ∙ c.is, c.shorter)

pub longest_at : (bytes : List ℕ) (x : Found) → term_at READ_DEPTH READ_NODES bytes ≡ Some x → (t : Term) → IsReadable t → Begins bytes t → length (term_text t) ≤ length bytes - length x.2
longest_at bytes x e t r b =
    let c = comes_at bytes t r b in
    let same : c.0 ≡ x = same_Some c.0 x (sym c.1 ∙ e) in
    omega (arith, c.2, ap (λ (y : Found). length y.2) same, ap length b.1, length-append (term_text t) b.0)

pub bad_at : (bytes : List ℕ) → term_at READ_DEPTH READ_NODES bytes ≡ None → (t : Term) → IsReadable t → ¬ Begins bytes t
bad_at bytes e t r b = let c = comes_at bytes t r b in none-some c.0 (sym e ∙ c.1)

-- different terms have different texts
pub one_term : (t u : Term) → IsTerm t → IsTerm u → term_text t ≡ term_text u → t ≡ u
one_term t u p q e =
    let depth : ℕ = depth_of t + depth_of u in
    let a = reads t p depth (node_count u) [] (omega arith) in
    let b = reads u q depth (node_count t) [] (omega arith) in
    let first : term_at depth (node_count t + node_count u) (term_text t ++ []) ≡ Some (t, node_count u, []) = a.is ∙ ap Some (a.whole tt) in
    let second : term_at depth (node_count t + node_count u) (term_text t ++ []) ≡ Some (u, node_count t, []) =
    ap (λ (n : ℕ). term_at depth n (term_text t ++ [])) (add_comm (node_count t) (node_count u)) ∙ ap (λ (text : List ℕ). term_at depth (node_count u + node_count t) (text ++ [])) e ∙ b.is ∙ ap Some (b.whole tt) in
    ap (λ (y : Found). y.0) (same_Some (t, node_count u, []) (u, node_count t, []) (sym first ∙ second))

-- a reader that answers BadTerm found nothing
pub fails_bad : {Y : Type 0} (e : ReadTerm) (read : Option Y) → Fails e read → e ≡ refusal.BadTerm → read ≡ None
fails_bad refusal.BadTerm read f h = f
fails_bad refusal.Memory read f h = absurd cc
