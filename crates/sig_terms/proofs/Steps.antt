-- The loop over the elements of a list, step by step.
use Rattle.std.proofs.Common.{◌≡◌, ℕ, suc, ◌+◌, ◌-◌, ◌<◌, ◌≤◌, List, [], ◌∷◌, ◌++◌, length, false, Option, Some, None, refl, sym, ap, ◌∙◌, arith}
use Rattle.std.specs.Prelude.{◌==◌}
use Rattle.sig_terms.specs.declared.term.Term.{Term}
use Rattle.sig_terms.specs.declared.refusal.ReadTerm.{ReadTerm}
use Rattle.sig_terms.specs.declared.refusal.ReadTerm.TheVariants as refusal
use Rattle.sig_terms.specs.Tokens.{◌>>=◌}
use Rattle.sig_terms.specs.Fronts.{Fails, next_at, elements_at}
use Rattle.std.proofs.lemmas.Bool.Decides.{nat_tests}
use Rattle.sig_terms.proofs.Choices.{second_of}

-- the elements, and what is behind them
abbrev pub Elements : Type 0
Elements = Option (List Term × ℕ × List ℕ)

abbrev pub Reader : Type 0
Reader = ℕ → List ℕ → Option (Term × ℕ × List ℕ)

-- the loop at an element
at_item : (read : Reader) (close n i left : ℕ) (items : List Term) (bytes : List ℕ) → i < n
    → elements_at read close (n - i) left items bytes ≡ (read left bytes >>= λ x. next_at close (elements_at read close (n - (i + 1))) x.1 (items ++ x.0 ∷ []) x.2)
unfolding elements_at
at_item read close n i left items bytes lt =
    let k : n - i ≡ suc (n - (i + 1)) = omega arith in
    rw k refl

-- behind an element that is read
pub behind_item : (read : Reader) (close n i left : ℕ) (items : List Term) (bytes : List ℕ) (item : Term) (fewer : ℕ) (behind : List ℕ) (all : List Term) (total : Elements) → i < n
    → read left bytes ≡ Some (item, fewer, behind) → all ≡ items ++ item ∷ [] → elements_at read close (n - i) left items bytes ≡ total
    → next_at close (elements_at read close (n - (i + 1))) fewer all behind ≡ total
behind_item read close n i left items bytes item fewer behind all total lt is added so_far =
    let more : ℕ → List Term → List ℕ → Elements = elements_at read close (n - (i + 1)) in
    ap (λ (ts : List Term). next_at close more fewer ts behind) added
    ∙ sym (at_item read close n i left items bytes lt ∙ ap (λ (o : Option (Term × ℕ × List ℕ)). o >>= λ x. next_at close more x.1 (items ++ x.0 ∷ []) x.2) is)
    ∙ so_far

-- behind a comma it goes on
pub goes_on : (close : ℕ) (more : ℕ → List Term → List ℕ → Elements) (nodes : ℕ) (items : List Term) (bytes : List ℕ) (b : ℕ) (bs : List ℕ) (total : Elements) → bytes ≡ b ∷ bs → b ≡ 44
    → next_at close more nodes items bytes ≡ total → more nodes items bs ≡ total
goes_on close more nodes items bytes b bs total is comma so_far = sym (ap (next_at close more nodes items) (is ∙ ap (λ (k : ℕ). k ∷ bs) comma)) ∙ so_far

-- at the byte that ends the list it ends
pub ends : (close : ℕ) (more : ℕ → List Term → List ℕ → Elements) (nodes : ℕ) (items : List Term) (bytes : List ℕ) (b : ℕ) (bs : List ℕ) (total : Elements) → bytes ≡ b ∷ bs → (b ≡ 44 → ⊥) → b ≡ close
    → next_at close more nodes items bytes ≡ total → total ≡ Some (items, nodes, bs)
ends close more nodes items bytes b bs total is other same so_far =
    sym so_far ∙ ap (next_at close more nodes items) is ∙ second_of (b == 44) (b == close) _ _ _ (grind (arith, nat_tests, other)) (grind (arith, nat_tests, same))

-- at any other byte there is no list
pub breaks : (close : ℕ) (more : ℕ → List Term → List ℕ → Elements) (nodes : ℕ) (items : List Term) (bytes : List ℕ) (b : ℕ) (bs : List ℕ) (total : Elements) → bytes ≡ b ∷ bs → (b ≡ 44 → ⊥) → (b ≡ close → ⊥)
    → next_at close more nodes items bytes ≡ total → total ≡ None
breaks close more nodes items bytes b bs total is other inner so_far =
    let no_comma : (b == 44) ≡ false = grind (arith, nat_tests, other) in
    let no_end : (b == close) ≡ false = grind (arith, nat_tests, inner) in
    sym so_far ∙ ap (next_at close more nodes items) is ∙ rw (no_comma, no_end) refl

-- nor at the end of the bytes
pub runs_out : (close : ℕ) (more : ℕ → List Term → List ℕ → Elements) (nodes : ℕ) (items : List Term) (bytes : List ℕ) (total : Elements) → length bytes ≡ 0
    → next_at close more nodes items bytes ≡ total → total ≡ None
runs_out close more nodes items [] total is so_far = sym so_far
runs_out close more nodes items (b ∷ bs) total is so_far = absurd (omega arith)

pub fails : (e : ReadTerm) (read : Reader) (close n i left : ℕ) (items : List Term) (bytes : List ℕ) (total : Elements) → i < n
    → Fails e (read left bytes) → elements_at read close (n - i) left items bytes ≡ total → Fails e total
fails refusal.BadTerm read close n i left items bytes total lt here so_far =
    sym so_far ∙ at_item read close n i left items bytes lt ∙ ap (λ (o : Option (Term × ℕ × List ℕ)). o >>= λ x. next_at close (elements_at read close (n - (i + 1))) x.1 (items ++ x.0 ∷ []) x.2) here
fails refusal.Memory read close n i left items bytes total lt here so_far = tt

pub no_room : (read : Reader) (close n i left : ℕ) (items : List Term) (bytes : List ℕ) (total : Elements) → n ≤ i → elements_at read close (n - i) left items bytes ≡ total → total ≡ None
unfolding elements_at
no_room read close n i left items bytes total le so_far =
    let k : n - i ≡ 0 = omega arith in
    sym so_far ∙ rw k refl
