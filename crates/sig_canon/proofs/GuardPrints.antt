-- The text of a guard is put together from those of its tests.
use Rattle.std.proofs.Common.{◌≡◌, ℕ, ◌-◌, ◌≤◌, List, [], ◌∷◌, ◌++◌, length, map, take, drop, get_or, Option, Some, None, Result, refl, sym, ap, ◌∙◌, append_assoc, codes}
use Rattle.std.specs.List.{concat, flat_map}
use Rattle.sig_terms.specs.Putting.{IsPut}
use Rattle.sig_patterns.specs.declared.clause.Clause.{Clause}
use Rattle.sig_patterns.specs.declared.guard.Guard.{Guard}
use Rattle.sig_patterns.specs.declared.guard.Test.{Test}
use Rattle.sig_patterns.specs.declared.guard.Test.TheVariants as test
use Rattle.sig_canon.specs.ScriptText.{after_blank, test_text, tests_text, alternatives_text, guard_text, pattern_text, target_text, clause_line, line_text}
use Rattle.sig_canon.specs.Printing.{test_behind, tests_behind, alternatives_behind}
use Rattle.sig_canon.proofs.JoinedLemmas.{first_and_rest}
use Rattle.sig_canon.proofs.PrintLemmas.{two_put}

-- texts behind others
words-append : (xs ys : List (List ℕ)) → concat (map after_blank (xs ++ ys)) ≡ concat (map after_blank xs) ++ concat (map after_blank ys)
words-append [] ys = refl
words-append (x ∷ xs) ys =
    ap (λ (b : List ℕ). after_blank x ++ b) (words-append xs ys) ∙ sym (append_assoc (after_blank x) (concat (map after_blank xs)) (concat (map after_blank ys)))

test-split : (t : Test) (rest : List (List ℕ)) → test_text t rest ≡ test_text t [] ++ rest
test-split (test.Compare left sign right) rest = refl
test-split (test.Is kind x) rest = refl

tests-split : (word : List ℕ) (ts : List Test) (rest : List (List ℕ)) → tests_text word ts rest ≡ tests_text word ts [] ++ rest
tests-split word [] rest = refl
tests-split word (t ∷ ts) rest =
    let more : List (List ℕ) = tests_text (codes "and") ts [] in
    let same : test_text t (tests_text (codes "and") ts rest) ≡ test_text t more ++ rest =
    test-split t (tests_text (codes "and") ts rest)
    ∙ ap (λ (xs : List (List ℕ)). test_text t [] ++ xs) (tests-split (codes "and") ts rest)
    ∙ sym (append_assoc (test_text t []) more rest)
    ∙ ap (λ (xs : List (List ℕ)). xs ++ rest) (sym (test-split t more)) in
    ap (λ (xs : List (List ℕ)). word ∷ xs) same

alternatives-split : (word : List ℕ) (tss : List (List Test)) (rest : List (List ℕ)) → alternatives_text word tss rest ≡ alternatives_text word tss [] ++ rest
alternatives-split word [] rest = refl
alternatives-split word (ts ∷ tss) rest =
    let more : List (List ℕ) = alternatives_text (codes "or") tss [] in
    tests-split word ts (alternatives_text (codes "or") tss rest)
    ∙ ap (λ (xs : List (List ℕ)). tests_text word ts [] ++ xs) (alternatives-split (codes "or") tss rest)
    ∙ sym (append_assoc (tests_text word ts []) more rest)
    ∙ ap (λ (xs : List (List ℕ)). xs ++ rest) (sym (tests-split word ts more))

guard-split : (g : Option Guard) (rest : List (List ℕ)) → guard_text g rest ≡ guard_text g [] ++ rest
guard-split None rest = refl
guard-split (Some g) rest = alternatives-split (codes "when") g.alternatives rest

-- a guard, and what stands behind it
pub guard_words : (g : Option Guard) (rest : List (List ℕ)) → concat (map after_blank (guard_text g rest)) ≡ concat (map after_blank (guard_text g [])) ++ concat (map after_blank rest)
guard_words g rest = ap (λ (xs : List (List ℕ)). concat (map after_blank xs)) (guard-split g rest) ∙ words-append (guard_text g []) rest

-- the first test, and the others behind `and`
tests-cons : (word : List ℕ) (t : Test) (ts : List Test) → tests_behind word (t ∷ ts) ≡ test_behind word t ++ tests_behind (codes "and") ts
tests-cons word t ts =
    ap (λ (xs : List (List ℕ)). concat (map after_blank (word ∷ xs))) (test-split t (tests_text (codes "and") ts []))
    ∙ words-append (word ∷ test_text t []) (tests_text (codes "and") ts [])

tests-each : (ts : List Test) → tests_behind (codes "and") ts ≡ flat_map (test_behind (codes "and")) ts
tests-each [] = refl
tests-each (t ∷ ts) = tests-cons (codes "and") t ts ∙ ap (λ (b : List ℕ). test_behind (codes "and") t ++ b) (tests-each ts)

pub first_test : (word : List ℕ) (t : Test) (ts : List Test) → tests_behind word (t ∷ ts) ≡ test_behind word t ++ flat_map (test_behind (codes "and")) ts
first_test word t ts = tests-cons word t ts ∙ ap (λ (b : List ℕ). test_behind word t ++ b) (tests-each ts)

-- the first alternative, and the others behind `or`
alternatives-cons : (word : List ℕ) (ts : List Test) (tss : List (List Test)) → alternatives_behind word (ts ∷ tss) ≡ tests_behind word ts ++ alternatives_behind (codes "or") tss
alternatives-cons word ts tss =
    ap (λ (xs : List (List ℕ)). concat (map after_blank xs)) (tests-split word ts (alternatives_text (codes "or") tss []))
    ∙ words-append (tests_text word ts []) (alternatives_text (codes "or") tss [])

alternatives-each : (tss : List (List Test)) → alternatives_behind (codes "or") tss ≡ flat_map (tests_behind (codes "or")) tss
alternatives-each [] = refl
alternatives-each (ts ∷ tss) = alternatives-cons (codes "or") ts tss ∙ ap (λ (b : List ℕ). tests_behind (codes "or") ts ++ b) (alternatives-each tss)

pub first_alternative : (word : List ℕ) (ts : List Test) (tss : List (List Test)) → alternatives_behind word (ts ∷ tss) ≡ tests_behind word ts ++ flat_map (tests_behind (codes "or")) tss
first_alternative word ts tss = alternatives-cons word ts tss ∙ ap (λ (b : List ℕ). tests_behind word ts ++ b) (alternatives-each tss)

-- the first test is put, and then the others
pub tests_put : {T E : Type 0} (r : Result T E) (word : List ℕ) (ts : List Test) (t : Test) (a b c : List ℕ) → 1 ≤ length ts → t ≡ get_or ts 0 t → b ≡ a ++ test_behind word t →
    IsPut b c (flat_map (test_behind (codes "and")) (take (length ts - 1) (drop 1 ts))) r → IsPut a c (tests_behind word ts) r
tests_put r word ts t a b c long is put more =
    let rest : List Test = take (length ts - 1) (drop 1 ts) in
    two_put r a b c (test_behind word t) (flat_map (test_behind (codes "and")) rest) (tests_behind word ts) put more (ap (tests_behind word) (first_and_rest ts t long is) ∙ first_test word t rest)

-- the same with alternatives
pub alternatives_put : {T E : Type 0} (r : Result T E) (word : List ℕ) (tss : List (List Test)) (ts : List Test) (a b c : List ℕ) → 1 ≤ length tss → ts ≡ get_or tss 0 ts → b ≡ a ++ tests_behind word ts →
    IsPut b c (flat_map (tests_behind (codes "or")) (take (length tss - 1) (drop 1 tss))) r → IsPut a c (alternatives_behind word tss) r
alternatives_put r word tss ts a b c long is put more =
    let rest : List (List Test) = take (length tss - 1) (drop 1 tss) in
    two_put r a b c (tests_behind word ts) (flat_map (tests_behind (codes "or")) rest) (alternatives_behind word tss) put more
    (ap (alternatives_behind word) (first_and_rest tss ts long is) ∙ first_alternative word ts rest)

-- the parts of a clause's line
pub clause_split : (names labels : List (List ℕ)) (c : Clause) → line_text (clause_line names labels c)
    ≡ (((codes "on " ++ pattern_text names c.pattern) ++ concat (map after_blank (guard_text c.guard []))) ++ concat (map after_blank (target_text labels c.target))) ++ codes "\n"
unfolding clause_line
clause_split names labels c =
    let pattern : List ℕ = pattern_text names c.pattern in
    let guard : List ℕ = concat (map after_blank (guard_text c.guard [])) in
    let target : List ℕ = concat (map after_blank (target_text labels c.target)) in
    ap (λ (w : List ℕ). (codes "on " ++ w) ++ codes "\n") (ap (λ (w : List ℕ). pattern ++ w) (guard_words c.guard (target_text labels c.target)) ∙ sym (append_assoc pattern guard target))
