-- A term that is read is written so, and is within the limits.
use Rattle.std.proofs.Common.{◌≡◌, ℕ, zero, suc, ◌+◌, ◌^◌, ◌≤◌, true, List, [], ◌∷◌, ◌++◌, map, sum, Option, Some, refl, sym, ap, subst, ◌∙◌, append_assoc, arith}
use Rattle.std.specs.Prelude.{IfSome, ◌==◌, nat_lt, ◌||◌}
use Rattle.std.specs.List.{list_all}
use Rattle.std.proofs.lemmas.Bool.Decides.{nat_tests}
use Rattle.std.proofs.lemmas.List.{append-nil}
use Rattle.std.proofs.lemmas.List.Sums.{sum_by-cons}
use Rattle.std.proofs.lemmas.Option.{IfSome_then}
use Rattle.sig_terms.specs.Words.{is_lower, is_digit}
use Rattle.sig_terms.specs.TermText.{term_text, joined}
use Rattle.sig_terms.specs.Nodes.{node_count, depth_of, greatest}
use Rattle.sig_terms.specs.Readable.{is_term}
use Rattle.sig_terms.specs.declared.term.Term.{Term}
use Rattle.sig_terms.specs.declared.term.Term.TheVariants as term
use Rattle.sig_terms.specs.Tokens.{◌>>=◌, int_at, name_at, quoted_at, pid_at, reference_at}
use Rattle.sig_terms.specs.Fronts.{leaf_at, next_at, elements_at, items_at, node_at, front_by, term_at}
use Rattle.sig_terms.proofs.Choices.{by_test, if_bind}
use Rattle.sig_terms.proofs.Layers.{shows-Int, shows-Atom, shows-Pid, shows-Ref, shows-Tuple, shows-List}
use Rattle.sig_terms.proofs.TokenTexts.{IsReadInt, int_text, IsReadAtom, name_at_text, quoted_at_text, IsReadPid, pid_at_text, IsReadRef, reference_at_text}

-- ---- terms without elements

record IsLeaf (bytes : List ℕ) (x : Term × List ℕ) : Type 0 where
  text : bytes ≡ term_text x.0 ++ x.1
  term : is_term x.0 ≡ true
  nodes : node_count x.0 ≡ 1
  depth : depth_of x.0 ≡ 1

leaf_of_int : (bytes : List ℕ) → IfSome (int_at bytes >>= λ x. Some (term.Int x.0, x.1)) (IsLeaf bytes)
leaf_of_int bytes =
    if_bind (IsReadInt bytes) (IsLeaf bytes) (int_at bytes) (λ x. Some (term.Int x.0, x.1)) (int_text bytes) (λ x r.
    let s = shows-Int x.0 in
    record { text = rw s.text r.1; term = s.term ∙ r.0; nodes = s.nodes; depth = s.depth })

leaf_of_atom : (bytes : List ℕ) (o : Option (List ℕ × List ℕ)) → IfSome o (IsReadAtom bytes) → IfSome (o >>= λ x. Some (term.Atom x.0, x.1)) (IsLeaf bytes)
leaf_of_atom bytes o h =
    if_bind (IsReadAtom bytes) (IsLeaf bytes) o (λ x. Some (term.Atom x.0, x.1)) h (λ x r.
    let s = shows-Atom x.0 in
    record { text = rw s.text r.1; term = s.term ∙ r.0; nodes = s.nodes; depth = s.depth })

leaf_of_pid : (bytes : List ℕ) → IfSome (pid_at bytes >>= λ x. Some (term.Pid x.0, x.1)) (IsLeaf (60 ∷ bytes))
leaf_of_pid bytes =
    if_bind (IsReadPid bytes) (IsLeaf (60 ∷ bytes)) (pid_at bytes) (λ x. Some (term.Pid x.0, x.1)) (pid_at_text bytes) (λ x r.
    let s = shows-Pid x.0 in
    let small : nat_lt x.0.0 (2 ^ 32) ≡ true = grind (arith, nat_tests, r.0) in
    record { text = rw s.text r.1; term = s.term ∙ small; nodes = s.nodes; depth = s.depth })

leaf_of_reference : (bytes : List ℕ) → IfSome (reference_at bytes >>= λ x. Some (term.Ref x.0, x.1)) (IsLeaf (35 ∷ bytes))
leaf_of_reference bytes =
    if_bind (IsReadRef bytes) (IsLeaf (35 ∷ bytes)) (reference_at bytes) (λ x. Some (term.Ref x.0, x.1)) (reference_at_text bytes) (λ x r.
    let s = shows-Ref x.0 in
    let owner : nat_lt x.0.owner.0 (2 ^ 32) ≡ true = grind (arith, nat_tests, r.0) in
    let serial : nat_lt x.0.serial (2 ^ 64) ≡ true = grind (arith, nat_tests, r.1) in
    record { text = rw s.text r.2; term = s.term ∙ rw (owner, serial) refl; nodes = s.nodes; depth = s.depth })

leaf_text : (bytes : List ℕ) → IfSome (leaf_at bytes) (IsLeaf bytes)
unfolding leaf_at
leaf_text [] = tt
leaf_text (b ∷ bs) =
    let P : Option (Term × List ℕ) → Type 0 = λ o. IfSome o (IsLeaf (b ∷ bs)) in
    by_test P (b == 45 || is_digit b) _ _ (λ h. leaf_of_int (b ∷ bs)) (λ h.
    by_test P (is_lower b) _ _ (λ lower. leaf_of_atom (b ∷ bs) (name_at (b ∷ bs)) (name_at_text b bs lower)) (λ _.
    by_test P (b == 39) _ _ (λ e. let same : b ≡ 39 = grind (arith, nat_tests) in rw same (leaf_of_atom (39 ∷ bs) (quoted_at bs) (quoted_at_text bs))) (λ _.
    by_test P (b == 60) _ _ (λ e. let same : b ≡ 60 = grind (arith, nat_tests) in rw same (leaf_of_pid bs)) (λ _.
    by_test P (b == 35) _ _ (λ e. let same : b ≡ 35 = grind (arith, nat_tests) in rw same (leaf_of_reference bs)) (λ _. tt)))))

-- ---- elements

-- what a reader with this depth finds
pub record IsFound (depth nodes : ℕ) (bytes : List ℕ) (x : Term × ℕ × List ℕ) : Type 0 where
  pub text : bytes ≡ term_text x.0 ++ x.2
  pub term : is_term x.0 ≡ true
  pub counted : node_count x.0 + x.1 ≡ nodes
  pub within : depth_of x.0 ≤ depth

abbrev pub Finds : ℕ → (ℕ → List ℕ → Option (Term × ℕ × List ℕ)) → Type 0
Finds depth read = (nodes : ℕ) (bytes : List ℕ) → IfSome (read nodes bytes) (IsFound depth nodes bytes)

-- elements behind those that were there
record AreFound (depth close nodes : ℕ) (items : List Term) (bytes : List ℕ) (x : List Term × ℕ × List ℕ) : Type 0 where
  first : Term
  others : List Term
  all : x.0 ≡ items ++ first ∷ others
  text : bytes ≡ joined (map term_text (first ∷ others)) ++ close ∷ x.2
  term : list_all (λ b. b) (map is_term (first ∷ others)) ≡ true
  counted : sum (map node_count (first ∷ others)) + x.1 ≡ nodes
  within : greatest (map depth_of (first ∷ others)) ≤ depth

last_found : (depth close nodes : ℕ) (items : List Term) (bytes bs : List ℕ) (t : Term) (left : ℕ) → IsFound depth nodes bytes (t, left, close ∷ bs) → AreFound depth close nodes items bytes (items ++ t ∷ [], left, bs)
last_found depth close nodes items bytes bs t left f = record {
  first = t;
  others = [];
  all = refl;
  text = f.text ∙ ap (λ (text : List ℕ). text ++ close ∷ bs) (sym (append-nil (term_text t)));
  term = rw f.term refl;
  counted = omega (arith, f.counted);
  within = omega (arith, f.within);
}

more_found : (depth close nodes : ℕ) (items : List Term) (bytes bs : List ℕ) (t : Term) (left : ℕ) (x : List Term × ℕ × List ℕ) → IsFound depth nodes bytes (t, left, 44 ∷ bs) → AreFound depth close left (items ++ t ∷ []) bs x → AreFound depth close nodes items bytes x
more_found depth close nodes items bytes bs t left x f r = record {
  first = t;
  others = r.first ∷ r.others;
  all = r.all ∙ append_assoc items (t ∷ []) (r.first ∷ r.others);
  text = f.text ∙ ap (λ (text : List ℕ). term_text t ++ (44 ∷ text)) r.text ∙ sym (append_assoc (term_text t) (44 ∷ joined (map term_text (r.first ∷ r.others))) (close ∷ x.2));
  term = rw f.term r.term;
  counted = omega (arith, f.counted, r.counted, sum_by-cons (λ x. x) (node_count t) (map node_count (r.first ∷ r.others)));
  within = omega (arith, f.within, r.within);
}

next_found : (depth close nodes : ℕ) (items : List Term) (bytes : List ℕ) (t : Term) (left : ℕ) (behind : List ℕ) (more : ℕ → List Term → List ℕ → Option (List Term × ℕ × List ℕ))
    → ((fewer : ℕ) (done : List Term) (bs : List ℕ) → IfSome (more fewer done bs) (AreFound depth close fewer done bs)) → IsFound depth nodes bytes (t, left, behind)
    → IfSome (next_at close more left (items ++ t ∷ []) behind) (AreFound depth close nodes items bytes)
next_found depth close nodes items bytes t left [] more h f = tt
next_found depth close nodes items bytes t left (b ∷ bs) more h f =
    let P : Option (List Term × ℕ × List ℕ) → Type 0 = λ o. IfSome o (AreFound depth close nodes items bytes) in
    by_test P (b == 44) _ _
    (λ e.
    let same : b ≡ 44 = grind (arith, nat_tests) in
    let g : IsFound depth nodes bytes (t, left, 44 ∷ bs) = subst (λ (k : ℕ). IsFound depth nodes bytes (t, left, k ∷ bs)) same f in
    IfSome_then (more left (items ++ t ∷ []) bs) (h left (items ++ t ∷ []) bs) (λ x r. more_found depth close nodes items bytes bs t left x g r))
    (λ _. by_test P (b == close) _ _
    (λ e.
    let same : b ≡ close = grind (arith, nat_tests) in
    last_found depth close nodes items bytes bs t left (subst (λ (k : ℕ). IsFound depth nodes bytes (t, left, k ∷ bs)) same f))
    (λ _. tt))

elements_found : (depth : ℕ) (read : ℕ → List ℕ → Option (Term × ℕ × List ℕ)) → Finds depth read → (close room nodes : ℕ) (items : List Term) (bytes : List ℕ) → IfSome (elements_at read close room nodes items bytes) (AreFound depth close nodes items bytes)
unfolding elements_at
elements_found depth read h close zero nodes items bytes = tt
elements_found depth read h close (suc room) nodes items bytes =
    if_bind (IsFound depth nodes bytes) (AreFound depth close nodes items bytes) (read nodes bytes) (λ x. next_at close (elements_at read close room) x.1 (items ++ x.0 ∷ []) x.2) (h nodes bytes) (λ x f.
    next_found depth close nodes items bytes x.0 x.1 x.2 (elements_at read close room) (λ fewer done bs. elements_found depth read h close room fewer done bs) f)

-- the elements behind a bracket
record AreInside (depth close nodes : ℕ) (bytes : List ℕ) (x : List Term × ℕ × List ℕ) : Type 0 where
  text : bytes ≡ joined (map term_text x.0) ++ close ∷ x.2
  term : list_all (λ b. b) (map is_term x.0) ≡ true
  counted : sum (map node_count x.0) + x.1 ≡ nodes
  within : greatest (map depth_of x.0) ≤ depth

inside_from : (depth close nodes : ℕ) (bytes : List ℕ) (x : List Term × ℕ × List ℕ) → AreFound depth close nodes [] bytes x → AreInside depth close nodes bytes x
inside_from depth close nodes bytes x r =
    subst (λ (ts : List Term). AreInside depth close nodes bytes (ts, x.1, x.2)) (sym r.all) (record { text = r.text; term = r.term; counted = r.counted; within = r.within })

items_found : (depth : ℕ) (read : ℕ → List ℕ → Option (Term × ℕ × List ℕ)) → Finds depth read → (close nodes : ℕ) (bytes : List ℕ) → IfSome (items_at read close nodes bytes) (AreInside depth close nodes bytes)
unfolding items_at
items_found depth read h close nodes [] = tt
items_found depth read h close nodes (b ∷ bs) =
    by_test (λ o. IfSome o (AreInside depth close nodes (b ∷ bs))) (b == close) _ _
    (λ e.
    let same : b ≡ close = grind (arith, nat_tests) in
    record { text = ap (λ (k : ℕ). k ∷ bs) same; term = refl; counted = omega arith; within = omega arith })
    (λ _. IfSome_then (elements_at read close nodes nodes [] (b ∷ bs)) (elements_found depth read h close nodes nodes [] (b ∷ bs)) (λ x r. inside_from depth close nodes (b ∷ bs) x r))

-- ---- terms

tuple_found : (depth nodes : ℕ) (bs : List ℕ) (x : List Term × ℕ × List ℕ) → AreInside depth 125 nodes bs x → IsFound (suc depth) (suc nodes) (123 ∷ bs) (term.Tuple x.0, x.1, x.2)
tuple_found depth nodes bs x r =
    let s = shows-Tuple x.0 in
    record {
      text = rw s.text (ap (λ (t : List ℕ). 123 ∷ t) (r.text ∙ sym (append_assoc (joined (map term_text x.0)) (125 ∷ []) x.2)));
      term = s.term ∙ r.term;
      counted = omega (arith, s.nodes, r.counted);
      within = omega (arith, s.depth, r.within);
    }

list_found : (depth nodes : ℕ) (bs : List ℕ) (x : List Term × ℕ × List ℕ) → AreInside depth 93 nodes bs x → IsFound (suc depth) (suc nodes) (91 ∷ bs) (term.List x.0, x.1, x.2)
list_found depth nodes bs x r =
    let s = shows-List x.0 in
    record {
      text = rw s.text (ap (λ (t : List ℕ). 91 ∷ t) (r.text ∙ sym (append_assoc (joined (map term_text x.0)) (93 ∷ []) x.2)));
      term = s.term ∙ r.term;
      counted = omega (arith, s.nodes, r.counted);
      within = omega (arith, s.depth, r.within);
    }

node_found : (depth : ℕ) (read : ℕ → List ℕ → Option (Term × ℕ × List ℕ)) → Finds depth read → (nodes : ℕ) (bytes : List ℕ) → IfSome (node_at read nodes bytes) (IsFound (suc depth) (suc nodes) bytes)
unfolding node_at
node_found depth read h nodes [] = tt
node_found depth read h nodes (b ∷ bs) =
    let P : Option (Term × ℕ × List ℕ) → Type 0 = λ o. IfSome o (IsFound (suc depth) (suc nodes) (b ∷ bs)) in
    by_test P (b == 123) _ _
    (λ e.
    let same : b ≡ 123 = grind (arith, nat_tests) in
    rw same (if_bind (AreInside depth 125 nodes bs) (IsFound (suc depth) (suc nodes) (123 ∷ bs)) (items_at read 125 nodes bs) (λ x. Some (term.Tuple x.0, x.1, x.2)) (items_found depth read h 125 nodes bs) (tuple_found depth nodes bs)))
    (λ _. by_test P (b == 91) _ _
    (λ e.
    let same : b ≡ 91 = grind (arith, nat_tests) in
    rw same (if_bind (AreInside depth 93 nodes bs) (IsFound (suc depth) (suc nodes) (91 ∷ bs)) (items_at read 93 nodes bs) (λ x. Some (term.List x.0, x.1, x.2)) (items_found depth read h 93 nodes bs) (list_found depth nodes bs)))
    (λ _. if_bind (IsLeaf (b ∷ bs)) (IsFound (suc depth) (suc nodes) (b ∷ bs)) (leaf_at (b ∷ bs)) (λ x. Some (x.0, nodes, x.1)) (leaf_text (b ∷ bs)) (λ x r.
    record { text = r.text; term = r.term; counted = omega (arith, r.nodes); within = omega (arith, r.depth) })))

pub term_found : (depth : ℕ) → Finds depth (term_at depth)
unfolding term_at front_by
term_found zero nodes bytes = tt
term_found (suc depth) zero bytes = tt
term_found (suc depth) (suc nodes) bytes = node_found depth (term_at depth) (term_found depth) nodes bytes
