-- A term that is written is read again, whatever follows that doesn't go on with it.
use Rattle.std.proofs.Common.{◌≡◌, ℕ, zero, suc, ◌+◌, ◌^◌, ◌<◌, ◌≤◌, true, false, cond, List, [], ◌∷◌, ◌++◌, length, map, sum, Option, Some, None, refl, sym, ap, subst, ◌∙◌, append_assoc, zero-add, arith}
use Rattle.std.specs.Prelude.{ℤ, ◌==◌, nat_lt, ◌||◌, codes, decimal}
use Rattle.std.specs.Fmt.{signed_decimal}
use Rattle.std.specs.List.{list_all, concat}
use Rattle.std.proofs.lemmas.Bool.Decides.{nat_tests, Decides-eqb}
use Rattle.std.proofs.lemmas.List.{length-map}
use Rattle.std.proofs.lemmas.List.Sums.{sum_by-cons}
use Rattle.std.proofs.lemmas.Option.{none-some}
use Rattle.sig_terms.specs.Words.{is_lower, is_digit, is_name_byte, is_name, is_atom}
use Rattle.sig_terms.specs.TermText.{term_text, joined, after_comma}
use Rattle.sig_terms.specs.Nodes.{node_count, count_step, depth_of, greatest}
use Rattle.sig_terms.specs.Readable.{is_wide, is_term}
use Rattle.sig_terms.specs.declared.pid.Pid.{Pid}
use Rattle.sig_terms.specs.declared.reference.Ref.{Ref}
use Rattle.sig_terms.specs.declared.term.Term.{Term, roll-Term, map-Term, out-Term}
use Rattle.sig_terms.specs.declared.term.Term.TheVariants as term
use Rattle.sig_terms.specs.declared.term.Term.TheOpen.{Term-F}
use Rattle.sig_terms.specs.declared.term.Term.TheOpen as layer
use Rattle.sig_terms.specs.declared.term.Term.TheFolds.{ind-Term, fold_out-Term}
use Rattle.sig_terms.specs.Tokens.{◌>>=◌, int_at, name_at}
use Rattle.sig_terms.specs.Fronts.{leaf_at, next_at, elements_at, items_at, node_at, front_by, term_at}
use Rattle.sig_terms.proofs.Choices.{both_true, second_of}
use Rattle.sig_terms.proofs.Layers.{shows-Int, shows-Atom, shows-Pid, shows-Ref, shows-Tuple, shows-List}
use Rattle.sig_terms.proofs.TokenReads.{Stops, int_reaches, name_reaches, quoted_again, pid_again, reference_again}

-- ---- terms without elements

-- such a term is read up to its end, or further, and no bracket begins it
record ReachesLeaf (t : Term) (rest : List ℕ) : Type 0 where
  found : Term × List ℕ
  is : leaf_at (term_text t ++ rest) ≡ Some found
  shorter : length found.1 ≤ length rest
  whole : Stops rest → found ≡ (t, rest)
  first : ℕ
  others : List ℕ
  begins : term_text t ≡ first ∷ others
  no_brace : (first == 123) ≡ false
  no_bracket : (first == 91) ≡ false

int_leaf : (z : ℤ) (rest : List ℕ) → is_wide z ≡ true → ReachesLeaf (term.Int z) rest
unfolding leaf_at
int_leaf z rest wide =
    let s = shows-Int z in
    let r = int_reaches z rest wide in
    let here : leaf_at (signed_decimal z ++ rest) ≡ (int_at (signed_decimal z ++ rest) >>= λ x. Some (term.Int x.0, x.1)) = rw (r.begins, r.sign) refl in
    record {
      found = (term.Int r.found.0, r.found.1);
      is = rw s.text (here ∙ rw r.is refl);
      shorter = r.shorter;
      whole = λ stops. ap (λ (x : ℤ × List ℕ). (term.Int x.0, x.1)) (r.whole stops);
      first = r.first;
      others = r.others;
      begins = s.text ∙ r.begins;
      no_brace = grind (arith, nat_tests, r.sign);
      no_bracket = grind (arith, nat_tests, r.sign);
    }

lower_begins : (b : ℕ) (bs : List ℕ) → is_lower b ≡ true → leaf_at (b ∷ bs) ≡ (name_at (b ∷ bs) >>= λ x. Some (term.Atom x.0, x.1))
unfolding leaf_at
lower_begins b bs lower =
    let unsigned : (b == 45 || is_digit b) ≡ false = grind (arith, nat_tests, lower) in
    second_of (b == 45 || is_digit b) (is_lower b) _ _ _ unsigned lower

name_leaf : (b : ℕ) (bs rest : List ℕ) → is_name (b ∷ bs) ≡ true → is_atom (b ∷ bs) ≡ true → ReachesLeaf (term.Atom (b ∷ bs)) rest
name_leaf b bs rest named atom =
    let s = shows-Atom (b ∷ bs) in
    let r = name_reaches (b ∷ bs) rest named atom in
    let lower : is_lower b ≡ true = (both_true (is_lower b) _ named).0 in
    let text : term_text (term.Atom (b ∷ bs)) ≡ b ∷ bs = s.text ∙ rw named refl in
    record {
      found = (term.Atom r.found.0, r.found.1);
      is = rw text (lower_begins b (bs ++ rest) lower ∙ rw r.is refl);
      shorter = r.shorter;
      whole = λ stops. ap (λ (x : List ℕ × List ℕ). (term.Atom x.0, x.1)) (r.whole stops);
      first = b;
      others = bs;
      begins = text;
      no_brace = grind (arith, nat_tests, lower);
      no_bracket = grind (arith, nat_tests, lower);
    }

quoted_leaf : (body rest : List ℕ) → is_name body ≡ false → is_atom body ≡ true → ReachesLeaf (term.Atom body) rest
unfolding leaf_at
quoted_leaf body rest other atom =
    let s = shows-Atom body in
    let text : term_text (term.Atom body) ≡ 39 ∷ (body ++ (39 ∷ [])) = s.text ∙ rw other refl in
    let here : leaf_at (39 ∷ (body ++ (39 ∷ rest))) ≡ Some (term.Atom body, rest) = rw (quoted_again body rest other atom) refl in
    record {
      found = (term.Atom body, rest);
      is = rw text (ap (λ (t : List ℕ). leaf_at (39 ∷ t)) (append_assoc body (39 ∷ []) rest) ∙ here);
      shorter = omega arith;
      whole = λ _. refl;
      first = 39;
      others = body ++ (39 ∷ []);
      begins = text;
      no_brace = refl;
      no_bracket = refl;
    }

atom_leaf : (bytes rest : List ℕ) → is_atom bytes ≡ true → ReachesLeaf (term.Atom bytes) rest
atom_leaf [] rest atom = quoted_leaf [] rest refl atom
atom_leaf (b ∷ bs) rest atom =
    elim (is_name (b ∷ bs)) as (λ v. is_name (b ∷ bs) ≡ v → ReachesLeaf (term.Atom (b ∷ bs)) rest) [
      | true ↦ λ h. name_leaf b bs rest h atom
      | false ↦ λ h. quoted_leaf (b ∷ bs) rest h atom
    ] refl

pid_leaf : (p : Pid) (rest : List ℕ) → p.0 < 2 ^ 32 → ReachesLeaf (term.Pid p) rest
unfolding leaf_at
pid_leaf p rest fits =
    let s = shows-Pid p in
    let here : leaf_at (60 ∷ (decimal p.0 ++ (62 ∷ rest))) ≡ Some (term.Pid p, rest) = rw (pid_again p rest fits) refl in
    record {
      found = (term.Pid p, rest);
      is = rw s.text (ap (λ (t : List ℕ). leaf_at (60 ∷ t)) (append_assoc (decimal p.0) (62 ∷ []) rest) ∙ here);
      shorter = omega arith;
      whole = λ _. refl;
      first = 60;
      others = decimal p.0 ++ (62 ∷ []);
      begins = s.text;
      no_brace = refl;
      no_bracket = refl;
    }

reference_bytes : (o s rest : List ℕ) → (codes "#Ref<" ++ o ++ codes "." ++ s ++ codes ">") ++ rest ≡ 35 ∷ (codes "Ref<" ++ (o ++ (46 ∷ (s ++ (62 ∷ rest)))))
reference_bytes o s rest = simp append_assoc

reference_leaf : (r : Ref) (rest : List ℕ) → r.owner.0 < 2 ^ 32 → r.serial < 2 ^ 64 → ReachesLeaf (term.Ref r) rest
unfolding leaf_at
reference_leaf r rest small fits =
    let s = shows-Ref r in
    let here : leaf_at (35 ∷ (codes "Ref<" ++ (decimal r.owner.0 ++ (46 ∷ (decimal r.serial ++ (62 ∷ rest)))))) ≡ Some (term.Ref r, rest) = rw (reference_again r rest small fits) refl in
    record {
      found = (term.Ref r, rest);
      is = rw s.text (ap leaf_at (reference_bytes (decimal r.owner.0) (decimal r.serial) rest) ∙ here);
      shorter = omega arith;
      whole = λ _. refl;
      first = 35;
      others = codes "Ref<" ++ decimal r.owner.0 ++ codes "." ++ decimal r.serial ++ codes ">";
      begins = s.text;
      no_brace = refl;
      no_bracket = refl;
    }

-- ---- terms

-- the term is read, or one that reaches further; where nothing follows that goes on with it, it is that term
pub record Comes (t : Term) (depth left : ℕ) (rest : List ℕ) : Type 0 where
  pub found : Term × ℕ × List ℕ
  pub is : term_at depth (node_count t + left) (term_text t ++ rest) ≡ Some found
  pub shorter : length found.2 ≤ length rest
  pub whole : Stops rest → found ≡ (t, left, rest)

abbrev pub Reads : Term → Type 0
Reads t = is_term t ≡ true → (depth left : ℕ) (rest : List ℕ) → depth_of t ≤ depth → Comes t depth left rest

leaf_comes : (t : Term) → node_count t ≡ 1 → depth_of t ≡ 1 → ((rest : List ℕ) → ReachesLeaf t rest) → (depth left : ℕ) (rest : List ℕ) → depth_of t ≤ depth → Comes t depth left rest
unfolding term_at front_by node_at
leaf_comes t nodes deep leaf zero left rest le = absurd (omega arith)
leaf_comes t nodes deep leaf (suc depth) left rest le =
    let r = leaf rest in
    let count : node_count t + left ≡ suc left = omega arith in
    let here : node_at (term_at depth) left (term_text t ++ rest) ≡ (leaf_at (term_text t ++ rest) >>= λ x. Some (x.0, left, x.1)) = rw (r.begins, r.no_brace, r.no_bracket) refl in
    record {
      found = (r.found.0, left, r.found.1);
      is = rw count (here ∙ rw r.is refl);
      shorter = r.shorter;
      whole = λ stops. ap (λ (x : Term × List ℕ). (x.0, left, x.1)) (r.whole stops);
    }

-- what ends a list of elements
record Closes (close : ℕ) : Type 0 where
  stops : is_name_byte close ≡ false
  other : (close == 44) ≡ false
  same : (close == close) ≡ true
  no_term : (depth nodes : ℕ) (bs : List ℕ) → term_at depth nodes (close ∷ bs) ≡ None

brace_is_none : (depth nodes : ℕ) (bs : List ℕ) → term_at depth nodes (125 ∷ bs) ≡ None
unfolding term_at front_by node_at leaf_at
brace_is_none zero nodes bs = refl
brace_is_none (suc depth) zero bs = refl
brace_is_none (suc depth) (suc nodes) bs = refl

bracket_is_none : (depth nodes : ℕ) (bs : List ℕ) → term_at depth nodes (93 ∷ bs) ≡ None
unfolding term_at front_by node_at leaf_at
bracket_is_none zero nodes bs = refl
bracket_is_none (suc depth) zero bs = refl
bracket_is_none (suc depth) (suc nodes) bs = refl

nothing_is_none : (depth nodes : ℕ) → term_at depth nodes [] ≡ None
unfolding term_at front_by node_at
nothing_is_none zero nodes = refl
nothing_is_none (suc depth) zero = refl
nothing_is_none (suc depth) (suc nodes) = refl

brace : Closes 125
brace = record { stops = refl; other = refl; same = refl; no_term = brace_is_none }

bracket : Closes 93
bracket = record { stops = refl; other = refl; same = refl; no_term = bracket_is_none }

-- a term that is read
abbrev Read : Type 0
Read = (t : Term) × Reads t

abbrev terms : List Read → List Term
terms es = map (λ e. e.0) es

counted_step : (x : Term-F ℕ) → 1 ≤ count_step x
counted_step (layer.Int z) = omega arith
counted_step (layer.Atom bytes) = omega arith
counted_step (layer.Pid p) = omega arith
counted_step (layer.Ref r) = omega arith
counted_step (layer.Tuple counts) = omega arith
counted_step (layer.List counts) = omega arith

one_node : (t : Term) → 1 ≤ node_count t
one_node t = let P : ℕ → Type 0 = λ n. 1 ≤ n in subst P (sym (fold_out-Term ℕ count_step t)) (counted_step (map-Term Term ℕ node_count (out-Term t)))

fewer_than_nodes : (ts : List Term) → length ts ≤ sum (map node_count ts)
fewer_than_nodes [] = omega arith
fewer_than_nodes (t ∷ ts) = omega (arith, one_node t, fewer_than_nodes ts, sum_by-cons (λ x. x) (node_count t) (map node_count ts))

-- the bytes behind an element
abbrev behind : ℕ → List Term → List ℕ → List ℕ
behind close ts rest = concat (map after_comma (map term_text ts)) ++ close ∷ rest

behind_stops : (close : ℕ) → Closes close → (ts : List Term) (rest : List ℕ) → Stops (behind close ts rest)
behind_stops close c [] rest = c.stops
behind_stops close c (t ∷ ts) rest = refl

one_element : (close : ℕ) → Closes close → (depth left room : ℕ) (items : List Term) (e : Read) (ts : List Term) (rest : List ℕ) → is_term e.0 ≡ true → depth_of e.0 ≤ depth
    → elements_at (term_at depth) close (suc room) (sum (map node_count (e.0 ∷ ts)) + left) items (joined (map term_text (e.0 ∷ ts)) ++ close ∷ rest)
    ≡ next_at close (elements_at (term_at depth) close room) (sum (map node_count ts) + left) (items ++ e.0 ∷ []) (behind close ts rest)
unfolding elements_at
one_element close c depth left room items e ts rest lawful deep =
    let fewer : ℕ = sum (map node_count ts) + left in
    let r = e.1 lawful depth fewer (behind close ts rest) deep in
    let count : sum (map node_count (e.0 ∷ ts)) + left ≡ node_count e.0 + fewer = omega (arith, sum_by-cons (λ x. x) (node_count e.0) (map node_count ts)) in
    let bytes : joined (map term_text (e.0 ∷ ts)) ++ close ∷ rest ≡ term_text e.0 ++ behind close ts rest = append_assoc (term_text e.0) (concat (map after_comma (map term_text ts))) (close ∷ rest) in
    let here : term_at depth (node_count e.0 + fewer) (term_text e.0 ++ behind close ts rest) ≡ Some (e.0, fewer, behind close ts rest) = r.is ∙ ap Some (r.whole (behind_stops close c ts rest)) in
    let read : term_at depth (sum (map node_count (e.0 ∷ ts)) + left) (joined (map term_text (e.0 ∷ ts)) ++ close ∷ rest) ≡ Some (e.0, fewer, behind close ts rest) =
    ap (λ (n : ℕ). term_at depth n (joined (map term_text (e.0 ∷ ts)) ++ close ∷ rest)) count ∙ ap (term_at depth (node_count e.0 + fewer)) bytes ∙ here in
    ap (λ (o : Option (Term × ℕ × List ℕ)). o >>= λ x. next_at close (elements_at (term_at depth) close room) x.1 (items ++ x.0 ∷ []) x.2) read

elements_again : (close : ℕ) → Closes close → (depth left room : ℕ) (items : List Term) (e : Read) (es : List Read) (rest : List ℕ)
    → list_all (λ b. b) (map is_term (terms (e ∷ es))) ≡ true → greatest (map depth_of (terms (e ∷ es))) ≤ depth → length (e ∷ es) ≤ room
    → elements_at (term_at depth) close room (sum (map node_count (terms (e ∷ es))) + left) items (joined (map term_text (terms (e ∷ es))) ++ close ∷ rest) ≡ Some (items ++ terms (e ∷ es), left, rest)
elements_again close c depth left zero items e es rest lawful deep le = absurd (omega arith)
elements_again close c depth left (suc room) items e [] rest lawful deep le =
    let each = both_true (is_term e.0) (list_all (λ b. b) (map is_term [])) lawful in
    one_element close c depth left room items e [] rest each.0 (omega arith) ∙ rw (c.other, c.same) (ap (λ (n : ℕ). Some (items ++ e.0 ∷ [], n, rest)) (zero-add left))
elements_again close c depth left (suc room) items e (e' ∷ es) rest lawful deep le =
    let each = both_true (is_term e.0) (list_all (λ b. b) (map is_term (terms (e' ∷ es)))) lawful in
    one_element close c depth left room items e (terms (e' ∷ es)) rest each.0 (omega arith)
    ∙ elements_again close c depth left room (items ++ e.0 ∷ []) e' es rest each.1 (omega arith) (omega arith)
    ∙ ap (λ (ts : List Term). Some (ts, left, rest)) (append_assoc items (e.0 ∷ []) (terms (e' ∷ es)))

-- no element begins as the list ends
items_open : (read : ℕ → List ℕ → Option (Term × ℕ × List ℕ)) (close nodes : ℕ) (bytes : List ℕ) (found : Term × ℕ × List ℕ) → read nodes [] ≡ None → ((bs : List ℕ) → read nodes (close ∷ bs) ≡ None)
    → read nodes bytes ≡ Some found → items_at read close nodes bytes ≡ elements_at read close nodes nodes [] bytes
unfolding items_at
items_open read close nodes [] found nothing none is = absurd cc
items_open read close nodes (b ∷ bs) found nothing none is =
    elim (b == close) as (λ v. (b == close) ≡ v → cond v (Some ([], nodes, bs)) (elements_at read close nodes nodes [] (b ∷ bs)) ≡ elements_at read close nodes nodes [] (b ∷ bs)) [
      | true ↦ λ h. let same : b ≡ close = (Decides-eqb b close).0 h in absurd (none-some found (sym (none bs) ∙ ap (λ (k : ℕ). read nodes (k ∷ bs)) (sym same) ∙ is))
      | false ↦ λ h. refl
    ] refl

items_again : (close : ℕ) → Closes close → (depth left : ℕ) (es : List Read) (rest : List ℕ) → list_all (λ b. b) (map is_term (terms es)) ≡ true → greatest (map depth_of (terms es)) ≤ depth
    → items_at (term_at depth) close (sum (map node_count (terms es)) + left) (joined (map term_text (terms es)) ++ close ∷ rest) ≡ Some (terms es, left, rest)
unfolding items_at
items_again close c depth left [] rest lawful deep = rw c.same (ap (λ (n : ℕ). Some ([], n, rest)) (zero-add left))
items_again close c depth left (e ∷ es) rest lawful deep =
    let each = both_true (is_term e.0) (list_all (λ b. b) (map is_term (terms es))) lawful in
    let ts : List Term = terms es in
    let nodes : ℕ = sum (map node_count (e.0 ∷ ts)) + left in
    let r = e.1 each.0 depth (sum (map node_count ts) + left) (behind close ts rest) (omega arith) in
    let count : nodes ≡ node_count e.0 + (sum (map node_count ts) + left) = omega (arith, sum_by-cons (λ x. x) (node_count e.0) (map node_count ts)) in
    let bytes : joined (map term_text (e.0 ∷ ts)) ++ close ∷ rest ≡ term_text e.0 ++ behind close ts rest = append_assoc (term_text e.0) (concat (map after_comma (map term_text ts))) (close ∷ rest) in
    let read : term_at depth nodes (joined (map term_text (e.0 ∷ ts)) ++ close ∷ rest) ≡ Some r.found =
    ap (λ (n : ℕ). term_at depth n (joined (map term_text (e.0 ∷ ts)) ++ close ∷ rest)) count ∙ ap (term_at depth (node_count e.0 + (sum (map node_count ts) + left))) bytes ∙ r.is in
    items_open (term_at depth) close nodes (joined (map term_text (e.0 ∷ ts)) ++ close ∷ rest) r.found (nothing_is_none depth nodes) (c.no_term depth nodes) read
    ∙ elements_again close c depth left nodes [] e es rest lawful deep (omega (arith, fewer_than_nodes (e.0 ∷ ts), length-map es (λ e. e.0)))

-- one whose elements stand between two brackets
compound_comes : (make : List Term → Term) (opening close : ℕ) → Closes close
    → ((read : ℕ → List ℕ → Option (Term × ℕ × List ℕ)) (nodes : ℕ) (bytes : List ℕ) → node_at read nodes (opening ∷ bytes) ≡ (items_at read close nodes bytes >>= λ x. Some (make x.0, x.1, x.2)))
    → (es : List Read) → term_text (make (terms es)) ≡ opening ∷ (joined (map term_text (terms es)) ++ close ∷ []) → node_count (make (terms es)) ≡ 1 + sum (map node_count (terms es))
    → depth_of (make (terms es)) ≡ 1 + greatest (map depth_of (terms es)) → is_term (make (terms es)) ≡ list_all (λ b. b) (map is_term (terms es)) → Reads (make (terms es))
unfolding term_at front_by
compound_comes make opening close c opens es text count deep test lawful zero left rest le = absurd (omega arith)
compound_comes make opening close c opens es text count deep test lawful (suc depth) left rest le =
    let ts : List Term = terms es in
    let nodes : ℕ = sum (map node_count ts) + left in
    let more : node_count (make ts) + left ≡ suc nodes = omega arith in
    let bytes : term_text (make ts) ++ rest ≡ opening ∷ (joined (map term_text ts) ++ close ∷ rest) =
    ap (λ (t : List ℕ). t ++ rest) text ∙ ap (λ (t : List ℕ). opening ∷ t) (append_assoc (joined (map term_text ts)) (close ∷ []) rest) in
    let inside = items_again close c depth left es rest (sym test ∙ lawful) (omega arith) in
    let here : node_at (term_at depth) nodes (opening ∷ (joined (map term_text ts) ++ close ∷ rest)) ≡ Some (make ts, left, rest) =
    opens (term_at depth) nodes _ ∙ rw inside refl in
    record {
      found = (make ts, left, rest);
      is = ap (λ (n : ℕ). term_at (suc depth) n (term_text (make ts) ++ rest)) more ∙ ap (node_at (term_at depth) nodes) bytes ∙ here;
      shorter = omega arith;
      whole = λ _. refl;
    }

tuple_comes : (es : List Read) → Reads (term.Tuple (terms es))
unfolding node_at
tuple_comes es =
    let s = shows-Tuple (terms es) in
    compound_comes term.Tuple 123 125 brace (λ read nodes bytes. refl) es s.text s.nodes s.depth s.term

list_comes : (es : List Read) → Reads (term.List (terms es))
unfolding node_at
list_comes es =
    let s = shows-List (terms es) in
    compound_comes term.List 91 93 bracket (λ read nodes bytes. refl) es s.text s.nodes s.depth s.term

int_comes : (z : ℤ) → Reads (term.Int z)
int_comes z lawful =
    let s = shows-Int z in
    leaf_comes (term.Int z) s.nodes s.depth (λ rest. int_leaf z rest (sym s.term ∙ lawful))

atom_comes : (bytes : List ℕ) → Reads (term.Atom bytes)
atom_comes bytes lawful =
    let s = shows-Atom bytes in
    leaf_comes (term.Atom bytes) s.nodes s.depth (λ rest. atom_leaf bytes rest (sym s.term ∙ lawful))

pid_comes : (p : Pid) → Reads (term.Pid p)
pid_comes p lawful =
    let s = shows-Pid p in
    let test : nat_lt p.0 (2 ^ 32) ≡ true = sym s.term ∙ lawful in
    let fits : p.0 < 2 ^ 32 = grind (arith, nat_tests) in
    leaf_comes (term.Pid p) s.nodes s.depth (λ rest. pid_leaf p rest fits)

reference_comes : (r : Ref) → Reads (term.Ref r)
reference_comes r lawful =
    let s = shows-Ref r in
    let tests = both_true (nat_lt r.owner.0 (2 ^ 32)) (nat_lt r.serial (2 ^ 64)) (sym s.term ∙ lawful) in
    let small : r.owner.0 < 2 ^ 32 = grind (arith, nat_tests, tests.0) in
    let fits : r.serial < 2 ^ 64 = grind (arith, nat_tests, tests.1) in
    leaf_comes (term.Ref r) s.nodes s.depth (λ rest. reference_leaf r rest small fits)

comes : (y : Term-F Read) → Reads (roll-Term (map-Term Read Term (λ e. e.0) y))
comes (layer.Int z) = subst Reads (sym (term.rolls-Int z)) (int_comes z)
comes (layer.Atom bytes) = subst Reads (sym (term.rolls-Atom bytes)) (atom_comes bytes)
comes (layer.Pid p) = subst Reads (sym (term.rolls-Pid p)) (pid_comes p)
comes (layer.Ref r) = subst Reads (sym (term.rolls-Ref r)) (reference_comes r)
comes (layer.Tuple es) = subst Reads (sym (term.rolls-Tuple (terms es))) (tuple_comes es)
comes (layer.List es) = subst Reads (sym (term.rolls-List (terms es))) (list_comes es)

-- each term is read again
pub reads : (t : Term) → Reads t
reads = ind-Term Reads (λ x y is. subst (λ z. Reads (roll-Term z)) is (comes y))
