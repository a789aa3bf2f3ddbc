-- The laws of a line's parts.
use Rattle.std.proofs.Common.{◌≡◌, ℕ, ◌+◌, ◌-◌, ◌^◌, Bool, true, List, [], ◌∷◌, ◌++◌, length, take, drop, Option, Some, None, refl, sym, ap, ◌∙◌, append_assoc, arith}
use Rattle.std.specs.Prelude.{IfSome, codes, decimal}
use Rattle.std.specs.List.{list_all, prefix_len}
use Rattle.std.proofs.lemmas.List.{take-append-drop, take_at, drop_at}
use Rattle.std.proofs.lemmas.Option.{IfSome_then}
use Rattle.sig_terms.specs.Words.{is_lower, is_name_byte, is_name, is_token}
use Rattle.sig_terms.specs.TermText.{term_text, reference_text}
use Rattle.sig_terms.specs.Nodes.{node_count}
use Rattle.sig_terms.specs.Readable.{IsReadable}
use Rattle.sig_terms.specs.Tokens.{◌>>=◌, number_at, reference_at, after_text}
use Rattle.sig_terms.specs.Fronts.{term_at}
use Rattle.sig_terms.specs.declared.term.Term.{Term}
use Rattle.sig_terms.specs.declared.reading.TheConstants.{READ_DEPTH, READ_NODES}
use Rattle.sig_terms.proofs.Choices.{by_test, if_bind, both_true}
use Rattle.sig_terms.proofs.TokenTexts.{number_text, after_text_is, reference_at_text}
use Rattle.sig_terms.proofs.TokenReads.{StopsAt, Stops, number_again, reference_again}
use Rattle.sig_terms.proofs.FrontTexts.{IsFound, term_found}
use Rattle.sig_terms.proofs.FrontReads.{reads}
use Rattle.sig_record.specs.Phrases.{narrow, wide, term_front, ref_front, IsNarrow, IsWide, IsStoredRef}
use Rattle.sig_record.specs.RecordFronts.{is_process_name, name_front}
use Rattle.sig_record.proofs.ReaderLaws.{IsReadAs, Law, Anything}

-- ---- numbers, terms, references and names

pub narrow_law : Law Stops decimal IsNarrow narrow
narrow_law = record {
  found = λ bytes. IfSome_then (number_at (2 ^ 32 - 1) bytes) (number_text (2 ^ 32 - 1) bytes (omega arith) (omega arith)) (λ x r. (omega (arith, r.0), r.1));
  again = λ n rest k stop. number_again (2 ^ 32 - 1) n rest (omega (arith, k)) (omega arith) stop;
}

pub wide_law : Law Stops decimal IsWide wide
wide_law = record {
  found = λ bytes. IfSome_then (number_at (2 ^ 64 - 1) bytes) (number_text (2 ^ 64 - 1) bytes (omega arith) (omega arith)) (λ x r. (omega (arith, r.0), r.1));
  again = λ n rest k stop. number_again (2 ^ 64 - 1) n rest (omega (arith, k)) (omega arith) stop;
}

term_again : (t : Term) (rest : List ℕ) → IsReadable t → Stops rest → term_front (term_text t ++ rest) ≡ Some (t, rest)
term_again t rest r stop =
    let left : ℕ = READ_NODES - node_count t in
    let c = reads t r.term READ_DEPTH left rest r.depth in
    let count : READ_NODES ≡ node_count t + left = omega (arith, r.nodes) in
    let here : term_at READ_DEPTH READ_NODES (term_text t ++ rest) ≡ Some (t, left, rest) =
    ap (λ (n : ℕ). term_at READ_DEPTH n (term_text t ++ rest)) count ∙ c.is ∙ ap Some (c.whole stop) in
    ap (λ (o : Option (Term × ℕ × List ℕ)). o >>= λ x. Some (x.0, x.2)) here

pub term_law : Law Stops term_text IsReadable term_front
term_law = record {
  found = λ bytes.
      if_bind (IsFound READ_DEPTH READ_NODES bytes) (IsReadAs term_text IsReadable bytes) (term_at READ_DEPTH READ_NODES bytes) (λ x. Some (x.0, x.2)) (term_found READ_DEPTH READ_NODES bytes) (λ x f.
      (record { term = f.term; nodes = omega (arith, f.counted); depth = f.within }, f.text));
  again = term_again;
}

reference_bytes : (o s rest : List ℕ) → (codes "#Ref<" ++ o ++ codes "." ++ s ++ codes ">") ++ rest ≡ 35 ∷ (codes "Ref<" ++ (o ++ (46 ∷ (s ++ (62 ∷ rest)))))
reference_bytes o s rest = simp append_assoc

pub ref_law : Law Anything reference_text IsStoredRef ref_front
ref_law = record {
  found = λ bytes.
      if_bind (λ rest. bytes ≡ codes "#" ++ rest) (IsReadAs reference_text IsStoredRef bytes) (after_text (codes "#") bytes) reference_at (after_text_is (codes "#") bytes) (λ rest e.
      IfSome_then (reference_at rest) (reference_at_text rest) (λ x r. ((r.0, r.1), e ∙ r.2)));
  again = λ r rest k stop. ap ref_front (reference_bytes (decimal r.owner.0) (decimal r.serial) rest) ∙ reference_again r rest k.0 k.1;
}

-- all of these pass the test, and the next doesn't
passes_up_to : (p : ℕ → Bool) (xs ys : List ℕ) → list_all p xs ≡ true → StopsAt p ys → prefix_len p (xs ++ ys) ≡ length xs
passes_up_to p [] [] h stops = refl
passes_up_to p [] (y ∷ ys) h stops = rw stops refl
passes_up_to p (x ∷ xs) ys h stops =
    let each = both_true (p x) (list_all p xs) h in
    let rest = passes_up_to p xs ys each.1 stops in
    rw each.0 (omega arith)

lower_byte : (b : ℕ) → is_lower b ≡ true → is_name_byte b ≡ true
lower_byte b h = rw h refl

name_bytes : (name : List ℕ) → is_name name ≡ true → list_all is_name_byte name ≡ true
name_bytes [] h = refl
name_bytes (b ∷ bs) h =
    let each = both_true (is_lower b) (list_all is_name_byte bs) h in
    rw (lower_byte b each.0) each.1

name_again : (name rest : List ℕ) → is_process_name name ≡ true → Stops rest → name_front (name ++ rest) ≡ Some (name, rest)
name_again name rest is stop =
    let test = both_true (is_name name) (is_token name) is in
    rw (passes_up_to is_name_byte name rest (name_bytes name test.0) stop, take_at name rest (length name) refl, drop_at name rest (length name) refl, is) refl

pub name_law : Law Stops (λ (name : List ℕ). name) (λ (name : List ℕ). is_process_name name ≡ true) name_front
name_law = record {
  found = λ bytes.
      let n : ℕ = prefix_len is_name_byte bytes in
      by_test (λ o. IfSome o (IsReadAs (λ (name : List ℕ). name) (λ (name : List ℕ). is_process_name name ≡ true) bytes)) (is_process_name (take n bytes)) (Some (take n bytes, drop n bytes)) None
      (λ h. (h, sym (take-append-drop n bytes))) (λ h. tt);
  again = name_again;
}
