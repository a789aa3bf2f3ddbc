-- Each line of a record ends with a line feed, and has no other.
use Rattle.std.proofs.Common.{◌≡◌, ℕ, suc, ◌+◌, ◌%◌, ◌^◌, ◌<◌, ◌≤◌, Bool, true, false, List, [], ◌∷◌, ◌++◌, map, refl, sym, subst, ◌∙◌, arith}
use Rattle.std.specs.Prelude.{ℤ, pos, negsuc, nat_lt, nat_le, codes, decimal}
use Rattle.std.specs.Fmt.{signed_decimal}
use Rattle.std.specs.List.{list_all, concat}
use Rattle.std.proofs.lemmas.Bool.Decides.{nat_tests}
use Rattle.std.proofs.lemmas.Fmt.{decimal_by_steps}
use Rattle.std.proofs.lemmas.List.Folds.{list_all-append}
use Rattle.sig_terms.specs.Words.{is_lower, is_name_byte, is_name, is_token, is_atom_byte, is_atom}
use Rattle.sig_terms.specs.TermText.{atom_text, reference_text, joined, after_comma, term_text}
use Rattle.sig_terms.specs.Readable.{is_wide, is_term, IsTerm}
use Rattle.sig_terms.specs.declared.pid.Pid.{Pid}
use Rattle.sig_terms.specs.declared.reference.Ref.{Ref}
use Rattle.sig_terms.specs.declared.term.Term.{Term, roll-Term, map-Term}
use Rattle.sig_terms.specs.declared.term.Term.TheVariants as term
use Rattle.sig_terms.specs.declared.term.Term.TheOpen.{Term-F}
use Rattle.sig_terms.specs.declared.term.Term.TheOpen as layer
use Rattle.sig_terms.specs.declared.term.Term.TheFolds.{ind-Term}
use Rattle.sig_terms.specs.declared.bytes.TheConstants.{MOST_WORD_BYTES}
use Rattle.sig_terms.proofs.Choices.{both_true, by_test}
use Rattle.sig_terms.proofs.Layers.{shows-Int, shows-Atom, shows-Pid, shows-Ref, shows-Tuple, shows-List}
use Rattle.sig_record.specs.FaultLine.{is_inline, IsInline}
use Rattle.sig_record.specs.Phrases.{Field, a_narrow, a_wide, a_reference, a_term, a_truth, a_link, Said, Value, value_text, values_text, IsStoredSaid, IsStoredValue, Each, Phrase, phrase_text, IsStoredPhrase}
use Rattle.sig_record.specs.RecordFronts.{is_process_name}

-- a line feed ends the text, and it has no other
pub record IsLine (text : List ℕ) : Type 0 where
  pub front : List ℕ
  pub is : text ≡ front ++ codes "\n"
  pub clean : IsInline front

pub clean_on : (a b : List ℕ) → IsInline a → IsInline b → IsInline (a ++ b)
clean_on a b p q = list_all-append is_inline a b ∙ rw (p, q) refl

-- ---- numbers and names

one_digit : (n : ℕ) → n < 10 → IsInline ((48 + n) ∷ [])
one_digit n small =
    let inline : is_inline (48 + n) ≡ true = grind (arith, nat_tests) in
    rw inline refl

one_digit_more : (n : ℕ) (ds : List ℕ) → 10 ≤ n → IsInline ds → IsInline (ds ++ ((48 + n % 10) ∷ []))
one_digit_more n ds big so_far =
    let inline : is_inline (48 + n % 10) ≡ true = grind (arith, nat_tests) in
    clean_on ds ((48 + n % 10) ∷ []) so_far (rw inline refl)

pub decimal_clean : (n : ℕ) → n < 2 ^ 64 → IsInline (decimal n)
decimal_clean n fits = decimal_by_steps (λ _ ds. IsInline ds) one_digit one_digit_more n fits

all_inline : (p : ℕ → Bool) → ((b : ℕ) → p b ≡ true → is_inline b ≡ true) → (bs : List ℕ) → list_all p bs ≡ true → IsInline bs
all_inline p f [] h = refl
all_inline p f (b ∷ bs) h =
    let each = both_true (p b) (list_all p bs) h in
    rw (f b each.0) (all_inline p f bs each.1)

name_inline : (b : ℕ) → is_name_byte b ≡ true → is_inline b ≡ true
name_inline b h = grind (arith, nat_tests)

lower_inline : (b : ℕ) → is_lower b ≡ true → is_inline b ≡ true
lower_inline b h = grind (arith, nat_tests)

atom_inline : (b : ℕ) → is_atom_byte b ≡ true → is_inline b ≡ true
atom_inline b h = grind (arith, nat_tests)

name_clean : (name : List ℕ) → is_name name ≡ true → IsInline name
name_clean [] h = refl
name_clean (b ∷ bs) h =
    let each = both_true (is_lower b) (list_all is_name_byte bs) h in
    rw (lower_inline b each.0) (all_inline is_name_byte name_inline bs each.1)

pub process_name_clean : (name : List ℕ) → is_process_name name ≡ true → IsInline name
process_name_clean name h = name_clean name (both_true (is_name name) (is_token name) h).0

-- ---- terms

abbrev IsClean : Term → Type 0
IsClean t = is_term t ≡ true → IsInline (term_text t)

int_clean : (z : ℤ) → is_wide z ≡ true → IsInline (signed_decimal z)
int_clean (pos n) h =
    let fits : n < 2 ^ 63 = grind (arith, nat_tests) in
    decimal_clean n (omega arith)
int_clean (negsuc n) h =
    let fits : n < 2 ^ 63 = grind (arith, nat_tests) in
    clean_on (45 ∷ []) (decimal (suc n)) refl (decimal_clean (suc n) (omega arith))

quoted_clean : (bytes : List ℕ) → IsInline bytes → IsInline ((39 ∷ []) ++ bytes ++ (39 ∷ []))
quoted_clean bytes h = clean_on ((39 ∷ []) ++ bytes) (39 ∷ []) (clean_on (39 ∷ []) bytes refl h) refl

atom_clean : (bytes : List ℕ) → is_atom bytes ≡ true → IsInline (atom_text bytes)
atom_clean bytes h =
    let inside : IsInline bytes = all_inline is_atom_byte atom_inline bytes (both_true (nat_le _ MOST_WORD_BYTES) (list_all is_atom_byte bytes) h).1 in
    by_test IsInline (is_name bytes) bytes ((39 ∷ []) ++ bytes ++ (39 ∷ [])) (λ _. inside) (λ _. quoted_clean bytes inside)

pid_clean : (n : ℕ) → nat_lt n (2 ^ 32) ≡ true → IsInline ((60 ∷ []) ++ decimal n ++ (62 ∷ []))
pid_clean n h =
    let fits : n < 2 ^ 32 = grind (arith, nat_tests) in
    clean_on ((60 ∷ []) ++ decimal n) (62 ∷ []) (clean_on (60 ∷ []) (decimal n) refl (decimal_clean n (omega arith))) refl

pub reference_clean : (r : Ref) → r.owner.0 < 2 ^ 32 → r.serial < 2 ^ 64 → IsInline (reference_text r)
reference_clean r small fits =
    let owner : IsInline (codes "#Ref<" ++ decimal r.owner.0) = clean_on (codes "#Ref<") (decimal r.owner.0) refl (decimal_clean r.owner.0 (omega arith)) in
    let dotted : IsInline (codes "#Ref<" ++ decimal r.owner.0 ++ codes ".") = clean_on (codes "#Ref<" ++ decimal r.owner.0) (codes ".") owner refl in
    clean_on (codes "#Ref<" ++ decimal r.owner.0 ++ codes "." ++ decimal r.serial) (codes ">")
    (clean_on (codes "#Ref<" ++ decimal r.owner.0 ++ codes ".") (decimal r.serial) dotted (decimal_clean r.serial fits)) refl

abbrev Cleans : Type 0
Cleans = List ((t : Term) × IsClean t)

abbrev terms : Cleans → List Term
terms es = map (λ e. e.0) es

behind_commas : (es : Cleans) → list_all (λ b. b) (map is_term (terms es)) ≡ true → IsInline (concat (map after_comma (map term_text (terms es))))
behind_commas [] h = refl
behind_commas (e ∷ es) h =
    let each = both_true (is_term e.0) (list_all (λ b. b) (map is_term (terms es))) h in
    clean_on (after_comma (term_text e.0)) (concat (map after_comma (map term_text (terms es)))) (clean_on (codes ",") (term_text e.0) refl (e.1 each.0)) (behind_commas es each.1)

joined_clean : (es : Cleans) → list_all (λ b. b) (map is_term (terms es)) ≡ true → IsInline (joined (map term_text (terms es)))
joined_clean [] h = refl
joined_clean (e ∷ es) h =
    let each = both_true (is_term e.0) (list_all (λ b. b) (map is_term (terms es))) h in
    clean_on (term_text e.0) (concat (map after_comma (map term_text (terms es)))) (e.1 each.0) (behind_commas es each.1)

between : (opening inside closing : List ℕ) → IsInline opening → IsInline inside → IsInline closing → IsInline (opening ++ inside ++ closing)
between opening inside closing a b c = clean_on (opening ++ inside) closing (clean_on opening inside a b) c

-- by the text of the layer
by_text : (t : Term) (text : List ℕ) (test : Bool) → term_text t ≡ text → is_term t ≡ test → (test ≡ true → IsInline text) → IsClean t
by_text t text test is same clean h = subst IsInline (sym is) (clean (sym same ∙ h))

cleans : (y : Term-F ((t : Term) × IsClean t)) → IsClean (roll-Term (map-Term ((t : Term) × IsClean t) Term (λ e. e.0) y))
cleans (layer.Int z) = let s = shows-Int z in subst IsClean (sym (term.rolls-Int z)) (by_text (term.Int z) _ _ s.text s.term (int_clean z))
cleans (layer.Atom bytes) = let s = shows-Atom bytes in subst IsClean (sym (term.rolls-Atom bytes)) (by_text (term.Atom bytes) _ _ s.text s.term (atom_clean bytes))
cleans (layer.Pid p) = let s = shows-Pid p in subst IsClean (sym (term.rolls-Pid p)) (by_text (term.Pid p) _ _ s.text s.term (pid_clean p.0))
cleans (layer.Ref r) =
    let s = shows-Ref r in
    subst IsClean (sym (term.rolls-Ref r)) (by_text (term.Ref r) _ _ s.text s.term (λ h.
    let tests = both_true (nat_lt r.owner.0 (2 ^ 32)) (nat_lt r.serial (2 ^ 64)) h in
    let small : r.owner.0 < 2 ^ 32 = grind (arith, nat_tests, tests.0) in
    let fits : r.serial < 2 ^ 64 = grind (arith, nat_tests, tests.1) in
    reference_clean r small fits))
cleans (layer.Tuple es) =
    let s = shows-Tuple (terms es) in
    subst IsClean (sym (term.rolls-Tuple (terms es))) (by_text (term.Tuple (terms es)) _ _ s.text s.term (λ h. between (codes "{") (joined (map term_text (terms es))) (codes "}") refl (joined_clean es h) refl))
cleans (layer.List es) =
    let s = shows-List (terms es) in
    subst IsClean (sym (term.rolls-List (terms es))) (by_text (term.List (terms es)) _ _ s.text s.term (λ h. between (codes "[") (joined (map term_text (terms es))) (codes "]") refl (joined_clean es h) refl))

pub term_clean : (t : Term) → IsTerm t → IsInline (term_text t)
term_clean = ind-Term IsClean (λ x y is. subst (λ z. IsClean (roll-Term z)) is (cleans y))

-- ---- phrases

said_clean : (f : Field) (x : Said f) → IsStoredSaid f x → IsInline (value_text (f, x))
said_clean a_narrow n k = clean_on (codes " ") (decimal n) refl (decimal_clean n (omega arith))
said_clean a_wide n k = clean_on (codes " ") (decimal n) refl (decimal_clean n (omega arith))
said_clean a_reference r k = clean_on (codes " ") (reference_text r) refl (reference_clean r k.0 k.1)
said_clean a_term t k = clean_on (codes " ") (term_text t) refl (term_clean t k)
said_clean a_truth true k = refl
said_clean a_truth false k = refl
said_clean a_link true k = refl
said_clean a_link false k = refl

values_clean : (vs : List Value) → Each IsStoredValue vs → IsInline (values_text vs)
values_clean [] k = refl
values_clean (v ∷ []) k = said_clean v.0 v.1 k
values_clean (v ∷ w ∷ vs) k = clean_on (value_text v) (values_text (w ∷ vs)) (said_clean v.0 v.1 k.0) (values_clean (w ∷ vs) k.1)

pub phrase_clean : (p : Phrase) → IsInline p.word → IsStoredPhrase p → IsInline (phrase_text p)
phrase_clean p word k = clean_on p.word (values_text p.values) word (values_clean p.values k)
