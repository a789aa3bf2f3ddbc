-- The laws of phrases: what is written by a table is read by it again, and nothing else is. What is read can lie in memory, and its
-- terms are no larger than what is read.
use Rattle.std.proofs.Common.{◌≡◌, ℕ, Bool, true, false, if◌then◌else◌, List, [], ◌∷◌, ◌++◌, Option, Some, None, refl, sym, ap, subst, ◌∙◌, append_assoc}
use Rattle.std.specs.Prelude.{IfSome, IsSomeAnd, codes}
use Rattle.std.specs.Str.{bytes_eq}
use Rattle.std.proofs.lemmas.List.{append-nil}
use Rattle.sig_terms.specs.Tokens.{◌>>=◌, after_text}
use Rattle.sig_terms.specs.Readable.{IsTerm, IsReadable}
use Rattle.sig_terms.specs.declared.term.Term.{Term}
use Rattle.sig_terms.proofs.TokenReads.{Stops}
use Rattle.sig_model.specs.TermSizes.{IsKeptTerm}
use Rattle.sig_record.specs.Phrases.{Field, a_narrow, a_wide, a_reference, a_term, a_truth, a_link, Said, AllSaid, choice_text, said_text, Value, values, values_text, choice_front, said_front, fields_front, IsStoredSaid, IsStoredValue, terms_of, Each, Row, Phrase, says, phrase_text, IsStoredPhrase, row_front, rows_front}
use Rattle.sig_record.specs.SizedRecord.{IsSizedPhrase}
use Rattle.sig_record.proofs.ReaderLaws.{text_law, IsReadAs, Law, after_again, joined_law, behind_law, stopped_law, word_found, alone_found, made_again}
use Rattle.sig_record.proofs.PieceLaws.{narrow_law, wide_law, term_law, ref_law}

-- ---- fields

-- no text that begins by the other begins by the one
choice_law : (one other : List ℕ) → ((rest : List ℕ) → after_text one (other ++ rest) ≡ None) → Law Stops (choice_text one other) (λ b. Unit {0}) (choice_front one other)
choice_law one other apart = record {
  found = λ bytes.
      alone_found (choice_text one other) (λ b. Unit {0}) one true refl tt bytes _
      (alone_found (choice_text one other) (λ b. Unit {0}) other false refl tt bytes None tt);
  again = λ b rest k stop. chosen_again b rest;
}
  where
    chosen_again : (b : Bool) (rest : List ℕ) → choice_front one other (choice_text one other b ++ rest) ≡ Some (b, rest)
    chosen_again true rest = rw (after_again one rest) refl
    chosen_again false rest = rw (apart rest, after_again other rest) refl

-- can be read
abbrev IsReadableSaid : (f : Field) → Said f → Type 0
IsReadableSaid a_term t = IsReadable t
IsReadableSaid a_narrow n = IsStoredSaid a_narrow n
IsReadableSaid a_wide n = IsStoredSaid a_wide n
IsReadableSaid a_reference r = IsStoredSaid a_reference r
IsReadableSaid a_truth b = Unit {0}
IsReadableSaid a_link b = Unit {0}

abbrev AreReadable : (fs : List Field) → AllSaid fs → Type 0
AreReadable [] x = Unit {0}
AreReadable (f ∷ fs) x = IsReadableSaid f x.0 × AreReadable fs x.1

said_law : (f : Field) → Law Stops (said_text f) (IsReadableSaid f) (said_front f)
said_law a_narrow = narrow_law
said_law a_wide = wide_law
said_law a_reference = stopped_law {z = Stops} (λ rest stop. tt) ref_law
said_law a_term = term_law
said_law a_truth = choice_law (codes "true") (codes "false") (λ rest. refl)
said_law a_link = choice_law (codes "linked") (codes "plain") (λ rest. refl)

-- the text field by field
abbrev fields_text : (fs : List Field) → AllSaid fs → List ℕ
fields_text [] x = []
fields_text (f ∷ fs) x = (codes " " ++ said_text f x.0) ++ fields_text fs x.1

abbrev all_text : (fs : List Field) → AllSaid fs → List ℕ
all_text fs x = values_text (values fs x)

by_fields : (fs : List Field) (x : AllSaid fs) → all_text fs x ≡ fields_text fs x
by_fields [] x = refl
by_fields (f ∷ []) x = sym (append-nil (codes " " ++ said_text f x.0))
by_fields (f ∷ g ∷ fs) x = ap (λ (e : List ℕ). (codes " " ++ said_text f x.0) ++ e) (by_fields (g ∷ fs) x.1)

fields_stop : (fs : List Field) (x : AllSaid fs) (rest : List ℕ) → Stops rest → Stops (fields_text fs x ++ rest)
fields_stop [] x rest stop = stop
fields_stop (f ∷ fs) x rest stop = refl

fields_law : (fs : List Field) → Law Stops (fields_text fs) (AreReadable fs) (fields_front fs)
fields_law [] = record { found = λ bytes. (tt, refl); again = λ x rest k stop. refl }
fields_law (f ∷ fs) = joined_law (behind_law (codes " ") (said_law f)) (fields_law fs) (λ x rest k stop. fields_stop fs x rest stop)

all_law : (fs : List Field) → Law Stops (all_text fs) (AreReadable fs) (fields_front fs)
all_law fs = text_law (all_text fs) (λ x. sym (by_fields fs x)) (fields_law fs)

-- ---- what can be read lies in memory, and its terms are no larger than what is read

each_more : {X : Type 0} (P : X → Type 0) (x : X) (xs : List X) → P x → Each P xs → Each P (x ∷ xs)
each_more P x [] p each = p
each_more P x (y ∷ xs) p each = (p, each)

each_first : {X : Type 0} (P : X → Type 0) (x : X) (xs : List X) → Each P (x ∷ xs) → P x
each_first P x [] each = each
each_first P x (y ∷ xs) each = each.0

each_later : {X : Type 0} (P : X → Type 0) (x : X) (xs : List X) → Each P (x ∷ xs) → Each P xs
each_later P x [] each = tt
each_later P x (y ∷ xs) each = each.1

pub kept_term : (t : Term) → IsReadable t → IsKeptTerm t
kept_term t k = record { nodes = k.nodes; depth = k.depth }

pub readable_term : (t : Term) → IsTerm t → IsKeptTerm t → IsReadable t
readable_term t is k = record { term = is; nodes = k.nodes; depth = k.depth }

abbrev AreStored : (fs : List Field) → AllSaid fs → Type 0
AreStored fs x = Each IsStoredValue (values fs x)

abbrev AreKept : (fs : List Field) → AllSaid fs → Type 0
AreKept fs x = Each IsKeptTerm (terms_of (values fs x))

said_stored : (f : Field) (x : Said f) → IsReadableSaid f x → IsStoredSaid f x
said_stored a_narrow x k = k
said_stored a_wide x k = k
said_stored a_reference x k = k
said_stored a_term x k = k.term
said_stored a_truth x k = tt
said_stored a_link x k = tt

stored : (fs : List Field) (x : AllSaid fs) → AreReadable fs x → AreStored fs x
stored [] x k = tt
stored (f ∷ fs) x k = each_more IsStoredValue (f, x.0) (values fs x.1) (said_stored f x.0 k.0) (stored fs x.1 k.1)

kept : (fs : List Field) (x : AllSaid fs) → AreReadable fs x → AreKept fs x
kept [] x k = tt
kept (a_term ∷ fs) x k = each_more IsKeptTerm x.0 (terms_of (values fs x.1)) (kept_term x.0 k.0) (kept fs x.1 k.1)
kept (a_narrow ∷ fs) x k = kept fs x.1 k.1
kept (a_wide ∷ fs) x k = kept fs x.1 k.1
kept (a_reference ∷ fs) x k = kept fs x.1 k.1
kept (a_truth ∷ fs) x k = kept fs x.1 k.1
kept (a_link ∷ fs) x k = kept fs x.1 k.1

readable : (fs : List Field) (x : AllSaid fs) → AreStored fs x → AreKept fs x → AreReadable fs x
readable [] x s k = tt
readable (f ∷ fs) x s k =
    let first : IsStoredSaid f x.0 = each_first IsStoredValue (f, x.0) (values fs x.1) s in
    let later : AreStored fs x.1 = each_later IsStoredValue (f, x.0) (values fs x.1) s in
    more f fs x first k (λ l. readable fs x.1 later l)
  where
    more : (f : Field) (fs : List Field) (x : AllSaid (f ∷ fs)) → IsStoredSaid f x.0 → AreKept (f ∷ fs) x → (AreKept fs x.1 → AreReadable fs x.1) → AreReadable (f ∷ fs) x
    more a_term fs x s k rest = (readable_term x.0 s (each_first IsKeptTerm x.0 (terms_of (values fs x.1)) k), rest (each_later IsKeptTerm x.0 (terms_of (values fs x.1)) k))
    more a_narrow fs x s k rest = (s, rest k)
    more a_wide fs x s k rest = (s, rest k)
    more a_reference fs x s k rest = (s, rest k)
    more a_truth fs x s k rest = (tt, rest k)
    more a_link fs x s k rest = (tt, rest k)

-- ---- tables

-- a row, and what its fields say
pub record Wording (A : Type 0) : Type 0 where
  pub row : Row A
  pub said : AllSaid row.fields

-- what the value says, if it is one of this field
abbrev pub said_by : (f : Field) → Value → Option (Said f)
said_by a_narrow (a_narrow, n) = Some n
said_by a_wide (a_wide, n) = Some n
said_by a_reference (a_reference, r) = Some r
said_by a_term (a_term, t) = Some t
said_by a_truth (a_truth, b) = Some b
said_by a_link (a_link, b) = Some b
said_by _ _ = None

-- what the values say, if they are of these fields
abbrev pub all_said : (fs : List Field) → List Value → Option (AllSaid fs)
all_said [] [] = Some tt
all_said (f ∷ fs) (v ∷ vs) = said_by f v >>= λ x. all_said fs vs >>= λ y. Some (x, y)
all_said _ _ = None

-- the row whose word the phrase has, with what is said
abbrev pub wording : {A : Type 0} → List (Row A) → Phrase → Option (Wording A)
wording [] p = None
wording (r ∷ rs) p = if bytes_eq r.word p.word then (all_said r.fields p.values >>= λ x. Some (record { row = r; said = x })) else wording rs p

abbrev pub IsReadablePhrase : Phrase → Type 0
IsReadablePhrase p = IsStoredPhrase p × IsSizedPhrase p

module _ {A : Type 0} (phrase : A → Phrase) where
  abbrev pub text : A → List ℕ
  text a = phrase_text (phrase a)

  abbrev pub ok : A → Type 0
  ok a = IsReadablePhrase (phrase a)

  -- what each row makes is said by that row
  abbrev pub AreSaid : List (Row A) → Type 0
  AreSaid [] = Unit {0}
  AreSaid (r ∷ rs) = ((said : AllSaid r.fields) → phrase (r.make said) ≡ says r said) × AreSaid rs

  rows_found : (rows : List (Row A)) → AreSaid rows → (bytes : List ℕ) → IfSome (rows_front rows bytes) (IsReadAs text ok bytes)
  rows_found [] each bytes = tt
  rows_found (r ∷ rs) each bytes =
      word_found text ok r.word (all_law r.fields) r.make (λ x. ap phrase_text (each.0 x))
      (λ x k. subst IsReadablePhrase (sym (each.0 x)) (stored r.fields x k, kept r.fields x k)) bytes (rows_front rs bytes) (rows_found rs each.1 bytes)

  -- the value is said by this row, the first whose word its text begins with, and the row makes it again
  pub record IsSaidBy (rows : List (Row A)) (a : A) (w : Wording A) : Type 0 where
    pub is : phrase a ≡ says w.row w.said
    pub first : (rest : List ℕ) → rows_front rows (w.row.word ++ (all_text w.row.fields w.said ++ rest)) ≡ row_front w.row (all_text w.row.fields w.said ++ rest)
    pub made : w.row.make w.said ≡ a

  abbrev pub IsFound : List (Row A) → A → Type 0
  IsFound rows a = IsSomeAnd (wording rows (phrase a)) (IsSaidBy rows a)

  said_again : (rows : List (Row A)) (a : A) (o : Option (Wording A)) → IsSomeAnd o (IsSaidBy rows a) → (rest : List ℕ) → ok a → Stops rest
      → rows_front rows (text a ++ rest) ≡ Some (a, rest)
  said_again rows a None f rest k stop = absurd f
  said_again rows a (Some w) f rest k stop =
      let written : List ℕ = all_text w.row.fields w.said in
      let good : IsReadablePhrase (says w.row w.said) = subst IsReadablePhrase f.is k in
      ap (λ (p : Phrase). rows_front rows (phrase_text p ++ rest)) f.is ∙ ap (rows_front rows) (append_assoc w.row.word written rest) ∙ f.first rest
      ∙ made_again (all_law w.row.fields) w.row.make w.said rest (readable w.row.fields w.said good.0 good.1) stop ∙ ap (λ (b : A). Some (b, rest)) f.made

  pub rows_law : (rows : List (Row A)) → AreSaid rows → ((a : A) → IsFound rows a) → Law Stops text ok (rows_front rows)
  rows_law rows each found = record {
    found = rows_found rows each;
    again = λ a rest k stop. said_again rows a (wording rows (phrase a)) (found a) rest k stop;
  }
