-- Phrases of a record (this project's own): a word, and fields behind it, each behind a space. A table has a row for each word; by
-- its rows a value is written, and read back.
use Rattle.std.specs.Prelude.{ℕ, ◌<◌, ◌-◌, ◌^◌, List, [], ◌∷◌, ◌++◌, Bool, true, false, Some, None, codes, decimal}
use Rattle.sig_terms.specs.TermText.{term_text, reference_text}
use Rattle.sig_terms.specs.Tokens.{◌>>=◌, number_at, reference_at, after_text}
use Rattle.sig_terms.specs.Fronts.{term_at}
use Rattle.sig_terms.specs.Readable.{IsTerm}
use Rattle.sig_terms.specs.declared.term.Term.{Term}
use Rattle.sig_terms.specs.declared.reference.Ref.{Ref}
use Rattle.sig_terms.specs.declared.reading.TheConstants.{READ_DEPTH, READ_NODES}
use Rattle.sig_record.specs.Readers.{Reader, read_as, joined, behind, or_else}

-- ---- fields

-- what may stand behind a word: a number of 32 bits or of 64, a reference, a term, `true` or `false`, `linked` or `plain`
pub data Field : Type 0 where
  a_narrow : Field
  a_wide : Field
  a_reference : Field
  a_term : Field
  a_truth : Field
  a_link : Field

-- what a field says
abbrev pub Said : Field → Type 0
Said a_narrow = ℕ
Said a_wide = ℕ
Said a_reference = Ref
Said a_term = Term
Said a_truth = Bool
Said a_link = Bool

-- what fields say, one after another
abbrev pub AllSaid : List Field → Type 0
AllSaid [] = Unit {0}
AllSaid (f ∷ fs) = Said f × AllSaid fs

-- one of two words
abbrev pub choice_text : List ℕ → List ℕ → Bool → List ℕ
choice_text one other true = one
choice_text one other false = other

abbrev pub truth_text : Bool → List ℕ
truth_text = choice_text (codes "true") (codes "false")

-- of a link, or of none
abbrev pub link_text : Bool → List ℕ
link_text = choice_text (codes "linked") (codes "plain")

abbrev pub said_text : (f : Field) → Said f → List ℕ
said_text a_narrow n = decimal n
said_text a_wide n = decimal n
said_text a_reference r = reference_text r
said_text a_term t = term_text t
said_text a_truth b = truth_text b
said_text a_link b = link_text b

-- a field, and what it says
abbrev pub Value : Type 0
Value = (f : Field) × Said f

abbrev pub values : (fs : List Field) → AllSaid fs → List Value
values [] x = []
values (f ∷ fs) x = (f, x.0) ∷ values fs x.1

abbrev pub value_text : Value → List ℕ
value_text v = codes " " ++ said_text v.0 v.1

abbrev pub values_text : List Value → List ℕ
values_text [] = []
values_text (v ∷ []) = value_text v
values_text (v ∷ w ∷ vs) = value_text v ++ values_text (w ∷ vs)

-- ---- what stands at the front of bytes

abbrev pub narrow : Reader ℕ
narrow = number_at (2 ^ 32 - 1)

abbrev pub wide : Reader ℕ
wide = number_at (2 ^ 64 - 1)

abbrev pub term_front : Reader Term
term_front bytes = term_at READ_DEPTH READ_NODES bytes >>= λ x. Some (x.0, x.2)

abbrev pub ref_front : Reader Ref
ref_front = behind (codes "#") reference_at

-- nothing more is read
abbrev pub alone : {X : Type 0} → X → Reader X
alone x rest = Some (x, rest)

abbrev pub choice_front : List ℕ → List ℕ → Reader Bool
choice_front one other bytes = or_else (after_text one bytes) (alone true) (or_else (after_text other bytes) (alone false) None)

abbrev pub said_front : (f : Field) → Reader (Said f)
said_front a_narrow = narrow
said_front a_wide = wide
said_front a_reference = ref_front
said_front a_term = term_front
said_front a_truth = choice_front (codes "true") (codes "false")
said_front a_link = choice_front (codes "linked") (codes "plain")

abbrev pub field_front : (f : Field) → Reader (Said f)
field_front f = behind (codes " ") (said_front f)

abbrev pub fields_front : (fs : List Field) → Reader (AllSaid fs)
fields_front [] = alone tt
fields_front (f ∷ fs) = joined (field_front f) (fields_front fs)

-- ---- what the types of fields keep

abbrev pub IsNarrow : ℕ → Type 0
IsNarrow n = n < 2 ^ 32

abbrev pub IsWide : ℕ → Type 0
IsWide n = n < 2 ^ 64

abbrev pub IsStoredRef : Ref → Type 0
IsStoredRef r = IsNarrow r.owner.0 × IsWide r.serial

abbrev pub IsStoredSaid : (f : Field) → Said f → Type 0
IsStoredSaid a_narrow n = IsNarrow n
IsStoredSaid a_wide n = IsWide n
IsStoredSaid a_reference r = IsStoredRef r
IsStoredSaid a_term t = IsTerm t
IsStoredSaid a_truth b = Unit {0}
IsStoredSaid a_link b = Unit {0}

abbrev pub IsStoredValue : Value → Type 0
IsStoredValue v = IsStoredSaid v.0 v.1

-- the terms among the values
abbrev pub terms_of : List Value → List Term
terms_of [] = []
terms_of ((a_term, t) ∷ vs) = t ∷ terms_of vs
terms_of (_ ∷ vs) = terms_of vs

-- each of these has the property
abbrev pub Each : {X : Type 0} → (X → Type 0) → List X → Type 0
Each P [] = Unit {0}
Each P (x ∷ []) = P x
Each P (x ∷ y ∷ xs) = P x × Each P (y ∷ xs)

-- ---- rows

-- a word, the fields behind it, and what is made of what they say
pub record Row (A : Type 0) : Type 0 where
  pub word : List ℕ
  pub fields : List Field
  pub make : AllSaid fields → A

-- a word, and what stands behind it
pub record Phrase : Type 0 where
  pub word : List ℕ
  pub values : List Value

-- what is said by a row
abbrev pub says : {A : Type 0} (r : Row A) → AllSaid r.fields → Phrase
says r said = record { word = r.word; values = values r.fields said }

abbrev pub phrase_text : Phrase → List ℕ
phrase_text p = p.word ++ values_text p.values

abbrev pub IsStoredPhrase : Phrase → Type 0
IsStoredPhrase p = Each IsStoredValue p.values

-- what is read behind a row's word
abbrev pub row_front : {A : Type 0} → Row A → Reader A
row_front r = read_as r.make (fields_front r.fields)

-- by the first row whose word stands there
abbrev pub rows_front : {A : Type 0} → List (Row A) → Reader A
rows_front [] bytes = None
rows_front (r ∷ rs) bytes = or_else (after_text r.word bytes) (row_front r) (rows_front rs bytes)
