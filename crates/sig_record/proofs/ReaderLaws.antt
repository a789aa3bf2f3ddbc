-- Readers that read what is written so, and read it again.
use Rattle.std.proofs.Common.{◌≡◌, ℕ, Bool, true, cond, List, ◌++◌, length, Option, Some, None, refl, sym, ap, ◌∙◌, append_assoc}
use Rattle.std.specs.Prelude.{IfSome, codes}
use Rattle.std.proofs.lemmas.Slice.Eq.{bytes_eq-Decides}
use Rattle.std.proofs.lemmas.List.{take_at, drop_at}
use Rattle.std.proofs.lemmas.Option.{IfSome_then}
use Rattle.sig_terms.specs.Tokens.{◌>>=◌, after_text}
use Rattle.sig_terms.proofs.Choices.{by_test, if_bind}
use Rattle.sig_terms.proofs.TokenTexts.{after_text_is}
use Rattle.sig_terms.proofs.TokenReads.{Stops}
use Rattle.sig_record.specs.Readers.{Reader, read_as, passing, joined, spaced, ended, behind, or_else}

-- what is read has the property, and is written so in front of the rest
abbrev pub IsReadAs : {X : Type 0} → (X → List ℕ) → (X → Type 0) → List ℕ → X × List ℕ → Type 0
IsReadAs text ok bytes x = ok x.0 × (bytes ≡ text x.0 ++ x.1)

-- and what has it is read again, in front of a rest with this property
pub record Law {X : Type 0} (stop : List ℕ → Type 0) (text : X → List ℕ) (ok : X → Type 0) (read : Reader X) : Type 0 where
  pub found : (bytes : List ℕ) → IfSome (read bytes) (IsReadAs text ok bytes)
  pub again : (x : X) (rest : List ℕ) → ok x → stop rest → read (text x ++ rest) ≡ Some (x, rest)

abbrev pub Anything : List ℕ → Type 0
Anything rest = Unit {0}

pub after_again : (text rest : List ℕ) → after_text text (text ++ rest) ≡ Some rest
after_again text rest =
    rw (take_at text rest (length text) refl, drop_at text rest (length text) refl, (bytes_eq-Decides text text).1 refl) refl

two_parts : (a b rest : List ℕ) → (a ++ b) ++ rest ≡ a ++ (b ++ rest)
two_parts a b rest = append_assoc a b rest

-- ---- one behind the other

pub joined_law : {X Y : Type 0} {s z : List ℕ → Type 0} {t : X → List ℕ} {u : Y → List ℕ} {P : X → Type 0} {Q : Y → Type 0} {f : Reader X} {g : Reader Y}
    → Law s t P f → Law z u Q g → ((y : Y) (rest : List ℕ) → Q y → z rest → s (u y ++ rest))
    → Law z (λ (x : X × Y). t x.0 ++ u x.1) (λ (x : X × Y). P x.0 × Q x.1) (joined f g)
joined_law {X} {Y} {s} {z} {t} {u} {P} {Q} {f} {g} l m stops = record {
  found = λ bytes.
      if_bind (IsReadAs t P bytes) (IsReadAs (λ (x : X × Y). t x.0 ++ u x.1) (λ (x : X × Y). P x.0 × Q x.1) bytes) (f bytes) (λ x. g x.1 >>= λ y. Some ((x.0, y.0), y.1)) (l.found bytes) (λ x r.
      if_bind (IsReadAs u Q x.1) (IsReadAs (λ (x : X × Y). t x.0 ++ u x.1) (λ (x : X × Y). P x.0 × Q x.1) bytes) (g x.1) (λ y. Some ((x.0, y.0), y.1)) (m.found x.1) (λ y q.
      ((r.0, q.0), r.1 ∙ ap (λ (e : List ℕ). t x.0 ++ e) q.1 ∙ sym (two_parts (t x.0) (u y.0) y.1))));
  again = λ x rest k stop.
      let one : f (t x.0 ++ (u x.1 ++ rest)) ≡ Some (x.0, u x.1 ++ rest) = l.again x.0 (u x.1 ++ rest) k.0 (stops x.1 rest k.1 stop) in
      let two : g (u x.1 ++ rest) ≡ Some (x.1, rest) = m.again x.1 rest k.1 stop in
      ap (joined f g) (two_parts (t x.0) (u x.1) rest) ∙ rw (one, two) refl;
}

pub ended_law : {X : Type 0} {s : List ℕ → Type 0} {t : X → List ℕ} {P : X → Type 0} {f : Reader X} (text : List ℕ) → ((rest : List ℕ) → s (text ++ rest)) → Law s t P f
    → Law Anything (λ (x : X). t x ++ text) P (ended text f)
ended_law {X} {s} {t} {P} {f} text stops l = record {
  found = λ bytes.
      if_bind (IsReadAs t P bytes) (IsReadAs (λ (x : X). t x ++ text) P bytes) (f bytes) (λ x. after_text text x.1 >>= λ rest. Some (x.0, rest)) (l.found bytes) (λ x r.
      if_bind (λ rest. x.1 ≡ text ++ rest) (IsReadAs (λ (x : X). t x ++ text) P bytes) (after_text text x.1) (λ rest. Some (x.0, rest)) (after_text_is text x.1) (λ rest e.
      (r.0, r.1 ∙ ap (λ (e : List ℕ). t x.0 ++ e) e ∙ sym (two_parts (t x.0) text rest))));
  again = λ x rest k stop.
      let one : f (t x ++ (text ++ rest)) ≡ Some (x, text ++ rest) = l.again x (text ++ rest) k (stops rest) in
      ap (ended text f) (two_parts (t x) text rest)
      ∙ ap (λ (o : Option (X × List ℕ)). o >>= λ y. after_text text y.1 >>= λ rest. Some (y.0, rest)) one
      ∙ ap (λ (o : Option (List ℕ)). o >>= λ rest. Some (x, rest)) (after_again text rest);
}

pub behind_law : {X : Type 0} {s : List ℕ → Type 0} {t : X → List ℕ} {P : X → Type 0} {f : Reader X} (text : List ℕ) → Law s t P f → Law s (λ (x : X). text ++ t x) P (behind text f)
behind_law {X} {s} {t} {P} {f} text l = record {
  found = λ bytes.
      if_bind (λ rest. bytes ≡ text ++ rest) (IsReadAs (λ (x : X). text ++ t x) P bytes) (after_text text bytes) f (after_text_is text bytes) (λ rest e.
      IfSome_then (f rest) (l.found rest) (λ x r.
      (r.0, e ∙ ap (λ (e : List ℕ). text ++ e) r.1 ∙ sym (two_parts text (t x.0) x.1))));
  again = λ x rest k stop.
      ap (behind text f) (two_parts text (t x) rest) ∙ ap (λ (o : Option (List ℕ)). o >>= f) (after_again text (t x ++ rest)) ∙ l.again x rest k stop;
}

-- another spelling of the text
pub text_law : {X : Type 0} {s : List ℕ → Type 0} {t : X → List ℕ} {P : X → Type 0} {f : Reader X} (text : X → List ℕ) → ((x : X) → t x ≡ text x) → Law s t P f → Law s text P f
text_law {X} {s} {t} {P} {f} text same l = record {
  found = λ bytes. IfSome_then (f bytes) (l.found bytes) (λ x r. (r.0, r.1 ∙ ap (λ (e : List ℕ). e ++ x.1) (same x.0)));
  again = λ x rest k stop. ap (λ (e : List ℕ). f (e ++ rest)) (sym (same x)) ∙ l.again x rest k stop;
}

pub spaced_law : {X Y : Type 0} {z : List ℕ → Type 0} {t : X → List ℕ} {u : Y → List ℕ} {P : X → Type 0} {Q : Y → Type 0} {f : Reader X} {g : Reader Y}
    → Law Stops t P f → Law z u Q g
    → Law z (λ (x : X × Y). t x.0 ++ codes " " ++ u x.1) (λ (x : X × Y). P x.0 × Q x.1) (spaced f g)
spaced_law {X} {Y} {z} {t} {u} {P} {Q} {f} {g} l m =
    text_law (λ x. t x.0 ++ codes " " ++ u x.1) (λ x. sym (append_assoc (t x.0) (codes " ") (u x.1))) (joined_law l (behind_law (codes " ") m) (λ y rest k stop. refl))

-- ---- other values, and tests

pub read_as_law : {X Y : Type 0} {s : List ℕ → Type 0} {t : X → List ℕ} {P : X → Type 0} {f : Reader X}
    → Law s t P f → (make : X → Y) (parts : Y → X) (text : Y → List ℕ) (ok : Y → Type 0)
    → ((y : Y) → ok y → make (parts y) ≡ y) → ((x : X) → text (make x) ≡ t x) → ((x : X) → P x → ok (make x)) → ((y : Y) → ok y → P (parts y))
    → Law s text ok (read_as make f)
read_as_law {X} {Y} {s} {t} {P} {f} l make parts text ok same texts there back = record {
  found = λ bytes.
      if_bind (IsReadAs t P bytes) (IsReadAs text ok bytes) (f bytes) (λ x. Some (make x.0, x.1)) (l.found bytes) (λ x r.
      (there x.0 r.0, r.1 ∙ ap (λ (e : List ℕ). e ++ x.1) (sym (texts x.0))));
  again = λ y rest k stop.
      let written : text y ≡ t (parts y) = ap text (sym (same y k)) ∙ texts (parts y) in
      ap (λ (e : List ℕ). read_as make f (e ++ rest)) written
      ∙ ap (λ (o : Option (X × List ℕ)). o >>= λ x. Some (make x.0, x.1)) (l.again (parts y) rest (back y k) stop)
      ∙ ap (λ (v : Y). Some (v, rest)) (same y k);
}

pub passing_law : {X : Type 0} {s : List ℕ → Type 0} {t : X → List ℕ} {P : X → Type 0} {f : Reader X} (test : X → Bool)
    → Law s t P f → Law s t (λ (x : X). P x × (test x ≡ true)) (passing test f)
passing_law {X} {s} {t} {P} {f} test l =
    let R : X → Type 0 = λ x. P x × (test x ≡ true) in
    record {
      found = λ bytes.
          if_bind (IsReadAs t P bytes) (IsReadAs t R bytes) (f bytes) (λ x. cond (test x.0) (Some x) None) (l.found bytes) (λ x r.
          by_test (λ o. IfSome o (IsReadAs t R bytes)) (test x.0) (Some x) None (λ h. ((r.0, h), r.1)) (λ h. tt));
      again = λ x rest k stop.
          ap (λ (o : Option (X × List ℕ)). o >>= λ y. cond (test y.0) (Some y) None) (l.again x rest k.0 stop) ∙ rw k.1 refl;
    }

-- a property of the rest that is stronger
pub stopped_law : {X : Type 0} {s z : List ℕ → Type 0} {t : X → List ℕ} {P : X → Type 0} {f : Reader X} → ((rest : List ℕ) → z rest → s rest) → Law s t P f → Law z t P f
stopped_law stronger l = record { found = l.found; again = λ x rest k stop. l.again x rest k (stronger rest stop) }

-- ---- choices by a word

pub or_found : {A : Type 0} (P : A → Type 0) (Q : List ℕ → Type 0) (o : Option (List ℕ)) (f : List ℕ → Option A) (other : Option A)
    → IfSome o Q → ((rest : List ℕ) → Q rest → IfSome (f rest) P) → IfSome other P → IfSome (or_else o f other) P
or_found P Q None f other e h k = k
or_found P Q (Some rest) f other e h k = h rest e

module _ {A : Type 0} (text : A → List ℕ) (ok : A → Type 0) where
  -- a word and what is read behind it
  pub word_found : {X : Type 0} {s : List ℕ → Type 0} {t : X → List ℕ} {P : X → Type 0} {f : Reader X} (word : List ℕ) → Law s t P f → (make : X → A)
      → ((x : X) → text (make x) ≡ word ++ t x) → ((x : X) → P x → ok (make x)) → (bytes : List ℕ) (other : Option (A × List ℕ))
      → IfSome other (IsReadAs text ok bytes) → IfSome (or_else (after_text word bytes) (read_as make f) other) (IsReadAs text ok bytes)
  word_found {X} {s} {t} {P} {f} word l make texts there bytes other k =
      or_found (IsReadAs text ok bytes) (λ rest. bytes ≡ word ++ rest) (after_text word bytes) (read_as make f) other (after_text_is word bytes) (λ rest e.
      if_bind (IsReadAs t P rest) (IsReadAs text ok bytes) (f rest) (λ x. Some (make x.0, x.1)) (l.found rest) (λ x r.
      (there x.0 r.0, e ∙ ap (λ (e : List ℕ). word ++ e) r.1 ∙ sym (two_parts word (t x.0) x.1) ∙ ap (λ (e : List ℕ). e ++ x.1) (sym (texts x.0))))) k

  -- a word alone
  pub alone_found : (word : List ℕ) (x : A) → text x ≡ word → ok x → (bytes : List ℕ) (other : Option (A × List ℕ))
      → IfSome other (IsReadAs text ok bytes) → IfSome (or_else (after_text word bytes) (λ rest. Some (x, rest)) other) (IsReadAs text ok bytes)
  alone_found word x is good bytes other k =
      or_found (IsReadAs text ok bytes) (λ rest. bytes ≡ word ++ rest) (after_text word bytes) (λ rest. Some (x, rest)) other (after_text_is word bytes) (λ rest e.
      (good, e ∙ ap (λ (e : List ℕ). e ++ rest) (sym is))) k

pub made_again : {X A : Type 0} {s : List ℕ → Type 0} {t : X → List ℕ} {P : X → Type 0} {f : Reader X} → Law s t P f → (make : X → A) (x : X) (rest : List ℕ)
    → P x → s rest → read_as make f (t x ++ rest) ≡ Some (make x, rest)
made_again {X} {A} l make x rest k stop = ap (λ (o : Option (X × List ℕ)). o >>= λ y. Some (make y.0, y.1)) (l.again x rest k stop)
