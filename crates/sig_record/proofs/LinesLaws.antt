-- Readers of lines: behind what they have read they depend on the next line alone, and where a line can't stand, it can't whatever
-- follows it.
use Rattle.std.proofs.Common.{◌≡◌, ℕ, List, [], ◌∷◌, ◌++◌, length, Option, Some, None, Ok, Err, refl, sym, ap, subst, ◌∙◌, inl, inr, ◌⊎◌, append_assoc}
use Rattle.std.specs.Prelude.{codes}
use Rattle.std.proofs.lemmas.List.{append-nil}
use Rattle.sig_terms.specs.Tokens.{◌>>=◌}
use Rattle.sig_record.specs.FaultLine.{IsInline, AreWhole}
use Rattle.sig_record.specs.Readers.{Reader, read_as, joined}
use Rattle.sig_record.specs.LineReaders.{Lines, go_on, one_line, then_lines}
use Rattle.sig_record.proofs.ReaderLaws.{IsReadAs, Law, Anything}
use Rattle.sig_record.proofs.TermFronts.{if_some_at}
use Rattle.sig_record.proofs.CleanTexts.{IsLine}
use Rattle.sig_record.proofs.FirstLines.{no_line_again}
use Rattle.sig_record.proofs.Forgetting.{IsSame, left_some, left_none, left_count, ok_parts, err_parts, same_ok, ok_no_err, same_bind, one_same, then_same}

-- what was read, so long as the rest begins with the same line
pub record Passes {X : Type 0} (front : Reader X) (text : X → List ℕ) (ok : X → Type 0) (bytes : List ℕ) (x : X × List ℕ) : Type 0 where
  pub good : ok x.0
  pub is : bytes ≡ text x.0 ++ x.1
  pub again : (line more other : List ℕ) → x.1 ≡ line ++ 10 ∷ more → front (text x.0 ++ (line ++ 10 ∷ other)) ≡ Some (x.0, line ++ 10 ∷ other)

-- so many bytes are left, and with the line with which they begin nothing is read; what stands before it has the property
pub record Stops {X : Type 0} (front : Reader X) (Before : List ℕ → Type 0) (bytes : List ℕ) (left : ℕ) : Type 0 where
  pub before : List ℕ
  pub rest : List ℕ
  pub is : bytes ≡ before ++ rest
  pub count : length rest ≡ left
  pub whole : AreWhole before
  pub begun : Before before
  pub never : (line more other : List ℕ) → IsInline line → rest ≡ line ++ 10 ∷ more → front (before ++ (line ++ 10 ∷ other)) ≡ None

pub record LinesLaw {X : Type 0} (text : X → List ℕ) (ok : X → Type 0) (front : Reader X) (Before : List ℕ → Type 0) (read : Lines X) : Type 0 where
  pub same : IsSame read front
  pub whole : (x : X) → ok x → AreWhole (text x)
  pub passes : (bytes : List ℕ) (x : X × List ℕ) → read bytes ≡ Ok x → Passes front text ok bytes x
  pub stops : (bytes : List ℕ) (left : ℕ) → read bytes ≡ Err left → Stops front Before bytes left

pub by_cases : {A B C : Type 0} → A ⊎ B → (A → C) → (B → C) → C
by_cases (inl a) f g = f a
by_cases (inr b) f g = g b

-- ---- whole lines

pub whole_line : (text : List ℕ) → IsLine text → AreWhole text
whole_line text l = inr (l.front, l.is)

pub whole_on : (a b : List ℕ) → AreWhole a → AreWhole b → AreWhole (a ++ b)
whole_on a b (inl e) q = subst AreWhole (ap (λ (t : List ℕ). t ++ b) (sym e)) q
whole_on a b (inr p) (inl e) = inr (p.0, ap (λ (t : List ℕ). a ++ t) e ∙ append-nil a ∙ p.1)
whole_on a b (inr p) (inr q) = inr (a ++ q.0, ap (λ (t : List ℕ). a ++ t) q.1 ∙ sym (append_assoc a q.0 (codes "\n")))

-- ---- one line

abbrev pub Nothing : List ℕ → Type 0
Nothing before = before ≡ []

pub one_law : {X : Type 0} {text : X → List ℕ} {ok : X → Type 0} {front : Reader X} → Law Anything text ok front → ((x : X) → ok x → IsLine (text x)) → LinesLaw text ok front Nothing (one_line front)
one_law {X} {text} {ok} {front} law lines = record {
  same = one_same front;
  whole = λ x k. whole_line (text x) (lines x k);
  passes = λ bytes x e.
      let r : IsReadAs text ok bytes x = if_some_at (IsReadAs text ok bytes) (front bytes) x (left_some (length bytes) (front bytes) x e) (law.found bytes) in
      record { good = r.0; is = r.1; again = λ line more other _. law.again x.0 (line ++ 10 ∷ other) r.0 tt };
  stops = λ bytes left e. record {
    before = [];
    rest = bytes;
    is = refl;
    count = left_count (length bytes) left (front bytes) e;
    whole = inl refl;
    begun = refl;
    never = λ line more other clean is. no_line_again law lines line more other clean (ap front (sym is) ∙ left_none (length bytes) left (front bytes) e);
  };
}

-- ---- one behind the other

passes_on : {X : Type 0} {front : Reader X} {text : X → List ℕ} {ok : X → Type 0} {bytes : List ℕ} (x : X × List ℕ) → Passes front text ok bytes x → (mid line more other : List ℕ) → x.1 ≡ mid ++ (line ++ 10 ∷ more)
    → front (text x.0 ++ (mid ++ (line ++ 10 ∷ other))) ≡ Some (x.0, mid ++ (line ++ 10 ∷ other))
passes_on {X} {front} {text} {ok} {bytes} x p mid line more other is =
    let assoc : (mid ++ line) ++ 10 ∷ other ≡ mid ++ (line ++ 10 ∷ other) = append_assoc mid line (10 ∷ other) in
    ap (λ (t : List ℕ). front (text x.0 ++ t)) (sym assoc) ∙ p.again (mid ++ line) more other (is ∙ sym (append_assoc mid line (10 ∷ more))) ∙ ap (λ (t : List ℕ). Some (x.0, t)) assoc

module _ {X Y : Type 0} {t : X → List ℕ} {u : Y → List ℕ} {P : X → Type 0} {Q : Y → Type 0} {f : Reader X} {g : Reader Y} {D E F : List ℕ → Type 0} {a : Lines X} {b : Lines Y}
    (l : LinesLaw t P f D a) (m : LinesLaw u Q g E b) (first : (s : List ℕ) → D s → F s) (second : (x : X) (s : List ℕ) → P x → E s → F (t x ++ s)) where
  abbrev pub texts : X × Y → List ℕ
  texts x = t x.0 ++ u x.1

  abbrev pub oks : X × Y → Type 0
  oks x = P x.0 × Q x.1

  both_pass : (bytes : List ℕ) (x : X × List ℕ) (y : Y × List ℕ) → Passes f t P bytes x → Passes g u Q x.1 y → Passes (joined f g) texts oks bytes ((x.0, y.0), y.1)
  both_pass bytes x y r s = record {
    good = (r.good, s.good);
    is = r.is ∙ ap (λ (e : List ℕ). t x.0 ++ e) s.is ∙ sym (append_assoc (t x.0) (u y.0) y.1);
    again = λ line more other is.
        let one : f (t x.0 ++ (u y.0 ++ (line ++ 10 ∷ other))) ≡ Some (x.0, u y.0 ++ (line ++ 10 ∷ other)) =
        passes_on x r (u y.0) line more other (s.is ∙ ap (λ (e : List ℕ). u y.0 ++ e) is) in
        let two : g (u y.0 ++ (line ++ 10 ∷ other)) ≡ Some (y.0, line ++ 10 ∷ other) = s.again line more other is in
        ap (joined f g) (append_assoc (t x.0) (u y.0) (line ++ 10 ∷ other)) ∙ rw (one, two) refl;
  }

  first_stops : (bytes : List ℕ) (left : ℕ) → Stops f D bytes left → Stops (joined f g) F bytes left
  first_stops bytes left s = record {
    before = s.before;
    rest = s.rest;
    is = s.is;
    count = s.count;
    whole = s.whole;
    begun = first s.before s.begun;
    never = λ line more other clean is. ap (λ (o : Option (X × List ℕ)). o >>= λ x. g x.1 >>= λ y. Some ((x.0, y.0), y.1)) (s.never line more other clean is);
  }

  second_stops : (bytes : List ℕ) (left : ℕ) (x : X × List ℕ) → Passes f t P bytes x → Stops g E x.1 left → Stops (joined f g) F bytes left
  second_stops bytes left x r s = record {
    before = t x.0 ++ s.before;
    rest = s.rest;
    is = r.is ∙ ap (λ (e : List ℕ). t x.0 ++ e) s.is ∙ sym (append_assoc (t x.0) s.before s.rest);
    count = s.count;
    whole = whole_on (t x.0) s.before (l.whole x.0 r.good) s.whole;
    begun = second x.0 s.before r.good s.begun;
    never = λ line more other clean is.
        let one : f (t x.0 ++ (s.before ++ (line ++ 10 ∷ other))) ≡ Some (x.0, s.before ++ (line ++ 10 ∷ other)) =
        passes_on x r s.before line more other (s.is ∙ ap (λ (e : List ℕ). s.before ++ e) is) in
        ap (joined f g) (append_assoc (t x.0) s.before (line ++ 10 ∷ other)) ∙ rw (one, s.never line more other clean is) refl;
  }

  pub then_law : LinesLaw texts oks (joined f g) F (then_lines a b)
  then_law = record {
    same = then_same a b f g l.same m.same;
    whole = λ x k. whole_on (t x.0) (u x.1) (l.whole x.0 k.0) (m.whole x.1 k.1);
    passes = λ bytes z e.
        let x = ok_parts (a bytes) (λ x. go_on (b x.1) (λ y. Ok ((x.0, y.0), y.1))) z e in
        let y = ok_parts (b x.0.1) (λ y. Ok ((x.0.0, y.0), y.1)) z x.2 in
        subst (Passes (joined f g) texts oks bytes) (same_ok ((x.0.0, y.0.0), y.0.1) z y.2) (both_pass bytes x.0 y.0 (l.passes bytes x.0 x.1) (m.passes x.0.1 y.0 y.1));
    stops = λ bytes left e.
        by_cases (err_parts (a bytes) (λ x. go_on (b x.1) (λ y. Ok ((x.0, y.0), y.1))) left e)
        (λ e. first_stops bytes left (l.stops bytes left e))
        (λ x. by_cases (err_parts (b x.0.1) (λ y. Ok ((x.0.0, y.0), y.1)) left x.2)
        (λ e. second_stops bytes left x.0 (l.passes bytes x.0 x.1) (m.stops x.0.1 left e))
        (λ y. absurd (ok_no_err ((x.0.0, y.0.0), y.0.1) left y.2)));
  }

-- ---- other values

module _ {X Y : Type 0} {t : X → List ℕ} {P : X → Type 0} {f : Reader X} {D E : List ℕ → Type 0} {a : Lines X} (l : LinesLaw t P f D a) (make : X → Y) (text : Y → List ℕ) (ok : Y → Type 0)
    (texts : (x : X) → text (make x) ≡ t x) (there : (x : X) → P x → ok (make x)) (wholes : (y : Y) → ok y → AreWhole (text y)) (begun : (s : List ℕ) → D s → E s) where
  abbrev pub made : Lines Y
  made bytes = go_on (a bytes) (λ x. Ok (make x.0, x.1))

  made_passes : (bytes : List ℕ) (x : X × List ℕ) → Passes f t P bytes x → Passes (read_as make f) text ok bytes (make x.0, x.1)
  made_passes bytes x r = record {
    good = there x.0 r.good;
    is = r.is ∙ ap (λ (e : List ℕ). e ++ x.1) (sym (texts x.0));
    again = λ line more other is.
        ap (λ (e : List ℕ). read_as make f (e ++ (line ++ 10 ∷ other))) (texts x.0) ∙ ap (λ (o : Option (X × List ℕ)). o >>= λ y. Some (make y.0, y.1)) (r.again line more other is);
  }

  made_stops : (bytes : List ℕ) (left : ℕ) → Stops f D bytes left → Stops (read_as make f) E bytes left
  made_stops bytes left s = record {
    before = s.before;
    rest = s.rest;
    is = s.is;
    count = s.count;
    whole = s.whole;
    begun = begun s.before s.begun;
    never = λ line more other clean is. ap (λ (o : Option (X × List ℕ)). o >>= λ y. Some (make y.0, y.1)) (s.never line more other clean is);
  }

  pub made_law : LinesLaw text ok (read_as make f) E made
  made_law = record {
    same = λ bytes. same_bind (a bytes) (f bytes) (λ x. Ok (make x.0, x.1)) (λ x. Some (make x.0, x.1)) (l.same bytes) (λ x. refl);
    whole = wholes;
    passes = λ bytes y e.
        let x = ok_parts (a bytes) (λ x. Ok (make x.0, x.1)) y e in
        subst (Passes (read_as make f) text ok bytes) (same_ok (make x.0.0, x.0.1) y x.2) (made_passes bytes x.0 (l.passes bytes x.0 x.1));
    stops = λ bytes left e.
        by_cases (err_parts (a bytes) (λ x. Ok (make x.0, x.1)) left e) (λ e. made_stops bytes left (l.stops bytes left e)) (λ x. absurd (ok_no_err (make x.0.0, x.0.1) left x.2));
  }
