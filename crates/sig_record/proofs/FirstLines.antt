-- What stands in front of the first line feed decides how bytes begin, and whether a line stands there.
use Rattle.std.proofs.Common.{◌≡◌, ℕ, Bool, true, false, List, [], ◌∷◌, ◌++◌, Option, Some, None, refl, sym, ap, subst, ◌∙◌, append_assoc}
use Rattle.std.specs.Prelude.{codes, is_some}
use Rattle.std.specs.List.{list_all}
use Rattle.std.proofs.lemmas.Option.{none-some}
use Rattle.sig_terms.specs.Tokens.{after_text}
use Rattle.sig_terms.proofs.Choices.{both_true}
use Rattle.sig_terms.proofs.TokenTexts.{after_text_is}
use Rattle.sig_record.specs.FaultLine.{is_inline, IsInline}
use Rattle.sig_record.specs.Readers.{Reader}
use Rattle.sig_record.specs.RecordFronts.{begins_by_digit, begins_by}
use Rattle.sig_record.proofs.ReaderLaws.{IsReadAs, Law, Anything, after_again}
use Rattle.sig_record.proofs.TermFronts.{if_some_at}
use Rattle.sig_record.proofs.CleanTexts.{IsLine}

first_of : List ℕ → ℕ
first_of [] = 0
first_of (x ∷ xs) = x

others_of : List ℕ → List ℕ
others_of [] = []
others_of (x ∷ xs) = xs

no_feed : (b : ℕ) → is_inline b ≡ true → b ≡ 10 → ⊥
no_feed b h e = feed_is_none (subst (λ (c : ℕ). is_inline c ≡ true) e h)
  where
    feed_is_none : is_inline 10 ≡ true → ⊥
    feed_is_none h = absurd cc

-- bytes without a line feed that stand in front of one or beyond stand in front of it
record Within (text front : List ℕ) : Type 0 where
  rest : List ℕ
  is : front ≡ text ++ rest

within : (text front more rest : List ℕ) → IsInline text → front ++ 10 ∷ more ≡ text ++ rest → Within text front
unfolding first_of others_of
within [] front more rest clean e = record { rest = front; is = refl }
within (t ∷ ts) [] more rest clean e =
    absurd (no_feed t (both_true (is_inline t) (list_all is_inline ts) clean).0 (sym (ap first_of e)))
within (t ∷ ts) (x ∷ xs) more rest clean e =
    let w = within ts xs more rest (both_true (is_inline t) (list_all is_inline ts) clean).1 (ap others_of e) in
    record { rest = w.rest; is = ap (λ (b : ℕ). b ∷ xs) (ap first_of e) ∙ ap (λ (bs : List ℕ). t ∷ bs) w.is }

-- two lines in front of the same bytes
pub same_line : (a b more rest : List ℕ) → IsInline a → IsInline b → a ++ 10 ∷ more ≡ b ++ 10 ∷ rest → a ≡ b
unfolding first_of others_of
same_line [] [] more rest p q e = refl
same_line [] (y ∷ ys) more rest p q e = absurd (no_feed y (both_true (is_inline y) (list_all is_inline ys) q).0 (sym (ap first_of e)))
same_line (x ∷ xs) [] more rest p q e = absurd (no_feed x (both_true (is_inline x) (list_all is_inline xs) p).0 (ap first_of e))
same_line (x ∷ xs) (y ∷ ys) more rest p q e =
    ap (λ (b : ℕ). b ∷ xs) (ap first_of e)
    ∙ ap (λ (bs : List ℕ). y ∷ bs) (same_line xs ys more rest (both_true (is_inline x) (list_all is_inline xs) p).1 (both_true (is_inline y) (list_all is_inline ys) q).1 (ap others_of e))

-- ---- how bytes begin

-- what stands behind the first line feed counts for nothing
abbrev pub IsByFirstLine : (List ℕ → Bool) → Type 0
IsByFirstLine begins = (front more other : List ℕ) → begins (front ++ 10 ∷ more) ≡ begins (front ++ 10 ∷ other)

pub digit_by_first_line : IsByFirstLine begins_by_digit
digit_by_first_line [] more other = refl
digit_by_first_line (b ∷ bs) more other = refl

both_ways : (p q : Bool) → (p ≡ true → q ≡ true) → (q ≡ true → p ≡ true) → p ≡ q
both_ways true q f g = sym (f refl)
both_ways false true f g = g refl
both_ways false false f g = refl

some_is : {X : Type 0} (o : Option X) → is_some o ≡ true → (x : X) × (o ≡ Some x)
some_is None h = absurd cc
some_is (Some x) h = (x, refl)

begins_again : (text rest : List ℕ) → begins_by text (text ++ rest) ≡ true
begins_again text rest = rw (after_again text rest) refl

begins_here : (text bytes : List ℕ) → begins_by text bytes ≡ true → (rest : List ℕ) × (bytes ≡ text ++ rest)
begins_here text bytes h =
    let x = some_is (after_text text bytes) h in
    (x.0, if_some_at (λ rest. bytes ≡ text ++ rest) (after_text text bytes) x.0 x.1 (after_text_is text bytes))

begins_too : (text front more other : List ℕ) → IsInline text → begins_by text (front ++ 10 ∷ more) ≡ true → begins_by text (front ++ 10 ∷ other) ≡ true
begins_too text front more other clean h =
    let x = begins_here text (front ++ 10 ∷ more) h in
    let w = within text front more x.0 clean x.1 in
    ap (λ (f : List ℕ). begins_by text (f ++ 10 ∷ other)) w.is ∙ ap (begins_by text) (append_assoc text w.rest (10 ∷ other)) ∙ begins_again text (w.rest ++ 10 ∷ other)

pub text_by_first_line : (text : List ℕ) → IsInline text → IsByFirstLine (begins_by text)
text_by_first_line text clean front more other =
    both_ways (begins_by text (front ++ 10 ∷ more)) (begins_by text (front ++ 10 ∷ other)) (begins_too text front more other clean) (begins_too text front other more clean)

-- ---- whether a line stands there

module _ {X : Type 0} {text : X → List ℕ} {ok : X → Type 0} {read : Reader X} (law : Law Anything text ok read) (lines : (x : X) → ok x → IsLine (text x)) where
  line_again : (line more other : List ℕ) (x : X × List ℕ) → IsInline line → IsReadAs text ok (line ++ 10 ∷ other) x → read (line ++ 10 ∷ more) ≡ Some (x.0, more)
  line_again line more other x clean r =
      let l = lines x.0 r.0 in
      let cut : line ++ 10 ∷ other ≡ l.front ++ 10 ∷ x.1 = r.1 ∙ ap (λ (t : List ℕ). t ++ x.1) l.is ∙ append_assoc l.front (codes "\n") x.1 in
      let same : line ≡ l.front = same_line line l.front other x.1 clean l.clean cut in
      let text_is : line ++ 10 ∷ more ≡ text x.0 ++ more = ap (λ (t : List ℕ). t ++ 10 ∷ more) same ∙ sym (append_assoc l.front (codes "\n") more) ∙ ap (λ (t : List ℕ). t ++ more) (sym l.is) in
      ap read text_is ∙ law.again x.0 more r.0 tt

  none_again : (line more other : List ℕ) (o : Option (X × List ℕ)) → IsInline line → read (line ++ 10 ∷ more) ≡ None → read (line ++ 10 ∷ other) ≡ o → o ≡ None
  none_again line more other None clean none e = refl
  none_again line more other (Some x) clean none e =
      absurd (none-some (x.0, more) (sym none ∙ line_again line more other x clean (if_some_at (IsReadAs text ok (line ++ 10 ∷ other)) (read (line ++ 10 ∷ other)) x e (law.found (line ++ 10 ∷ other)))))

  -- where a line can't stand, it can't whatever follows it
  pub no_line_again : (line more other : List ℕ) → IsInline line → read (line ++ 10 ∷ more) ≡ None → read (line ++ 10 ∷ other) ≡ None
  no_line_again line more other clean none = none_again line more other (read (line ++ 10 ∷ other)) clean none refl
