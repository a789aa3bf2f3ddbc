-- Lists of outcomes with one text are one, with `all` or with `more`.
use Rattle.std.proofs.Common.{◌≡◌, ℕ, zero, suc, ◌+◌, ◌/◌, ◌%◌, ◌≤◌, Bool, true, false, List, [], ◌∷◌, ◌++◌, length, if◌then◌else◌, refl, sym, ap, ◌∙◌, subst, arith, append_assoc}
use Rattle.std.specs.Prelude.{All, codes, decimal, ◌==◌, nat_lt}
use Rattle.std.specs.Fmt.{digit_glyph, digits, digits_onto}
use Rattle.std.proofs.lemmas.List.Elements.{All-head, All-tail, All-weaker}
use Rattle.sig_program.specs.Scripts.{Program}
use Rattle.sig_outcomes.specs.Outcomes.{Rest}
use Rattle.sig_view.specs.Outcomes.{AreListed, IsTold}
use Rattle.sig_view.specs.OutcomeText.{extent_text, first_line, names_of, number_line, outcomes_from, outcomes_text, rests_text}
use Rattle.sig_view.proofs.RestReads.{behind_alike, IsReadableRest, NoProcess, one_front, readable_told}
use Rattle.sig_view.proofs.OutcomeLemmas.{few_told}

-- ---- the first line

-- no byte is a space
NoSpace : List ℕ → Type 0
NoSpace [] = Unit {0}
NoSpace (b ∷ ys) = (b ≡ 32 → ⊥) × NoSpace ys

abbrev first_byte : List ℕ → ℕ
first_byte [] = 0
first_byte (b ∷ ys) = b

abbrev rest_of : List ℕ → List ℕ
rest_of [] = []
rest_of (b ∷ ys) = ys

-- behind the first space two such texts go on alike
behind_spaces : (xs ys more other : List ℕ) → NoSpace xs → NoSpace ys → xs ++ (32 ∷ more) ≡ ys ++ (32 ∷ other) → more ≡ other
unfolding NoSpace
behind_spaces [] [] more other h k same = ap rest_of same
behind_spaces [] (y ∷ ys) more other h k same = absurd (k.0 (sym (ap first_byte same)))
behind_spaces (x ∷ xs) [] more other h k same = absurd (h.0 (ap first_byte same))
behind_spaces (x ∷ xs) (y ∷ ys) more other h k same = behind_spaces xs ys more other h.1 k.1 (ap rest_of same)

glyph_no_space : (d : ℕ) → digit_glyph false d ≡ 32 → ⊥
glyph_no_space d is = by (nat_lt d 10) is
  where
    by : (b : Bool) → (if b then 48 + d else 87 + d) ≡ 32 → ⊥
    by true is = omega (arith, is)
    by false is = omega (arith, is)

either_no_space : (b : Bool) (xs ys : List ℕ) → NoSpace xs → NoSpace ys → NoSpace (if b then xs else ys)
either_no_space true xs ys h k = h
either_no_space false xs ys h k = k

digits_no_space : (k n : ℕ) (acc : List ℕ) → NoSpace acc → NoSpace (digits_onto k 10 false n acc)
unfolding NoSpace
digits_no_space zero n acc h = h
digits_no_space (suc k) n acc h =
    let more : List ℕ = digit_glyph false (n % 10) ∷ acc in
    let ok : NoSpace more = (glyph_no_space (n % 10), h) in
    either_no_space (n / 10 == 0) more (digits_onto k 10 false (n / 10) more) ok (digits_no_space k (n / 10) more ok)

decimal_no_space : (n : ℕ) → NoSpace (decimal n)
unfolding NoSpace digits
decimal_no_space n = digits_no_space 64 n [] tt

line_opened : (n : ℕ) (all : Bool) (more : List ℕ) → first_line n all ++ more ≡ codes "outcomes " ++ (decimal n ++ (extent_text all ++ more))
line_opened n all more = append_assoc (codes "outcomes " ++ decimal n) (extent_text all) more ∙ append_assoc (codes "outcomes ") (decimal n) (extent_text all ++ more)

-- behind bytes without a space: the same word, and what is behind it
one_extent : (xs ys : List ℕ) (all whole : Bool) (more other : List ℕ) → NoSpace xs → NoSpace ys → xs ++ (extent_text all ++ more) ≡ ys ++ (extent_text whole ++ other)
    → (all ≡ whole) × (more ≡ other)
one_extent xs ys true true more other h k same =
    (refl, behind_alike (codes "all\n") more other (behind_spaces xs ys (codes "all\n" ++ more) (codes "all\n" ++ other) h k same))
one_extent xs ys true false more other h k same =
    let first : 97 ≡ 109 = ap first_byte (behind_spaces xs ys (codes "all\n" ++ more) (codes "more\n" ++ other) h k same) in absurd (let f : ⊥ = omega (arith, first) in f)
one_extent xs ys false true more other h k same =
    let first : 109 ≡ 97 = ap first_byte (behind_spaces xs ys (codes "more\n" ++ more) (codes "all\n" ++ other) h k same) in absurd (let f : ⊥ = omega (arith, first) in f)
one_extent xs ys false false more other h k same =
    (refl, behind_alike (codes "more\n") more other (behind_spaces xs ys (codes "more\n" ++ more) (codes "more\n" ++ other) h k same))

-- two texts that begin by such a line say the same in it, but for the count, and go on alike
one_line : (n m : ℕ) (all whole : Bool) (more other : List ℕ) → first_line n all ++ more ≡ first_line m whole ++ other → (all ≡ whole) × (more ≡ other)
one_line n m all whole more other same =
    one_extent (decimal n) (decimal m) all whole more other (decimal_no_space n) (decimal_no_space m)
    (behind_alike (codes "outcomes ") (decimal n ++ (extent_text all ++ more)) (decimal m ++ (extent_text whole ++ other)) (sym (line_opened n all more) ∙ same ∙ line_opened m whole other))

-- ---- the outcomes

-- an outcome that can be read, of no more than these processes
abbrev IsFitting : List (List ℕ) → List Rest → Type 0
IsFitting names outcome = (length outcome ≤ length names) × All IsReadableRest outcome

no_process : (names : List (List ℕ)) (number : ℕ) (outcomes : List (List Rest)) → NoProcess (outcomes_from number names outcomes)
no_process names number [] = refl
no_process names number (o ∷ os) = refl

not_nothing : (number : ℕ) (more : List ℕ) → [] ≡ number_line number ++ more → ⊥
not_nothing number more same = absurd cc

alike : (names : List (List ℕ)) (number : ℕ) (xs ys : List (List Rest)) → All (IsFitting names) xs → All (IsFitting names) ys
    → outcomes_from number names xs ≡ outcomes_from number names ys → xs ≡ ys
alike names number [] [] fa fb same = refl
alike names number [] (b ∷ ys) fa fb same =
    absurd (not_nothing number (rests_text 0 names b ++ outcomes_from (number + 1) names ys)
    (same ∙ append_assoc (number_line number) (rests_text 0 names b) (outcomes_from (number + 1) names ys)))
alike names number (a ∷ xs) [] fa fb same =
    absurd (not_nothing number (rests_text 0 names a ++ outcomes_from (number + 1) names xs)
    (sym same ∙ append_assoc (number_line number) (rests_text 0 names a) (outcomes_from (number + 1) names xs)))
alike names number (a ∷ xs) (b ∷ ys) fa fb same =
    let line : List ℕ = number_line number in
    let more : List ℕ = outcomes_from (number + 1) names xs in
    let other : List ℕ = outcomes_from (number + 1) names ys in
    let behind : rests_text 0 names a ++ more ≡ rests_text 0 names b ++ other =
    behind_alike line (rests_text 0 names a ++ more) (rests_text 0 names b ++ other)
    (sym (append_assoc line (rests_text 0 names a) more) ∙ same ∙ append_assoc line (rests_text 0 names b) other) in
    let own : IsFitting names a = All-head (IsFitting names) a xs fa in
    let its : IsFitting names b = All-head (IsFitting names) b ys fb in
    let both : (a ≡ b) × (more ≡ other) =
    one_front 0 names a b more other own.0 its.0 own.1 its.1 (no_process names (number + 1) xs) (no_process names (number + 1) ys) behind in
    let later : xs ≡ ys = alike names (number + 1) xs ys (All-tail (IsFitting names) a xs fa) (All-tail (IsFitting names) b ys fb) both.1 in
    ap (λ (o : List Rest). o ∷ xs) both.0 ∙ ap (λ (os : List (List Rest)). b ∷ os) later

-- ---- lists

module _ (script : Program) where
  fitting : (outcome : List Rest) → IsTold script outcome → IsFitting (names_of script) outcome
  fitting outcome h =
      subst (IsFitting (names_of script)) (sym h.told) (few_told script h.reports h.settled, readable_told h.reports h.stored h.sized)

  pub one_by_text : (most other : ℕ) (outcomes listed : List (List Rest)) (states met : ℕ) (all whole : Bool) → AreListed script most outcomes states all
      → AreListed script other listed met whole → outcomes_text (names_of script) outcomes all ≡ outcomes_text (names_of script) listed whole → (outcomes ≡ listed) × (all ≡ whole)
  one_by_text most other outcomes listed states met all whole h k same =
      let names : List (List ℕ) = names_of script in
      let both : (all ≡ whole) × (outcomes_from 1 names outcomes ≡ outcomes_from 1 names listed) =
      one_line (length outcomes) (length listed) all whole (outcomes_from 1 names outcomes) (outcomes_from 1 names listed) same in
      (alike names 1 outcomes listed (All-weaker (IsTold script) (IsFitting names) fitting outcomes h.told) (All-weaker (IsTold script) (IsFitting names) fitting listed k.told) both.1, both.0)
