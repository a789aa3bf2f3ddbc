-- The labels of a process, cut at the places where they stand.
use Rattle.std.proofs.Common.{◌≡◌, ℕ, ◌+◌, ◌<◌, ◌≤◌, List, [], ◌∷◌, ◌++◌, All, Bool, true, false, ◌==◌, refl, ◌∙◌, ap, arith}
use Rattle.std.specs.Prelude.{filter}
use Rattle.std.proofs.lemmas.Bool.Decides.{Decides-eqb, nat_tests}
use Rattle.std.proofs.lemmas.List.{append-nil}
use Rattle.std.proofs.lemmas.List.Elements.{All-nil, All-cons, All-head, All-tail, filter-append}
use Rattle.sig_program.specs.declared.label.Label.{Label}
use Rattle.sig_program.specs.Scripts.{AreRising}
use Rattle.sig_canon.proofs.DistinctLemmas.{rising-first, rising-rest}

abbrev pub StandAt : ℕ → List Label → Type 0
StandAt place ls = All (λ (l : Label). l.place ≡ place) ls

abbrev pub StandFrom : ℕ → List Label → Type 0
StandFrom place ls = All (λ (l : Label). place ≤ l.place) ls

abbrev pub StandBefore : ℕ → List Label → Type 0
StandBefore place ls = All (λ (l : Label). l.place < place) ls

-- the labels from a place on: those at the place, and those behind
pub record IsCut (place : ℕ) (ls : List Label) : Type 0 where
  pub here : List Label
  pub later : List Label
  pub is : ls ≡ here ++ later
  pub at : StandAt place here
  pub from : StandFrom (place + 1) later
  pub rising : AreRising later

all-later : (place : ℕ) (l : Label) (ls : List Label) → place + 1 ≤ l.place → All (λ (other : Label). l.place ≤ other.place) ls → StandFrom (place + 1) ls
all-later place l [] le h = All-nil (λ (l : Label). place + 1 ≤ l.place)
all-later place l (m ∷ ls) le h =
    let first : l.place ≤ m.place = All-head (λ (other : Label). l.place ≤ other.place) m ls h in
    All-cons (λ (l : Label). place + 1 ≤ l.place) m ls (omega arith) (all-later place l ls le (All-tail (λ (other : Label). l.place ≤ other.place) m ls h))

one-cut : (place : ℕ) (l : Label) (ls : List Label) (v : Bool) → (l.place == place) ≡ v → place ≤ l.place → AreRising (l ∷ ls) → IsCut place ls → IsCut place (l ∷ ls)
one-cut place l ls true e le r c = record {
  here = l ∷ c.here;
  later = c.later;
  is = ap (λ (ms : List Label). l ∷ ms) c.is;
  at = All-cons (λ (l : Label). l.place ≡ place) l c.here ((Decides-eqb l.place place).0 e) c.at;
  from = c.from;
  rising = c.rising;
}
one-cut place l ls false e le r c =
    let above : place + 1 ≤ l.place = grind (arith, nat_tests) in
    record {
      here = [];
      later = l ∷ ls;
      is = refl;
      at = All-nil (λ (l : Label). l.place ≡ place);
      from = All-cons (λ (l : Label). place + 1 ≤ l.place) l ls above (all-later place l ls above (rising-first l ls r));
      rising = r;
    }

pub cut_at : (place : ℕ) (ls : List Label) → AreRising ls → StandFrom place ls → IsCut place ls
cut_at place [] r h = record { here = []; later = []; is = refl; at = All-nil (λ (l : Label). l.place ≡ place); from = All-nil (λ (l : Label). place + 1 ≤ l.place); rising = r }
cut_at place (l ∷ ls) r h =
    one-cut place l ls (l.place == place) refl (All-head (λ (l : Label). place ≤ l.place) l ls h) r
    (cut_at place ls (rising-rest l ls r) (All-tail (λ (l : Label). place ≤ l.place) l ls h))

-- the labels that stand at the place are found by the test
abbrev at_place : ℕ → Label → Bool
at_place place l = l.place == place

filter-at : (place : ℕ) (ls : List Label) → StandAt place ls → filter (at_place place) ls ≡ ls
filter-at place [] h = refl
filter-at place (l ∷ ls) h =
    let yes : (l.place == place) ≡ true = (Decides-eqb l.place place).1 (All-head (λ (l : Label). l.place ≡ place) l ls h) in
    rw (yes, filter-at place ls (All-tail (λ (l : Label). l.place ≡ place) l ls h)) refl

before-test : (n place : ℕ) → n < place → (n == place) ≡ false
before-test n place lt = grind (arith, nat_tests)

behind-test : (n place : ℕ) → place + 1 ≤ n → (n == place) ≡ false
behind-test n place le = grind (arith, nat_tests)

filter-before : (place : ℕ) (ls : List Label) → StandBefore place ls → filter (at_place place) ls ≡ []
filter-before place [] h = refl
filter-before place (l ∷ ls) h =
    rw (before-test l.place place (All-head (λ (l : Label). l.place < place) l ls h), filter-before place ls (All-tail (λ (l : Label). l.place < place) l ls h)) refl

filter-from : (place : ℕ) (ls : List Label) → StandFrom (place + 1) ls → filter (at_place place) ls ≡ []
filter-from place [] h = refl
filter-from place (l ∷ ls) h =
    rw (behind-test l.place place (All-head (λ (l : Label). place + 1 ≤ l.place) l ls h), filter-from place ls (All-tail (λ (l : Label). place + 1 ≤ l.place) l ls h)) refl

pub found_there : (place : ℕ) (before here later : List Label) → StandBefore place before → StandAt place here → StandFrom (place + 1) later →
    filter (λ (l : Label). l.place == place) (before ++ (here ++ later)) ≡ here
found_there place before here later b h l =
    filter-append (at_place place) before (here ++ later) ∙ ap (λ (xs : List Label). xs ++ filter (at_place place) (here ++ later)) (filter-before place before b)
    ∙ filter-append (at_place place) here later ∙ ap (λ (xs : List Label). filter (at_place place) here ++ xs) (filter-from place later l)
    ∙ ap (λ (xs : List Label). xs ++ []) (filter-at place here h) ∙ append-nil here

-- no label is behind the last place
pub none_later : (place : ℕ) (ls : List Label) → StandFrom (place + 1) ls → All (λ (l : Label). l.place ≤ place) ls → ls ≡ []
none_later place [] h k = refl
none_later place (l ∷ ls) h k =
    let low : l.place ≤ place = All-head (λ (l : Label). l.place ≤ place) l ls k in
    let high : place + 1 ≤ l.place = All-head (λ (l : Label). place + 1 ≤ l.place) l ls h in
    absurd (omega arith)
