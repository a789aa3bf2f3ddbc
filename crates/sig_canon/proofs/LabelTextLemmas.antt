-- The lines of a process from a place on, where its labels' places never fall.
use Rattle.std.proofs.Common.{◌≡◌, ℕ, ◌+◌, ◌<◌, ◌≤◌, List, [], ◌∷◌, ◌++◌, map, cond, All, Bool, true, false, ◌==◌, nat_le, refl, sym, ap, ◌∙◌, subst, arith, append_assoc, append-nil}
use Rattle.std.specs.List.{flat_map}
use Rattle.std.proofs.lemmas.Bool.Decides.{nat_tests}
use Rattle.std.proofs.lemmas.List.Elements.{All-cons, All-head, All-tail, All-weaker, All-filter, filter_passes}
use Rattle.std.proofs.lemmas.Grind.{flat_map-append}
use Rattle.sig_program.specs.declared.label.Label.{Label}
use Rattle.sig_program.specs.declared.instruction.Instr.{Instr}
use Rattle.sig_program.specs.Scripts.{AreRising}
use Rattle.sig_canon.specs.ScriptText.{labels_there, label_line, instr_lines, placed_lines, line_text}
use Rattle.sig_canon.specs.Printing.{labels_from}

-- each label is at the place or behind it
abbrev AreBehind : ℕ → List Label → Type 0
AreBehind place = All (λ (l : Label). place ≤ l.place)

passes : (place n : ℕ) → place ≤ n → nat_le place n ≡ true
passes place n le = grind (arith, nat_tests)

passed : (place n : ℕ) → nat_le place n ≡ true → place ≤ n
passed place n e = grind (arith, nat_tests)

fails : (place n : ℕ) → n < place → nat_le place n ≡ false
fails place n lt = grind (arith, nat_tests)

not_there : (place n : ℕ) → place < n → (n == place) ≡ false
not_there place n lt = grind (arith, nat_tests)

before : (place n : ℕ) → nat_le place n ≡ false → (n == place) ≡ false
before place n e = grind (arith, nat_tests)

later : (place n : ℕ) → nat_le place n ≡ false → nat_le (place + 1) n ≡ false
later place n e = grind (arith, nat_tests)

other : (place n : ℕ) → place ≤ n → (n == place) ≡ false → place < n
other place n le e = grind (arith, nat_tests)

same : (place n : ℕ) → (n == place) ≡ true → n ≡ place
same place n e = grind (arith, nat_tests)

-- all of them
pub all_from : (place : ℕ) (ls : List Label) → AreBehind place ls → labels_from place ls ≡ ls
all_from place [] h = refl
all_from place (l ∷ ls) h =
    rw (passes place l.place (All-head (λ (m : Label). place ≤ m.place) l ls h)) (ap (λ (ms : List Label). l ∷ ms) (all_from place ls (All-tail (λ (m : Label). place ≤ m.place) l ls h)))

-- none stands at the place before them
none_there : (place : ℕ) (ls : List Label) → AreBehind (place + 1) ls → labels_there ls place ≡ []
none_there place [] h = refl
none_there place (l ∷ ls) h =
    let le : place + 1 ≤ l.place = All-head (λ (m : Label). place + 1 ≤ m.place) l ls h in
    let lt : place < l.place = omega (arith, le) in
    rw (not_there place l.place lt) (none_there place ls (All-tail (λ (m : Label). place + 1 ≤ m.place) l ls h))

pub from_behind : (place : ℕ) (ls : List Label) → AreBehind place (labels_from place ls)
from_behind place ls =
    All-weaker (λ (l : Label). nat_le place l.place ≡ true) (λ (l : Label). place ≤ l.place) (λ l e. passed place l.place e) (labels_from place ls)
    (filter_passes (λ (l : Label). nat_le place l.place) ls)

rising-if : (b : Bool) (l : Label) (ls : List Label) → AreBehind l.place ls → AreRising ls → AreRising (cond b (l ∷ ls) ls)
rising-if true l ls least h = AreRising.more least h
rising-if false l ls least h = h

pub from_rising : (place : ℕ) (ls : List Label) → AreRising ls → AreRising (labels_from place ls)
from_rising place [] h = AreRising.none
from_rising place (l ∷ ls) (AreRising.more least rest) =
    rising-if (nat_le place l.place) l (labels_from place ls) (All-filter (λ (m : Label). nat_le place m.place) (λ (m : Label). l.place ≤ m.place) ls least) (from_rising place ls rest)

lines-if : (b : Bool) (l : Label) (us vs : List Label) → map label_line us ≡ map label_line vs → map label_line (cond b (l ∷ us) us) ≡ map label_line (cond b (l ∷ vs) vs)
lines-if true l us vs e = ap (λ (ls : List (List ℕ)). label_line l ∷ ls) e
lines-if false l us vs e = e

-- those at a place are among those from it on
there-if : (b : Bool) (place : ℕ) (l : Label) (ls ms : List Label) → (b ≡ false → (l.place == place) ≡ false) → labels_there ms place ≡ labels_there ls place →
    labels_there (cond b (l ∷ ms) ms) place ≡ labels_there (l ∷ ls) place
there-if true place l ls ms f e = lines-if (l.place == place) l _ _ e
there-if false place l ls ms f e = rw (f refl) e

pub from_there : (place : ℕ) (ls : List Label) → labels_there (labels_from place ls) place ≡ labels_there ls place
from_there place [] = refl
from_there place (l ∷ ls) = there-if (nat_le place l.place) place l ls (labels_from place ls) (λ e. before place l.place e) (from_there place ls)

-- those from the next place on are among those from this one
next-if : (b : Bool) (place : ℕ) (l : Label) (ls ms : List Label) → (b ≡ false → nat_le (place + 1) l.place ≡ false) → labels_from (place + 1) ms ≡ labels_from (place + 1) ls →
    labels_from (place + 1) (cond b (l ∷ ms) ms) ≡ labels_from (place + 1) (l ∷ ls)
next-if true place l ls ms f e = ap (λ (xs : List Label). cond (nat_le (place + 1) l.place) (l ∷ xs) xs) e
next-if false place l ls ms f e = rw (f refl) e

pub from_next : (place : ℕ) (ls : List Label) → labels_from (place + 1) (labels_from place ls) ≡ labels_from (place + 1) ls
from_next place [] = refl
from_next place (l ∷ ls) = next-if (nat_le place l.place) place l ls (labels_from place ls) (λ e. later place l.place e) (from_next place ls)

least-of : (l : Label) (ls : List Label) → AreRising (l ∷ ls) → AreBehind l.place ls
least-of l ls (AreRising.more least rest) = least

rest-of : (l : Label) (ls : List Label) → AreRising (l ∷ ls) → AreRising ls
rest-of l ls (AreRising.more least rest) = rest

behind-all : (place : ℕ) (l : Label) (ls : List Label) → place < l.place → AreRising (l ∷ ls) → AreBehind (place + 1) (l ∷ ls)
behind-all place l ls lt h =
    let le : place + 1 ≤ l.place = omega (arith, lt) in
    All-cons (λ (m : Label). place + 1 ≤ m.place) l ls le (All-weaker (λ (m : Label). l.place ≤ m.place) (λ (m : Label). place + 1 ≤ m.place) (λ m k. omega (arith, k, le)) ls (least-of l ls h))

-- the first label is behind the place, and so are all
pub stop_behind : (place : ℕ) (xs ls : List Label) (l : Label) → xs ≡ l ∷ ls → (l.place == place) ≡ false → AreRising xs → AreBehind place xs → AreBehind (place + 1) xs
stop_behind place xs ls l is e h below =
    let le : place ≤ l.place = All-head (λ (m : Label). place ≤ m.place) l ls (subst (AreBehind place) is below) in
    subst (AreBehind (place + 1)) (sym is) (behind-all place l ls (other place l.place le e) (subst AreRising is h))

pub stop_from : (place : ℕ) (xs : List Label) → AreBehind (place + 1) xs → xs ≡ labels_from (place + 1) xs
stop_from place xs h = sym (all_from (place + 1) xs h)

pub stop_text : (place : ℕ) (xs : List Label) (into whole : List ℕ) → AreBehind (place + 1) xs → into ++ flat_map line_text (labels_there xs place) ≡ whole → into ≡ whole
stop_text place xs into whole h e = sym (append-nil into) ∙ ap (λ (ls : List (List ℕ)). into ++ flat_map line_text ls) (sym (none_there place xs h)) ∙ e

-- the first label is at the place
pub step_text : (place : ℕ) (xs ls : List Label) (l : Label) (into more whole : List ℕ) → xs ≡ l ∷ ls → (l.place == place) ≡ true → more ≡ into ++ line_text (label_line l) →
    into ++ flat_map line_text (labels_there xs place) ≡ whole → more ++ flat_map line_text (labels_there ls place) ≡ whole
step_text place xs ls l into more whole first e put is =
    let lines : labels_there (l ∷ ls) place ≡ label_line l ∷ labels_there ls place = rw e refl in
    ap (λ (xs : List ℕ). xs ++ flat_map line_text (labels_there ls place)) put ∙ append_assoc into (line_text (label_line l)) (flat_map line_text (labels_there ls place))
    ∙ ap (λ (xs : List (List ℕ)). into ++ flat_map line_text xs) (sym lines)
    ∙ ap (λ (ls : List Label). into ++ flat_map line_text (labels_there ls place)) (sym first) ∙ is

pub step_from : (place : ℕ) (xs ls : List Label) (l : Label) → xs ≡ l ∷ ls → (l.place == place) ≡ true → labels_from (place + 1) xs ≡ labels_from (place + 1) ls
step_from place xs ls l is e =
    let lt : l.place < place + 1 = omega (arith, same place l.place e) in
    let one : labels_from (place + 1) (l ∷ ls) ≡ labels_from (place + 1) ls = rw (fails (place + 1) l.place lt) refl in
    ap (labels_from (place + 1)) is ∙ one

pub step_rising : (xs ls : List Label) (l : Label) → xs ≡ l ∷ ls → AreRising xs → AreRising ls
step_rising xs ls l is h = rest-of l ls (subst AreRising is h)

pub step_behind : (place : ℕ) (xs ls : List Label) (l : Label) → xs ≡ l ∷ ls → AreBehind place xs → AreBehind place ls
step_behind place xs ls l is h = All-tail (λ (m : Label). place ≤ m.place) l ls (subst (AreBehind place) is h)

-- an instruction more
pub placed_step : (names : List (List ℕ)) (labels rest : List Label) (place : ℕ) (all is : List Instr) (i : Instr) (a b c whole : List ℕ) → all ≡ i ∷ is →
    rest ≡ labels_from place labels → b ≡ a ++ flat_map line_text (labels_there rest place) → c ≡ b ++ flat_map line_text (instr_lines names (map (λ (l : Label). l.name) labels) i) →
    a ++ flat_map line_text (placed_lines names labels place all) ≡ whole → c ++ flat_map line_text (placed_lines names labels (place + 1) is) ≡ whole
unfolding placed_lines
placed_step names labels rest place all is i a b c whole first from p q e =
    let here : List (List ℕ) = labels_there labels place in
    let own : List (List ℕ) = instr_lines names (map (λ (l : Label). l.name) labels) i in
    let next : List (List ℕ) = placed_lines names labels (place + 1) is in
    let same-labels : labels_there rest place ≡ here = ap (λ (ls : List Label). labels_there ls place) from ∙ from_there place labels in
    let one : flat_map line_text ((here ++ own) ++ next) ≡ (flat_map line_text here ++ flat_map line_text own) ++ flat_map line_text next =
    flat_map-append line_text (here ++ own) next ∙ ap (λ (xs : List ℕ). xs ++ flat_map line_text next) (flat_map-append line_text here own) in
    let b-is : b ≡ a ++ flat_map line_text here = p ∙ ap (λ (ls : List (List ℕ)). a ++ flat_map line_text ls) same-labels in
    let c-is : c ≡ (a ++ flat_map line_text here) ++ flat_map line_text own = q ∙ ap (λ (xs : List ℕ). xs ++ flat_map line_text own) b-is in
    ap (λ (xs : List ℕ). xs ++ flat_map line_text next) (c-is ∙ append_assoc a (flat_map line_text here) (flat_map line_text own))
    ∙ append_assoc a (flat_map line_text here ++ flat_map line_text own) (flat_map line_text next)
    ∙ ap (λ (xs : List ℕ). a ++ xs) (sym one) ∙ ap (λ (xs : List Instr). a ++ flat_map line_text (placed_lines names labels place xs)) (sym first) ∙ e

-- no instruction is left
pub placed_end : (names : List (List ℕ)) (labels rest : List Label) (place : ℕ) (all : List Instr) (a b whole : List ℕ) → all ≡ [] →
    rest ≡ labels_from place labels → b ≡ a ++ flat_map line_text (labels_there rest place) →
    a ++ flat_map line_text (placed_lines names labels place all) ≡ whole → b ≡ whole
unfolding placed_lines
placed_end names labels rest place all a b whole none from p e =
    p ∙ ap (λ (ls : List Label). a ++ flat_map line_text (labels_there ls place)) from ∙ ap (λ (ls : List (List ℕ)). a ++ flat_map line_text ls) (from_there place labels) ∙ ap (λ (xs : List Instr). a ++ flat_map line_text (placed_lines names labels place xs)) (sym none) ∙ e

pub next_from : (place : ℕ) (labels rest next : List Label) → rest ≡ labels_from place labels → next ≡ labels_from (place + 1) rest → next ≡ labels_from (place + 1) labels
next_from place labels rest next p q = q ∙ ap (labels_from (place + 1)) p ∙ from_next place labels

pub rest_rising : (place : ℕ) (labels rest : List Label) → rest ≡ labels_from place labels → AreRising labels → AreRising rest
rest_rising place labels rest e h = subst AreRising (sym e) (from_rising place labels h)

pub rest_behind : (place : ℕ) (labels rest : List Label) → rest ≡ labels_from place labels → AreBehind place rest
rest_behind place labels rest e = subst (AreBehind place) (sym e) (from_behind place labels)
