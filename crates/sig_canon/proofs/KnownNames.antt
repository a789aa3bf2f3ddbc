-- The names that a reader knows, and what it gives for them.
use Rattle.std.proofs.Common.{◌≡◌, ◌≢◌, ℕ, zero, suc, ◌<◌, Bool, true, false, cond, List, [], ◌∷◌, length, map, position, refl, ap, ◌∙◌, arith}
use Rattle.std.specs.Prelude.{All, Option, Some, option_map, ok_or, Ok}
use Rattle.std.specs.Str.{bytes_eq}
use Rattle.std.proofs.lemmas.List.Elements.{All-head, All-tail}
use Rattle.std.proofs.lemmas.List.{length-map}
use Rattle.std.proofs.lemmas.Slice.Eq.{bytes_eq-Decides}
use Rattle.sig_program.specs.declared.label.Label.{Label}
use Rattle.sig_program.specs.Scripts.{Declared, Program}
use Rattle.sig_tokens.specs.declared.fault.FaultKind.TheVariants.{UnknownProcess, UnknownLabel}
use Rattle.sig_tokens.specs.declared.known.Known.{Known}
use Rattle.sig_tokens.specs.declared.known.Known.TheVariants.{Any, Among}
use Rattle.sig_tokens.specs.Tokens.{IsNameToken}
use Rattle.sig_tokens.specs.Names.{pid_of, labels_at, label_of}
use Rattle.sig_tokens.proofs.PlaceLemmas.{next, position-cons}
use Rattle.sig_reader.proofs.Seen.{kept, zeroed}
use Rattle.sig_canon.specs.ScriptText.{name_of_place, names_of}
use Rattle.sig_canon.specs.ReadableScript.{AreDistinct}

-- The processes and the labels of a process have these names, and a reader that knows so much gives the pids of the processes as
-- f says, and the places of the labels as g says.
pub record Reads (known : Known) (here : ℕ) (names labels : List (List ℕ)) (f g : ℕ → ℕ) : Type 0 where
  pub pids : (pid : ℕ) → pid < length names → IsNameToken (name_of_place names pid) × (pid_of known (name_of_place names pid) ≡ Ok (f pid))
  pub places : (n : ℕ) → n < length labels → IsNameToken (name_of_place labels n) × (label_of known here (name_of_place labels n) ≡ Ok (g n))

-- each place of names that are name tokens has one
named_at : (names : List (List ℕ)) (n : ℕ) → All IsNameToken names → n < length names → IsNameToken (name_of_place names n)
named_at [] n named lt = absurd (omega arith)
named_at (x ∷ xs) zero named lt = All-head IsNameToken x xs named
named_at (x ∷ xs) (suc n) named lt = named_at xs n (All-tail IsNameToken x xs named) (omega arith)

-- the first walk
pub any_reads : (here : ℕ) (names labels : List (List ℕ)) → All IsNameToken names → All IsNameToken labels → Reads Any here names labels zeroed zeroed
any_reads here names labels named tagged = record {
  pids = λ pid lt. (named_at names pid named lt, refl);
  places = λ n lt. (named_at labels n tagged lt, refl);
}

other_at : (name : List ℕ) (names : List (List ℕ)) (n : ℕ) → All (λ other. name ≢ other) names → n < length names → name ≢ name_of_place names n
other_at name [] n others lt = absurd (omega arith)
other_at name (x ∷ xs) zero others lt = All-head (λ other. name ≢ other) x xs others
other_at name (x ∷ xs) (suc n) others lt = other_at name xs n (All-tail (λ other. name ≢ other) x xs others) (omega arith)

differs : (a b : List ℕ) (v : Bool) → bytes_eq a b ≡ v → a ≢ b → v ≡ false
differs a b true h other = absurd (other ((bytes_eq-Decides a b).0 h))
differs a b false h other = refl

-- the n-th of distinct names stands at place n
pub place_found : {A : Type 0} (name_of : A → List ℕ) (xs : List A) (n : ℕ) → AreDistinct (map name_of xs) → n < length xs → position (λ x. bytes_eq (name_of x) (name_of_place (map name_of xs) n)) xs ≡ Some n
place_found name_of [] n distinct lt = absurd (omega arith)
place_found name_of (x ∷ xs) zero distinct lt =
    position-cons (λ y. bytes_eq (name_of y) (name_of x)) x xs
    ∙ ap (λ (v : Bool). cond v (Some 0) (option_map next (position (λ y. bytes_eq (name_of y) (name_of x)) xs))) ((bytes_eq-Decides (name_of x) (name_of x)).1 refl)
place_found name_of (x ∷ xs) (suc n) (AreDistinct.more others distinct) lt =
    let name : List ℕ = name_of_place (map name_of xs) n in
    let far : n < length xs = omega arith in
    let other = other_at (name_of x) (map name_of xs) n others (omega (arith, length-map xs name_of)) in
    position-cons (λ y. bytes_eq (name_of y) name) x xs
    ∙ ap (λ (v : Bool). cond v (Some 0) (option_map next (position (λ y. bytes_eq (name_of y) name) xs))) (differs (name_of x) name (bytes_eq (name_of x) name) refl other)
    ∙ ap (option_map next) (place_found name_of xs n distinct far)
    ∙ ap (λ (k : ℕ). Some k) (omega arith)

-- the second walk, among the processes of the script t
pub among_reads : (t : Program) (here : ℕ) (labels : List Label) → All IsNameToken (names_of t.procs) → AreDistinct (names_of t.procs) → labels_at here t.procs ≡ labels →
    All IsNameToken (map (λ (l : Label). l.name) labels) → AreDistinct (map (λ (l : Label). l.name) labels) → Reads (Among t) here (names_of t.procs) (map (λ (l : Label). l.name) labels) kept kept
among_reads t here labels named distinct there tagged apart = record {
  pids = λ pid lt.
      let below : pid < length t.procs = omega (arith, length-map t.procs (λ (p : Declared). p.name)) in
      (named_at (names_of t.procs) pid named lt, ap (λ (o : Option ℕ). ok_or o UnknownProcess) (place_found (λ (p : Declared). p.name) t.procs pid distinct below));
  places = λ n lt.
      let below : n < length labels = omega (arith, length-map labels (λ (l : Label). l.name)) in
      let names : List (List ℕ) = map (λ (l : Label). l.name) labels in (
        named_at names n tagged lt,
        ap (λ (ls : List Label). ok_or (position (λ (l : Label). bytes_eq l.name (name_of_place names n)) ls) UnknownLabel) there
            ∙ ap (λ (o : Option ℕ). ok_or o UnknownLabel) (place_found (λ (l : Label). l.name) labels n apart below),
      );
}
