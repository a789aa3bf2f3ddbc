-- Pieces that are told one after another; and what was written whatever came of it.
use Rattle.std.proofs.Common.{◌≡◌, ℕ, ◌+◌, ◌<◌, List, [], ◌∷◌, ◌++◌, length, get_or, take, drop, Option, Result, Ok, Err, refl, sym, ap, ◌∙◌, subst, arith, append_assoc, inl, inr}
use Rattle.std.specs.List.{flat_map}
use Rattle.std.proofs.lemmas.List.{take-append-drop, take_all, take_at, take_more, append-nil}
use Rattle.std.proofs.lemmas.Grind.{flat_map-append}
use Rattle.std.specs.Prelude.{IsErr}
use Rattle.sig_base.specs.Flow.{one_more as after_one_more, Rose, Adds}
use Rattle.sig_base.proofs.Faults.{risen}
use Rattle.sig_base.proofs.Pieces.{Adds-more}
use Rattle.sig_edge.specs.Streams.{writing}
use Rattle.sig_edge.specs.Told.{AddsBeginning, FailedOnceAtMost, IsTold}

module _ {X : Type 0} (text : X → List ℕ) (pieces : List X) (i : ℕ) (d : X) (lt : i < length pieces) where
  -- the texts so far, and that of one piece more
  one_more : flat_map text (take (i + 1) pieces) ≡ flat_map text (take i pieces) ++ text (get_or pieces i d)
  one_more =
      ap (flat_map text) (take_more pieces i d lt)
      ∙ flat_map-append text (take i pieces) (get_or pieces i d ∷ [])
      ∙ ap (λ (xs : List ℕ). flat_map text (take i pieces) ++ xs) (append-nil (text (get_or pieces i d)))

  -- all texts: those so far, that of one piece more, and the others
  whole : flat_map text pieces ≡ (flat_map text (take i pieces) ++ text (get_or pieces i d)) ++ flat_map text (drop (i + 1) pieces)
  whole =
      ap (flat_map text) (sym (take-append-drop (i + 1) pieces))
      ∙ flat_map-append text (take (i + 1) pieces) (drop (i + 1) pieces)
      ∙ ap (λ (xs : List ℕ). xs ++ flat_map text (drop (i + 1) pieces)) one_more

  -- the texts so far and the beginning of that of one piece more are the beginning of all texts
  beginning : (n : ℕ) → (m : ℕ) × (flat_map text (take i pieces) ++ take n (text (get_or pieces i d)) ≡ take m (flat_map text pieces))
  beginning n =
      let done : List ℕ = flat_map text (take i pieces) in
      let piece : List ℕ = text (get_or pieces i d) in
      let rest : List ℕ = flat_map text (drop (i + 1) pieces) in
      let part : List ℕ = done ++ take n piece in
      let all : flat_map text pieces ≡ part ++ (drop n piece ++ rest) =
      whole ∙ ap (λ (xs : List ℕ). (done ++ xs) ++ rest) (sym (take-append-drop n piece))
      ∙ ap (λ (xs : List ℕ). xs ++ rest) (sym (append_assoc done (take n piece) (drop n piece)))
      ∙ append_assoc part (drop n piece) rest in
      (length part, sym (ap (take (length part)) all ∙ take_at part (drop n piece ++ rest) (length part) refl))

  -- the piece is broken off, and so are all
  pub broken_off : {T E : Type 0} (a b c : Option (List ℕ)) (first last end n : ℕ) (r : Result T E) → IsErr r → Adds a b (flat_map text (take i pieces)) → last ≡ first
      → end ≡ after_one_more last → Adds b c (take n (text (get_or pieces i d))) → IsTold (writing a c first end) (flat_map text pieces) r
  broken_off a b c first last end n (Ok t) failed h same fault more = absurd (cc)
  broken_off a b c first last end n (Err e) failed h same fault more =
      let begin = beginning n in (
        fault ∙ ap after_one_more same,
        (
          begin.0,
          subst (Adds a c) begin.1 (Adds-more a b c (flat_map text (take i pieces)) (take n (text (get_or pieces i d))) h more),
        ),
      )

-- whatever came of it, the beginning of the text was written
pub begun : {T E : Type 0} (a b : Option (List ℕ)) (before after : ℕ) (text : List ℕ) (r : Result T E) → IsTold (writing a b before after) text r → AddsBeginning a b text
begun a b before after text (Ok t) h = (length text, subst (Adds a b) (sym (take_all (length text) text (omega arith))) h.0)
begun a b before after text (Err e) h = h.1

-- where no write failed, the whole text was written
pub said : {T E : Type 0} (a b : Option (List ℕ)) (before after : ℕ) (text : List ℕ) (r : Result T E) → IsTold (writing a b before after) text r
    → (Rose before after → ⊥) → Adds a b text
said a b before after text (Ok t) h none = h.0
said a b before after text (Err e) h none = absurd (none (risen before after h.0))

-- whatever came of it, at most one write failed
pub once_at_most : {T E : Type 0} (a b : Option (List ℕ)) (before after : ℕ) (text : List ℕ) (r : Result T E) → IsTold (writing a b before after) text r
    → FailedOnceAtMost (writing a b before after)
once_at_most a b before after text (Ok t) h = inl h.1
once_at_most a b before after text (Err e) h = inr h.0
