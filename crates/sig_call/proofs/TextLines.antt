-- The lines of the expanded text are the expanded lines.
use Rattle.std.proofs.Common.{◌≡◌, ℕ, suc, ◌+◌, ◌-◌, ◌<◌, ◌≤◌, ◌^◌, ◌==◌, Bool, true, false, not, if◌then◌else◌, List, [], ◌∷◌, ◌++◌, length, take, map, Option, Some, None, Result, Ok, Err, refl, sym, ap, subst, ◌∙◌, append_assoc, append-nil, length-append, arith}
use Rattle.std.specs.Prelude.{IfOk, IfSome, slice_get}
use Rattle.std.specs.Option.{option_map_or}
use Rattle.std.specs.List.{list_all}
use Rattle.std.proofs.Math.Seq.{take-append_seam}
use Rattle.sig_program.specs.declared.version.Version.{Version}
use Rattle.sig_terms.proofs.Choices.{both_true}
use Rattle.sig_tokens.specs.Lines.{lines_of, onto_first}
use Rattle.sig_tokens.specs.Faults.{◌>>=◌, on_ok}
use Rattle.sig_canon.proofs.CleanLines.{AreClean, lines_cut}
use Rattle.sig_canon.proofs.WordTexts.{is_inline}
use Rattle.sig_call.specs.declared.fault.CallError.{CallError}
use Rattle.sig_call.specs.declared.fault.CallFault.{CallFault}
use Rattle.sig_call.specs.CallLine.{CallLine, said_of}
use Rattle.sig_call.specs.Expansion.{Line, LinesStand, at_line, ends_in_feed, expanded, fed, first_line, lines_for, next_call, text_of, version_of}
use Rattle.sig_call.proofs.CleanCalls.{IsInline, IsInlineCall, said_inline, lines_for_clean}

-- the text ends, and not with a line feed
abbrev EndsPlain : List ℕ → Type 0
EndsPlain [] = ⊥
EndsPlain (b ∷ []) = (b == 10) ≡ false
EndsPlain (b ∷ c ∷ bs) = EndsPlain (c ∷ bs)

one_more : (b : ℕ) (bs : List ℕ) → EndsPlain bs → EndsPlain (b ∷ bs)
one_more b [] h = absurd h
one_more b (c ∷ bs) h = h

ends_on : (a b : List ℕ) → EndsPlain b → EndsPlain (a ++ b)
ends_on [] b h = h
ends_on (x ∷ xs) b h = one_more x (xs ++ b) (ends_on xs b h)

is_no_feed : (v : Bool) → not v ≡ true → v ≡ false
is_no_feed true h = absurd cc
is_no_feed false h = refl

inline_ends : (b : ℕ) (bs : List ℕ) → IsInline (b ∷ bs) → EndsPlain (b ∷ bs)
inline_ends b [] h = is_no_feed (b == 10) (both_true (is_inline b) true h).0
inline_ends b (c ∷ bs) h = inline_ends c bs (both_true (is_inline b) (list_all is_inline (c ∷ bs)) h).1

-- a line feed behind it begins no line
lines_more : (bs : List ℕ) → EndsPlain bs → lines_of (bs ++ 10 ∷ []) ≡ lines_of bs
lines_more [] h = absurd h
lines_more (b ∷ []) h = rw h refl
lines_more (b ∷ c ∷ bs) h = ap (λ (ls : List (List ℕ)). if b == 10 then [] ∷ ls else onto_first b ls) (lines_more (c ∷ bs) h)

-- ---- lines of which the last has a byte

abbrev HasByte : List ℕ → Type 0
HasByte [] = ⊥
HasByte (b ∷ bs) = Unit {0}

abbrev LastHas : List (List ℕ) → Type 0
LastHas [] = ⊥
LastHas (line ∷ []) = HasByte line
LastHas (line ∷ next ∷ lines) = LastHas (next ∷ lines)

last_more : (line : List ℕ) (lines : List (List ℕ)) → LastHas lines → LastHas (line ∷ lines)
last_more line [] h = absurd h
last_more line (next ∷ lines) h = h

last_on : (a b : List (List ℕ)) → LastHas b → LastHas (a ++ b)
last_on [] b h = h
last_on (line ∷ lines) b h = last_more line (lines ++ b) (last_on lines b h)

last_onto : (b : ℕ) (lines : List (List ℕ)) → LastHas lines → LastHas (onto_first b lines)
last_onto b [] h = absurd h
last_onto b (line ∷ []) h = tt
last_onto b (line ∷ next ∷ lines) h = h

plain_ends : (line : List ℕ) → HasByte line → IsInline line → EndsPlain line
plain_ends [] has h = absurd has
plain_ends (b ∷ bs) has h = inline_ends b bs h

-- such lines, each with a line feed, are a text that ends without one, and a line feed
fed_ends : (lines : List (List ℕ)) → AreClean lines → LastHas lines → (t : List ℕ) × (fed lines ≡ t ++ 10 ∷ []) × EndsPlain t
fed_ends [] clean h = absurd h
fed_ends (line ∷ []) clean h = (line, append-nil (line ++ 10 ∷ []), plain_ends line h clean.0)
fed_ends (line ∷ next ∷ lines) clean h =
    let r = fed_ends (next ∷ lines) clean.1 h in (
      line ++ 10 ∷ [] ++ r.0,
      ap (λ (x : List ℕ). line ++ 10 ∷ [] ++ x) r.1 ∙ sym (append_assoc (line ++ 10 ∷ []) r.0 (10 ∷ [])),
      ends_on (line ++ 10 ∷ []) r.0 r.2,
    )

but_last : (t : List ℕ) → take (length (t ++ 10 ∷ []) - 1) (t ++ 10 ∷ []) ≡ t
but_last t =
    let n : length (t ++ 10 ∷ []) - 1 ≡ length t = omega (arith, length-append t (10 ∷ [])) in
    ap (λ (m : ℕ). take m (t ++ 10 ∷ [])) n ∙ take-append_seam t (10 ∷ [])

unfed : (lines : List (List ℕ)) → AreClean lines → LastHas lines → lines_of (take (length (fed lines) - 1) (fed lines)) ≡ lines
unfed lines clean h =
    let r = fed_ends lines clean h in
    ap (λ (x : List ℕ). lines_of (take (length x - 1) x)) r.1 ∙ ap lines_of (but_last r.0) ∙ sym (lines_more r.0 r.2) ∙ ap lines_of (sym r.1) ∙ lines_cut lines clean

-- the last of the lines has a byte where no line feed ends the text
abbrev Closes : Bool → List (List ℕ) → Type 0
Closes true lines = Unit {0}
Closes false [] = Unit {0}
Closes false (line ∷ lines) = LastHas (line ∷ lines)

text_stands : (feed : Bool) (lines : List (List ℕ)) → AreClean lines → Closes feed lines → lines_of (text_of feed (fed lines)) ≡ lines
text_stands true lines clean h = lines_cut lines clean
text_stands false [] clean h = refl
text_stands false (line ∷ lines) clean h = unfed (line ∷ lines) clean h

-- ---- the given lines

onto_clean : (b : ℕ) (lines : List (List ℕ)) → (b == 10) ≡ false → AreClean lines → AreClean (onto_first b lines)
onto_clean b [] h clean = (rw h refl, tt)
onto_clean b (line ∷ lines) h clean = (rw h clean.0, clean.1)

byte_clean : (b : ℕ) (lines : List (List ℕ)) (v : Bool) → (b == 10) ≡ v → AreClean lines → AreClean (if v then [] ∷ lines else onto_first b lines)
byte_clean b lines true is clean = (refl, clean)
byte_clean b lines false is clean = onto_clean b lines is clean

given_clean : (bytes : List ℕ) → AreClean (lines_of bytes)
given_clean [] = tt
given_clean (b ∷ bs) = byte_clean b (lines_of bs) (b == 10) refl (given_clean bs)

given_plain : (b : ℕ) (bs : List ℕ) → ends_in_feed (b ∷ bs) ≡ false → EndsPlain (b ∷ bs)
given_plain b [] h = h
given_plain b (c ∷ bs) h =
    let n : length (b ∷ c ∷ bs) - 1 ≡ suc (length (c ∷ bs) - 1) = omega arith in
    given_plain c bs (sym (ap (λ (m : ℕ). option_map_or (λ x. x == 10) (slice_get (b ∷ c ∷ bs) m) false) n) ∙ h)

given_last : (b : ℕ) (bs : List ℕ) → EndsPlain (b ∷ bs) → LastHas (lines_of (b ∷ bs))
given_last b [] h = rw h tt
given_last b (c ∷ bs) h =
    let rest : LastHas (lines_of (c ∷ bs)) = given_last c bs h in
    elim (b == 10) as (λ v. LastHas (if v then [] ∷ lines_of (c ∷ bs) else onto_first b (lines_of (c ∷ bs)))) [
      | true ↦ last_more [] (lines_of (c ∷ bs)) rest
      | false ↦ last_onto b (lines_of (c ∷ bs)) rest
    ]

-- ---- the expanded lines

abbrev bytes_of : List Line → List (List ℕ)
bytes_of lines = map (λ (l : Line). l.bytes) lines

abbrev numbered : ℕ → List ℕ → Line
numbered n line = record { from = n; bytes = line }

bytes_on : (n : ℕ) (lines : List (List ℕ)) (more : List Line) → bytes_of (map (numbered n) lines ++ more) ≡ lines ++ bytes_of more
bytes_on n [] more = refl
bytes_on n (line ∷ lines) more = ap (λ (ls : List (List ℕ)). line ∷ ls) (bytes_on n lines more)

clean_on : (a b : List (List ℕ)) → AreClean a → AreClean b → AreClean (a ++ b)
clean_on [] b p q = q
clean_on (line ∷ lines) b p q = (p.0, clean_on lines b p.1 q)

less_or : (k : ℕ) (said : Option CallLine) → next_call k said ≤ k + 1
less_or k None = omega arith
less_or k (Some c) = omega arith

more_clean : (version : Version) (n k : ℕ) (line : List ℕ) (said : Option CallLine) (r : Result (List Line) CallError) → k < 2 ^ 63 → IsInline line → IfSome said IsInlineCall →
    IfOk r (λ ls. AreClean (bytes_of ls)) → IfOk (on_ok (λ more. map (numbered n) (lines_for k line said) ++ more) r) (λ ls. AreClean (bytes_of ls))
more_clean version n k line said (Err e) fits clean h rest = tt
more_clean version n k line said (Ok more) fits clean h rest =
    subst AreClean (sym (bytes_on n (lines_for k line said) more))
    (clean_on (lines_for k line said) (bytes_of more) (lines_for_clean version k line said fits clean h) rest)

said_clean : (version : Version) (n k : ℕ) (line : List ℕ) (lines : List (List ℕ)) (r : Result (Option CallLine) CallFault) → k < 2 ^ 63 → IsInline line → IfOk r (λ said. IfSome said IsInlineCall) →
    ((j : ℕ) → j ≤ k + 1 → IfOk (expanded version (n + 1) j lines) (λ ls. AreClean (bytes_of ls))) →
    IfOk (at_line n r >>= λ said. on_ok (λ more. map (numbered n) (lines_for k line said) ++ more) (expanded version (n + 1) (next_call k said) lines)) (λ ls. AreClean (bytes_of ls))
said_clean version n k line lines (Err kind) fits clean h rest = tt
said_clean version n k line lines (Ok said) fits clean h rest =
    more_clean version n k line said (expanded version (n + 1) (next_call k said) lines) fits clean h (rest (next_call k said) (less_or k said))

expanded_clean : (version : Version) (n k : ℕ) (lines : List (List ℕ)) → AreClean lines → k + length lines < 2 ^ 63 → IfOk (expanded version n k lines) (λ ls. AreClean (bytes_of ls))
unfolding expanded
expanded_clean version n k [] clean few = tt
expanded_clean version n k (line ∷ lines) clean few =
    said_clean version n k line lines (said_of version line) (omega (arith, few)) clean.0 (said_inline line clean.0 version)
    (λ j le. expanded_clean version (n + 1) j lines clean.1 (omega (arith, few, le)))

lines_for_last : (k : ℕ) (line : List ℕ) (said : Option CallLine) → LastHas (line ∷ []) → LastHas (lines_for k line said ++ [])
lines_for_last k line None h = h
lines_for_last k line (Some c) h = tt

-- the last line, where it has a byte
one_last : (n k : ℕ) (line : List ℕ) (r : Result (Option CallLine) CallFault) → LastHas (line ∷ []) →
    IfOk (at_line n r >>= λ said. on_ok (λ more. map (numbered n) (lines_for k line said) ++ more) (Ok [])) (λ ls. LastHas (bytes_of ls))
one_last n k line (Err kind) h = tt
one_last n k line (Ok said) h = subst LastHas (sym (bytes_on n (lines_for k line said) [])) (lines_for_last k line said h)

more_last : (n k : ℕ) (line : List ℕ) (said : Option CallLine) (r : Result (List Line) CallError) → IfOk r (λ ls. LastHas (bytes_of ls)) →
    IfOk (on_ok (λ more. map (numbered n) (lines_for k line said) ++ more) r) (λ ls. LastHas (bytes_of ls))
more_last n k line said (Err e) rest = tt
more_last n k line said (Ok more) rest = subst LastHas (sym (bytes_on n (lines_for k line said) more)) (last_on (lines_for k line said) (bytes_of more) rest)

said_last : (version : Version) (n k : ℕ) (line : List ℕ) (lines : List (List ℕ)) (r : Result (Option CallLine) CallFault) →
    ((j : ℕ) → IfOk (expanded version (n + 1) j lines) (λ ls. LastHas (bytes_of ls))) →
    IfOk (at_line n r >>= λ said. on_ok (λ more. map (numbered n) (lines_for k line said) ++ more) (expanded version (n + 1) (next_call k said) lines)) (λ ls. LastHas (bytes_of ls))
said_last version n k line lines (Err kind) rest = tt
said_last version n k line lines (Ok said) rest = more_last n k line said (expanded version (n + 1) (next_call k said) lines) (rest (next_call k said))

expanded_last : (version : Version) (n k : ℕ) (lines : List (List ℕ)) → LastHas lines → IfOk (expanded version n k lines) (λ ls. LastHas (bytes_of ls))
unfolding expanded
expanded_last version n k [] h = absurd h
expanded_last version n k (line ∷ []) h = one_last n k line (said_of version line) h
expanded_last version n k (line ∷ next ∷ lines) h = said_last version n k line (next ∷ lines) (said_of version line) (λ j. expanded_last version (n + 1) j (next ∷ lines) h)

-- ---- the law

last_closes : (lines : List (List ℕ)) → LastHas lines → Closes false lines
last_closes [] h = tt
last_closes (line ∷ lines) h = h

stands : (feed : Bool) (r : Result (List Line) CallError) → IfOk r (λ ls. AreClean (bytes_of ls)) → IfOk r (λ ls. Closes feed (bytes_of ls)) →
    IfOk r (λ ls. lines_of (text_of feed (fed (bytes_of ls))) ≡ bytes_of ls)
stands feed (Err e) clean h = tt
stands feed (Ok ls) clean h = text_stands feed (bytes_of ls) clean h

closes_weaker : (r : Result (List Line) CallError) → IfOk r (λ ls. LastHas (bytes_of ls)) → IfOk r (λ ls. Closes false (bytes_of ls))
closes_weaker (Err e) h = tt
closes_weaker (Ok ls) h = last_closes (bytes_of ls) h

closes_always : (r : Result (List Line) CallError) → IfOk r (λ ls. Closes true (bytes_of ls))
closes_always (Err e) = tt
closes_always (Ok ls) = tt

given_closes : (version : Version) (bytes : List ℕ) (feed : Bool) → ends_in_feed bytes ≡ feed → IfOk (expanded version 1 1 (lines_of bytes)) (λ ls. Closes feed (bytes_of ls))
unfolding expanded
given_closes version bytes true is = closes_always (expanded version 1 1 (lines_of bytes))
given_closes version [] false is = tt
given_closes version (b ∷ bs) false is =
    closes_weaker (expanded version 1 1 (lines_of (b ∷ bs))) (expanded_last version 1 1 (lines_of (b ∷ bs)) (given_last b bs (given_plain b bs is)))

-- there are no more lines than bytes
onto_few : (b : ℕ) (lines : List (List ℕ)) → length (onto_first b lines) ≤ length lines + 1
onto_few b [] = omega arith
onto_few b (line ∷ lines) = omega arith

few_lines : (bytes : List ℕ) → length (lines_of bytes) ≤ length bytes
few_lines [] = omega arith
few_lines (b ∷ bs) =
    let rest = few_lines bs in
    elim (b == 10) as (λ v. length (if v then [] ∷ lines_of bs else onto_first b (lines_of bs)) ≤ length (b ∷ bs)) [
      | true ↦ omega (arith, rest)
      | false ↦ omega (arith, rest, onto_few b (lines_of bs))
    ]

pub lines_stand : (bytes : List ℕ) → LinesStand bytes
lines_stand bytes short =
    let version = version_of (first_line bytes) in
    let few : 1 + length (lines_of bytes) < 2 ^ 63 = omega (arith, short, few_lines bytes) in
    stands (ends_in_feed bytes) (expanded version 1 1 (lines_of bytes)) (expanded_clean version 1 1 (lines_of bytes) (given_clean bytes) few)
    (given_closes version bytes (ends_in_feed bytes) refl)
