-- What stands in front of a text stays there.
use Rattle.std.proofs.Common.{◌≡◌, ℕ, ◌+◌, ◌<◌, ◌≤◌, List, [], ◌∷◌, ◌++◌, take, length, get_or, append_assoc, length-append, length-take, Result, Ok, Err, refl, sym, ap, ◌∙◌, arith, codes}
use Rattle.std.proofs.lemmas.List.{take-take, take_at, take_all, take_more, flat_map_more}
use Rattle.std.proofs.lemmas.Grind.{flat_map-append}
use Rattle.std.specs.List.{flat_map}
use Rattle.std.specs.Prelude.{IsErr, OnOk, OnErr}
use Rattle.sig_program.specs.declared.instruction.Instr.{Instr}
use Rattle.sig_program.specs.Instructions.{Spoken, Says, Receives, spoken}
use Rattle.sig_program.specs.declared.version.Version.{Version}
use Rattle.sig_program.specs.Scripts.{Declared}
use Rattle.sig_canon.specs.ScriptText.{spaced, spoken_lines, instr_lines, data_lines, placed_lines, process_lines, header_line, turns_line, procs_lines, script_lines, script_text, line_text}
use Rattle.sig_canon.specs.Printing.{first_of, rest_of}
use Rattle.sig_terms.specs.Putting.{IsPut}

-- the front of what stands in front
pub kept_front : (a b c x : List ℕ) → b ≡ a ++ x → take (length b) c ≡ b → take (length a) c ≡ a
kept_front a b c x e h =
    let within : length a ≤ length b = omega (arith, ap length e, length-append a x) in
    sym (take-take (length a) (length b) c within) ∙ ap (take (length a)) (h ∙ e) ∙ take_at a x (length a) refl

-- the front of a front
pub front_on : (a b c : List ℕ) → take (length a) b ≡ a → take (length b) c ≡ b → take (length a) c ≡ a
front_on a b c p q =
    let within : length a ≤ length b = omega (arith, ap length p, length-take (length a) b) in
    sym (take-take (length a) (length b) c within) ∙ ap (take (length a)) q ∙ p

-- the same behind a piece more
pub front_behind : (a b piece m c : List ℕ) → take (length a) b ≡ a → m ≡ b ++ piece → take (length m) c ≡ m → take (length a) c ≡ a
front_behind a b piece m c p e q =
    front_on a m c (front_on a b m p (ap (take (length b)) e ∙ take_at b piece (length b) refl)) q

-- an instruction's lines are its first and those behind it
lines_split : (names labels : List (List ℕ)) (s : Spoken) →
    flat_map line_text (spoken_lines names labels s) ≡ line_text (first_of (spoken_lines names labels s)) ++ flat_map line_text (rest_of (spoken_lines names labels s))
lines_split names labels (Says v x) = refl
lines_split names labels (Receives r) = refl

pub instr_split : (names labels : List (List ℕ)) (i : Instr) →
    flat_map line_text (instr_lines names labels i) ≡ line_text (first_of (instr_lines names labels i)) ++ flat_map line_text (rest_of (instr_lines names labels i))
unfolding instr_lines
instr_split names labels i = lines_split names labels (spoken i)

-- three parts, one behind another
pub three_put : (a b c d x y z whole : List ℕ) → b ≡ a ++ x → c ≡ b ++ y → d ≡ c ++ z → whole ≡ (x ++ y) ++ z → d ≡ a ++ whole
three_put a b c d x y z whole p q r e =
    r ∙ ap (λ (xs : List ℕ). xs ++ z) (q ∙ ap (λ (xs : List ℕ). xs ++ y) p ∙ append_assoc a x y) ∙ append_assoc a (x ++ y) z ∙ ap (λ (xs : List ℕ). a ++ xs) (sym e)

-- a piece more leaves the front
pub kept_more : (a b piece c : List ℕ) → take (length a) b ≡ a → c ≡ b ++ piece → take (length a) c ≡ a
kept_more a b piece c p e = front_on a b c p (ap (take (length b)) e ∙ take_at b piece (length b) refl)

-- a script's text is its first line, that of its turns, and those of its processes
pub script_split : (version : Version) (turns : ℕ) (procs : List Declared) →
    script_text (record { version = version; turns = turns; procs = procs }) ≡ (line_text (header_line version) ++ line_text (turns_line turns)) ++ flat_map line_text (procs_lines version procs)
unfolding script_lines script_text
script_split version turns procs = sym (append_assoc (line_text (header_line version)) (line_text (turns_line turns)) (flat_map line_text (procs_lines version procs)))

-- a process's text is its first line, that of where it keeps its messages, and those behind
pub process_split : (version : Version) (names : List (List ℕ)) (p : Declared) →
    flat_map line_text (process_lines version names p)
    ≡ (line_text (spaced (codes "process") (p.name ∷ [])) ++ flat_map line_text (data_lines version p.queue_data)) ++ flat_map line_text (placed_lines names p.labels 1 p.instrs)
unfolding process_lines
process_split version names p = flat_map-append line_text (spaced (codes "process") (p.name ∷ []) ∷ data_lines version p.queue_data) (placed_lines names p.labels 1 p.instrs)

-- behind the texts of the items so far, that of one item more
pub each_put : {X : Type 0} (t : X → List ℕ) (xs : List X) (i : ℕ) (x : X) (a b c : List ℕ) → i < length xs → x ≡ get_or xs i x → b ≡ a ++ flat_map t (take i xs) → c ≡ b ++ t x → c ≡ a ++ flat_map t (take (i + 1) xs)
each_put {X} t xs i x a b c lt is p q =
    let next : take (i + 1) xs ≡ take i xs ++ x ∷ [] = take_more xs i x lt ∙ ap (λ (y : X). take i xs ++ y ∷ []) (sym is) in
    q ∙ ap (λ (ys : List ℕ). ys ++ t x) p ∙ flat_map_more t a (take i xs) x ∙ ap (λ (ys : List X). a ++ flat_map t ys) (sym next)

-- the texts of all of them
pub all_put : {X : Type 0} (t : X → List ℕ) (xs : List X) (i : ℕ) (a b whole : List ℕ) → length xs ≤ i → b ≡ a ++ flat_map t (take i xs) → whole ≡ flat_map t xs → b ≡ a ++ whole
all_put {X} t xs i a b whole le p e = p ∙ ap (λ (ys : List X). a ++ flat_map t ys) (take_all i xs le) ∙ ap (λ (ys : List ℕ). a ++ ys) (sym e)

-- the lines of each item, and those of all
pub lines_of_each : {X : Type 0} (f : X → List (List ℕ)) (xs : List X) → flat_map line_text (flat_map f xs) ≡ flat_map (λ (x : X). flat_map line_text (f x)) xs
lines_of_each f [] = refl
lines_of_each {X} f (x ∷ xs) = flat_map-append line_text (f x) (flat_map f xs) ∙ ap (λ (ys : List ℕ). flat_map line_text (f x) ++ ys) (lines_of_each f xs)

-- memory was refused
pub refused : {T E : Type 0} (a c x : List ℕ) (r : Result T E) → IsErr r → take (length a) c ≡ a → IsPut a c x r
refused a c x (Ok v) e h = cc
refused a c x (Err y) e h = (tt, h)

-- an error is returned
pub on_error : {T E : Type 0} {P : Type 0} (r : Result T E) → P → OnErr r P
on_error (Ok v) h = tt
on_error (Err y) h = h

-- one piece, and two, leave the front
pub kept_one : (a b x : List ℕ) → b ≡ a ++ x → take (length a) b ≡ a
kept_one a b x e = ap (take (length a)) e ∙ take_at a x (length a) refl

pub kept_two : (a b c x y : List ℕ) → b ≡ a ++ x → c ≡ b ++ y → take (length a) c ≡ a
kept_two a b c x y p q = kept_more a b y c (kept_one a b x p) q

-- a last piece, whose result is returned
pub last_text : {T E : Type 0} (r : Result T E) (c d w z : List ℕ) → OnOk r (d ≡ c ++ z) → c ≡ w → OnOk r (d ≡ w ++ z)
last_text (Ok v) c d w z h e = h ∙ ap (λ (xs : List ℕ). xs ++ z) e
last_text (Err y) c d w z h e = tt

pub last_front : {T E : Type 0} (r : Result T E) (a c d : List ℕ) → OnErr r (take (length c) d ≡ c) → take (length a) c ≡ a → OnErr r (take (length a) d ≡ a)
last_front (Ok v) a c d h p = tt
last_front (Err y) a c d h p = front_on a c d p h

-- a piece, and one behind it whose result is returned
pub two_put : {T E : Type 0} (r : Result T E) (a b c x y whole : List ℕ) → b ≡ a ++ x → IsPut b c y r → whole ≡ x ++ y → IsPut a c whole r
two_put (Ok v) a b c x y whole p q e = (q.0 ∙ ap (λ (xs : List ℕ). xs ++ y) p ∙ append_assoc a x y ∙ ap (λ (ys : List ℕ). a ++ ys) (sym e), tt)
two_put (Err k) a b c x y whole p q e = (tt, front_on a b c (kept_one a b x p) q.1)

-- two pieces as one
pub more_put : (a b c x y : List ℕ) → b ≡ a ++ x → c ≡ b ++ y → c ≡ a ++ (x ++ y)
more_put a b c x y p q = q ∙ ap (λ (xs : List ℕ). xs ++ y) p ∙ append_assoc a x y
