-- Lists that are kept in pieces.
use Rattle.std.proofs.Common.{◌≡◌, ℕ, zero, suc, ◌+◌, ◌<◌, ◌≤◌, List, [], ◌∷◌, ◌++◌, length, take, get_or, set, sym, refl, ap, ◌∙◌, arith, append-nil, append_assoc}
use Rattle.std.proofs.lemmas.List.{length-append, take_more}
use Rattle.sig_kinds.specs.declared.signal.Signal.{Signal}
use Rattle.sig_layout.specs.Rooms.{all_pieces}

pub pieces_more : (ls : List (List Signal)) (l : List Signal) → all_pieces (ls ++ l ∷ []) ≡ all_pieces ls ++ l
pieces_more [] l = append-nil l
pieces_more (x ∷ xs) l = ap (λ (z : List Signal). x ++ z) (pieces_more xs l) ∙ sym (append_assoc x (all_pieces xs) l)

-- one piece more is counted
pub counted_more : (ls : List (List Signal)) (n : ℕ) → n < length ls
    → length (all_pieces (take (n + 1) ls)) ≡ length (all_pieces (take n ls)) + length (get_or ls n [])
counted_more ls n h = ap (λ (z : List (List Signal)). length (all_pieces z)) (take_more ls n [] h)
    ∙ (ap length (pieces_more (take n ls) (get_or ls n [])) ∙ length-append (all_pieces (take n ls)) (get_or ls n []))

-- one piece is poured out, and those before it are empty
pub poured_one : (ls : List (List Signal)) (i : ℕ) → ((k : ℕ) → k < i → get_or ls k [] ≡ []) → i < length ls
    → get_or ls i [] ++ all_pieces (set ls i []) ≡ all_pieces ls
poured_one [] i e h = absurd (omega arith)
poured_one (x ∷ xs) zero e h = refl
poured_one (x ∷ xs) (suc i) e h = let none : x ≡ [] = e 0 (omega arith) in
    ap (λ (z : List Signal). get_or xs i [] ++ (z ++ all_pieces (set xs i []))) none
    ∙ (poured_one xs i (λ k l. e (suc k) (omega arith)) (omega arith) ∙ ap (λ (z : List Signal). z ++ all_pieces xs) (sym none))

pub all_poured : (ls : List (List Signal)) → ((k : ℕ) → k < length ls → get_or ls k [] ≡ []) → all_pieces ls ≡ []
all_poured [] e = refl
all_poured (x ∷ xs) e = ap (λ (z : List Signal). z ++ all_pieces xs) (e 0 (omega arith))
    ∙ all_poured xs (λ k l. e (suc k) (omega arith))

pub or_any : (ls : List (List Signal)) (i : ℕ) (d e : List Signal) → i < length ls → get_or ls i d ≡ get_or ls i e
or_any [] i d e h = absurd (omega arith)
or_any (x ∷ xs) zero d e h = refl
or_any (x ∷ xs) (suc i) d e h = or_any xs i d e (omega arith)

pub fits_piece : (ls : List (List Signal)) (i n spare : ℕ) → ((k : ℕ) → k < i → get_or ls k [] ≡ []) → i < length ls
    → length (all_pieces ls) + n ≤ spare → length (get_or ls i []) ≤ spare
fits_piece ls i n spare e h r = let g = ap length (poured_one ls i e h) in
    let l = length-append (get_or ls i []) (all_pieces (set ls i [])) in omega arith

pub left_pieces : (ls : List (List Signal)) (i : ℕ) → ((k : ℕ) → k < i → get_or ls k [] ≡ []) → i < length ls
    → length (get_or ls i []) + length (all_pieces (set ls i [])) ≡ length (all_pieces ls)
left_pieces ls i e h = sym (length-append (get_or ls i []) (all_pieces (set ls i []))) ∙ ap length (poured_one ls i e h)

pub emptied_at : (ls : List (List Signal)) (i k : ℕ) → ((k : ℕ) → k < i → get_or ls k [] ≡ []) → k < i + 1
    → get_or (set ls i []) k [] ≡ []
emptied_at [] i k e h = refl
emptied_at (x ∷ xs) zero zero e h = refl
emptied_at (x ∷ xs) zero (suc k) e h = absurd (omega arith)
emptied_at (x ∷ xs) (suc i) zero e h = e 0 (omega arith)
emptied_at (x ∷ xs) (suc i) (suc k) e h = emptied_at xs i k (λ j l. e (suc j) (omega arith)) (omega arith)
