-- What the sorted list of peers is as a list of entries.
use Rattle.std.proofs.Common.{◌≡◌, ℕ, zero, suc, ◌≤◌, true, false, cond, nat_lt, T, List, [], ◌∷◌, ◌++◌, map, take, drop, is_some, Result, Ok, Err, MatchResult, is_ok, refl, sym, ap, subst, ◌∙◌, arith}
use Rattle.std.specs.List.{filter}
use Rattle.std.specs.List.Sorted.{IsBinarySearchResult}
use Rattle.std.specs.Ordering.{nat_cmp}
use Rattle.std.specs.Cmp.{nat_cmp_total}
use Rattle.std.specs.FinMap.{insert, remove, contains_key, get-from_entries}
use Rattle.std.specs.FinMap.Entries.{below_all}
use Rattle.std.proofs.lemmas.Bool.{lt-ltb, le-ltb}
use Rattle.sig_links.specs.Places.{IsAt, IsGapFor}
use Rattle.sig_links.specs.Tables.{marked, peers_of, IsInOrder}
use Rattle.sig_links.proofs.Places.{first, second, lower, found_place, find-at, find-gap, added-order, added, removed-order, removed, from_entries-absent}

pub keys_marked : (ks : List ℕ) → map (λ (e : ℕ × Unit {0}). e.0) (marked ks) ≡ ks
keys_marked [] = refl
keys_marked (k ∷ ks) = ap (λ rest. k ∷ rest) (keys_marked ks)

-- where a binary search for a peer ends
pub peer_place : (k : ℕ) (ks : List ℕ) (r : Result ℕ ℕ) → IsInOrder (marked ks) → IsBinarySearchResult (λ y. nat_cmp y k) ks r → MatchResult r (IsAt k (marked ks)) (IsGapFor k (marked ks))
peer_place k ks r order h = found_place k (marked ks) r order (subst (λ (l : List ℕ). IsBinarySearchResult (λ y. nat_cmp y k) l r) (sym (keys_marked ks)) h)

pub is_held : (k : ℕ) (ks : List ℕ) (i : ℕ) → IsAt k (marked ks) i → true ≡ contains_key (peers_of ks) k
is_held k ks i at = sym (ap is_some (get-from_entries nat_cmp_total (marked ks) k ∙ find-at k (marked ks) i (0, tt) at))

pub is_free : (k : ℕ) (ks : List ℕ) (i : ℕ) → IsGapFor k (marked ks) i → false ≡ contains_key (peers_of ks) k
is_free k ks i gap = sym (ap is_some (get-from_entries nat_cmp_total (marked ks) k ∙ find-gap k (marked ks) i gap))

marked-added : (k : ℕ) (ks : List ℕ) (i : ℕ) → take i (marked ks) ++ (k, tt) ∷ drop i (marked ks) ≡ marked (take i ks ++ k ∷ drop i ks)
marked-added k ks zero = refl
marked-added k [] (suc i) = refl
marked-added k (x ∷ ks) (suc i) = ap (λ rest. (x, tt) ∷ rest) (marked-added k ks i)

marked-removed : (ks : List ℕ) (i : ℕ) → take i (marked ks) ++ drop (suc i) (marked ks) ≡ marked (take i ks ++ drop (suc i) ks)
marked-removed [] zero = refl
marked-removed (x ∷ ks) zero = refl
marked-removed [] (suc i) = refl
marked-removed (x ∷ ks) (suc i) = ap (λ rest. (x, tt) ∷ rest) (marked-removed ks i)

-- a peer more
pub peer_added-order : (k : ℕ) (ks : List ℕ) (i : ℕ) → IsInOrder (marked ks) → IsGapFor k (marked ks) i → IsInOrder (marked (take i ks ++ k ∷ drop i ks))
peer_added-order k ks i order gap = subst (λ es. IsInOrder {X = Unit {0}} es) (marked-added k ks i) (added-order k tt (marked ks) i order gap)

pub peer_added : (k : ℕ) (ks : List ℕ) (i : ℕ) → IsGapFor k (marked ks) i → peers_of (take i ks ++ k ∷ drop i ks) ≡ insert (peers_of ks) k tt
peer_added k ks i gap = rw (← marked-added k ks i) (added k tt (marked ks) i gap)

-- a peer less
pub peer_removed-order : (k : ℕ) (ks : List ℕ) (i : ℕ) → IsInOrder (marked ks) → IsAt k (marked ks) i → IsInOrder (marked (take i ks ++ drop (suc i) ks))
peer_removed-order k ks i order at = subst (λ es. IsInOrder {X = Unit {0}} es) (marked-removed ks i) (removed-order k (marked ks) i order at)

pub peer_removed : (k : ℕ) (ks : List ℕ) (i : ℕ) → IsAt k (marked ks) i → peers_of (take i ks ++ drop (suc i) ks) ≡ remove (peers_of ks) k
peer_removed k ks i at = rw (← marked-removed ks i) (removed k (marked ks) i at)

pub peer_absent : (k : ℕ) (ks : List ℕ) (i : ℕ) → IsGapFor k (marked ks) i → peers_of ks ≡ remove (peers_of ks) k
peer_absent k ks i gap = from_entries-absent k (marked ks) i gap

all_pass : (k : ℕ) (ks : List ℕ) → T (below_all nat_cmp k (marked ks)) → ks ≡ filter (λ q. nat_lt k q) ks
all_pass k [] h = refl
all_pass k (x ∷ ks) h =
    let above = lt-ltb k x (lower k x (first _ _ h)) in
    ap (λ rest. x ∷ rest) (all_pass k ks (second _ _ h))
    ∙ ap (λ b. cond b (x ∷ filter (λ q. nat_lt k q) ks) (filter (λ q. nat_lt k q) ks)) (sym above)

none_passes : (k x : ℕ) (ks : List ℕ) → x ≤ k → filter (λ q. nat_lt k q) ks ≡ filter (λ q. nat_lt k q) (x ∷ ks)
none_passes k x ks h = ap (λ b. cond b (x ∷ filter (λ q. nat_lt k q) ks) (filter (λ q. nat_lt k q) ks)) (sym (le-ltb k x h))

-- from its gap on, the peers are above a key
pub above_gap : (k : ℕ) (ks : List ℕ) (i : ℕ) → IsGapFor k (marked ks) i → drop i ks ≡ filter (λ q. nat_lt k q) ks
above_gap k ks zero gap = all_pass k ks gap
above_gap k [] (suc i) gap = refl
above_gap k (x ∷ ks) (suc i) gap = above_gap k ks i gap.1 ∙ none_passes k x ks (omega arith)

-- and behind its place
pub above_at : (k : ℕ) (ks : List ℕ) (i : ℕ) → IsAt k (marked ks) i → drop (suc i) ks ≡ filter (λ q. nat_lt k q) ks
above_at k [] i at = absurd at
above_at k (x ∷ ks) zero at = all_pass k ks at.1 ∙ none_passes k x ks (omega arith)
above_at k (x ∷ ks) (suc i) at = above_at k ks i at.1 ∙ none_passes k x ks (omega arith)

-- a search ends at a place exactly where the peer is held
pub holds_from_place : (k : ℕ) (ks : List ℕ) (r : Result ℕ ℕ) → MatchResult r (IsAt k (marked ks)) (IsGapFor k (marked ks)) → is_ok r ≡ contains_key (peers_of ks) k
holds_from_place k ks (Ok i) at = is_held k ks i at
holds_from_place k ks (Err i) gap = is_free k ks i gap
