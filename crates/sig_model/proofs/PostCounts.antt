-- How many of the signals that one event sends are to one peer, and what they do to the next number for it.
use Rattle.std.proofs.Common.{◌≡◌, ℕ, zero, suc, ◌+◌, ◌≤◌, ◌<◌, List, [], ◌∷◌, map, length, Bool, true, false, cond, ◌&&◌, ◌==◌, nat_le, nat_lt, None, refl, sym, subst, arith}
use Rattle.std.specs.Prelude.{T, slice_index, slice_set}
use Rattle.std.specs.declared.cmp.Ordering.TheVariants.{Less, Equal, Greater}
use Rattle.std.specs.Ordering.{nat_cmp, is_lt}
use Rattle.std.specs.FinMap.{entries, entries_sorted, is_sorted}
use Rattle.std.specs.FinMap.Entries.{below_all}
use Rattle.std.proofs.lemmas.Bool.{ltb-true, eqb-true}
use Rattle.std.proofs.lemmas.Bool.Decides.{nat_tests}
use Rattle.std.proofs.lemmas.List.{get_or-set_other}
use Rattle.sig_terms.specs.declared.term.Term.{Term}
use Rattle.sig_kinds.specs.declared.signal.Kind.TheVariants.{Exit}
use Rattle.sig_kinds.specs.LinkRules.{LinkState, active_after}
use Rattle.sig_model.specs.ProcessState.{Post, exits_to}
use Rattle.sig_model.specs.Bounds.{posts_to}
use Rattle.sig_model.specs.Finishing.{drawn, numbers_after}

-- one more signal is one more to its receiver alone
one_more : (b : Bool) (p : Post) (ps : List Post) → length (cond b (p ∷ ps) ps) ≡ cond b 1 0 + length ps
one_more true p ps = omega arith
one_more false p ps = omega arith

pub posts_to-cons : (peer : ℕ) (p : Post) (ps : List Post) → posts_to peer (p ∷ ps) ≡ cond (p.to == peer) 1 0 + posts_to peer ps
posts_to-cons peer p ps = one_more (p.to == peer) p _

pub at_most_one : (b : Bool) (n : ℕ) → n ≡ 0 → cond b 1 0 + n ≤ 1
at_most_one true n e = omega arith
at_most_one false n e = omega arith

-- an event that sends one signal sends at most one to a peer
pub one_post_to : (peer : ℕ) (p : Post) → posts_to peer (p ∷ []) ≤ 1
one_post_to peer p = subst (λ n. n ≤ 1) (sym (posts_to-cons peer p [])) (at_most_one (p.to == peer) 0 refl)

-- the next number for a peer, after one more signal
set_same : (numbers : List ℕ) (peer value : ℕ) → slice_index (slice_set numbers peer value) peer ≤ value
set_same [] peer value = omega arith
set_same (n ∷ ns) zero value = omega arith
set_same (n ∷ ns) (suc peer) value = set_same ns peer value

drawn_grows : (b : Bool) (numbers : List ℕ) (to peer : ℕ) → (to == peer) ≡ b → slice_index (drawn numbers to) peer ≤ slice_index numbers peer + cond b 1 0
drawn_grows true numbers to peer e =
    subst (λ i. slice_index (drawn numbers i) peer ≤ slice_index numbers peer + 1) (sym (eqb-true to peer e)) (set_same numbers peer (slice_index numbers peer + 1))
drawn_grows false numbers to peer e =
    let same : slice_index (drawn numbers to) peer ≡ slice_index numbers peer = get_or-set_other numbers to peer (slice_index numbers to + 1) 0 (grind (arith, nat_tests)) in
    omega (arith, same)

-- after the signals it is at most so many higher as there are signals to the peer
pub numbers_grow : (numbers : List ℕ) (posts : List Post) (peer : ℕ) → slice_index (numbers_after numbers posts) peer ≤ slice_index numbers peer + posts_to peer posts
numbers_grow numbers [] peer = omega arith
numbers_grow numbers (p ∷ ps) peer =
    let first : slice_index (drawn numbers p.to) peer ≤ slice_index numbers peer + cond (p.to == peer) 1 0 = drawn_grows (p.to == peer) numbers p.to peer refl in
    let later : slice_index (numbers_after (drawn numbers p.to) ps) peer ≤ slice_index (drawn numbers p.to) peer + posts_to peer ps = numbers_grow (drawn numbers p.to) ps peer in
    let count : posts_to peer (p ∷ ps) ≡ cond (p.to == peer) 1 0 + posts_to peer ps = posts_to-cons peer p ps in
    omega (arith, first, later, count)

-- a process that ends tells each peer once, since no two keys of a map are equal
below : (b c : Bool) → T (is_lt (cond b Less (cond c Equal Greater))) → b ≡ true
below true c h = refl
below false true h = absurd h
below false false h = absurd h

rises : (x y : ℕ) → T (is_lt (nat_cmp x y)) → x < y
rises x y h = ltb-true x y (below (nat_lt x y) (x == y) h)

parts : (a b : Bool) → T (a && b) → T a × T b
parts true b h = (tt, h)
parts false b h = absurd h

module _ (reason : Term) (peer : ℕ) where
  abbrev told : List (ℕ × Unit {0}) → ℕ
  told es = posts_to peer (exits_to (map (λ e. e.0) es) reason)

  abbrev exit : ℕ → Post
  exit to = record { to = to; kind = Exit reason true }

  -- the keys rise, so the peer is one of them at most, and none where it is below the first
  rising : (e : ℕ × Unit {0}) (es : List (ℕ × Unit {0})) → T (is_sorted nat_cmp (e ∷ es)) → told (e ∷ es) ≤ cond (nat_le e.0 peer) 1 0
  rising e [] h = let all : told (e ∷ []) ≡ cond (e.0 == peer) 1 0 + told [] = posts_to-cons peer (exit e.0) [] in grind (arith, nat_tests)
  rising e (d ∷ es) h =
      let w : T (below_all nat_cmp e.0 (d ∷ es)) × T (is_sorted nat_cmp (d ∷ es)) = parts (below_all nat_cmp e.0 (d ∷ es)) (is_sorted nat_cmp (d ∷ es)) h in
      let above : e.0 < d.0 = rises e.0 d.0 (parts (is_lt (nat_cmp e.0 d.0)) (below_all nat_cmp e.0 es) w.0).0 in
      let later : told (d ∷ es) ≤ cond (nat_le d.0 peer) 1 0 = rising d es w.1 in
      let all : told (e ∷ d ∷ es) ≡ cond (e.0 == peer) 1 0 + told (d ∷ es) = posts_to-cons peer (exit e.0) (exits_to (map (λ (z : ℕ × Unit {0}). z.0) (d ∷ es)) reason) in
      grind (arith, nat_tests)

  once : (es : List (ℕ × Unit {0})) → T (is_sorted nat_cmp es) → told es ≤ 1
  once [] h = omega arith
  once (e ∷ es) h = let most : told (e ∷ es) ≤ cond (nat_le e.0 peer) 1 0 = rising e es h in grind (arith, nat_tests)

pub peers_told_once : (links : LinkState) (reason : Term) (peer : ℕ) → posts_to peer (exits_to (active_after links None) reason) ≤ 1
peers_told_once links reason peer = once reason peer (entries links.active) (entries_sorted links.active)
