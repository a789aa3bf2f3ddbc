-- How large a term is, by its cases and its parts; and the terms that a machine makes.
use Rattle.std.proofs.Common.{◌≡◌, ℕ, ◌+◌, ◌≤◌, max, sum, List, [], ◌∷◌, map, true, codes, subst, arith}
use Rattle.std.specs.Prelude.{nat_le}
use Rattle.std.proofs.lemmas.Bool.{and_parts, leb-true}
use Rattle.std.proofs.lemmas.List.Sums.{sum_by-cons}
use Rattle.sig_terms.specs.declared.reading.TheConstants.{READ_DEPTH, READ_NODES}
use Rattle.sig_terms.specs.declared.reference.Ref.{Ref}
use Rattle.sig_terms.specs.declared.pid.Pid.{Pid}
use Rattle.sig_terms.specs.declared.term.Term.{Term, out-Term, map-Term}
use Rattle.sig_terms.specs.declared.term.Term.TheVariants as term
use Rattle.sig_terms.specs.declared.term.Term.TheOpen.{Term-F}
use Rattle.sig_terms.specs.declared.term.Term.TheOpen as layer
use Rattle.sig_terms.specs.declared.term.Term.TheFolds.{fold_out-Term}
use Rattle.sig_terms.specs.Nodes.{node_count, depth_of, greatest, count_step, depth_step}
use Rattle.sig_terms.proofs.Layers.{shows-Atom, shows-Pid, shows-Ref, shows-Tuple, shows-List}
use Rattle.sig_patterns.specs.Building.{is_small}
use Rattle.sig_patterns.specs.declared.building.TheConstants.{MOST_NODES, MOST_DEPTH}
use Rattle.sig_model.specs.ExitRule.{exit_message}
use Rattle.sig_model.specs.Handling.{down_message}
use Rattle.sig_model.specs.TermSizes.{IsNoLarger, IsSmallTerm, IsKeptTerm}

-- a tuple or a list of these elements is no larger
pub record AreWithin (most deepest : ℕ) (ts : List Term) : Type 0 where
  pub nodes : 1 + sum (map node_count ts) ≤ most
  pub depth : 1 + greatest (map depth_of ts) ≤ deepest

sum_cons : (t : Term) (ts : List Term) → sum (map node_count (t ∷ ts)) ≡ node_count t + sum (map node_count ts)
sum_cons t ts = sum_by-cons (λ n. n) (node_count t) (map node_count ts)

module _ (most deepest : ℕ) where
  pub list_within : (ts : List Term) → AreWithin most deepest ts → IsNoLarger most deepest (term.List ts)
  list_within ts h =
      let n : node_count (term.List ts) ≡ 1 + sum (map node_count ts) = (shows-List ts).nodes in
      let d : depth_of (term.List ts) ≡ 1 + greatest (map depth_of ts) = (shows-List ts).depth in
      record { nodes = omega (arith, n, h.nodes); depth = omega (arith, d, h.depth) }

  pub tuple_within : (ts : List Term) → AreWithin most deepest ts → IsNoLarger most deepest (term.Tuple ts)
  tuple_within ts h =
      let n : node_count (term.Tuple ts) ≡ 1 + sum (map node_count ts) = (shows-Tuple ts).nodes in
      let d : depth_of (term.Tuple ts) ≡ 1 + greatest (map depth_of ts) = (shows-Tuple ts).depth in
      record { nodes = omega (arith, n, h.nodes); depth = omega (arith, d, h.depth) }

  -- the first element, and the elements behind it
  pub head_within : (t : Term) (ts : List Term) → AreWithin most deepest (t ∷ ts) → IsNoLarger most deepest t
  head_within t ts h =
      let d : 1 + max (depth_of t) (greatest (map depth_of ts)) ≤ deepest = h.depth in
      record { nodes = omega (arith, sum_cons t ts, h.nodes); depth = omega (arith, d) }

  pub tail_within : (t : Term) (ts : List Term) → AreWithin most deepest (t ∷ ts) → AreWithin most deepest ts
  tail_within t ts h =
      let d : 1 + max (depth_of t) (greatest (map depth_of ts)) ≤ deepest = h.depth in
      record { nodes = omega (arith, sum_cons t ts, h.nodes); depth = omega (arith, d) }

  -- the elements of a tuple or a list, by the layer of a term
  abbrev pub PartsWithin : Term-F Term → Type 0
  PartsWithin (layer.Tuple ts) = AreWithin most deepest ts
  PartsWithin (layer.List ts) = AreWithin most deepest ts
  PartsWithin _ = Unit {0}

  layer_within : (x : Term-F Term) → count_step (map-Term Term ℕ node_count x) ≤ most → depth_step (map-Term Term ℕ depth_of x) ≤ deepest → PartsWithin x
  layer_within (layer.Tuple ts) n d = record { nodes = n; depth = d }
  layer_within (layer.List ts) n d = record { nodes = n; depth = d }
  layer_within _ n d = tt

  pub parts_within : (t : Term) → IsNoLarger most deepest t → PartsWithin (out-Term t)
  parts_within t h =
      layer_within (out-Term t) (subst (λ n. n ≤ most) (fold_out-Term ℕ count_step t) h.nodes) (subst (λ n. n ≤ deepest) (fold_out-Term ℕ depth_step t) h.depth)

-- a term that passes the test is small, and a small one is no larger than what is read
pub small_tells : (t : Term) → is_small t ≡ true → IsSmallTerm t
small_tells t h =
    let w : (nat_le (node_count t) MOST_NODES ≡ true) × (nat_le (depth_of t) MOST_DEPTH ≡ true) =
    and_parts (nat_le (node_count t) MOST_NODES) (nat_le (depth_of t) MOST_DEPTH) h in
    record { nodes = leb-true (node_count t) MOST_NODES w.0; depth = leb-true (depth_of t) MOST_DEPTH w.1 }

pub small_kept : (t : Term) → IsSmallTerm t → IsKeptTerm t
small_kept t h = record { nodes = omega (arith, h.nodes); depth = omega (arith, h.depth) }

-- a term without elements
leaf : (t : Term) → node_count t ≡ 1 → depth_of t ≡ 1 → IsNoLarger 1 MOST_DEPTH t
leaf t n d = record { nodes = omega (arith, n); depth = omega (arith, d) }

leaf_small : (t : Term) → IsNoLarger 1 MOST_DEPTH t → IsSmallTerm t
leaf_small t h = record { nodes = omega (arith, h.nodes); depth = h.depth }

atom_leaf : (a : List ℕ) → IsNoLarger 1 MOST_DEPTH (term.Atom a)
atom_leaf a = leaf (term.Atom a) (shows-Atom a).nodes (shows-Atom a).depth

pid_leaf : (p : Pid) → IsNoLarger 1 MOST_DEPTH (term.Pid p)
pid_leaf p = leaf (term.Pid p) (shows-Pid p).nodes (shows-Pid p).depth

ref_leaf : (r : Ref) → IsNoLarger 1 MOST_DEPTH (term.Ref r)
ref_leaf r = leaf (term.Ref r) (shows-Ref r).nodes (shows-Ref r).depth

pub atom_small : (a : List ℕ) → IsSmallTerm (term.Atom a)
atom_small a = leaf_small (term.Atom a) (atom_leaf a)

pub ref_small : (r : Ref) → IsSmallTerm (term.Ref r)
ref_small r = leaf_small (term.Ref r) (ref_leaf r)

-- elements of this depth make a tuple that is one deeper
none_within : AreWithin 1 READ_DEPTH []
none_within = record { nodes = omega arith; depth = omega arith }

one_more : (n m : ℕ) (t : Term) (ts : List Term) → IsNoLarger n MOST_DEPTH t → AreWithin m READ_DEPTH ts → AreWithin (n + m) READ_DEPTH (t ∷ ts)
one_more n m t ts h g =
    let d : 1 + max (depth_of t) (greatest (map depth_of ts)) ≤ READ_DEPTH = omega (arith, h.depth, g.depth) in
    record { nodes = omega (arith, sum_cons t ts, h.nodes, g.nodes); depth = d }

-- the message of an exit signal has three nodes more than its reason, and that of a down has five more; both are one deeper
module _ (sender : ℕ) (reason : Term) (h : IsSmallTerm reason) where
  named_within : AreWithin 1026 READ_DEPTH (term.Pid (record { 0 = sender }) ∷ reason ∷ [])
  named_within = one_more 1 1025 _ (reason ∷ []) (pid_leaf (record { 0 = sender })) (one_more MOST_NODES 1 reason [] h none_within)

  exit_size : IsNoLarger 1027 65 (exit_message sender reason)
  exit_size = tuple_within 1027 65 _ (one_more 1 1026 _ _ (atom_leaf (codes "EXIT")) named_within)

  pub exit_kept : IsKeptTerm (exit_message sender reason)
  exit_kept = record { nodes = omega (arith, exit_size.nodes); depth = exit_size.depth }

  pub down_kept : (r : Ref) → IsKeptTerm (down_message r sender reason)
  down_kept r =
      tuple_within READ_NODES READ_DEPTH _
      (one_more 1 1028 _ _ (atom_leaf (codes "DOWN")) (one_more 1 1027 _ _ (ref_leaf r) (one_more 1 1026 _ _ (atom_leaf (codes "process")) named_within)))
