-- What each change of the links does to the side of one peer.
use Rattle.std.proofs.Common.{◌≡◌, ◌≢◌, ℕ, ◌+◌, Bool, true, false, cond, Option, Some, None, is_some, refl, ap, ◌∙◌}
use Rattle.std.specs.Ordering.{nat_cmp, eq_by_cmp}
use Rattle.std.specs.Cmp.{nat_cmp_total, unsigned_tied}
use Rattle.std.specs.FinMap.{FinMap, get, insert, remove, get-empty, get-insert, get-remove}
use Rattle.std.proofs.lemmas.Bool.{eq-eqb, ne_eqb}
use Rattle.sig_kinds.specs.LinkRules.{LinkState, unlinked, awaited_from, activated, deactivated}
use Rattle.sig_model.specs.LinkPair.{Side, side_of}

-- a map after a change, at the key that was changed and at another one
module _ {X : Type 0} (m : FinMap nat_cmp X) (k : ℕ) where
  same_key : eq_by_cmp nat_cmp k k ≡ true
  same_key = unsigned_tied k k ∙ eq-eqb k k refl

  other_key : (q : ℕ) → q ≢ k → eq_by_cmp nat_cmp q k ≡ false
  other_key q n = unsigned_tied q k ∙ ne_eqb q k n

  got_new : (x : X) → get (insert m k x) k ≡ Some x
  got_new x = get-insert nat_cmp_total m k x k ∙ ap (λ c. cond c (Some x) (get m k)) same_key

  got_other : (x : X) (q : ℕ) → q ≢ k → get (insert m k x) q ≡ get m q
  got_other x q n = get-insert nat_cmp_total m k x q ∙ ap (λ c. cond c (Some x) (get m q)) (other_key q n)

  got_none : get (remove m k) k ≡ None
  got_none = get-remove nat_cmp_total m k k ∙ ap (λ c. cond c None (get m k)) same_key

  got_left : (q : ℕ) → q ≢ k → get (remove m k) q ≡ get m q
  got_left q n = get-remove nat_cmp_total m k q ∙ ap (λ c. cond c None (get m q)) (other_key q n)

-- a side, by what the two maps have of the peer
abbrev pub sided : Option (Unit {0}) → Option ℕ → Side
sided active awaited = record { active = is_some active; awaited = awaited }

-- a process that the script opens has no link
pub opening_side : (owner q : ℕ) → side_of (unlinked owner) q ≡ sided None None
opening_side owner q =
    ap (λ o. sided o (awaited_from (unlinked owner) q)) (get-empty {X = Unit {0}} nat_cmp q)
    ∙ ap (λ o. sided None o) (get-empty {X = ℕ} nat_cmp q)

module _ (links : LinkState) (peer : ℕ) where
  pub activated_here : side_of (activated links peer) peer ≡ record (side_of links peer) { active = true }
  activated_here = ap (λ o. sided o (awaited_from links peer)) (got_new links.active peer tt)

  pub activated_there : (q : ℕ) → q ≢ peer → side_of (activated links peer) q ≡ side_of links q
  activated_there q n = ap (λ o. sided o (awaited_from links q)) (got_other links.active peer tt q n)

  pub deactivated_here : side_of (deactivated links peer) peer ≡ record (side_of links peer) { active = false }
  deactivated_here = ap (λ o. sided o (awaited_from links peer)) (got_none links.active peer)

  pub deactivated_there : (q : ℕ) → q ≢ peer → side_of (deactivated links peer) q ≡ side_of links q
  deactivated_there q n = ap (λ o. sided o (awaited_from links q)) (got_left links.active peer q n)

  -- after a call of `unlink` that ended the link
  abbrev pub cut_off : LinkState
  cut_off = record (deactivated links peer) { awaited = insert links.awaited peer links.next_id; next_id = links.next_id + 1 }

  pub cut_off_here : side_of cut_off peer ≡ record { active = false; awaited = Some links.next_id }
  cut_off_here =
      ap (λ o. sided o (get (insert links.awaited peer links.next_id) peer)) (got_none links.active peer)
      ∙ ap (λ o. sided None o) (got_new links.awaited peer links.next_id)

  pub cut_off_there : (q : ℕ) → q ≢ peer → side_of cut_off q ≡ side_of links q
  cut_off_there q n =
      ap (λ o. sided o (get (insert links.awaited peer links.next_id) q)) (got_left links.active peer q n)
      ∙ ap (λ o. sided (get links.active q) o) (got_other links.awaited peer links.next_id q n)

  -- after the awaited acknowledgement
  abbrev pub unawaited : LinkState
  unawaited = record links { awaited = remove links.awaited peer }

  pub unawaited_here : side_of unawaited peer ≡ record (side_of links peer) { awaited = None }
  unawaited_here = ap (λ o. sided (get links.active peer) o) (got_none links.awaited peer)

  pub unawaited_there : (q : ℕ) → q ≢ peer → side_of unawaited q ≡ side_of links q
  unawaited_there q n = ap (λ o. sided (get links.active q) o) (got_left links.awaited peer q n)
