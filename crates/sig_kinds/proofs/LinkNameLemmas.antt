-- What holds of every name in the links of a process, after each of the link rules.
use Rattle.std.proofs.Common.{◌≡◌, ℕ, ◌+◌, List, [], ◌∷◌, Bool, true, false, cond, ◌||◌, ◌==◌, All, is_some, Option, Some, None, Ordering, refl, sym, ap, subst, ◌∙◌}
use Rattle.std.specs.Option.{option_eq}
use Rattle.std.specs.Prelude.{nat_eq}
use Rattle.std.specs.List.{list_any}
use Rattle.std.specs.Ordering.{nat_cmp, eq_by_cmp, is_eq}
use Rattle.std.specs.Cmp.{nat_cmp_total, tied_itself, unsigned_tied}
use Rattle.std.specs.FinMap.{FinMap, empty, get, contains_key, insert, remove, keys, get-empty, get-insert, get-remove, contains_key-keys}
use Rattle.std.proofs.lemmas.Bool.{both_ways, eqb-true, or_left, or_right}
use Rattle.std.proofs.lemmas.List.Elements.{All-nil, All-cons}
use Rattle.sig_terms.specs.Names.{Named, process}
use Rattle.sig_kinds.specs.LinkRules.{LinkState, unlinked, is_active, awaited_from, activated, deactivated, link, unlink, on_link, on_unlink, on_ack, ending, active_after}
use Rattle.sig_kinds.specs.SignalNames.{LinkNames}

-- an empty map has no key
pub no_key : {K : Type 0} (X : Type 0) (R : K → K → Ordering) (key : K) → contains_key (empty {X = X} {R = R}) key ≡ true → ⊥
no_key X R key h = both_ways (contains_key (empty {X = X} {R = R}) key) (ap (λ o. is_some o) (get-empty {X = X} R key)) h

module _ (P : Named → Type 0) where
  abbrev OfPeer : ℕ → Type 0
  OfPeer peer = P (process peer)

  -- it holds of each key of the map
  abbrev OfKeys : {X : Type 0} → FinMap nat_cmp X → Type 0
  OfKeys m = (key : ℕ) → contains_key m key ≡ true → OfPeer key

  no_keys : (X : Type 0) → OfKeys (empty {X = X} {R = nat_cmp})
  no_keys X key h = absurd (no_key X nat_cmp key h)

  one_more : {X : Type 0} (b : Bool) (key new : ℕ) (x : X) (o : Option X) → eq_by_cmp nat_cmp key new ≡ b → OfPeer new → (is_some o ≡ true → OfPeer key) → is_some (cond b (Some x) o) ≡ true → OfPeer key
  one_more true key new x o e h old is = subst (λ n. P (process n)) (sym (eqb-true key new (sym (unsigned_tied key new) ∙ e))) h
  one_more false key new x o e h old is = old is

  inserted_keys : {X : Type 0} (m : FinMap nat_cmp X) (new : ℕ) (x : X) → OfPeer new → OfKeys m → OfKeys (insert m new x)
  inserted_keys m new x h old key is =
      one_more (eq_by_cmp nat_cmp key new) key new x (get m key) refl h (old key) (ap (λ o. is_some o) (sym (get-insert nat_cmp_total m new x key)) ∙ is)

  one_less : {X : Type 0} (b : Bool) (o : Option X) → is_some (cond b None o) ≡ true → is_some o ≡ true
  one_less true o h = cc
  one_less false o h = h

  removed_keys : {X : Type 0} (m : FinMap nat_cmp X) (gone : ℕ) → OfKeys m → OfKeys (remove m gone)
  removed_keys m gone old key is =
      old key (one_less (eq_by_cmp nat_cmp key gone) (get m key) (ap (λ o. is_some o) (sym (get-remove nat_cmp_total m gone key)) ∙ is))

  listed_keys : (ks : List ℕ) → ((key : ℕ) → list_any (eq_by_cmp nat_cmp key) ks ≡ true → OfPeer key) → All (λ (key : ℕ). P (process key)) ks
  listed_keys [] h = All-nil (λ (key : ℕ). P (process key))
  listed_keys (k ∷ ks) h =
      All-cons (λ (key : ℕ). P (process key)) k ks (h k (or_left (eq_by_cmp nat_cmp k k) (list_any (eq_by_cmp nat_cmp k) ks) (ap (λ o. is_eq o) (tied_itself nat_cmp_total k))))
      (listed_keys ks (λ key e. h key (or_right (eq_by_cmp nat_cmp key k) (list_any (eq_by_cmp nat_cmp key) ks) e)))

  all_keys : {X : Type 0} (m : FinMap nat_cmp X) → OfKeys m → All (λ (key : ℕ). P (process key)) (keys m)
  all_keys m h = listed_keys (keys m) (λ key e. h key (contains_key-keys m key ∙ e))

  pub unlinked_names : (owner : ℕ) → P (process owner) → LinkNames P (unlinked owner)
  unlinked_names owner h = record { owner = h; active = no_keys (Unit {0}); awaited = no_keys ℕ }

  module _ (links : LinkState) (k : LinkNames P links) where
    -- the peers of active links
    pub peers_names : All (λ (peer : ℕ). P (process peer)) (active_after links None)
    peers_names = all_keys links.active k.active

    pub activated_names : (peer : ℕ) → P (process peer) → LinkNames P (activated links peer)
    activated_names peer h = record { owner = k.owner; active = inserted_keys links.active peer tt h k.active; awaited = k.awaited }

    pub deactivated_names : (peer : ℕ) → LinkNames P (deactivated links peer)
    deactivated_names peer = record { owner = k.owner; active = removed_keys links.active peer k.active; awaited = k.awaited }

    pub ending_names : LinkNames P (ending links)
    ending_names = record { owner = k.owner; active = no_keys (Unit {0}); awaited = no_keys ℕ }

    -- the links after the one or the other
    either_names : {A : Type 0} (b : Bool) (x y : A × LinkState) → LinkNames P x.1 → LinkNames P y.1 → LinkNames P (cond b x y).1
    either_names true x y h g = h
    either_names false x y h g = g

    -- the call `link`, and a link signal
    pub link_names : (peer : ℕ) → P (process peer) → LinkNames P (link links peer).1
    link_names peer h = either_names (peer == links.owner || is_active links peer) (false, links) (true, activated links peer) k (activated_names peer h)

    pub on_link_names : (peer : ℕ) → P (process peer) → LinkNames P (on_link links peer).1
    on_link_names peer h = either_names (is_some (awaited_from links peer) || is_active links peer) (false, links) (true, activated links peer) k (activated_names peer h)

    -- the call `unlink`, of a peer whose link is active or isn't
    abbrev unlinked_from : ℕ → LinkState
    unlinked_from peer = record (deactivated links peer) { awaited = insert links.awaited peer links.next_id; next_id = links.next_id + 1 }

    unlinked_from_names : (peer : ℕ) → P (process peer) → LinkNames P (unlinked_from peer)
    unlinked_from_names peer h = record {
      owner = k.owner;
      active = removed_keys links.active peer k.active;
      awaited = inserted_keys links.awaited peer links.next_id h k.awaited;
    }

    pub unlink_names : (peer : ℕ) → P (process peer) → LinkNames P (unlink links peer).1
    unlink_names peer h = either_names (is_active links peer) (Some links.next_id, unlinked_from peer) (None, links) (unlinked_from_names peer h) k

    -- an unlink signal, an acknowledgement, and an exit signal
    pub on_unlink_names : (peer : ℕ) → LinkNames P (on_unlink links peer).1
    on_unlink_names peer = deactivated_names peer

    abbrev acked : ℕ → LinkState
    acked peer = record links { awaited = remove links.awaited peer }

    acked_names : (peer : ℕ) → LinkNames P (acked peer)
    acked_names peer = record { owner = k.owner; active = k.active; awaited = removed_keys links.awaited peer k.awaited }

    pub on_ack_names : (peer id : ℕ) → LinkNames P (on_ack links peer id).1
    on_ack_names peer id = either_names (option_eq nat_eq (awaited_from links peer) (Some id)) (true, acked peer) (false, links) (acked_names peer) k
