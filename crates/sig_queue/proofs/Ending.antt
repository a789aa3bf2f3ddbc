-- The table at the start and at the end.
use Rattle.std.proofs.Common.{◌≡◌, ◌≢◌, ℕ, zero, suc, ◌+◌, ◌<◌, ◌≤◌, subst, Bool, true, false, List, [], ◌∷◌, ◌++◌, All, length, map, replicate, get_or, get_or-set_other, set, sym, refl, ap, ◌∙◌, arith, append-nil, append_assoc, inl, inr, ⊎_elim, Option}
use mathlib.Core.Logic.{dite}
use mathlib.Core.Option.{some, some-injective, some-ne-none}
use native.Mathlib.Decide.{ℕ_discrete}
use lib.ListN.{get_elem?}
use Rattle.atomic_table.specs.Table.{State, opening, Final, Seen}
use Rattle.sig_kinds.specs.declared.signal.Signal.{Signal}
use Rattle.sig_layout.specs.declared.setup.Setup.{Setup}
use Rattle.sig_layout.specs.declared.item.Item.{Item}
use Rattle.sig_layout.specs.declared.outer.Outer.{Outer}
use Rattle.sig_layout.specs.declared.policy.Policy.{Policy}
use Rattle.sig_kinds.specs.Counting.{IsCounting}
use Rattle.sig_layout.specs.Policies.{begins_on, IsPolicy, AllowsWay, IsLawfulJournal, direct_count, fetch_count}
use Rattle.sig_layout.specs.Openings.{first_of, IsCarried, IsCounted}
use Rattle.sig_layout.specs.Carried.{CarriedAs, outer_count}
use Rattle.sig_layout.specs.Rooms.{all_pieces}
use Rattle.sig_layout.specs.Sets.{has}
use Rattle.sig_layout.specs.Sent.{sender, putter, of, signals}
use Rattle.sig_layout.proofs.Sending.{not_both, bool_cases, of-append, of_signals}
use Rattle.sig_layout.proofs.Members.{least_has}
use Rattle.sig_queue.specs.declared.slot.Slot.{Slot}
use Rattle.sig_queue.specs.declared.slot.Slot.TheVariants as slot
use Rattle.sig_layout.specs.declared.knows.Knows.{Knows}
use Rattle.sig_layout.specs.Views.{number, table_from, mode_word, first_seat}
use Rattle.sig_layout.specs.Core.{QState, Reached, opened_with, opened, Idle, buffer_of}
use Rattle.sig_layout.specs.Agree.{Among, Turn, HasOuter, HasBuffer}
use Rattle.sig_layout.specs.Lists.{Lists}
use Rattle.sig_layout.proofs.Putting.{at_table}
use Rattle.sig_layout.proofs.Agreeing.{same_view, agrees}
use Rattle.sig_layout.proofs.Listing.{lists}
use Rattle.sig_layout.proofs.Lawful.{lawful, mod_small}
use Rattle.sig_layout.proofs.Stepping.{same_setup}
use Rattle.sig_layout.proofs.Journaling.{journals}
use Rattle.sig_layout.proofs.Carrying.{all_of, all_each, all_rest, carried, ways}
use Rattle.sig_layout.proofs.Steadying.{steady}
use Rattle.sig_layout.proofs.Wording.{lawful_of}
use Rattle.sig_queue.specs.Tied.{apart, home, cell_home, homes_of, Tied, list_or}
use Rattle.sig_queue.specs.Tables.{zeros, first_words, first_outer, all_buffers, lists_in}
use Rattle.sig_queue.specs.Ends.{EndsAs}
use Rattle.sig_queue.proofs.Owning.{own_alone}
use Rattle.sig_queue.proofs.Ways.{outer_by_sender}
use Rattle.sig_queue.proofs.Fetches.{flag_dropped}
use Rattle.sig_queue.proofs.Ties.{not_outer}

module _ {X : Type 0} where
  table_same : (k n : ℕ) (x : X) → table_from k n (λ _. x) ≡ replicate n x
  unfolding table_from
  table_same k zero x = refl
  table_same k (suc n) x = ap (λ (l : List X). x ∷ l) (table_same (suc k) n x)

  map_replicate : {Y : Type 0} (f : X → Y) (n : ℕ) (x : X) → map f (replicate n x) ≡ replicate n (f x)
  map_replicate f zero x = refl
  map_replicate {Y = Y} f (suc n) x = ap (λ (l : List Y). f x ∷ l) (map_replicate f n x)

  pub replicate_more : (n : ℕ) (x : X) → replicate n x ++ x ∷ [] ≡ replicate (n + 1) x
  replicate_more zero x = refl
  replicate_more (suc n) x = ap (λ (l : List X). x ∷ l) (replicate_more n x) ∙ (let e : suc (n + 1) ≡ suc n + 1 = omega arith in ap (λ (k : ℕ). replicate k x) e)

  pub table_more : (k n : ℕ) (f : ℕ → X) → table_from k n f ++ f (k + n) ∷ [] ≡ table_from k (suc n) f
  unfolding table_from
  table_more k zero f = ap (λ (c : ℕ). f c ∷ []) (omega arith)
  table_more k (suc n) f = ap (λ (l : List X). f k ∷ l) (ap (λ (c : ℕ). table_from (suc k) n f ++ f c ∷ []) (omega arith) ∙ table_more (suc k) n f)

-- the table at the start
pub starts : (z : Setup) (words : List ℕ) (items : List Slot) → IsPolicy z.policy → words ≡ first_words z.policy → items ≡ slot.Outer (first_outer z.policy) ∷ all_buffers → Tied z (opening words items (first_seat z.senders))
unfolding zeros all_buffers
starts z words items proper ws is = record {
  core = opened_with z;
  reached = opened;
  is = λ k. record {
    words = (ws ∙ ap (λ (ts : List ℕ). apart (0 ∷ mode_word (begins_on z.policy) ∷ 0 ∷ ts)) (sym (table_same 0 64 0))) k;
    homes = (ap (map some) is ∙ ap (λ (hs : _). some (slot.Outer (first_outer z.policy)) ∷ hs) (map_replicate some 64 (slot.List []) ∙ sym (table_same 0 64 (some (slot.List []))))) k;
    views = first_seat z.senders ∷ [];
  };
  proper = proper;
}

module _ {X : Type 0} where
  table_below : (k n : ℕ) (f g : ℕ → X) → ((c : ℕ) → c < k + n → f c ≡ g c) → table_from k n f ≡ table_from k n g
  unfolding table_from
  table_below k zero f g e = refl
  table_below k (suc n) f g e = ap (λ (x : X). x ∷ table_from (suc k) n f) (e k (omega arith)) ∙ ap (λ (xs : List X). g k ∷ xs) (table_below (suc k) n f g (λ c h. e c (omega arith)))

  table_shift : (k n : ℕ) (f : ℕ → X) → table_from (suc k) n f ≡ table_from k n (λ c. f (suc c))
  unfolding table_from
  table_shift k zero f = refl
  table_shift k (suc n) f = ap (λ (xs : List X). f (suc k) ∷ xs) (table_shift (suc k) n f)

pub at_or : (xs : List Slot) (i : ℕ) (x : Slot) → get_elem? xs i ≡ some x → get_or xs i slot.Out ≡ x
at_or [] i x e = absurd (some-ne-none x (sym e))
at_or (y ∷ ys) zero x e = some-injective y x e
at_or (y ∷ ys) (suc i) x e = at_or ys i x e

-- what the lists of all buffers have of a sender is what its buffer has
joined_none : (s k n : ℕ) (f : ℕ → List Signal) → ((c : ℕ) → k ≤ c → of sender s (f c) ≡ []) → of sender s (all_pieces (table_from k n f)) ≡ []
unfolding table_from
joined_none s k zero f e = refl
joined_none s k (suc n) f e = of-append sender s (f k) (all_pieces (table_from (suc k) n f)) ∙ (ap (λ (l : List Signal). l ++ of sender s (all_pieces (table_from (suc k) n f))) (e k (omega arith)) ∙ joined_none s (suc k) n f (λ c h. e c (omega arith)))

joined_one : (s b k n : ℕ) (f : ℕ → List Signal) → ((c : ℕ) → c ≢ b → of sender s (f c) ≡ []) → k ≤ b → b < k + n → of sender s (all_pieces (table_from k n f)) ≡ of sender s (f b)
unfolding table_from
joined_one s b k zero f e low high = absurd (omega arith)
joined_one s b k (suc n) f e low high = of-append sender s (f k) (all_pieces (table_from (suc k) n f)) ∙ dite (ℕ_discrete k b)
    (λ is. ap (λ (l : List Signal). of sender s (f k) ++ l) (joined_none s (suc k) n f (λ c h. e c (λ j. omega arith))) ∙ (append-nil (of sender s (f k)) ∙ ap (λ (c : ℕ). of sender s (f c)) is))
    (λ no. ap (λ (l : List Signal). l ++ of sender s (all_pieces (table_from (suc k) n f))) (e k no) ∙ joined_one s b (suc k) n f e (omega arith) (omega arith))

-- where one seat has all senders and the role, and holds nothing, a turn that it doesn't have is free
free_for_one : (q : QState) → Lists q → (id : ℕ) (v : Knows) → get_elem? q.seats id ≡ some v → v.role ≡ true → ((s : ℕ) → has q.setup.senders s ≡ true → has v.senders s ≡ true) → (word : ℕ) (holder : Option ℕ) (Has : Knows → Type 0) → Turn q.seats word holder Has → (Has v → ⊥) → word ≡ 0
free_for_one q law id v at role every word holder Has (inl f) idle = f.zero
free_for_one q law id v at role every word holder Has (inr h) idle = let ok = law.each id v at in let its = law.each h.by h.view h.here in
    let apart : h.by ≢ id = (λ e. idle (subst Has (same_view q.seats id h.by v h.view e at h.here) h.has)) in dite (ℕ_discrete (number h.view) 256)
    (λ e. absurd (apart (sym (its.reads (h.somebody e)) ∙ ok.reads role)))
    (λ n. let s : ℕ = number h.view in let found = least_has h.view.senders n in
    absurd (apart (sym (its.owns s found) ∙ ok.owns s (every s (its.known s found)))))

-- this was put by a way that the policy allows
abbrev IsAllowed : Setup → Item → Type 0
IsAllowed z x = AllowsWay z.policy x.via

-- the table at the end
pub record Ended (z : Setup) (v : Knows) (xs : List Slot) : Type 0 where
  pub core : QState
  pub reached : Reached z core
  pub seat : ℕ
  pub seen : get_elem? core.seats seat ≡ some v
  pub outer : Outer
  pub list : ℕ → List Signal
  pub outer_is : outer ≡ core.outer
  pub list_is : (c : ℕ) → list c ≡ (core.cells c).list
  pub at_outer : get_elem? xs 0 ≡ some (slot.Outer outer)
  pub at_buffer : (c : ℕ) → c < 64 → get_elem? xs (c + 1) ≡ some (slot.List (list c))
  pub flows : (s : ℕ) → of sender s (signals v.put) ≡ of sender s (v.taken ++ outer.signals) ++ of sender s (list (buffer_of s))
  pub near : (s c : ℕ) → c ≢ buffer_of s → of sender s (list c) ≡ []
  pub carried : All (IsCarried z) (signals v.put)
  pub counted : IsCounted z (signals v.put)
  pub ways : All (IsAllowed z) v.put
  pub lawful : IsLawfulJournal z.policy outer.journal
  pub directs : direct_count outer.journal ≡ outer_count v.put
  pub fetches : fetch_count outer.journal ≡ v.fetches

pub ends : (z : Setup) (id : ℕ) (v : Knows) (ws : List ℕ) (xs : List Slot) → Final (Seen (Tied z) id v) ws xs → Idle v → v.role ≡ true → ((s : ℕ) → has z.senders s ≡ true → has v.senders s ≡ true) → Ended z v xs
ends z id v ws xs final idle role every = let tied = final.1.0 in let q : QState = tied.core in let r = tied.reached in let law = lawful z q r in let ls = lists z q r in let ag = agrees z q r in
    let same = same_setup z q r in
    let at : get_elem? q.seats id ≡ some v = ap (λ (y : State Slot Knows). get_elem? y.views id) (sym tied.is) ∙ final.1.1 in
    let whole : (s : ℕ) → has q.setup.senders s ≡ true → has v.senders s ≡ true = (λ s h. every s (ap (λ (y : Setup). has y.senders s) (sym same) ∙ h)) in
    let ok = ls.each id v at in
    let free : q.turn ≡ 0 = free_for_one q ls id v at role whole q.turn q.holder HasOuter ag.turn (not_outer v idle.held) in
    let cell_free : (c : ℕ) → (q.cells c).word ≡ 0 = (λ c. free_for_one q ls id v at role whole (q.cells c).word (q.cells c).holder (HasBuffer c) (ag.cells c) (λ a. subst (Among c) idle.parts a)) in
    let put_is : (s : ℕ) → of putter s v.put ≡ of putter s q.log = (λ s. ⊎_elim (λ (h : has v.senders s ≡ true). ok.own s h)
    (λ (h : has v.senders s ≡ false). ok.only s h ∙ sym (ls.strange s (⊎_elim (λ (k : has q.setup.senders s ≡ true). not_both (has v.senders s) (whole s k) h) (λ (k : has q.setup.senders s ≡ false). k) (bool_cases (has q.setup.senders s))))) (bool_cases (has v.senders s))) in
    let sent_is : (s : ℕ) → of sender s (signals v.put) ≡ of sender s (signals q.log) = (λ s. of_signals s v.put ∙ (ap signals (put_is s) ∙ sym (of_signals s q.log))) in
    let c : CarriedAs z q.log = subst (λ (y : Setup). CarriedAs y q.log) same (carried z q r) in record {
      core = q;
      reached = r;
      seat = id;
      seen = at;
      outer = q.outer;
      list = λ c. (q.cells c).list;
      outer_is = refl;
      list_is = λ c. refl;
      at_outer = final.4 0 (slot.Outer q.outer) (ap (λ (y : State Slot Knows). get_elem? y.homes 0) tied.is ∙ ap (λ (n : ℕ). some (home n (slot.Outer q.outer))) free);
      at_buffer = λ c low. let e : c + 1 ≡ suc c = omega arith in final.4 (c + 1) (slot.List (q.cells c).list) (ap (λ (y : State Slot Knows). get_elem? y.homes (c + 1)) tied.is ∙ (ap (λ (n : ℕ). get_elem? (homes_of q) n) e
          ∙ (at_table 0 64 c (λ d. cell_home (q.cells d)) low ∙ (ap (λ (d : ℕ). some (cell_home (q.cells d))) (omega arith) ∙ ap (λ (n : ℕ). some (home n (slot.List (q.cells c).list))) (cell_free c)))));
      flows = λ s. sent_is s ∙ (law.flows s ∙ ap (λ (l : List Signal). of sender s (l ++ q.outer.signals) ++ of sender s (q.cells (buffer_of s)).list) (sym (ok.took role)));
      near = λ s c n. (law.each c).near s (λ e. n (sym e));
      carried = all_each sender (IsCarried z) (signals v.put) (λ s. subst (All (IsCarried z)) (sym (sent_is s)) (all_of sender (IsCarried z) s (signals q.log) c.all));
      counted = λ s h. subst (IsCounting (first_of z s)) (sym (sent_is s)) (c.counted s h);
      ways = all_each putter (IsAllowed z) v.put (λ s. subst (All (IsAllowed z)) (sym (put_is s)) (all_of putter (IsAllowed z) s q.log (subst (λ (y : Setup). All (IsAllowed y) q.log) same (steady z tied.proper q r).ways)));
      lawful = subst (λ (y : Setup). IsLawfulJournal y.policy q.outer.journal) same (lawful_of q.setup.policy q.outer.journal (journals z tied.proper q r).allowed);
      directs = ways z q r ∙ outer_by_sender q.log v.put (λ s. sym (put_is s));
      fetches = sym (((journals z tied.proper q r).owes id v at).made role);
    }

-- the lists of the slots are those of the buffers
ended_lists : (z : Setup) (v : Knows) (xs : List Slot) (e : Ended z v xs) (ls : List (List Signal)) → ls ≡ lists_in xs 1 64 → ls ≡ table_from 0 64 e.list
ended_lists z v xs e ls lists_are = lists_are ∙ (table_shift 0 64 (λ c. list_or (get_or xs c slot.Out)) ∙ table_below 0 64 (λ c. list_or (get_or xs (suc c) slot.Out)) e.list
    (λ c h. let j : c + 1 ≡ suc c = omega arith in ap list_or (at_or xs (suc c) (slot.List (e.list c)) (ap (get_elem? xs) (sym j) ∙ e.at_buffer c (omega arith)))))

pub ended_rest : (z : Setup) (v : Knows) (xs : List Slot) (e : Ended z v xs) (outer : List Signal) (ls : List (List Signal)) → outer ≡ e.outer.signals → ls ≡ lists_in xs 1 64 → (s : ℕ) → of sender s (signals v.put) ≡ of sender s (v.taken ++ (outer ++ all_pieces ls))
ended_rest z v xs e outer ls is lists_are s = let o : List Signal = e.outer.signals in
    let table : ls ≡ table_from 0 64 e.list = ended_lists z v xs e ls lists_are in
    e.flows s ∙ (ap (λ (l : List Signal). of sender s (v.taken ++ o) ++ l) (sym (ap (λ (z : List (List Signal)). of sender s (all_pieces z)) table ∙ joined_one s (buffer_of s) 0 64 e.list (e.near s) (omega arith) (let h = mod_small s in omega arith)))
    ∙ (sym (of-append sender s (v.taken ++ o) (all_pieces ls)) ∙ (ap (of sender s) (append_assoc v.taken o (all_pieces ls)) ∙ ap (λ (l : List Signal). of sender s (v.taken ++ (l ++ all_pieces ls))) (sym is))))

-- what a queue's end says, of a table that was closed
pub ended_as : (z : Setup) (v : Knows) (xs : List Slot) (e : Ended z v xs) (outer : Outer) (ls : List (List Signal)) (rest : List Signal) → outer ≡ e.outer → ls ≡ lists_in xs 1 64 → rest ≡ outer.signals ++ all_pieces ls → EndsAs z v rest outer.journal
ended_as z v xs e outer ls rest is lists_are rest_is = let order : (s : ℕ) → of sender s (signals v.put) ≡ of sender s (v.taken ++ rest) = (λ s. ended_rest z v xs e outer.signals ls (ap (λ (o : Outer). o.signals) is) lists_are s ∙ ap (λ (l : List Signal). of sender s (v.taken ++ l)) (sym rest_is)) in
    let journal : e.outer.journal ≡ outer.journal = ap (λ (o : Outer). o.journal) (sym is) in record {
      order = order;
      carried = e.carried;
      counted = e.counted;
      left = all_each sender (IsCarried z) rest (λ s. all_rest (IsCarried z) (of sender s v.taken) (of sender s rest) (subst (All (IsCarried z)) (order s ∙ of-append sender s v.taken rest) (all_of sender (IsCarried z) s (signals v.put) e.carried)));
      ways = e.ways;
      lawful = subst (IsLawfulJournal z.policy) journal e.lawful;
      directs = ap direct_count (sym journal) ∙ e.directs;
      fetches = ap fetch_count (sym journal) ∙ e.fetches;
      core = e.core;
      reached = e.reached;
      seat = e.seat;
      seen = e.seen;
      rest_is = rest_is ∙ (λ k. ((is ∙ e.outer_is) k).signals ++ all_pieces ((ended_lists z v xs e ls lists_are ∙ table_below 0 64 e.list (λ c. (e.core.cells c).list) (λ c _. e.list_is c)) k));
      journal_is = ap (λ (o : Outer). o.journal) (is ∙ e.outer_is);
      near = λ b. own_alone b (e.core.cells b).list (λ s n. ap (of sender s) (sym (e.list_is b)) ∙ e.near s b n);
    }

pub words_counted : (p : Policy) → length (first_words p) ≡ 536
unfolding zeros
words_counted p = refl

pub slots_counted : (x : Slot) → length (x ∷ all_buffers) ≡ 65
unfolding all_buffers
slots_counted x = refl

-- a table's first entries, none
pub no_table : {X : Type 0} (k : ℕ) (f : ℕ → X) → table_from k 0 f ≡ []
unfolding table_from
no_table k f = refl

-- one more place is empty
pub emptied_set : (fs : List Bool) (b k : ℕ) → ((j : ℕ) → 0 < j → j < b + 1 → get_or fs j false ≡ false) → 0 < k → k < b + 1 + 1 → get_or (set fs (b + 1) false) k false ≡ false
emptied_set fs b k e h l = dite (ℕ_discrete k (b + 1)) (λ is. ap (λ (z : ℕ). get_or (set fs (b + 1) false) z false) is ∙ flag_dropped fs (b + 1)) (λ n. get_or-set_other fs (b + 1) k false false n ∙ e k h (omega arith))
