-- Each step keeps the rule of the journal.
use Rattle.std.proofs.Common.{arith, ◌≡◌, ◌≢◌, ℕ, ◌+◌, ◌&&◌, ◌||◌, subst, Bool, true, false, not, if◌then◌else◌, List, [], ◌∷◌, ◌++◌, set, sym, refl, ap, ◌∙◌, Some}
use mathlib.Core.Option.{some}
use lib.ListN.{get_elem?}
use Rattle.sig_layout.specs.declared.entry.Entry.{Entry}
use Rattle.sig_layout.specs.declared.entry.Entry.TheVariants.{Direct, Fetch, Remove}
use Rattle.sig_layout.specs.declared.setup.Setup.{Setup}
use Rattle.sig_layout.specs.declared.policy.Policy.{Policy}
use Rattle.sig_layout.specs.declared.outer.Outer.{Outer}
use Rattle.sig_layout.specs.Outers.{put_entries, added}
use Rattle.sig_layout.specs.Summaries.{due_at, is_install, is_remove}
use Rattle.sig_layout.specs.Policies.{IsPolicy, fetch_count}
use Rattle.sig_layout.proofs.Summing.{put_allowed, put_installed, put_due, fetch_allowed, fetch_installed, remove_allowed, remove_installed, remove_due, first_allowed, first_installed, first_due, put_counted, fetch_counted, remove_counted, first_counted}
use Rattle.sig_layout.specs.declared.knows.Knows.{Knows}
use Rattle.sig_layout.specs.Views.{holding, turned_away, after_put, after_same, with_bits, after_fetch, switched_on, switched_off, after_remove, saw, counted, gains, turned_away_at, saw_under, marked, given_back, loses, put_to_buffer, took_part, passed, left_of, right_of, note_of, joined, spent, first_seat}
use Rattle.sig_layout.specs.Core.{QState, opened_with, refused, leave_put, leave_fetch, makes_due, leave_remove, buffer_fetched, buffer_passed, Reached, opened, by_take_outer, by_refuse_outer, by_put, by_leave, by_take_bits, by_fetch, by_mode_on, by_mode_off, by_remove, by_load_mode, by_load_filled, by_take_buffer, by_refuse_buffer, by_set_back, by_load_under, by_set_bit, by_put_to_buffer, by_leave_buffer, by_take_part, by_pass, by_split, by_note, by_join}
use Rattle.sig_layout.specs.Agree.{Doing}
use Rattle.sig_layout.specs.Lists.{Lists}
use Rattle.sig_layout.specs.Journals.{Owes, JournalAs, Journals}
use Rattle.sig_layout.proofs.Sending.{not_both}
use Rattle.sig_layout.proofs.Agreeing.{seat_set, seat_more, one_seat, agrees}
use Rattle.sig_layout.proofs.Listing.{lists}
use Rattle.sig_layout.proofs.Stepping.{same_setup}
use Rattle.sig_layout.proofs.Lawful.{lawful}

abbrev SeatOwes : Policy → List Entry → ℕ → Knows → Type 0
SeatOwes p j i v = Owes p j v.role v.due v.fetches

module _ (p : Policy) (w : IsPolicy p) (j : List Entry) (mode removing switched : Bool) (seats : List Knows)
    (law : JournalAs p j mode removing switched seats) where
  -- a seat changes, but not what it knows of this
  same : (i : ℕ) (v x : Knows) → get_elem? seats i ≡ some v → Owes p j x.role x.due x.fetches
      → JournalAs p j mode removing switched (set seats i x)
  same i v x at mine = record {
    allowed = law.allowed;
    moded = law.moded;
    on = law.on;
    owes = seat_set (SeatOwes p j) seats i x mine (λ k d _ at'. law.owes k d at');
  }

  more : (x : Knows) → Owes p j x.role x.due x.fetches → JournalAs p j mode removing switched (seats ++ x ∷ [])
  more x mine = record { allowed = law.allowed; moded = law.moded; on = law.on; owes = seat_more (SeatOwes p j) seats x mine law.owes }

  -- what is due at seats stays where nothing else becomes due
  moved : (j' : List Entry) → is_remove (due_at p j) ≡ is_remove (due_at p j') → fetch_count j ≡ fetch_count j' → (d : Knows)
      → Owes p j d.role d.due d.fetches → Owes p j' d.role d.due d.fetches
  moved j' e k d o = record { reader = λ r. o.reader r ∙ e; others = o.others; made = λ r. o.made r ∙ k; unmade = o.unmade }

  after_put_entries : (i : ℕ) (v x : Knows) (r : Bool) → get_elem? seats i ≡ some v → x.role ≡ v.role → x.due ≡ v.due
      → x.fetches ≡ v.fetches → removing ≡ false → switched ≡ is_install (due_at p (j ++ Direct r ∷ []))
      → JournalAs p (j ++ put_entries r switched) mode removing false (set seats i x)
  after_put_entries i v x r at role dues counts no_removal is = let e = put_due p w j r switched is in
      let k = put_counted j r switched in record {
        allowed = put_allowed p w j law.allowed r switched is;
        moded = λ _ _. put_installed j r switched mode law.on (λ s. law.moded s no_removal);
        on = λ h. not_both false h refl;
        owes = seat_set (SeatOwes p (j ++ put_entries r switched)) seats i x
            (subst (λ (z : Bool × Bool × ℕ). Owes p (j ++ put_entries r switched) z.0 z.1 z.2)
            (λ i. (sym role i, sym dues i, sym counts i)) (moved (j ++ put_entries r switched) e k v (law.owes i v at)))
            (λ n d _ at'. moved (j ++ put_entries r switched) e k d (law.owes n d at'));
      }

-- one seat has the role, so no other thinks that a removal is due
alone_owes : (q : QState) → Lists q → (i : ℕ) (v : Knows) → get_elem? q.seats i ≡ some v → v.role ≡ true
    → (p : Policy) (j j' : List Entry) → (k : ℕ) (d : Knows) → k ≢ i → get_elem? q.seats k ≡ some d → Owes p j d.role d.due d.fetches
    → Owes p j' d.role d.due d.fetches
alone_owes q ls i v at role p j j' k d n at' o = record {
  reader = λ r. absurd
      (n (sym ((ls.each k d at').reads r) ∙ (ls.each i v at).reads role));
  others = o.others;
  made = λ r. absurd (n (sym ((ls.each k d at').reads r) ∙ (ls.each i v at).reads role));
  unmade = o.unmade;
}

or_none : (a b : Bool) → b ≡ false → (a || b) ≡ a
or_none true b h = refl
or_none false b h = h

split_left : (p : Policy) (j : List Entry) (r d role : Bool) (n : ℕ) → Owes p j r d n
    → Owes p j (r && not role) (if role then false else d) (if role then 0 else n)
split_left p j true d true n o = record { reader = λ h. not_both false h refl; others = λ _. refl; made = λ h. not_both false h refl; unmade = λ _. refl }
split_left p j true d false n o = record { reader = o.reader; others = λ h. not_both true refl h; made = o.made; unmade = λ h. not_both true refl h }
split_left p j false d true n o = record { reader = λ h. not_both false h refl; others = λ _. refl; made = λ h. not_both false h refl; unmade = λ _. refl }
split_left p j false d false n o = record { reader = λ h. not_both false h refl; others = o.others; made = λ h. not_both false h refl; unmade = o.unmade }

split_right : (p : Policy) (j : List Entry) (r d role : Bool) (n : ℕ) → (role ≡ true → r ≡ true) → Owes p j r d n
    → Owes p j role (if role then d else false) (if role then n else 0)
split_right p j r d true n h o = record {
  reader = λ _. o.reader (h refl);
  others = λ k. not_both true refl k;
  made = λ _. o.made (h refl);
  unmade = λ k. not_both true refl k;
}
split_right p j r d false n h o = record { reader = λ k. not_both false k refl; others = λ _. refl; made = λ k. not_both false k refl; unmade = λ _. refl }

join_owes : (p : Policy) (j : List Entry) (r s d e : Bool) (m n : ℕ) → (r ≡ true → s ≡ true → ⊥) → Owes p j r d m → Owes p j s e n
    → Owes p j (if r then true else s) (d || e) (m + n)
join_owes p j true true d e m n one o k = absurd (one refl refl)
join_owes p j true false d e m n one o k = let zero_n : n ≡ 0 = k.unmade refl in let made_m = o.made refl in
    record {
      reader = λ _. or_none d e (k.others refl) ∙ o.reader refl;
      others = λ h. not_both true refl h;
      made = λ _. omega arith;
      unmade = λ h. not_both true refl h;
    }
join_owes p j false s d e m n one o k = let no : d ≡ false = o.others refl in let zero_m : m ≡ 0 = o.unmade refl in record {
  reader = λ h. ap (λ (z : Bool). z || e) no ∙ k.reader h;
  others = λ h. ap (λ (z : Bool). z || e) no ∙ k.others h;
  made = λ h. let made_n = k.made h in omega arith;
  unmade = λ h. let none = k.unmade h in omega arith;
}

module _ (z : Setup) (proper : IsPolicy z.policy) where
  proper_of : (q : QState) → Reached z q → IsPolicy q.setup.policy
  proper_of q r = subst (λ (y : Setup). IsPolicy y.policy) (sym (same_setup z q r)) proper

  first : Journals (opened_with z)
  first = record {
    allowed = first_allowed z.policy proper;
    moded = λ _ _. first_installed z.policy;
    on = λ h. not_both false h refl;
    owes = one_seat (SeatOwes z.policy (opened_with z).outer.journal) (first_seat z.senders)
        (record {
          reader = λ _. sym (first_due z.policy);
          others = λ h. refl;
          made = λ _. first_counted z.policy;
          unmade = λ _. refl;
        });
  }

  set_with : (q : QState) → Journals q → (i : ℕ) (v x : Knows) → get_elem? q.seats i ≡ some v
      → Owes q.setup.policy q.outer.journal x.role x.due x.fetches
      → JournalAs q.setup.policy q.outer.journal q.mode q.removing q.switched (set q.seats i x)
  set_with q l i v x at mine = record {
    allowed = l.allowed;
    moded = l.moded;
    on = l.on;
    owes = seat_set (SeatOwes q.setup.policy q.outer.journal) q.seats i x mine (λ k d _ at'. l.owes k d at');
  }

  -- what the holder of the outer turn has is the machine's
  outer_of : (q : QState) (r : Reached z q) (i : ℕ) (v : Knows) (o : Outer) → get_elem? q.seats i ≡ some v → v.held ≡ Some o
      → Doing q i v o
  outer_of q r i v o at held = ((agrees z q r).each i v at).outer o held

  pub journals : (q : QState) → Reached z q → Journals q
  journals _ opened = first
  journals _ (by_take_outer q i v can r) = let l = journals q r in set_with q l i v (holding v q.outer) can.at (l.owes i v can.at)
  journals _ (by_refuse_outer q i v can r) = let l = journals q r in set_with q l i v (turned_away v q.turn) can.at (l.owes i v can.at)
  journals _ (by_put q i v o x can r) = let l = journals q r in let out = outer_of q r i v o can.at can.held in
      subst (λ (o : Outer). JournalAs q.setup.policy (o.journal ++ put_entries (refused q i v) v.switched) q.mode q.removing false
      (leave_put q i v o x).seats) out.value
      (subst (λ (s : Bool). JournalAs q.setup.policy (q.outer.journal ++ put_entries (refused q i v) s) q.mode q.removing false
      (set q.seats i (after_put v (added q.outer x (refused q i v) v.switched)))) out.switch
      (after_put_entries q.setup.policy (proper_of q r) q.outer.journal q.mode q.removing q.switched q.seats l i v
      (after_put v (added q.outer x (refused q i v) v.switched)) (refused q i v) can.at refl refl refl (out.remove ∙ can.removing)
      (out.switch ∙ (can.installs ∙ ap (λ (y : Outer). is_install (due_at q.setup.policy (y.journal ++ Direct (refused q i v) ∷ [])))
      (sym out.value)))))
  journals _ (by_leave q i v o can r) = let l = journals q r in set_with q l i v (after_same v) can.at (l.owes i v can.at)
  journals _ (by_take_bits q i v o can r) = let l = journals q r in set_with q l i v (with_bits v q.filled) can.at (l.owes i v can.at)
  journals _ (by_fetch q i v o can r) = let l = journals q r in let out = outer_of q r i v o can.at can.held in
      let j : List Entry = q.outer.journal in let p : Policy = q.setup.policy in
      subst (λ (o : Outer). JournalAs p (o.journal ++ Fetch v.moved ∷ []) q.mode q.removing q.switched
      (leave_fetch q i v o).seats) out.value record {
        allowed = fetch_allowed p (proper_of q r) j l.allowed v.moved (sym ((l.owes i v can.at).reader can.role) ∙ can.not_due);
        moded = λ s m. l.moded s m ∙ sym (fetch_installed j v.moved);
        on = l.on;
        owes = seat_set (SeatOwes p (j ++ Fetch v.moved ∷ [])) q.seats i (after_fetch v (makes_due q i v q.outer))
            (record {
              reader = λ _. refl;
              others = λ h. not_both v.role can.role h;
              made = λ _. ap (λ (n : ℕ). n + 1) ((l.owes i v can.at).made can.role) ∙ fetch_counted j v.moved;
              unmade = λ h. not_both v.role can.role h;
            })
            (λ k d n at'. alone_owes q (lists z q r) i v can.at can.role p j (j ++ Fetch v.moved ∷ []) k d n at' (l.owes k d at'));
      }
  journals _ (by_mode_on q i v o can r) = let l = journals q r in
      let s = set_with q l i v (switched_on v) can.at (l.owes i v can.at) in
      record { allowed = s.allowed; moded = λ h. not_both true refl h; on = λ _. refl; owes = s.owes }
  journals _ (by_mode_off q i v o can r) = let l = journals q r in let out = outer_of q r i v o can.at can.begins.held in
      let s = set_with q l i v (switched_off v) can.at (l.owes i v can.at) in
      record {
        allowed = s.allowed;
        moded = λ _ h. not_both true refl h;
        on = λ h. not_both q.switched h (out.switch ∙ can.begins.switched);
        owes = s.owes;
      }
  journals _ (by_remove q i v o can r) = let l = journals q r in let out = outer_of q r i v o can.at can.held in
      let j : List Entry = q.outer.journal in let p : Policy = q.setup.policy in let law = lawful z q r in
      subst (λ (o : Outer). JournalAs p (o.journal ++ Remove ∷ []) q.mode false q.switched
      (leave_remove q i v o).seats) out.value record {
        allowed = remove_allowed p (proper_of q r) j l.allowed (sym ((l.owes i v can.at).reader can.role) ∙ can.is_due);
        moded = λ _ _. law.off (out.remove ∙ can.removing) ∙ sym (remove_installed j);
        on = l.on;
        owes = seat_set (SeatOwes p (j ++ Remove ∷ [])) q.seats i (after_remove v) (record {
          reader = λ _. sym (remove_due p j);
          others = λ _. refl;
          made = λ r. (l.owes i v can.at).made r ∙ remove_counted j;
          unmade = (l.owes i v can.at).unmade;
        })
            (λ k d n at'. alone_owes q (lists z q r) i v can.at can.role p j (j ++ Remove ∷ []) k d n at' (l.owes k d at'));
      }
  journals _ (by_load_mode q i v can r) = let l = journals q r in set_with q l i v (saw v q.mode) can.at (l.owes i v can.at)
  journals _ (by_load_filled q i v at r) = let l = journals q r in set_with q l i v (counted v q.filled) at (l.owes i v at)
  journals _ (by_take_buffer q i v c can r) = let l = journals q r in
      set_with q l i v (gains v c (q.cells c).list) can.at (l.owes i v can.at)
  journals _ (by_refuse_buffer q i v c can r) = let l = journals q r in
      set_with q l i v (turned_away_at v (c + 3) (q.cells c).word) can.at (l.owes i v can.at)
  journals _ (by_set_back q i v c o can r) = let l = journals q r in set_with q l i v (given_back v c) can.at (l.owes i v can.at)
  journals _ (by_load_under q i v p can r) = let l = journals q r in set_with q l i v (saw_under v p q.mode) can.at (l.owes i v can.at)
  journals _ (by_set_bit q i v p can r) = let l = journals q r in set_with q l i v (marked v p) can.at (l.owes i v can.at)
  journals _ (by_put_to_buffer q i v p x can r) = let l = journals q r in
      set_with q l i v (put_to_buffer v (p.list ++ x ∷ [])) can.at (l.owes i v can.at)
  journals _ (by_leave_buffer q i v p ps can r) = let l = journals q r in set_with q l i v (loses v) can.at (l.owes i v can.at)
  journals _ (by_take_part q i v p ps o can r) = let l = journals q r in let out = outer_of q r i v o can.at can.held in
      subst (λ (o' : Outer). JournalAs q.setup.policy o'.journal q.mode q.removing q.switched
      (buffer_fetched q i v p ps o).seats) out.value (set_with q l i v (took_part v o p) can.at (l.owes i v can.at))
  journals _ (by_pass q i v p ps o can r) = let l = journals q r in let out = outer_of q r i v o can.at can.held in
      subst (λ (o' : Outer). JournalAs q.setup.policy o'.journal q.mode q.removing q.switched
      (buffer_passed q i v p ps o).seats) out.value (set_with q l i v (passed v o p) can.at (l.owes i v can.at))
  journals _ (by_split q i v given role can r) = let l = journals q r in let p : Policy = q.setup.policy in
      let j : List Entry = q.outer.journal in let o = l.owes i v can.at in
      let s = set_with q l i v (left_of v given role) can.at (split_left p j v.role v.due role v.fetches o) in
      record {
        allowed = s.allowed;
        moded = s.moded;
        on = s.on;
        owes = seat_more (SeatOwes p j) (set q.seats i (left_of v given role)) (right_of v given role)
            (split_right p j v.role v.due role v.fetches can.role_of o) s.owes;
      }
  journals _ (by_note q i v at r) = let l = journals q r in
      record {
        allowed = l.allowed;
        moded = l.moded;
        on = l.on;
        owes = seat_more (SeatOwes q.setup.policy q.outer.journal) q.seats (note_of v) (record {
          reader = λ h. not_both false h refl;
          others = λ _. refl;
          made = λ h. not_both false h refl;
          unmade = λ _. refl;
        }) l.owes;
      }
  journals _ (by_join q i v j w can r) = let l = journals q r in let ls = lists z q r in let p : Policy = q.setup.policy in
      let jo : List Entry = q.outer.journal in
      let one : v.role ≡ true → w.role ≡ true → ⊥ = (λ a b. can.apart (sym ((ls.each j w can.there).reads b)
      ∙ (ls.each i v can.at).reads a)) in
      let s = set_with q l i v (joined v w) can.at
      (join_owes p jo v.role w.role v.due w.due v.fetches w.fetches one (l.owes i v can.at) (l.owes j w can.there)) in
      record {
        allowed = s.allowed;
        moded = s.moded;
        on = s.on;
        owes = seat_set (SeatOwes p jo) (set q.seats i (joined v w)) j spent (record {
          reader = λ h. not_both false h refl;
          others = λ _. refl;
          made = λ h. not_both false h refl;
          unmade = λ _. refl;
        }) (λ k d _ at'. s.owes k d at');
      }
