-- Each step keeps the rule of the buffers.
use Rattle.std.proofs.Common.{◌≡◌, ◌≢◌, ◌⊎◌, ℕ, suc, ◌<◌, ◌==◌, subst, Bool, true, false, not, if◌then◌else◌, List, [], ◌∷◌, ◌++◌, length, sym, refl, ap, ◌∙◌, arith, eq-eqb, ne_eqb, append_assoc, append-nil, inl, inr, ⊎_elim, w64, Option, Some, None}
use Rattle.std.specs.Int.{bit_at}
use Rattle.std.proofs.lemmas.Nat.Bits.{bit_at_set_same, bit_at_set_other, bit_at-zero}
use mathlib.Core.Logic.{dite}
use mathlib.Core.Option.{some}
use native.Mathlib.Decide.{ℕ_discrete, dec_lt}
use lib.ListN.{get_elem?}
use Rattle.sig_kinds.specs.declared.signal.Signal.{Signal}
use Rattle.sig_layout.specs.declared.setup.Setup.{Setup}
use Rattle.sig_layout.specs.declared.via.Via.TheVariants as via
use Rattle.sig_layout.specs.declared.item.Item.{Item}
use Rattle.sig_layout.specs.declared.outer.Outer.{Outer}
use Rattle.sig_layout.specs.Sets.{has}
use Rattle.sig_layout.specs.Sent.{sender, of, signals, Prefix}
use Rattle.sig_layout.proofs.Sending.{not_both, none_some, some_same, of-append, of_other, prefix_longer, prefix_of_same, bool_cases, signals-append}
use Rattle.sig_layout.specs.declared.held_buffer.HeldBuffer.{HeldBuffer}
use Rattle.sig_layout.specs.declared.knows.Knows.{Knows}
use Rattle.sig_layout.specs.Views.{filled_at, with_bit}
use Rattle.sig_layout.specs.Outers.{behind}
use Rattle.sig_layout.specs.Core.{Cell, QState, put, buffer_of, opened_with, take_outer, leave_put, leave_same, take_bits, leave_fetch, mode_on, mode_off, leave_remove, set_back, buffer_fetched, buffer_passed, Reached, opened, by_take_outer, by_refuse_outer, by_put, by_leave, by_take_bits, by_fetch, by_mode_on, by_mode_off, by_remove, by_load_mode, by_load_filled, by_take_buffer, by_refuse_buffer, by_set_back, by_load_under, by_set_bit, by_put_to_buffer, by_leave_buffer, by_take_part, by_pass, by_split, by_note, by_join}
use Rattle.sig_layout.specs.Agree.{HeldBy, HoldsAll, Agrees}
use Rattle.sig_layout.specs.Law.{Ahead, CellOk, Law}
use Rattle.sig_layout.proofs.Putting.{put_here, put_else, at_each}
use Rattle.sig_layout.proofs.Agreeing.{same_view, agrees}
use Rattle.sig_layout.proofs.Listing.{lists}

-- the bits of a word
pub bit_now : (n c : ℕ) → c < 64 → filled_at (with_bit n c) c ≡ true
bit_now n c h = eq-eqb (bit_at (with_bit n c) c) 1 (bit_at_set_same w64 n c h)

pub bit_else : (n c d : ℕ) → c < 64 → d ≢ c → filled_at (with_bit n c) d ≡ filled_at n d
bit_else n c d h e = ap (λ (z : ℕ). z == 1) (bit_at_set_other w64 n c h d e)

pub no_bit : (c : ℕ) → filled_at 0 c ≡ false
no_bit c = ap (λ (z : ℕ). z == 1) (bit_at-zero c)

module _ (small : (s : ℕ) → buffer_of s < 64) (q : QState) (law : Law q) where
  abbrev Ok : ℕ → Cell → Type 0
  Ok c = CellOk q.mode q.fetching q.removing q.progress c (filled_at q.filled c)

  abbrev Out : Type 0
  Out = List Signal

  abbrev out : List Signal
  out = q.taken ++ q.outer.signals

  abbrev Far : ℕ → Type 0
  Far c = Ahead q.removing q.progress c

  abbrev Caught : Cell → Type 0
  Caught x = (q.fetching ≡ true) × (x.mask ≡ true)

  -- a seat that forgets knows no less than before
  forgets : (i s : ℕ) → put q.saw_off i false (q.owner s) ≡ true → (of sender s (q.cells (buffer_of s)).list ≡ []) ⊎ Far (buffer_of s)
  forgets i s h = dite (ℕ_discrete (q.owner s) i)
      (λ e. not_both (put q.saw_off i false (q.owner s)) h (ap (put q.saw_off i false) e ∙ put_here q.saw_off i false))
      (λ n. law.knows_off s (sym (put_else q.saw_off i (q.owner s) false n) ∙ h))

  still_quiet : (i j : ℕ) → q.removing ≡ true → q.holder ≡ Some j → put q.saw_off i false j ≡ false
  still_quiet i j r t = dite (ℕ_discrete j i) (λ e. ap (put q.saw_off i false) e ∙ put_here q.saw_off i false)
      (λ n. put_else q.saw_off i j false n ∙ law.quiet j r t)

  -- a step that changes nothing but views
  pub keeps_views : (seats : List Knows) → Law (record q { seats = seats })
  keeps_views seats = record {
    each = law.each;
    flows = law.flows;
    knows_off = law.knows_off;
    off = law.off;
    one = law.one;
    quiet = law.quiet;
    fresh = law.fresh;
    grown = law.grown;
  }

  pub keeps_take_outer : (i : ℕ) (v : Knows) → q.removing ≡ false → Law (take_outer q i v)
  keeps_take_outer i v no_removal = record {
    each = law.each;
    flows = law.flows;
    knows_off = law.knows_off;
    off = law.off;
    one = law.one;
    quiet = λ j r _. not_both q.removing r no_removal;
    fresh = law.fresh;
    grown = law.grown;
  }

  pub keeps_forget : (i : ℕ) (seats : List Knows) → Law (record q { saw_off = put q.saw_off i false; seats = seats })
  keeps_forget i seats = record {
    each = law.each;
    flows = law.flows;
    knows_off = forgets i;
    off = law.off;
    one = law.one;
    quiet = still_quiet i;
    fresh = law.fresh;
    grown = law.grown;
  }

  -- one more signal in the outer list, of a sender that has nothing in its buffer
  pub keeps_put : (i : ℕ) (v : Knows) (x : Signal) → q.fetching ≡ false → q.removing ≡ false → q.saw_off i ≡ true
      → q.owner x.from.0 ≡ i → Law (leave_put q i v q.outer x)
  keeps_put i v x no_fetch no_removal saw own = let o : List Signal = q.outer.signals in
      let new : Item = record { signal = x; via = via.Outer } in record {
        each = law.each;
        flows = λ s. ap (of sender s) (signals-append q.log (new ∷ []))
            ∙ (of-append sender s (signals q.log) (x ∷ []) ∙ (dite (ℕ_discrete x.from.0 s)
            (λ e. let none : of sender s (q.cells (buffer_of s)).list ≡ [] = ⊎_elim
            (λ (z : of sender s (q.cells (buffer_of s)).list ≡ []). z) (λ (a : Far (buffer_of s)). not_both q.removing a.0 no_removal)
            (law.knows_off s (ap q.saw_off (ap q.owner (sym e) ∙ own) ∙ saw)) in
            ap (λ (l : List Signal). l ++ of sender s (x ∷ [])) (law.flows s
            ∙ (ap (λ (l : List Signal). of sender s out ++ l) none ∙ append-nil (of sender s out)))
            ∙ (sym (of-append sender s out (x ∷ [])) ∙ (ap (of sender s) (append_assoc q.taken o (x ∷ []))
            ∙ (sym (append-nil (of sender s (q.taken ++ (o ++ x ∷ []))))
            ∙ ap (λ (l : List Signal). of sender s (q.taken ++ (o ++ x ∷ [])) ++ l) (sym none)))))
            (λ n. let none : of sender s (x ∷ []) ≡ [] = of_other sender s x [] n in
            ap (λ (l : List Signal). of sender s (signals q.log) ++ l) none ∙ (append-nil (of sender s (signals q.log)) ∙ (law.flows s
            ∙ ap (λ (l : List Signal). l ++ of sender s (q.cells (buffer_of s)).list) (sym (append-nil (of sender s out))
            ∙ (ap (λ (l : List Signal). of sender s out ++ l) (sym none)
            ∙ (sym (of-append sender s out (x ∷ [])) ∙ ap (of sender s) (append_assoc q.taken o (x ∷ []))))))))));
        knows_off = forgets i;
        off = law.off;
        one = law.one;
        quiet = λ j r _. not_both q.removing r no_removal;
        fresh = λ f. not_both q.fetching f no_fetch;
        grown = λ f. not_both q.fetching f no_fetch;
      }

  -- after a fetch, what was marked by the mask isn't any more, but the mask is empty
  no_mask : (c : ℕ) → q.removing ≡ false → (q.fetching ≡ true → (d : ℕ) → d < 64 → (q.cells d).mask ≡ false)
      → CellOk q.mode false q.removing q.progress c (filled_at q.filled c) (q.cells c)
  no_mask c no_removal empty = let ok = law.each c in let x : Cell = q.cells c in record {
    far = ok.far;
    near = ok.near;
    shut = ok.shut;
    knows_on = ok.knows_on;
    marked = ⊎_elim (λ (n : (x.list ≡ []) × (x.set ≡ false)). inl n)
        (λ (m : (filled_at q.filled c ≡ true) ⊎ (Caught x ⊎ Far c)). ⊎_elim
        (λ (f : filled_at q.filled c ≡ true). inr (inl f))
        (λ (k : Caught x ⊎ Far c). ⊎_elim
        (λ (y : Caught x). dite (dec_lt c 64) (λ low. not_both x.mask y.1 (empty y.0 c low)) (λ high. let f = ok.far (omega arith) in
        inl (f.0, f.1)))
        (λ (a : Far c). not_both q.removing a.0 no_removal) k) m) ok.marked;
  }

  pub keeps_leave : (i : ℕ) (v : Knows) → q.removing ≡ false → (q.fetching ≡ true → (d : ℕ) → d < 64 → (q.cells d).mask ≡ false)
      → Law (leave_same q i v)
  keeps_leave i v no_removal empty = record {
    each = λ c. no_mask c no_removal empty;
    flows = law.flows;
    knows_off = forgets i;
    off = law.off;
    one = λ _. refl;
    quiet = λ j r _. not_both q.removing r no_removal;
    fresh = λ f. not_both false f refl;
    grown = λ f. not_both false f refl;
  }

  pub keeps_fetch : (i : ℕ) (v : Knows) → q.removing ≡ false → ((d : ℕ) → d < 64 → (q.cells d).mask ≡ false)
      → Law (leave_fetch q i v q.outer)
  keeps_fetch i v no_removal empty = record {
    each = λ c. no_mask c no_removal (λ _. empty);
    flows = λ s. law.flows s ∙ ap (λ (l : List Signal). of sender s l ++ of sender s (q.cells (buffer_of s)).list)
        (sym (append-nil out));
    knows_off = forgets i;
    off = law.off;
    one = λ _. refl;
    quiet = λ j r _. not_both q.removing r no_removal;
    fresh = λ h. not_both false h refl;
    grown = λ h. not_both false h refl;
  }

  -- where a fetch leaves, all that a sender had put when it took the bits is taken, but where it set the bit of its buffer again
  pub fetched_all : q.fetching ≡ true → ((d : ℕ) → d < 64 → (q.cells d).mask ≡ false) → (s : ℕ)
      → filled_at q.back (buffer_of s) ≡ false → Prefix (of sender s (signals q.base)) (of sender s out)
  fetched_all f empty s none_back = ⊎_elim (λ (p : Prefix (of sender s (signals q.base)) (of sender s out)). p)
      (λ (k : ((q.cells (buffer_of s)).mask ≡ true) ⊎ (filled_at q.back (buffer_of s) ≡ true)). ⊎_elim
      (λ (m : (q.cells (buffer_of s)).mask ≡ true). not_both (q.cells (buffer_of s)).mask m (empty (buffer_of s) (small s)))
      (λ (m : filled_at q.back (buffer_of s) ≡ true). not_both (filled_at q.back (buffer_of s)) m none_back) k) (law.fresh f s)

  pub keeps_take_bits : (i : ℕ) (v : Knows) → q.fetching ≡ false → q.removing ≡ false → Law (take_bits q i v)
  keeps_take_bits i v no_fetch no_removal = record {
    each = λ c. let ok = law.each c in let x : Cell = q.cells c in record {
      far = ok.far;
      near = ok.near;
      shut = ok.shut;
      knows_on = ok.knows_on;
      marked = ⊎_elim (λ (n : (x.list ≡ []) × (x.set ≡ false)). inl n)
          (λ (m : (filled_at q.filled c ≡ true) ⊎ (Caught x ⊎ Far c)). ⊎_elim
          (λ (f : filled_at q.filled c ≡ true). inr (inr (inl (refl, f))))
          (λ (k : Caught x ⊎ Far c). ⊎_elim
          (λ (y : Caught x). not_both q.fetching y.0 no_fetch)
          (λ (a : Far c). not_both q.removing a.0 no_removal) k) m) ok.marked;
    };
    flows = law.flows;
    knows_off = law.knows_off;
    off = law.off;
    one = λ r. not_both q.removing r no_removal;
    quiet = λ j r _. not_both q.removing r no_removal;
    fresh = λ _ s. let b : ℕ = buffer_of s in let x : Cell = q.cells b in ⊎_elim
        (λ (n : (x.list ≡ []) × (x.set ≡ false)). inl
        (prefix_of_same (of sender s (signals q.log)) (of sender s out) (law.flows s
        ∙ (ap (λ (l : List Signal). of sender s out ++ of sender s l) n.0 ∙ append-nil (of sender s out)))))
        (λ (m : (filled_at q.filled b ≡ true) ⊎ (Caught x ⊎ Far b)). ⊎_elim
        (λ (f : filled_at q.filled b ≡ true). inr (inl f))
        (λ (k : Caught x ⊎ Far b). ⊎_elim
        (λ (y : Caught x). not_both q.fetching y.0 no_fetch)
        (λ (a : Far b). not_both q.removing a.0 no_removal) k) m) (law.each b).marked;
    grown = λ _ s. prefix_of_same (of sender s (signals q.log)) (of sender s (signals q.log)) refl;
  }

  pub keeps_mode_on : (i : ℕ) (v : Knows) → q.removing ≡ false → Law (mode_on q i v)
  keeps_mode_on i v no_removal = record {
    each = λ c. let ok = law.each c in record {
      far = ok.far;
      near = ok.near;
      shut = λ m. not_both true refl m;
      knows_on = λ _. inl refl;
      marked = ok.marked;
    };
    flows = law.flows;
    knows_off = law.knows_off;
    off = λ r. not_both q.removing r no_removal;
    one = law.one;
    quiet = law.quiet;
    fresh = law.fresh;
    grown = law.grown;
  }

  pub keeps_mode_off : (i : ℕ) (v : Knows) → q.holder ≡ Some i → q.fetching ≡ false → q.saw_off i ≡ false → Law (mode_off q i v)
  keeps_mode_off i v mine no_fetch blind = record {
    each = λ c. let ok = law.each c in record {
      far = ok.far;
      near = ok.near;
      shut = λ _. inr (refl, omega arith);
      knows_on = λ _. inr (refl, omega arith);
      marked = inr (inr (inr (refl, omega arith)));
    };
    flows = law.flows;
    knows_off = λ s _. inr (refl, omega arith);
    off = λ _. refl;
    one = λ _. no_fetch;
    quiet = λ j _ t. ap q.saw_off (some_same j i (sym t ∙ mine)) ∙ blind;
    fresh = λ f. not_both q.fetching f no_fetch;
    grown = λ f. not_both q.fetching f no_fetch;
  }

  pub keeps_remove : (i : ℕ) (v : Knows) → q.removing ≡ true → q.progress ≡ 64 → Law (leave_remove q i v q.outer)
  keeps_remove i v r whole = record {
    each = λ c. let ok = law.each c in let x : Cell = q.cells c in record {
      far = ok.far;
      near = ok.near;
      shut = λ m. ⊎_elim (λ (n : x.list ≡ []). inl n) (λ (a : Far c). let h = a.1 in inl (ok.far (omega arith)).0) (ok.shut m);
      knows_on = λ y. ⊎_elim (λ (m : q.mode ≡ true). inl m) (λ (a : Far c). let h = a.1 in
          not_both x.sure y (ok.far (omega arith)).2) (ok.knows_on y);
      marked = ⊎_elim (λ (n : (x.list ≡ []) × (x.set ≡ false)). inl n)
          (λ (m : (filled_at q.filled c ≡ true) ⊎ (Caught x ⊎ Far c)). ⊎_elim
          (λ (f : filled_at q.filled c ≡ true). inr (inl f))
          (λ (k : Caught x ⊎ Far c). ⊎_elim
          (λ (y : Caught x). inr (inr (inl y)))
          (λ (a : Far c). let h = a.1 in let f = ok.far (omega arith) in inl (f.0, f.1)) k) m) ok.marked;
    };
    flows = law.flows;
    knows_off = λ s h. ⊎_elim (λ (n : of sender s (q.cells (buffer_of s)).list ≡ []). inl n)
        (λ (a : Far (buffer_of s)). let k = a.1 in let t = small s in absurd (omega arith)) (forgets i s h);
    off = λ h. not_both false h refl;
    one = λ h. not_both false h refl;
    quiet = λ j h _. not_both false h refl;
    fresh = law.fresh;
    grown = law.grown;
  }

  -- what a load of the mode tells
  pub keeps_load : (i : ℕ) (seats : List Knows) → (q.removing ≡ true → q.holder ≡ Some i → ⊥)
      → Law (record q { saw_off = put q.saw_off i (not q.mode); seats = seats })
  keeps_load i seats no_remover = let saw : Bool = not q.mode in let saw' : ℕ → Bool = put q.saw_off i saw in record {
    each = law.each;
    flows = law.flows;
    knows_off = λ s h. dite (ℕ_discrete (q.owner s) i)
        (λ e. ⊎_elim
        (λ (m : q.mode ≡ true). not_both (saw' (q.owner s)) h (ap saw' e ∙ (put_here q.saw_off i saw ∙ ap not m)))
        (λ (m : q.mode ≡ false). ⊎_elim (λ (n : (q.cells (buffer_of s)).list ≡ []). inl (ap (of sender s) n))
        (λ (a : Far (buffer_of s)). inr a) ((law.each (buffer_of s)).shut m)) (bool_cases q.mode))
        (λ n. law.knows_off s (sym (put_else q.saw_off i (q.owner s) saw n) ∙ h));
    off = law.off;
    one = law.one;
    quiet = λ j r t. dite (ℕ_discrete j i) (λ e. absurd (no_remover r (t ∙ ap (λ (z : ℕ). Some z) e)))
        (λ n. put_else q.saw_off i j saw n ∙ law.quiet j r t);
    fresh = law.fresh;
    grown = law.grown;
  }

  same_field : {X : Type 0} (g : Cell → X) (c : ℕ) (x : Cell) → g x ≡ g (q.cells c) → (d : ℕ) → g (put q.cells c x d) ≡ g (q.cells d)
  same_field g c x e d = dite (ℕ_discrete d c) (λ h. ap (λ (z : ℕ). g (put q.cells c x z)) h
      ∙ (ap g (put_here q.cells c x) ∙ (e ∙ ap (λ (z : ℕ). g (q.cells z)) (sym h)))) (λ n. ap g (put_else q.cells c d x n))

  -- a step on one cell that keeps its list and its place in the mask, and maybe sets its bit
  keeps_cell : (c fl : ℕ) (x : Cell) (seats : List Knows) → x.list ≡ (q.cells c).list → x.mask ≡ (q.cells c).mask
      → CellOk q.mode q.fetching q.removing q.progress c (filled_at fl c) x
      → ((d : ℕ) → d ≢ c → filled_at fl d ≡ filled_at q.filled d)
      → Law (record q { filled = fl; cells = put q.cells c x; seats = seats })
  keeps_cell c fl x seats lists masks ok bits = let list_is = same_field (λ (z : Cell). z.list) c x lists in
      let mask_is = same_field (λ (z : Cell). z.mask) c x masks in record {
        each = at_each (λ d. CellOk q.mode q.fetching q.removing q.progress d (filled_at fl d)) q.cells c x ok
            (λ d n. subst (λ (z : Bool). CellOk q.mode q.fetching q.removing q.progress d z (q.cells d)) (sym (bits d n)) (law.each d));
        flows = λ s. law.flows s ∙ ap (λ (l : List Signal). of sender s out ++ of sender s l) (sym (list_is (buffer_of s)));
        knows_off = λ s h. subst (λ (l : List Signal). (of sender s l ≡ []) ⊎ Far (buffer_of s)) (sym (list_is (buffer_of s)))
            (law.knows_off s h);
        off = law.off;
        one = law.one;
        quiet = law.quiet;
        fresh = λ f s. subst (λ (z : Bool). Prefix (of sender s (signals q.base)) (of sender s out) ⊎
            ((z ≡ true) ⊎ (filled_at q.back (buffer_of s) ≡ true))) (sym (mask_is (buffer_of s))) (law.fresh f s);
        grown = law.grown;
      }

  -- the holder of c changes, or goes: nothing is set and nothing sure
  pub keeps_turn : (c word : ℕ) (t : Option ℕ) (seats : List Knows)
      → Law (record q {
        cells = put q.cells c (record (q.cells c) { word = word; holder = t; set = false; sure = false });
        seats = seats;
      })
  keeps_turn c word t seats = let ok = law.each c in let x : Cell = q.cells c in
      keeps_cell c q.filled (record x { word = word; holder = t; set = false; sure = false }) seats refl refl record {
        far = λ h. ((ok.far h).0, refl, refl);
        near = ok.near;
        shut = ok.shut;
        knows_on = λ h. not_both false h refl;
        marked = ⊎_elim (λ (n : (x.list ≡ []) × (x.set ≡ false)). inl (n.0, refl))
            (λ (m : (filled_at q.filled c ≡ true) ⊎ (Caught x ⊎ Far c)). inr m) ok.marked;
      } (λ d n. refl)

  pub keeps_set_bit : (c : ℕ) (seats : List Knows) → c < 64 → (q.cells c).sure ≡ true
      → Law (record q { filled = with_bit q.filled c; cells = put q.cells c (record (q.cells c) { set = true }); seats = seats })
  keeps_set_bit c seats low sure = let ok = law.each c in let x : Cell = q.cells c in
      keeps_cell c (with_bit q.filled c) (record x { set = true }) seats refl refl record {
        far = λ h. absurd (omega arith);
        near = ok.near;
        shut = ok.shut;
        knows_on = ok.knows_on;
        marked = inr (inl (bit_now q.filled c low));
      } (λ d n. bit_else q.filled c d low n)

  keeps_sure : (c : ℕ) (seats : List Knows) → c < 64
      → Law (record q { cells = put q.cells c (record (q.cells c) { sure = q.mode }); seats = seats })
  keeps_sure c seats low = let ok = law.each c in let x : Cell = q.cells c in
      keeps_cell c q.filled (record x { sure = q.mode }) seats refl refl record {
        far = λ h. absurd (omega arith);
        near = ok.near;
        shut = ok.shut;
        knows_on = λ m. inl m;
        marked = ok.marked;
      } (λ d n. refl)

  pub keeps_set_back : (i : ℕ) (v : Knows) (c : ℕ) → c < 64 → Law (set_back q i v c)
  keeps_set_back i v c low = let ok = law.each c in let x : Cell = q.cells c in let y : Cell = record x { mask = false } in
      let list_is = same_field (λ (z : Cell). z.list) c y refl in record {
        each = at_each (λ d. CellOk q.mode q.fetching q.removing q.progress d (filled_at (with_bit q.filled c) d)) q.cells c y
            (record { far = ok.far; near = ok.near; shut = ok.shut; knows_on = ok.knows_on; marked = inr (inl (bit_now q.filled c low)) })
            (λ d n. subst (λ (z : Bool). CellOk q.mode q.fetching q.removing q.progress d z (q.cells d))
            (sym (bit_else q.filled c d low n)) (law.each d));
        flows = λ s. law.flows s ∙ ap (λ (l : List Signal). of sender s out ++ of sender s l) (sym (list_is (buffer_of s)));
        knows_off = λ s h. subst (λ (l : List Signal). (of sender s l ≡ []) ⊎ Far (buffer_of s)) (sym (list_is (buffer_of s)))
            (law.knows_off s h);
        off = law.off;
        one = law.one;
        quiet = law.quiet;
        fresh = λ f s. dite (ℕ_discrete (buffer_of s) c)
            (λ e. inr (inr (ap (filled_at (with_bit q.back c)) e ∙ bit_now q.back c low)))
            (λ n. ⊎_elim (λ (p : Prefix (of sender s (signals q.base)) (of sender s out)). inl p)
            (λ (k : ((q.cells (buffer_of s)).mask ≡ true) ⊎ (filled_at q.back (buffer_of s) ≡ true)). ⊎_elim
            (λ (m : (q.cells (buffer_of s)).mask ≡ true). inr (inl (ap (λ (w : Cell). w.mask) (put_else q.cells c (buffer_of s) y n) ∙ m)))
            (λ (m : filled_at q.back (buffer_of s) ≡ true). inr (inr (bit_else q.back c (buffer_of s) low n ∙ m))) k) (law.fresh f s));
        grown = law.grown;
      }

  pub keeps_put_to_buffer : (i c : ℕ) (x : Signal) (seats : List Knows) → (q.cells c).sure ≡ true → (q.cells c).set ≡ true
      → q.owner x.from.0 ≡ i → buffer_of x.from.0 ≡ c → q.saw_off i ≡ false
      → Law (record q {
        log = q.log ++ record { signal = x; via = via.Buffer c } ∷ [];
        cells = put q.cells c (record (q.cells c) {
          list = (q.cells c).list ++ x ∷ [];
          word = 0;
          holder = None;
          set = false;
          sure = false;
        });
        seats = seats;
      })
  keeps_put_to_buffer i c x seats sure is_set own home blind = let new : Item = record { signal = x; via = via.Buffer c } in
      let ok = law.each c in let y : Cell = q.cells c in
      let z : Cell = record y { list = y.list ++ x ∷ []; word = 0; holder = None; set = false; sure = false } in
      let stranger : (s : ℕ) → buffer_of s ≢ c → of sender s (x ∷ []) ≡ [] =
      (λ s n. of_other sender s x [] (λ e. n (ap buffer_of (sym e) ∙ home))) in
      let longer : (s : ℕ) → of sender s (signals q.log) ++ of sender s (x ∷ []) ≡ of sender s (signals (q.log ++ new ∷ [])) =
      (λ s. sym (ap (of sender s) (signals-append q.log (new ∷ [])) ∙ of-append sender s (signals q.log) (x ∷ []))) in
      let mask_is = same_field (λ (z : Cell). z.mask) c z refl in record {
        each = at_each Ok q.cells c z (record {
          far = λ h. not_both y.sure sure (ok.far h).2;
          near = λ s n. of-append sender s y.list (x ∷ [])
              ∙ (ap (λ (l : List Signal). l ++ of sender s (x ∷ [])) (ok.near s n) ∙ stranger s n);
          shut = λ m. ⊎_elim (λ (on : q.mode ≡ true). not_both q.mode on m) (λ (a : Far c). inr a) (ok.knows_on sure);
          knows_on = λ h. not_both false h refl;
          marked = ⊎_elim (λ (n : (y.list ≡ []) × (y.set ≡ false)). not_both y.set is_set n.1)
              (λ (m : (filled_at q.filled c ≡ true) ⊎ (Caught y ⊎ Far c)). inr m) ok.marked;
        }) (λ d _. law.each d);
        flows = λ s. dite (ℕ_discrete (buffer_of s) c)
            (λ e. sym (longer s) ∙ (ap (λ (l : List Signal). l ++ of sender s (x ∷ [])) (law.flows s
            ∙ ap (λ (k : ℕ). of sender s out ++ of sender s (q.cells k).list) e)
            ∙ (append_assoc (of sender s out) (of sender s y.list) (of sender s (x ∷ []))
            ∙ (ap (λ (l : List Signal). of sender s out ++ l) (sym (of-append sender s y.list (x ∷ [])))
            ∙ ap (λ (w : Cell). of sender s out ++ of sender s w.list) (sym (ap (put q.cells c z) e ∙ put_here q.cells c z))))))
            (λ n. sym (longer s) ∙ (ap (λ (l : List Signal). of sender s (signals q.log) ++ l) (stranger s n)
            ∙ (append-nil (of sender s (signals q.log))
            ∙ (law.flows s ∙ ap (λ (w : Cell). of sender s out ++ of sender s w.list)
            (sym (put_else q.cells c (buffer_of s) z n))))));
        knows_off = λ s h. dite (ℕ_discrete (buffer_of s) c)
            (λ e. let other : x.from.0 ≢ s = (λ k. not_both (q.saw_off (q.owner s)) h (ap q.saw_off (ap q.owner (sym k) ∙ own)
            ∙ blind)) in
            ⊎_elim (λ (none : of sender s (q.cells (buffer_of s)).list ≡ []). inl
            (ap (λ (w : Cell). of sender s w.list) (ap (put q.cells c z) e ∙ put_here q.cells c z)
            ∙ (of-append sender s y.list (x ∷ [])
            ∙ (ap (λ (l : List Signal). of sender s y.list ++ l) (of_other sender s x [] other)
            ∙ (append-nil (of sender s y.list) ∙ (ap (λ (k : ℕ). of sender s (q.cells k).list) (sym e) ∙ none))))))
            (λ (a : Far (buffer_of s)). inr a) (law.knows_off s h))
            (λ n. subst (λ (w : Cell). (of sender s w.list ≡ []) ⊎ Far (buffer_of s)) (sym (put_else q.cells c (buffer_of s) z n))
            (law.knows_off s h));
        off = law.off;
        one = law.one;
        quiet = law.quiet;
        fresh = λ f s. subst (λ (z : Bool). Prefix (of sender s (signals q.base)) (of sender s out) ⊎
            ((z ≡ true) ⊎ (filled_at q.back (buffer_of s) ≡ true))) (sym (mask_is (buffer_of s))) (law.fresh f s);
        grown = λ f s. let p = prefix_longer sender s (signals q.base) (signals q.log) (x ∷ []) (law.grown f s) in
            (p.0, p.1 ∙ ap (of sender s) (sym (signals-append q.log (new ∷ []))));
      }

  -- the list of c comes behind the outer list
  moved : (c : ℕ) (z : Cell) → z.list ≡ [] → (s : ℕ)
      → of sender s (signals q.log) ≡ of sender s (q.taken ++ (q.outer.signals ++ (q.cells c).list)) ++ of sender s
      (put q.cells c z (buffer_of s)).list
  moved c z none s = let l : List Signal = (q.cells c).list in let o : List Signal = q.outer.signals in
      let split : of sender s (q.taken ++ (o ++ l)) ≡ of sender s out ++ of sender s l =
      ap (of sender s) (sym (append_assoc q.taken o l)) ∙ of-append sender s out l in dite (ℕ_discrete (buffer_of s) c)
      (λ e. law.flows s ∙ (ap (λ (k : ℕ). of sender s out ++ of sender s (q.cells k).list) e
      ∙ (sym split ∙ (sym (append-nil (of sender s (q.taken ++ (o ++ l))))
      ∙ ap (λ (m : List Signal). of sender s (q.taken ++ (o ++ l)) ++ of sender s m)
      (sym (ap (λ (w : Cell). w.list) (ap (put q.cells c z) e ∙ put_here q.cells c z) ∙ none))))))
      (λ n. law.flows s ∙ (ap (λ (m : List Signal). m ++ of sender s (q.cells (buffer_of s)).list) (sym (append-nil (of sender s out))
      ∙ (ap (λ (m : List Signal). of sender s out ++ m) (sym ((law.each c).near s n)) ∙ sym split))
      ∙ ap (λ (w : Cell). of sender s (q.taken ++ (o ++ l)) ++ of sender s w.list) (sym (put_else q.cells c (buffer_of s) z n))))

  pub keeps_part : (c : ℕ) (seats : List Knows) → Law (record q {
    outer = behind q.outer (q.cells c).list;
    cells = put q.cells c (record (q.cells c) { list = []; word = 0; holder = None; set = false; sure = false; mask = false });
    seats = seats;
  })
  keeps_part c seats = let ok = law.each c in let y : Cell = q.cells c in
      let z : Cell = record y { list = []; word = 0; holder = None; set = false; sure = false; mask = false } in record {
        each = at_each Ok q.cells c z (record {
          far = λ _. (refl, refl, refl);
          near = λ s _. refl;
          shut = λ _. inl refl;
          knows_on = λ h. not_both false h refl;
          marked = inl (refl, refl);
        }) (λ d _. law.each d);
        flows = moved c z refl;
        knows_off = λ s h. dite (ℕ_discrete (buffer_of s) c)
            (λ e. inl (ap (λ (w : Cell). of sender s w.list) (ap (put q.cells c z) e ∙ put_here q.cells c z)))
            (λ n. subst (λ (w : Cell). (of sender s w.list ≡ []) ⊎ Far (buffer_of s)) (sym (put_else q.cells c (buffer_of s) z n))
            (law.knows_off s h));
        off = law.off;
        one = law.one;
        quiet = law.quiet;
        fresh = λ g s. dite (ℕ_discrete (buffer_of s) c)
            (λ e. let now : of sender s (signals q.log) ≡ of sender s (q.taken ++ (q.outer.signals ++ y.list)) = moved c z refl s
            ∙ (ap (λ (w : Cell). of sender s (q.taken ++ (q.outer.signals ++ y.list)) ++ of sender s w.list) (ap (put q.cells c z) e
            ∙ put_here q.cells c z) ∙ append-nil (of sender s (q.taken ++ (q.outer.signals ++ y.list)))) in
            let p = law.grown g s in inl (p.0, p.1 ∙ now))
            (λ n. let same : put q.cells c z (buffer_of s) ≡ q.cells (buffer_of s) = put_else q.cells c (buffer_of s) z n in
            ⊎_elim (λ (p : Prefix (of sender s (signals q.base)) (of sender s out)). inl
            (let longer = prefix_longer sender s (signals q.base) out y.list p in
            (longer.0, longer.1 ∙ ap (of sender s) (append_assoc q.taken q.outer.signals y.list))))
            (λ (k : ((q.cells (buffer_of s)).mask ≡ true) ⊎ (filled_at q.back (buffer_of s) ≡ true)). inr
            (subst (λ (w : Cell). (w.mask ≡ true) ⊎ (filled_at q.back (buffer_of s) ≡ true)) (sym same) k)) (law.fresh g s));
        grown = law.grown;
      }

  -- what is ahead of a removal, but for the buffer that it passes now
  further : (c d : ℕ) → q.progress ≡ c → d ≢ c → Far d → Ahead q.removing (suc q.progress) d
  further c d at n a = let h = a.1 in (a.0, omega arith)

  pub keeps_pass : (c : ℕ) (seats : List Knows) → q.removing ≡ true → q.progress ≡ c
      → Law (record q {
        outer = behind q.outer (q.cells c).list;
        progress = suc q.progress;
        cells = put q.cells c (record (q.cells c) { list = []; word = 0; holder = None; set = false; sure = false });
        seats = seats;
      })
  keeps_pass c seats r at = let ok = law.each c in let y : Cell = q.cells c in
      let z : Cell = record y { list = []; word = 0; holder = None; set = false; sure = false } in record {
        each = at_each (λ d. CellOk q.mode q.fetching q.removing (suc q.progress) d (filled_at q.filled d)) q.cells c z
            (record {
              far = λ _. (refl, refl, refl);
              near = λ s _. refl;
              shut = λ _. inl refl;
              knows_on = λ h. not_both false h refl;
              marked = inl (refl, refl);
            })
            (λ d n. let its = law.each d in let w : Cell = q.cells d in record {
              far = its.far;
              near = its.near;
              shut = λ m. ⊎_elim (λ (e : w.list ≡ []). inl e) (λ (a : Far d). inr (further c d at n a)) (its.shut m);
              knows_on = λ h. ⊎_elim (λ (e : q.mode ≡ true). inl e) (λ (a : Far d). inr (further c d at n a)) (its.knows_on h);
              marked = ⊎_elim (λ (e : (w.list ≡ []) × (w.set ≡ false)). inl e)
                  (λ (m : (filled_at q.filled d ≡ true) ⊎ (Caught w ⊎ Far d)). ⊎_elim
                  (λ (f : filled_at q.filled d ≡ true). inr (inl f))
                  (λ (k : Caught w ⊎ Far d). ⊎_elim
                  (λ (g : Caught w). inr (inr (inl g)))
                  (λ (a : Far d). inr (inr (inr (further c d at n a)))) k) m) its.marked;
            });
        flows = moved c z refl;
        knows_off = λ s h. dite (ℕ_discrete (buffer_of s) c)
            (λ e. inl (ap (λ (w : Cell). of sender s w.list) (ap (put q.cells c z) e ∙ put_here q.cells c z)))
            (λ n. ⊎_elim (λ (none : of sender s (q.cells (buffer_of s)).list ≡ []). inl
            (ap (λ (w : Cell). of sender s w.list) (put_else q.cells c (buffer_of s) z n) ∙ none))
            (λ (a : Far (buffer_of s)). inr (further c (buffer_of s) at n a)) (law.knows_off s h));
        off = law.off;
        one = law.one;
        quiet = law.quiet;
        fresh = λ f. not_both q.fetching f (law.one r);
        grown = λ f. not_both q.fetching f (law.one r);
      }

  -- other seats have the senders of a seat that saw nothing
  pub keeps_owner : (ow : ℕ → ℕ) (rd : ℕ) (seats : List Knows) → ((s : ℕ) → q.saw_off (ow s) ≡ true → q.saw_off (q.owner s) ≡ true)
      → Law (record q { owner = ow; reader = rd; seats = seats })
  keeps_owner ow rd seats k = record {
    each = law.each;
    flows = law.flows;
    knows_off = λ s h. law.knows_off s (k s h);
    off = law.off;
    one = law.one;
    quiet = law.quiet;
    fresh = law.fresh;
    grown = law.grown;
  }

pub mod_small : (s : ℕ) → buffer_of s < 64
mod_small s = omega arith

-- a seat that doesn't hold the outer turn is not the remover
pub no_remover : (q : QState) → Agrees q → (i : ℕ) (v : Knows) → get_elem? q.seats i ≡ some v → v.held ≡ None → q.removing ≡ true
    → q.holder ≡ Some i → ⊥
no_remover q ok i v at idle r h = ⊎_elim (λ f. none_some i (sym f.none ∙ h))
    (λ t. let by : t.by ≡ i = some_same t.by i (sym t.is ∙ h) in
    let is : t.view ≡ v = same_view q.seats i t.by v t.view by at t.here in
    none_some t.has.0 (sym idle ∙ (ap (λ (z : Knows). z.held) (sym is) ∙ t.has.1))) ok.turn

module _ (z : Setup) where
  law_opened : Law (opened_with z)
  law_opened = record {
    each = λ c. record {
      far = λ _. (refl, refl, refl);
      near = λ s _. refl;
      shut = λ _. inl refl;
      knows_on = λ h. not_both false h refl;
      marked = inl (refl, refl);
    };
    flows = λ s. refl;
    knows_off = λ s _. inl refl;
    off = λ h. not_both false h refl;
    one = λ _. refl;
    quiet = λ i h _. not_both false h refl;
    fresh = λ h. not_both false h refl;
    grown = λ h. not_both false h refl;
  }

  part_of : (q : QState) (r : Reached z q) (i : ℕ) (v : Knows) (p : HeldBuffer) (ps : List HeldBuffer) → get_elem? q.seats i ≡ some v
      → v.parts ≡ p ∷ ps → HeldBy i p (q.cells p.number)
  part_of q r i v p ps at first = (subst (HoldsAll q.cells i) first ((agrees z q r).each i v at).parts).0

  pub lawful : (q : QState) → Reached z q → Law q
  lawful _ opened = law_opened
  lawful _ (by_take_outer q i v can r) = let a = agrees z q r in
      keeps_take_outer mod_small q (lawful q r) i v
      ((a.idle (Rattle.sig_layout.proofs.Agreeing.free_of q.seats q.turn q.holder _ a.turn can.free)).1)
  lawful _ (by_refuse_outer q i v can r) = keeps_forget mod_small q (lawful q r) i _
  lawful _ (by_put q i v o x can r) = let a = (agrees z q r).each i v can.at in let out = a.outer o can.held in
      subst (λ (o : Outer). Law (leave_put q i v o x)) out.value
      (keeps_put mod_small q (lawful q r) i v x (out.fetch ∙ can.fetching) (out.remove ∙ can.removing) (a.saw ∙ can.off)
      (((lists z q r).each i v can.at).owns x.from.0 can.from))
  lawful _ (by_leave q i v o can r) = let out = ((agrees z q r).each i v can.at).outer o can.held in
      keeps_leave mod_small q (lawful q r) i v (out.remove ∙ can.removing) (λ f d low. out.masks f d low
      ∙ can.unmasked (sym out.fetch ∙ f) d low)
  lawful _ (by_take_bits q i v o can r) = let b = can.begins in let out = ((agrees z q r).each i v can.at).outer o b.held in
      keeps_take_bits mod_small q (lawful q r) i v (out.fetch ∙ b.fetching) (out.remove ∙ b.removing)
  lawful _ (by_fetch q i v o can r) = let out = ((agrees z q r).each i v can.at).outer o can.held in
      subst (λ (o : Outer). Law (leave_fetch q i v o)) out.value
      (keeps_fetch mod_small q (lawful q r) i v (out.remove ∙ can.removing) (λ d low. out.masks (out.fetch ∙ can.fetching) d low
      ∙ can.unmasked d low))
  lawful _ (by_mode_on q i v o can r) = let b = can.begins in let out = ((agrees z q r).each i v can.at).outer o b.held in
      keeps_mode_on mod_small q (lawful q r) i v (out.remove ∙ b.removing)
  lawful _ (by_mode_off q i v o can r) = let b = can.begins in let a = (agrees z q r).each i v can.at in let out = a.outer o b.held in
      keeps_mode_off mod_small q (lawful q r) i v out.mine (out.fetch ∙ b.fetching) (a.saw ∙ can.blind)
  lawful _ (by_remove q i v o can r) = let out = ((agrees z q r).each i v can.at).outer o can.held in
      subst (λ (o : Outer). Law (leave_remove q i v o)) out.value
      (keeps_remove mod_small q (lawful q r) i v (out.remove ∙ can.removing) (out.passed (out.remove ∙ can.removing) ∙ can.whole))
  lawful _ (by_load_mode q i v can r) = keeps_load mod_small q (lawful q r) i _ (no_remover q (agrees z q r) i v can.at can.idle)
  lawful _ (by_load_filled q i v at r) = keeps_views mod_small q (lawful q r) _
  lawful _ (by_take_buffer q i v c can r) = keeps_turn mod_small q (lawful q r) c _ (Some i) _
  lawful _ (by_refuse_buffer q i v c can r) = keeps_forget mod_small q (lawful q r) i _
  lawful _ (by_set_back q i v c o can r) = keeps_set_back mod_small q (lawful q r) i v c can.low
  lawful _ (by_load_under q i v p can r) = let m : QState =
      record q { cells = put q.cells p.number (record (q.cells p.number) { sure = q.mode }) } in
      keeps_load mod_small m (keeps_sure mod_small q (lawful q r) p.number q.seats can.low) i _
      (no_remover q (agrees z q r) i v can.at can.idle)
  lawful _ (by_set_bit q i v p can r) = keeps_set_bit mod_small q (lawful q r) p.number _ can.low
      ((part_of q r i v p [] can.at can.one).sure ∙ can.sure)
  lawful _ (by_put_to_buffer q i v p x can r) = let h = part_of q r i v p [] can.at can.one in
      keeps_put_to_buffer mod_small q (lawful q r) i p.number x _ (h.sure ∙ can.sure) (h.set ∙ can.is_set)
      (((lists z q r).each i v can.at).owns x.from.0 can.from) can.home (((agrees z q r).each i v can.at).saw ∙ can.blind)
  lawful _ (by_leave_buffer q i v p ps can r) = keeps_turn mod_small q (lawful q r) p.number 0 None _
  lawful _ (by_take_part q i v p ps o can r) = let h = part_of q r i v p ps can.at can.first in
      let out = ((agrees z q r).each i v can.at).outer o can.held in
      subst (λ (t : Outer × List Signal). Law (record q {
        outer = behind t.0 t.1;
        cells = (buffer_fetched q i v p ps o).cells;
        seats = (buffer_fetched q i v p ps o).seats;
      })) (λ k. (out.value k, h.list k))
      (keeps_part mod_small q (lawful q r) p.number _)
  lawful _ (by_pass q i v p ps o can r) = let h = part_of q r i v p ps can.at can.first in
      let out = ((agrees z q r).each i v can.at).outer o can.held in
      subst (λ (t : Outer × List Signal). Law (record q {
        outer = behind t.0 t.1;
        progress = suc q.progress;
        cells = (buffer_passed q i v p ps o).cells;
        seats = (buffer_passed q i v p ps o).seats;
      })) (λ k. (out.value k, h.list k))
      (keeps_pass mod_small q (lawful q r) p.number _ (out.remove ∙ can.removing) (out.passed (out.remove ∙ can.removing)
      ∙ can.next))
  lawful _ (by_split q i v given role can r) = let a = agrees z q r in keeps_owner mod_small q (lawful q r) _ _ _ (λ s h. ⊎_elim
      (λ (g : has given s ≡ true). not_both (q.saw_off (length q.seats))
      (sym (ap (λ (b : Bool). q.saw_off (if b then length q.seats else q.owner s)) g) ∙ h)
      (a.unseen (length q.seats) (omega arith)))
      (λ (g : has given s ≡ false). sym (ap (λ (b : Bool). q.saw_off (if b then length q.seats else q.owner s)) g) ∙ h)
      (bool_cases (has given s)))
  lawful _ (by_note q i v at r) = keeps_views mod_small q (lawful q r) _
  lawful _ (by_join q i v j w can r) = let a = agrees z q r in
      keeps_owner mod_small q (lawful q r) _ _ _ (λ s h. dite (ℕ_discrete (q.owner s) j)
      (λ e. not_both (q.saw_off i) (sym (ap (λ (b : Bool). q.saw_off (if b then i else q.owner s)) (eq-eqb (q.owner s) j e)) ∙ h)
      ((a.each i v can.at).saw ∙ can.idle.saw))
      (λ n. sym (ap (λ (b : Bool). q.saw_off (if b then i else q.owner s)) (ne_eqb (q.owner s) j n)) ∙ h))
