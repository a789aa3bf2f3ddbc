-- The end of a fetch.
use Rattle.std.proofs.Common.{◌≡◌, ℕ, ◌+◌, subst, Bool, false, List, [], ◌∷◌, ◌++◌, length, refl, sym, ap, ◌∙◌, arith, append-nil, Some, None}
use Rattle.atomic_table.specs.Table.{rest}
use Rattle.sig_kinds.specs.declared.signal.Signal.{Signal}
use Rattle.sig_layout.specs.declared.entry.Entry.TheVariants as entry
use Rattle.sig_layout.specs.declared.outer.Outer.{Outer}
use Rattle.sig_layout.specs.declared.setup.Setup.{Setup}
use Rattle.sig_layout.specs.Outers.{emptied}
use Rattle.sig_queue.specs.declared.slot.Slot.{Slot}
use Rattle.sig_queue.specs.declared.slot.Slot.TheVariants as slot
use Rattle.sig_layout.specs.declared.held_buffer.HeldBuffer.{HeldBuffer}
use Rattle.sig_layout.specs.declared.knows.Knows.{Knows}
use Rattle.sig_layout.specs.Core.{Idle, some_refused}
use Rattle.sig_layout.specs.Views.{number, filled_at, signals_of, holding, with_bits, after_same, after_fetch}
use Rattle.sig_queue.specs.declared.kept.Kept.{Kept}
use Rattle.sig_queue.specs.declared.fetch_find.Caught.{Caught}
use Rattle.sig_queue.specs.declared.fetch.Fetch.{Fetch}
use Rattle.sig_queue.specs.declared.fetch.Fetch.TheVariants as fetch
use Rattle.sig_queue.specs.declared.fetch_settle.Taken.{Taken}
use Rattle.sig_queue.specs.Tied.{Held, FoundOuter, FreshBut, TookCarried}
use Rattle.sig_queue.specs.Seats.{Keeps, IsSeat}
use Rattle.sig_queue.specs.Parts.{tried}
use Rattle.sig_queue.specs.Fetching.{all_of, journal_of, numbers, picked, same_number, each_try, EachOwn, kept_of, Finding, Standing, Emptying, Leaving}
use Rattle.sig_queue.specs.Calls.{bare, taken_by, due_of, Finished, Settled, TriedAs, Left, FetchedAs, FetchedHeld, Fetched}
use Rattle.sig_queue.proofs.Offering.{foreign_as}
use Rattle.sig_queue.proofs.Fetches.{picked_same, standing_ends}

-- after the outer value was put back into its slot
module _ (me m : Held) (outer : Outer) (held n : ℕ) (st : Standing held 64 me n) (put : m ≡ (me.0, (0, slot.Outer outer) ∷ rest me.1)) where
  pub none_left : me.0.parts ≡ []
  none_left = (standing_ends held me n st).0

  pub seat_is : m.0 ≡ me.0
  seat_is = ap (λ (x : Held). x.0) put

  pub slot_is : m.1 ≡ (0, slot.Outer outer) ∷ rest m.1
  slot_is = let e = ap (λ (x : Held). x.1) put in e ∙ ap (λ (r : List (ℕ × Slot)). (0, slot.Outer outer) ∷ r) (sym (ap rest e))

  pub rest_is : rest m.1 ≡ []
  rest_is = ap (λ (x : Held). rest x.1) put ∙ ap rest (standing_ends held me n st).1

  pub left_view : (u w : Knows) → Leaving u me → w ≡ after_same m.0 → w ≡ bare u
  left_view u w l is = is ∙ (ap after_same (seat_is ∙ l.view) ∙ (λ i. record (bare u) { parts = none_left i }))

  module _ (u : Knows) (o : Outer) (em : Emptying u me) (at : u.held ≡ Some o) (is : outer ≡ emptied o (length (all_of u.parts))) (none : u.moved ≡ 0) where
    moved_is : length (all_of u.parts) ≡ m.0.moved
    moved_is = let e = em.moved in let p = ap (λ (z : List HeldBuffer). length (all_of z)) none_left in let s = ap (λ (x : Knows). x.moved) seat_is in omega arith

    pub outer_is : outer ≡ emptied em.outer m.0.moved
    outer_is = is ∙ (λ i. record { signals = []; journal = (sym (em.journal ∙ ap journal_of at)) i ++ entry.Fetch (moved_is i) ∷ [] })

    pub held_is : m.0.held ≡ Some em.outer
    held_is = ap (λ (x : Knows). x.held) seat_is ∙ em.holds

    pub slots_are : m.1 ≡ (0, slot.Outer (emptied em.outer m.0.moved)) ∷ rest m.1
    slots_are = slot_is ∙ ap (λ (x : Outer). (0, slot.Outer x) ∷ rest m.1) outer_is

    signals_are : signals_of me.0.held ≡ taken_by u
    signals_are = ap signals_of em.holds ∙ (sym (append-nil em.outer.signals) ∙ (ap (λ (z : List HeldBuffer). em.outer.signals ++ all_of z) (sym none_left) ∙ em.signals))

    emptied_is : me.0.emptied ≡ u.emptied ++ u.parts
    emptied_is = sym (append-nil me.0.emptied) ∙ (ap (λ (z : List HeldBuffer). me.0.emptied ++ z) (sym none_left) ∙ em.emptied)

    pub finished_view : (w : Knows) (due : Bool) → w ≡ after_fetch m.0 due → w ≡ record (bare u) { taken = u.taken ++ taken_by u; fetches = u.fetches + 1; due = due; emptied = u.emptied ++ u.parts }
    finished_view w due e = e ∙ (ap (λ (x : Knows). after_fetch x due) (seat_is ∙ em.view) ∙ (λ i. record (bare u) { parts = none_left i; taken = u.taken ++ signals_are i; fetches = u.fetches + 1; due = due; emptied = emptied_is i }))

    pub finished : (z : Setup) (w : Knows) (t : Taken) → w ≡ after_fetch m.0 t.due → FreshBut m.0.back (after_fetch m.0 t.due) → TookCarried z (after_fetch m.0 t.due) → Finished z u t w
    finished z w t e fresh carried = (finished_view w t.due e, subst (λ (n : ℕ). FreshBut n w) (ap (λ (x : Knows). x.back) (seat_is ∙ em.view)) (subst (FreshBut m.0.back) (sym e) fresh), subst (TookCarried z) (sym e) carried)

pub all_moved_in : (now before : List Signal) (ps : List HeldBuffer) (more : List Signal) → ps ≡ [] → now ++ all_of ps ≡ before ++ more → now ≡ before ++ more
all_moved_in now before ps more none e = sym (append-nil now) ∙ (ap (λ (z : List HeldBuffer). now ++ all_of z) (sym none) ∙ e)

-- the value in front of the slots is one value
pub same_outer : (a b : Outer) (xs ys zs : List (ℕ × Slot)) → zs ≡ (0, slot.Outer a) ∷ xs → zs ≡ (0, slot.Outer b) ∷ ys → a ≡ b
same_outer a b xs ys zs e g = ap Rattle.sig_queue.specs.Tied.outer_in (sym e ∙ g)

-- a fetch that found its buffers, from a view v with which it took the bits
module _ (z : Setup) (before now : List Signal) (v taking u w : Knows) (bits : ℕ) (me : Held) (found : Caught) (f : Finding taking bits 64 me found) (took : taking ≡ with_bits v bits) (same : u ≡ me.0) where
  abbrev tries_made : List (ℕ × ℕ)
  tries_made = each_try f.values bits 64

  found_as : u ≡ record (with_bits v bits) { parts = me.0.parts; mask = me.0.mask; back = me.0.back; tries = v.tries ++ tries_made }
  found_as = same ∙ (f.view ∙ (λ i. record (took i) { parts = me.0.parts; mask = me.0.mask; back = me.0.back; tries = (f.tries ∙ ap (λ (k : Knows). k.tries ++ tries_made) took) i }))

  bits_taken : w.bits ≡ u.bits → w.bits ≡ bits
  bits_taken e = e ∙ ap (λ (k : Knows). k.bits) found_as

  -- they are so for the seat before it took the bits
  tried_as : TriedAs v found.skipped f.values
  tried_as = ((λ c bit. foreign_as taking v (f.values c) (sym (ap (λ (k : Knows). k.senders) took)) (sym (ap (λ (k : Knows). k.role) took)) (f.others c bit)), f.free)

  module _ (still : v.fetching ≡ false) (free : v.parts ≡ []) (mask : v.mask ≡ []) (back : v.back ≡ 0) (moved : v.moved ≡ 0) (saw : v.saw_off ≡ false) where
    pub fetched_all : (t : Taken) → Settled z before now u (Some t) w → FetchedAs z before now v (signals_of v.held) t.count t.due found.skipped w
    fetched_all t s =
        let bits_are : w.bits ≡ bits = bits_taken (ap (λ (k : Knows). k.bits) s.2.0) in
        let parts_are : w.emptied ≡ u.parts = ap (λ (k : Knows). k.emptied) s.2.0 ∙ ap (λ (k : Knows). k.emptied ++ u.parts) found_as in (
          taken_by u,
          f.values,
          s.0,
          s.1,
          s.2.0 ∙ ((λ i. record (bare (found_as i)) { taken = (found_as i).taken ++ taken_by u; fetches = (found_as i).fetches + 1; due = t.due; emptied = u.emptied ++ u.parts })
              ∙ (λ i. record v { held = None; fetching = sym still i; mask = sym mask i; back = sym back i; moved = sym moved i; saw_off = sym saw i; parts = sym free i; taken = v.taken ++ taken_by u; fetches = v.fetches + 1; due = t.due; tries = v.tries ++ each_try f.values (sym bits_are i) 64; bits = sym bits_are i; emptied = sym (ap (λ (k : Knows). k.emptied) s.2.0) i })),
          tried_as,
          subst (λ (n : ℕ). FreshBut n w) (ap (λ (k : Knows). k.back) same ∙ f.back) s.2.1,
          s.2.2,
          record {
            is = ap (λ (k : Knows). signals_of k.held ++ all_of u.parts) found_as ∙ ap (λ (ps : List HeldBuffer). signals_of v.held ++ all_of ps) (sym parts_are);
            ascending = ap numbers (parts_are ∙ ap (λ (k : Knows). k.parts) same) ∙ (f.numbers_are ∙ (picked_same same_number same_number (filled_at found.held) (kept_of bits found.skipped) 0 64 (λ c _. refl) (λ c h. f.parted c (omega (arith, h))) ∙ ap (λ (n : ℕ). picked same_number (kept_of n found.skipped) 0 64) (sym bits_are)));
            own = subst EachOwn (sym (parts_are ∙ ap (λ (k : Knows). k.parts) same)) f.own;
            had = λ c bit. ap (λ (n : ℕ). filled_at n c) bits_are ∙ f.had c bit;
          },
        )

    pub fetched_none : Settled z before now u None w → Left before now v w
    fetched_none s = let bits_are : w.bits ≡ bits = bits_taken (ap (λ (k : Knows). k.bits) s.1) in (
      s.0,
      (
        found.skipped,
        f.values,
        s.1 ∙ ((λ i. bare (found_as i))
            ∙ (λ i. record v { held = None; fetching = sym still i; mask = sym mask i; back = sym back i; moved = sym moved i; parts = sym free i; saw_off = sym saw i; tries = v.tries ++ each_try f.values (sym bits_are i) 64; bits = sym bits_are i; emptied = [] })),
        tried_as,
      ),
    )

-- a fetch of a seat that took the outer turn for it
module _ (z : Setup) (before now : List Signal) (v w : Knows) (o : Outer) where
  same_tries : (skipped : ℕ) (values : ℕ → ℕ) → TriedAs (holding v o) skipped values → TriedAs (tried v 0 0) skipped values
  same_tries skipped values h = ((λ c bit. foreign_as (holding v o) (tried v 0 0) (values c) refl refl (h.0 c bit)), h.1)

  pub fetched_by : (r : Fetch) → FoundOuter z v o → FetchedHeld z before now (holding v o) r w → Fetched z before now v r w
  fetched_by (fetch.Took count due bits) f h = record { outer = o; found = f; fetched = (h.0, h.1, h.2, h.3, h.4, same_tries bits h.1 h.5, h.6, h.7, h.8) }
  fetched_by (fetch.Busy n) f h = absurd h
  fetched_by fetch.Memory f h = (h.0, (h.1.0, h.1.1, h.1.2, same_tries h.1.0 h.1.1 h.1.3))

  module _ (i : Idle v) (kept : Kept) (h : Keeps v kept) (xs : List (ℕ × Slot)) (free : xs ≡ []) where
    seat_after : (taken : List Signal) (fetches : ℕ) (due : Bool) (tries : List (ℕ × ℕ)) (emptied : List HeldBuffer) → w ≡ record v { held = None; taken = taken; fetches = fetches; due = due; tries = tries; bits = w.bits; emptied = emptied } → IsSeat (w, xs) (record kept { due = due })
    seat_after taken fetches due tries emptied e = record {
      idle = subst Idle (sym e) (record { held = refl; parts = i.parts; saw = i.saw; fetching = i.fetching; removing = i.removing; switched = i.switched; mask = i.mask; back = i.back; moved = i.moved; progress = i.progress });
      bare = free;
      keeps = record {
        senders_are = ap (λ (k : Knows). k.senders) e ∙ h.senders_are;
        number_is = ap (λ (k : Knows). number k) e ∙ h.number_is;
        low = h.low;
        role_is = ap (λ (k : Knows). k.role) e ∙ h.role_is;
        due_is = ap (λ (k : Knows). k.due) e;
        refused_is = h.refused_is ∙ ap (λ (k : Knows). some_refused k.refused) (sym e);
      };
    }

    pub seat_fetched : v.due ≡ false → (r : Fetch) → FetchedHeld z before now (holding v o) r w → IsSeat (w, xs) (record kept { due = due_of r })
    seat_fetched not_due (fetch.Took count due bits) f = seat_after (v.taken ++ f.0) (v.fetches + 1) due ((holding v o).tries ++ each_try f.1 w.bits 64) w.emptied f.4
    seat_fetched not_due (fetch.Busy n) f = absurd f
    seat_fetched not_due fetch.Memory f = seat_after v.taken v.fetches false ((holding v o).tries ++ each_try f.1.1 w.bits 64) [] (f.1.2 ∙ (λ k. record v { held = None; due = not_due k; tries = (holding v o).tries ++ each_try f.1.1 w.bits 64; bits = w.bits; emptied = [] }))
