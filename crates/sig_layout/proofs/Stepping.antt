-- What most steps leave as it is: how the queue was opened, what was put into it, and the journal. A put changes these, and so
-- does the end of a fetch and of a removal.
use Rattle.std.proofs.Common.{◌≡◌, ℕ, subst, List, [], ◌∷◌, ◌++◌, refl, Some}
use mathlib.Core.Option.{some}
use lib.ListN.{get_elem?}
use Rattle.sig_kinds.specs.declared.signal.Signal.{Signal}
use Rattle.sig_layout.specs.declared.entry.Entry.{Entry}
use Rattle.sig_layout.specs.declared.entry.Entry.TheVariants.{Fetch, Remove}
use Rattle.sig_layout.specs.declared.via.Via.TheVariants as via
use Rattle.sig_layout.specs.declared.item.Item.{Item}
use Rattle.sig_layout.specs.declared.setup.Setup.{Setup}
use Rattle.sig_layout.specs.declared.outer.Outer.{Outer}
use Rattle.sig_layout.specs.declared.held_buffer.HeldBuffer.{HeldBuffer}
use Rattle.sig_layout.specs.declared.knows.Knows.{Knows}
use Rattle.sig_layout.specs.Policies.{first_journal}
use Rattle.sig_layout.specs.Outers.{put_entries}
use Rattle.sig_layout.specs.Core.{QState, Reached, CanPut, CanPutToBuffer, opened, by_take_outer, by_refuse_outer, by_put, by_leave, by_take_bits, by_fetch, by_mode_on, by_mode_off, by_remove, by_load_mode, by_load_filled, by_take_buffer, by_refuse_buffer, by_set_back, by_load_under, by_set_bit, by_put_to_buffer, by_leave_buffer, by_take_part, by_pass, by_split, by_note, by_join, refused}
use Rattle.sig_layout.proofs.Agreeing.{agrees}

module _ (z : Setup) where
  -- the holder of the outer turn has the machine's own outer value
  held_is : (q : QState) → Reached z q → (i : ℕ) (v : Knows) (o : Outer) → get_elem? q.seats i ≡ some v → v.held ≡ Some o → q.outer ≡ o
  held_is q r i v o at held = (((agrees z q r).each i v at).outer o held).value

  module _ (P : Setup → List Item → List Entry → Type 0) (first : P z [] (first_journal z.policy))
      (put : (q : QState) (i : ℕ) (v : Knows) (o : Outer) (x : Signal) → CanPut q i v o x → Reached z q → P q.setup q.log o.journal
      → P q.setup (q.log ++ record { signal = x; via = via.Outer } ∷ []) (o.journal ++ put_entries (refused q i v) v.switched))
      (put_to_buffer : (q : QState) (i : ℕ) (v : Knows) (p : HeldBuffer) (x : Signal) → CanPutToBuffer q i v p x → Reached z q
      → P q.setup q.log q.outer.journal
      → P q.setup (q.log ++ record { signal = x; via = via.Buffer p.number } ∷ []) q.outer.journal)
      (fetch : (s : Setup) (log : List Item) (j : List Entry) (moved : ℕ) → P s log j → P s log (j ++ Fetch moved ∷ []))
      (remove : (s : Setup) (log : List Item) (j : List Entry) → P s log j → P s log (j ++ Remove ∷ [])) where
    -- the same of the outer value that a seat holds
    held : (q : QState) → Reached z q → (i : ℕ) (v : Knows) (o : Outer) → get_elem? q.seats i ≡ some v → v.held ≡ Some o
        → P q.setup q.log q.outer.journal → P q.setup q.log o.journal
    held q r i v o at has = subst (λ (y : Outer). P q.setup q.log y.journal) (held_is q r i v o at has)

    pub by_steps : (q : QState) → Reached z q → P q.setup q.log q.outer.journal
    by_steps _ opened = first
    by_steps _ (by_take_outer q i v can r) = by_steps q r
    by_steps _ (by_refuse_outer q i v can r) = by_steps q r
    by_steps _ (by_put q i v o x can r) = put q i v o x can r (held q r i v o can.at can.held (by_steps q r))
    by_steps _ (by_leave q i v o can r) = by_steps q r
    by_steps _ (by_take_bits q i v o can r) = by_steps q r
    by_steps _ (by_fetch q i v o can r) = fetch q.setup q.log o.journal v.moved (held q r i v o can.at can.held (by_steps q r))
    by_steps _ (by_mode_on q i v o can r) = by_steps q r
    by_steps _ (by_mode_off q i v o can r) = by_steps q r
    by_steps _ (by_remove q i v o can r) = remove q.setup q.log o.journal (held q r i v o can.at can.held (by_steps q r))
    by_steps _ (by_load_mode q i v can r) = by_steps q r
    by_steps _ (by_load_filled q i v at r) = by_steps q r
    by_steps _ (by_take_buffer q i v c can r) = by_steps q r
    by_steps _ (by_refuse_buffer q i v c can r) = by_steps q r
    by_steps _ (by_set_back q i v c o can r) = by_steps q r
    by_steps _ (by_load_under q i v p can r) = by_steps q r
    by_steps _ (by_set_bit q i v p can r) = by_steps q r
    by_steps _ (by_put_to_buffer q i v p x can r) = put_to_buffer q i v p x can r (by_steps q r)
    by_steps _ (by_leave_buffer q i v p ps can r) = by_steps q r
    by_steps _ (by_take_part q i v p ps o can r) = held q r i v o can.at can.held (by_steps q r)
    by_steps _ (by_pass q i v p ps o can r) = held q r i v o can.at can.held (by_steps q r)
    by_steps _ (by_split q i v given role can r) = by_steps q r
    by_steps _ (by_note q i v at r) = by_steps q r
    by_steps _ (by_join q i v j w can r) = by_steps q r

  -- what a queue was opened with stays
  pub same_setup : (q : QState) → Reached z q → q.setup ≡ z
  same_setup = by_steps (λ s log j. s ≡ z) refl (λ q i v o x can r h. h) (λ q i v p x can r h. h) (λ s log j moved h. h) (λ s log j h. h)
