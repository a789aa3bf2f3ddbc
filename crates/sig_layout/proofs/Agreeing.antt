-- Each step keeps what seats know of the machine.
use Rattle.std.proofs.Common.{◌≡◌, ◌≢◌, ◌⊎◌, ℕ, zero, suc, ◌+◌, ◌<◌, subst, Bool, true, false, not, List, [], ◌∷◌, ◌++◌, length, length-set, length-append, get_or-set_other, set, sym, refl, ap, ◌∙◌, arith, inl, inr, ⊎_elim, Option, Some, None}
use mathlib.Core.Logic.{dite}
use mathlib.Core.Option.{some, some-injective, some-ne-none}
use native.Mathlib.Decide.{ℕ_discrete}
use lib.ListN.{get_elem?}
use Rattle.atomic_table.proofs.Lists.{at_set, set_here, set_else, at_longer}
use Rattle.sig_kinds.specs.declared.signal.Signal.{Signal}
use Rattle.sig_layout.specs.declared.setup.Setup.{Setup}
use Rattle.sig_layout.specs.declared.via.Via.TheVariants as via
use Rattle.sig_layout.specs.declared.item.Item.{Item}
use Rattle.sig_layout.specs.declared.outer.Outer.{Outer}
use Rattle.sig_layout.specs.Sets.{least}
use Rattle.sig_layout.specs.declared.held_buffer.HeldBuffer.{HeldBuffer}
use Rattle.sig_layout.specs.declared.knows.Knows.{Knows}
use Rattle.sig_layout.specs.Views.{number, filled_at, with_bit, flag, tail, holding, turned_away, after_put, after_same, with_bits, after_fetch, after_remove, saw, counted, gains, part, turned_away_at, saw_under, marked, given_back, loses, put_to_buffer, took_part, passed, left_of, right_of, note_of, joined, spent, first_seat}
use Rattle.sig_layout.specs.Outers.{added, behind}
use Rattle.sig_layout.specs.Core.{Cell, QState, put, opened_with, Idle, CanTakeOuter, take_outer, refuse_outer, refused, CanPut, leave_put, CanLeave, leave_same, CanTakeBits, take_bits, CanFetch, leave_fetch, makes_due, CanSwitchOn, mode_on, CanSwitchOff, mode_off, CanRemove, leave_remove, load_mode, load_filled, CanTakeBuffer, take_buffer, refuse_buffer, CanSetBack, set_back, load_under, set_bit, buffer_put, buffer_same, CanTakePart, buffer_fetched, CanPass, buffer_passed, CanSplit, split, note, CanJoin, join, Reached, opened, by_take_outer, by_refuse_outer, by_put, by_leave, by_take_bits, by_fetch, by_mode_on, by_mode_off, by_remove, by_load_mode, by_load_filled, by_take_buffer, by_refuse_buffer, by_set_back, by_load_under, by_set_bit, by_put_to_buffer, by_leave_buffer, by_take_part, by_pass, by_split, by_note, by_join}
use Rattle.sig_layout.specs.Agree.{Apart, Among, HeldBy, HoldsAll, Doing, Nothing, SeatAgrees, Turn, HasOuter, HasBuffer, Agrees}
use Rattle.sig_layout.proofs.Sending.{not_both, none_some, some_none, some_same}
use Rattle.sig_layout.proofs.Putting.{put_here, put_else, at_each, get_table}

-- what a cell says to its holder stays the same
pub record SameHeld (x y : Cell) : Type 0 where
  pub word : y.word ≡ x.word
  pub holder : y.holder ≡ x.holder
  pub list : y.list ≡ x.list
  pub set : y.set ≡ x.set
  pub sure : y.sure ≡ x.sure

still_held : (i : ℕ) (p : HeldBuffer) (x y : Cell) → SameHeld x y → HeldBy i p x → HeldBy i p y
still_held i p x y s h = record { holder = s.holder ∙ h.holder; list = s.list ∙ h.list; set = s.set ∙ h.set; sure = s.sure ∙ h.sure }

all_same : (cells cells' : ℕ → Cell) (i : ℕ) (ps : List HeldBuffer) → ((c : ℕ) → SameHeld (cells c) (cells' c)) → HoldsAll cells i ps
    → HoldsAll cells' i ps
all_same cells cells' i [] s h = tt
all_same cells cells' i (p ∷ ps) s h = (
  still_held i p (cells p.number) (cells' p.number)
      (s p.number) h.0,
  h.1,
  all_same cells cells' i ps s h.2,
)

pub unchanged : (cells : ℕ → Cell) (i c : ℕ) (x : Cell) (ps : List HeldBuffer) → Apart c ps → HoldsAll cells i ps
    → HoldsAll (put cells c x) i ps
unchanged cells i c x [] a h = tt
unchanged cells i c x (p ∷ ps) a h = (
  subst (HeldBy i p) (sym
      (put_else cells c p.number x a.0)) h.0,
  h.1,
  unchanged cells i c x ps a.1 h.2,
)

pub apart_of : (cells : ℕ → Cell) (i c : ℕ) (ps : List HeldBuffer) → ((cells c).holder ≡ Some i → ⊥) → HoldsAll cells i ps → Apart c ps
apart_of cells i c [] n h = tt
apart_of cells i c (p ∷ ps) n h = ((λ e. n (ap (λ (z : ℕ). (cells z).holder) (sym e) ∙ h.0.holder)), apart_of cells i c ps n h.2)

apart_more : (d : ℕ) (p : HeldBuffer) (ps : List HeldBuffer) → p.number ≢ d → Apart d ps → Apart d (ps ++ p ∷ [])
apart_more d p [] n a = (n, tt)
apart_more d p (q ∷ ps) n a = (a.0, apart_more d p ps n a.1)

holds_more : (cells : ℕ → Cell) (i : ℕ) (p : HeldBuffer) (ps : List HeldBuffer) → HoldsAll cells i ps → Apart p.number ps
    → HeldBy i p (cells p.number) → HoldsAll cells i (ps ++ p ∷ [])
holds_more cells i p [] h a here = (here, tt, tt)
holds_more cells i p (q ∷ ps) h a here = (h.0, apart_more q.number p ps (λ e. a.0 (sym e)) h.1, holds_more cells i p ps h.2 a.1 here)

among_more : (c : ℕ) (p : HeldBuffer) (ps : List HeldBuffer) → Among c ps → Among c (ps ++ p ∷ [])
among_more c p [] a = absurd a
among_more c p (q ∷ ps) a = ⊎_elim (λ (e : q.number ≡ c). inl e) (λ (m : Among c ps). inr (among_more c p ps m)) a

among_last : (p : HeldBuffer) (ps : List HeldBuffer) → Among p.number (ps ++ p ∷ [])
among_last p [] = inl refl
among_last p (q ∷ ps) = inr (among_last p ps)

pub below : (vs : List Knows) (i : ℕ) (v : Knows) → get_elem? vs i ≡ some v → i < length vs
below [] i v e = absurd (some-ne-none v (sym e))
below (x ∷ xs) zero v e = omega arith
below (x ∷ xs) (suc i) v e = let h = below xs i v e in omega arith

-- one seat has one view
pub same_view : (vs : List Knows) (i j : ℕ) (v w : Knows) → j ≡ i → get_elem? vs i ≡ some v → get_elem? vs j ≡ some w → w ≡ v
same_view vs i j v w e a b = some-injective w v (sym b ∙ (ap (λ (z : ℕ). get_elem? vs z) e ∙ a))

pub other_seat : {A : Type 0} (i j : ℕ) (t : Option ℕ) → t ≡ Some i → j ≢ i → t ≡ Some j → A
other_seat i j t a n b = absurd (n (sym (some_same i j (sym a ∙ b))))

-- the views after one changes
pub seat_set : (P : ℕ → Knows → Type 0) (vs : List Knows) (i : ℕ) (w : Knows) → P i w
    → ((j : ℕ) (d : Knows) → j ≢ i → get_elem? vs j ≡ some d → P j d)
    → (j : ℕ) (d : Knows) → get_elem? (set vs i w) j ≡ some d → P j d
seat_set P vs i w mine others j d e = ⊎_elim (λ (t : (j ≡ i) × (w ≡ d)). subst (λ (x : ℕ × Knows). P x.0 x.1)
    (λ k. (sym t.0 k, t.1 k)) mine)
    (λ (t : (j ≢ i) × (get_elem? vs j ≡ some d)). others j d t.0 t.1) (at_set vs i j w d e)

-- a seat behind the others
at_end : (l : List Knows) (a b : Knows) (j : ℕ) → get_elem? (l ++ a ∷ []) j ≡ some b
    → (get_elem? l j ≡ some b) ⊎ ((j ≡ length l) × (a ≡ b))
at_end [] a b zero e = inr (refl, some-injective a b e)
at_end [] a b (suc j) e = absurd (some-ne-none b (sym e))
at_end (x ∷ xs) a b zero e = inl e
at_end (x ∷ xs) a b (suc j) e = ⊎_elim (λ (h : get_elem? xs j ≡ some b). inl h)
    (λ (t : (j ≡ length xs) × (a ≡ b)). inr (ap suc t.0, t.1)) (at_end xs a b j e)

pub seat_more : (P : ℕ → Knows → Type 0) (vs : List Knows) (x : Knows) → P (length vs) x
    → ((j : ℕ) (d : Knows) → get_elem? vs j ≡ some d → P j d)
    → (j : ℕ) (d : Knows) → get_elem? (vs ++ x ∷ []) j ≡ some d → P j d
seat_more P vs x new olds j d e = ⊎_elim (λ (h : get_elem? vs j ≡ some d). olds j d h)
    (λ (t : (j ≡ length vs) × (x ≡ d)). subst (λ (z : ℕ × Knows). P z.0 z.1) (λ i. (sym t.0 i, t.1 i)) new) (at_end vs x d j e)

pub one_seat : (P : ℕ → Knows → Type 0) (x : Knows) → P 0 x → (i : ℕ) (v : Knows) → get_elem? (x ∷ []) i ≡ some v → P i v
one_seat P x h zero v e = subst (P 0) (some-injective x v e) h
one_seat P x h (suc i) v e = absurd (some-ne-none v (sym e))

dropped : (fs : List Bool) (c : ℕ) → flag (set fs c false) c ≡ false
dropped [] c = refl
dropped (x ∷ xs) zero = refl
dropped (x ∷ xs) (suc c) = dropped xs c

pub record SameSeat (v w : Knows) : Type 0 where
  pub senders : w.senders ≡ v.senders
  pub role : w.role ≡ v.role

-- a turn stays as it is where a seat changes that doesn't have it, or has it still with the same number
turn_kept : (vs : List Knows) (i : ℕ) (v w : Knows) → get_elem? vs i ≡ some v → (word : ℕ) (holder : Option ℕ) (Has : Knows → Type 0)
    → (Has v → SameSeat v w × Has w) → Turn vs word holder Has → Turn (set vs i w) word holder Has
turn_kept vs i v w at word holder Has k (inl f) = inl f
turn_kept vs i v w at word holder Has k (inr h) = inr (dite (ℕ_discrete h.by i)
    (λ e. let is : h.view ≡ v = same_view vs i h.by v h.view e at h.here in let s = k (subst Has is h.has) in
    let num : number w ≡ number v = ap least s.0.senders in record {
      by = h.by;
      view = w;
      is = h.is;
      here = ap (λ (z : ℕ). get_elem? (set vs i w) z) e ∙ set_here vs i w (below vs i v at);
      word_is = h.word_is ∙ (ap (λ (z : Knows). suc (number z)) is ∙ ap suc (sym num));
      somebody = λ n. s.0.role ∙ (ap (λ (z : Knows). z.role) (sym is) ∙ h.somebody (ap number is ∙ (sym num ∙ n)));
      has = s.1;
    })
    (λ n. record {
      by = h.by;
      view = h.view;
      is = h.is;
      here = set_else vs i h.by w n ∙ h.here;
      word_is = h.word_is;
      somebody = h.somebody;
      has = h.has;
    }))

turn_more : (vs : List Knows) (x : Knows) (word : ℕ) (holder : Option ℕ) (Has : Knows → Type 0) → Turn vs word holder Has
    → Turn (vs ++ x ∷ []) word holder Has
turn_more vs x word holder Has (inl f) = inl f
turn_more vs x word holder Has (inr h) = inr record {
  by = h.by;
  view = h.view;
  is = h.is;
  here = at_longer vs (x ∷ []) h.by h.view h.here;
  word_is = h.word_is;
  somebody = h.somebody;
  has = h.has;
}

pub free_of : (vs : List Knows) (word : ℕ) (holder : Option ℕ) (Has : Knows → Type 0) → Turn vs word holder Has → word ≡ 0
    → holder ≡ None
free_of vs word holder Has (inl f) z = f.none
free_of vs word holder Has (inr h) z = let w = h.word_is in absurd (omega arith)

open_turn : (vs : List Knows) (Has : Knows → Type 0) → Turn vs 0 None Has
open_turn vs Has = inl record { none = refl; zero = refl }

module _ (m : QState) (ok : Agrees m) (i : ℕ) (v : Knows) (at : get_elem? m.seats i ≡ some v) where
  abbrev own : SeatAgrees m i v
  own = ok.each i v at

  abbrev With : Knows → List Knows
  With w = set m.seats i w

  abbrev Set : QState → Knows → QState
  Set m' w = record m' { seats = With w }

  agrees_step : (m' : QState) (w : Knows) → ((j : ℕ) → j ≢ i → m'.saw_off j ≡ m.saw_off j)
      → ((j : ℕ) (d : Knows) → j ≢ i → get_elem? m.seats j ≡ some d → SeatAgrees m j d → SeatAgrees (Set m' w) j d)
      → SeatAgrees (Set m' w) i w
      → Turn (With w) m'.turn m'.holder HasOuter → ((c : ℕ) → Turn (With w) (m'.cells c).word (m'.cells c).holder (HasBuffer c))
      → (m'.holder ≡ None → Nothing m'.fetching m'.removing m'.switched) → Agrees (Set m' w)
  agrees_step m' w saws others mine turn cells idle = record {
    each = seat_set (SeatAgrees (Set m' w)) m.seats i w mine (λ j d n at'. others j d n at' (ok.each j d at'));
    turn = turn;
    cells = cells;
    idle = idle;
    unseen = λ j h. let len = length-set m.seats i w in let low = below m.seats i v at in
        saws j (λ e. omega arith) ∙ ok.unseen j (omega arith);
  }

  -- the turns of all buffers where the seat keeps its parts
  cells_kept : (w : Knows) → SameSeat v w → w.parts ≡ v.parts → (c : ℕ)
      → Turn (With w) (m.cells c).word (m.cells c).holder (HasBuffer c)
  cells_kept w same parts c = turn_kept m.seats i v w at (m.cells c).word (m.cells c).holder (HasBuffer c)
      (λ a. (same, subst (Among c) (sym parts) a)) (ok.cells c)

  cells_with : (w : Knows) (b : ℕ) (x : Cell) → SameSeat v w → Turn (With w) x.word x.holder (HasBuffer b)
      → ((c : ℕ) → c ≢ b → Among c v.parts → Among c w.parts) → (c : ℕ)
      → Turn (With w) (put m.cells b x c).word (put m.cells b x c).holder (HasBuffer c)
  cells_with w b x same here rest = at_each (λ c z. Turn (With w) z.word z.holder (HasBuffer c)) m.cells b x here
      (λ c n. turn_kept m.seats i v w at (m.cells c).word (m.cells c).holder (HasBuffer c) (λ a. (same, rest c n a)) (ok.cells c))

  outer_kept : (w : Knows) → SameSeat v w → w.held ≡ v.held → Turn (With w) m.turn m.holder HasOuter
  outer_kept w same held = turn_kept m.seats i v w at m.turn m.holder HasOuter (λ a. (same, (a.0, held ∙ a.1))) ok.turn

  here_is : (w : Knows) → get_elem? (With w) i ≡ some w
  here_is w = set_here m.seats i w (below m.seats i v at)

  -- where no other seat has the outer turn
  solo : (m' : QState) (w : Knows) → ((j : ℕ) → j ≢ i → m.holder ≡ Some j → ⊥) → ((j : ℕ) → j ≢ i → m'.saw_off j ≡ m.saw_off j)
      → ((j : ℕ) (d : Knows) → j ≢ i → HoldsAll m.cells j d.parts → HoldsAll m'.cells j d.parts)
      → (j : ℕ) (d : Knows) → j ≢ i → get_elem? m.seats j ≡ some d → SeatAgrees m j d → SeatAgrees (Set m' w) j d
  solo m' w alone saws parts j d n at' its = record {
    outer = λ o e. absurd (alone j n (its.outer o e).mine);
    rest = its.rest;
    saw = saws j n ∙ its.saw;
    parts = parts j d n its.parts;
  }

  alone : (o : Outer) → v.held ≡ Some o → (j : ℕ) → j ≢ i → m.holder ≡ Some j → ⊥
  alone o held j n e = other_seat i j m.holder (own.outer o held).mine n e

  pub agrees_take_outer : CanTakeOuter m i v → Agrees (take_outer m i v)
  agrees_take_outer can = let none = free_of m.seats m.turn m.holder HasOuter ok.turn can.free in let still = ok.idle none in
      let rest = own.rest can.idle in let w : Knows = holding v m.outer in
      let same : SameSeat v w = record { senders = refl; role = refl } in
      agrees_step (take_outer m i v) w (λ j n. refl)
      (solo (take_outer m i v) w (λ j n e. none_some j (sym none ∙ e)) (λ j n. refl) (λ j d n h. h))
      (record {
        outer = λ o e. record {
          mine = refl;
          value = some_same m.outer o e;
          fetch = still.0 ∙ sym rest.0;
          masks = λ f. not_both m.fetching f still.0;
          given = λ f. not_both m.fetching f still.0;
          remove = still.1 ∙ sym rest.1;
          passed = λ r. not_both m.removing r still.1;
          switch = still.2 ∙ sym rest.2;
        };
        rest = λ e. some_none m.outer e;
        saw = own.saw;
        parts = own.parts;
      })
      (inr record { by = i; view = w; is = refl; here = here_is w; word_is = refl; somebody = can.somebody; has = (m.outer, refl) })
      (cells_kept w same refl)
      (λ e. absurd cc)

  -- a step that changes neither turns nor lists, nor what a seat knows of them
  agrees_seen : (so : ℕ → Bool) (w : Knows) → ((j : ℕ) → j ≢ i → so j ≡ m.saw_off j) → SameSeat v w → w.held ≡ v.held
      → w.parts ≡ v.parts → SeatAgrees (Set (record m { saw_off = so }) w) i w → Agrees (Set (record m { saw_off = so }) w)
  agrees_seen so w saws same held parts mine = agrees_step (record m { saw_off = so }) w saws
      (λ j d n at' its. record { outer = its.outer; rest = its.rest; saw = saws j n ∙ its.saw; parts = its.parts })
      mine (outer_kept w same held) (cells_kept w same parts) ok.idle

  pub agrees_refuse_outer : Agrees (refuse_outer m i v)
  agrees_refuse_outer = agrees_seen (put m.saw_off i false) (turned_away v m.turn) (λ j n. put_else m.saw_off i j false n)
      (record { senders = refl; role = refl }) refl refl
      (record { outer = own.outer; rest = own.rest; saw = put_here m.saw_off i false; parts = own.parts })

  pub agrees_refuse_buffer : (c : ℕ) → Agrees (refuse_buffer m i v c)
  agrees_refuse_buffer c = agrees_seen (put m.saw_off i false) (turned_away_at v (c + 3) (m.cells c).word)
      (λ j n. put_else m.saw_off i j false n) (record { senders = refl; role = refl }) refl refl
      (record { outer = own.outer; rest = own.rest; saw = put_here m.saw_off i false; parts = own.parts })

  pub agrees_load_mode : Agrees (load_mode m i v)
  agrees_load_mode = agrees_seen (put m.saw_off i (not m.mode)) (saw v m.mode) (λ j n. put_else m.saw_off i j (not m.mode) n)
      (record { senders = refl; role = refl }) refl refl
      (record { outer = own.outer; rest = own.rest; saw = put_here m.saw_off i (not m.mode); parts = own.parts })

  pub agrees_load_filled : Agrees (load_filled m i v)
  agrees_load_filled = agrees_seen m.saw_off (counted v m.filled) (λ j n. refl) (record { senders = refl; role = refl }) refl refl
      (record { outer = own.outer; rest = own.rest; saw = own.saw; parts = own.parts })

  -- a step of the holder of the outer turn that changes no list and no turn of a buffer
  outer_changes : (m' : QState) (w : Knows) (o : Outer) → v.held ≡ Some o → ((c : ℕ) → SameHeld (m.cells c) (m'.cells c))
      → ((j : ℕ) → j ≢ i → m'.saw_off j ≡ m.saw_off j) → m'.saw_off i ≡ w.saw_off → SameSeat v w → w.parts ≡ v.parts
      → ((o' : Outer) → w.held ≡ Some o' → Doing m' i w o') → (w.held ≡ None → Nothing w.fetching w.removing w.switched)
      → Turn (With w) m'.turn m'.holder HasOuter → (m'.holder ≡ None → Nothing m'.fetching m'.removing m'.switched)
      → Agrees (Set m' w)
  outer_changes m' w o held cells saws mine same parts doing rest turn idle = agrees_step m' w saws
      (solo m' w (alone o held) saws (λ j d n h. all_same m.cells m'.cells j d.parts cells h))
      (record {
        outer = doing;
        rest = rest;
        saw = mine;
        parts = subst (HoldsAll m'.cells i) (sym parts) (all_same m.cells m'.cells i v.parts cells own.parts);
      })
      turn
      (λ c. subst (λ (z : ℕ × Option ℕ). Turn (With w) z.0 z.1 (HasBuffer c)) (λ k. (sym (cells c).word k, sym (cells c).holder k))
      (cells_kept w same parts c))
      idle

  untouched : (c : ℕ) → SameHeld (m.cells c) (m.cells c)
  untouched c = record { word = refl; holder = refl; list = refl; set = refl; sure = refl }

  pub agrees_put : (o : Outer) (x : Signal) → CanPut m i v o x → Agrees (leave_put m i v o x)
  agrees_put o x can = let out = own.outer o can.held in let w : Knows = after_put v (added o x (refused m i v) v.switched) in
      outer_changes (leave_put m i v o x) w o can.held untouched (λ j n. put_else m.saw_off i j false n) (put_here m.saw_off i false)
      (record { senders = refl; role = refl }) refl
      (λ o' e. none_some o' e) (λ _. (can.fetching, can.removing, refl)) (open_turn (With w) HasOuter)
      (λ _. (out.fetch ∙ can.fetching, out.remove ∙ can.removing, refl))

  pub agrees_leave : (o : Outer) → CanLeave m i v o → Agrees (leave_same m i v)
  agrees_leave o can = let out = own.outer o can.held in let w : Knows = after_same v in
      outer_changes (leave_same m i v) w o can.held untouched (λ j n. put_else m.saw_off i j false n) (put_here m.saw_off i false)
      (record { senders = refl; role = refl }) refl
      (λ o' e. none_some o' e) (λ _. (refl, can.removing, can.switched)) (open_turn (With w) HasOuter)
      (λ _. (refl, out.remove ∙ can.removing, out.switch ∙ can.switched))

  pub agrees_fetch : (o : Outer) → CanFetch m i v o → Agrees (leave_fetch m i v o)
  agrees_fetch o can = let out = own.outer o can.held in let w : Knows = after_fetch v (makes_due m i v o) in
      outer_changes (leave_fetch m i v o) w o can.held untouched (λ j n. put_else m.saw_off i j false n) (put_here m.saw_off i false)
      (record { senders = refl; role = refl }) refl
      (λ o' e. none_some o' e) (λ _. (refl, can.removing, can.switched)) (open_turn (With w) HasOuter)
      (λ _. (refl, out.remove ∙ can.removing, out.switch ∙ can.switched))

  pub agrees_remove : (o : Outer) → CanRemove m i v o → Agrees (leave_remove m i v o)
  agrees_remove o can = let out = own.outer o can.held in let w : Knows = after_remove v in
      outer_changes (leave_remove m i v o) w o can.held untouched (λ j n. put_else m.saw_off i j false n) (put_here m.saw_off i false)
      (record { senders = refl; role = refl }) refl
      (λ o' e. none_some o' e) (λ _. (can.fetching, refl, can.switched)) (open_turn (With w) HasOuter)
      (λ _. (out.fetch ∙ can.fetching, refl, out.switch ∙ can.switched))

  -- the outer value that the seat holds is the machine's
  held_is : (o o' : Outer) → v.held ≡ Some o → v.held ≡ Some o' → o ≡ o'
  held_is o o' a b = some_same o o' (sym a ∙ b)

  busy : {A : Type 0} (o : Outer) → v.held ≡ Some o → v.held ≡ None → A
  busy o a b = some_none o (sym a ∙ b)

  -- where the seat has the outer turn, it isn't free
  not_idle : {A : Type 0} (o : Outer) → v.held ≡ Some o → m.holder ≡ None → A
  not_idle o held e = some_none i (sym (own.outer o held).mine ∙ e)

  -- a fetch takes the bits: the mask that it then knows is the bits as they were
  pub agrees_take_bits : (o : Outer) → CanTakeBits m i v o → Agrees (take_bits m i v)
  agrees_take_bits o can = let b = can.begins in let w : Knows = with_bits v m.filled in
      let same : SameSeat v w = record { senders = refl; role = refl } in
      outer_changes (take_bits m i v) w o b.held (λ c. record { word = refl; holder = refl; list = refl; set = refl; sure = refl })
      (λ j n. refl) own.saw same refl
      (λ o' e. let out = own.outer o' e in record {
        mine = out.mine;
        value = out.value;
        fetch = refl;
        masks = λ _ c h. sym (get_table 0 64 c (filled_at m.filled) false h ∙ ap (filled_at m.filled) (omega arith));
        given = λ _. refl;
        remove = out.remove;
        passed = out.passed;
        switch = out.switch;
      })
      (λ e. busy o b.held e) (outer_kept w same refl) (λ e. not_idle o b.held e)

  -- the holder of the outer turn switches the mode: what an install or a removal has under way is then the machine's
  switches : (mode removes switched removing installing : Bool) (at from : ℕ) (o : Outer) → v.held ≡ Some o
      → ((o' : Outer) → v.held ≡ Some o' → (removes ≡ removing) × (removes ≡ true → at ≡ from) × (switched ≡ installing))
      → Agrees (Set (record m { mode = mode; removing = removes; progress = at; switched = switched })
      (record v { removing = removing; progress = from; switched = installing }))
  switches mode removes switched removing installing at from o held work =
      let w : Knows = record v { removing = removing; progress = from; switched = installing } in
      let same : SameSeat v w = record { senders = refl; role = refl } in
      outer_changes (record m { mode = mode; removing = removes; progress = at; switched = switched }) w o held untouched
      (λ j n. refl) own.saw same refl
      (λ o' e. let out = own.outer o' e in let now = work o' e in record {
        mine = out.mine;
        value = out.value;
        fetch = out.fetch;
        masks = out.masks;
        given = out.given;
        remove = now.0;
        passed = now.1;
        switch = now.2;
      })
      (λ e. busy o held e) (outer_kept w same refl) (λ e. not_idle o held e)

  pub agrees_mode_on : (o : Outer) → CanSwitchOn m i v o → Agrees (mode_on m i v)
  agrees_mode_on o can = switches true m.removing true v.removing true m.progress v.progress o can.begins.held
      (λ o' e. let out = own.outer o' e in (out.remove, out.passed, refl))

  pub agrees_mode_off : (o : Outer) → CanSwitchOff m i v o → Agrees (mode_off m i v)
  agrees_mode_off o can = switches false true m.switched true v.switched 0 0 o can.begins.held
      (λ o' e. (refl, λ _. refl, (own.outer o' e).switch))

  -- a mask drops one flag
  mask_dropped : (c : ℕ) (x : Cell) → x.mask ≡ false → ((d : ℕ) → d < 64 → (m.cells d).mask ≡ flag v.mask d) → (d : ℕ) → d < 64
      → (put m.cells c x d).mask ≡ flag (set v.mask c false) d
  mask_dropped c x none masks d low = dite (ℕ_discrete d c)
      (λ e. ap (λ (z : Cell). z.mask) (ap (put m.cells c x) e ∙ put_here m.cells c x)
      ∙ (none ∙ sym (ap (λ (z : ℕ). flag (set v.mask c false) z) e ∙ dropped v.mask c)))
      (λ n. ap (λ (z : Cell). z.mask) (put_else m.cells c d x n) ∙ (masks d low ∙ sym (get_or-set_other v.mask c d false false n)))

  -- a bit is given back
  pub agrees_set_back : (c : ℕ) (o : Outer) → CanSetBack m i v c o → Agrees (set_back m i v c)
  agrees_set_back c o can = let w : Knows = given_back v c in let same : SameSeat v w = record { senders = refl; role = refl } in
      let x : Cell = record (m.cells c) { mask = false } in
      outer_changes (set_back m i v c) w o can.held
      (λ d. dite (ℕ_discrete d c)
      (λ e. subst (λ (z : ℕ). SameHeld (m.cells z) (put m.cells c x z)) (sym e)
      (subst (SameHeld (m.cells c)) (sym (put_here m.cells c x)) record {
        word = refl;
        holder = refl;
        list = refl;
        set = refl;
        sure = refl;
      }))
      (λ n. subst (SameHeld (m.cells d)) (sym (put_else m.cells c d x n)) (untouched d)))
      (λ j n. refl) own.saw same refl
      (λ o' e. let out = own.outer o' e in record {
        mine = out.mine;
        value = out.value;
        fetch = out.fetch;
        masks = λ f d low. mask_dropped c x refl (λ k. out.masks f k) d low;
        given = λ k. ap (λ (n : ℕ). with_bit n c) (out.given k);
        remove = out.remove;
        passed = out.passed;
        switch = out.switch;
      })
      (λ e. busy o can.held e) (outer_kept w same refl) (λ e. not_idle o can.held e)

  -- a step of a seat on one buffer, which leaves the outer turn and the mask as they are
  buffer_changes : (lg : List Item) (so : ℕ → Bool) (fl c : ℕ) (x : Cell) (b : Bool) (ps : List HeldBuffer) (pt : List Item)
      (ls ts : List (ℕ × ℕ)) → x.mask ≡ (m.cells c).mask
      → ((j : ℕ) → j ≢ i → so j ≡ m.saw_off j) → so i ≡ b → ((j : ℕ) → j ≢ i → (m.cells c).holder ≡ Some j → ⊥)
      → HoldsAll (put m.cells c x) i ps
      → Turn (With (record v { saw_off = b; parts = ps; put = pt; loads = ls; tries = ts })) x.word x.holder (HasBuffer c)
      → ((d : ℕ) → d ≢ c → Among d v.parts → Among d ps)
      → Agrees (record m {
        log = lg;
        filled = fl;
        cells = put m.cells c x;
        saw_off = so;
        seats = With (record v { saw_off = b; parts = ps; put = pt; loads = ls; tries = ts });
      })
  buffer_changes lg so fl c x b ps pt ls ts masks saws mine others holds turn rest = let w : Knows = record v {
    saw_off = b;
    parts = ps;
    put = pt;
    loads = ls;
    tries = ts;
  } in
      let same : SameSeat v w = record { senders = refl; role = refl } in
      let m' : QState = record m { log = lg; filled = fl; cells = put m.cells c x; saw_off = so } in
      let mask_same : (d : ℕ) → (put m.cells c x d).mask ≡ (m.cells d).mask = (λ d. dite (ℕ_discrete d c)
      (λ e. ap (λ (z : Cell). z.mask) (ap (put m.cells c x) e ∙ put_here m.cells c x)
      ∙ (masks ∙ ap (λ (z : ℕ). (m.cells z).mask) (sym e)))
      (λ n. ap (λ (z : Cell). z.mask) (put_else m.cells c d x n))) in
      let still : (j : ℕ) (d : Knows) (o : Outer) → Doing m j d o
      → Doing m' j d o = (λ j d o out. record {
        mine = out.mine;
        value = out.value;
        fetch = out.fetch;
        masks = λ f e low. mask_same e ∙ out.masks f e low;
        given = out.given;
        remove = out.remove;
        passed = out.passed;
        switch = out.switch;
      }) in
      agrees_step m' w saws
      (λ j d n at' its. record {
        outer = λ o e. still j d o (its.outer o e);
        rest = its.rest;
        saw = saws j n ∙ its.saw;
        parts = unchanged m.cells j c x d.parts (apart_of m.cells j c d.parts (others j n) its.parts) its.parts;
      })
      (record { outer = λ o e. still i v o (own.outer o e); rest = own.rest; saw = mine; parts = holds })
      (outer_kept w same refl) (cells_with w c x same turn rest) ok.idle

  pub agrees_take_buffer : (c : ℕ) → CanTakeBuffer m i v c → Agrees (take_buffer m i v c)
  agrees_take_buffer c can = let x : Cell = record (m.cells c) {
    word = suc (number v);
    holder = Some i;
    set = false;
    sure = false;
  } in let p : HeldBuffer = part c (m.cells c).list in let w : Knows = gains v c (m.cells c).list in
      let none = free_of m.seats (m.cells c).word (m.cells c).holder (HasBuffer c) (ok.cells c) can.free in
      let no_one : (j : ℕ) → (m.cells c).holder ≡ Some j → ⊥ = (λ j e. none_some j (sym none ∙ e)) in
      let apart : Apart c v.parts = apart_of m.cells i c v.parts (no_one i) own.parts in
      buffer_changes m.log m.saw_off m.filled c x v.saw_off (v.parts ++ p ∷ []) v.put v.loads w.tries refl (λ j n. refl) own.saw
      (λ j _. no_one j)
      (holds_more (put m.cells c x) i p v.parts (unchanged m.cells i c x v.parts apart own.parts) apart
      (subst (HeldBy i p) (sym (put_here m.cells c x)) record { holder = refl; list = refl; set = refl; sure = refl }))
      (inr record {
        by = i;
        view = w;
        is = refl;
        here = here_is w;
        word_is = refl;
        somebody = can.somebody;
        has = among_last p v.parts;
      })
      (λ d _ a. among_more d p v.parts a)

  -- the buffer that the seat took first
  module _ (p : HeldBuffer) (ps : List HeldBuffer) (first : v.parts ≡ p ∷ ps) where
    all : HoldsAll m.cells i (p ∷ ps)
    all = subst (HoldsAll m.cells i) first own.parts

    no_other : (j : ℕ) → j ≢ i → (m.cells p.number).holder ≡ Some j → ⊥
    no_other j n e = other_seat i j (m.cells p.number).holder all.0.holder n e

    tail_is : tail v.parts ≡ ps
    tail_is = ap tail first

    others_stay : (d : ℕ) → d ≢ p.number → Among d v.parts → Among d (tail v.parts)
    others_stay d n a = subst (Among d) (sym tail_is)
        (⊎_elim (λ (e : p.number ≡ d). absurd (n (sym e))) (λ (z : Among d ps). z) (subst (Among d) first a))

    -- its turn is in the word, as the seat's number
    turn_now : (w : Knows) → SameSeat v w → Among p.number w.parts
        → Turn (With w) (m.cells p.number).word (m.cells p.number).holder (HasBuffer p.number)
    turn_now w same has = turn_kept m.seats i v w at (m.cells p.number).word (m.cells p.number).holder (HasBuffer p.number)
        (λ _. (same, has)) (ok.cells p.number)

    pub agrees_leave_buffer : Agrees (buffer_same m i v p ps)
    agrees_leave_buffer = let c : ℕ = p.number in
        let x : Cell = record (m.cells c) { word = 0; holder = None; set = false; sure = false } in
        buffer_changes m.log m.saw_off m.filled c x v.saw_off (tail v.parts) v.put v.loads v.tries refl (λ j n. refl) own.saw no_other
        (subst (HoldsAll (put m.cells c x) i) (sym tail_is) (unchanged m.cells i c x ps all.1 all.2))
        (open_turn (With (loses v)) (HasBuffer c)) others_stay

    pub agrees_put_to_buffer : (y : Signal) → Agrees (buffer_put m i v p y)
    agrees_put_to_buffer y = let c : ℕ = p.number in let x : Cell = record (m.cells c) {
      list = (m.cells c).list ++ y ∷ [];
      word = 0;
      holder = None;
      set = false;
      sure = false;
    } in let w : Knows = put_to_buffer v (p.list ++ y ∷ []) in
        buffer_changes (m.log ++ record { signal = y; via = via.Buffer p.number } ∷ []) m.saw_off m.filled c x v.saw_off
        (tail v.parts) w.put v.loads v.tries refl (λ j n. refl) own.saw no_other
        (subst (HoldsAll (put m.cells c x) i) (sym tail_is) (unchanged m.cells i c x ps all.1 all.2))
        (open_turn (With w) (HasBuffer c)) others_stay

    -- the holder of the outer turn leaves this buffer, whose list comes behind the outer list
    left_first : (m' : QState) (w : Knows) (x : Cell) (o : Outer) → v.held ≡ Some o → m'.cells ≡ put m.cells p.number x
        → ((j : ℕ) → m'.saw_off j ≡ m.saw_off j) → x.word ≡ 0 → x.holder ≡ None → SameSeat v w → w.parts ≡ tail v.parts
        → w.saw_off ≡ v.saw_off
        → ((o' : Outer) → w.held ≡ Some o' → Doing m' i w o') → (w.held ≡ None → ⊥) → Turn (With w) m'.turn m'.holder HasOuter
        → (m'.holder ≡ None → ⊥) → Agrees (Set m' w)
    left_first m' w x o held cells saws nil gone same parts sees doing not_none turn not_free = let c : ℕ = p.number in
        let holds : (j : ℕ) (ps : List HeldBuffer) → HoldsAll (put m.cells c x) j ps
        → HoldsAll m'.cells j ps = (λ j ps h. subst (λ (z : ℕ → Cell). HoldsAll z j ps) (sym cells) h) in
        agrees_step m' w (λ j n. saws j)
        (solo m' w (alone o held) (λ j n. saws j)
        (λ j d n h. holds j d.parts (unchanged m.cells j c x d.parts (apart_of m.cells j c d.parts (no_other j n) h) h)))
        (record {
          outer = doing;
          rest = λ e. absurd (not_none e);
          saw = saws i ∙ (own.saw ∙ sym sees);
          parts = holds i w.parts (subst (HoldsAll (put m.cells c x) i) (sym (parts ∙ tail_is))
              (unchanged m.cells i c x ps all.1 all.2));
        })
        turn
        (λ d. subst (λ (z : ℕ → Cell). Turn (With w) (z d).word (z d).holder (HasBuffer d)) (sym cells)
        (cells_with w c x same (inl record { none = gone; zero = nil })
        (λ e n a. subst (Among e) (sym parts) (others_stay e n a)) d))
        (λ e. absurd (not_free e))

    pub agrees_take_part : (o : Outer) → CanTakePart m i v p ps o → Agrees (buffer_fetched m i v p ps o)
    agrees_take_part o can = let out = own.outer o can.held in let c : ℕ = p.number in
        let x : Cell = record (m.cells c) { list = []; word = 0; holder = None; set = false; sure = false; mask = false } in
        let w : Knows = took_part v o p in
        let same : SameSeat v w = record { senders = refl; role = refl } in
        left_first (buffer_fetched m i v p ps o) w x o can.held refl (λ j. refl) refl refl same refl refl
        (λ o' e. record {
          mine = out.mine;
          value = some_same (behind o p.list) o' e;
          fetch = out.fetch;
          masks = λ f d low. mask_dropped c x refl (λ k. out.masks f k) d low;
          given = out.given;
          remove = out.remove;
          passed = out.passed;
          switch = out.switch;
        })
        (λ e. some_none (behind o p.list) e)
        (turn_kept m.seats i v w at m.turn m.holder HasOuter (λ _. (same, (behind o p.list, refl))) ok.turn)
        (λ e. not_idle o can.held e)

    pub agrees_pass : (o : Outer) → CanPass m i v p ps o → Agrees (buffer_passed m i v p ps o)
    agrees_pass o can = let out = own.outer o can.held in let c : ℕ = p.number in
        let x : Cell = record (m.cells c) { list = []; word = 0; holder = None; set = false; sure = false } in
        let w : Knows = passed v o p in
        let same : SameSeat v w = record { senders = refl; role = refl } in
        left_first (buffer_passed m i v p ps o) w x o can.held refl (λ j. refl) refl refl same refl refl
        (λ o' e. record {
          mine = out.mine;
          value = some_same (behind o p.list) o' e;
          fetch = out.fetch;
          masks = λ f. not_both m.fetching f (out.fetch ∙ can.fetching);
          given = λ f. not_both m.fetching f (out.fetch ∙ can.fetching);
          remove = out.remove;
          passed = λ r. ap suc (out.passed r);
          switch = out.switch;
        })
        (λ e. some_none (behind o p.list) e)
        (turn_kept m.seats i v w at m.turn m.holder HasOuter (λ _. (same, (behind o p.list, refl))) ok.turn)
        (λ e. not_idle o can.held e)

  -- the one buffer that a sender has
  module _ (p : HeldBuffer) (one : v.parts ≡ p ∷ []) where
    only : (d : ℕ) → d ≢ p.number → Among d v.parts → ⊥
    only d n a = ⊎_elim (λ (e : p.number ≡ d). n (sym e)) (λ (z : ⊥). z) (subst (Among d) one a)

    pub agrees_set_bit : Agrees (set_bit m i v p)
    agrees_set_bit = let c : ℕ = p.number in let x : Cell = record (m.cells c) { set = true } in let h = (all p [] one).0 in
        let w : Knows = marked v p in
        buffer_changes m.log m.saw_off (with_bit m.filled c) c x v.saw_off (record p { set = true } ∷ []) v.put v.loads v.tries refl
        (λ j n. refl) own.saw (no_other p [] one) (
          subst (HeldBy i (record p { set = true })) (sym (put_here m.cells c x)) record {
            holder = h.holder;
            list = h.list;
            set = refl;
            sure = h.sure;
          },
          tt,
          tt,
        )
        (turn_now p [] one w record { senders = refl; role = refl } (inl refl)) (λ d n a. absurd (only d n a))

    pub agrees_load_under : Agrees (load_under m i v p)
    agrees_load_under = let c : ℕ = p.number in let x : Cell = record (m.cells c) { sure = m.mode } in let h = (all p [] one).0 in
        let w : Knows = saw_under v p m.mode in
        buffer_changes m.log (put m.saw_off i (not m.mode)) m.filled c x (not m.mode)
        (record p { sure = m.mode } ∷ []) v.put w.loads v.tries refl (λ j n. put_else m.saw_off i j (not m.mode) n)
        (put_here m.saw_off i (not m.mode)) (no_other p [] one) (
          subst (HeldBy i (record p { sure = m.mode })) (sym (put_here m.cells c x)) record {
            holder = h.holder;
            list = h.list;
            set = h.set;
            sure = refl;
          },
          tt,
          tt,
        )
        (turn_now p [] one w record { senders = refl; role = refl } (inl refl)) (λ d n a. absurd (only d n a))

  -- a seat that holds nothing changes, and so may who has which sender
  agrees_idle : (ow : ℕ → ℕ) (rd : ℕ) (w : Knows) → Idle v → w.held ≡ None → Nothing w.fetching w.removing w.switched → w.parts ≡ []
      → w.saw_off ≡ false → Agrees (record m { owner = ow; reader = rd; seats = With w })
  agrees_idle ow rd w idle held rest parts sees = let m' : QState = record m { owner = ow; reader = rd } in
      let kept : (word : ℕ) (holder : Option ℕ) (Has : Knows → Type 0) → (Has v → ⊥) → Turn m.seats word holder Has
      → Turn (With w) word holder Has = (λ word holder Has n t. turn_kept m.seats i v w at word holder Has
      (λ h. absurd (n h)) t) in
      agrees_step m' w (λ j n. refl)
      (λ j d n at' its. record { outer = its.outer; rest = its.rest; saw = its.saw; parts = its.parts })
      (record {
        outer = λ o e. none_some o (sym held ∙ e);
        rest = λ _. rest;
        saw = own.saw ∙ (idle.saw ∙ sym sees);
        parts = subst (HoldsAll m.cells i) (sym parts) tt;
      })
      (kept m.turn m.holder HasOuter (λ h. none_some h.0 (sym idle.held ∙ h.1)) ok.turn)
      (λ c. kept (m.cells c).word (m.cells c).holder (HasBuffer c) (λ h. subst (Among c) idle.parts h) (ok.cells c))
      ok.idle

  agrees_more : (x : Knows) → x.held ≡ None → Nothing x.fetching x.removing x.switched → x.parts ≡ [] → x.saw_off ≡ false
      → Agrees (record m { seats = m.seats ++ x ∷ [] })
  agrees_more x held rest parts sees = let m' : QState = record m { seats = m.seats ++ x ∷ [] } in record {
    each = seat_more (SeatAgrees m') m.seats x
        (record {
          outer = λ o e. none_some o (sym held ∙ e);
          rest = λ _. rest;
          saw = ok.unseen (length m.seats) (omega arith) ∙ sym sees;
          parts = subst (HoldsAll m.cells (length m.seats)) (sym parts) tt;
        })
        (λ j d at'. let its = ok.each j d at' in record { outer = its.outer; rest = its.rest; saw = its.saw; parts = its.parts });
    turn = turn_more m.seats x m.turn m.holder HasOuter ok.turn;
    cells = λ c. turn_more m.seats x (m.cells c).word (m.cells c).holder (HasBuffer c) (ok.cells c);
    idle = ok.idle;
    unseen = λ j h. let len = length-append m.seats (x ∷ []) in ok.unseen j (omega arith);
  }

  pub agrees_note : Agrees (note m i v)
  agrees_note = agrees_more (note_of v) refl (refl, refl, refl) refl refl

pub agrees_split : (m : QState) → Agrees m → (i : ℕ) (v : Knows) (given : List ℕ) (role : Bool) → CanSplit m i v given role
    → Agrees (split m i v given role)
agrees_split m ok i v given role can = let l : Knows = left_of v given role in let q : QState = split m i v given role in
    let m' : QState = record m { owner = q.owner; reader = q.reader; seats = set m.seats i l } in
    let rest = (ok.each i v can.at).rest can.idle.held in
    agrees_more m' (agrees_idle m ok i v can.at q.owner q.reader l can.idle can.idle.held rest can.idle.parts can.idle.saw) i l
    (set_here m.seats i l (below m.seats i v can.at)) (right_of v given role) refl (refl, refl, refl) refl refl

pub agrees_join : (m : QState) → Agrees m → (i : ℕ) (v : Knows) (j : ℕ) (w : Knows) → CanJoin m i v j w → Agrees (join m i v j w)
agrees_join m ok i v j w can = let b : Knows = joined v w in let q : QState = join m i v j w in
    let m' : QState = record m { seats = set m.seats i b } in
    let rest = (ok.each i v can.at).rest can.idle.held in
    agrees_idle m' (agrees_idle m ok i v can.at m.owner m.reader b can.idle can.idle.held rest can.idle.parts can.idle.saw) j w
    (set_else m.seats i j b can.apart ∙ can.there) q.owner q.reader spent can.still refl (refl, refl, refl) refl refl

agrees_opened : (z : Setup) → Agrees (opened_with z)
agrees_opened z = record {
  each = one_seat (SeatAgrees (opened_with z)) (first_seat z.senders)
      (record { outer = λ o e. none_some o e; rest = λ _. (refl, refl, refl); saw = refl; parts = tt });
  turn = inl record { none = refl; zero = refl };
  cells = λ c. inl record { none = refl; zero = refl };
  idle = λ _. (refl, refl, refl);
  unseen = λ _ _. refl;
}

pub agrees : (z : Setup) (q : QState) → Reached z q → Agrees q
agrees z _ opened = agrees_opened z
agrees z _ (by_take_outer q i v can r) = agrees_take_outer q (agrees z q r) i v can.at can
agrees z _ (by_refuse_outer q i v can r) = agrees_refuse_outer q (agrees z q r) i v can.at
agrees z _ (by_put q i v o x can r) = agrees_put q (agrees z q r) i v can.at o x can
agrees z _ (by_leave q i v o can r) = agrees_leave q (agrees z q r) i v can.at o can
agrees z _ (by_take_bits q i v o can r) = agrees_take_bits q (agrees z q r) i v can.at o can
agrees z _ (by_fetch q i v o can r) = agrees_fetch q (agrees z q r) i v can.at o can
agrees z _ (by_mode_on q i v o can r) = agrees_mode_on q (agrees z q r) i v can.at o can
agrees z _ (by_mode_off q i v o can r) = agrees_mode_off q (agrees z q r) i v can.at o can
agrees z _ (by_remove q i v o can r) = agrees_remove q (agrees z q r) i v can.at o can
agrees z _ (by_load_mode q i v can r) = agrees_load_mode q (agrees z q r) i v can.at
agrees z _ (by_load_filled q i v at r) = agrees_load_filled q (agrees z q r) i v at
agrees z _ (by_take_buffer q i v c can r) = agrees_take_buffer q (agrees z q r) i v can.at c can
agrees z _ (by_refuse_buffer q i v c can r) = agrees_refuse_buffer q (agrees z q r) i v can.at c
agrees z _ (by_set_back q i v c o can r) = agrees_set_back q (agrees z q r) i v can.at c o can
agrees z _ (by_load_under q i v p can r) = agrees_load_under q (agrees z q r) i v can.at p can.one
agrees z _ (by_set_bit q i v p can r) = agrees_set_bit q (agrees z q r) i v can.at p can.one
agrees z _ (by_put_to_buffer q i v p x can r) = agrees_put_to_buffer q (agrees z q r) i v can.at p [] can.one x
agrees z _ (by_leave_buffer q i v p ps can r) = agrees_leave_buffer q (agrees z q r) i v can.at p ps can.first
agrees z _ (by_take_part q i v p ps o can r) = agrees_take_part q (agrees z q r) i v can.at p ps can.first o can
agrees z _ (by_pass q i v p ps o can r) = agrees_pass q (agrees z q r) i v can.at p ps can.first o can
agrees z _ (by_split q i v given role can r) = agrees_split q (agrees z q r) i v given role can
agrees z _ (by_note q i v at r) = agrees_note q (agrees z q r) i v at
agrees z _ (by_join q i v j w can r) = agrees_join q (agrees z q r) i v j w can
