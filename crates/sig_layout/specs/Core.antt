-- The queue as a machine of single steps. Each step is one atomic step of the table, and each of its conditions is read off the
-- view of the seat that makes it and the word that it finds. (The runtime's notes on parallel signal sending; the words, the turns
-- and the seats are this project's own.)
use Rattle.std.specs.Prelude.{◌≡◌, ◌≢◌, ℕ, suc, ◌+◌, ◌%◌, ◌<◌, ◌==◌, Bool, true, false, not, if◌then◌else◌, List, [], ◌∷◌, ◌++◌, length, slice_set, Option, Some, None}
use mathlib.Core.Option.{some}
use lib.ListN.{get_elem?}
use Rattle.sig_kinds.specs.declared.signal.Signal.{Signal}
use Rattle.sig_layout.specs.declared.layout.TheConstants.{BUFFERS}
use Rattle.sig_layout.specs.declared.entry.Entry.TheVariants.{Direct}
use Rattle.sig_layout.specs.declared.via.Via.TheVariants as via
use Rattle.sig_layout.specs.declared.item.Item.{Item}
use Rattle.sig_layout.specs.declared.setup.Setup.{Setup}
use Rattle.sig_layout.specs.declared.outer.Outer.{Outer}
use Rattle.sig_layout.specs.declared.held_buffer.HeldBuffer.{HeldBuffer}
use Rattle.sig_layout.specs.declared.knows.Knows.{Knows}
use Rattle.sig_layout.specs.Sets.{has}
use Rattle.sig_layout.specs.Policies.{begins_on, first_journal}
use Rattle.sig_layout.specs.Summaries.{due_at, is_install, is_remove}
use Rattle.sig_layout.specs.Openings.{IsNext}
use Rattle.sig_layout.specs.Outers.{added, emptied, removed, behind}
use Rattle.sig_layout.specs.Views.{number, IsSomebody, filled_at, with_bit, flag, holding, turned_away, after_put, after_same, with_bits, after_fetch, switched_on, switched_off, after_remove, saw, counted, gains, turned_away_at, saw_under, marked, given_back, loses, put_to_buffer, took_part, passed, left_of, right_of, note_of, joined, spent, first_seat}

-- one of the buffers
pub record Cell : Type 0 where
  pub list : List Signal
  -- the word of the turn: 0, or 1 more than the holder's number
  pub word : ℕ
  -- the seat that holds the turn
  pub holder : Option ℕ
  -- the holder has set the bit, and it saw the mode on under this turn
  pub set : Bool
  pub sure : Bool
  -- a fetch has the bit
  pub mask : Bool

pub record QState : Type 0 where
  -- what the queue was opened with
  pub setup : Setup
  -- all that was put, and all that was fetched, in order
  pub log : List Item
  pub taken : List Signal
  -- the outer list and the journal
  pub outer : Outer
  -- the word of the outer turn, and the seat that holds it
  pub turn : ℕ
  pub holder : Option ℕ
  -- the words of the mode and of the bits
  pub mode : Bool
  pub filled : ℕ
  pub cells : ℕ → Cell
  -- what the holder of the outer turn does: a fetch that took the bits, with all that had been put by then and the bits that it
  -- set again; or a removal that passed so many buffers; or a put that stored the mode on
  pub fetching : Bool
  pub base : List Item
  pub back : ℕ
  pub removing : Bool
  pub progress : ℕ
  pub switched : Bool
  -- which seats saw the mode off
  pub saw_off : ℕ → Bool
  -- the seat that has each sender, and the one that has the role
  pub owner : ℕ → ℕ
  pub reader : ℕ
  -- what each seat knows
  pub seats : List Knows

-- f with x at b
abbrev pub put : {X : Type 0} → (ℕ → X) → ℕ → X → ℕ → X
put f b x c = if c == b then x else f c

-- the buffer of a sender
abbrev pub buffer_of : ℕ → ℕ
buffer_of s = s % BUFFERS

-- whether the count of refusals is not 0
abbrev pub some_refused : ℕ → Bool
some_refused n = not (n == 0)

abbrev pub empty_cell : Cell
empty_cell = record { list = []; word = 0; holder = None; set = false; sure = false; mask = false }

abbrev pub opened_with : Setup → QState
opened_with z = record {
  setup = z;
  log = [];
  taken = [];
  outer = record { signals = []; journal = first_journal z.policy };
  turn = 0;
  holder = None;
  mode = begins_on z.policy;
  filled = 0;
  cells = λ _. empty_cell;
  fetching = false;
  base = [];
  back = 0;
  removing = false;
  progress = 0;
  switched = false;
  saw_off = λ _. false;
  owner = λ _. 0;
  reader = 0;
  seats = first_seat z.senders ∷ [];
}

-- the seat holds no turn, and doesn't know the mode
pub record Idle (v : Knows) : Type 0 where
  pub held : v.held ≡ None
  pub parts : v.parts ≡ []
  pub saw : v.saw_off ≡ false
  pub fetching : v.fetching ≡ false
  pub removing : v.removing ≡ false
  pub switched : v.switched ≡ false
  pub mask : v.mask ≡ []
  pub back : v.back ≡ 0
  pub moved : v.moved ≡ 0
  pub progress : v.progress ≡ 0

-- the seat has the outer turn, and does nothing with it yet
pub record Begins (v : Knows) (o : Outer) : Type 0 where
  pub held : v.held ≡ Some o
  pub fetching : v.fetching ≡ false
  pub removing : v.removing ≡ false
  pub switched : v.switched ≡ false

abbrev pub Unmasked : Knows → Type 0
Unmasked v = (c : ℕ) → c < BUFFERS → flag v.mask c ≡ false

-- The kinds of step of the seat i with the view v: what each asks, and the state after it.
module _ (q : QState) (i : ℕ) (v : Knows) where
  abbrev pub At : Type 0
  At = get_elem? q.seats i ≡ some v

  abbrev pub seats_with : Knows → List Knows
  seats_with w = slice_set q.seats i w

  abbrev pub refused : Bool
  refused = some_refused v.refused

  -- the outer turn is taken, or refused
  pub record CanTakeOuter : Type 0 where
    pub at : At
    pub free : q.turn ≡ 0
    pub idle : v.held ≡ None
    pub somebody : IsSomebody v

  abbrev pub take_outer : QState
  take_outer = record q { turn = suc (number v); holder = Some i; seats = seats_with (holding v q.outer) }

  pub record CanRefuseOuter : Type 0 where
    pub at : At
    pub busy : q.turn ≢ 0

  abbrev pub refuse_outer : QState
  refuse_outer = record q { saw_off = put q.saw_off i false; seats = seats_with (turned_away v q.turn) }

  -- whether a put makes an install due
  abbrev pub makes_install : Outer → Bool
  makes_install o = is_install (due_at q.setup.policy (o.journal ++ Direct refused ∷ []))

  -- It is left in one of four ways, here with one more signal. That installs where the put makes an install due.

  pub record CanPut (o : Outer) (x : Signal) : Type 0 where
    pub at : At
    pub held : v.held ≡ Some o
    pub fetching : v.fetching ≡ false
    pub removing : v.removing ≡ false
    pub installs : v.switched ≡ makes_install o
    pub off : v.saw_off ≡ true
    pub from : has v.senders x.from.0 ≡ true
    pub next : IsNext q.setup v.put x

  abbrev pub leave_put : Outer → Signal → QState
  leave_put o x = record q {
    log = q.log ++ record { signal = x; via = via.Outer } ∷ [];
    outer = added o x refused v.switched;
    turn = 0;
    holder = None;
    switched = false;
    saw_off = put q.saw_off i false;
    seats = seats_with (after_put v (added o x refused v.switched));
  }

  -- it is left unchanged
  pub record CanLeave (o : Outer) : Type 0 where
    pub at : At
    pub held : v.held ≡ Some o
    pub removing : v.removing ≡ false
    pub switched : v.switched ≡ false
    pub unmasked : v.fetching ≡ true → Unmasked v

  abbrev pub leave_same : QState
  leave_same = record q {
    turn = 0;
    holder = None;
    fetching = false;
    saw_off = put q.saw_off i false;
    seats = seats_with (after_same v);
  }

  -- a fetch takes the bits
  pub record CanTakeBits (o : Outer) : Type 0 where
    pub at : At
    pub begins : Begins v o

  abbrev pub take_bits : QState
  take_bits = record q {
    cells = λ c. record (q.cells c) { mask = filled_at q.filled c };
    filled = 0;
    fetching = true;
    base = q.log;
    back = 0;
    seats = seats_with (with_bits v q.filled);
  }

  -- a put that makes an install due stores the mode on
  pub record CanSwitchOn (o : Outer) : Type 0 where
    pub at : At
    pub begins : Begins v o
    pub is_due : makes_install o ≡ true

  abbrev pub mode_on : QState
  mode_on = record q { mode = true; switched = true; seats = seats_with (switched_on v) }

  -- the outer turn is left with all taken
  pub record CanFetch (o : Outer) : Type 0 where
    pub at : At
    pub held : v.held ≡ Some o
    pub fetching : v.fetching ≡ true
    pub removing : v.removing ≡ false
    pub switched : v.switched ≡ false
    pub unmasked : Unmasked v
    pub role : v.role ≡ true
    pub not_due : v.due ≡ false

  -- whether a fetch that moved so much leaves a removal due
  abbrev pub makes_due : Outer → Bool
  makes_due o = is_remove (due_at q.setup.policy (emptied o v.moved).journal)

  abbrev pub leave_fetch : Outer → QState
  leave_fetch o = record q {
    taken = q.taken ++ o.signals;
    outer = emptied o v.moved;
    turn = 0;
    holder = None;
    fetching = false;
    saw_off = put q.saw_off i false;
    seats = seats_with (after_fetch v (makes_due o));
  }

  -- a removal stores the mode off
  pub record CanSwitchOff (o : Outer) : Type 0 where
    pub at : At
    pub begins : Begins v o
    pub blind : v.saw_off ≡ false
    pub role : v.role ≡ true
    pub is_due : v.due ≡ true

  abbrev pub mode_off : QState
  mode_off = record q { mode = false; removing = true; progress = 0; seats = seats_with (switched_off v) }

  -- the outer turn is left by a removal that has passed all buffers
  pub record CanRemove (o : Outer) : Type 0 where
    pub at : At
    pub held : v.held ≡ Some o
    pub fetching : v.fetching ≡ false
    pub removing : v.removing ≡ true
    pub switched : v.switched ≡ false
    pub role : v.role ≡ true
    pub is_due : v.due ≡ true
    pub whole : v.progress ≡ BUFFERS

  abbrev pub leave_remove : Outer → QState
  leave_remove o = record q {
    outer = removed o;
    turn = 0;
    holder = None;
    removing = false;
    saw_off = put q.saw_off i false;
    seats = seats_with (after_remove v);
  }

  -- loads of the mode and of the bits
  pub record CanLoad : Type 0 where
    pub at : At
    pub idle : v.held ≡ None

  abbrev pub load_mode : QState
  load_mode = record q { saw_off = put q.saw_off i (not q.mode); seats = seats_with (saw v q.mode) }

  abbrev pub load_filled : QState
  load_filled = record q { seats = seats_with (counted v q.filled) }

  -- the turn of the buffer c is taken, or refused
  module _ (c : ℕ) where
    pub record CanTakeBuffer : Type 0 where
      pub at : At
      pub low : c < BUFFERS
      pub free : (q.cells c).word ≡ 0
      pub somebody : IsSomebody v

    abbrev pub take_buffer : QState
    take_buffer = record q {
      cells = put q.cells c (record (q.cells c) {
        word = suc (number v);
        holder = Some i;
        set = false;
        sure = false;
      });
      seats = seats_with (gains v c (q.cells c).list);
    }

    pub record CanRefuseBuffer : Type 0 where
      pub at : At
      pub low : c < BUFFERS
      pub busy : (q.cells c).word ≢ 0

    abbrev pub refuse_buffer : QState
    refuse_buffer = record q { saw_off = put q.saw_off i false; seats = seats_with (turned_away_at v (c + 3) (q.cells c).word) }

    -- a fetch sets the bit of c again, which it had taken
    pub record CanSetBack (o : Outer) : Type 0 where
      pub at : At
      pub low : c < BUFFERS
      pub held : v.held ≡ Some o
      pub fetching : v.fetching ≡ true
      pub masked : flag v.mask c ≡ true

    abbrev pub set_back : QState
    set_back = record q {
      filled = with_bit q.filled c;
      back = with_bit q.back c;
      cells = put q.cells c (record (q.cells c) { mask = false });
      seats = seats_with (given_back v c);
    }

  -- the buffer that the seat took first: the mode is loaded under its turn, and its bit is set
  module _ (p : HeldBuffer) where
    abbrev pub cell : Cell
    cell = q.cells p.number

    pub record CanLoadUnder : Type 0 where
      pub at : At
      pub one : v.parts ≡ p ∷ []
      pub low : p.number < BUFFERS
      pub idle : v.held ≡ None

    abbrev pub load_under : QState
    load_under = record q {
      saw_off = put q.saw_off i (not q.mode);
      cells = put q.cells p.number (record cell { sure = q.mode });
      seats = seats_with (saw_under v p q.mode);
    }

    pub record CanSetBit : Type 0 where
      pub at : At
      pub one : v.parts ≡ p ∷ []
      pub low : p.number < BUFFERS
      pub sure : p.sure ≡ true

    abbrev pub set_bit : QState
    set_bit = record q {
      filled = with_bit q.filled p.number;
      cells = put q.cells p.number (record cell { set = true });
      seats = seats_with (marked v p);
    }

    -- its turn is left in one of three ways, here with one more signal
    pub record CanPutToBuffer (x : Signal) : Type 0 where
      pub at : At
      pub one : v.parts ≡ p ∷ []
      pub idle : v.held ≡ None
      pub sure : p.sure ≡ true
      pub is_set : p.set ≡ true
      pub blind : v.saw_off ≡ false
      pub from : has v.senders x.from.0 ≡ true
      pub next : IsNext q.setup v.put x
      pub home : buffer_of x.from.0 ≡ p.number

    abbrev pub buffer_put : Signal → QState
    buffer_put x = record q {
      log = q.log ++ record { signal = x; via = via.Buffer p.number } ∷ [];
      cells = put q.cells p.number (record cell { list = cell.list ++ x ∷ []; word = 0; holder = None; set = false; sure = false });
      seats = seats_with (put_to_buffer v (p.list ++ x ∷ []));
    }

    module _ (ps : List HeldBuffer) where
      -- unchanged
      pub record CanLeaveBuffer : Type 0 where
        pub at : At
        pub first : v.parts ≡ p ∷ ps

      abbrev pub buffer_same : QState
      buffer_same = record q {
        cells = put q.cells p.number (record cell { word = 0; holder = None; set = false; sure = false });
        seats = seats_with (loses v);
      }

      -- emptied by a fetch
      pub record CanTakePart (o : Outer) : Type 0 where
        pub at : At
        pub first : v.parts ≡ p ∷ ps
        pub held : v.held ≡ Some o
        pub fetching : v.fetching ≡ true
        pub masked : flag v.mask p.number ≡ true

      abbrev pub buffer_fetched : Outer → QState
      buffer_fetched o = record q {
        outer = behind o p.list;
        cells = put q.cells p.number (record cell { list = []; word = 0; holder = None; set = false; sure = false; mask = false });
        seats = seats_with (took_part v o p);
      }

      -- emptied by a removal
      pub record CanPass (o : Outer) : Type 0 where
        pub at : At
        pub first : v.parts ≡ p ∷ ps
        pub held : v.held ≡ Some o
        pub fetching : v.fetching ≡ false
        pub removing : v.removing ≡ true
        pub next : v.progress ≡ p.number

      abbrev pub buffer_passed : Outer → QState
      buffer_passed o = record q {
        outer = behind o p.list;
        progress = suc q.progress;
        cells = put q.cells p.number (record cell { list = []; word = 0; holder = None; set = false; sure = false });
        seats = seats_with (passed v o p);
      }

  -- a seat is cut in two
  pub record CanSplit (given : List ℕ) (role : Bool) : Type 0 where
    pub at : At
    pub idle : Idle v
    pub some_of : (s : ℕ) → has given s ≡ true → has v.senders s ≡ true
    pub role_of : role ≡ true → v.role ≡ true

  abbrev pub split : List ℕ → Bool → QState
  split given role = record q {
    owner = λ s. if has given s then length q.seats else q.owner s;
    reader = (if role then length q.seats else q.reader);
    seats = seats_with (left_of v given role) ++ right_of v given role ∷ [];
  }

  -- a note is a seat with no sender and no role, which was told what this one put and was told
  abbrev pub note : QState
  note = record q { seats = q.seats ++ note_of v ∷ [] }

  -- two seats become one, and the other is spent
  pub record CanJoin (j : ℕ) (w : Knows) : Type 0 where
    pub at : At
    pub apart : j ≢ i
    pub there : get_elem? q.seats j ≡ some w
    pub idle : Idle v
    pub still : Idle w

  abbrev pub join : ℕ → Knows → QState
  join j w = record q {
    owner = λ s. if q.owner s == j then i else q.owner s;
    reader = (if q.reader == j then i else q.reader);
    seats = slice_set (seats_with (joined v w)) j spent;
  }

-- the states that steps reach from the opening
pub data Reached (z : Setup) : QState → Type 0 where
  opened : Reached z (opened_with z)
  by_take_outer : (q : QState) (i : ℕ) (v : Knows) → CanTakeOuter q i v → Reached z q → Reached z (take_outer q i v)
  by_refuse_outer : (q : QState) (i : ℕ) (v : Knows) → CanRefuseOuter q i v → Reached z q → Reached z (refuse_outer q i v)
  by_put : (q : QState) (i : ℕ) (v : Knows) (o : Outer) (x : Signal) → CanPut q i v o x → Reached z q → Reached z (leave_put q i v o x)
  by_leave : (q : QState) (i : ℕ) (v : Knows) (o : Outer) → CanLeave q i v o → Reached z q → Reached z (leave_same q i v)
  by_take_bits : (q : QState) (i : ℕ) (v : Knows) (o : Outer) → CanTakeBits q i v o → Reached z q → Reached z (take_bits q i v)
  by_fetch : (q : QState) (i : ℕ) (v : Knows) (o : Outer) → CanFetch q i v o → Reached z q → Reached z (leave_fetch q i v o)
  by_mode_on : (q : QState) (i : ℕ) (v : Knows) (o : Outer) → CanSwitchOn q i v o → Reached z q → Reached z (mode_on q i v)
  by_mode_off : (q : QState) (i : ℕ) (v : Knows) (o : Outer) → CanSwitchOff q i v o → Reached z q → Reached z (mode_off q i v)
  by_remove : (q : QState) (i : ℕ) (v : Knows) (o : Outer) → CanRemove q i v o → Reached z q → Reached z (leave_remove q i v o)
  by_load_mode : (q : QState) (i : ℕ) (v : Knows) → CanLoad q i v → Reached z q → Reached z (load_mode q i v)
  by_load_filled : (q : QState) (i : ℕ) (v : Knows) → At q i v → Reached z q → Reached z (load_filled q i v)
  by_take_buffer : (q : QState) (i : ℕ) (v : Knows) (c : ℕ) → CanTakeBuffer q i v c → Reached z q → Reached z (take_buffer q i v c)
  by_refuse_buffer : (q : QState) (i : ℕ) (v : Knows) (c : ℕ) → CanRefuseBuffer q i v c → Reached z q
      → Reached z (refuse_buffer q i v c)
  by_set_back : (q : QState) (i : ℕ) (v : Knows) (c : ℕ) (o : Outer) → CanSetBack q i v c o → Reached z q
      → Reached z (set_back q i v c)
  by_load_under : (q : QState) (i : ℕ) (v : Knows) (p : HeldBuffer) → CanLoadUnder q i v p → Reached z q → Reached z (load_under q i v p)
  by_set_bit : (q : QState) (i : ℕ) (v : Knows) (p : HeldBuffer) → CanSetBit q i v p → Reached z q → Reached z (set_bit q i v p)
  by_put_to_buffer : (q : QState) (i : ℕ) (v : Knows) (p : HeldBuffer) (x : Signal) → CanPutToBuffer q i v p x → Reached z q
      → Reached z (buffer_put q i v p x)
  by_leave_buffer : (q : QState) (i : ℕ) (v : Knows) (p : HeldBuffer) (ps : List HeldBuffer) → CanLeaveBuffer q i v p ps → Reached z q
      → Reached z (buffer_same q i v p ps)
  by_take_part : (q : QState) (i : ℕ) (v : Knows) (p : HeldBuffer) (ps : List HeldBuffer) (o : Outer)
      → CanTakePart q i v p ps o → Reached z q
      → Reached z (buffer_fetched q i v p ps o)
  by_pass : (q : QState) (i : ℕ) (v : Knows) (p : HeldBuffer) (ps : List HeldBuffer) (o : Outer) → CanPass q i v p ps o → Reached z q
      → Reached z (buffer_passed q i v p ps o)
  by_split : (q : QState) (i : ℕ) (v : Knows) (given : List ℕ) (role : Bool) → CanSplit q i v given role → Reached z q
      → Reached z (split q i v given role)
  by_note : (q : QState) (i : ℕ) (v : Knows) → At q i v → Reached z q → Reached z (note q i v)
  by_join : (q : QState) (i : ℕ) (v : Knows) (j : ℕ) (w : Knows) → CanJoin q i v j w → Reached z q → Reached z (join q i v j w)
