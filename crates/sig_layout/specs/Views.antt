-- What a seat knows after each kind of step.
use Rattle.std.specs.Prelude.{ℕ, suc, zero, ◌≡◌, ◌+◌, ◌*◌, ◌%◌, ◌^◌, ◌&&◌, ◌||◌, Bool, true, false, not, if◌then◌else◌, ◌==◌, List, [], ◌∷◌, ◌++◌, length, drop, slice_index_or, slice_set, bit_or, Option, Some, None}
use Rattle.std.specs.Int.{bit_at}
use Rattle.sig_kinds.specs.declared.signal.Signal.{Signal}
use Rattle.sig_layout.specs.declared.layout.TheConstants.{BUFFERS}
use Rattle.sig_layout.specs.declared.senders.TheConstants.{PIDS}
use Rattle.sig_layout.specs.declared.via.Via.{Via}
use Rattle.sig_layout.specs.declared.via.Via.TheVariants as via
use Rattle.sig_layout.specs.declared.item.Item.{Item}
use Rattle.sig_layout.specs.declared.outer.Outer.{Outer}
use Rattle.sig_layout.specs.declared.held_buffer.HeldBuffer.{HeldBuffer}
use Rattle.sig_layout.specs.declared.knows.Knows.{Knows}
use Rattle.sig_layout.specs.Sets.{has, least, no_senders, minus, plus}
use Rattle.sig_layout.specs.Sent.{putter, keep}
use Rattle.sig_layout.specs.Outers.{behind}

-- the number of a seat: its least sender, or PIDS
abbrev pub number : Knows → ℕ
number v = least v.senders

-- the seat has a sender or the role
abbrev pub IsSomebody : Knows → Type 0
IsSomebody v = (number v ≡ PIDS) → v.role ≡ true

abbrev pub signals_of : Option Outer → List Signal
signals_of (Some o) = o.signals
signals_of None = []

-- f k, f (k + 1) and so on, n of them
unfoldable pub table_from : {X : Type 0} → ℕ → ℕ → (ℕ → X) → List X
table_from k zero f = []
table_from k (suc n) f = f k ∷ table_from (suc k) n f

-- whether the bit of buffer c is set in the word n
abbrev pub filled_at : ℕ → ℕ → Bool
filled_at n c = bit_at n c == 1

-- the flags of a word of bits
abbrev pub flags_of : ℕ → List Bool
flags_of n = table_from 0 BUFFERS (filled_at n)

-- the word n with the bit of buffer c set
abbrev pub with_bit : ℕ → ℕ → ℕ
with_bit n c = bit_or n (1 * 2 ^ c % 2 ^ 64)

-- the flag of buffer c
abbrev pub flag : List Bool → ℕ → Bool
flag fs c = slice_index_or fs c false

abbrev pub mode_word : Bool → ℕ
mode_word true = 1
mode_word false = 0

-- these signals, put by this way
abbrev pub put_by : Via → List Signal → List Item
put_by way [] = []
put_by way (x ∷ xs) = record { signal = x; via = way } ∷ put_by way xs

abbrev pub tail : {X : Type 0} → List X → List X
tail [] = []
tail (x ∷ xs) = xs

-- the list and the number of the buffer that was taken first
abbrev pub first_list : List HeldBuffer → List Signal
first_list [] = []
first_list (p ∷ ps) = p.list

abbrev pub buffer_in : List HeldBuffer → ℕ
buffer_in [] = 0
buffer_in (p ∷ ps) = p.number

-- a buffer that was just taken
abbrev pub part : ℕ → List Signal → HeldBuffer
part c l = record { number = c; list = l; set = false; sure = false }

-- the outer turn is taken, refused with the value n found, and left; between these the bits are taken and the mode is stored
abbrev pub holding : Knows → Outer → Knows
holding v o = record v { held = Some o; tries = v.tries ++ (0, 0) ∷ [] }

abbrev pub turned_away : Knows → ℕ → Knows
turned_away v n = record v { refused = v.refused + 1; tries = v.tries ++ (0, n) ∷ []; saw_off = false }

abbrev pub after_put : Knows → Outer → Knows
after_put v o = record v {
  held = None;
  switched = false;
  saw_off = false;
  put = v.put ++ put_by via.Outer (drop (length (signals_of v.held)) o.signals);
  refused = 0;
}

abbrev pub after_same : Knows → Knows
after_same v = record v { held = None; fetching = false; saw_off = false; mask = []; back = 0; moved = 0 }

abbrev pub with_bits : Knows → ℕ → Knows
with_bits v n = record v { fetching = true; mask = flags_of n; back = 0; moved = 0; bits = n; emptied = [] }

abbrev pub after_fetch : Knows → Bool → Knows
after_fetch v due = record v {
  held = None;
  fetching = false;
  saw_off = false;
  mask = [];
  back = 0;
  moved = 0;
  taken = v.taken ++ signals_of v.held;
  fetches = v.fetches + 1;
  due = due;
}

abbrev pub switched_on : Knows → Knows
switched_on v = record v { switched = true }

abbrev pub switched_off : Knows → Knows
switched_off v = record v { removing = true; progress = 0 }

abbrev pub after_remove : Knows → Knows
after_remove v = record v { held = None; removing = false; progress = 0; saw_off = false; due = false }

-- a load of the mode, and one of the bits
abbrev pub saw : Knows → Bool → Knows
saw v on = record v { saw_off = not on; loads = v.loads ++ (1, mode_word on) ∷ [] }

abbrev pub counted : Knows → ℕ → Knows
counted v n = record v { loads = v.loads ++ (2, n) ∷ [] }

-- a buffer's turn is taken, or refused with the value n found in its word. The word of the buffer c has the number c + 3
abbrev pub gains : Knows → ℕ → List Signal → Knows
gains v c l = record v { parts = v.parts ++ part c l ∷ []; tries = v.tries ++ (c + 3, 0) ∷ [] }

abbrev pub turned_away_at : Knows → ℕ → ℕ → Knows
turned_away_at v word n = record v { tries = v.tries ++ (word, n) ∷ []; saw_off = false }

-- under the turn of a buffer the mode is loaded and the bit is set; a fetch gives a bit back
abbrev pub saw_under : Knows → HeldBuffer → Bool → Knows
saw_under v p on = record v { saw_off = not on; loads = v.loads ++ (1, mode_word on) ∷ []; parts = record p { sure = on } ∷ [] }

abbrev pub marked : Knows → HeldBuffer → Knows
marked v p = record v { parts = record p { set = true } ∷ [] }

abbrev pub given_back : Knows → ℕ → Knows
given_back v c = record v { mask = slice_set v.mask c false; back = with_bit v.back c }

-- the turn of a buffer is left: unchanged, with more in it, or emptied by a fetch or by a removal
abbrev pub loses : Knows → Knows
loses v = record v { parts = tail v.parts }

abbrev pub put_to_buffer : Knows → List Signal → Knows
put_to_buffer v l = record v {
  parts = tail v.parts;
  put = v.put ++ put_by (via.Buffer (buffer_in v.parts))
      (drop (length (first_list v.parts)) l);
}

abbrev pub took_part : Knows → Outer → HeldBuffer → Knows
took_part v o p = record v {
  parts = tail v.parts;
  mask = slice_set v.mask p.number false;
  held = Some (behind o p.list);
  moved = v.moved + length p.list;
  emptied = v.emptied ++ p ∷ [];
}

abbrev pub passed : Knows → Outer → HeldBuffer → Knows
passed v o p = record v { parts = tail v.parts; progress = suc v.progress; held = Some (behind o p.list) }

-- a seat with these senders and maybe the role is cut off: what is left, and the new one
abbrev pub left_of : Knows → List ℕ → Bool → Knows
left_of v set role = record v {
  senders = minus v.senders set;
  role = v.role && not role;
  due = (if role then false else v.due);
  put = keep putter (λ s. not (has set s)) v.put;
  taken = (if role then [] else v.taken);
  fetches = (if role then 0 else v.fetches);
  bits = (if role then 0 else v.bits);
  emptied = (if role then [] else v.emptied);
}

abbrev pub right_of : Knows → List ℕ → Bool → Knows
right_of v set role = record {
  senders = set;
  role = role;
  due = (if role then v.due else false);
  held = None;
  fetching = false;
  mask = [];
  back = 0;
  moved = 0;
  removing = false;
  progress = 0;
  switched = false;
  saw_off = false;
  parts = [];
  put = keep putter (has set) v.put;
  told = v.told;
  taken = (if role then v.taken else []);
  fetches = (if role then v.fetches else 0);
  bits = (if role then v.bits else 0);
  emptied = (if role then v.emptied else []);
  refused = 0;
  tries = [];
  loads = [];
}

-- a seat that knows nothing
abbrev pub spent : Knows
spent = record {
  senders = no_senders;
  role = false;
  due = false;
  held = None;
  fetching = false;
  mask = [];
  back = 0;
  moved = 0;
  removing = false;
  progress = 0;
  switched = false;
  saw_off = false;
  parts = [];
  put = [];
  told = [];
  taken = [];
  fetches = 0;
  bits = 0;
  emptied = [];
  refused = 0;
  tries = [];
  loads = [];
}

-- what a note carries: a seat with no sender and no role, which was told what the seat put
abbrev pub note_of : Knows → Knows
note_of v = record spent { told = v.put ∷ v.told }

-- the seat that a queue is opened with
abbrev pub first_seat : List ℕ → Knows
first_seat set = record spent { senders = set; role = true }

-- the first seat has what both had
abbrev pub joined : Knows → Knows → Knows
joined v w = record v {
  senders = plus v.senders w.senders;
  role = (if v.role then true else w.role);
  due = v.due || w.due;
  put = v.put ++ w.put;
  told = v.told ++ w.told;
  taken = v.taken ++ w.taken;
  fetches = v.fetches + w.fetches;
  bits = v.bits + w.bits;
  emptied = v.emptied ++ w.emptied;
  refused = v.refused + w.refused;
  tries = v.tries ++ w.tries;
  loads = v.loads ++ w.loads;
}
