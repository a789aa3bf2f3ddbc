-- What the code of a function calls and loops over, read off its code, which the function's own proof can name. No clause can say it: a look
-- at a word that tells nothing leaves no trace. So each function of this crate says it in its Answers, and a body that does more isn't proved.
use Rattle.std.proofs.Common.{◌≡◌, ℕ, Bool, true, false, if◌then◌else◌, List, [], ◌∷◌, ◌++◌, length}
use Prim.Native.String.{String}
use mathlib.Core.Bool.{not, ◌&&◌, ◌||◌}
use mathlib.Core.Option.{Option, none, some}
use text.Mathlib.Text.{starts_with, find?, ◌==◌}
use mir.Syntax.{Body, seq, assign, block, loop, cond, switch, call, call_v, Arms, arm, default, no_default, Callee, fn, method, forked, Dict, impl, given, Dicts, dnil, dcons, Opd, copy, int, fn_addr, vtable, Slots, no_slot, slot, Rv, rv_opd, op2, op1, lt, aggregate, repeat, repeat_p, select, Fn}
use Rattle.sig_queue.proofs.Functions.{functions}

-- the functions that a call names: the one called, and those that it is handed, as closures and destructors
abbrev mutual
  of_dict : Dict → List String
  of_dict (impl names types dicts) = names ++ of_dicts dicts
  of_dict (given i) = []

  of_dicts : Dicts → List String
  of_dicts dnil = []
  of_dicts (dcons d ds) = of_dict d ++ of_dicts ds

abbrev of_callee : Callee → List String
of_callee (fn name args) = name ∷ of_dicts args.1
of_callee (method d i args) = of_dict d ++ of_dicts args.1
of_callee (forked types c) = of_callee c
of_callee _ = []

abbrev of_slots : Slots → List String
of_slots no_slot = []
of_slots (slot c signature ss) = of_callee c ++ of_slots ss

abbrev of_opd : Opd → List String
of_opd (fn_addr c signature) = of_callee c
of_opd (vtable type ss) = of_slots ss
of_opd _ = []

abbrev of_opds : List Opd → List String
of_opds [] = []
of_opds (o ∷ os) = of_opd o ++ of_opds os

abbrev of_value : Rv → List String
of_value (rv_opd o) = of_opd o
of_value (op2 f a b) = of_opd a ++ of_opd b
of_value (op1 f a) = of_opd a
of_value (aggregate os) = of_opds os
of_value (repeat o n) = of_opd o
of_value (repeat_p o n) = of_opd o
of_value (select a b c) = of_opd a ++ of_opd b ++ of_opd c
of_value _ = []

-- the functions that a body names, in the order of its text
abbrev mutual
  pub names : Body → List String
  names (seq a b) = names a ++ names b
  names (assign p v) = of_value v
  names (block b) = names b
  names (loop b) = names b
  names (cond o a b) = of_opd o ++ names a ++ names b
  names (switch o arms) = of_opd o ++ names_in arms
  names (call c os p) = of_callee c ++ of_opds os
  names (call_v o signature os p) = of_opd o ++ of_opds os
  names _ = []

  pub names_in : Arms → List String
  names_in (arm keys b arms) = names b ++ names_in arms
  names_in (default b) = names b
  names_in no_default = []

-- what a loop is over: a range up to a number in the text, or up to another one; or it begins each round with this call
pub data Loop : Type 0 where
  up_to : ℕ → Loop
  up_to_a_count : Loop
  each : String → Loop
  other : Loop

abbrev by_end : Opd → Loop
by_end (int w n) = up_to n
by_end (copy p) = up_to_a_count
by_end _ = other

abbrev by_test : Rv → Option Loop
by_test (op2 (lt sign) a b) = some (by_end b)
by_test _ = none

abbrev by_call : Body → Loop
by_call (seq (call (fn name args) os p) b) = each name
by_call _ = other

abbrev or_by_call : Body → Option Loop → Loop
or_by_call b (some l) = l
or_by_call b none = by_call b

abbrev kind : Body → Loop
kind (seq (assign p v) b) = or_by_call b (by_test v)
kind _ = other

-- the loops of a body, in the order of its text
abbrev mutual
  pub loops : Body → List Loop
  loops (seq a b) = loops a ++ loops b
  loops (block b) = loops b
  loops (loop b) = kind b ∷ loops b
  loops (cond o a b) = loops a ++ loops b
  loops (switch o arms) = loops_in arms
  loops _ = []

  pub loops_in : Arms → List Loop
  loops_in (arm keys b arms) = loops b ++ loops_in arms
  loops_in (default b) = loops b
  loops_in no_default = []

abbrev has : String → String → Bool
has name part = elim (find? name part) [ none ↦ false | some at ↦ true ]

-- of this crate's text, which the destructors that are made for its types aren't
abbrev is_own : String → Bool
is_own name = starts_with name "sig_queue::" && not (has name "+Destruct::drop" || name == "sig_queue::Destruct++none::drop")

abbrev filter : (String → Bool) → List String → List String
filter p [] = []
filter p (n ∷ ns) = (if p n then n ∷ filter p ns else filter p ns)

abbrev is_in : List String → String → Bool
is_in [] name = false
is_in (n ∷ ns) name = n == name || is_in ns name

-- The functions of the table that step on it, make it and take it apart. Of these each leaves a trace in what a seat knows, or gives nothing
-- of a word; `peek` gives a word and leaves none.
abbrev steps : List String
steps =
    "atomic_table::shared::Seat::slot_mut"
    ∷ "atomic_table::shared::Shared::compare_exchange"
    ∷ "atomic_table::shared::Shared::exchange"
    ∷ "atomic_table::shared::Shared::fetch_or"
    ∷ "atomic_table::shared::Shared::join_seat"
    ∷ "atomic_table::shared::Shared::load"
    ∷ "atomic_table::shared::Shared::split_seat"
    ∷ "atomic_table::shared::Shared::store"
    ∷ "atomic_table::shared::Shared::swap"
    ∷ "atomic_table::owned::Table::close_with"
    ∷ "atomic_table::owned::Table::new"
    ∷ []

-- the functions of the table and of this crate that a function names
abbrev near : Fn → List String
near f = filter (λ n. starts_with n "atomic_table::" || is_own n) (names f.body)

-- A function of src/words/: it names one function of these, once, and has no loop.
abbrev pub OneStep : Fn → Type 0
OneStep f = (filter (λ n. not (is_in steps n)) (near f) ≡ []) × (length (near f) ≡ 1) × (loops f.body ≡ [])

-- A function there that takes two, or the one of another: it names these functions of the table and of this crate, once each.
abbrev pub TwoSteps : List String → Fn → Type 0
TwoSteps both f = (near f ≡ both) × (loops f.body ≡ [])

-- Another function: no step on a table, of this crate's functions only those of the list, and these loops.
abbrev pub Keeps : List Loop → Fn → Type 0
Keeps wanted f = (filter (λ n. starts_with n "atomic_table::shared::Shared::" || is_own n && not (is_in functions n)) (names f.body) ≡ [])
    × (loops f.body ≡ wanted)
