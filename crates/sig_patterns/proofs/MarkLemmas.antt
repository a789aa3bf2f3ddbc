-- Marks: where a scan starts, and which marks are kept.
use Rattle.std.proofs.Common.{◌≡◌, ℕ, ◌+◌, ◌-◌, ◌≤◌, Bool, true, false, not, cond, nat_lt, List, [], ◌∷◌, ◌++◌, All, length, find, refl, ap, ◌∙◌, Option, Some, None, is_some, option_and_then, arith, le-ltb}
use Rattle.std.specs.Prelude.{IfSome}
use Rattle.std.specs.Option.{option_map_or}
use Rattle.std.proofs.lemmas.List.{length-drop}
use Rattle.std.proofs.lemmas.List.Elements.{All-head, All-tail, All-cons, All-nil, All-append, All-drop, All-filter}
use Rattle.std.proofs.lemmas.List.Sums.{count_by-le-length, length-filter, sum_by_push}
use Rattle.sig_terms.specs.declared.reference.Ref.{Ref}
use Rattle.sig_terms.specs.declared.term.Term.{Term}
use Rattle.sig_terms.specs.Nodes.{same_ref}
use Rattle.sig_patterns.specs.declared.mark.Mark.{Mark}
use Rattle.sig_patterns.specs.declared.mark.TheConstants.{MOST_MARKS}
use Rattle.sig_patterns.specs.Inbox.{Inbox, arrived_in, mark_of, older_than, start_of, reserved, without_mark, newest, with_mark, bound_in, cleared_in}

-- an element that is found has what all have
found_has : {X : Type 0} (P : X → Type 0) (test : X → Bool) (xs : List X) → All P xs → IfSome (find test xs) P
found_has P test [] all = tt
found_has P test (x ∷ xs) all = by (test x) (All-head P x xs all) (found_has P test xs (All-tail P x xs all)) where
  by : (b : Bool) → P x → IfSome (find test xs) P → IfSome (cond b (Some x) (find test xs)) P
  by true here later = here
  by false here later = later

-- a mark that stands has what all marks have
pub mark_has : (P : Mark → Type 0) (marks : List Mark) (reference : Ref) → All P marks → IfSome (mark_of marks reference) P
mark_has P marks reference all = found_has P (λ m. same_ref m.reference reference) marks all

-- a scan starts at a message that is there, or behind all
pub start_within : (inbox : Inbox) (using : Option Ref) → start_of inbox using ≤ length inbox.messages
start_within inbox using = at (option_and_then (mark_of inbox.marks) using) where
  at : (o : Option Mark) → option_map_or (λ m. older_than inbox m.arrival) o 0 ≤ length inbox.messages
  at None = omega arith
  at (Some m) = count_by-le-length (λ n. nat_lt n.0 m.arrival) inbox.messages

-- a new message comes behind each start
pub start_arrived : (inbox : Inbox) (message : Term) (using : Option Ref) → All (λ (m : Mark). m.arrival ≤ inbox.next_arrival) inbox.marks →
    start_of (arrived_in inbox message) using ≡ start_of inbox using
start_arrived inbox message None early = refl
start_arrived inbox message (Some r) early = at (mark_of inbox.marks r) (mark_has (λ m. m.arrival ≤ inbox.next_arrival) inbox.marks r early) where
  at : (o : Option Mark) → IfSome o (λ m. m.arrival ≤ inbox.next_arrival)
      → option_map_or (λ m. older_than (arrived_in inbox message) m.arrival) o 0 ≡ option_map_or (λ m. older_than inbox m.arrival) o 0
  at None h = refl
  at (Some m) h =
      sum_by_push (λ n. cond (nat_lt n.0 m.arrival) 1 0) inbox.messages (inbox.next_arrival, message)
      ∙ ap (λ (b : Bool). older_than inbox m.arrival + cond b 1 0) (le-ltb inbox.next_arrival m.arrival h)
      ∙ omega arith

-- at most so many marks are kept, and each has what the older ones and the new one have
pub few_newest : (marks : List Mark) → length (newest marks) ≤ MOST_MARKS
few_newest marks = omega (arith, length-drop (length marks - MOST_MARKS) marks)

pub few_without : (marks : List Mark) (reference : Ref) → length marks ≤ MOST_MARKS → length (without_mark marks reference) ≤ MOST_MARKS
few_without marks reference few =
    let test : Mark → Bool = λ m. not (same_ref m.reference reference) in
    omega (arith, length-filter test marks, count_by-le-length test marks)

pub without_mark_has : (P : Mark → Type 0) (marks : List Mark) (reference : Ref) → All P marks → All P (without_mark marks reference)
without_mark_has P marks reference all = All-filter (λ m. not (same_ref m.reference reference)) P marks all

pub with_mark_has : (P : Mark → Type 0) (marks : List Mark) (mark : Mark) → All P marks → P mark → All P (with_mark marks mark)
with_mark_has P marks mark all own =
    All-drop P _ (without_mark marks mark.reference ++ mark ∷ [])
    (All-append P (without_mark marks mark.reference) (mark ∷ []) (without_mark_has P marks mark.reference all) (All-cons P mark [] own (All-nil P)))

-- where the reference has no mark, none is taken out
without_none : (reference : Ref) (marks : List Mark) → mark_of marks reference ≡ None → without_mark marks reference ≡ marks
without_none reference [] none = refl
without_none reference (m ∷ marks) none = by (same_ref m.reference reference) none (without_none reference marks) where
  by : (b : Bool) → cond b (Some m) (mark_of marks reference) ≡ None → (mark_of marks reference ≡ None → without_mark marks reference ≡ marks)
      → cond (not b) (m ∷ without_mark marks reference) (without_mark marks reference) ≡ m ∷ marks
  by true e later = absurd cc
  by false e later = ap (λ (ms : List Mark). m ∷ ms) (later e)

pub cleared_none : (inbox : Inbox) (reference : Ref) → (cleared_in inbox reference).0 ≡ false → (cleared_in inbox reference).1 ≡ inbox
cleared_none inbox reference e = ap (λ (ms : List Mark). record inbox { marks = ms }) (without_none reference inbox.marks (none (mark_of inbox.marks reference) e)) where
  none : (o : Option Mark) → is_some o ≡ false → o ≡ None
  none None e = refl
  none (Some m) e = absurd cc

-- The rest is worked out at some messages and marks of process 0.
abbrev made : ℕ → ℕ → Ref
made owner serial = record { owner = record { 0 = owner }; serial = serial }

-- the mark of the process's reference with this serial
abbrev mark : ℕ → ℕ → Mark
mark serial arrival = record { reference = made 0 serial; arrival = arrival }

-- the messages 1 to 4, and a mark of the first reference at the third message
abbrev four : Term → Inbox
four t = record { messages = (1, t) ∷ (2, t) ∷ (3, t) ∷ (4, t) ∷ []; next_arrival = 5; reserve = None; marks = mark 1 3 ∷ [] }

behind_the_mark : (t : Term) → start_of (four t) (Some (made 0 1)) ≡ 2
behind_the_mark t = refl

at_the_head : (t : Term) → start_of (four t) None ≡ 0
at_the_head t = refl

without_a_mark : (t : Term) → start_of (four t) (Some (made 0 2)) ≡ 0
without_a_mark t = refl

-- before message 5 comes
abbrev marked : List Mark → Inbox
marked marks = record { messages = []; next_arrival = 5; reserve = None; marks = marks }

-- a place is reserved then, where the next reference has the serial 20
abbrev pending : List Mark → Inbox
pending marks = reserved (marked marks) 20

reserve_and_bind : bound_in 0 (pending (mark 7 2 ∷ [])) (made 0 20) ≡ (true, marked (mark 7 2 ∷ mark 20 5 ∷ []))
reserve_and_bind = refl

a_later_reference : bound_in 0 (pending []) (made 0 21) ≡ (true, marked (mark 21 5 ∷ []))
a_later_reference = refl

an_older_reserve : (t : Term) → bound_in 0 (reserved (arrived_in (pending []) t) 30) (made 0 30) ≡ (true, record (arrived_in (marked []) t) { marks = mark 30 6 ∷ [] })
an_older_reserve t = refl

without_a_reserve : bound_in 0 (marked (mark 7 2 ∷ [])) (made 0 20) ≡ (false, marked (mark 7 2 ∷ []))
without_a_reserve = refl

anothers_reference : bound_in 0 (pending []) (made 1 20) ≡ (false, pending [])
anothers_reference = refl

made_before : bound_in 0 (pending []) (made 0 19) ≡ (false, pending [])
made_before = refl

bound_again : bound_in 0 (pending (mark 20 1 ∷ mark 7 2 ∷ [])) (made 0 20) ≡ (true, marked (mark 7 2 ∷ mark 20 5 ∷ []))
bound_again = refl

a_ninth_mark : bound_in 0 (pending (mark 1 1 ∷ mark 2 1 ∷ mark 3 1 ∷ mark 4 1 ∷ mark 5 1 ∷ mark 6 1 ∷ mark 7 1 ∷ mark 8 1 ∷ [])) (made 0 20)
    ≡ (true, marked (mark 2 1 ∷ mark 3 1 ∷ mark 4 1 ∷ mark 5 1 ∷ mark 6 1 ∷ mark 7 1 ∷ mark 8 1 ∷ mark 20 5 ∷ []))
a_ninth_mark = refl

a_mark_is_cleared : cleared_in (pending (mark 7 2 ∷ mark 8 3 ∷ [])) (made 0 7) ≡ (true, pending (mark 8 3 ∷ []))
a_mark_is_cleared = refl

no_mark_is_cleared : cleared_in (pending (mark 8 3 ∷ [])) (made 0 7) ≡ (false, pending (mark 8 3 ∷ []))
no_mark_is_cleared = refl
