-- Sound marks: each change of the messages and marks keeps them sound, and where they are sound a receive through a marker skips no
-- message that holds its reference.
use Rattle.std.proofs.Common.{◌≡◌, ℕ, suc, ◌+◌, ◌≤◌, ◌<◌, Bool, true, false, cond, nat_lt, nat_le, List, [], ◌∷◌, ◌++◌, take, drop, length, count_by, remove, All, AllPairs, Option, Some, None, IfSome, refl, sym, ap, subst, ◌∙◌, ⊎_elim, lt-ltb, le-ltb, arith}
use Rattle.std.specs.Prelude.{◌==◌}
use Rattle.std.specs.Option.{option_map_or}
use Rattle.std.proofs.lemmas.Bool.{cond_both, cases_lt, and_parts, eqb-true, leb-true}
use Rattle.std.proofs.lemmas.List.{take_all, drop_all, append-nil}
use Rattle.std.proofs.lemmas.List.Elements.{All-nil, All-cons, All-head, All-tail, All-append, All-push, All-take, All-drop, All-weaker}
use Rattle.std.proofs.lemmas.List.Quantifiers.{all_pairs_push, all_pairs_remove}
use Rattle.std.proofs.lemmas.List.Sums.{sum_by-cons}
use Rattle.std.proofs.lemmas.Option.{IfSome_then}
use Rattle.sig_terms.specs.declared.reference.Ref.{Ref}
use Rattle.sig_terms.specs.declared.term.Term.{Term}
use Rattle.sig_terms.specs.Nodes.{same_ref, holds}
use Rattle.sig_terms.proofs.ReferenceLemmas.{same_ref-is}
use Rattle.sig_patterns.specs.declared.mark.Reserve.{Reserve}
use Rattle.sig_patterns.specs.declared.mark.Mark.{Mark}
use Rattle.sig_patterns.specs.Inbox.{Inbox, no_messages, terms_of, arrived_in, without_message, emptied_inbox, mark_of, older_than, start_of, reserved, without_mark, with_mark, is_made_since, marked_at, bound_by, bound_in, cleared_in}
use Rattle.sig_patterns.proofs.MarkLemmas.{without_mark_has, with_mark_has}
use Rattle.sig_model.specs.Marking.{NoneOlder, IsSoundMark, IsSoundReserve, IsSoundInbox}

abbrev Message : Type 0
Message = ℕ × Term

-- without the message at a place, whether there is one or not
rising_without : (messages : List Message) (at : ℕ) → AllPairs (λ m n. m.0 < n.0) messages → AllPairs (λ m n. m.0 < n.0) (remove messages at)
rising_without messages at rising = ⊎_elim
    (λ (lt : at < length messages). all_pairs_remove (λ (m n : Message). m.0 < n.0) messages at lt rising)
    (λ (ge : length messages ≤ at).
    let le : length messages ≤ suc at = omega (arith, ge) in
    let same : remove messages at ≡ messages = ap (λ (xs : List Message). xs ++ drop (suc at) messages) (take_all at messages ge) ∙ ap (λ (xs : List Message). messages ++ xs) (drop_all (suc at) messages le) ∙ append-nil messages in
    subst (AllPairs (λ (m n : Message). m.0 < n.0)) (sym same) rising)
    (cases_lt at (length messages))

all_without : (P : Message → Type 0) (messages : List Message) (at : ℕ) → All P messages → All P (remove messages at)
all_without P messages at h = All-append P (take at messages) (drop (suc at) messages) (All-take P at messages h) (All-drop P (suc at) messages h)

module _ (owner : ℕ) (inbox : Inbox) (k : IsSoundInbox owner inbox) where
  -- a message comes to the end: its number is no smaller than that of a mark
  arrived_older : (message : Term) (arrival : ℕ) (r : Ref) → arrival ≤ inbox.next_arrival → NoneOlder inbox.messages arrival r → NoneOlder (arrived_in inbox message).messages arrival r
  arrived_older message arrival r early none =
      All-push (λ (m : Message). m.0 < arrival → holds r m.1 ≡ false) inbox.messages (inbox.next_arrival, message) none (λ lt. absurd (omega (arith, lt, early)))

  pub arrived_sound : (message : Term) → IsSoundInbox owner (arrived_in inbox message)
  arrived_sound message = record {
    rising = all_pairs_push (λ (m n : Message). m.0 < n.0) inbox.messages (inbox.next_arrival, message) k.rising (λ i d lt. k.below i d lt);
    below = All-push (λ (m : Message). m.0 < inbox.next_arrival + 1) inbox.messages (inbox.next_arrival, message)
        (All-weaker (λ (m : Message). m.0 < inbox.next_arrival) (λ (m : Message). m.0 < inbox.next_arrival + 1) (λ m lt. omega (arith, lt)) inbox.messages k.below) (omega arith);
    reserve = IfSome_then inbox.reserve k.reserve (λ reserve h. record { early = omega (arith, h.early); none = λ r own since. arrived_older message reserve.arrival r h.early (h.none r own since) });
    marks = All-weaker (IsSoundMark inbox) (IsSoundMark (arrived_in inbox message))
        (λ mark h. record { early = omega (arith, h.early); none = arrived_older message mark.arrival mark.reference h.early h.none }) inbox.marks k.marks;
  }

  -- a message is taken out
  without_older : (at arrival : ℕ) (r : Ref) → NoneOlder inbox.messages arrival r → NoneOlder (without_message inbox at).messages arrival r
  without_older at arrival r none = all_without (λ (m : Message). m.0 < arrival → holds r m.1 ≡ false) inbox.messages at none

  pub without_sound : (at : ℕ) → IsSoundInbox owner (without_message inbox at)
  without_sound at = record {
    rising = rising_without inbox.messages at k.rising;
    below = all_without (λ (m : Message). m.0 < inbox.next_arrival) inbox.messages at k.below;
    reserve = IfSome_then inbox.reserve k.reserve (λ reserve h. record { early = h.early; none = λ r own since. without_older at reserve.arrival r (h.none r own since) });
    marks = All-weaker (IsSoundMark inbox) (IsSoundMark (without_message inbox at))
        (λ mark h. record { early = h.early; none = without_older at mark.arrival mark.reference h.none }) inbox.marks k.marks;
  }

  pub emptied_sound : IsSoundInbox owner (emptied_inbox inbox)
  emptied_sound = record {
    rising = λ i j d lt within. absurd (omega (arith, within));
    below = All-nil (λ (m : Message). m.0 < inbox.next_arrival);
    reserve = tt;
    marks = All-nil (IsSoundMark (emptied_inbox inbox));
  }

  -- other marks, with the same messages
  same_marks : (reserve : Option Reserve) (marks : List Mark) → All (IsSoundMark inbox) marks → All (IsSoundMark (record inbox { reserve = reserve; marks = marks })) marks
  same_marks reserve marks h = All-weaker (IsSoundMark inbox) (IsSoundMark (record inbox { reserve = reserve; marks = marks })) (λ mark g. record { early = g.early; none = g.none }) marks h

  same_reserve : (marks : List Mark) → IfSome inbox.reserve (IsSoundReserve owner (record inbox { marks = marks }))
  same_reserve marks = IfSome_then inbox.reserve k.reserve (λ reserve h. record { early = h.early; none = h.none })

  -- a place behind all messages: where no message holds an own reference from this serial on
  pub reserved_sound : (serial : ℕ) → ((r : Ref) → r.owner.0 ≡ owner → serial ≤ r.serial → All (λ (m : Message). holds r m.1 ≡ false) inbox.messages) → IsSoundInbox owner (reserved inbox serial)
  reserved_sound serial fresh = record {
    rising = k.rising;
    below = k.below;
    reserve = record {
      early = omega arith;
      none = λ r own since. All-weaker (λ (m : Message). holds r m.1 ≡ false) (λ (m : Message). m.0 < inbox.next_arrival → holds r m.1 ≡ false) (λ m h lt. h) inbox.messages (fresh r own since);
    };
    marks = same_marks (Some (record { arrival = inbox.next_arrival; serial = serial })) inbox.marks k.marks;
  }

  -- the mark of a reference is taken out
  pub cleared_sound : (r : Ref) → IsSoundInbox owner (cleared_in inbox r).1
  cleared_sound r = record {
    rising = k.rising;
    below = k.below;
    reserve = same_reserve (without_mark inbox.marks r);
    marks = same_marks inbox.reserve (without_mark inbox.marks r) (without_mark_has (IsSoundMark inbox) inbox.marks r k.marks);
  }

  -- the reserve becomes the mark of a reference that the process made since
  marked_sound : (r : Ref) (reserve : Reserve) → IsSoundReserve owner inbox reserve → is_made_since owner reserve r ≡ true → IsSoundInbox owner (marked_at inbox r reserve)
  marked_sound r reserve h since =
      let parts : ((r.owner.0 == owner) ≡ true) × (nat_le reserve.serial r.serial ≡ true) = and_parts (r.owner.0 == owner) (nat_le reserve.serial r.serial) since in
      let made : (r.owner.0 ≡ owner) × (reserve.serial ≤ r.serial) = (eqb-true r.owner.0 owner parts.0, leb-true reserve.serial r.serial parts.1) in
      let mark : Mark = record { reference = r; arrival = reserve.arrival } in
      record {
        rising = k.rising;
        below = k.below;
        reserve = tt;
        marks = same_marks None (with_mark inbox.marks mark) (with_mark_has (IsSoundMark inbox) inbox.marks mark k.marks (record { early = h.early; none = h.none r made.0 made.1 }));
      }

  pub bound_sound : (r : Ref) → IsSoundInbox owner (bound_in owner inbox r).1
  bound_sound r = by inbox.reserve k.reserve
    where
      by : (o : Option Reserve) → IfSome o (IsSoundReserve owner inbox) → IsSoundInbox owner (option_map_or {U = Bool × Inbox} (bound_by owner inbox r) o (false, inbox)).1
      by None h = k
      by (Some reserve) h =
          cond_both (is_made_since owner reserve r) (true, marked_at inbox r reserve) (false, inbox) (λ (answer : Bool × Inbox). IsSoundInbox owner answer.1)
          (λ e. marked_sound r reserve h e) (λ e. k)

-- an opening process has no message and no mark
pub no_messages_sound : (owner : ℕ) → IsSoundInbox owner no_messages
no_messages_sound owner = record {
  rising = λ i j d lt within. absurd (omega (arith, within));
  below = All-nil (λ (m : Message). m.0 < 1);
  reserve = tt;
  marks = All-nil (IsSoundMark no_messages);
}

-- where the numbers rise, the first messages, as many as are older than an arrival number, are the older ones
module _ (P : Term → Type 0) (arrival : ℕ) where
  abbrev count : List Message → ℕ
  count messages = count_by (λ m. nat_lt m.0 arrival) messages

  none_counted : (messages : List Message) → All (λ (m : Message). arrival ≤ m.0) messages → count messages ≡ 0
  none_counted [] h = refl
  none_counted (m ∷ ms) h =
      let le : arrival ≤ m.0 = All-head (λ (n : Message). arrival ≤ n.0) m ms h in
      sum_by-cons (λ (n : Message). cond (nat_lt n.0 arrival) 1 0) m ms
      ∙ ap (λ b. cond b 1 0 + count ms) (le-ltb m.0 arrival le)
      ∙ (let e : 0 + count ms ≡ count ms = omega arith in e)
      ∙ none_counted ms (All-tail (λ (n : Message). arrival ≤ n.0) m ms h)

  rising_tail : (m : Message) (ms : List Message) → AllPairs (λ m n. m.0 < n.0) (m ∷ ms) → AllPairs (λ m n. m.0 < n.0) ms
  rising_tail m ms rising = λ i j d lt within. rising (suc i) (suc j) d (omega (arith, lt)) (omega (arith, within))

  rising_head : (m : Message) (ms : List Message) → AllPairs (λ m n. m.0 < n.0) (m ∷ ms) → All (λ (n : Message). m.0 < n.0) ms
  rising_head m ms rising = λ j d within. rising 0 (suc j) d (omega arith) (omega (arith, within))

  pub older_have : (messages : List Message) → AllPairs (λ m n. m.0 < n.0) messages → All (λ (m : Message). m.0 < arrival → P m.1) messages → All P (take (count messages) (terms_of messages))
  older_have [] rising h = All-nil P
  older_have (m ∷ ms) rising h = ⊎_elim
      (λ (lt : m.0 < arrival).
      let counted : count (m ∷ ms) ≡ suc (count ms) =
      sum_by-cons (λ (n : Message). cond (nat_lt n.0 arrival) 1 0) m ms ∙ ap (λ b. cond b 1 0 + count ms) (lt-ltb m.0 arrival lt) ∙ (let e : 1 + count ms ≡ suc (count ms) = omega arith in e) in
      subst (λ n. All P (take n (terms_of (m ∷ ms)))) (sym counted)
      (All-cons P m.1 (take (count ms) (terms_of ms)) (All-head (λ (n : Message). n.0 < arrival → P n.1) m ms h lt)
      (older_have ms (rising_tail m ms rising) (All-tail (λ (n : Message). n.0 < arrival → P n.1) m ms h))))
      (λ (ge : arrival ≤ m.0).
      let none : count (m ∷ ms) ≡ 0 =
      none_counted (m ∷ ms) (All-cons (λ (n : Message). arrival ≤ n.0) m ms ge (All-weaker (λ (n : Message). m.0 < n.0) (λ (n : Message). arrival ≤ n.0) (λ n lt. omega (arith, lt, ge)) ms (rising_head m ms rising))) in
      subst (λ n. All P (take n (terms_of (m ∷ ms)))) (sym none) (All-nil P))
      (cases_lt m.0 arrival)

-- the mark that is found for a reference is the reference's
mark_found : (Q : Mark → Type 0) (r : Ref) (marks : List Mark) → All Q marks → IfSome (mark_of marks r) (λ m. (m.reference ≡ r) × Q m)
mark_found Q r [] h = tt
mark_found Q r (m ∷ ms) h = by (same_ref m.reference r) refl (mark_found Q r ms (All-tail Q m ms h))
  where
    by : (b : Bool) → same_ref m.reference r ≡ b → IfSome (mark_of ms r) (λ n. (n.reference ≡ r) × Q n) → IfSome (cond b (Some m) (mark_of ms r)) (λ n. (n.reference ≡ r) × Q n)
    by true e later = (same_ref-is m.reference r e, All-head Q m ms h)
    by false e later = later

-- no message before the start of a scan holds the reference whose mark it starts at
pub start_skips : (owner : ℕ) (inbox : Inbox) → IsSoundInbox owner inbox → (r : Ref) → All (λ (t : Term). holds r t ≡ false) (take (start_of inbox (Some r)) (terms_of inbox.messages))
start_skips owner inbox k r = at (mark_of inbox.marks r) (mark_found (IsSoundMark inbox) r inbox.marks k.marks)
  where
    at : (o : Option Mark) → IfSome o (λ m. (m.reference ≡ r) × IsSoundMark inbox m) → All (λ (t : Term). holds r t ≡ false) (take (option_map_or (λ m. older_than inbox m.arrival) o 0) (terms_of inbox.messages))
    at None h = All-nil (λ (t : Term). holds r t ≡ false)
    at (Some m) h =
        older_have (λ (t : Term). holds r t ≡ false) m.arrival inbox.messages k.rising (subst (λ q. NoneOlder inbox.messages m.arrival q) h.0 h.1.none)
