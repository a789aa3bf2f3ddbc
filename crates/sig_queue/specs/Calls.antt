-- What the calls of the queue say.
use Rattle.std.specs.Prelude.{◌≡◌, ◌⊎◌, ℕ, ◌+◌, Bool, true, false, List, [], ◌∷◌, ◌++◌, length, Option, Some, None}
use Rattle.atomic_table.specs.Seated.{TableId}
use Rattle.sig_kinds.specs.declared.signal.Signal.{Signal}
use Rattle.sig_layout.specs.declared.layout.TheConstants.{BUFFERS}
use Rattle.sig_layout.specs.declared.policy.Policy.{Policy}
use Rattle.sig_layout.specs.declared.setup.Setup.{Setup}
use Rattle.sig_layout.specs.Policies.{AllowsMode}
use Rattle.sig_layout.specs.declared.knows.Knows.{Knows}
use Rattle.sig_layout.specs.declared.via.Via.{Via}
use Rattle.sig_layout.specs.declared.via.Via.TheVariants as via
use Rattle.sig_queue.specs.declared.offer.Offer.{Offer}
use Rattle.sig_queue.specs.declared.offer.Offer.TheVariants as offer
use Rattle.sig_queue.specs.declared.to_buffer.ToBuffer.{ToBuffer}
use Rattle.sig_queue.specs.declared.to_buffer.ToBuffer.TheVariants as to_buffer
use Rattle.sig_queue.specs.declared.sent.Sent.{Sent}
use Rattle.sig_queue.specs.declared.sent.Sent.TheVariants as sent
use Rattle.sig_queue.specs.declared.hold.Hold.{Hold}
use Rattle.sig_queue.specs.declared.hold.Hold.TheVariants as hold
use Rattle.sig_layout.specs.Views.{holding, turned_away}
use Rattle.sig_layout.specs.declared.outer.Outer.{Outer}
use Rattle.sig_queue.specs.declared.fetch.Fetch.{Fetch}
use Rattle.sig_queue.specs.declared.fetch.Fetch.TheVariants as fetch
use Rattle.sig_queue.specs.declared.fetch_settle.Taken.{Taken}
use Rattle.sig_layout.specs.Views.{filled_at, signals_of, buffer_in}
use Rattle.sig_layout.specs.Core.{buffer_of}
use Rattle.sig_queue.specs.Fetching.{each_try, all_of, numbers, picked, same_number, EachOwn, kept_of}
use Rattle.sig_queue.specs.Tied.{Foreign, FoundOuter, FreshBut, TookCarried}
use Rattle.sig_queue.specs.Parts.{item, looked, tried, went, looks_off, tries_off}

-- under the turn of a buffer
abbrev pub Under : Signal → Knows → ToBuffer → Knows → Type 0
Under x v (to_buffer.Off y) w = (y ≡ x) × (w ≡ record (looked v (false ∷ [])) { saw_off = true; parts = [] })
Under x v to_buffer.Put w = w ≡ record (looked v (true ∷ [])) {
  saw_off = false;
  parts = [];
  put = v.put
      ++ item (via.Buffer (buffer_in v.parts)) x ∷ [];
}
Under x v (to_buffer.Busy y n) w = ⊥
Under x v (to_buffer.Memory y) w = (y ≡ x) × (w ≡ record (looked v (true ∷ [])) { saw_off = false; parts = [] })

-- an offer to buffer b. It was off only where the last look at the mode gave 0, and put only where both gave 1. The turn of the
-- buffer is tried once, where the first look gave 1
abbrev pub OfferedToBuffer : ℕ → Signal → Knows → ToBuffer → Knows → Type 0
OfferedToBuffer b x v (to_buffer.Off y) w = (y ≡ x)
    × ((again : Bool) × (w ≡ record (went v (looks_off again) (tries_off b again)) { saw_off = true }))
OfferedToBuffer b x v to_buffer.Put w = w ≡ record (went v (true ∷ true ∷ []) ((b + 3, 0) ∷ [])) {
  put = v.put
      ++ item (via.Buffer b) x ∷ [];
}
OfferedToBuffer b x v (to_buffer.Busy y n) w = (y ≡ x) × (w ≡ went v (true ∷ []) ((b + 3, n) ∷ [])) × Foreign v n
OfferedToBuffer b x v (to_buffer.Memory y) w = (y ≡ x) × (w ≡ went v (true ∷ true ∷ []) ((b + 3, 0) ∷ []))

-- it was off, and put, only where the policy allows the mode to be so
abbrev pub AllowsToBuffer : Policy → ToBuffer → Type 0
AllowsToBuffer p (to_buffer.Off y) = AllowsMode p false
AllowsToBuffer p to_buffer.Put = AllowsMode p true
AllowsToBuffer p (to_buffer.Busy y n) = Unit {0}
AllowsToBuffer p (to_buffer.Memory y) = Unit {0}

-- under the outer turn
abbrev pub PutHeld : Signal → Knows → Offer → Knows → Type 0
PutHeld x v (offer.Put via.Outer) w = w ≡ record v { held = None; saw_off = false; put = v.put ++ item via.Outer x ∷ []; refused = 0 }
PutHeld x v (offer.Put (via.Buffer b)) w = ⊥
PutHeld x v (offer.Busy y n) w = ⊥
PutHeld x v (offer.Memory y) w = (y ≡ x) × (w ≡ record v { held = None; saw_off = false })

-- an offer to the outer list, with one try of the outer turn
abbrev pub OfferedToOuter : Signal → Knows → Offer → Knows → Type 0
OfferedToOuter x v (offer.Put via.Outer) w = w ≡ record (tried v 0 0) { saw_off = false; put = v.put ++ item via.Outer x ∷ []; refused = 0 }
OfferedToOuter x v (offer.Put (via.Buffer b)) w = ⊥
OfferedToOuter x v (offer.Busy y n) w = (y ≡ x) × (w ≡ record (tried v 0 n) { saw_off = false; refused = v.refused + 1 }) × Foreign v n
OfferedToOuter x v (offer.Memory y) w = (y ≡ x) × (w ≡ record (tried v 0 0) { saw_off = false })

-- The way of a put: to the outer list only where the last look at the mode in this call gave 0, and to the sender's buffer only
-- where it gave 1. The turn of the list was tried once and found free, and before the outer turn that of the buffer where the
-- mode was on at first
abbrev pub PutBy : Signal → Knows → Via → Knows → Type 0
PutBy x v via.Outer w = (again : Bool)
    × (w ≡ record (went v (looks_off again) (tries_off (buffer_of x.from.0) again ++ (0, 0) ∷ [])) {
      put = v.put
          ++ item via.Outer x ∷ [];
      refused = 0;
    })
PutBy x v (via.Buffer b) w = (b ≡ buffer_of x.from.0)
    × (w ≡ record (went v (true ∷ true ∷ []) ((b + 3, 0) ∷ [])) { put = v.put ++ item (via.Buffer b) x ∷ [] })

-- the last try was refused: on the outer turn, or on the turn of the sender's buffer. None was refused before it
abbrev pub RefusedOne : Signal → Knows → ℕ → Knows → Type 0
RefusedOne x v n w = ((again : Bool)
    × (w ≡ record (went v (looks_off again) (tries_off (buffer_of x.from.0) again ++ (0, n) ∷ [])) { refused = v.refused + 1 }))
    ⊎ (w ≡ went v (true ∷ []) ((buffer_of x.from.0 + 3, n) ∷ []))

-- no try was refused, and nothing was put
abbrev pub LeftFree : Signal → Knows → Knows → Type 0
LeftFree x v w = ((again : Bool) × (w ≡ went v (looks_off again) (tries_off (buffer_of x.from.0) again ++ (0, 0) ∷ [])))
    ⊎ (w ≡ went v (true ∷ true ∷ []) ((buffer_of x.from.0 + 3, 0) ∷ []))

abbrev pub Offered : Signal → Knows → Offer → Knows → Type 0
Offered x v (offer.Put way) w = PutBy x v way w
Offered x v (offer.Busy y n) w = (y ≡ x) × Foreign v n × RefusedOne x v n w
Offered x v (offer.Memory y) w = (y ≡ x) × LeftFree x v w

-- all that the seat u, which fetches, leaves with
abbrev pub taken_by : Knows → List Signal
taken_by u = signals_of u.held ++ all_of u.parts

abbrev pub bare : Knows → Knows
bare u = record u { held = None; fetching = false; saw_off = false; mask = []; back = 0; moved = 0; parts = [] }

abbrev pub Finished : Setup → Knows → Taken → Knows → Type 0
Finished z u t w = (w ≡ record (bare u) {
  taken = u.taken ++ taken_by u;
  fetches = u.fetches + 1;
  due = t.due;
  emptied = u.emptied ++ u.parts;
}) × FreshBut u.back w × TookCarried z w

-- a fetch that found its buffers takes all, or leaves all as it was
abbrev pub Settled : Setup → List Signal → List Signal → Knows → Option Taken → Knows → Type 0
Settled z before now u (Some t) w = (now ≡ before ++ taken_by u) × (t.count ≡ length (taken_by u)) × Finished z u t w
Settled z before now u None w = (now ≡ before) × (w ≡ bare u)

-- first this outer list, and then what lay in the buffers that were emptied, by ascending number: those whose bits were taken, but
-- for the skipped ones. In each lay signals of its own senders alone
pub record InOrder (new outer : List Signal) (skipped : ℕ) (w : Knows) : Type 0 where
  pub is : new ≡ outer ++ all_of w.emptied
  pub ascending : numbers w.emptied ≡ picked same_number (kept_of w.bits skipped) 0 BUFFERS
  pub own : EachOwn w.emptied
  pub had : (c : ℕ) → filled_at skipped c ≡ true → filled_at w.bits c ≡ true

-- what the tries of buffers found: another seat's number for each buffer of `skipped`, and 0 for each other
abbrev pub TriedAs : Knows → ℕ → (ℕ → ℕ) → Type 0
TriedAs v skipped values = ((c : ℕ) → filled_at skipped c ≡ true → Foreign v (values c))
    × ((c : ℕ) → filled_at skipped c ≡ false → values c ≡ 0)

-- a fetch that took this outer list, and then those of buffers
abbrev pub FetchedAs : Setup → List Signal → List Signal → Knows → List Signal → ℕ → Bool → ℕ → Knows → Type 0
FetchedAs z before now v outer count due skipped w = (new : List Signal) × (values : ℕ → ℕ) × (now ≡ before ++ new) × (count ≡ length new)
    × (w ≡ record v {
      held = None;
      taken = v.taken ++ new;
      fetches = v.fetches + 1;
      due = due;
      tries = v.tries
          ++ each_try values w.bits BUFFERS;
      bits = w.bits;
      emptied = w.emptied;
    })
    × TriedAs v skipped values × FreshBut skipped w × TookCarried z w × InOrder new outer skipped w

abbrev pub Left : List Signal → List Signal → Knows → Knows → Type 0
Left before now v w = (now ≡ before)
    × ((skipped : ℕ) × (values : ℕ → ℕ) × (w ≡ record v {
      held = None;
      tries = v.tries
          ++ each_try values w.bits BUFFERS;
      bits = w.bits;
      emptied = [];
    }) × TriedAs v skipped values)

-- under the outer turn
abbrev pub FetchedHeld : Setup → List Signal → List Signal → Knows → Fetch → Knows → Type 0
FetchedHeld z before now v (fetch.Took count due skipped) w = FetchedAs z before now v (signals_of v.held) count due skipped w
FetchedHeld z before now v (fetch.Busy n) w = ⊥
FetchedHeld z before now v fetch.Memory w = Left before now v w

-- the outer list is all that lay in the outer value that the seat found
pub record TookAs (z : Setup) (before now : List Signal) (v : Knows) (count : ℕ) (due : Bool) (skipped : ℕ) (w : Knows) : Type 0 where
  pub outer : Outer
  pub found : FoundOuter z v outer
  pub fetched : FetchedAs z before now (tried v 0 0) outer.signals count due skipped w

-- The signals that came into the caller's list are those that the seat took. All that the seat put and was told of was taken, but of
-- senders whose buffers are in `skipped`. The outer turn was tried once, and where it was free the turn of each buffer whose bit was
-- taken, by ascending number
abbrev pub Fetched : Setup → List Signal → List Signal → Knows → Fetch → Knows → Type 0
Fetched z before now v (fetch.Took count due skipped) w = TookAs z before now v count due skipped w
Fetched z before now v (fetch.Busy n) w = (now ≡ before) × (w ≡ record (tried v 0 n) { refused = v.refused + 1 }) × Foreign v n
Fetched z before now v fetch.Memory w = Left before now (tried v 0 0) w

-- a fetch that took something says whether a removal is due
abbrev pub due_of : Fetch → Bool
due_of (fetch.Took count due skipped) = due
due_of (fetch.Busy n) = false
due_of fetch.Memory = false

abbrev pub Holds : Knows → TableId → Hold → Type 0
Holds v z (hold.Held h) = (h.queue ≡ z) × ((o : Outer) × (h.knows ≡ holding v o))
Holds v z (hold.Busy seat n) = (seat.queue ≡ z) × (seat.knows ≡ turned_away v n) × Foreign v n

-- Offers of the signal, one after another, lead from the view v to another one. Each was turned away by another seat, so it tried
-- the turns and looked at the mode as an offer does. There may be none
pub data TurnedAway (x : Signal) (v : Knows) : Knows → Type 0 where
  none : TurnedAway x v v
  more : (u w : Knows) (n : ℕ) → TurnedAway x v u → Offered x u (offer.Busy x n) w → TurnedAway x v w

-- offers of the signal, each of them turned away, and then one that has this answer
abbrev pub AnsweredAtLast : Signal → Knows → Offer → Knows → Type 0
AnsweredAtLast x v answer w = (u : Knows) × TurnedAway x v u × Offered x u answer w

abbrev pub SentAs : Signal → Knows → Sent → Knows → Type 0
SentAs x v (sent.Put way) w = AnsweredAtLast x v (offer.Put way) w
SentAs x v (sent.Memory y) w = AnsweredAtLast x v (offer.Memory y) w
