-- What an offer says, put together from what its steps say.
use Rattle.std.proofs.Common.{◌≡◌, ◌≢◌, ℕ, ◌+◌, ◌<◌, arith, Bool, true, false, List, [], ◌∷◌, ◌++◌, sym, refl, ap, ◌∙◌, append_assoc, append-nil, subst, inl, ⊎_elim, drop, length, None}
use Rattle.sig_kinds.specs.declared.signal.Signal.{Signal}
use Rattle.sig_layout.specs.Sets.{has}
use Rattle.sig_layout.proofs.Members.{least_of}
use Rattle.sig_layout.specs.declared.knows.Knows.{Knows}
use Rattle.sig_layout.specs.Core.{Idle, some_refused, buffer_of}
use Rattle.sig_layout.specs.Views.{number, IsSomebody, buffer_in, part, put_by, saw, saw_under, marked, put_to_buffer, holding, gains, turned_away_at}
use Rattle.sig_queue.specs.declared.to_buffer.ToBuffer.{ToBuffer}
use Rattle.sig_queue.specs.declared.to_buffer.ToBuffer.TheVariants as to_buffer
use Rattle.sig_queue.specs.declared.offer.Offer.{Offer}
use Rattle.sig_queue.specs.declared.offer.Offer.TheVariants as offer
use Rattle.sig_queue.specs.declared.kept.Kept.{Kept}
use Rattle.sig_layout.specs.declared.held_buffer.HeldBuffer.{HeldBuffer}
use Rattle.sig_layout.specs.declared.outer.Outer.{Outer}
use Rattle.sig_queue.specs.declared.slot.Slot.{Slot}
use Rattle.sig_layout.specs.declared.item.Item.{Item}
use Rattle.sig_layout.specs.declared.via.Via.TheVariants as via
use Rattle.sig_queue.specs.Tied.{Foreign}
use Rattle.sig_queue.specs.Parts.{first_part, item, mode_loads, looked, tried, went, looks_off, tries_off}
use Rattle.sig_queue.specs.Seats.{Keeps, IsSeat}
use Rattle.sig_queue.specs.Calls.{Under, OfferedToBuffer, PutHeld, OfferedToOuter, Offered}

pub foreign_as : (v w : Knows) (n : ℕ) → w.senders ≡ v.senders → w.role ≡ v.role → Foreign v n → Foreign w n
foreign_as v w n senders role f = record { taken = f.taken; other = λ s h. f.other s (ap (λ (z : List ℕ). has z s) (sym senders) ∙ h); not_role = λ h. f.not_role (sym role ∙ h) }

-- the mode was on, and the turn is another's
pub to_buffer_busy : (b : ℕ) (x : Signal) (v : Knows) (n : ℕ) (w : Knows) → Idle v → w ≡ turned_away_at (saw v true) (b + 3) n → Foreign (saw v true) n → OfferedToBuffer b x v (to_buffer.Busy x n) w
to_buffer_busy b x v n w idle e f = (refl, e ∙ (λ k. record (went v (true ∷ []) ((b + 3, n) ∷ [])) { saw_off = sym idle.saw k }), foreign_as (saw v true) v n refl refl f)

-- the mode was off
pub to_buffer_off : (b : ℕ) (x : Signal) (v : Knows) (w : Knows) → w ≡ saw v false → OfferedToBuffer b x v (to_buffer.Off x) w
to_buffer_off b x v w e = (refl, (false, e ∙ (λ k. record (looked v (false ∷ [])) { saw_off = true; tries = sym (append-nil v.tries) k })))

-- the mode was on, the turn was taken, and then the mode was looked at again
pub to_buffer_under : (b : ℕ) (x : Signal) (v : Knows) (l : List Signal) (r : ToBuffer) (w : Knows) → Idle v → Under x (gains (saw v true) b l) r w → OfferedToBuffer b x v r w
to_buffer_under b x v l (to_buffer.Off y) w idle e = (e.0, (true, e.1 ∙ (λ k. record (went v [] ((b + 3, 0) ∷ [])) { loads = append_assoc v.loads ((1, 1) ∷ []) ((1, 0) ∷ []) k; saw_off = true; parts = sym idle.parts k })))
to_buffer_under b x v l to_buffer.Put w idle e = e ∙ (λ k. record (went v [] ((b + 3, 0) ∷ [])) { loads = append_assoc v.loads ((1, 1) ∷ []) ((1, 1) ∷ []) k; saw_off = sym idle.saw k; parts = sym idle.parts k; put = v.put ++ item (via.Buffer (buffer_in (idle.parts k ++ part b l ∷ []))) x ∷ [] })
to_buffer_under b x v l (to_buffer.Busy y n) w idle e = absurd e
to_buffer_under b x v l (to_buffer.Memory y) w idle e = (e.0, e.1 ∙ (λ k. record (went v [] ((b + 3, 0) ∷ [])) { loads = append_assoc v.loads ((1, 1) ∷ []) ((1, 1) ∷ []) k; saw_off = sym idle.saw k; parts = sym idle.parts k }))

drop_whole : (l : List Signal) (x : Signal) → drop (length l) (l ++ x ∷ []) ≡ x ∷ []
drop_whole [] x = refl
drop_whole (y ∷ l) x = drop_whole l x

-- under the turn the mode was on, and the signal came to the list
pub put_under : (x : Signal) (v : Knows) (p : HeldBuffer) (l : List Signal) → v.parts ≡ p ∷ [] → l ≡ p.list ++ x ∷ [] → put_to_buffer (marked (saw_under v p true) (first_part (saw_under v p true).parts)) l ≡ record (looked v (true ∷ [])) { saw_off = false; parts = []; put = v.put ++ item (via.Buffer (buffer_in v.parts)) x ∷ [] }
put_under x v p l one is = let new : drop (length p.list) l ≡ x ∷ [] = ap (drop (length p.list)) is ∙ drop_whole p.list x in
    λ k. record (looked v (true ∷ [])) { saw_off = false; parts = []; put = v.put ++ put_by (via.Buffer (buffer_in (sym one k))) (new k) }

-- a seat that has a sender has a number below 256
pub somebody : (v : Knows) (s n : ℕ) → has v.senders s ≡ true → number v ≡ n → IsSomebody v × (n + 1 ≡ number v + 1)
somebody v s n from is = let low : number v < 256 = least_of v.senders s from in ((λ h. absurd (omega arith)), omega arith)

-- the outer turn was free
pub out_held : (x : Signal) (v w : Knows) (o : Outer) (r : Offer) → v.held ≡ None → PutHeld x (holding v o) r w → OfferedToOuter x v r w
out_held x v w o (offer.Put via.Outer) free e = e ∙ (λ k. record (tried v 0 0) { held = sym free k; saw_off = false; put = v.put ++ item via.Outer x ∷ []; refused = 0 })
out_held x v w o (offer.Put (via.Buffer b)) free e = absurd e
out_held x v w o (offer.Busy y n) free e = absurd e
out_held x v w o (offer.Memory y) free e = (e.0, e.1 ∙ (λ k. record (tried v 0 0) { held = sym free k; saw_off = false }))

-- the mode was off, and so the signal was offered to the outer list
module _ (x y : Signal) (v u w : Knows) (again : Bool) (idle : Idle v) (same : y ≡ x) (saw : u ≡ record (went v (looks_off again) (tries_off (buffer_of x.from.0) again)) { saw_off = true }) where
  abbrev before : List (ℕ × ℕ)
  before = tries_off (buffer_of x.from.0) again

  one_more : (n : ℕ) → (v.tries ++ before) ++ (0, n) ∷ [] ≡ v.tries ++ (before ++ (0, n) ∷ [])
  one_more n = append_assoc v.tries before ((0, n) ∷ [])

  pub offered_to_outer : (o : Offer) → OfferedToOuter y u o w → Offered x v o w
  offered_to_outer (offer.Put via.Outer) e = (
    again,
    e ∙ ((λ i. record (tried (saw i) 0 0) { saw_off = false; put = (saw i).put ++ item via.Outer (same i) ∷ []; refused = 0 })
        ∙ (λ i. record (looked v (looks_off again)) { tries = one_more 0 i; saw_off = sym idle.saw i; put = v.put ++ item via.Outer x ∷ []; refused = 0 })),
  )
  offered_to_outer (offer.Put (via.Buffer b)) e = absurd e
  offered_to_outer (offer.Busy z n) e = (
    e.0 ∙ same,
    foreign_as u v n (sym (ap (λ (k : Knows). k.senders) saw)) (sym (ap (λ (k : Knows). k.role) saw)) e.2,
    inl (again, e.1 ∙ ((λ i. record (tried (saw i) 0 n) { saw_off = false; refused = (saw i).refused + 1 }) ∙ (λ i. record (looked v (looks_off again)) { tries = one_more n i; saw_off = sym idle.saw i; refused = v.refused + 1 }))),
  )
  offered_to_outer (offer.Memory z) e = (e.0 ∙ same, inl (again, e.1 ∙ ((λ i. record (tried (saw i) 0 0) { saw_off = false }) ∙ (λ i. record (looked v (looks_off again)) { tries = one_more 0 i; saw_off = sym idle.saw i }))))

-- an offer to the outer list puts into no buffer
pub no_buffer : (x : Signal) (u w : Knows) (o : Offer) (b : ℕ) → OfferedToOuter x u o w → o ≢ offer.Put (via.Buffer b)
no_buffer x u w (offer.Put via.Outer) b e = λ is. absurd cc
no_buffer x u w (offer.Put (via.Buffer c)) b e = absurd e
no_buffer x u w (offer.Busy z n) b e = λ is. absurd cc
no_buffer x u w (offer.Memory z) b e = λ is. absurd cc

-- an offer changes what was put, the tries and the loads alone
abbrev Same : Knows → Knows → Type 0
Same v w = w ≡ record v { put = w.put; refused = w.refused; tries = w.tries; loads = w.loads }

same_but : (v w : Knows) (put : List Item) (refused : ℕ) (tries loads : List (ℕ × ℕ)) → w ≡ record v { put = put; refused = refused; tries = tries; loads = loads } → Same v w
same_but v w put refused tries loads e = e ∙ (λ i. record v { put = (sym e i).put; refused = (sym e i).refused; tries = (sym e i).tries; loads = (sym e i).loads })

went_same : (v w : Knows) (put : List Item) (refused : ℕ) (bs : List Bool) (ts : List (ℕ × ℕ)) → w ≡ record (went v bs ts) { put = put; refused = refused } → Same v w
went_same v w put refused bs ts = same_but v w put refused (v.tries ++ ts) (v.loads ++ mode_loads bs)

offered_same : (x : Signal) (v w : Knows) (o : Offer) → Offered x v o w → Same v w
offered_same x v w (offer.Put via.Outer) e = went_same v w (v.put ++ item via.Outer x ∷ []) 0 (looks_off e.0) (tries_off (buffer_of x.from.0) e.0 ++ (0, 0) ∷ []) e.1
offered_same x v w (offer.Put (via.Buffer b)) e = went_same v w (v.put ++ item (via.Buffer b) x ∷ []) v.refused (true ∷ true ∷ []) ((b + 3, 0) ∷ []) e.1
offered_same x v w (offer.Busy y n) e = ⊎_elim
    (λ (h : (again : Bool) × (w ≡ record (went v (looks_off again) (tries_off (buffer_of x.from.0) again ++ (0, n) ∷ [])) { refused = v.refused + 1 })). went_same v w v.put (v.refused + 1) (looks_off h.0) (tries_off (buffer_of x.from.0) h.0 ++ (0, n) ∷ []) h.1)
    (λ (h : w ≡ went v (true ∷ []) ((buffer_of x.from.0 + 3, n) ∷ [])). went_same v w v.put v.refused (true ∷ []) ((buffer_of x.from.0 + 3, n) ∷ []) h) e.2
offered_same x v w (offer.Memory y) e = ⊎_elim
    (λ (h : (again : Bool) × (w ≡ went v (looks_off again) (tries_off (buffer_of x.from.0) again ++ (0, 0) ∷ []))). went_same v w v.put v.refused (looks_off h.0) (tries_off (buffer_of x.from.0) h.0 ++ (0, 0) ∷ []) h.1)
    (λ (h : w ≡ went v (true ∷ true ∷ []) ((buffer_of x.from.0 + 3, 0) ∷ [])). went_same v w v.put v.refused (true ∷ true ∷ []) ((buffer_of x.from.0 + 3, 0) ∷ []) h) e.1

-- the seat is one between two calls again
pub seat_again : (x : Signal) (v w : Knows) (xs : List (ℕ × Slot)) (o : Offer) (k : Kept) (refused : Bool) → Offered x v o w → Idle v → Keeps v k → xs ≡ [] → refused ≡ some_refused w.refused → IsSeat (w, xs) (record k { refused = refused })
seat_again x v w xs o k refused offered i h bare is = let e : Same v w = offered_same x v w o offered in record {
  idle = subst Idle (sym e) (record { held = i.held; parts = i.parts; saw = i.saw; fetching = i.fetching; removing = i.removing; switched = i.switched; mask = i.mask; back = i.back; moved = i.moved; progress = i.progress });
  bare = bare;
  keeps = record {
    senders_are = ap (λ (z : Knows). z.senders) e ∙ h.senders_are;
    number_is = ap (λ (z : Knows). number z) e ∙ h.number_is;
    low = h.low;
    role_is = ap (λ (z : Knows). z.role) e ∙ h.role_is;
    due_is = ap (λ (z : Knows). z.due) e ∙ h.due_is;
    refused_is = is;
  };
}
