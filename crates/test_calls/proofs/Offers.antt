-- What an offer leaves of a seat.
use Rattle.std.proofs.Common.{◌≡◌, ◌+◌, ◌++◌, ℕ, List, [], ◌∷◌, length, ap, sym, ◌∙◌, ⊎_elim, Bool, Option, Some, None, if◌then◌else◌, IfSome, refl, arith, length-append}
use Rattle.sig_kinds.specs.declared.signal.Signal.{Signal}
use Rattle.sig_layout.specs.declared.item.Item.{Item}
use Rattle.sig_layout.specs.declared.via.Via.{Via}
use Rattle.sig_layout.specs.declared.via.Via.TheVariants as via
use Rattle.sig_layout.specs.declared.knows.Knows.{Knows}
use Rattle.sig_layout.specs.Sent.{putter, of}
use Rattle.sig_layout.proofs.Sending.{of_own, of-append}
use Rattle.sig_queue.specs.Parts.{item}
use Rattle.sig_queue.specs.declared.offer.Offer.{Offer}
use Rattle.sig_queue.specs.declared.offer.Offer.TheVariants as offer
use Rattle.sig_queue.specs.Calls.{Offered}
use Rattle.test_calls.specs.Queues.{via_by, is_put, put_after, SameHand}

pub offered_hand : (x : Signal) (v w : Knows) (o : Offer) → Offered x v o w → SameHand v w
offered_hand x v w (offer.Put via.Outer) p = (ap (λ (k : Knows). k.senders) p.1, ap (λ (k : Knows). k.role) p.1, ap (λ (k : Knows). k.due) p.1)
offered_hand x v w (offer.Put (via.Buffer b)) p = (ap (λ (k : Knows). k.senders) p.1, ap (λ (k : Knows). k.role) p.1, ap (λ (k : Knows). k.due) p.1)
offered_hand x v w (offer.Busy y n) p =
    let senders : w.senders ≡ v.senders = ⊎_elim (λ e. ap (λ (k : Knows). k.senders) e.1) (λ e. ap (λ (k : Knows). k.senders) e) p.2 in
    let role : w.role ≡ v.role = ⊎_elim (λ e. ap (λ (k : Knows). k.role) e.1) (λ e. ap (λ (k : Knows). k.role) e) p.2 in
    let due : w.due ≡ v.due = ⊎_elim (λ e. ap (λ (k : Knows). k.due) e.1) (λ e. ap (λ (k : Knows). k.due) e) p.2 in (senders, role, due)
offered_hand x v w (offer.Memory y) p =
    let senders : w.senders ≡ v.senders = ⊎_elim (λ e. ap (λ (k : Knows). k.senders) e.1) (λ e. ap (λ (k : Knows). k.senders) e) p.1 in
    let role : w.role ≡ v.role = ⊎_elim (λ e. ap (λ (k : Knows). k.role) e.1) (λ e. ap (λ (k : Knows). k.role) e) p.1 in
    let due : w.due ≡ v.due = ⊎_elim (λ e. ap (λ (k : Knows). k.due) e.1) (λ e. ap (λ (k : Knows). k.due) e) p.1 in (senders, role, due)

pub offered_put : (x : Signal) (v w : Knows) (o : Offer) → Offered x v o w → w.put ≡ put_after v.put x (via_by o)
offered_put x v w (offer.Put via.Outer) p = ap (λ (k : Knows). k.put) p.1
offered_put x v w (offer.Put (via.Buffer b)) p = ap (λ (k : Knows). k.put) p.1
offered_put x v w (offer.Busy y n) p = ⊎_elim (λ e. ap (λ (k : Knows). k.put) e.1) (λ e. ap (λ (k : Knows). k.put) e) p.2
offered_put x v w (offer.Memory y) p = ⊎_elim (λ e. ap (λ (k : Knows). k.put) e.1) (λ e. ap (λ (k : Knows). k.put) e) p.1

one_more : (put : List Item) (i : Item) → length (of putter (putter i) (put ++ i ∷ [])) ≡ length (of putter (putter i) put) + 1
one_more put i = ap length (of-append putter (putter i) put (i ∷ [])) ∙ (ap (λ (l : List Item). length (of putter (putter i) put ++ l)) (of_own putter (putter i) i [] refl) ∙ length-append (of putter (putter i) put) (i ∷ []))

-- one more of its sender where it was put, and else none
pub count_after : (put : List Item) (x : Signal) (way : Option Via) → length (of putter x.from.0 (put_after put x way)) ≡ length (of putter x.from.0 put) + (if is_put way then 1 else 0)
count_after put x None = omega arith
count_after put x (Some way) = one_more put (item way x)

-- what is told of an offer says how many were put
pub told_count : (told : Option Bool) (way : Option Via) (n count : ℕ) → IfSome told (λ put. put ≡ is_put way) → count ≡ n + (if is_put way then 1 else 0) → IfSome told (λ put. count ≡ n + (if put then 1 else 0))
told_count None way n count told is = tt
told_count (Some put) way n count told is = is ∙ ap (λ (b : Bool). n + (if b then 1 else 0)) (sym told)
