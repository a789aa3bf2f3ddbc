-- Offers one after another.
use Rattle.std.proofs.Common.{◌≡◌, ℕ, ◌+◌, Bool, true, List, [], ◌∷◌, ◌++◌, sym, ap, ◌∙◌, refl, subst, ⊎_elim}
use Rattle.sig_kinds.specs.declared.signal.Signal.{Signal}
use Rattle.sig_layout.specs.declared.item.Item.{Item}
use Rattle.sig_layout.specs.declared.setup.Setup.{Setup}
use Rattle.sig_layout.specs.declared.knows.Knows.{Knows}
use Rattle.sig_layout.specs.declared.via.Via.{Via}
use Rattle.sig_layout.specs.declared.via.Via.TheVariants as via
use Rattle.sig_layout.specs.Sets.{has}
use Rattle.sig_layout.specs.Openings.{IsNext}
use Rattle.sig_layout.specs.Core.{buffer_of}
use Rattle.sig_queue.specs.declared.sent.Sent.TheVariants as sent
use Rattle.sig_queue.specs.Parts.{item, went, looks_off, tries_off}
use Rattle.sig_queue.specs.Calls.{PutBy, RefusedOne, TurnedAway, none, more, SentAs}

-- The view v, with what was put besides, and with the count of refusals, the tries and the looks of w
abbrev pub tried_as : Knows → List Item → Knows → Knows
tried_as v put w = record v { put = v.put ++ put; refused = w.refused; tries = w.tries; loads = w.loads }

-- an offer that was turned away changes no more than a seat's count of refusals, its tries and its looks
abbrev pub still : Knows → Knows → Knows
still v w = record v { refused = w.refused; tries = w.tries; loads = w.loads }

refused_still : (x : Signal) (u w : Knows) (n : ℕ) → RefusedOne x u n w → w ≡ still u w
refused_still x u w n = ⊎_elim
    (λ (h : (again : Bool) × (w ≡ record (went u (looks_off again) (tries_off (buffer_of x.from.0) again ++ (0, n) ∷ [])) { refused = u.refused + 1 })). h.1 ∙ (λ i. record u { refused = (sym h.1 i).refused; tries = (sym h.1 i).tries; loads = (sym h.1 i).loads }))
    (λ (e : w ≡ went u (true ∷ []) ((buffer_of x.from.0 + 3, n) ∷ [])). e ∙ (λ i. record u { refused = (sym e i).refused; tries = (sym e i).tries; loads = (sym e i).loads }))

-- and so do many
pub turned_still : (x : Signal) (v u : Knows) → TurnedAway x v u → u ≡ still v u
turned_still x v _ none = refl
turned_still x v _ (more u w n before e) = refused_still x u w n e.2 ∙ ap (λ (z : Knows). still z w) (turned_still x v u before)

-- a signal that may come next may still come next after refused offers
pub same_next : (z : Setup) (x y : Signal) (v u : Knows) → TurnedAway x v u → y ≡ x → IsNext z v.put x → IsNext z u.put y
same_next z x y v u t same next = subst (λ (p : List Item × Signal). IsNext z p.0 p.1) (λ i. (sym (ap (λ (k : Knows). k.put) (turned_still x v u t)) i, sym same i)) next

pub same_from : (x y : Signal) (v u : Knows) → TurnedAway x v u → y ≡ x → has v.senders x.from.0 ≡ true → has u.senders y.from.0 ≡ true
same_from x y v u t same from = (λ i. has (turned_still x v u t i).senders (same i).from.0) ∙ from

-- what a put changes of a seat
put_still : (x : Signal) (u w : Knows) (way : Via) → PutBy x u way w → w ≡ tried_as u (item way x ∷ []) w
put_still x u w via.Outer k = k.1 ∙ (λ i. record u { put = u.put ++ item via.Outer x ∷ []; refused = (sym k.1 i).refused; tries = (sym k.1 i).tries; loads = (sym k.1 i).loads })
put_still x u w (via.Buffer b) k = k.1 ∙ (λ i. record u { put = u.put ++ item (via.Buffer b) x ∷ []; refused = (sym k.1 i).refused; tries = (sym k.1 i).tries; loads = (sym k.1 i).loads })

-- for callers: a sending that put the signal put it behind what was put, and changed no more than the tries and the looks
pub sent_put : (x : Signal) (v w : Knows) (way : Via) → SentAs x v (sent.Put way) w → w ≡ tried_as v (item way x ∷ []) w
sent_put x v w way k = put_still x k.0 w way k.2 ∙ ap (λ (z : Knows). tried_as z (item way x ∷ []) w) (turned_still x v k.0 k.1)
