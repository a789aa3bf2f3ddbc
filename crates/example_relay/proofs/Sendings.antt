-- A seat that puts one more.
use Rattle.std.proofs.Common.{◌≡◌, ℕ, suc, ◌+◌, List, [], ◌∷◌, ◌++◌, length, sym, refl, ap, ◌∙◌, arith, length-append, Bool, true, false, ◌||◌, ⊎_elim, if◌then◌else◌, IfSome, MatchOption}
use Rattle.sig_terms.specs.Names.{IsNameBelow}
use Rattle.sig_terms.proofs.NameLemmas.{ref_names}
use Rattle.sig_terms.specs.declared.pid.Pid.{Pid}
use Rattle.sig_kinds.specs.declared.signal.Signal.{Signal}
use Rattle.sig_layout.specs.declared.setup.Setup.{Setup}
use Rattle.sig_layout.specs.declared.item.Item.{Item}
use Rattle.sig_layout.specs.declared.via.Via.{Via}
use Rattle.sig_layout.specs.declared.via.Via.TheVariants as via
use Rattle.sig_layout.specs.declared.knows.Knows.{Knows}
use Rattle.sig_layout.specs.Sets.{has}
use Rattle.sig_layout.specs.Sent.{sender, putter, of, signals}
use Rattle.sig_layout.specs.Openings.{first_of, IsNext}
use Rattle.sig_layout.proofs.Sending.{of_own, of-append, of_signals, signals-append}
use Rattle.sig_queue.specs.Parts.{item}
use Rattle.sig_queue.specs.declared.offer.Offer.{Offer}
use Rattle.sig_queue.specs.declared.offer.Offer.TheVariants as offer
use Rattle.sig_queue.specs.Calls.{PutBy, RefusedOne, LeftFree, Offered}
use Rattle.example_relay.specs.declared.relaying.Line.{Line}
use Rattle.example_relay.specs.Relays.{message, messages, Sender, Sends, put_by}

pub messages_more : (from to : Pid) (n : ℕ) (xs : List ℕ) (x : ℕ) → messages from to n xs ++ message from to (n + length xs) x ∷ [] ≡ messages from to n (xs ++ x ∷ [])
messages_more from to n [] x = let e : n + 0 ≡ n = omega arith in ap (λ (k : ℕ). message from to k x ∷ []) e
messages_more from to n (y ∷ ys) x = let e : n + suc (length ys) ≡ suc n + length ys = omega arith in
    ap (λ (l : List Signal). message from to n y ∷ l) (ap (λ (k : ℕ). messages from to (suc n) ys ++ message from to k x ∷ []) e ∙ messages_more from to (suc n) ys x)

pub own_messages : (from to : Pid) (n : ℕ) (xs : List ℕ) → of sender from.0 (messages from to n xs) ≡ messages from to n xs
own_messages from to n [] = refl
own_messages from to n (x ∷ xs) = of_own sender from.0 (message from to n x) (messages from to (suc n) xs) refl ∙ ap (λ (l : List Signal). message from to n x ∷ l) (own_messages from to (suc n) xs)

messages_length : (from to : Pid) (n : ℕ) (xs : List ℕ) → length (messages from to n xs) ≡ length xs
messages_length from to n [] = refl
messages_length from to n (x ∷ xs) = ap suc (messages_length from to (suc n) xs)

signals_length : (xs : List Item) → length (signals xs) ≡ length xs
signals_length [] = refl
signals_length (x ∷ xs) = ap suc (signals_length xs)

-- a message with the next number may be put
pub next_of : (z : Setup) (l : Line) (put : List Item) → Sender z l → (n x : ℕ) → n ≡ l.first + length (of putter l.from.0 put) → IsNext z put (message l.from l.to n x)
next_of z l put sending n x is = record {
  carried = record {
    from = sending.known;
    to = sending.receiver;
    early = omega arith;
    below = record { from = sending.below; to = sending.receiver_below; kind = ref_names (IsNameBelow z.opening.count) (record { owner = l.from; serial = x }) tt sending.below };
  };
  number = let f = sending.first_is in omega arith;
}

module _ (z : Setup) (l : Line) (xs : List ℕ) (x : ℕ) (v : Knows) (sending : Sender z l) (sends : Sends z l.from xs v) where
  pub count : length (of putter l.from.0 v.put) ≡ length xs
  count = sym (signals_length (of putter l.from.0 v.put)) ∙ (sym (ap length (of_signals l.from.0 v.put)) ∙ (ap (λ (ys : List Signal). length (of sender l.from.0 ys)) sends.put_is
      ∙ (ap length (own_messages l.from z.opening.receiver (first_of z l.from.0) xs) ∙ messages_length l.from z.opening.receiver (first_of z l.from.0) xs)))

  put_more : (n : ℕ) (way : Via) (w : Knows) → n ≡ l.first + length xs → w.put ≡ v.put ++ item way (message l.from l.to n x) ∷ [] → signals w.put ≡ messages l.from z.opening.receiver (first_of z l.from.0) (xs ++ x ∷ [])
  put_more n way w is e = ap signals e ∙ (signals-append v.put (item way (message l.from l.to n x) ∷ []) ∙ ((λ i. sends.put_is i ++ message l.from (sending.receiver i) ((is ∙ ap (λ (k : ℕ). k + length xs) sending.first_is) i) x ∷ [])
      ∙ messages_more l.from z.opening.receiver (first_of z l.from.0) xs x))

  pub sends_more : (n : ℕ) (ys : List ℕ) (way : Via) (w : Knows) → n ≡ l.first + length xs → ys ≡ xs ++ x ∷ [] → PutBy (message l.from l.to n x) v way w → Sends z l.from ys w
  sends_more n ys via.Outer w is more p = let e = p.1 in record {
    senders = ap (λ (k : Knows). k.senders) e ∙ sends.senders;
    can = ap (λ (k : Knows). has k.senders l.from.0) e ∙ sends.can;
    put_is = put_more n via.Outer w is (ap (λ (k : Knows). k.put) e) ∙ ap (messages l.from z.opening.receiver (first_of z l.from.0)) (sym more);
    no_role = ap (λ (k : Knows). k.role) e ∙ sends.no_role;
    none_taken = ap (λ (k : Knows). k.taken) e ∙ sends.none_taken;
  }
  sends_more n ys (via.Buffer b) w is more p = let e = p.1 in record {
    senders = ap (λ (k : Knows). k.senders) e ∙ sends.senders;
    can = ap (λ (k : Knows). has k.senders l.from.0) e ∙ sends.can;
    put_is = put_more n (via.Buffer b) w is (ap (λ (k : Knows). k.put) e) ∙ ap (messages l.from z.opening.receiver (first_of z l.from.0)) (sym more);
    no_role = ap (λ (k : Knows). k.role) e ∙ sends.no_role;
    none_taken = ap (λ (k : Knows). k.taken) e ∙ sends.none_taken;
  }

-- a seat of which this is as before
sends_as : (z : Setup) (from : Pid) (xs : List ℕ) (v w : Knows) → Sends z from xs v → w.senders ≡ v.senders → w.put ≡ v.put → w.role ≡ v.role → w.taken ≡ v.taken → Sends z from xs w
sends_as z from xs v w s senders put role taken = record {
  senders = senders ∙ s.senders;
  can = ap (λ (l : List ℕ). has l from.0) senders ∙ s.can;
  put_is = ap signals put ∙ s.put_is;
  no_role = role ∙ s.no_role;
  none_taken = taken ∙ s.none_taken;
}

-- a refused offer changes nothing of this, nor one for which memory is wanting
pub sends_still : (z : Setup) (from : Pid) (xs : List ℕ) (v w : Knows) → Sends z from xs v → (x : Signal) (n : ℕ) → RefusedOne x v n w → Sends z from xs w
sends_still z from xs v w s x n k = sends_as z from xs v w s (⊎_elim (λ e. ap (λ (y : Knows). y.senders) e.1) (λ e. ap (λ (y : Knows). y.senders) e) k) (⊎_elim (λ e. ap (λ (y : Knows). y.put) e.1) (λ e. ap (λ (y : Knows). y.put) e) k) (⊎_elim (λ e. ap (λ (y : Knows). y.role) e.1) (λ e. ap (λ (y : Knows). y.role) e) k) (⊎_elim (λ e. ap (λ (y : Knows). y.taken) e.1) (λ e. ap (λ (y : Knows). y.taken) e) k)

sends_free : (z : Setup) (from : Pid) (xs : List ℕ) (v w : Knows) → Sends z from xs v → (x : Signal) → LeftFree x v w → Sends z from xs w
sends_free z from xs v w s x k = sends_as z from xs v w s (⊎_elim (λ e. ap (λ (y : Knows). y.senders) e.1) (λ e. ap (λ (y : Knows). y.senders) e) k) (⊎_elim (λ e. ap (λ (y : Knows). y.put) e.1) (λ e. ap (λ (y : Knows). y.put) e) k) (⊎_elim (λ e. ap (λ (y : Knows). y.role) e.1) (λ e. ap (λ (y : Knows). y.role) e) k) (⊎_elim (λ e. ap (λ (y : Knows). y.taken) e.1) (λ e. ap (λ (y : Knows). y.taken) e) k)

pub or_yes : (b : Bool) → (b || true) ≡ true
or_yes true = refl
or_yes false = refl

-- neither a put nor a refused offer changes who puts
refused_senders : (x : Signal) (v w : Knows) (n : ℕ) → RefusedOne x v n w → w.senders ≡ v.senders
refused_senders x v w n k = ⊎_elim (λ e. ap (λ (y : Knows). y.senders) e.1) (λ e. ap (λ (y : Knows). y.senders) e) k

put_senders : (x : Signal) (v w : Knows) (way : Via) → PutBy x v way w → w.senders ≡ v.senders
put_senders x v w via.Outer p = ap (λ (y : Knows). y.senders) p.1
put_senders x v w (via.Buffer b) p = ap (λ (y : Knows). y.senders) p.1

pub offered_senders : (x : Signal) (v w : Knows) (o : Offer) → Offered x v o w → w.senders ≡ v.senders
offered_senders x v w (offer.Put way) p = put_senders x v w way p
offered_senders x v w (offer.Busy y n) p = refused_senders x v w n p.2
offered_senders x v w (offer.Memory y) p = ⊎_elim (λ e. ap (λ (k : Knows). k.senders) e.1) (λ e. ap (λ (k : Knows). k.senders) e) p.1

refused_put : (x : Signal) (v w : Knows) (n : ℕ) → RefusedOne x v n w → w.put ≡ v.put
refused_put x v w n k = ⊎_elim (λ e. ap (λ (y : Knows). y.put) e.1) (λ e. ap (λ (y : Knows). y.put) e) k

-- a put is one more of its sender
one_more : (put : List Item) (i : Item) → length (of putter (putter i) (put ++ i ∷ [])) ≡ length (of putter (putter i) put) + 1
one_more put i = ap length (of-append putter (putter i) put (i ∷ [])) ∙ (ap (λ (l : List Item). length (of putter (putter i) put ++ l)) (of_own putter (putter i) i [] refl) ∙ length-append (of putter (putter i) put) (i ∷ []))

put_more_of : (x : Signal) (v w : Knows) (way : Via) → PutBy x v way w → length (of putter x.from.0 w.put) ≡ length (of putter x.from.0 v.put) + 1
put_more_of x v w via.Outer p = ap (λ (y : Knows). length (of putter x.from.0 y.put)) p.1 ∙ one_more v.put (item via.Outer x)
put_more_of x v w (via.Buffer b) p = ap (λ (y : Knows). length (of putter x.from.0 y.put)) p.1 ∙ one_more v.put (item (via.Buffer b) x)

-- an offer is one more of its sender where it was put, and else none
pub offered_count : (x : Signal) (v w : Knows) (r : Offer) → Offered x v r w → IfSome (put_by r) (λ b. length (of putter x.from.0 w.put) ≡ length (of putter x.from.0 v.put) + (if b then 1 else 0))
offered_count x v w (offer.Put way) p = put_more_of x v w way p
offered_count x v w (offer.Busy y n) p = let e = ap (λ (l : List Item). length (of putter x.from.0 l)) (refused_put x v w n p.2) in omega arith
offered_count x v w (offer.Memory y) p = tt

-- after an offer of the next message the seat has put it where it was put, and else as before
pub sends_after : (z : Setup) (l : Line) (xs ys : List ℕ) (x n : ℕ) (v w : Knows) (r : Offer) → Sender z l → Sends z l.from xs v → n ≡ l.first + length xs → ys ≡ xs ++ x ∷ [] → Offered (message l.from l.to n x) v r w
    → MatchOption (put_by r) (Sends z l.from xs w) (λ b. Sends z l.from (if b then ys else xs) w)
sends_after z l xs ys x n v w (offer.Put way) sending sends is more p = sends_more z l xs x v sending sends n ys way w is more p
sends_after z l xs ys x n v w (offer.Busy y found) sending sends is more p = sends_still z l.from xs v w sends (message l.from l.to n x) found p.2
sends_after z l xs ys x n v w (offer.Memory y) sending sends is more p = sends_free z l.from xs v w sends (message l.from l.to n x) p.1
