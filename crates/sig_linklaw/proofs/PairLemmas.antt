-- What two processes do to the link between them keeps that they agree on it.
use Rattle.std.proofs.Common.{◌≡◌, ℕ, ◌+◌, ◌≤◌, ◌<◌, Bool, true, false, cond, ◌||◌, ◌≢◌, List, [], ◌∷◌, ◌++◌, Option, Some, None, is_none, refl, sym, ap, ◌∙◌, subst, arith, append_assoc}
use Rattle.std.proofs.lemmas.Bool.{both_ways, eq-eqb, ne_eqb}
use Rattle.std.proofs.lemmas.List.{append-nil}
use Rattle.std.proofs.lemmas.List.Elements.{All-nil, All-cons, All-head, All-tail, All-append}
use Rattle.sig_model.specs.LinkPair.{Word, Side, acked, heard, answer, heard_all, answers, unlink_ids, ack_ids, open_ids, AreRising, last_of, IsAwaiting, NoExits, AreAgreed}
use Rattle.sig_model.specs.LinkPair.Word.{Links, Unlinks, Acks, Exits}
use Rattle.sig_model.proofs.LinkMoves.{Moves}
use Rattle.sig_model.proofs.LinkMoves.Moves.{hears, sets_up, takes_down}

-- lists of words in two parts
unlinks-append : (xs ys : List Word) → unlink_ids (xs ++ ys) ≡ unlink_ids xs ++ unlink_ids ys
unlinks-append [] ys = refl
unlinks-append (Links ∷ xs) ys = unlinks-append xs ys
unlinks-append (Unlinks id ∷ xs) ys = ap (λ ids. id ∷ ids) (unlinks-append xs ys)
unlinks-append (Acks id ∷ xs) ys = unlinks-append xs ys
unlinks-append (Exits ∷ xs) ys = unlinks-append xs ys

acks-append : (xs ys : List Word) → ack_ids (xs ++ ys) ≡ ack_ids xs ++ ack_ids ys
acks-append [] ys = refl
acks-append (Links ∷ xs) ys = acks-append xs ys
acks-append (Unlinks id ∷ xs) ys = acks-append xs ys
acks-append (Acks id ∷ xs) ys = ap (λ ids. id ∷ ids) (acks-append xs ys)
acks-append (Exits ∷ xs) ys = acks-append xs ys

heard-append : (a : Side) (xs ys : List Word) → heard_all a (xs ++ ys) ≡ heard_all (heard_all a xs) ys
heard-append a [] ys = refl
heard-append a (x ∷ xs) ys = heard-append (heard a x) xs ys

-- one more word, which has no id of this kind
same_unlinks : (xs : List Word) (w : Word) → unlink_ids (w ∷ []) ≡ [] → unlink_ids (xs ++ w ∷ []) ≡ unlink_ids xs
same_unlinks xs w e = unlinks-append xs (w ∷ []) ∙ ap (λ ids. unlink_ids xs ++ ids) e ∙ append-nil (unlink_ids xs)

same_acks : (xs : List Word) (w : Word) → ack_ids (w ∷ []) ≡ [] → ack_ids (xs ++ w ∷ []) ≡ ack_ids xs
same_acks xs w e = acks-append xs (w ∷ []) ∙ ap (λ ids. ack_ids xs ++ ids) e ∙ append-nil (ack_ids xs)

-- rising ids
rising_bound : (low : ℕ) (ids : List ℕ) (next : ℕ) → AreRising low ids next → low ≤ next
rising_bound low [] next h = h
rising_bound low (id ∷ ids) next h =
    let first : low ≤ id = h.0 in
    let later : id + 1 ≤ next = rising_bound (id + 1) ids next h.1 in
    omega (arith, first, later)

rising_from : (low lower : ℕ) (ids : List ℕ) (next : ℕ) → lower ≤ low → AreRising low ids next → AreRising lower ids next
rising_from low lower [] next le h = let at : low ≤ next = h in omega (arith, le, at)
rising_from low lower (id ∷ ids) next le h = let first : low ≤ id = h.0 in (omega (arith, le, first), h.1)

rising_below : (low : ℕ) (ids : List ℕ) (next higher : ℕ) → next ≤ higher → AreRising low ids next → AreRising low ids higher
rising_below low [] next higher le h = let at : low ≤ next = h in omega (arith, le, at)
rising_below low (id ∷ ids) next higher le h = (h.0, rising_below (id + 1) ids next higher le h.1)

rising_more : (low : ℕ) (ids : List ℕ) (next : ℕ) → AreRising low ids next → AreRising low (ids ++ next ∷ []) (next + 1)
rising_more low [] next h = (h, omega arith)
rising_more low (id ∷ ids) next h = (h.0, rising_more (id + 1) ids next h.1)

-- the last id
last-append : (o : Option ℕ) (xs ys : List ℕ) → last_of o (xs ++ ys) ≡ last_of (last_of o xs) ys
last-append o [] ys = refl
last-append o (x ∷ xs) ys = last-append (Some x) xs ys

last_there : (id : ℕ) (ids : List ℕ) → is_none (last_of (Some id) ids) ≡ false
last_there id [] = refl
last_there id (x ∷ xs) = last_there x xs

-- an acknowledgement of another id than the awaited one
acked_other : (x id : ℕ) → (x ≡ id → ⊥) → acked (Some x) id ≡ Some x
acked_other x id n = ap (λ c. cond c None (Some x)) (ne_eqb x id n)

acked_same : (id : ℕ) → acked (Some id) id ≡ None
acked_same id = ap (λ c. cond c None (Some id)) (eq-eqb id id refl)

acked_earlier : (x : ℕ) (xs : List ℕ) (id next : ℕ) → id < x → AreRising (x + 1) xs next → acked (last_of (Some x) xs) id ≡ last_of (Some x) xs
acked_earlier x [] id next lt h = acked_other x id (λ e. absurd (omega (arith, lt, e)))
acked_earlier x (y ∷ ys) id next lt h =
    let above : x + 1 ≤ y = h.0 in
    acked_earlier y ys id next (omega (arith, lt, above)) h.1

-- the acknowledgement of the first open unlink leaves the last of the others awaited
acked_first : (id next : ℕ) (ids : List ℕ) → AreRising (id + 1) ids next → acked (last_of (Some id) ids) id ≡ last_of None ids
acked_first id next [] h = acked_same id
acked_first id next (x ∷ xs) h =
    let above : id + 1 ≤ x = h.0 in
    acked_earlier x xs id next (omega (arith, above)) h.1

-- What a side awaits once it has heard all: the last unlink that is on its way out.
awaited_then : (a : Side) (ws : List Word) (out : List ℕ) (low next : ℕ) → AreRising low (ack_ids ws ++ out) next → a.awaited ≡ last_of None (ack_ids ws ++ out)
    → (heard_all a ws).awaited ≡ last_of None out
awaited_then a [] out low next h e = e
awaited_then a (Links ∷ ws) out low next h e = awaited_then (heard a Links) ws out low next h e
awaited_then a (Unlinks id ∷ ws) out low next h e = awaited_then (heard a (Unlinks id)) ws out low next h e
awaited_then a (Exits ∷ ws) out low next h e = awaited_then (heard a Exits) ws out low next h e
awaited_then a (Acks id ∷ ws) out low next h e =
    awaited_then (heard a (Acks id)) ws out (id + 1) next h.1 (ap (λ o. acked o id) e ∙ acked_first id next (ack_ids ws ++ out) h.1)

-- words that don't tell of the end of a process
one_word : (w : Word) → w ≢ Exits → NoExits (w ∷ [])
one_word w n = All-cons (λ (z : Word). z ≢ Exits) w [] n (All-nil (λ (z : Word). z ≢ Exits))

module _ (w : Word) (ws : List Word) (h : NoExits (w ∷ ws)) where
  first_other : w ≢ Exits
  first_other = All-head (λ (z : Word). z ≢ Exits) w ws h

  rest_other : NoExits ws
  rest_other = All-tail (λ (z : Word). z ≢ Exits) w ws h

both_other : (xs ys : List Word) → NoExits xs → NoExits ys → NoExits (xs ++ ys)
both_other xs ys h g = All-append (λ (z : Word). z ≢ Exits) xs ys h g

-- truth values
or_none : (x : Bool) → x ≡ (x || false)
or_none true = refl
or_none false = refl

or_again : (x y e : Bool) → x ≡ (y || e) → x ≡ (x || e)
or_again true y e h = refl
or_again false true e h = absurd (both_ways false refl h)
or_again false false e h = h

-- the side with a link that is active, or isn't
abbrev pub side : Bool → Option ℕ → Side
side active awaited = record { active = active; awaited = awaited }

-- An active link stays active where no unlink is to be heard; else it is as if it had not been active.
active_then : (awaited : Option ℕ) (ws : List Word) → NoExits ws
    → (heard_all (side true awaited) ws).active ≡ ((heard_all (side false awaited) ws).active || is_none (last_of None (unlink_ids ws)))
active_then awaited [] n = refl
active_then None (Links ∷ ws) n =
    or_again (heard_all (side true None) ws).active (heard_all (side false None) ws).active (is_none (last_of None (unlink_ids ws))) (active_then None ws (rest_other Links ws n))
active_then (Some id) (Links ∷ ws) n = active_then (Some id) ws (rest_other Links ws n)
active_then awaited (Unlinks id ∷ ws) n =
    or_none (heard_all (side false awaited) ws).active
    ∙ ap (λ c. (heard_all (side false awaited) ws).active || c) (sym (last_there id (unlink_ids ws)))
active_then awaited (Acks id ∷ ws) n = active_then (acked awaited id) ws (rest_other (Acks id) ws n)
active_then awaited (Exits ∷ ws) n = absurd (first_other Exits ws n refl)

-- while the acknowledgement of a new unlink isn't on its way, no link signal has an effect
stays_ended : (next : ℕ) (ws : List Word) (out : List ℕ) (low : ℕ) → AreRising low (ack_ids ws ++ out) next → (heard_all (side false (Some next)) ws).active ≡ false
stays_ended next [] out low h = refl
stays_ended next (Links ∷ ws) out low h = stays_ended next ws out low h
stays_ended next (Unlinks id ∷ ws) out low h = stays_ended next ws out low h
stays_ended next (Exits ∷ ws) out low h = stays_ended next ws out low h
stays_ended next (Acks id ∷ ws) out low h =
    let below : id + 1 ≤ next = rising_bound (id + 1) (ack_ids ws ++ out) next h.1 in
    ap (λ o. (heard_all (side false o) ws).active) (acked_other next id (λ e. absurd (omega (arith, below, e)))) ∙ stays_ended next ws out (id + 1) h.1

-- the same seen from the other side
pub agreed_back : (a b : Side) (m n : ℕ) (out back : List Word) → AreAgreed a b m n out back → AreAgreed b a n m back out
agreed_back a b m n out back h = record { first = h.second; second = h.first; alike = sym h.alike; none_out = h.none_back; none_back = h.none_out }

-- before the first event
pub agreed_start : AreAgreed (side false None) (side false None) 1 1 [] []
agreed_start = record {
  first = record { rising = omega arith; last = refl };
  second = record { rising = omega arith; last = refl };
  alike = refl;
  none_out = All-nil (λ (z : Word). z ≢ Exits);
  none_back = All-nil (λ (z : Word). z ≢ Exits);
}

module _ (a b : Side) (m n : ℕ) (out back : List Word) (h : AreAgreed a b m n out back) where
  -- the next id rises, as by an unlink of another peer
  agreed_later : (next : ℕ) → m ≤ next → AreAgreed a b next n out back
  agreed_later next le = record {
    first = record { rising = rising_below 0 (open_ids out back) m next le h.first.rising; last = h.first.last };
    second = h.second;
    alike = h.alike;
    none_out = h.none_out;
    none_back = h.none_back;
  }

  -- a call of `link`, where the link wasn't active
  agreed_linked : a.active ≡ false → AreAgreed (record a { active = true }) b m n (out ++ Links ∷ []) back
  agreed_linked e = record {
    first = subst (λ ids. IsAwaiting a.awaited m (ack_ids back ++ ids)) (sym (same_unlinks out Links refl)) h.first;
    second = subst (λ ids. IsAwaiting b.awaited n (ids ++ unlink_ids back)) (sym (same_acks out Links refl)) h.second;
    alike = ap (λ (s : Side). s.active) (heard-append b out (Links ∷ []))
        ∙ ap (λ o. (heard_all b out).active || is_none o) (awaited_then b out (unlink_ids back) 0 n h.second.rising h.second.last)
        ∙ ap (λ c. c || is_none (last_of None (unlink_ids back))) (h.alike ∙ ap (λ c. (heard_all (side c a.awaited) back).active) e)
        ∙ sym (active_then a.awaited back h.none_back);
    none_out = both_other out (Links ∷ []) h.none_out (one_word Links (λ z. cc));
    none_back = h.none_back;
  }

  -- a call of `unlink`
  agreed_unlinked : AreAgreed (side false (Some m)) b (m + 1) n (out ++ Unlinks m ∷ []) back
  agreed_unlinked =
      let grown : ack_ids back ++ unlink_ids (out ++ Unlinks m ∷ []) ≡ (ack_ids back ++ unlink_ids out) ++ m ∷ [] =
      ap (λ ids. ack_ids back ++ ids) (unlinks-append out (Unlinks m ∷ [])) ∙ sym (append_assoc (ack_ids back) (unlink_ids out) (m ∷ [])) in
      record {
        first = subst (λ ids. IsAwaiting (Some m) (m + 1) ids) (sym grown)
            (record { rising = rising_more 0 (open_ids out back) m h.first.rising; last = sym (last-append None (open_ids out back) (m ∷ [])) });
        second = subst (λ ids. IsAwaiting b.awaited n (ids ++ unlink_ids back)) (sym (same_acks out (Unlinks m) refl)) h.second;
        alike = ap (λ (s : Side). s.active) (heard-append b out (Unlinks m ∷ [])) ∙ sym (stays_ended m back (unlink_ids out) 0 h.first.rising);
        none_out = both_other out (Unlinks m ∷ []) h.none_out (one_word (Unlinks m) (λ z. cc));
        none_back = h.none_back;
      }

-- a word is heard
agreed_word : (a b : Side) (m n : ℕ) (out : List Word) (w : Word) (back : List Word) → AreAgreed a b m n out (w ∷ back) → AreAgreed (heard a w) b m n (out ++ answer w) back
agreed_word a b m n out Links back h =
    subst (λ ws. AreAgreed (heard a Links) b m n ws back) (sym (append-nil out))
    (record { first = h.first; second = h.second; alike = h.alike; none_out = h.none_out; none_back = rest_other Links back h.none_back })
agreed_word a b m n out (Unlinks id) back h =
    let moved : ack_ids (out ++ Acks id ∷ []) ++ unlink_ids back ≡ ack_ids out ++ id ∷ unlink_ids back =
    ap (λ ids. ids ++ unlink_ids back) (acks-append out (Acks id ∷ [])) ∙ append_assoc (ack_ids out) (id ∷ []) (unlink_ids back) in
    record {
      first = subst (λ ids. IsAwaiting a.awaited m (ack_ids back ++ ids)) (sym (same_unlinks out (Acks id) refl)) h.first;
      second = subst (λ ids. IsAwaiting b.awaited n ids) (sym moved) h.second;
      alike = ap (λ (s : Side). s.active) (heard-append b out (Acks id ∷ [])) ∙ h.alike;
      none_out = both_other out (Acks id ∷ []) h.none_out (one_word (Acks id) (λ z. cc));
      none_back = rest_other (Unlinks id) back h.none_back;
    }
agreed_word a b m n out (Acks id) back h =
    subst (λ ws. AreAgreed (heard a (Acks id)) b m n ws back) (sym (append-nil out))
    (record {
      first = record {
        rising = rising_from (id + 1) 0 (open_ids out back) m (omega arith) h.first.rising.1;
        last = ap (λ o. acked o id) h.first.last ∙ acked_first id m (open_ids out back) h.first.rising.1;
      };
      second = h.second;
      alike = h.alike;
      none_out = h.none_out;
      none_back = rest_other (Acks id) back h.none_back;
    })
agreed_word a b m n out Exits back h = absurd (first_other Exits back h.none_back refl)

-- several are heard
agreed_words : (a b : Side) (m n : ℕ) (out ws back : List Word) → AreAgreed a b m n out (ws ++ back) → AreAgreed (heard_all a ws) b m n (out ++ answers ws) back
agreed_words a b m n out [] back h = subst (λ xs. AreAgreed a b m n xs back) (sym (append-nil out)) h
agreed_words a b m n out (w ∷ ws) back h =
    subst (λ xs. AreAgreed (heard_all (heard a w) ws) b m n xs back) (append_assoc out (answer w) (answers ws))
    (agreed_words (heard a w) b m n (out ++ answer w) ws back (agreed_word a b m n out w (ws ++ back) h))

-- The law on one event of the first: whatever it hears and does, the two agree after it.
pub agreed_after : (a b c : Side) (m n k : ℕ) (out said ws back : List Word) → Moves ws a m c k said → AreAgreed a b m n out (ws ++ back) → AreAgreed c b k n (out ++ said) back
agreed_after a b c m n k out said ws back (hears is le told) h =
    subst (λ (z : Side). AreAgreed z b k n (out ++ said) back) (sym is)
    (subst (λ xs. AreAgreed (heard_all a ws) b k n (out ++ xs) back) (sym told)
    (agreed_later (heard_all a ws) b m n (out ++ answers ws) back (agreed_words a b m n out ws back h) k le))
agreed_after a b c m n k out said ws back (sets_up none old new same one) h =
    subst (λ (z : Side). AreAgreed z b k n (out ++ said) back) (sym new)
    (subst (λ xs. AreAgreed (record a { active = true }) b k n (out ++ xs) back) (sym one)
    (subst (λ i. AreAgreed (record a { active = true }) b i n (out ++ Links ∷ []) back) (sym same)
    (agreed_linked a b m n out back (subst (λ xs. AreAgreed a b m n out (xs ++ back)) none h) old)))
agreed_after a b c m n k out said ws back (takes_down none new later one) h =
    subst (λ (z : Side). AreAgreed z b k n (out ++ said) back) (sym new)
    (subst (λ xs. AreAgreed (side false (Some m)) b k n (out ++ xs) back) (sym one)
    (subst (λ i. AreAgreed (side false (Some m)) b i n (out ++ Unlinks m ∷ []) back) (sym later)
    (agreed_unlinked a b m n out back (subst (λ xs. AreAgreed a b m n out (xs ++ back)) none h))))

-- with nothing on its way
pub record AreAtRest (a b : Side) : Type 0 where
  pub active : a.active ≡ b.active
  pub first : a.awaited ≡ None
  pub second : b.awaited ≡ None

pub agreed_rest : (a b : Side) (m n : ℕ) → AreAgreed a b m n [] [] → AreAtRest a b
agreed_rest a b m n h = record { active = sym h.alike; first = h.first.last; second = h.second.last }
