-- What a run keeps of its events and of the origins of its signals, so far: and one event more.
use Rattle.std.proofs.Common.{◌≡◌, ◌≢◌, ℕ, ◌+◌, ◌<◌, ◌≤◌, Bool, true, false, cond, not, List, [], ◌∷◌, ◌++◌, length, get_or, All, Option, Some, None, refl, sym, ap, ◌∙◌, subst, inl, inr, ◌⊎◌, arith}
use Rattle.std.specs.Prelude.{◌==◌, slice_index, slice_get, slice_set}
use Rattle.std.specs.List.{Contains, filter}
use Rattle.std.proofs.lemmas.Bool.{cases_eq, eq-eqb, ne_eqb, eqb-true, not_from_false}
use Rattle.std.proofs.lemmas.List.Elements.{All-append, All-map, All-filter, All-weaker, All-contains, filter_passes, Contains-get_or, Contains-append_left, Contains-append_right, Contains-append_cases}
use Rattle.std.proofs.lemmas.Option.{same_Some, slice_get_within}
use Rattle.sig_terms.specs.declared.pid.Pid.{Pid}
use Rattle.sig_kinds.specs.declared.signal.Signal.{Signal}
use Rattle.sig_runs.specs.Rules.{Effect}
use Rattle.sig_runs.specs.Machine.{Machine, At}
use Rattle.sig_runs.specs.Order.{events_by}
use Rattle.sig_runs.proofs.Lists.{slice_get-set_same, slice_get-set_other}
use Rattle.sig_model.specs.declared.event.Event.{Event}
use Rattle.sig_model.specs.declared.event.Did.TheVariants as did
use Rattle.sig_model.specs.declared.origin.Origin.{Origin}
use Rattle.sig_model.specs.ProcessState.{ProcessState}
use Rattle.sig_model.specs.Running.{to_itself, to_others}
use Rattle.sig_choices.specs.Origins.{origin_of, origins_in}
use Rattle.sig_choices.proofs.FollowLemmas.{by_more}
use Rattle.sig_order.proofs.ListParts.{contains-filter, contains-map, get_left, get_end, get_push}
use Rattle.sig_order.proofs.OneEvent.{IsDrawn, IsEventOf}

-- the event of a process at this place, from 0
abbrev pub event_in : List (At Event) → ℕ → ℕ → Option Event
event_in es p i = slice_get (events_by p es) i

-- the last stamp of a process, and its next number for another
abbrev last_stamp : Option ProcessState → ℕ
last_stamp None = 0
last_stamp (Some s) = s.counts.stamp

abbrev next_number : Option ProcessState → ℕ → ℕ
next_number None t = 0
next_number (Some s) t = slice_index s.counts.next_numbers t

abbrev pub last_in : Machine ProcessState Signal → ℕ → ℕ
last_in m p = last_stamp (slice_get m.procs p)

abbrev pub next_in : Machine ProcessState Signal → ℕ → ℕ → ℕ
next_in m p t = next_number (slice_get m.procs p) t

abbrev pub origin : ℕ → ℕ → ℕ → ℕ → Origin
origin s t number event = record { from = record { 0 = s }; to = record { 0 = t }; number = number; event = event }

-- the signal x, on its way from s to t: an origin tells its event, which has its stamp
pub record IsSent (es : List (At Event)) (os : List Origin) (s t : ℕ) (x : Signal) : Type 0 where
  pub from : x.from.0 ≡ s
  pub to : x.to.0 ≡ t
  pub place : ℕ
  pub sender : Event
  pub there : event_in es s place ≡ Some sender
  pub stamp : sender.stamp ≡ x.stamp
  pub told : Contains os (origin s t x.number (place + 1))

-- the same of a signal that was handled by an event with this stamp: its own event has a lower one
pub record IsTold (es : List (At Event)) (os : List Origin) (s t number stamp : ℕ) : Type 0 where
  pub place : ℕ
  pub sender : Event
  pub there : event_in es s place ≡ Some sender
  pub lower : sender.stamp < stamp
  pub told : Contains os (origin s t number (place + 1))

-- So it is after the events `es`, which led to the machine m and have these origins.
pub record IsTracedTo (count : ℕ) (es : List (At Event)) (m : Machine ProcessState Signal) (os : List Origin) : Type 0 where
  pub many : (p : ℕ) (s : ProcessState) → slice_get m.procs p ≡ Some s → length s.counts.next_numbers ≡ count
  -- the stamps of a process rise, and none is above its last one
  pub rising : (p i j : ℕ) (a b : Event) → i < j → event_in es p i ≡ Some a → event_in es p j ≡ Some b → a.stamp < b.stamp
  pub last : (p i : ℕ) (a : Event) → event_in es p i ≡ Some a → a.stamp ≤ last_in m p
  pub queued : (s t : ℕ) → All (IsSent es os s t) (m.queued s t)
  -- each origin has a number below its sender's next one, and one event sent each signal
  pub below : (o : Origin) → Contains os o → o.number < next_in m o.from.0 o.to.0
  pub one : (a b : Origin) → Contains os a → Contains os b → a.from.0 ≡ b.from.0 → a.to.0 ≡ b.to.0 → a.number ≡ b.number → a.event ≡ b.event
  pub handled : (t i : ℕ) (f : Event) (s : Pid) (number : ℕ) → event_in es t i ≡ Some f → f.did ≡ did.From s number → IsTold es os s.0 t number f.stamp

-- the lists, with these signals of p behind them
abbrev pub sent_lists : ℕ → List Signal → (ℕ → ℕ → List Signal) → ℕ → ℕ → List Signal
sent_lists p sends queued f t = cond (p == f) (queued f t ++ filter (λ (x : Signal). x.to.0 == t) sends) (queued f t)

module _ (count : ℕ) (es : List (At Event)) (m : Machine ProcessState Signal) (os : List Origin) (inv : IsTracedTo count es m os)
    (p : ℕ) (s : ProcessState) (at : slice_get m.procs p ≡ Some s) (effect : Effect ProcessState Signal Event) (ev : IsEventOf p s effect)
    (queued : ℕ → ℕ → List Signal) (kept : (f t : ℕ) → All (IsSent es os f t) (queued f t)) (named : All (λ (x : Signal). x.to.0 < count) effect.sends)
    (tells : (sender : Pid) (number : ℕ) → effect.event.did ≡ did.From sender number → IsTold es os sender.0 p number effect.event.stamp) where
  -- the new event's place, from 0, and its origins
  abbrev k : ℕ
  k = length (events_by p es)

  abbrev now : List (At Event)
  now = es ++ record { pid = p; event = effect.event } ∷ []

  abbrev new : List Origin
  new = origins_in p (k + 1) effect.sends

  abbrev all : List Origin
  all = os ++ new

  abbrev end : Machine ProcessState Signal
  end = record { procs = slice_set m.procs p effect.state; queued = sent_lists p effect.sends queued }

  by_p : events_by p now ≡ events_by p es ++ effect.event ∷ []
  by_p = by_more p p effect.event es ∙ ap (λ (b : Bool). cond b (events_by p es ++ effect.event ∷ []) (events_by p es)) (eq-eqb p p refl)

  by_other : (q : ℕ) → q ≢ p → events_by q now ≡ events_by q es
  by_other q n = by_more q p effect.event es ∙ ap (λ (b : Bool). cond b (events_by q es ++ effect.event ∷ []) (events_by q es)) (ne_eqb p q (λ e. n (sym e)))

  -- the events that there were stay, and an event is one of them or the new one
  stays : (q i : ℕ) (a : Event) → event_in es q i ≡ Some a → event_in now q i ≡ Some a
  stays q i a h = by (cases_eq q p)
    where
      by : (q ≡ p) ⊎ (q ≡ p → ⊥) → event_in now q i ≡ Some a
      by (inl e) =
          subst (λ z. event_in now z i ≡ Some a) (sym e)
          (ap (λ (xs : List Event). slice_get xs i) by_p ∙ get_left (events_by p es) (effect.event ∷ []) i a (subst (λ z. event_in es z i ≡ Some a) e h))
      by (inr n) = ap (λ (xs : List Event). slice_get xs i) (by_other q n) ∙ h

  here : event_in now p k ≡ Some effect.event
  here = ap (λ (xs : List Event). slice_get xs k) by_p ∙ get_end (events_by p es) effect.event

  abbrev IsNew : ℕ → ℕ → Event → Type 0
  IsNew q i a = (q ≡ p) × (i ≡ k) × (effect.event ≡ a)

  among : (q i : ℕ) (a : Event) → event_in now q i ≡ Some a → (event_in es q i ≡ Some a) ⊎ IsNew q i a
  among q i a h = by (cases_eq q p)
    where
      at_p : q ≡ p → (slice_get (events_by p es) i ≡ Some a) ⊎ ((i ≡ k) × (effect.event ≡ a)) → (event_in es q i ≡ Some a) ⊎ IsNew q i a
      at_p e (inl g) = inl (subst (λ z. event_in es z i ≡ Some a) (sym e) g)
      at_p e (inr g) = inr (e, g.0, g.1)

      by : (q ≡ p) ⊎ (q ≡ p → ⊥) → (event_in es q i ≡ Some a) ⊎ IsNew q i a
      by (inl e) =
          at_p e (get_push (events_by p es) effect.event i a (sym (ap (λ (xs : List Event). slice_get xs i) by_p) ∙ subst (λ z. event_in now z i ≡ Some a) e h))
      by (inr n) = inl (sym (ap (λ (xs : List Event). slice_get xs i) (by_other q n)) ∙ h)

  -- last stamps and next numbers
  last_before : last_in m p ≡ s.counts.stamp
  last_before = ap last_stamp at

  end_here : slice_get end.procs p ≡ Some effect.state
  end_here = slice_get-set_same m.procs p effect.state s at

  end_other : (q : ℕ) → q ≢ p → slice_get end.procs q ≡ slice_get m.procs q
  end_other q n = slice_get-set_other m.procs p q effect.state (λ e. n (sym e))

  last_more : (q : ℕ) → last_in m q ≤ last_in end q
  last_more q = by (cases_eq q p)
    where
      by : (q ≡ p) ⊎ (q ≡ p → ⊥) → last_in m q ≤ last_in end q
      by (inl e) =
          let after : last_in end p ≡ effect.state.counts.stamp = ap last_stamp end_here in
          subst (λ z. last_in m z ≤ last_in end z) (sym e) (omega (arith, last_before, after, ev.later, ev.last))
      by (inr n) = let same : last_in end q ≡ last_in m q = ap last_stamp (end_other q n) in omega (arith, same)

  next_before : (t : ℕ) → next_in m p t ≡ slice_index s.counts.next_numbers t
  next_before t = ap (λ o. next_number o t) at

  next_after : (t : ℕ) → next_in end p t ≡ slice_index effect.state.counts.next_numbers t
  next_after t = ap (λ o. next_number o t) end_here

  next_more : (q t : ℕ) → next_in m q t ≤ next_in end q t
  next_more q t = by (cases_eq q p)
    where
      by : (q ≡ p) ⊎ (q ≡ p → ⊥) → next_in m q t ≤ next_in end q t
      by (inl e) = subst (λ z. next_in m z t ≤ next_in end z t) (sym e) (omega (arith, next_before t, next_after t, ev.more t))
      by (inr n) = let same : next_in end q t ≡ next_in m q t = ap (λ o. next_number o t) (end_other q n) in omega (arith, same)

  -- the new origins: of p and its new event, with numbers from the next ones on
  record IsNewOrigin (o : Origin) : Type 0 where
    from : o.from.0 ≡ p
    event : o.event ≡ k + 1
    least : slice_index s.counts.next_numbers o.to.0 ≤ o.number
    most : o.number < slice_index effect.state.counts.next_numbers o.to.0

  new_origins : All IsNewOrigin new
  new_origins =
      All-map IsNewOrigin (origin_of (k + 1)) (to_itself p effect.sends ++ to_others p effect.sends)
      (All-append P (to_itself p effect.sends) (to_others p effect.sends) (All-filter (λ (x : Signal). x.to.0 == p) P effect.sends each) (All-filter (λ (x : Signal). not (x.to.0 == p)) P effect.sends each))
    where
      P : Signal → Type 0
      P x = IsNewOrigin (origin_of (k + 1) x)

      one_new : (x : Signal) → (x.from.0 ≡ p) × (x.stamp ≡ effect.event.stamp) → IsDrawn s.counts.next_numbers effect.state.counts.next_numbers x → x.to.0 < count → P x
      one_new x h g lt = record { from = h.0; event = refl; least = g.0; most = g.1 (let many : length s.counts.next_numbers ≡ count = inv.many p s at in omega (arith, lt, many)) }

      each : All P effect.sends
      each i d lt = one_new (get_or effect.sends i d) (ev.sends i d lt) (ev.drawn i d lt) (named i d lt)

  -- an origin of before isn't of a signal that is sent now
  clash : (a b : Origin) → Contains os a → IsNewOrigin b → a.from.0 ≡ b.from.0 → a.to.0 ≡ b.to.0 → a.number ≡ b.number → ⊥
  clash a b h g e f n =
      let low : a.number < next_in m a.from.0 a.to.0 = inv.below a h in
      let same : next_in m a.from.0 a.to.0 ≡ slice_index s.counts.next_numbers b.to.0 =
      ap (λ z. next_in m z a.to.0) (e ∙ g.from) ∙ ap (λ z. next_in m p z) f ∙ next_before b.to.0 in
      omega (arith, low, same, g.least, n)

  by_origin : (o : Origin) → Contains all o → Contains os o ⊎ IsNewOrigin o
  by_origin o h = by (Contains-append_cases os new o h)
    where
      by : Contains os o ⊎ Contains new o → Contains os o ⊎ IsNewOrigin o
      by (inl g) = inl g
      by (inr g) = inr (All-contains IsNewOrigin new o new_origins g)

  -- each signal that is sent has its origin
  sent_told : (x : Signal) → Contains effect.sends x → Contains new (origin_of (k + 1) x)
  sent_told x h = contains-map (origin_of (k + 1)) (to_itself p effect.sends ++ to_others p effect.sends) x (by (x.to.0 == p) refl)
    where
      by : (b : Bool) → (x.to.0 == p) ≡ b → Contains (to_itself p effect.sends ++ to_others p effect.sends) x
      by true e = Contains-append_left (to_itself p effect.sends) (to_others p effect.sends) x (contains-filter (λ (y : Signal). y.to.0 == p) effect.sends x h e)
      by false e =
          Contains-append_right (to_itself p effect.sends) (to_others p effect.sends) x
          (contains-filter (λ (y : Signal). not (y.to.0 == p)) effect.sends x h (not_from_false (x.to.0 == p) e))

  -- what was told is told
  sent_stays : (f t : ℕ) (x : Signal) → IsSent es os f t x → IsSent now all f t x
  sent_stays f t x h = record {
    from = h.from;
    to = h.to;
    place = h.place;
    sender = h.sender;
    there = stays f h.place h.sender h.there;
    stamp = h.stamp;
    told = Contains-append_left os new (origin f t x.number (h.place + 1)) h.told;
  }

  told_stays : (f t number stamp : ℕ) → IsTold es os f t number stamp → IsTold now all f t number stamp
  told_stays f t number stamp h = record {
    place = h.place;
    sender = h.sender;
    there = stays f h.place h.sender h.there;
    lower = h.lower;
    told = Contains-append_left os new (origin f t number (h.place + 1)) h.told;
  }

  -- a signal that is sent now
  sent_now : (t : ℕ) (x : Signal) → (x.from.0 ≡ p) × (x.stamp ≡ effect.event.stamp) → x.to.0 ≡ t → Contains new (origin_of (k + 1) x) → IsSent now all p t x
  sent_now t x h to g = record {
    from = h.0;
    to = to;
    place = k;
    sender = effect.event;
    there = here;
    stamp = sym h.1;
    told =
        Contains-append_right os new (origin p t x.number (k + 1))
        (subst (λ (o : Origin). Contains new o) (λ i. record { from = record { 0 = h.0 i }; to = record { 0 = to i }; number = x.number; event = k + 1 }) g);
  }

  abbrev IsSentNow : Signal → Type 0
  IsSentNow x = ((x.from.0 ≡ p) × (x.stamp ≡ effect.event.stamp)) × Contains new (origin_of (k + 1) x)

  sends_now : All IsSentNow effect.sends
  sends_now i d lt = (ev.sends i d lt, sent_told (get_or effect.sends i d) (Contains-get_or effect.sends i d lt))

  queued_now : (f t : ℕ) → All (IsSent now all f t) (end.queued f t)
  queued_now f t = go (p == f) refl
    where
      old : All (IsSent now all f t) (queued f t)
      old = All-weaker (IsSent es os f t) (IsSent now all f t) (sent_stays f t) (queued f t) (kept f t)

      fresh : p ≡ f → All (IsSent now all f t) (filter (λ (x : Signal). x.to.0 == t) effect.sends)
      fresh e i d lt =
          let x : Signal = get_or (filter (λ (x : Signal). x.to.0 == t) effect.sends) i d in
          let q : IsSentNow x = All-filter (λ (x : Signal). x.to.0 == t) IsSentNow effect.sends sends_now i d lt in
          let to : x.to.0 ≡ t = eqb-true x.to.0 t (filter_passes (λ (x : Signal). x.to.0 == t) effect.sends i d lt) in
          subst (λ z. IsSent now all z t x) e (sent_now t x q.0 to q.1)

      go : (b : Bool) → (p == f) ≡ b → All (IsSent now all f t) (cond b (queued f t ++ filter (λ (x : Signal). x.to.0 == t) effect.sends) (queued f t))
      go true e = All-append (IsSent now all f t) (queued f t) (filter (λ (x : Signal). x.to.0 == t) effect.sends) old (fresh (eqb-true p f e))
      go false e = old

  rising_now : (q i j : ℕ) (a b : Event) → i < j → event_in now q i ≡ Some a → event_in now q j ≡ Some b → a.stamp < b.stamp
  rising_now q i j a b lt g h = by (among q i a g) (among q j b h)
    where
      by : (event_in es q i ≡ Some a) ⊎ IsNew q i a → (event_in es q j ≡ Some b) ⊎ IsNew q j b → a.stamp < b.stamp
      by (inl x) (inl y) = inv.rising q i j a b lt x y
      by (inl x) (inr y) =
          let low : a.stamp ≤ last_in m q = inv.last q i a x in
          let its : last_in m q ≡ s.counts.stamp = ap (λ z. last_in m z) y.0 ∙ last_before in
          let is : effect.event.stamp ≡ b.stamp = ap (λ (z : Event). z.stamp) y.2 in
          omega (arith, low, its, ev.later, is)
      by (inr x) (inl y) =
          let within : j < length (events_by q es) = slice_get_within (events_by q es) j b y in
          let many : length (events_by q es) ≡ k = ap (λ z. length (events_by z es)) x.0 in
          absurd (omega (arith, lt, within, many, x.1))
      by (inr x) (inr y) = absurd (omega (arith, lt, x.1, y.1))

  last_now : (q i : ℕ) (a : Event) → event_in now q i ≡ Some a → a.stamp ≤ last_in end q
  last_now q i a h = by (among q i a h)
    where
      by : (event_in es q i ≡ Some a) ⊎ IsNew q i a → a.stamp ≤ last_in end q
      by (inl x) = omega (arith, inv.last q i a x, last_more q)
      by (inr x) =
          let is : effect.event.stamp ≡ a.stamp = ap (λ (z : Event). z.stamp) x.2 in
          let after : last_in end q ≡ effect.state.counts.stamp = ap (λ z. last_in end z) x.0 ∙ ap last_stamp end_here in
          omega (arith, is, after, ev.last)

  below_now : (o : Origin) → Contains all o → o.number < next_in end o.from.0 o.to.0
  below_now o h = by (by_origin o h)
    where
      by : Contains os o ⊎ IsNewOrigin o → o.number < next_in end o.from.0 o.to.0
      by (inl g) = omega (arith, inv.below o g, next_more o.from.0 o.to.0)
      by (inr g) =
          let after : next_in end o.from.0 o.to.0 ≡ slice_index effect.state.counts.next_numbers o.to.0 = ap (λ z. next_in end z o.to.0) g.from ∙ next_after o.to.0 in
          omega (arith, g.most, after)

  one_now : (a b : Origin) → Contains all a → Contains all b → a.from.0 ≡ b.from.0 → a.to.0 ≡ b.to.0 → a.number ≡ b.number → a.event ≡ b.event
  one_now a b g h e f n = by (by_origin a g) (by_origin b h)
    where
      by : Contains os a ⊎ IsNewOrigin a → Contains os b ⊎ IsNewOrigin b → a.event ≡ b.event
      by (inl x) (inl y) = inv.one a b x y e f n
      by (inl x) (inr y) = absurd (clash a b x y e f n)
      by (inr x) (inl y) = absurd (clash b a y x (sym e) (sym f) (sym n))
      by (inr x) (inr y) = x.event ∙ sym y.event

  handled_now : (t i : ℕ) (f : Event) (sender : Pid) (number : ℕ) → event_in now t i ≡ Some f → f.did ≡ did.From sender number → IsTold now all sender.0 t number f.stamp
  handled_now t i f sender number h e = by (among t i f h)
    where
      by : (event_in es t i ≡ Some f) ⊎ IsNew t i f → IsTold now all sender.0 t number f.stamp
      by (inl x) = told_stays sender.0 t number f.stamp (inv.handled t i f sender number x e)
      by (inr x) =
          subst (λ z. IsTold now all sender.0 z number f.stamp) (sym x.0)
          (subst (λ (z : Event). IsTold now all sender.0 p number z.stamp) x.2
          (told_stays sender.0 p number effect.event.stamp (tells sender number (ap (λ (z : Event). z.did) x.2 ∙ e))))

  many_now : (q : ℕ) (u : ProcessState) → slice_get end.procs q ≡ Some u → length u.counts.next_numbers ≡ count
  many_now q u h = by (cases_eq q p)
    where
      by : (q ≡ p) ⊎ (q ≡ p → ⊥) → length u.counts.next_numbers ≡ count
      by (inl e) =
          let same : effect.state ≡ u = same_Some effect.state u (sym end_here ∙ ap (λ z. slice_get end.procs z) (sym e) ∙ h) in
          ap (λ (z : ProcessState). length z.counts.next_numbers) (sym same) ∙ ev.many ∙ inv.many p s at
      by (inr n) = inv.many q u (sym (end_other q n) ∙ h)

  pub traced_now : IsTracedTo count now end all
  traced_now = record {
    many = many_now;
    rising = rising_now;
    last = last_now;
    queued = queued_now;
    below = below_now;
    one = one_now;
    handled = handled_now;
  }
