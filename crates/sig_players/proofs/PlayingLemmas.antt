-- Players at their places, as a crew.
use Rattle.std.proofs.Common.{◌≡◌, ◌≢◌, ℕ, ◌<◌, ◌+◌, ◌-◌, List, zero, suc, [], ◌∷◌, ◌++◌, length, map, Option, Some, None, is_none, Bool, true, false, ◌≤◌, refl, sym, ap, ◌∙◌, subst, get_or, set, append_assoc}
use Rattle.std.specs.Prelude.{All, Vec, MatchOption, slice_get, slice_set, slice_index}
use Rattle.std.proofs.Math.Path.{ap₂}
use Rattle.std.specs.Global.{Global}
use Rattle.std.specs.Option.{option_map}
use Rattle.std.proofs.lemmas.List.{length-map, map-set, length-set, append-nil}
use Rattle.std.proofs.lemmas.List.Elements.{All-head, All-tail, All-cons, All-nil}
use Rattle.std.proofs.lemmas.Option.{slice_get-get_or, slice_get-map, slice_get_past, same_Some}
use Rattle.sig_kinds.specs.declared.signal.Signal.{Signal}
use Rattle.sig_kinds.specs.SignalList.{SignalList}
use Rattle.sig_runs.proofs.Lists.{slice_get-set_same, slice_get-set_other}
use Rattle.sig_terms.specs.declared.pid.Pid.{Pid}
use Rattle.sig_model.specs.Keeping.{IsArriving, IsLeaving, IsPlaced}
use Rattle.sig_model.specs.Running.{Running}
use Rattle.std.specs.Bool.{MatchBool}
use Rattle.sig_program.specs.Scripts.{Program}
use Rattle.sig_runs.specs.Machine.{Choice, apply, choice}
use Rattle.sig_model.specs.declared.event.Did.{Did}
use Rattle.sig_model.specs.declared.event.Did.TheVariants.{Exec, From}
use Rattle.sig_model.specs.declared.origin.Origin.{Origin}
use Rattle.sig_model.proofs.Guards.{exec_next_tells, handle_next_tells}
use Rattle.sig_model.specs.Machine.{acted_at, rules_of}
use Rattle.sig_model.specs.SettledRun.{events_of}
use Rattle.sig_model.specs.CrewLaw.{outbox_of, IsLawfulCrew, machine_of}
use Rattle.sig_model.proofs.Lookups.{at_set}
use Rattle.sig_model.proofs.ReachLemmas.{set_here}
use Rattle.sig_process.specs.Standing.{Standing}
use Rattle.sig_players.specs.declared.player.Player.{Player}
use Rattle.sig_players.specs.declared.playing.Posted.{Posted}
use Rattle.sig_choices.specs.Waiting.{of_sender, joined}
use Rattle.sig_players.specs.Players.{seen, crew_of, IsReady, IsGiven, AreReady, HasNothing}
use Rattle.sig_choices.specs.Choosing.{Acts, Refuses, AreEmptied, HasMade, IsPosted, HasPosted}
use Rattle.sig_choices.specs.Origins.{origin_of, origins_in, own_origins, sent_at}
use Rattle.sig_choices.proofs.Posting.{post_left, post_posted, posted_then}
use Rattle.sig_choices.proofs.Sending.{acted_sent, told_origins}
use Rattle.sig_choices.proofs.Choices.{acted_made, refused_none, absent_none, made_posted, posted_emptied}
use Rattle.sig_choices.proofs.Lists.{joined_arriving}

-- a player at a place
module _ (players : List Player) (at : ℕ) (p : Player) (lt : at < length players) (is : p ≡ get_or players at p) where
  pub player_at : slice_get players at ≡ Some p
  player_at = slice_get-get_or players at p lt ∙ ap (λ (q : Player). Some q) (sym is)

  pub seen_at : slice_get (crew_of players) at ≡ Some (seen p)
  seen_at = slice_get-map seen players at ∙ ap (λ o. option_map seen o) player_at

  pub ready_at : AreReady players → IsReady p
  ready_at ready = all_at players at player_at ready.each
    where
      all_at : (ps : List Player) (i : ℕ) → slice_get ps i ≡ Some p → All IsReady ps → IsReady p
      all_at [] i h all = cc
      all_at (q ∷ qs) zero h all = subst IsReady (same_Some q p h) (All-head IsReady q qs all)
      all_at (q ∷ qs) (suc i) h all = all_at qs i h (All-tail IsReady q qs all)

  -- its pid is its place
  pub placed_at : AreReady players → (p.process.running.pid ≡ at) × (p.process.running.count ≡ length players)
  placed_at ready =
      let h : (p.process.running.pid ≡ at) × (p.process.running.count ≡ length (crew_of players)) = ready.placed at (seen p) seen_at in
      (h.0, h.1 ∙ length-map players seen)

  -- another stands there
  module _ (q : Player) (ready : AreReady players) (its : IsReady q) (pid : q.process.running.pid ≡ p.process.running.pid) (count : q.process.running.count ≡ p.process.running.count) where
    set_each : (ps : List Player) (i : ℕ) → All IsReady ps → All IsReady (set ps i q)
    set_each [] i all = all
    set_each (x ∷ xs) zero all = All-cons IsReady q xs its (All-tail IsReady x xs all)
    set_each (x ∷ xs) (suc i) all = All-cons IsReady x (set xs i q) (All-head IsReady x xs all) (set_each xs i (All-tail IsReady x xs all))

    crew_set : crew_of (set players at q) ≡ slice_set (crew_of players) at (seen q)
    crew_set = map-set seen players at q

    set_placed : IsPlaced (slice_set (crew_of players) at (seen q))
    set_placed =
        at_set (λ i o. (r : Running) → o ≡ Some r → (r.pid ≡ i) × (r.count ≡ length (slice_set (crew_of players) at (seen q)))) (crew_of players) at (seen p) (seen q) seen_at
        (λ r e.
        let h : (p.process.running.pid ≡ at) × (p.process.running.count ≡ length (crew_of players)) = ready.placed at (seen p) seen_at in
        subst (λ z. (z.pid ≡ at) × (z.count ≡ length (slice_set (crew_of players) at (seen q)))) (same_Some (seen q) r e) (pid ∙ h.0, count ∙ h.1 ∙ sym (length-set (crew_of players) at (seen q))))
        (λ i ne r e. let h : (r.pid ≡ i) × (r.count ≡ length (crew_of players)) = ready.placed i r e in (h.0, h.1 ∙ sym (length-set (crew_of players) at (seen q))))

    pub set_ready : AreReady (set players at q)
    set_ready = record { each = set_each players at ready.each; placed = subst IsPlaced (sym crew_set) set_placed }

-- a place past the last
pub past : (players : List Player) (at : ℕ) → length players ≤ at → slice_get (crew_of players) at ≡ None
past players at h = slice_get-map seen players at ∙ ap (λ o. option_map seen o) (slice_get_past players at h)

-- the oldest signal of an outbox is handed over
module _ (players : List Player) (at : ℕ) (p : Player) (lt : at < length players) (is : p ≡ get_or players at p) (ready : AreReady players) (p1 : Player) (ready1 : IsReady p1) where
  abbrev crew : List Running
  crew = crew_of players

  -- there is none
  pub none_posted : p.process.running.outbox ≡ [] → p1 ≡ p → (crew_of (set players at p1) ≡ crew) × (outbox_of (slice_get crew at) ≡ [])
  none_posted none same = (
    map-set seen players at p1 ∙ ap (λ (z : Player). slice_set crew at (seen z)) same ∙ set_here crew at (seen p) (seen_at players at p lt is),
    ap (λ o. outbox_of o) (seen_at players at p lt is) ∙ none,
  )

  module _ (x : Signal) (next : seen p ≡ record (seen p1) { outbox = x ∷ p1.process.running.outbox }) (leaving : IsLeaving p.process.running.pid p.process.running.state.counts.stamp x)
      (arriving : IsArriving x.to.0 p.process.running.count x) where
    abbrev mid : List Player
    mid = set players at p1

    mid_many : length mid ≡ length players
    mid_many = length-set players at p1

    pub to_within : x.to.0 < length players
    to_within = subst (λ n. x.to.0 < n) (placed_at players at p lt is ready).1 arriving.below.to

    pub mid_within : x.to.0 < length mid
    mid_within = subst (λ n. x.to.0 < n) (sym mid_many) to_within

    apart : x.to.0 ≢ at
    apart e = leaving.to (e ∙ sym (placed_at players at p lt is ready).0)

    pub mid_ready : AreReady mid
    mid_ready = set_ready players at p lt is p1 ready ready1 (sym (ap (λ (z : Running). z.pid) next)) (sym (ap (λ (z : Running). z.count) next))

    module _ (u : Player) (at_u : u ≡ get_or mid x.to.0 u) where
      pub receiver_ready : IsReady u
      receiver_ready = ready_at mid x.to.0 u mid_within at_u mid_ready

      pub receiver_arriving : IsArriving u.process.running.pid u.process.running.count x
      receiver_arriving =
          let h : (u.process.running.pid ≡ x.to.0) × (u.process.running.count ≡ length mid) = placed_at mid x.to.0 u mid_within at_u mid_ready in
          subst (λ q. IsArriving q u.process.running.count x) (sym h.0)
          (subst (λ n. IsArriving x.to.0 n x) ((placed_at players at p lt is ready).1 ∙ sym mid_many ∙ sym h.1) arriving)

      module _ (u2 : Player) (ready2 : IsReady u2) (given : IsGiven x u u2) where
        pub last_ready : AreReady (set mid x.to.0 u2)
        last_ready =
            set_ready mid x.to.0 u mid_within at_u u2 mid_ready ready2 (ap (λ (z : Standing). z.running.pid) given.process) (ap (λ (z : Standing). z.running.count) given.process)

        receiver_at : slice_get crew x.to.0 ≡ Some (seen u)
        receiver_at =
            sym (ap (λ c. slice_get c x.to.0) (map-set seen players at p1) ∙ slice_get-set_other crew at x.to.0 (seen p1) (λ e. apart (sym e)))
            ∙ seen_at mid x.to.0 u mid_within at_u

        pub last_posted : IsPosted crew at (crew_of (set mid x.to.0 u2))
        last_posted = record {
          sender = seen p;
          there = seen_at players at p lt is;
          signal = x;
          left = p1.process.running.outbox;
          oldest = ap (λ (z : Running). z.outbox) next;
          apart = λ e. apart (sym e);
          receiver = seen u;
          at = receiver_at;
          waits = joined u2.waiting.items;
          alike = given.alike;
          arriving = subst (λ (z : Standing). All (IsArriving z.running.pid z.running.count) (joined u2.waiting.items)) given.process
              (joined_arriving u2.process.running.pid u2.process.running.count u2.waiting.items ready2.apart);
          set = map-set seen mid x.to.0 u2
              ∙ ap (λ c. slice_set c x.to.0 (seen u2)) (map-set seen players at p1)
              ∙ ap (λ (z : Running). slice_set (slice_set crew at z) x.to.0 (seen u2)) (sym (ap (λ (z : Running). record z { outbox = p1.process.running.outbox }) next))
              ∙ ap (λ (z : Standing). slice_set (slice_set crew at (record (seen p) { outbox = p1.process.running.outbox })) x.to.0 (record z.running { taken_in = joined u2.waiting.items })) given.process;
        }

        pub last_moved : (h : IsPosted crew at (crew_of (set mid x.to.0 u2))) × (x.from ≡ h.signal.from) × (x.to ≡ h.signal.to) × (x.number ≡ h.signal.number)
        unfolding last_posted
        last_moved = (last_posted, refl, refl, refl)

-- what was told of a choice
pub when_true : (A B : Type 0) (made : Bool) → made ≡ true → MatchBool made A B → A
when_true A B true e h = h
when_true A B false e h = cc

pub when_false : (A B : Type 0) (made : Bool) → made ≡ false → MatchBool made A B → B
when_false A B false e h = h
when_false A B true e h = cc

-- a signal was handed over, or there was none
pub some_moved : {X : Type 0} (A : Type 0) (B : X → Type 0) (o : Option X) → is_none o ≡ false → MatchOption o A B → (x : X) × B x
some_moved A B None e h = cc
some_moved A B (Some x) e h = (x, h)

pub this_moved : {X : Type 0} (A : Type 0) (B : X → Type 0) (o : Option X) (x : X) → o ≡ Some x → MatchOption o A B → B x
this_moved A B None x e h = cc
this_moved A B (Some y) x e h = subst B (same_Some y x e) h

pub none_moved : {X : Type 0} (A : Type 0) (B : X → Type 0) (o : Option X) → o ≡ None → MatchOption o A B → A
none_moved A B None e h = h
none_moved A B (Some x) e h = cc

-- the signal that is named so was handed over
abbrev pub Moved : List Running → ℕ → List Running → Posted → Type 0
Moved crew at after named = (h : IsPosted crew at after) × (named.from ≡ h.signal.from) × (named.to ≡ h.signal.to) × (named.number ≡ h.signal.number)

pub one_posted : (crew mid after : List Running) (at : ℕ) → HasPosted crew at mid → IsPosted mid at after → HasPosted crew at after
one_posted crew mid after at h g = posted_then crew mid after at h (post_posted mid at after g)

-- its origin is that of the oldest signal in the outbox
module _ (event : ℕ) (mid after : List Running) (at : ℕ) (named : Posted) (h : Moved mid at after named) where
  told_is : record { from = named.from; to = named.to; number = named.number; event = event } ≡ origin_of event h.0.signal
  told_is =
      ap (λ (f : Pid). record { from = f; to = named.to; number = named.number; event = event }) h.1
      ∙ ap (λ (t : Pid). record { from = h.0.signal.from; to = t; number = named.number; event = event }) h.2
      ∙ ap (λ (n : ℕ). record { from = h.0.signal.from; to = h.0.signal.to; number = n; event = event }) h.3

  pub one_told : (origins : List Origin) →
      (origins ++ record { from = named.from; to = named.to; number = named.number; event = event } ∷ []) ++ map (origin_of event) (outbox_of (slice_get after at))
      ≡ origins ++ map (origin_of event) (outbox_of (slice_get mid at))
  one_told origins =
      append_assoc origins (record { from = named.from; to = named.to; number = named.number; event = event } ∷ []) (map (origin_of event) (outbox_of (slice_get after at)))
      ∙ ap₂ (λ (o : Origin) (xs : List Signal). origins ++ o ∷ map (origin_of event) xs) told_is (post_left mid at after h.0)
      ∙ ap (λ xs. origins ++ map (origin_of event) xs) (sym (ap (λ o. outbox_of o) h.0.there ∙ h.0.oldest))

-- all are told
pub all_told : (event : ℕ) (o : Option Running) (origins told : List Origin) → outbox_of o ≡ [] → origins ++ map (origin_of event) (outbox_of o) ≡ told → origins ≡ told
all_told event o origins told none h = sym (append-nil origins) ∙ ap (λ xs. origins ++ map (origin_of event) xs) (sym none) ∙ h

-- the process is the same
pub acts_pid : (did : Did) (r t : Running) → Acts did r t → t.pid ≡ r.pid
acts_pid (Exec place) r t h = ap (λ (z : Running). z.pid) (sym (exec_next_tells r t h).is)
acts_pid (From sender number) r t h = ap (λ (z : Running). z.pid) (sym (handle_next_tells (record r { taken_in = h.waits }) t h.handled).is)

pub acts_count : (did : Did) (r t : Running) → Acts did r t → t.count ≡ r.count
acts_count (Exec place) r t h = ap (λ (z : Running). z.count) (sym (exec_next_tells r t h).is)
acts_count (From sender number) r t h = ap (λ (z : Running). z.count) (sym (handle_next_tells (record r { taken_in = h.waits }) t h.handled).is)

-- a choice of the process at a place
module _ (players : List Player) (at : ℕ) (p : Player) (lt : at < length players) (is : p ≡ get_or players at p) (empty : AreEmptied (crew_of players)) (script : Program) (law : IsLawfulCrew script (crew_of players)) where
  abbrev c : Did → Choice
  c did = choice at (acted_at did)

  pub choice_refused : (did : Did) → Refuses did (seen p) → apply (rules_of script) (machine_of script (crew_of players)) (c did) ≡ None
  choice_refused did h = refused_none script (crew_of players) law at empty (seen p) (seen_at players at p lt is) did h

  pub choice_made : (did : Did) (q : Player) (after : List Running) → Acts did (seen p) (seen q) → HasPosted (crew_of (set players at q)) at after → HasMade script (crew_of players) at (c did) after
  choice_made did q after h posted =
      made_posted script (crew_of players) law at (c did) (slice_set (crew_of players) at (seen q)) after
      (acted_made script (crew_of players) law at (seen p) (seen q) (seen_at players at p lt is) did h)
      (subst (λ z. HasPosted z at after) (map-set seen players at q) posted)

  -- the origins of what it sends, told by its numbers before and after, and by its outbox
  pub choice_told : AreReady players → (did : Did) (q : Player) → Acts did (seen p) (seen q) → (event : ℕ) (old own all : List Origin) →
      event ≡ length (events_of (slice_get (crew_of (set players at q)) at)) →
      own ≡ old ++ own_origins p.process.running.pid (length q.process.running.events) (slice_index p.process.running.state.counts.next_numbers p.process.running.pid)
      (slice_index q.process.running.state.counts.next_numbers p.process.running.pid - slice_index p.process.running.state.counts.next_numbers p.process.running.pid) →
      all ≡ own ++ map (origin_of event) (outbox_of (slice_get (crew_of (set players at q)) at)) →
      all ≡ old ++ origins_in at (length (events_of (slice_get (crew_of players) at)) + 1) (sent_at (rules_of script) (machine_of script (crew_of players)) (c did))
  choice_told ready did q acts event old own all is_event more_own more_all =
      let crew : List Running = crew_of players in
      let there : slice_get crew at ≡ Some (seen p) = seen_at players at p lt is in
      let r : Running = p.process.running in
      let t : Running = q.process.running in
      let sends : List Signal = sent_at (rules_of script) (machine_of script crew) (c did) in
      let pid : r.pid ≡ at = (placed_at players at p lt is ready).0 in
      let none : r.outbox ≡ [] = sym (ap (λ o. outbox_of o) there) ∙ empty at in
      let here : slice_get (crew_of (set players at q)) at ≡ Some (seen q) =
      ap (λ z. slice_get z at) (map-set seen players at q) ∙ slice_get-set_same crew at (seen q) (seen p) there in
      let its : List Origin = own_origins r.pid (length t.events) (slice_index r.state.counts.next_numbers r.pid) (slice_index t.state.counts.next_numbers r.pid - slice_index r.state.counts.next_numbers r.pid) in
      let all_is : origins_in r.pid (length r.events + 1) sends ≡ its ++ map (origin_of (length t.events)) t.outbox =
      told_origins (seen p) (seen q) sends (acted_sent script crew at (seen p) there law (seen q) empty did acts) none in
      let others_are : map (origin_of event) (outbox_of (slice_get (crew_of (set players at q)) at)) ≡ map (origin_of (length t.events)) t.outbox =
      ap₂ (λ n o. map (origin_of n) (outbox_of o)) (is_event ∙ ap (λ o. length (events_of o)) here) here in
      more_all
      ∙ ap₂ (λ os xs. os ++ xs) more_own others_are
      ∙ append_assoc old its (map (origin_of (length t.events)) t.outbox)
      ∙ ap (λ os. old ++ os)
      (sym all_is
      ∙ ap (λ n. origins_in n (length r.events + 1) sends) pid
      ∙ ap (λ o. origins_in at (length (events_of o) + 1) sends) (sym there))

pub choice_emptied : (players : List Player) (at : ℕ) (q : Player) (after : List Running) → AreEmptied (crew_of players) → HasPosted (crew_of (set players at q)) at after → outbox_of (slice_get after at) ≡ [] → AreEmptied after
choice_emptied players at q after empty posted last =
    posted_emptied (crew_of players) at (seen q) after empty (subst (λ z. HasPosted z at after) (map-set seen players at q) posted) last

pub choice_absent : (players : List Player) (at : ℕ) → length players ≤ at → AreEmptied (crew_of players) → (script : Program) → IsLawfulCrew script (crew_of players) → (did : Did) →
    apply (rules_of script) (machine_of script (crew_of players)) (choice at (acted_at did)) ≡ None
choice_absent players at le empty script law did = absent_none script (crew_of players) law at empty (past players at le) did

-- a process for which nothing waits
none_joined : (lists : List SignalList) → All (λ (q : SignalList). q.items ≡ []) lists → joined lists ≡ []
none_joined [] h = refl
none_joined (q ∷ qs) h =
    ap (λ (xs : List Signal). xs ++ joined qs) (All-head (λ (l : SignalList). l.items ≡ []) q qs h) ∙ none_joined qs (All-tail (λ (l : SignalList). l.items ≡ []) q qs h)

none_of_sender : (lists : List SignalList) (s : ℕ) → All (λ (q : SignalList). q.items ≡ []) lists → of_sender s lists ≡ []
none_of_sender [] s h = refl
none_of_sender (q ∷ qs) zero h = All-head (λ (l : SignalList). l.items ≡ []) q qs h
none_of_sender (q ∷ qs) (suc s) h = none_of_sender qs s (All-tail (λ (l : SignalList). l.items ≡ []) q qs h)

module _ (count : ℕ) (p : Standing) (nothing : HasNothing count p.running) (w : Vec SignalList Global) (many : length w.items ≡ count) (none : All (λ (q : SignalList). q.items ≡ []) w.items) where
  pub fresh_ready : IsReady (record { process = p; waiting = w })
  fresh_ready = record {
    none = nothing.0;
    many = many ∙ sym nothing.1;
    apart = λ s. subst (λ xs. All (λ (x : Signal). (x.from.0 ≡ s) × IsArriving p.running.pid p.running.count x) xs) (sym (none_of_sender w.items s none)) (All-nil (λ (x : Signal). (x.from.0 ≡ s) × IsArriving p.running.pid p.running.count x));
  }

  pub fresh_seen : seen (record { process = p; waiting = w }) ≡ p.running
  fresh_seen = ap (λ (xs : List Signal). record p.running { taken_in = xs }) (none_joined w.items none ∙ sym nothing.0)
