-- The end of a round: its queues are closed.
use Rattle.std.proofs.Common.{◌≡◌, ℕ, ◌+◌, ◌<◌, ◌≤◌, List, [], ◌++◌, length, Bool, true, false, not, ◌&&◌, Option, Some, None, refl, sym, ap, ◌∙◌, subst, arith}
use Rattle.std.specs.Prelude.{◌==◌, slice_get, slice_index_or}
use Rattle.std.proofs.lemmas.Bool.{eq-eqb, ne_eqb}
use Rattle.std.proofs.lemmas.Option.{same_Some, slice_get_within}
use Rattle.sig_program.specs.Scripts.{Program}
use Rattle.sig_model.specs.declared.event.Event.{Event}
use Rattle.sig_model.specs.Running.{Running}
use Rattle.sig_model.specs.OneWorker.{IsClear}
use Rattle.sig_model.specs.Still.{IsStill}
use Rattle.sig_model.specs.Accounts.{went, coming_from}
use Rattle.sig_model.specs.CrewLaw.{IsLawfulCrew}
use Rattle.sig_layout.specs.declared.policy.Policy.{Policy}
use Rattle.sig_layout.specs.Sets.{has}
use Rattle.sig_layout.specs.Sent.{signals}
use Rattle.sig_queue.specs.declared.account.Account.{Account}
use Rattle.sig_queue.specs.Seats.{Queue, Seated}
use Rattle.sig_workers.specs.SeatAccounts.{put_in, put_by, taken_in}
use Rattle.sig_workers.specs.Gone.{Continued, TakesFor}
use Rattle.sig_workers.specs.Parts.{is_in, IsSeat, AreSeats, HasPlace}
use Rattle.sig_workers.specs.Rounds.{NoneMore, IsReceiptOf, IsPassFlag, IsFlag}
use Rattle.sig_workers.specs.Closing.{CanClose, IsClosedAt}
use Rattle.sig_workers.specs.Opening.{IsQueueOf}
use Rattle.sig_workers.proofs.PartLemmas.{in_part}
use Rattle.sig_workers.proofs.OpenLemmas.{in_below, some_at}
use Rattle.sig_workers.proofs.FetchLemmas.{none_strange}
use Rattle.sig_workers.proofs.FreshLemmas.{first_is}
use Rattle.sig_workers.proofs.RoundLaw.{IsClosed, past, went_end, same_process}

-- the joined seats of a crew
module _ (script : Program) (policy : Policy) (crew : List Running) (queues : List Queue) (law : IsLawfulCrew script crew) (clear : IsClear crew) (same : length queues ≡ length crew)
    (each : (p : ℕ) (q : Queue) → slice_get queues p ≡ Some q → IsQueueOf policy crew p q)
    (seats : List Seated) (procs : List Running) (all : length procs ≡ length crew) (a : AreSeats queues 0 (length procs) seats)
    (places : (p : ℕ) (r : Running) → slice_get procs p ≡ Some r → HasPlace queues crew seats p r) where
  in_crew : (p : ℕ) → p < length crew → is_in 0 (length procs) p ≡ true
  in_crew p lt = (let e : 0 + p ≡ p = omega arith in subst (λ z. is_in 0 (length procs) z ≡ true) e (in_part 0 (length procs) p (omega (arith, lt, all))))

  -- each queue may be closed
  pub may_close : (p : ℕ) (q : Queue) (v : Seated) (r : Running) → slice_get queues p ≡ Some q → slice_get seats p ≡ Some v → slice_get procs p ≡ Some r → CanClose q v r
  may_close p q v r at_q at_v at_r =
      let s : IsSeat queues 0 (length procs) p v = a.seat p v at_v in
      let h : HasPlace queues crew seats p r = places p r at_r in
      let k : TakesFor queues p r v = h.ready.takes v at_v in
      let is : k.queue ≡ q = same_Some k.queue q (sym k.here ∙ at_q) in
      record {
        own = k.own ∙ ap (λ (z : Queue). z.id) is;
        role = k.role;
        all = λ z asks. s.senders z ∙ ap (λ n. is_in 0 n z && not (z == p)) all ∙ sym ((each p q at_q).senders z) ∙ asks;
        receiver = ap (λ (z : Queue). z.setup.opening.receiver.0) (sym is) ∙ k.receiver ∙ sym h.ready.pid_is;
        count = ap (λ (z : Queue). z.setup.opening.count) (sym is) ∙ k.count;
        strange = ap (λ z. has q.setup.senders z) h.ready.pid_is ∙ ap (λ (z : Queue). has z.setup.senders p) (sym is) ∙ k.strange;
        continued = subst (λ (z : Queue). Continued z r v) is k.continued;
      }

  module _ (later : List Running) (accounts : List Account) (count : length accounts ≡ length queues) (many : length later ≡ length procs)
      (closed : (p : ℕ) (x : Account) (t : Running) → slice_get accounts p ≡ Some x → slice_get later p ≡ Some t → IsClosedAt queues seats procs p x t) where
    pub as_many : length later ≡ length crew
    as_many = many ∙ all

    pub seats_many : length seats ≡ length crew
    seats_many = a.many ∙ same

    account_at : (p : ℕ) (t : Running) → slice_get later p ≡ Some t → (x : Account) × (slice_get accounts p ≡ Some x)
    account_at p t at = some_at accounts p (let w : p < length later = slice_get_within later p t at in omega (arith, w, as_many, same, count))

    closed_at : (p : ℕ) (t : Running) → slice_get later p ≡ Some t → (x : Account) × (slice_get accounts p ≡ Some x) × IsClosedAt queues seats procs p x t
    closed_at p t at = let x : (y : Account) × (slice_get accounts p ≡ Some y) = account_at p t at in (x.0, x.1, closed p x.0 t x.1 at)

    put_of : (s p : ℕ) (v : Seated) → slice_get seats p ≡ Some v → put_by s p seats ≡ coming_from s (signals v.knows.put)
    put_of s p v at = ap (λ o. put_in s o) at

    pub ends : (p : ℕ) (t : Running) → slice_get later p ≡ Some t → IsClosed queues crew seats p t
    ends p t at =
        let w : (x : Account) × (slice_get accounts p ≡ Some x) × IsClosedAt queues seats procs p x t = closed_at p t at in
        let h : HasPlace queues crew seats p w.2.r = places p w.2.r w.2.process in
        record {
          r = w.2.r;
          place = h;
          rest = w.2.closed.left;
          given = w.2.closed.given;
          keeping = w.2.closed.keeping h.ready.keeping;
          flows = λ s. put_of s p w.2.v w.2.seat ∙ w.2.closed.order s ∙ ap (λ o. coming_from s (taken_in o ++ w.2.closed.left)) (sym w.2.seat);
        }

    -- those that aren't in the crew put nothing
    pub strange_none : (s p : ℕ) → slice_get later s ≡ None → put_by s p seats ≡ []
    strange_none s p none = a.no_put s p (outside s (past later s none))
      where
        outside : (s : ℕ) → length later ≤ s → is_in 0 (length procs) s ≡ false
        outside s le = go (is_in 0 (length procs) s) refl
          where
            go : (b : Bool) → is_in 0 (length procs) s ≡ b → b ≡ false
            go true h = (let lt : s < length procs = in_below (length procs) s true (ap (λ z. z && true) h) in let f : ⊥ = omega (arith, lt, le, many) in absurd f)
            go false h = refl

    -- the receipts
    pub end_receipt : (p : ℕ) (x : Account) → slice_get accounts p ≡ Some x → IsReceiptOf policy crew later p x
    end_receipt p x at =
        let lt : p < length later = (let w : p < length accounts = slice_get_within accounts p x at in omega (arith, w, count, same, as_many)) in
        let t : (y : Running) × (slice_get later p ≡ Some y) = some_at later p lt in
        let c : IsClosedAt queues seats procs p x t.0 = closed p x t.0 at t.1 in
        let q : IsQueueOf policy crew p c.q = each p c.q c.queue in
        let sender : (s : ℕ) → has x.senders s ≡ (is_in 0 (length crew) s && not (s == p)) = λ s. ap (λ (z : Account). has z.senders s) c.closed.account ∙ q.senders s in
        record {
          receiver = ap (λ (z : Account). z.receiver.0) c.closed.account ∙ q.receiver;
          policy_is = ap (λ (z : Account). z.policy) c.closed.account ∙ q.policy_is;
          queue_data_is = λ r at_r. ap (λ (z : Account). z.queue_data) c.closed.account ∙ q.queue_data_is r at_r;
          senders = λ s is. (in_below (length crew) s (not (s == p)) (sym (sender s) ∙ is), λ e. apart s p (is_in 0 (length crew) s) (sym (sender s) ∙ is) e);
          all = λ s b ne. sender s ∙ ap (λ z. z && not (s == p)) (subst (λ n. is_in 0 n s ≡ true) all (in_crew s b)) ∙ ap (λ z. not z) (ne_eqb s p ne);
          first = λ s r at_r. ap (λ (z : Account). slice_index_or z.first s 0) c.closed.account ∙ first_is script policy crew queues law p c.q q (omega (arith, lt, as_many)) s r at_r;
          sent = λ s r u ne at_r at_u.
              let d : IsClosed queues crew seats s u = ends s u at_u in
              let was : d.place.was ≡ r = same_Some d.place.was r (sym d.place.there ∙ at_r) in
              went_end script queues crew later seats law clear as_many seats_many strange_none ends s p u at_u (λ e. ne (sym e))
              ∙ ap (λ (z : Running). went p z ++ put_by s p seats) was
              ∙ ap (λ z. went p r ++ z) (put_of s p c.v c.seat ∙ ap (λ (z : Account). coming_from s (signals z.put)) (sym c.closed.account));
        }
      where
        apart : (s p : ℕ) (b : Bool) → (b && not (s == p)) ≡ true → s ≡ p → ⊥
        apart s p true h e = (let f : not (s == p) ≡ false = ap (λ z. not z) (eq-eqb s p e) in let g : true ≡ false = sym h ∙ f in absurd cc)
        apart s p false h e = cc

    -- no process puts for itself
    own_none : (p : ℕ) → put_by p p seats ≡ []
    own_none p = go (slice_get later p) refl
      where
        go : (o : Option Running) → slice_get later p ≡ o → put_by p p seats ≡ []
        go None none = strange_none p p none
        go (Some t) at =
            let w : (x : Account) × (slice_get accounts p ≡ Some x) × IsClosedAt queues seats procs p x t = closed_at p t at in
            let c : IsClosedAt queues seats procs p w.0 t = w.2 in
            let can : CanClose c.q c.v c.r = may_close p c.q c.v c.r c.queue c.seat c.process in
            let pid : c.r.pid ≡ p = (places p c.r c.process).ready.pid_is in
            put_of p p c.v c.seat ∙ none_strange p c.q (signals c.v.knows.put) (ap (λ z. has c.q.setup.senders z) (sym pid) ∙ can.strange) c.closed.carried

    -- where no process has more events, each is as it was
    module _ (still : (p : ℕ) (t : Running) → slice_get procs p ≡ Some t → (r : Running) × (slice_get crew p ≡ Some r) × (length t.events ≡ length r.events) × IsStill t) where
      none_at : (p : ℕ) (t : Running) (at : slice_get later p ≡ Some t) → length (ends p t at).r.events ≡ length (ends p t at).place.was.events
      unfolding ends closed_at
      none_at p t at =
          let c : IsClosedAt queues seats procs p (closed_at p t at).0 t = (closed_at p t at).2 in
          let s : (r : Running) × (slice_get crew p ≡ Some r) × (length c.r.events ≡ length r.events) × IsStill c.r = still p c.r c.process in
          s.2 ∙ ap (λ (z : Running). length z.events) (same_Some s.0 (ends p t at).place.was (sym s.1 ∙ (ends p t at).place.there))

      process_same : (p : ℕ) (t : Running) (at : slice_get later p ≡ Some t) → (t ≡ (ends p t at).place.was) × (t ≡ (ends p t at).r)
      process_same p t at = same_process script queues crew later seats law clear as_many seats_many strange_none ends none_at own_none p t at

      none_more : NoneMore crew later
      none_more p r t at_r at_t = ap (λ (z : Running). z.events) ((process_same p t at_t).0 ∙ same_Some (ends p t at_t).place.was r (sym (ends p t at_t).place.there ∙ at_r))

      still_end : (p : ℕ) (t : Running) → slice_get later p ≡ Some t → IsStill t
      unfolding ends closed_at
      still_end p t at =
          let c : IsClosedAt queues seats procs p (closed_at p t at).0 t = (closed_at p t at).2 in
          subst IsStill (sym (process_same p t at).1) (still p c.r c.process).3

    some_more : (p : ℕ) (r t : Running) → slice_get crew p ≡ Some r → slice_get procs p ≡ Some t → length r.events < length t.events → NoneMore crew later → ⊥
    some_more p r t at_r at_t lt none =
        let in_later : p < length later = (let w : p < length procs = slice_get_within procs p t at_t in omega (arith, w, many)) in
        let u : (y : Running) × (slice_get later p ≡ Some y) = some_at later p in_later in
        let c : IsClosedAt queues seats procs p (closed_at p u.0 u.1).0 u.0 = (closed_at p u.0 u.1).2 in
        let same_t : c.r ≡ t = same_Some c.r t (sym c.process ∙ at_t) in
        let events : u.0.events ≡ t.events = ap (λ (z : Running). z.events) (c.closed.given ∙ ap (λ (z : Running). record z { taken_in = z.taken_in ++ c.closed.left }) same_t) in
        let e : length t.events ≡ length r.events = ap (λ (z : List Event). length z) (sym events ∙ none p r u.0 at_r u.1) in
        omega (arith, lt, e)

    pub end_flag : (moved : Bool) → IsPassFlag crew procs moved → IsFlag crew later moved
    end_flag true h = some_more h.0 h.1 h.2 h.3 h.4 h.5
    end_flag false h = (none_more h, still_end h)
