-- What an execution leaves, from what its steps leave.
use Rattle.std.proofs.Common.{◌≡◌, ℕ, ◌+◌, List, ◌++◌, map, Bool, true, false, Option, Some, None, refl, sym, ap, ◌∙◌, subst}
use Rattle.sig_kinds.specs.declared.signal.Signal.{Signal}
use Rattle.std.specs.Prelude.{MatchResult, Result, Ok, Err}
use Rattle.std.specs.Option.{option_map_or}
use Rattle.std.proofs.lemmas.Bool.{cond_both}
use Rattle.sig_terms.specs.declared.reference.Ref.{Ref}
use Rattle.sig_patterns.specs.declared.mark.Reserve.{Reserve}
use Rattle.sig_patterns.specs.declared.pattern.Pattern.{Pattern}
use Rattle.sig_patterns.specs.Inbox.{Inbox, is_made_since, bound_in, cleared_in}
use Rattle.sig_patterns.specs.Inbox.{bound_by as rule_of}
use Rattle.sig_patterns.proofs.MarkLemmas.{cleared_none}
use Rattle.sig_inner.specs.InnerQueue.{InnerQueue, marked_by, cleared}
use Rattle.sig_inner.specs.InnerQueue.{bound as bound_queue}
use Rattle.sig_model.specs.declared.event.Event.{Event}
use Rattle.sig_model.specs.declared.event.Outcome.{Outcome}
use Rattle.sig_model.specs.ProcessState.{ProcessState, Post}
use Rattle.sig_model.specs.Finishing.{numbered, finished_exec}
use Rattle.sig_model.specs.Running.{to_itself, to_others}
use Rattle.sig_process.specs.declared.changing.Growing.{Growing}
use Rattle.sig_process.specs.declared.plan.Binding.{Binding}
use Rattle.sig_process.specs.declared.plan.Outgoing.{Outgoing}
use Rattle.sig_process.specs.declared.plan.Execution.{Execution}
use Rattle.sig_process.specs.declared.progress.Progress.{Progress}
use Rattle.sig_process.specs.Plans.{outgoing_of, post_of, bound, inbox_by, changed, after_obeying, executed_body}
use Rattle.sig_process.specs.Committing.{HasBound, HasTaken, IsCommittable, gone_on}
use Rattle.sig_process.specs.Progressing.{state_of, IsSameButRoom, HasAdvanced}

-- the messages and markers after the rules of the inner queue
marked : (q : InnerQueue) (answer : Bool × Inbox) → (answer.0 ≡ false → answer.1 ≡ q.inbox) → ((marked_by q answer).inbox ≡ answer.1) × ((marked_by q answer).owner ≡ q.owner)
marked q (true, inbox) same = (refl, refl)
marked q (false, inbox) same = (sym (same refl), refl)

bound_none : (owner : ℕ) (inbox : Inbox) (r : Ref) (o : Option Reserve) → (option_map_or {U = Bool × Inbox} (rule_of owner inbox r) o (false, inbox)).0 ≡ false
    → (option_map_or {U = Bool × Inbox} (rule_of owner inbox r) o (false, inbox)).1 ≡ inbox
bound_none owner inbox r None e = refl
bound_none owner inbox r (Some reserve) e = cond_both (is_made_since owner reserve r) _ _ (λ (answer : Bool × Inbox). answer.0 ≡ false → answer.1 ≡ inbox) (λ f g. cc) (λ f g. refl) e

pub bound_so : (q : InnerQueue) (r : Ref) → ((bound_queue q r).inbox ≡ (bound_in q.owner q.inbox r).1) × ((bound_queue q r).owner ≡ q.owner)
bound_so q r = marked q (bound_in q.owner q.inbox r) (bound_none q.owner q.inbox r q.inbox.reserve)

pub cleared_so : (q : InnerQueue) (r : Ref) → ((cleared q r).inbox ≡ (cleared_in q.inbox r).1) × ((cleared q r).owner ≡ q.owner)
cleared_so q r = marked q (cleared_in q.inbox r) (cleared_none q.inbox r)

-- no count is at its end, where a variable is bound
pub bound_committable : (posts : List Outgoing) (b : Binding) (old bound_one : Progress) → state_of bound_one ≡ bound (state_of old) b → IsCommittable posts old → IsCommittable posts bound_one
bound_committable posts b old bound_one is k = record {
  stamp = rw (ap (λ (s : ProcessState). s.counts.stamp) is) k.stamp;
  arrivals = rw (ap (λ (s : ProcessState). s.tables.inbox.next_arrival) is) k.arrivals;
  ids = rw (ap (λ (s : ProcessState). s.tables.links.next_id) is) k.ids;
  numbers = rw (ap (λ (s : ProcessState). s.counts.next_numbers) is) k.numbers;
}

module _ (pid : ℕ) (x : Execution) (old bound_one gone after : Progress) where
  abbrev posts : List Post
  posts = map post_of (outgoing_of x.plan.posts)

  abbrev stamp : ℕ
  stamp = old.counts.stamp + 1

  -- the signals are sent, and the changes made
  pub record HasGoneOn : Type 0 where
    pub state : state_of gone ≡ gone_on (changed (after_obeying (state_of bound_one) x.plan.obeyed) x.plan.change) stamp bound_one.counts.next_numbers posts
    pub executed : gone.counts.executed ≡ bound_one.counts.executed
    pub owner : gone.tables.inner.queue.owner ≡ bound_one.tables.inner.queue.owner
    pub events : gone.events ≡ bound_one.events
    pub handled : gone.handled ≡ bound_one.handled
    pub own : gone.own.items ≡ bound_one.own.items ++ to_itself pid (numbered pid stamp bound_one.counts.next_numbers posts)
    pub taken_in : gone.taken_in ≡ bound_one.taken_in
    pub outbox : gone.outbox.items ≡ bound_one.outbox.items ++ to_others pid (numbered pid stamp bound_one.counts.next_numbers posts)

  -- the messages and markers are changed, and what a scan left is forgotten
  pub record HasArranged : Type 0 where
    pub inbox : after.tables.inner.queue.inbox ≡ inbox_by gone.tables.inner.queue.owner gone.tables.inner.queue.inbox x.inbox
    pub owner : after.tables.inner.queue.owner ≡ gone.tables.inner.queue.owner
    pub rest : after ≡ record gone { tables = record gone.tables { inner = after.tables.inner }; counts = record gone.counts { place = x.place; executed = gone.counts.executed + 1 } }

  module _ {n : ℕ} {w : Growing} (b : HasBound n w x.binding old bound_one x.plan.outcome) (g : HasGoneOn) (f : HasArranged) (own : old.tables.inner.queue.owner ≡ old.tables.watch.watch.owner) where
    same_numbers : bound_one.counts.next_numbers ≡ old.counts.next_numbers
    same_numbers = ap (λ (s : ProcessState). s.counts.next_numbers) b.state

    same_executed : gone.counts.executed ≡ old.counts.executed
    same_executed = g.executed ∙ ap (λ (s : ProcessState). s.counts.executed) b.state

    same_owner : gone.tables.inner.queue.owner ≡ old.tables.inner.queue.owner
    same_owner = g.owner ∙ ap (λ (q : InnerQueue). q.owner) b.queue

    same_inbox : after.tables.inner.queue.inbox ≡ inbox_by old.tables.watch.watch.owner gone.tables.inner.queue.inbox x.inbox
    same_inbox = f.inbox ∙ ap (λ (n : ℕ). inbox_by n gone.tables.inner.queue.inbox x.inbox) (same_owner ∙ own)

    -- the state with its messages and markers, at the place
    abbrev settled : ProcessState → ℕ → ProcessState
    settled s executed = record s { tables = record s.tables { inbox = inbox_by old.tables.watch.watch.owner s.tables.inbox x.inbox }; counts = record s.counts { place = x.place; executed = executed + 1 } }

    abbrev with_inbox : Inbox → ProcessState
    with_inbox inbox = record (state_of gone) { tables = record (state_of gone).tables { inbox = inbox }; counts = record (state_of gone).counts { place = x.place; executed = gone.counts.executed + 1 } }

    state_is : state_of after ≡ (finished_exec pid (state_of old) (executed_body (state_of old) x)).state
    state_is =
        let s : ProcessState = bound (state_of old) x.binding in
        let all : ProcessState → List ℕ → ProcessState = λ s numbers. gone_on (changed (after_obeying s x.plan.obeyed) x.plan.change) stamp numbers posts in
        ap state_of f.rest
        ∙ ap with_inbox same_inbox
        ∙ ap (settled (state_of gone)) same_executed
        ∙ ap (λ (t : ProcessState). settled t old.counts.executed) (g.state ∙ ap (λ t. all t bound_one.counts.next_numbers) b.state ∙ ap (all s) same_numbers)

    sent_from : (field : Progress → List Signal) (part : List Signal → List Signal) → field gone ≡ field bound_one ++ part (numbered pid stamp bound_one.counts.next_numbers posts) →
        field bound_one ≡ field old → field after ≡ field gone → field after ≡ field old ++ part (numbered pid stamp old.counts.next_numbers posts)
    sent_from field part e same rest =
        rest ∙ e ∙ ap (λ (l : List Signal). l ++ part (numbered pid stamp bound_one.counts.next_numbers posts)) same
        ∙ ap (λ (numbers : List ℕ). field old ++ part (numbered pid stamp numbers posts)) same_numbers

    pub executed_so : HasAdvanced pid old after (finished_exec pid (state_of old) (executed_body (state_of old) x))
    executed_so = record {
      state = state_is;
      owner = f.owner ∙ same_owner;
      events = ap (λ (p : Progress). p.events) f.rest ∙ g.events ∙ b.events;
      handled = ap (λ (p : Progress). p.handled.items) f.rest ∙ ap (λ l. l.items) g.handled ∙ b.handled;
      own = sent_from (λ p. p.own.items) (to_itself pid) g.own b.own (ap (λ (p : Progress). p.own.items) f.rest);
      taken_in = ap (λ (p : Progress). p.taken_in.items) f.rest ∙ ap (λ l. l.items) g.taken_in ∙ b.taken_in;
      outbox = sent_from (λ p. p.outbox.items) (to_others pid) g.outbox b.outbox (ap (λ (p : Progress). p.outbox.items) f.rest);
    }

-- what the begin of an execution leaves, where the events lay beside the process
pub begun_beside : {T E : Type 0} (o : Result T E) (n : ℕ) (w : Growing) (b : Binding) (how : Outcome) (p q : Progress) (none all more list : List Event) →
    MatchResult o (λ _. HasBound n w b (record p { events = all }) (record q { events = more }) how) (λ _. IsSameButRoom (record p { events = none }) q × (more ≡ all)) →
    all ≡ p.events → list ≡ more → MatchResult o (λ _. HasBound n w b p (record q { events = list }) how) (λ _. IsSameButRoom p (record q { events = list }))
begun_beside (Ok _) n w b how p q none all more list h was now =
    subst (λ (es : List Event). HasBound n w b (record p { events = es }) (record q { events = list }) how) was
    (subst (λ (es : List Event). HasBound n w b (record p { events = all }) (record q { events = es }) how) (sym now) h)
begun_beside (Err _) n w b how p q none all more list h was now = record {
  state = h.0.state;
  queue = h.0.queue;
  events = now ∙ h.1 ∙ was;
  handled = h.0.handled;
  own = h.0.own;
  taken_in = h.0.taken_in;
  outbox = h.0.outbox;
}

-- what a message that is taken leaves, where the events lay beside the process
pub taken_beside : {T E : Type 0} (o : Result T E) (place clause looked : ℕ) (pattern : Pattern) (p q : Progress) (none all more list : List Event) →
    MatchResult o (λ _. HasTaken place clause looked (record p { events = all }) (record q { events = more }) pattern) (λ _. (q ≡ record p { events = none }) × (more ≡ all)) →
    all ≡ p.events → list ≡ more → MatchResult o (λ _. HasTaken place clause looked p (record q { events = list }) pattern) (λ _. record q { events = list } ≡ p)
taken_beside (Ok _) place clause looked pattern p q none all more list h was now =
    subst (λ (es : List Event). HasTaken place clause looked (record p { events = es }) (record q { events = list }) pattern) was
    (subst (λ (es : List Event). HasTaken place clause looked (record p { events = all }) (record q { events = es }) pattern) (sym now) h)
taken_beside (Err _) place clause looked pattern p q none all more list h was now =
    ap (λ (z : Progress). record z { events = list }) h.0 ∙ ap (λ (es : List Event). record p { events = es }) (now ∙ h.1 ∙ was)
