-- What the execution of an instruction, and of a receive, leads to.
use Rattle.std.proofs.Common.{◌≡◌, ℕ, ◌+◌, ◌-◌, ◌≤◌, List, length, drop, false, Option, Some, None, refl, sym, ap, ◌∙◌, subst, arith}
use Rattle.std.specs.Prelude.{IsSome, MatchResult, OnOk, Result, Ok, Err, slice_get}
use Rattle.std.specs.Option.{option_map, option_and_then}
use Rattle.std.proofs.lemmas.List.{append-nil}
use Rattle.std.proofs.lemmas.Option.{slice_get-map}
use Rattle.sig_terms.specs.declared.reference.Ref.{Ref}
use Rattle.sig_terms.specs.declared.term.Term.{Term}
use Rattle.sig_patterns.specs.declared.clause.Clause.{Clause}
use Rattle.sig_patterns.specs.declared.found.Found.{Found}
use Rattle.sig_patterns.specs.Inbox.{terms_of, start_of}
use Rattle.sig_patterns.specs.Matching.{match_of}
use Rattle.sig_patterns.specs.Scanning.{Hit, takes, places_of}
use Rattle.sig_patterns.proofs.HitLemmas.{IsByClause, hit_message, hit_clause}
use Rattle.sig_patterns.proofs.Taking.{takes_match}
use Rattle.sig_inner.specs.declared.last_scan.LastScan.TheVariants as last
use Rattle.sig_inner.specs.InnerQueue.{InnerQueue, InnerTable, found_message}
use Rattle.sig_inner.specs.Receiving.{scanned, left_by, after_scan, is_saved}
use Rattle.sig_program.specs.declared.instruction.Instr.TheVariants as instr
use Rattle.sig_program.specs.declared.instruction.After.{After}
use Rattle.sig_program.specs.declared.instruction.Receiving.{Receiving}
use Rattle.sig_program.specs.Scripts.{Declared}
use Rattle.sig_runs.specs.Rules.{Effect}
use Rattle.sig_kinds.specs.declared.signal.Signal.{Signal}
use Rattle.sig_model.specs.declared.event.Event.{Event}
use Rattle.sig_model.specs.declared.event.Outcome.TheVariants as outcome
use Rattle.sig_model.specs.ProcessState.{ProcessState}
use Rattle.sig_model.specs.Bodies.{Body, place_after, going_on}
use Rattle.sig_model.specs.Executing.{using_ref, from_mark, marked_start, hit_from, taking, receiving, exec_body}
use Rattle.sig_model.specs.Finishing.{finished_exec}
use Rattle.sig_model.specs.Machine.{execution}
use Rattle.sig_process.specs.declared.progress.Progress.{Progress}
use Rattle.sig_process.specs.Progressing.{state_of, IsSameButRoom, HasAdvanced}
use Rattle.sig_process.specs.Committing.{HasTaken, env_found}
use Rattle.sig_process.specs.Executions.{IsHit, IsSameButRoomAndPlace, HasExecuted}
use Rattle.sig_process.proofs.Lists.{slice_get-drop}
use Rattle.sig_process.proofs.DueLemmas.{execution_here}

-- an instruction that was planned
pub performed : {T E : Type 0} (o : Result T E) (pid : ℕ) (proc : Declared) (before after : Progress) (body : Body) →
    exec_body from_mark proc (state_of before) (slice_get proc.instrs (before.counts.place - 1)) ≡ Some body →
    MatchResult o (λ _. HasAdvanced pid before after (finished_exec pid (state_of before) body)) (λ _. IsSameButRoom before after) → OnOk o (is_saved after.tables.inner.queue.last ≡ false) →
    MatchResult o (λ _. HasExecuted pid proc before after) (λ _. IsSameButRoom before after)
performed (Ok _) pid proc before after body e advanced unsaved =
    record { effect = finished_exec pid (state_of before) body; due = execution_here proc before pid body e; advanced = advanced; unsaved = unsaved }
performed (Err _) pid proc before after body e same unsaved = same

-- the hit of the last scan
module _ (clauses : List Clause) (p : Progress) (number count start : ℕ) (hit : Hit) (h : IsHit clauses p number count start hit) where
  abbrev ahead : List Term
  ahead = drop start (terms_of p.tables.inner.queue.inbox.messages)

  -- the message at its place
  message_at : slice_get (terms_of p.tables.inner.queue.inbox.messages) (start + hit.at) ≡ Some hit.message
  message_at = slice_get-drop (terms_of p.tables.inner.queue.inbox.messages) start hit.at ∙ hit_message p.tables.env clauses ahead hit h.is

  -- the message
  pub message_is : found_message p.tables.inner.queue ≡ Some hit.message
  message_is = rw h.left (sym (slice_get-map (λ (m : ℕ × Term). m.1) p.tables.inner.queue.inbox.messages (start + hit.at)) ∙ message_at)

  by_clause : IsByClause clauses p.tables.env hit
  by_clause = hit_clause p.tables.env clauses ahead hit h.is

  place_is : number - 1 ≡ hit.clause
  place_is = omega (arith, h.clause)

  -- there is its clause
  pub clause_there : slice_get clauses (number - 1) ≡ None → ⊥
  clause_there none = let no : ◌≡◌ {A = Option Clause} None (Some by_clause.0) = sym none ∙ ap (slice_get clauses) place_is ∙ by_clause.1.0 in cc

  module _ (chosen : Clause) (there : slice_get clauses (number - 1) ≡ Some chosen) where
    chosen_is : by_clause.0 ≡ chosen
    chosen_is = let same : Some by_clause.0 ≡ Some chosen = sym by_clause.1.0 ∙ ap (slice_get clauses) (sym place_is) ∙ there in cc

    chosen_binds : match_of chosen.pattern p.tables.env hit.message ≡ Some hit.env
    chosen_binds = takes_match chosen p.tables.env hit.message hit.env (subst (λ (c : Clause). takes c p.tables.env hit.message ≡ Some hit.env) chosen_is by_clause.1.2)

    chosen_goes : hit.target ≡ chosen.target
    chosen_goes = by_clause.1.1 ∙ ap (λ (c : Clause). c.target) chosen_is

    -- the clause matches it
    pub chosen_matches : IsSome (env_found chosen.pattern p)
    chosen_matches = rw (message_is, chosen_binds) refl

    -- it is taken
    module _ (pid place : ℕ) (proc : Declared) (after : Progress) (goes : place ≡ place_after proc.labels chosen.target p.counts.place) where
      taken_by : HasTaken place number count p after chosen.pattern → HasAdvanced pid p after (finished_exec pid (state_of p) (taking proc (state_of p) start (start + hit.at) hit))
      taken_by t =
          let message : t.message ≡ hit.message =
          let same : Some t.message ≡ Some hit.message = sym t.found ∙ message_is in cc in
          let env : after.tables.env ≡ hit.env =
          let same : Some after.tables.env ≡ Some hit.env = sym t.bound ∙ ap (option_and_then (match_of chosen.pattern p.tables.env)) message_is ∙ chosen_binds in cc in
          let looked : count ≡ start + hit.at + 1 - start = omega (arith, h.looked) in
          record {
            state = ap state_of t.rest ∙ rw (env, t.queue, h.left, goes, chosen_goes) refl;
            owner = rw (t.queue, h.left) refl;
            events = ap (λ (q : Progress). q.events) t.rest ∙ rw (h.clause, looked, message) refl;
            handled = ap (λ (q : Progress). q.handled.items) t.rest;
            own = ap (λ (q : Progress). q.own.items) t.rest ∙ sym (append-nil p.own.items);
            taken_in = ap (λ (q : Progress). q.taken_in.items) t.rest;
            outbox = ap (λ (q : Progress). q.outbox.items) t.rest ∙ sym (append-nil p.outbox.items);
          }

      pub taken_found : {T E : Type 0} (o : Result T E) → MatchResult o (λ _. HasTaken place number count p after chosen.pattern) (λ _. after ≡ p) →
          OnOk o (HasAdvanced pid p after (finished_exec pid (state_of p) (taking proc (state_of p) start (start + hit.at) hit)))
      taken_found (Ok _) t = taken_by t
      taken_found (Err _) t = tt

-- the process with other messages
abbrev pub with_inner : Progress → InnerTable → Progress
with_inner p inner = record p { tables = record p.tables { inner = inner } }

-- a scan moves nothing
pub scan_unmoved : (p : Progress) (inner : InnerTable) (start : ℕ) (found : Option Found) → inner.queue ≡ after_scan p.tables.inner.queue start found → IsSameButRoomAndPlace p (with_inner p inner)
scan_unmoved p inner start found e = record {
  state = rw e refl;
  owner = rw e refl;
  events = refl;
  handled = refl;
  own = refl;
  taken_in = refl;
  outbox = refl;
}

pub moved_on : (pid : ℕ) (before mid after : Progress) (e : Effect ProcessState Signal Event) → IsSameButRoomAndPlace before mid → HasAdvanced pid mid after e → HasAdvanced pid before after e
moved_on pid before mid after e u a = record {
  state = a.state;
  owner = a.owner ∙ u.owner;
  events = rw (a.events, u.events) refl;
  handled = a.handled ∙ u.handled;
  own = rw (a.own, u.own) refl;
  taken_in = a.taken_in ∙ u.taken_in;
  outbox = rw (a.outbox, u.outbox) refl;
}

-- a receive
module _ (proc : Declared) (receive : Receiving) (p : Progress) (inner : InnerTable) (r : Option Ref) (named : r ≡ using_ref p.tables.env receive.using) where
  abbrev queue : InnerQueue
  queue = p.tables.inner.queue

  abbrev start : ℕ
  start = start_of queue.inbox r

  abbrev found : Option Found
  found = scanned queue start receive.clauses p.tables.env

  module _ (left : inner.queue ≡ after_scan queue start found) (here : slice_get proc.instrs (p.counts.place - 1) ≡ Some (instr.Receive receive)) where
    abbrev mid : Progress
    mid = with_inner p inner

    pub unmoved : IsSameButRoomAndPlace p mid
    unmoved = scan_unmoved p inner start found left

    -- what the scan finds is what the row says
    abbrev row : ProcessState → ℕ → Option Body
    row s n = receiving proc s receive.after n n (hit_from n receive.clauses s)

    row_is : exec_body from_mark proc (state_of mid) (Some (instr.Receive receive)) ≡ row (state_of mid) start
    row_is = ap (λ (s : ProcessState). row (state_of mid) (marked_start s receive.using)) unmoved.state ∙ ap (λ (o : Option Ref). row (state_of mid) (start_of queue.inbox o)) (sym named)

    executed_by : (pid : ℕ) (next : Progress) (body : Body) → row (state_of mid) start ≡ Some body →
        HasAdvanced pid mid next (finished_exec pid (state_of mid) body) → is_saved next.tables.inner.queue.last ≡ false → HasExecuted pid proc p next
    executed_by pid next body e advanced unsaved = record {
      effect = finished_exec pid (state_of mid) body;
      due = sym (ap (λ (s : ProcessState). execution pid proc s) unmoved.state) ∙ execution_here proc mid pid body (ap (exec_body from_mark proc (state_of mid)) here ∙ row_is ∙ e);
      advanced = moved_on pid p mid next (finished_exec pid (state_of mid) body) unmoved advanced;
      unsaved = unsaved;
    }

    hit_same : hit_from start receive.clauses (state_of mid) ≡ hit_from start receive.clauses (state_of p)
    hit_same = ap (hit_from start receive.clauses) unmoved.state

    no_hit : (o : Option Hit) → option_map places_of o ≡ None → o ≡ None
    no_hit None e = refl
    no_hit (Some h) e = cc

    pub hit_none : found ≡ None → hit_from start receive.clauses (state_of mid) ≡ None
    hit_none e = hit_same ∙ no_hit (hit_from start receive.clauses (state_of p)) e

    -- the hit of what was found
    a_hit : (o : Option Hit) (f : Found) → option_map places_of o ≡ Some f → (h : Hit) × (o ≡ Some h) × (places_of h ≡ f)
    a_hit None f e = cc
    a_hit (Some h) f e = (h, refl, cc)

    pub hit_is : (number count : ℕ) → found ≡ Some (record { at = count - 1; clause = number - 1 }) → 1 ≤ number → 1 ≤ count → (h : Hit) × IsHit receive.clauses mid number count start h
    hit_is number count e numbered counted =
        let w : (h : Hit) × (hit_from start receive.clauses (state_of p) ≡ Some h) × (places_of h ≡ record { at = count - 1; clause = number - 1 }) =
        a_hit (hit_from start receive.clauses (state_of p)) (record { at = count - 1; clause = number - 1 }) e in
        let at : w.0.at ≡ count - 1 = ap (λ (f : Found). f.at) w.2 in
        let clause : w.0.clause ≡ number - 1 = ap (λ (f : Found). f.clause) w.2 in (
          w.0,
          record {
            is = hit_same ∙ w.1;
            left = ap (λ (q : InnerQueue). q.last) left ∙ ap (left_by queue start) e ∙ ap (λ (n : ℕ). last.Found (start + n)) (sym at);
            clause = omega (arith, clause, numbered);
            looked = omega (arith, at, counted);
          },
        )

    -- it takes a message
    pub takes_one : (pid number count : ℕ) (next : Progress) (h : Hit) → IsHit receive.clauses mid number count start h →
        HasAdvanced pid mid next (finished_exec pid (state_of mid) (taking proc (state_of mid) start (start + h.at) h)) →
        is_saved next.tables.inner.queue.last ≡ false → HasExecuted pid proc p next
    takes_one pid number count next h is advanced unsaved =
        executed_by pid next (taking proc (state_of mid) start (start + h.at) h) (ap (receiving proc (state_of mid) receive.after start start) is.is) advanced unsaved

    -- it goes on with `after`
    pub goes_by : (pid : ℕ) (next : Progress) (target : After) (looked : ℕ) → receive.after ≡ Some target → found ≡ None → looked ≡ length queue.inbox.messages - start →
        HasAdvanced pid mid next (finished_exec pid (state_of mid) (going_on (state_of mid) (place_after proc.labels target.target p.counts.place) (outcome.After looked))) →
        is_saved next.tables.inner.queue.last ≡ false → HasExecuted pid proc p next
    goes_by pid next target looked some none count advanced unsaved =
        executed_by pid next (going_on (state_of mid) (place_after proc.labels target.target p.counts.place) (outcome.After looked)) (rw (some, hit_none none, left, count) refl) advanced unsaved
