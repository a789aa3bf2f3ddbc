-- Each event keeps that every two processes agree on their link, and so they do at the end of every run.
use Rattle.std.proofs.Common.{◌≡◌, ◌≢◌, ℕ, ◌+◌, ◌<◌, ◌≤◌, max, Bool, true, false, cond, ◌==◌, List, [], ◌∷◌, ◌++◌, All, IfSome, Option, Some, None, slice_get, refl, sym, ap, ◌∙◌, subst, inl, inr, ⊎_elim, arith, append_assoc}
use Rattle.std.specs.Prelude.{length, slice_index}
use Rattle.std.specs.Option.{option_map}
use Rattle.std.proofs.lemmas.Bool.{both_ways, eq-eqb, ne_eqb}
use Rattle.std.proofs.lemmas.List.Elements.{All-nil}
use Rattle.std.proofs.lemmas.Option.{MatchOption-at_some, none-some}
use Rattle.sig_kinds.specs.declared.signal.Signal.{Signal}
use Rattle.sig_kinds.specs.LinkRules.{unlinked}
use Rattle.sig_program.specs.Scripts.{Declared, Program}
use Rattle.sig_runs.specs.Rules.{Effect, Rules, addressed}
use Rattle.sig_runs.specs.Machine.{Machine, At, IsRun}
use Rattle.sig_runs.specs.Crew.{opening_machine}
use Rattle.sig_runs.specs.Marks.{by_whole}
use Rattle.sig_runs.specs.PairFacts.{AreSymmetric, HoldOfPairs, KeepSenders, FirstKeeps}
use Rattle.sig_runs.specs.Settled.{HasNoSignal, IsLate, IsAtRest, IsSettled}
use Rattle.sig_runs.proofs.PairFacts.{symmetric_keeps, run_keeps_pairs}
use Rattle.sig_model.specs.declared.event.Event.{Event}
use Rattle.sig_model.specs.declared.event.Did.{Did}
use Rattle.sig_model.specs.declared.event.Did.TheVariants as did
use Rattle.sig_model.specs.declared.state.TheConstants.{LAST_STAMP}
use Rattle.sig_model.specs.ProcessState.{ProcessState, Post, is_cut, opening_state}
use Rattle.sig_model.specs.Bodies.{Body}
use Rattle.sig_model.specs.Executing.{from_mark, from_oldest, executing, executing_whole}
use Rattle.sig_model.specs.LinkPair.{Word, Side, side_of, AreAgreed}
use Rattle.sig_model.specs.Handling.{handling, words_if}
use Rattle.sig_model.specs.Finishing.{drawn, numbered, finished, finished_exec}
use Rattle.sig_model.specs.Machine.{execution_of, rules_with, rules_of, opening_of}
use Rattle.sig_model.specs.Marking.{execution_whole_of, whole_of}
use Rattle.sig_model.proofs.Lookups.{mapped_tells}
use Rattle.sig_model.proofs.StampLemmas.{numbered_sent}
use Rattle.sig_model.proofs.MarkerLemmas.{opened_state}
use Rattle.sig_model.proofs.SideLemmas.{sided, opening_side}
use Rattle.sig_model.proofs.LinkMoves.{words_to, Moves}
use Rattle.sig_model.proofs.BodyLemmas.{LinkPart}
use Rattle.sig_model.proofs.ExecutingLemmas.{next_links}
use Rattle.sig_model.proofs.HandlingLemmas.{alive_still, handling_links, handling_alive, words_to_others}
use Rattle.sig_linklaw.specs.LinkLaw.{words_of, IsOneLink, one_link, IsGoing, AreOfOneMind}
use Rattle.sig_linklaw.proofs.PairLemmas.{agreed_back, agreed_start, agreed_after, AreAtRest, agreed_rest}

-- the words of the signals in a list of two parts
words-append : (xs ys : List Signal) → words_of (xs ++ ys) ≡ words_of xs ++ words_of ys
words-append [] ys = refl
words-append (x ∷ xs) ys = ap (λ ws. words_if true x.kind ++ ws) (words-append xs ys) ∙ sym (append_assoc (words_if true x.kind) (words_of xs) (words_of ys))

module _ (turns : ℕ) (part : ℕ → Option Declared) where
  module _ (pid stamp peer : ℕ) where
    one_sent : (b : Bool) (x : Signal) (rest : List Signal) (ws : List Word) → words_of rest ≡ ws → words_of (cond b (x ∷ rest) rest) ≡ words_if b x.kind ++ ws
    one_sent true x rest ws e = ap (λ z. words_if true x.kind ++ z) e
    one_sent false x rest ws e = e ∙ ap (λ z. z ++ ws) (sym (words_to_others x.kind))

    -- what goes to the peer is what the signals to it tell
    words_sent : (numbers : List ℕ) (posts : List Post) → words_of (addressed (rules_with turns part) peer (numbered pid stamp numbers posts)) ≡ words_to peer posts
    unfolding rules_with
    words_sent numbers [] = refl
    words_sent numbers (p ∷ ps) =
        one_sent (p.to == peer) (record { from = record { 0 = pid }; to = record { 0 = p.to }; number = slice_index numbers p.to; stamp = stamp; kind = p.kind })
        (addressed (rules_with turns part) peer (numbered pid stamp (drawn numbers p.to) ps)) (words_to peer ps) (words_sent (drawn numbers p.to) ps)

  -- the two, after an event of p that hears these words of q
  agreed_pair : (p q : ℕ) (s t : ProcessState) (executed stamp : ℕ) (what : Did) (b : Body) (out back : List Signal) (ws : List Word)
      → Moves ws (side_of s.tables.links q) s.tables.links.next_id (side_of b.state.tables.links q) b.state.tables.links.next_id (words_to q b.posts)
      → AreAgreed (side_of s.tables.links q) (side_of t.tables.links p) s.tables.links.next_id t.tables.links.next_id (words_of out) (ws ++ words_of back)
      → AreAgreed (side_of b.state.tables.links q) (side_of t.tables.links p) b.state.tables.links.next_id t.tables.links.next_id
      (words_of (out ++ addressed (rules_with turns part) q (finished p s executed stamp what b).sends)) (words_of back)
  agreed_pair p q s t executed stamp what b out back ws moves h =
      let sent : List Signal = addressed (rules_with turns part) q (numbered p stamp s.counts.next_numbers b.posts) in
      subst (λ words. AreAgreed (side_of b.state.tables.links q) (side_of t.tables.links p) b.state.tables.links.next_id t.tables.links.next_id words (words_of back))
      (ap (λ words. words_of out ++ words) (sym (words_sent p stamp q s.counts.next_numbers b.posts)) ∙ sym (words-append out sent))
      (agreed_after (side_of s.tables.links q) (side_of t.tables.links p) (side_of b.state.tables.links q) s.tables.links.next_id t.tables.links.next_id b.state.tables.links.next_id
      (words_of out) (words_to q b.posts) ws (words_of back) moves h)

-- an execution: what an instruction does, by the rules of the links
pub record IsDone (p : ℕ) (s : ProcessState) (effect : Effect ProcessState Signal Event) : Type 0 where
  pub body : Body
  pub links : LinkPart None s body
  pub is : finished_exec p s body ≡ effect

-- the executions of a process, from the mark and over all messages
done_by : (p : ℕ) (s : ProcessState) (o : Option Body) → IfSome o (LinkPart None s) → (effect : Effect ProcessState Signal Event) → option_map (finished_exec p s) o ≡ Some effect → IsDone p s effect
done_by p s o all effect e =
    let w : (body : Body) × (o ≡ Some body) × (finished_exec p s body ≡ effect) = mapped_tells (finished_exec p s) o effect e in
    record { body = w.0; links = MatchOption-at_some (Unit {0}) (LinkPart None s) w.0 w.1 all; is = w.2 }

done_marked : (p : ℕ) (o : Option Declared) (s : ProcessState) (effect : Effect ProcessState Signal Event) → execution_of p o s ≡ Some effect → IsDone p s effect
unfolding executing
done_marked p None s effect e = absurd (none-some effect e)
done_marked p (Some d) s effect e = done_by p s (executing d s) (next_links from_mark d s) effect e

done_whole : (p : ℕ) (o : Option Declared) (s : ProcessState) (effect : Effect ProcessState Signal Event) → execution_whole_of p o s ≡ Some effect → IsDone p s effect
unfolding executing_whole
done_whole p None s effect e = absurd (none-some effect e)
done_whole p (Some d) s effect e = done_by p s (executing_whole d s) (next_links from_oldest d s) effect e

-- the same link seen from the other process
link_symmetric : AreSymmetric one_link
link_symmetric p q s t out back h lives alive =
    agreed_back (side_of s.tables.links q) (side_of t.tables.links p) s.tables.links.next_id t.tables.links.next_id (words_of out) (words_of back) (h alive lives)

module _ (turns : ℕ) (part : ℕ → Option Declared) (exec : ℕ → ProcessState → Option (Effect ProcessState Signal Event)) (done : (p : ℕ) (s : ProcessState) (effect : Effect ProcessState Signal Event) → exec p s ≡ Some effect → IsDone p s effect) where
  abbrev rules : Rules ProcessState Signal Event
  rules = by_whole (rules_with turns part) exec

  from_sender : KeepSenders rules
  unfolding rules_with
  from_sender = record {
    executed = λ p s effect e. let b : IsDone p s effect = done p s effect e in
        subst (λ (f : Effect ProcessState Signal Event). All (λ (x : Signal). x.from.0 ≡ p) f.sends) b.is
        (λ i d lt. (numbered_sent p (s.counts.stamp + 1) s.counts.next_numbers b.body.posts i d lt).0);
    handled = λ p s x i d lt. (numbered_sent p (max s.counts.stamp x.stamp + 1) s.counts.next_numbers (handling p s x).posts i d lt).0;
  }

  -- p handles a signal, of which q says so much
  handled_link : (p q : ℕ) (s t : ProcessState) (x : Signal) (out back : List Signal) (c : Bool) → (x.from.0 == q) ≡ c
      → (s.tables.end ≡ None → t.tables.end ≡ None →
      AreAgreed (side_of s.tables.links q) (side_of t.tables.links p) s.tables.links.next_id t.tables.links.next_id (words_of out) (words_if c x.kind ++ words_of back))
      → IsOneLink p q (rules.handle p s x).state t (out ++ addressed rules q (rules.handle p s x).sends) back
  unfolding rules_with
  handled_link p q s t x out back c is h alive lives =
      let b : Body = handling p s x in
      agreed_pair turns part p q s t s.counts.executed (max s.counts.stamp x.stamp + 1) (did.From x.from x.number) b out back (words_if c x.kind)
      (subst (λ z. Moves (words_if z x.kind) (side_of s.tables.links q) s.tables.links.next_id (side_of b.state.tables.links q) b.state.tables.links.next_id (words_to q b.posts)) is
      (handling_links p s x alive q))
      (h (handling_alive p s x alive) lives)

  link_kept : FirstKeeps one_link rules
  unfolding rules_with
  link_kept = record {
    executed = λ p q s t out back effect going e h.
        let b : IsDone p s effect = done p s effect e in
        subst (λ (f : Effect ProcessState Signal Event). IsOneLink p q f.state t (out ++ addressed rules q f.sends) back) b.is
        (λ alive lives.
        agreed_pair turns part p q s t (s.counts.executed + 1) (s.counts.stamp + 1) (did.Exec s.counts.place) b.body out back [] (b.links alive q)
        (h (alive_still s.tables.end going) lives));
    handled = λ p q s t x out back from h. handled_link p q s t x out back true (eq-eqb x.from.0 q from) h;
    handled_other = λ p q s t x out back apart h.
        handled_link p q s t x out back false (ne_eqb x.from.0 q apart)
        (λ alive lives.
        subst (λ ws. AreAgreed (side_of s.tables.links q) (side_of t.tables.links p) s.tables.links.next_id t.tables.links.next_id (words_of out) (ws ++ words_of back)) (sym (words_to_others x.kind)) (h alive lives));
  }

-- at the opening no link is there, and no signal on its way
opening_agrees : (script : Program) (p q : ℕ) (s t : ProcessState) → slice_get (opening_of script) p ≡ Some s → slice_get (opening_of script) q ≡ Some t → IsOneLink p q s t [] []
opening_agrees script p q s t here there =
    subst (λ (z : ProcessState). IsOneLink p q z t [] []) (opened_state script p s here)
    (subst (λ (z : ProcessState). IsOneLink p q (opening_state p (length script.procs)) z [] []) (opened_state script q t there)
    (λ alive lives.
    subst (λ (a : Side). AreAgreed a (side_of (unlinked q) p) 1 1 [] []) (sym (opening_side p q))
    (subst (λ (b : Side). AreAgreed (sided None None) b 1 1 [] []) (sym (opening_side q p)) agreed_start)))

module _ (script : Program) (events : List (At Event)) (end : Machine ProcessState Signal) where
  -- so it is at the end of each run, from the marks and over all messages
  pub links_agree : IsRun (rules_of script) (opening_machine (opening_of script)) events end → HoldOfPairs one_link (rules_of script) end
  unfolding rules_with
  links_agree run =
      let done : (p : ℕ) (s : ProcessState) (effect : Effect ProcessState Signal Event) → (rules_of script).exec p s ≡ Some effect → IsDone p s effect =
      λ p s effect e. done_marked p (slice_get script.procs p) s effect e in
      run_keeps_pairs (rules_of script) one_link (from_sender script.turns (slice_get script.procs) (rules_of script).exec done)
      (symmetric_keeps (rules_of script) one_link link_symmetric (link_kept script.turns (slice_get script.procs) (rules_of script).exec done)) events (opening_machine (opening_of script)) end
      (record { senders = λ f t. All-nil (λ (x : Signal). x.from.0 ≡ f); pairs = λ p q s t apart here there. opening_agrees script p q s t here there }) run

  pub whole_agree : IsRun (by_whole (rules_of script) (whole_of script)) (opening_machine (opening_of script)) events end
      → HoldOfPairs one_link (by_whole (rules_of script) (whole_of script)) end
  unfolding rules_with
  whole_agree run =
      let done : (p : ℕ) (s : ProcessState) (effect : Effect ProcessState Signal Event) → whole_of script p s ≡ Some effect → IsDone p s effect =
      λ p s effect e. done_whole p (slice_get script.procs p) s effect e in
      run_keeps_pairs (by_whole (rules_of script) (whole_of script)) one_link (from_sender script.turns (slice_get script.procs) (whole_of script) done)
      (symmetric_keeps (by_whole (rules_of script) (whole_of script)) one_link link_symmetric (link_kept script.turns (slice_get script.procs) (whole_of script) done)) events (opening_machine (opening_of script)) end
      (record { senders = λ f t. All-nil (λ (x : Signal). x.from.0 ≡ f); pairs = λ p q s t apart here there. opening_agrees script p q s t here there }) run

-- a process that is neither ended, nor cut, nor late has no signal queued for it, where the machine is settled
module _ (R : Rules ProcessState Signal Event) (turns : ℕ) (cut : (s : ProcessState) → R.is_cut s ≡ is_cut turns s) (stamped : (x : Signal) → R.stamp x ≡ x.stamp) (m : Machine ProcessState Signal) where
  none_queued : (p : ℕ) (s : ProcessState) → IsSettled R m → IsGoing turns m p s → HasNoSignal m p
  none_queued p s settled going = by (settled p s going.there)
    where
      in_time : IsLate R m p → ⊥
      in_time late =
          let low : late.signal.stamp < LAST_STAMP = going.in_time late.sender late.signal late.queued in
          let high : LAST_STAMP ≤ late.signal.stamp = subst (λ n. LAST_STAMP ≤ n) (stamped late.signal) late.late in
          absurd (omega (arith, low, high))

      by : IsAtRest R m p s → HasNoSignal m p
      by (inl is) = absurd (both_ways (R.is_cut s) (cut s ∙ going.uncut) is)
      by (inr w) = ⊎_elim (λ none. none) (λ late. absurd (in_time late)) w.1

  -- the link law
  pub of_one_mind : HoldOfPairs one_link R m → IsSettled R m → (p q : ℕ) (s t : ProcessState) → p ≢ q → IsGoing turns m p s → IsGoing turns m q t → AreOfOneMind p q s.tables.links t.tables.links
  of_one_mind h settled p q s t n here there =
      let link : IsOneLink p q s t [] [] =
      subst (λ xs. IsOneLink p q s t xs []) (none_queued q t settled there p)
      (subst (λ xs. IsOneLink p q s t (m.queued p q) xs) (none_queued p s settled here q) (h.pairs p q s t n here.there there.there)) in
      let rest : AreAtRest (side_of s.tables.links q) (side_of t.tables.links p) =
      agreed_rest (side_of s.tables.links q) (side_of t.tables.links p) s.tables.links.next_id t.tables.links.next_id (link here.alive there.alive) in
      record { active = rest.active; first = rest.first; second = rest.second }

-- in the runs that look from the marks on, and in those that look at all messages
module _ (script : Program) (events : List (At Event)) (end : Machine ProcessState Signal) where
  pub law_from_marks : IsRun (rules_of script) (opening_machine (opening_of script)) events end → IsSettled (rules_of script) end
      → (p q : ℕ) (s t : ProcessState) → p ≢ q → IsGoing script.turns end p s → IsGoing script.turns end q t → AreOfOneMind p q s.tables.links t.tables.links
  unfolding rules_with
  law_from_marks run settled p q s t n here there =
      of_one_mind (rules_of script) script.turns (λ s. refl) (λ x. refl) end (links_agree script events end run) settled p q s t n here there

  pub law_over_all : IsRun (by_whole (rules_of script) (whole_of script)) (opening_machine (opening_of script)) events end
      → IsSettled (by_whole (rules_of script) (whole_of script)) end
      → (p q : ℕ) (s t : ProcessState) → p ≢ q → IsGoing script.turns end p s → IsGoing script.turns end q t → AreOfOneMind p q s.tables.links t.tables.links
  unfolding rules_with
  law_over_all run settled p q s t n here there =
      of_one_mind (by_whole (rules_of script) (whole_of script)) script.turns (λ s. refl) (λ x. refl) end (whole_agree script events end run) settled p q s t n here there
