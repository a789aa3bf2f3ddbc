-- What each event keeps, of two processes and of the signals on their way between them, holds in every run.
use Rattle.std.proofs.Common.{append_assoc, ◌≡◌, ◌≢◌, ℕ, Bool, true, false, cond, ◌&&◌, List, [], ◌∷◌, ◌++◌, drop, Some, refl, sym, ap, ◌∙◌, subst, inl, inr, ◌⊎◌, ⊎_elim}
use Rattle.std.specs.Prelude.{◌==◌, slice_get, slice_set, if◌then◌else◌}
use Rattle.std.specs.List.{All}
use Rattle.std.proofs.lemmas.Bool.{cases_eq, eq-eqb, ne_eqb, and_from, and_left, and_right}
use Rattle.std.proofs.lemmas.List.{append-nil}
use Rattle.std.proofs.lemmas.List.Elements.{All-append, All-filter, All-head, All-drop, filter-append}
use Rattle.std.proofs.lemmas.Option.{same_Some}
use Rattle.sig_runs.specs.Rules.{Effect, Rules, addressed, coming_from}
use Rattle.sig_runs.specs.Machine.{Machine, At, Applied, Choice, apply, IsRun, moved, posted, without_oldest}
use Rattle.sig_runs.specs.Machine.Choice.{Executes, Handles}
use Rattle.sig_runs.specs.LocalRun.{Local, Input, Act, CanDo, after, IsLocalRun, handles, sends, handled_in}
use Rattle.sig_runs.specs.LocalRun.Input.{Execute, Handle}
use Rattle.sig_runs.specs.PairFacts.{PairFacts, turned, AreSymmetric, HoldOfPairs, KeepSenders, HoldsAfter, FirstKeeps, PairKeeps}
use Rattle.sig_runs.proofs.Lists.{slice_get-set_same, slice_get-set_other}
use Rattle.sig_runs.proofs.Choices.{DidExecute, DidHandle, did_execute, did_handle}
use Rattle.sig_runs.proofs.Runs.{run_keeps}

module _ {S X E : Type 0} (rules : Rules S X E) where
  -- a fact that holds in both orders is kept by the events of either, where it is kept by those of the first
  pub symmetric_keeps : (facts : PairFacts S X) → AreSymmetric facts → FirstKeeps facts rules → PairKeeps facts rules
  symmetric_keeps facts symmetric law = record { first = law; second = other }
    where
      other : FirstKeeps (turned facts) rules
      other = record {
        executed = λ p q s t out back effect alive e h. symmetric p q effect.state t _ back (law.executed p q s t out back effect alive e (symmetric q p t s _ _ h));
        handled = λ p q s t x out back from h. symmetric p q (rules.handle p s x).state t _ back (law.handled p q s t x out back from (symmetric q p t s _ _ h));
        handled_other = λ p q s t x out back apart h. symmetric p q (rules.handle p s x).state t _ back (law.handled_other p q s t x out back apart (symmetric q p t s _ _ h));
      }

  -- one process alone, and another that does nothing meanwhile
  module _ (facts : PairFacts S X) (law : FirstKeeps facts rules) (p q : ℕ) (t : S) where
    act_keeps : (l : Local S X) (i : Input X) (effect : Effect S X E) (out back : List X) → CanDo rules p l i effect → facts.of_pair p q l.state t out (coming_from rules q (handled_in i) ++ back) →
        HoldsAfter facts rules p q effect t out back
    act_keeps l Execute effect out back can h = law.executed p q l.state t out back effect can.0 can.3 h
    act_keeps l (Handle x) effect out back can h = subst (λ f. HoldsAfter facts rules p q f t out back) can.3 (by (cases_eq (rules.from x) q))
      where
        Before : Bool → Type 0
        Before c = facts.of_pair p q l.state t out (cond c (x ∷ []) [] ++ back)

        by : (rules.from x ≡ q) ⊎ (rules.from x ≡ q → ⊥) → HoldsAfter facts rules p q (rules.handle p l.state x) t out back
        by (inl e) = law.handled p q l.state t x out back e (subst Before (eq-eqb (rules.from x) q e) h)
        by (inr n) = law.handled_other p q l.state t x out back n (subst Before (ne_eqb (rules.from x) q n) h)

    pub alone_keeps : (acts : List (Act S X E)) (l end : Local S X) (out back : List X) → facts.of_pair p q l.state t out (coming_from rules q (handles acts) ++ back) → IsLocalRun rules p l acts end →
        facts.of_pair p q end.state t (out ++ addressed rules q (sends acts)) back
    alone_keeps [] l end out back h run =
        subst (λ (z : Local S X). facts.of_pair p q z.state t (out ++ []) back) run (subst (λ xs. facts.of_pair p q l.state t xs back) (sym (append-nil out)) h)
    alone_keeps (a ∷ later) l end out back h run =
        let rest : List X = coming_from rules q (handles later) ++ back in
        let handled : coming_from rules q (handles (a ∷ later)) ++ back ≡ coming_from rules q (handled_in a.input) ++ rest =
        ap (λ z. z ++ back) (filter-append (λ x. rules.from x == q) (handled_in a.input) (handles later)) ∙ append_assoc (coming_from rules q (handled_in a.input)) (coming_from rules q (handles later)) back in
        let sent : (out ++ addressed rules q a.effect.sends) ++ addressed rules q (sends later) ≡ out ++ addressed rules q (sends (a ∷ later)) =
        append_assoc out (addressed rules q a.effect.sends) (addressed rules q (sends later)) ∙ ap (λ z. out ++ z) (sym (filter-append (λ x. rules.to x == q) a.effect.sends (sends later))) in
        subst (λ xs. facts.of_pair p q end.state t xs back) sent
        (alone_keeps later (after rules p l a) end (out ++ addressed rules q a.effect.sends) back
        (act_keeps l a.input a.effect out rest run.0 (subst (λ xs. facts.of_pair p q l.state t out xs) handled h)) run.1)

  -- an event of p, in the machine, and the pair of p and q
  module _ (facts : PairFacts S X) (law : FirstKeeps facts rules) (queued : ℕ → ℕ → List X) (p q : ℕ) (s t : S) (old : facts.of_pair p q s t (queued p q) (queued q p)) where
    handled_pair : (f : ℕ) (x : X) (rest : List X) → queued f p ≡ x ∷ rest → rules.from x ≡ f → HoldsAfter facts rules p q (rules.handle p s x) t (queued p q) (without_oldest f p queued q p)
    handled_pair f x rest oldest from = ⊎_elim (λ e. same e) (λ n. other n) (cases_eq f q)
      where
        Goal : List X → Type 0
        Goal back = HoldsAfter facts rules p q (rules.handle p s x) t (queued p q) back

        same : f ≡ q → Goal (without_oldest f p queued q p)
        same e =
            let at : queued q p ≡ x ∷ rest = ap (λ z. queued z p) (sym e) ∙ oldest in
            subst Goal
            (ap (λ xs. drop 1 xs) (sym at) ∙ ap (λ c. cond c (drop 1 (queued q p)) (queued q p)) (sym (and_from (f == q) (p == p) (eq-eqb f q e) (eq-eqb p p refl))))
            (law.handled p q s t x (queued p q) rest (from ∙ e) (subst (λ xs. facts.of_pair p q s t (queued p q) xs) at old))

        other : (f ≡ q → ⊥) → Goal (without_oldest f p queued q p)
        other n =
            subst Goal (ap (λ c. cond c (drop 1 (queued q p)) (queued q p)) (sym (and_left (f == q) (p == p) (ne_eqb f q n))))
            (law.handled_other p q s t x (queued p q) (queued q p) (λ e. n (sym from ∙ e)) old)

  module _ (facts : PairFacts S X) where
    -- p has come to a state and sent signals; the lists to others are as they were
    module _ (m : Machine S X) (h : HoldOfPairs facts rules m) (p : ℕ) (s : S) (at : slice_get m.procs p ≡ Some s) (effect : Effect S X E) (queued : ℕ → ℕ → List X) (from_p : All (λ x. rules.from x ≡ p) effect.sends) (from : (f t : ℕ) → All (λ x. rules.from x ≡ f) (queued f t)) (others : (f t : ℕ) → p ≢ t → queued f t ≡ m.queued f t) (first : (q : ℕ) (t : S) → p ≢ q → slice_get m.procs q ≡ Some t → HoldsAfter facts rules p q effect t (m.queued p q) (queued q p)) (second : (q : ℕ) (t : S) → p ≢ q → slice_get m.procs q ≡ Some t → HoldsAfter (turned facts) rules p q effect t (m.queued p q) (queued q p)) where
      abbrev lists : ℕ → ℕ → List X
      lists = posted rules p effect.sends queued

      abbrev procs : List S
      procs = slice_set m.procs p effect.state

      lists_of_p : (t : ℕ) → p ≢ t → m.queued p t ++ addressed rules t effect.sends ≡ lists p t
      lists_of_p t n =
          ap (λ xs. xs ++ addressed rules t effect.sends) (sym (others p t n))
          ∙ ap (λ c. cond c (queued p t ++ addressed rules t effect.sends) (queued p t)) (sym (eq-eqb p p refl))

      lists_of_others : (f t : ℕ) → p ≢ f → queued f t ≡ lists f t
      lists_of_others f t n = ap (λ c. cond c (queued f t ++ addressed rules t effect.sends) (queued f t)) (sym (ne_eqb p f n))

      all_from : (f t : ℕ) → All (λ x. rules.from x ≡ f) (lists f t)
      all_from f t =
          ⊎_elim
          (λ e. subst (λ z. All (λ x. rules.from x ≡ z) (lists z t)) e
          (subst (λ c. All (λ x. rules.from x ≡ p) (cond c (queued p t ++ addressed rules t effect.sends) (queued p t))) (sym (eq-eqb p p refl))
          (All-append (λ x. rules.from x ≡ p) (queued p t) (addressed rules t effect.sends) (from p t) (All-filter (λ x. rules.to x == t) (λ x. rules.from x ≡ p) effect.sends from_p))))
          (λ n. subst (λ xs. All (λ x. rules.from x ≡ f) xs) (lists_of_others f t n) (from f t))
          (cases_eq p f)

      at_p : (u : S) → slice_get procs p ≡ Some u → effect.state ≡ u
      at_p u e = same_Some effect.state u (sym (slice_get-set_same m.procs p effect.state s at) ∙ e)

      at_other : (q : ℕ) (u : S) → p ≢ q → slice_get procs q ≡ Some u → slice_get m.procs q ≡ Some u
      at_other q u n e = sym (slice_get-set_other m.procs p q effect.state n) ∙ e

      with_lists : (u v : ℕ) (a b : S) (out out' back back' : List X) → out ≡ out' → back ≡ back' → facts.of_pair u v a b out back → facts.of_pair u v a b out' back'
      with_lists u v a b out out' back back' e f g = subst (λ xs. facts.of_pair u v a b xs back') e (subst (λ xs. facts.of_pair u v a b out xs) f g)

      -- the pairs of p
      p_first : (q : ℕ) (u t : S) → p ≢ q → slice_get procs p ≡ Some u → slice_get procs q ≡ Some t → facts.of_pair p q u t (lists p q) (lists q p)
      p_first q u t n here there =
          with_lists p q u t (m.queued p q ++ addressed rules q effect.sends) (lists p q) (queued q p) (lists q p) (lists_of_p q n) (lists_of_others q p n)
          (subst (λ z. facts.of_pair p q z t (m.queued p q ++ addressed rules q effect.sends) (queued q p)) (at_p u here) (first q t n (at_other q t n there)))

      p_second : (q : ℕ) (u t : S) → p ≢ q → slice_get procs p ≡ Some u → slice_get procs q ≡ Some t → facts.of_pair q p t u (lists q p) (lists p q)
      p_second q u t n here there =
          with_lists q p t u (queued q p) (lists q p) (m.queued p q ++ addressed rules q effect.sends) (lists p q) (lists_of_others q p n) (lists_of_p q n)
          (subst (λ z. facts.of_pair q p t z (queued q p) (m.queued p q ++ addressed rules q effect.sends)) (at_p u here) (second q t n (at_other q t n there)))

      moved_holds : HoldOfPairs facts rules (moved rules m p queued effect).machine
      moved_holds = record {
        senders = all_from;
        pairs = λ u v a b apart here there. by u v a b apart here there (cases_eq p u) (cases_eq p v);
      }
        where
          by : (u v : ℕ) (a b : S) → u ≢ v → slice_get procs u ≡ Some a → slice_get procs v ≡ Some b → (p ≡ u) ⊎ (p ≡ u → ⊥) → (p ≡ v) ⊎ (p ≡ v → ⊥) → facts.of_pair u v a b (lists u v) (lists v u)
          by u v a b apart here there (inl e) c =
              subst (λ z. facts.of_pair z v a b (lists z v) (lists v z)) e (p_first v a b (λ f. apart (sym e ∙ f)) (subst (λ z. slice_get procs z ≡ Some a) (sym e) here) there)
          by u v a b apart here there (inr n) (inl e) =
              subst (λ z. facts.of_pair u z a b (lists u z) (lists z u)) e (p_second u b a n (subst (λ z. slice_get procs z ≡ Some b) (sym e) there) here)
          by u v a b apart here there (inr n) (inr k) =
              with_lists u v a b (m.queued u v) (lists u v) (m.queued v u) (lists v u) (sym (others u v k) ∙ lists_of_others u v n) (sym (others v u n) ∙ lists_of_others v u k)
              (h.pairs u v a b apart (at_other u a n here) (at_other v b k there))

    module _ (sent : KeepSenders rules) (law : PairKeeps facts rules) where
      keeps_pairs : (m : Machine S X) (c : Choice) (r : Applied S X E) → HoldOfPairs facts rules m → apply rules m c ≡ Some r → HoldOfPairs facts rules r.machine
      keeps_pairs m (Executes p) r h e =
          let d : DidExecute rules m p (slice_get m.procs p) r = did_execute rules m p (slice_get m.procs p) r e in
          subst (λ z. HoldOfPairs facts rules z.machine) (sym d.is)
          (moved_holds m h p d.state d.at d.effect m.queued (sent.executed p d.state d.effect d.defined) h.senders (λ f t n. refl)
          (λ q t n there. law.first.executed p q d.state t (m.queued p q) (m.queued q p) d.effect d.going d.defined (h.pairs p q d.state t n d.at there))
          (λ q t n there. law.second.executed p q d.state t (m.queued p q) (m.queued q p) d.effect d.going d.defined (h.pairs q p t d.state (λ z. n (sym z)) there d.at)))
      keeps_pairs m (Handles p f) r h e =
          let d : DidHandle rules m p f (slice_get m.procs p) (m.queued f p) r = did_handle rules m p f (slice_get m.procs p) (m.queued f p) r e in
          let from_f : rules.from d.signal ≡ f = All-head (λ x. rules.from x ≡ f) d.signal d.rest (subst (λ xs. All (λ x. rules.from x ≡ f) xs) d.oldest (h.senders f p)) in
          subst (λ z. HoldOfPairs facts rules z.machine) (sym d.is)
          (moved_holds m h p d.state d.at (rules.handle p d.state d.signal) (without_oldest f p m.queued) (sent.handled p d.state d.signal) (λ g t. without_from g t (f == g && p == t)) without_others
          (λ q t n there. handled_pair facts law.first m.queued p q d.state t (h.pairs p q d.state t n d.at there) f d.signal d.rest d.oldest from_f)
          (λ q t n there. handled_pair (turned facts) law.second m.queued p q d.state t (h.pairs q p t d.state (λ z. n (sym z)) there d.at) f d.signal d.rest d.oldest from_f))
        where
          without_from : (g t : ℕ) (c : Bool) → All (λ x. rules.from x ≡ g) (if c then drop 1 (m.queued g t) else m.queued g t)
          without_from g t true = All-drop (λ x. rules.from x ≡ g) 1 (m.queued g t) (h.senders g t)
          without_from g t false = h.senders g t

          without_others : (g t : ℕ) → p ≢ t → without_oldest f p m.queued g t ≡ m.queued g t
          without_others g t n = ap (λ c. cond c (drop 1 (m.queued g t)) (m.queued g t)) (and_right (f == g) (p == t) (ne_eqb p t n))

      -- they hold at the end of each run that begins where they hold
      pub run_keeps_pairs : (es : List (At E)) (m end : Machine S X) → HoldOfPairs facts rules m → IsRun rules m es end → HoldOfPairs facts rules end
      run_keeps_pairs es m end h run = run_keeps rules (λ z. HoldOfPairs facts rules z) keeps_pairs es m end h run
