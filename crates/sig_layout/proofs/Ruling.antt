-- The queue rule, from its layers.
use Rattle.std.proofs.Common.{◌≡◌, ◌⊎◌, ◌↔◌, ℕ, subst, Bool, true, List, [], ◌∷◌, sym, ap, ◌∙◌, inl, inr, ⊎_elim, Some, None}
use Rattle.std.specs.List.{All}
use Rattle.std.proofs.lemmas.List.Elements.{All-nil, All-cons}
use Rattle.sig_layout.specs.declared.decision.Due.TheVariants as due
use Rattle.sig_layout.specs.declared.entry.Entry.{Entry}
use Rattle.sig_layout.specs.declared.item.Item.{Item}
use Rattle.sig_layout.specs.declared.setup.Setup.{Setup}
use Rattle.sig_layout.specs.declared.outer.Outer.{Outer}
use Rattle.sig_layout.specs.declared.knows.Knows.{Knows}
use Rattle.sig_layout.specs.Sets.{has}
use Rattle.sig_layout.specs.Sent.{sender, putter, of, signals, Prefix, AllWithin}
use Rattle.sig_layout.specs.Summaries.{due_at, is_remove}
use Rattle.sig_layout.specs.Policies.{IsPolicy, IsPeriod, RemoveDue}
use Rattle.sig_layout.specs.Core.{QState, Reached, buffer_of, At}
use Rattle.sig_layout.specs.Agree.{Agrees}
use Rattle.sig_layout.specs.Lists.{Lists}
use Rattle.sig_layout.specs.Law.{Law}
use Rattle.sig_layout.specs.Rule.{HasCome, Stood, come, IsClear, Unpassed, Rule}
use Rattle.sig_layout.proofs.Sending.{not_both, prefix_through, prefix_signals}
use Rattle.sig_layout.proofs.Summing.{is_remove_so}
use Rattle.sig_layout.proofs.Agreeing.{agrees}
use Rattle.sig_layout.proofs.Listing.{lists, within_log, held_cases}
use Rattle.sig_layout.proofs.Lawful.{lawful}
use Rattle.sig_layout.proofs.Journaling.{journals}
use Rattle.sig_layout.proofs.Carrying.{carried, ways}
use Rattle.sig_layout.proofs.Steadying.{steady}
use Rattle.sig_layout.proofs.Wording.{lawful_of, due_so, is_due, period_of}

module _ (q : QState) (a : Agrees q) (l : Lists q) (w : Law q) where
  -- a seat that fetches has the outer turn, and the machine says so too
  machine_fetches : (i : ℕ) (v : Knows) → At q i v → v.fetching ≡ true → q.fetching ≡ true
  machine_fetches i v at f = ⊎_elim
      (λ (e : v.held ≡ None). not_both v.fetching f ((a.each i v at).rest e).0)
      (λ (e : (o : Outer) × (v.held ≡ Some o)). ((a.each i v at).outer e.0 e.1).fetch ∙ f) (held_cases v.held)

  come_of : (s : ℕ) (put : List Item) → q.fetching ≡ true → Prefix (of putter s put) (of putter s q.base) → HasCome q s put
  come_of s put f p = ⊎_elim
      (λ (h : Prefix (of sender s (signals q.base)) (of sender s (come q))). inl
      (prefix_through (of sender s (signals put)) (of sender s (signals q.base)) (of sender s (come q))
      (prefix_signals s put q.base p) h))
      (λ (h : Stood q (buffer_of s)). inr h) (w.fresh f s)

  all_come : (s : ℕ) (told : List (List Item)) → q.fetching ≡ true → AllWithin told q.base → All (HasCome q s) told
  all_come s [] f h = All-nil (HasCome q s)
  all_come s (put ∷ rest) f h = All-cons (HasCome q s) put rest (come_of s put f (h.0 s)) (all_come s rest f h.1)

  saw_off_of : (i : ℕ) (v : Knows) (s : ℕ) → At q i v → v.saw_off ≡ true → has v.senders s ≡ true
      → IsClear q s ⊎ Unpassed q (buffer_of s)
  saw_off_of i v s at saw h = w.knows_off s (ap q.saw_off ((l.each i v at).owns s h) ∙ ((a.each i v at).saw ∙ saw))

  appends_of : (i : ℕ) (v : Knows) (o : Outer) (s : ℕ) → At q i v → v.held ≡ Some o → v.saw_off ≡ true → has v.senders s ≡ true
      → IsClear q s
  appends_of i v o s at held saw h = ⊎_elim
      (λ (clear : IsClear q s). clear)
      (λ (ahead : Unpassed q (buffer_of s)). not_both (q.saw_off i) ((a.each i v at).saw ∙ saw)
      (w.quiet i ahead.0 ((a.each i v at).outer o held).mine))
      (saw_off_of i v s at saw h)

module _ (z : Setup) (proper : IsPolicy z.policy) (q : QState) (r : Reached z q) where
  due_of_seat : (i : ℕ) (v : Knows) → At q i v → v.role ≡ true → (v.due ≡ true) ↔ RemoveDue q.setup.policy q.outer.journal
  due_of_seat i v at role = let j : List Entry = q.outer.journal in let p = q.setup.policy in
      let knows = ((journals z proper q r).owes i v at).reader role in
      ((λ h. due_so p j due.Remove (is_remove_so (due_at p j) (sym knows ∙ h))), (λ d. knows ∙ ap is_remove (is_due p j due.Remove d)))

  mode_of : q.holder ≡ None → (p : List Entry) × IsPeriod q.outer.journal q.mode p
  mode_of free = let a = agrees z q r in let j = journals z proper q r in let idle = a.idle free in
      let p = period_of q.outer.journal in
      (p.0, subst (λ (b : Bool). IsPeriod q.outer.journal b p.0) (sym (j.moded idle.2 idle.1)) p.1)

  pub ruled : Rule q
  ruled = let a = agrees z q r in let l = lists z q r in let w = lawful z q r in let j = journals z proper q r in
      let c = carried z q r in let t = steady z proper q r in record {
        outer_turn = a.turn;
        buffer_turns = a.cells;
        views = a.each;
        one_sender = λ i k v u s at there h g. sym ((l.each i v at).owns s h) ∙ (l.each k u there).owns s g;
        one_role = λ i k v u at there h g. sym ((l.each i v at).reads h) ∙ (l.each k u there).reads g;
        equation = w.flows;
        carried = c.all;
        counted = c.counted;
        shut = λ b off. (w.each b).shut off;
        saw_off = saw_off_of q a l w;
        appends = appends_of q a l w;
        saw_on = λ b sure. (w.each b).knows_on sure;
        marked = λ b. (w.each b).marked;
        lawful = lawful_of q.setup.policy q.outer.journal j.allowed;
        mode = mode_of;
        directs = ways z q r;
        fetches = λ i v at role. (j.owes i v at).made role;
        due = due_of_seat;
        steady = t.allowed;
        steady_on = t.on;
        steady_off = λ i v at saw. t.off i ((a.each i v at).saw ∙ saw);
        ways = t.ways;
        put = within_log q l;
        told = λ i v at. (l.each i v at).told;
        own = λ i v s at h. (l.each i v at).own s h;
        took = λ i v at role. (l.each i v at).took role;
        fresh_put = λ i v s at f. come_of q a l w s v.put (machine_fetches q a l w i v at f) (((l.each i v at).based f).0 s);
        fresh_told = λ i v s at f. all_come q a l w s v.told (machine_fetches q a l w i v at f) ((l.each i v at).based f).1;
      }
