-- Each step keeps to what the policy allows.
use Rattle.std.proofs.Common.{◌≡◌, ℕ, ◌==◌, subst, Bool, true, false, not, if◌then◌else◌, List, [], ◌∷◌, ◌++◌, sym, refl, ◌∙◌}
use Rattle.std.proofs.lemmas.List.Elements.{All-append, All-nil, All-cons}
use Rattle.sig_layout.specs.declared.summary.Summary.{Summary}
use Rattle.sig_layout.specs.declared.policy.Policy.{Policy}
use Rattle.sig_layout.specs.declared.policy.Policy.TheVariants.{Never, Always, Churn, Auto}
use Rattle.sig_layout.specs.declared.decision.Due.TheVariants as due
use Rattle.sig_layout.specs.declared.item.Item.{Item}
use Rattle.sig_layout.specs.declared.setup.Setup.{Setup}
use Rattle.sig_layout.specs.declared.via.Via.TheVariants as via
use Rattle.sig_layout.specs.Summaries.{due_of, is_install, is_remove}
use Rattle.sig_layout.specs.Policies.{IsPolicy, begins_on, AllowsMode, AllowsWay}
use Rattle.sig_layout.specs.Core.{Cell, QState, put, Reached, opened, by_take_outer, by_refuse_outer, by_put, by_leave, by_take_bits, by_fetch, by_mode_on, by_mode_off, by_remove, by_load_mode, by_load_filled, by_take_buffer, by_refuse_buffer, by_set_back, by_load_under, by_set_bit, by_put_to_buffer, by_leave_buffer, by_take_part, by_pass, by_split, by_note, by_join}
use Rattle.sig_layout.specs.Agree.{HoldsAll}
use Rattle.sig_layout.specs.Steady.{SteadyAs, Steady}
use Rattle.sig_layout.proofs.Agreeing.{agrees}
use Rattle.sig_layout.proofs.Journaling.{journals}

first_mode : (p : Policy) → AllowsMode p (begins_on p)
first_mode Never = refl
first_mode Always = refl
first_mode (Churn n) = tt
first_mode Auto = tt

-- where an install is due the mode may be on, and where a removal is due it may be off
on_where_due : (p : Policy) (s : Summary) → is_install (due_of p s) ≡ true → AllowsMode p true
on_where_due Never s h = absurd cc
on_where_due Always s h = refl
on_where_due (Churn n) s h = tt
on_where_due Auto s h = tt

off_where_due : (p : Policy) (s : Summary) → is_remove (due_of p s) ≡ true → AllowsMode p false
off_where_due Never s h = refl
off_where_due Always s h = elim s.installed as
    (λ b. is_remove (if b then due.Nothing else due.Install) ≡ true → AllowsMode Always false)
    [ true ↦ (λ k. absurd cc) | false ↦ (λ k. absurd cc) ] h
off_where_due (Churn n) s h = tt
off_where_due Auto s h = tt

-- what is seen of the mode is so
seen_off : (p : Policy) (mode : Bool) → AllowsMode p mode → not mode ≡ true → AllowsMode p false
seen_off p true a h = absurd cc
seen_off p false a h = a

seen_on : (p : Policy) (mode : Bool) → AllowsMode p mode → mode ≡ true → AllowsMode p true
seen_on p mode a h = subst (AllowsMode p) h a

module _ {X : Type 0} (P : Bool → Type 0) (key : X → Bool) where
  -- where one place changes
  at_put : (f : ℕ → X) (b : ℕ) (x : X) → P (key x) → ((c : ℕ) → P (key (f c))) → (c : ℕ) → P (key (put f b x c))
  at_put f b x here others c = elim (c == b) as (λ z. P (key (if z then x else f c))) [ true ↦ here | false ↦ others c ]

module _ (p : Policy) (mode : Bool) (saw_off : ℕ → Bool) (cells : ℕ → Cell) (log : List Item)
    (s : SteadyAs p mode saw_off (λ c. (cells c).sure) log) where
  -- a seat sees the mode, or forgets what it saw
  seen : (i : ℕ) (off : Bool) → (off ≡ true → AllowsMode p false) → SteadyAs p mode (put saw_off i off) (λ c. (cells c).sure) log
  seen i off may = record {
    allowed = s.allowed;
    off = at_put (λ z. z ≡ true → AllowsMode p false) (λ z. z) saw_off i off may s.off;
    on = s.on;
    ways = s.ways;
  }

  forgets : (i : ℕ) → SteadyAs p mode (put saw_off i false) (λ c. (cells c).sure) log
  forgets i = seen i false (λ h. absurd cc)

  -- a buffer changes
  buffer : (c : ℕ) (x : Cell) → (x.sure ≡ true → AllowsMode p true) → SteadyAs p mode saw_off (λ d. (put cells c x d).sure) log
  buffer c x may = record {
    allowed = s.allowed;
    off = s.off;
    on = at_put (λ z. z ≡ true → AllowsMode p true) (λ (y : Cell). y.sure) cells c x may s.on;
    ways = s.ways;
  }

  leaves : (c : ℕ) (x : Cell) → x.sure ≡ false → SteadyAs p mode saw_off (λ d. (put cells c x d).sure) log
  leaves c x e = buffer c x (λ h. absurd cc)

  more : (x : Item) → AllowsWay p x.via → SteadyAs p mode saw_off (λ c. (cells c).sure) (log ++ x ∷ [])
  more x may = record {
    allowed = s.allowed;
    off = s.off;
    on = s.on;
    ways = All-append (λ (y : Item). AllowsWay p y.via) log (x ∷ []) s.ways
        (All-cons (λ (y : Item). AllowsWay p y.via) x [] may (All-nil (λ (y : Item). AllowsWay p y.via)));
  }

module _ (z : Setup) (proper : IsPolicy z.policy) where
  pub steady : (q : QState) → Reached z q → Steady q
  steady _ opened = record {
    allowed = first_mode z.policy;
    off = λ i h. absurd cc;
    on = λ c h. absurd cc;
    ways = All-nil (λ (x : Item). AllowsWay z.policy x.via);
  }
  steady _ (by_take_outer q i v can r) = steady q r
  steady _ (by_refuse_outer q i v can r) = forgets _ _ _ q.cells _ (steady q r) i
  steady _ (by_put q i v o x can r) = let s = steady q r in let saw = ((agrees z q r).each i v can.at).saw in
      forgets _ _ _ q.cells _ (more _ _ _ q.cells _ s record { signal = x; via = via.Outer } (s.off i (saw ∙ can.off))) i
  steady _ (by_leave q i v o can r) = forgets _ _ _ q.cells _ (steady q r) i
  steady _ (by_take_bits q i v o can r) = steady q r
  steady _ (by_fetch q i v o can r) = forgets _ _ _ q.cells _ (steady q r) i
  steady _ (by_mode_on q i v o can r) = let s = steady q r in
      record { allowed = on_where_due q.setup.policy _ can.is_due; off = s.off; on = s.on; ways = s.ways }
  steady _ (by_mode_off q i v o can r) = let s = steady q r in
      let knows = ((journals z proper q r).owes i v can.at).reader can.role in
      record { allowed = off_where_due q.setup.policy _ (sym knows ∙ can.is_due); off = s.off; on = s.on; ways = s.ways }
  steady _ (by_remove q i v o can r) = forgets _ _ _ q.cells _ (steady q r) i
  steady _ (by_load_mode q i v can r) = let s = steady q r in
      seen _ _ _ q.cells _ s i (not q.mode) (seen_off q.setup.policy q.mode s.allowed)
  steady _ (by_load_filled q i v at r) = steady q r
  steady _ (by_take_buffer q i v c can r) = leaves _ _ _ q.cells _ (steady q r) c _ refl
  steady _ (by_refuse_buffer q i v c can r) = forgets _ _ _ q.cells _ (steady q r) i
  steady _ (by_set_back q i v c o can r) = let s = steady q r in buffer _ _ _ q.cells _ s c _ (s.on c)
  steady _ (by_load_under q i v p can r) = let s = steady q r in
      buffer _ _ _ q.cells _ (seen _ _ _ q.cells _ s i (not q.mode) (seen_off q.setup.policy q.mode s.allowed)) p.number _
      (seen_on q.setup.policy q.mode s.allowed)
  steady _ (by_set_bit q i v p can r) = let s = steady q r in buffer _ _ _ q.cells _ s p.number _ (s.on p.number)
  steady _ (by_put_to_buffer q i v p x can r) = let s = steady q r in
      let its = (subst (HoldsAll q.cells i) can.one ((agrees z q r).each i v can.at).parts).0 in
      leaves _ _ _ q.cells _ (more _ _ _ q.cells _ s record { signal = x; via = via.Buffer p.number }
      (s.on p.number (its.sure ∙ can.sure))) p.number _ refl
  steady _ (by_leave_buffer q i v p ps can r) = leaves _ _ _ q.cells _ (steady q r) p.number _ refl
  steady _ (by_take_part q i v p ps o can r) = leaves _ _ _ q.cells _ (steady q r) p.number _ refl
  steady _ (by_pass q i v p ps o can r) = leaves _ _ _ q.cells _ (steady q r) p.number _ refl
  steady _ (by_split q i v given role can r) = steady q r
  steady _ (by_note q i v at r) = steady q r
  steady _ (by_join q i v j w can r) = steady q r
