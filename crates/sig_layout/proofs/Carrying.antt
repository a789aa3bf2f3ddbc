-- Each step keeps what the queue carries, how it is numbered, and the count of direct puts.
use Rattle.std.proofs.Common.{◌≡◌, ℕ, suc, ◌+◌, subst, Bool, true, false, List, [], ◌∷◌, ◌++◌, length, sym, refl, ap, ◌∙◌, arith, append-nil}
use Rattle.std.specs.List.{All}
use Rattle.std.proofs.lemmas.List.Elements.{All-append, All-nil, All-cons, All-head, All-tail}
use mathlib.Core.Logic.{dite}
use native.Mathlib.Decide.{ℕ_discrete}
use Rattle.sig_kinds.specs.declared.signal.Signal.{Signal}
use Rattle.sig_kinds.specs.Counting.{IsCounting}
use Rattle.sig_layout.specs.declared.entry.Entry.{Entry}
use Rattle.sig_layout.specs.declared.entry.Entry.TheVariants.{Direct, Fetch, Install, Remove}
use Rattle.sig_layout.specs.declared.policy.Policy.{Policy}
use Rattle.sig_layout.specs.declared.policy.Policy.TheVariants.{Never, Always, Churn, Auto}
use Rattle.sig_layout.specs.declared.via.Via.{Via}
use Rattle.sig_layout.specs.declared.via.Via.TheVariants as via
use Rattle.sig_layout.specs.declared.item.Item.{Item}
use Rattle.sig_layout.specs.declared.setup.Setup.{Setup}
use Rattle.sig_layout.specs.Sent.{sender, putter, of, signals}
use Rattle.sig_layout.specs.Policies.{first_journal, direct_count}
use Rattle.sig_layout.specs.Outers.{put_entries}
use Rattle.sig_layout.specs.Openings.{first_of, IsCarried, IsNext}
use Rattle.sig_layout.specs.Core.{QState, Reached, refused}
use Rattle.sig_layout.specs.Carried.{CarriedAs, Carried, one_outer, outer_count, Ways}
use Rattle.sig_layout.proofs.Sending.{of-append, of_own, of_other, of_signals, signals-append}
use Rattle.sig_layout.proofs.Listing.{lists}
use Rattle.sig_layout.proofs.Stepping.{by_steps}

-- what holds of all
module _ {X : Type 0} (P : X → Type 0) where
  pub all_front : (xs ys : List X) → All P (xs ++ ys) → All P xs
  all_front [] ys h = All-nil P
  all_front (x ∷ xs) ys h = All-cons P x xs (All-head P x (xs ++ ys) h) (all_front xs ys (All-tail P x (xs ++ ys) h))

  pub all_rest : (xs ys : List X) → All P (xs ++ ys) → All P ys
  all_rest [] ys h = h
  all_rest (x ∷ xs) ys h = all_rest xs ys (All-tail P x (xs ++ ys) h)

-- and of each sender's
module _ {X : Type 0} (key : X → ℕ) (P : X → Type 0) where
  pub all_of : (s : ℕ) (xs : List X) → All P xs → All P (of key s xs)
  all_of s [] h = All-nil P
  all_of s (x ∷ xs) h = dite (ℕ_discrete (key x) s)
      (λ e. subst (All P) (sym (of_own key s x xs e))
      (All-cons P x (of key s xs) (All-head P x xs h) (all_of s xs (All-tail P x xs h))))
      (λ n. subst (All P) (sym (of_other key s x xs n)) (all_of s xs (All-tail P x xs h)))

  pub all_each : (xs : List X) → ((s : ℕ) → All P (of key s xs)) → All P xs
  all_each [] h = All-nil P
  all_each (x ∷ xs) h = All-cons P x xs (All-head P x (of key (key x) xs)
      (subst (All P) (of_own key (key x) x xs refl) (h (key x))))
      (all_each xs (λ s. dite (ℕ_discrete (key x) s)
      (λ e. All-tail P x (of key s xs) (subst (All P) (of_own key s x xs e) (h s)))
      (λ n. subst (All P) (of_other key s x xs n) (h s))))

-- numbers that count up
pub counting_front : (n : ℕ) (xs ys : List Signal) → IsCounting n (xs ++ ys) → IsCounting n xs
counting_front n [] ys h = tt
counting_front n (x ∷ xs) ys h = (h.0, counting_front (n + 1) xs ys h.1)

counting_more : (n : ℕ) (xs : List Signal) (x : Signal) → IsCounting n xs → x.number ≡ n + length xs → IsCounting n (xs ++ x ∷ [])
counting_more n [] x h e = (e ∙ omega arith, tt)
counting_more n (y ∷ ys) x h e = (h.0, counting_more (n + 1) ys x h.1 (e ∙ omega arith))

length-signals : (xs : List Item) → length (signals xs) ≡ length xs
length-signals [] = refl
length-signals (x ∷ xs) = ap suc (length-signals xs)

-- one item more, which is the next of its sender
carried_put : (z : Setup) (log put : List Item) (i : Item) → CarriedAs z log → IsNext z put i.signal
    → of putter (putter i) put ≡ of putter (putter i) log → CarriedAs z (log ++ i ∷ [])
carried_put z log put i c next same = let x : Signal = i.signal in
    let more : signals (log ++ i ∷ []) ≡ signals log ++ x ∷ [] = signals-append log (i ∷ []) in record {
      all = subst (All (IsCarried z)) (sym more) (All-append (IsCarried z) (signals log) (x ∷ []) c.all
          (All-cons (IsCarried z) x [] next.carried (All-nil (IsCarried z))));
      counted = λ s h. let apart : of sender s (signals (log ++ i ∷ [])) ≡ of sender s (signals log) ++ of sender s (x ∷ []) =
          ap (of sender s) more ∙ of-append sender s (signals log) (x ∷ []) in dite (ℕ_discrete (sender x) s)
          (λ e. let many : length (of putter (sender x) put) ≡ length (of sender s (signals log)) = ap length same
          ∙ (ap (λ (k : ℕ). length (of putter k log)) e ∙ sym (ap length (of_signals s log) ∙ length-signals (of putter s log))) in
          subst (IsCounting (first_of z s)) (sym (apart ∙ ap (λ (l : List Signal). of sender s (signals log) ++ l)
          (of_own sender s x [] e)))
          (counting_more (first_of z s) (of sender s (signals log)) x (c.counted s h) (next.number
          ∙ (ap (λ (k : ℕ). first_of z k + length (of putter (sender x) put)) e ∙ ap (λ (k : ℕ). first_of z s + k) many))))
          (λ n. subst (IsCounting (first_of z s)) (sym (apart ∙ (ap (λ (l : List Signal). of sender s (signals log) ++ l)
          (of_other sender s x [] n) ∙ append-nil (of sender s (signals log))))) (c.counted s h));
    }

-- counts of what grows
directs-append : (a b : List Entry) → direct_count (a ++ b) ≡ direct_count a + direct_count b
directs-append [] b = omega arith
directs-append (Direct r ∷ es) b = let h = directs-append es b in omega arith
directs-append (Fetch m ∷ es) b = directs-append es b
directs-append (Install ∷ es) b = directs-append es b
directs-append (Remove ∷ es) b = directs-append es b

one_direct : (r switched : Bool) → direct_count (put_entries r switched) ≡ 1
one_direct r true = refl
one_direct r false = refl

no_direct : (p : Policy) → direct_count (first_journal p) ≡ 0
no_direct Never = refl
no_direct Always = refl
no_direct (Churn n) = refl
no_direct Auto = refl

one_suc : (w : Via) (n : ℕ) → one_outer w (suc n) ≡ suc (one_outer w n)
one_suc via.Outer n = refl
one_suc (via.Buffer b) n = refl

outer_more : (log : List Item) (x : Signal) → outer_count (log ++ record { signal = x; via = via.Outer } ∷ []) ≡ suc (outer_count log)
outer_more [] x = refl
outer_more (i ∷ is) x = ap (one_outer i.via) (outer_more is x) ∙ one_suc i.via (outer_count is)

outer_same : (log : List Item) (x : Signal) (c : ℕ)
    → outer_count (log ++ record { signal = x; via = via.Buffer c } ∷ []) ≡ outer_count log
outer_same [] x c = refl
outer_same (i ∷ is) x c = ap (one_outer i.via) (outer_same is x c)

module _ (z : Setup) where
  pub carried : (q : QState) → Reached z q → Carried q
  carried = by_steps z (λ s log _. CarriedAs s log) (record { all = All-nil (IsCarried z); counted = λ s h. tt })
      (λ q i v o x can r c. carried_put q.setup q.log v.put record { signal = x; via = via.Outer } c can.next
      (((lists z q r).each i v can.at).own x.from.0 can.from))
      (λ q i v p x can r c. carried_put q.setup q.log v.put record { signal = x; via = via.Buffer p.number } c can.next
      (((lists z q r).each i v can.at).own x.from.0 can.from))
      (λ s log j moved c. c) (λ s log j c. c)

  pub ways : (q : QState) → Reached z q → Ways q
  ways = by_steps z (λ s log j. direct_count j ≡ outer_count log) (no_direct z.policy)
      (λ q i v o x can r w. let a = directs-append o.journal (put_entries (refused q i v) v.switched) in
      let b = one_direct (refused q i v) v.switched in let c = outer_more q.log x in omega arith)
      (λ q i v p x can r w. w ∙ sym (outer_same q.log x p.number))
      (λ s log j moved w. let a = directs-append j (Fetch moved ∷ []) in omega arith)
      (λ s log j w. let a = directs-append j (Remove ∷ []) in omega arith)
