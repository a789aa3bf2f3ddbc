-- The running summary of a journal.
use Rattle.std.proofs.Common.{◌≡◌, ◌≢◌, ℕ, suc, ◌+◌, ◌<◌, ◌≤◌, ◌^◌, ◌||◌, ltb, leb, subst, Bool, true, false, if◌then◌else◌, List, [], ◌∷◌, ◌++◌, length, sym, refl, ap, ◌∙◌, arith, append_assoc}
use Rattle.sig_layout.specs.declared.entry.Entry.{Entry}
use Rattle.sig_layout.specs.declared.entry.Entry.TheVariants.{Direct, Fetch, Install, Remove}
use Rattle.sig_layout.specs.declared.summary.Summary.{Summary}
use Rattle.sig_layout.specs.declared.decision.Due.{Due}
use Rattle.sig_layout.specs.declared.decision.Due.TheVariants as due
use Rattle.std.proofs.lemmas.Bool.{lt-ltb}
use Rattle.sig_layout.specs.declared.policy.Policy.{Policy}
use Rattle.sig_layout.specs.declared.policy.Policy.TheVariants.{Never, Always, Churn, Auto}
use Rattle.sig_layout.specs.Outers.{put_entries}
use Rattle.sig_layout.specs.Summaries.{fresh, scored, run_on, after, summary, summed, due_of, due_at, is_install, is_remove, May, Allowed, IsAllowed}
use Rattle.sig_layout.specs.Policies.{begins_on, first_journal, IsPolicy, fetch_count}

pub summary_more : (s : Summary) (j : List Entry) (e : Entry) → summary s (j ++ e ∷ []) ≡ after (summary s j) e
summary_more s [] e = refl
summary_more s (x ∷ xs) e = summary_more (after s x) xs e

pub summed_more : (j : List Entry) (e : Entry) → summed (j ++ e ∷ []) ≡ after (summed j) e
summed_more j e = summary_more (fresh false) j e

pub record Bounded (s : Summary) (n : ℕ) : Type 0 where
  pub directs : s.directs ≤ n
  pub score : s.score ≤ n
  pub fetches : s.fetches ≤ n
  pub run : s.run ≤ n

run_bounded : (b : Bool) (r n : ℕ) → r ≤ n → (if b then r + 1 else 0) ≤ suc n
run_bounded true r n h = omega arith
run_bounded false r n h = omega arith

after_bounded : (s : Summary) (n : ℕ) (e : Entry) → Bounded s n → Bounded (after s e) (suc n)
after_bounded s n (Direct true) b = let d = b.directs in let c = b.score in let f = b.fetches in let r = b.run in
    record { directs = omega arith; score = omega arith; fetches = omega arith; run = omega arith }
after_bounded s n (Direct false) b = let d = b.directs in let c = b.score in let f = b.fetches in let r = b.run in
    record { directs = omega arith; score = omega arith; fetches = omega arith; run = omega arith }
after_bounded s n (Fetch m) b = let d = b.directs in let c = b.score in let f = b.fetches in
    record { directs = omega arith; score = omega arith; fetches = omega arith; run = run_bounded (ltb m 4) s.run n b.run }
after_bounded s n Install b = record { directs = omega arith; score = omega arith; fetches = omega arith; run = omega arith }
after_bounded s n Remove b = record { directs = omega arith; score = omega arith; fetches = omega arith; run = omega arith }

bounded : (s : Summary) (n : ℕ) (j : List Entry) → Bounded s n → Bounded (summary s j) (length j + n)
bounded s n [] b = subst (Bounded s) (omega arith) b
bounded s n (e ∷ es) b = subst (Bounded (summary (after s e) es)) (omega arith)
    (bounded (after s e) (suc n) es (after_bounded s n e b))

pub small : (s : Summary) (j : List Entry) → s ≡ summed j → length j < 2 ^ 62
    → (s.directs < 2 ^ 63) × (s.score < 2 ^ 63) × (s.fetches < 2 ^ 63) × (s.run < 2 ^ 63)
small s j is short = let b = bounded (fresh false) 0 j (record {
  directs = omega arith;
  score = omega arith;
  fetches = omega arith;
  run = omega arith;
}) in
    let d = b.directs in let c = b.score in let f = b.fetches in let r = b.run in
    subst (λ (z : Summary). (z.directs < 2 ^ 63) × (z.score < 2 ^ 63) × (z.fetches < 2 ^ 63) × (z.run < 2 ^ 63)) (sym is)
    (omega arith, omega arith, omega arith, omega arith)

-- one more entry, summed
pub goes_on : (s s' : Summary) (j : List Entry) (e : Entry) → s ≡ summed j → s' ≡ after s e → s' ≡ summed (j ++ e ∷ [])
goes_on s s' j e is now = now ∙ (ap (λ (z : Summary). after z e) is ∙ sym (summed_more j e))

-- the end of a journal that is allowed has no Install due
at_end : (p : Policy) (s : Summary) (j : List Entry) → Allowed p s j → due_of p (summary s j) ≢ due.Install
at_end p s [] h = h
at_end p s (e ∷ es) h = at_end p (after s e) es h.1

-- what may come next, and then a rest that is allowed
goes_on_with : (p : Policy) (s : Summary) (j : List Entry) (e : Entry) (more : List Entry) → Allowed p s j → May p (summary s j) e
    → Allowed p (after (summary s j) e) more → Allowed p s (j ++ e ∷ more)
goes_on_with p s [] e more h may rest = (may, rest)
goes_on_with p s (x ∷ xs) e more h may rest = (h.0, goes_on_with p (after s x) xs e more h.1 may rest)

-- once installed, no Install is due
no_install_on : (p : Policy) → due_of p (fresh true) ≢ due.Install
no_install_on Never h = absurd cc
no_install_on Always h = absurd cc
no_install_on (Churn n) h = elim (ltb 0 n) as (λ b. (if b then due.Nothing else due.Remove) ≡ due.Install
    → ⊥) [ true ↦ (λ k. absurd cc) | false ↦ (λ k. absurd cc) ] h
no_install_on Auto h = absurd cc

-- a fetch makes no Install due
fetch_keeps : (p : Policy) (s : Summary) (m : ℕ) → due_of p s ≢ due.Install → due_of p (after s (Fetch m)) ≢ due.Install
fetch_keeps Never s m h = h
fetch_keeps Always s m h = h
fetch_keeps (Churn n) s m h = elim s.installed as
    (λ b. ((if b then (if ltb s.fetches n then due.Nothing else due.Remove) else
    (if ltb s.directs n then due.Nothing else due.Install)) ≡ due.Install → ⊥)
    → (if b then (if ltb (s.fetches + 1) n then due.Nothing else due.Remove) else
    (if ltb s.directs n then due.Nothing else due.Install)) ≡ due.Install → ⊥) [
      | true ↦ (λ k e. elim (ltb (s.fetches + 1) n) as (λ b. (if b then due.Nothing else due.Remove) ≡ due.Install
          → ⊥) [ true ↦ (λ z. absurd cc) | false ↦ (λ z. absurd cc) ] e)
      | false ↦ (λ k. k)
    ] h
fetch_keeps Auto s m h = elim s.installed as (λ b. ((if b then (if s.whole_run then due.Remove else due.Nothing) else
    (if s.reached then due.Install else due.Nothing)) ≡ due.Install → ⊥)
    → (if b then (if (s.whole_run || leb 16 (run_on s.run m)) then due.Remove else due.Nothing) else
    (if s.reached then due.Install else due.Nothing)) ≡ due.Install → ⊥) [
      | true ↦ (λ k e. elim (s.whole_run || leb 16 (run_on s.run m)) as (λ b. (if b then due.Remove else due.Nothing) ≡ due.Install
          → ⊥) [ true ↦ (λ z. absurd cc) | false ↦ (λ z. absurd cc) ] e)
      | false ↦ (λ k. k)
    ] h

-- a removal that is due is only due where the buffers are installed, and a put doesn't change that
pub put_keeps : (p : Policy) (s : Summary) (r : Bool) → due_of p s ≡ due.Remove → due_of p (after s (Direct r)) ≡ due.Remove
put_keeps Never s r h = h
put_keeps Always s r h = h
put_keeps (Churn n) s r h = elim s.installed as (λ b. (if b then (if ltb s.fetches n then due.Nothing else due.Remove) else
    (if ltb s.directs n then due.Nothing else due.Install)) ≡ due.Remove
    → (if b then (if ltb s.fetches n then due.Nothing else due.Remove) else
    (if ltb (s.directs + 1) n then due.Nothing else due.Install)) ≡ due.Remove) [
      | true ↦ (λ k. k)
      | false ↦ (λ k. elim (ltb s.directs n) as (λ b. (if b then due.Nothing else due.Install) ≡ due.Remove
          → (if ltb (s.directs + 1) n then due.Nothing else due.Install) ≡ due.Remove) [
            | true ↦ (λ z. absurd cc)
            | false ↦
                (λ z. absurd cc)
          ] k)
    ] h
put_keeps Auto s r h = elim s.installed as (λ b. (if b then (if s.whole_run then due.Remove else due.Nothing) else
    (if s.reached then due.Install else due.Nothing)) ≡ due.Remove
    → (if b then (if s.whole_run then due.Remove else due.Nothing) else
    (if (s.reached || leb 64 (scored s.score r)) then due.Install else due.Nothing)) ≡ due.Remove) [
      | true ↦ (λ k. k)
      | false ↦ (λ k. elim s.reached as (λ b. (if b then due.Install else due.Nothing) ≡ due.Remove
          → (if (b || leb 64 (scored s.score r)) then due.Install else due.Nothing) ≡ due.Remove) [
            | true ↦ (λ z. absurd cc)
            | false ↦
                (λ z. absurd cc)
          ] k)
    ] h

-- after a removal no Install is due at once
remove_keeps : (p : Policy) (s : Summary) → IsPolicy p → due_of p s ≡ due.Remove → due_of p (fresh false) ≢ due.Install
remove_keeps Never s w h e = absurd cc
remove_keeps Always s w h e = elim s.installed as (λ b. (if b then due.Nothing else due.Install) ≡ due.Remove
    → ⊥) [ true ↦ (λ z. absurd cc) | false ↦ (λ z. absurd cc) ] h
remove_keeps (Churn n) s w h e = let t : ltb 0 n ≡ true = lt-ltb 0 n w in
    let k : due.Nothing ≡ due.Install = sym (ap (λ (b : Bool). if b then due.Nothing else due.Install) t) ∙ e in absurd cc
remove_keeps Auto s w h e = absurd cc

pub neither : (d : Due) → d ≢ due.Install → d ≢ due.Remove → d ≡ due.Nothing
neither due.Nothing a b = refl
neither due.Install a b = absurd (a refl)
neither due.Remove a b = absurd (b refl)

pub record Keeps (p : Policy) (j : List Entry) : Type 0 where
  -- a put, which installs where it makes that due
  pub put : (r : Bool) → due_at p (j ++ Direct r ∷ []) ≢ due.Install → IsAllowed p (j ++ Direct r ∷ [])
  pub put_install : (r : Bool) → due_at p (j ++ Direct r ∷ []) ≡ due.Install → IsAllowed p (j ++ Direct r ∷ Install ∷ [])
  pub fetches : (m : ℕ) → due_at p j ≢ due.Remove → IsAllowed p (j ++ Fetch m ∷ [])
  pub removes : due_at p j ≡ due.Remove → IsAllowed p (j ++ Remove ∷ [])

pub keeps_allowed : (p : Policy) → IsPolicy p → (j : List Entry) → IsAllowed p j → Keeps p j
keeps_allowed p w j law = let s : Summary = fresh false in let open_end = at_end p s j law in record {
  put = λ r h. goes_on_with p s j (Direct r) [] law open_end (λ e. h (ap (due_of p) (summary_more s j (Direct r)) ∙ e));
  put_install = λ r h. goes_on_with p s j (Direct r) (Install ∷ []) law open_end (
    sym (ap (due_of p) (summary_more s j (Direct r)))
        ∙ h,
    no_install_on p,
  );
  fetches = λ m h. goes_on_with p s j (Fetch m) [] law (neither (due_of p (summary s j)) open_end h)
      (fetch_keeps p (summary s j) m open_end);
  removes = λ h. goes_on_with p s j Remove [] law h (remove_keeps p (summary s j) w h);
}

no_remove_by : (b : Bool) → is_remove (if b then due.Nothing else due.Install) ≡ false
no_remove_by true = refl
no_remove_by false = refl

no_remove_of : (b : Bool) → is_remove (if b then due.Install else due.Nothing) ≡ false
no_remove_of true = refl
no_remove_of false = refl

-- a put leaves a removal due exactly where it was
remove_kept : (p : Policy) (s : Summary) (r : Bool) → is_remove (due_of p (after s (Direct r))) ≡ is_remove (due_of p s)
remove_kept Never s r = refl
remove_kept Always s r = refl
remove_kept (Churn n) s r = elim s.installed as (λ b. is_remove
    (if b then (if ltb s.fetches n then due.Nothing else due.Remove) else
    (if ltb (s.directs + 1) n then due.Nothing else due.Install)) ≡ is_remove
    (if b then (if ltb s.fetches n then due.Nothing else due.Remove) else (if ltb s.directs n then due.Nothing else due.Install)))
    [ true ↦ refl | false ↦ no_remove_by (ltb (s.directs + 1) n) ∙ sym (no_remove_by (ltb s.directs n)) ]
remove_kept Auto s r = elim s.installed as (λ b. is_remove (if b then (if s.whole_run then due.Remove else due.Nothing) else
    (if (s.reached || leb 64 (scored s.score r)) then due.Install else due.Nothing)) ≡ is_remove
    (if b then (if s.whole_run then due.Remove else due.Nothing) else (if s.reached then due.Install else due.Nothing)))
    [ true ↦ refl | false ↦ no_remove_of (s.reached || leb 64 (scored s.score r)) ∙ sym (no_remove_of s.reached) ]

fresh_off : (p : Policy) → is_remove (due_of p (fresh false)) ≡ false
fresh_off Never = refl
fresh_off Always = refl
fresh_off (Churn n) = no_remove_by (ltb 0 n)
fresh_off Auto = refl

fresh_on : (p : Policy) → IsPolicy p → is_remove (due_of p (fresh true)) ≡ false
fresh_on Never w = refl
fresh_on Always w = refl
fresh_on (Churn n) w = ap (λ (b : Bool). is_remove (if b then due.Nothing else due.Remove)) (lt-ltb 0 n w)
fresh_on Auto w = refl

not_remove : (d : Due) → is_install d ≡ true → is_remove d ≡ false
not_remove due.Nothing h = absurd cc
not_remove due.Install h = refl
not_remove due.Remove h = absurd cc

pub is_install_so : (d : Due) → is_install d ≡ true → d ≡ due.Install
is_install_so due.Nothing h = absurd cc
is_install_so due.Install h = refl
is_install_so due.Remove h = absurd cc

pub is_install_not : (d : Due) → is_install d ≡ false → d ≢ due.Install
is_install_not d h e = let k : true ≡ false = sym (ap is_install e) ∙ h in absurd cc

pub is_remove_so : (d : Due) → is_remove d ≡ true → d ≡ due.Remove
is_remove_so due.Nothing h = absurd cc
is_remove_so due.Install h = absurd cc
is_remove_so due.Remove h = refl

pub is_remove_not : (d : Due) → is_remove d ≡ false → d ≢ due.Remove
is_remove_not d h e = let k : true ≡ false = sym (ap is_remove e) ∙ h in absurd cc

pub put_allowed : (p : Policy) → IsPolicy p → (j : List Entry) → IsAllowed p j → (r switched : Bool)
    → switched ≡ is_install (due_at p (j ++ Direct r ∷ [])) → IsAllowed p (j ++ put_entries r switched)
put_allowed p w j law r true is = (keeps_allowed p w j law).put_install r (is_install_so (due_at p (j ++ Direct r ∷ [])) (sym is))
put_allowed p w j law r false is = (keeps_allowed p w j law).put r (is_install_not (due_at p (j ++ Direct r ∷ [])) (sym is))

pub put_installed : (j : List Entry) (r switched mode : Bool) → (switched ≡ true → mode ≡ true)
    → (switched ≡ false → mode ≡ (summed j).installed) → mode ≡ (summed (j ++ put_entries r switched)).installed
put_installed j r true mode on off = on refl ∙ sym (ap (λ (s : Summary). s.installed)
    (ap summed (sym (append_assoc j (Direct r ∷ []) (Install ∷ []))) ∙ summed_more (j ++ Direct r ∷ []) Install))
put_installed j r false mode on off = off refl ∙ sym (ap (λ (s : Summary). s.installed) (summed_more j (Direct r)))

pub put_due : (p : Policy) → IsPolicy p → (j : List Entry) (r switched : Bool) → switched ≡ is_install (due_at p (j ++ Direct r ∷ []))
    → is_remove (due_at p j) ≡ is_remove (due_at p (j ++ put_entries r switched))
put_due p w j r true is = let d : Due = due_at p (j ++ Direct r ∷ []) in
    sym (remove_kept p (summed j) r) ∙ (sym (ap (λ (s : Summary). is_remove (due_of p s)) (summed_more j (Direct r)))
    ∙ (not_remove d (sym is)
    ∙ sym (ap (λ (s : Summary). is_remove (due_of p s)) (ap summed (sym (append_assoc j (Direct r ∷ []) (Install ∷ [])))
    ∙ summed_more (j ++ Direct r ∷ []) Install) ∙ fresh_on p w)))
put_due p w j r false is = sym (ap (λ (s : Summary). is_remove (due_of p s)) (summed_more j (Direct r)) ∙ remove_kept p (summed j) r)

pub fetch_allowed : (p : Policy) → IsPolicy p → (j : List Entry) → IsAllowed p j → (m : ℕ) → is_remove (due_at p j) ≡ false
    → IsAllowed p (j ++ Fetch m ∷ [])
fetch_allowed p w j law m h = (keeps_allowed p w j law).fetches m (is_remove_not (due_at p j) h)

pub fetch_installed : (j : List Entry) (m : ℕ) → (summed (j ++ Fetch m ∷ [])).installed ≡ (summed j).installed
fetch_installed j m = ap (λ (s : Summary). s.installed) (summed_more j (Fetch m))

pub remove_allowed : (p : Policy) → IsPolicy p → (j : List Entry) → IsAllowed p j → is_remove (due_at p j) ≡ true
    → IsAllowed p (j ++ Remove ∷ [])
remove_allowed p w j law h = (keeps_allowed p w j law).removes (is_remove_so (due_at p j) h)

pub remove_installed : (j : List Entry) → (summed (j ++ Remove ∷ [])).installed ≡ false
remove_installed j = ap (λ (s : Summary). s.installed) (summed_more j Remove)

pub remove_due : (p : Policy) (j : List Entry) → is_remove (due_at p (j ++ Remove ∷ [])) ≡ false
remove_due p j = ap (λ (s : Summary). is_remove (due_of p s)) (summed_more j Remove) ∙ fresh_off p

pub first_allowed : (p : Policy) → IsPolicy p → IsAllowed p (first_journal p)
first_allowed Never w = λ h. absurd cc
first_allowed Always w = (refl, λ h. absurd cc)
first_allowed (Churn n) w = λ e. let t : ltb 0 n ≡ true = lt-ltb 0 n w in
    let k : due.Nothing ≡ due.Install = sym (ap (λ (b : Bool). if b then due.Nothing else due.Install) t) ∙ e in absurd cc
first_allowed Auto w = λ h. absurd cc

pub first_installed : (p : Policy) → begins_on p ≡ (summed (first_journal p)).installed
first_installed Never = refl
first_installed Always = refl
first_installed (Churn n) = refl
first_installed Auto = refl

pub first_due : (p : Policy) → is_remove (due_at p (first_journal p)) ≡ false
first_due Never = refl
first_due Always = refl
first_due (Churn n) = no_remove_by (ltb 0 n)
first_due Auto = refl

counted-append : (a b : List Entry) → fetch_count (a ++ b) ≡ fetch_count a + fetch_count b
counted-append [] b = omega arith
counted-append (Direct r ∷ es) b = counted-append es b
counted-append (Fetch m ∷ es) b = let r = counted-append es b in omega arith
counted-append (Install ∷ es) b = counted-append es b
counted-append (Remove ∷ es) b = counted-append es b

pub put_counted : (j : List Entry) (r switched : Bool) → fetch_count j ≡ fetch_count (j ++ put_entries r switched)
put_counted j r true = let e = counted-append j (Direct r ∷ Install ∷ []) in omega arith
put_counted j r false = let e = counted-append j (Direct r ∷ []) in omega arith

pub fetch_counted : (j : List Entry) (m : ℕ) → fetch_count j + 1 ≡ fetch_count (j ++ Fetch m ∷ [])
fetch_counted j m = let e = counted-append j (Fetch m ∷ []) in omega arith

pub remove_counted : (j : List Entry) → fetch_count j ≡ fetch_count (j ++ Remove ∷ [])
remove_counted j = let e = counted-append j (Remove ∷ []) in omega arith

pub first_counted : (p : Policy) → 0 ≡ fetch_count (first_journal p)
first_counted Never = refl
first_counted Always = refl
first_counted (Churn n) = refl
first_counted Auto = refl
