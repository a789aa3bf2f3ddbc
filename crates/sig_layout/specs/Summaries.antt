-- The running summary of a journal, entry by entry. What it is for is said on whole journals beside the policies.
use Rattle.std.specs.Prelude.{◌≡◌, ◌≢◌, ℕ, ◌+◌, ◌-◌, ◌||◌, ltb, leb, Bool, true, false, if◌then◌else◌, List, [], ◌∷◌}
use Rattle.sig_layout.specs.declared.policy.TheConstants.{AUTO_SCORE, AUTO_RUN, AUTO_FEW}
use Rattle.sig_layout.specs.declared.entry.Entry.{Entry}
use Rattle.sig_layout.specs.declared.entry.Entry.TheVariants.{Direct, Fetch, Install, Remove}
use Rattle.sig_layout.specs.declared.policy.Policy.{Policy}
use Rattle.sig_layout.specs.declared.policy.Policy.TheVariants.{Never, Always, Churn, Auto}
use Rattle.sig_layout.specs.declared.summary.Summary.{Summary}
use Rattle.sig_layout.specs.declared.decision.Due.{Due}
use Rattle.sig_layout.specs.declared.decision.Due.TheVariants as due

abbrev pub fresh : Bool → Summary
fresh on = record { installed = on; directs = 0; fetches = 0; score = 0; reached = false; run = 0; whole_run = false }

abbrev pub scored : ℕ → Bool → ℕ
scored n true = n + 1
scored n false = n - 1

abbrev pub run_on : ℕ → ℕ → ℕ
run_on n moved = if ltb moved AUTO_FEW then n + 1 else 0

abbrev pub after : Summary → Entry → Summary
after s (Direct r) = record s {
  directs = s.directs + 1;
  score = scored s.score r;
  reached = s.reached || leb AUTO_SCORE (scored s.score r);
}
after s (Fetch m) = record s { fetches = s.fetches + 1; run = run_on s.run m; whole_run = s.whole_run || leb AUTO_RUN (run_on s.run m) }
after s Install = fresh true
after s Remove = fresh false

abbrev pub summary : Summary → List Entry → Summary
summary s [] = s
summary s (e ∷ es) = summary (after s e) es

abbrev pub summed : List Entry → Summary
summed j = summary (fresh false) j

abbrev pub due_of : Policy → Summary → Due
due_of Never s = due.Nothing
due_of Always s = if s.installed then due.Nothing else due.Install
due_of (Churn n) s = if s.installed then (if ltb s.fetches n then due.Nothing else due.Remove) else
    (if ltb s.directs n then due.Nothing else due.Install)
due_of Auto s = if s.installed then (if s.whole_run then due.Remove else due.Nothing) else
    (if s.reached then due.Install else due.Nothing)

-- what is due after a journal
abbrev pub due_at : Policy → List Entry → Due
due_at p j = due_of p (summed j)

abbrev pub is_install : Due → Bool
is_install due.Nothing = false
is_install due.Install = true
is_install due.Remove = false

abbrev pub is_remove : Due → Bool
is_remove due.Nothing = false
is_remove due.Install = false
is_remove due.Remove = true

-- which entry may come next
abbrev pub May : Policy → Summary → Entry → Type 0
May p s (Direct r) = due_of p s ≢ due.Install
May p s (Fetch m) = due_of p s ≡ due.Nothing
May p s Install = due_of p s ≡ due.Install
May p s Remove = due_of p s ≡ due.Remove

-- entry by entry, each may come next, and at the end no Install is due
abbrev pub Allowed : Policy → Summary → List Entry → Type 0
Allowed p s [] = due_of p s ≢ due.Install
Allowed p s (e ∷ es) = May p s e × Allowed p (after s e) es

abbrev pub IsAllowed : Policy → List Entry → Type 0
IsAllowed p j = Allowed p (fresh false) j
