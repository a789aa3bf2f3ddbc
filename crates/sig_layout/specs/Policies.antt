-- When buffers are to be installed and removed, and which journals are lawful. (This project's own. The runtime's notes on parallel
-- signal sending tell of a policy of that kind.)
use Rattle.std.specs.Prelude.{◌≡◌, ◌⊎◌, ℕ, suc, ◌+◌, ◌-◌, ◌<◌, ◌≤◌, Bool, true, false, List, [], ◌∷◌, ◌++◌, All}
use Rattle.sig_kinds.specs.declared.queue_data.QueueData.{QueueData}
use Rattle.sig_kinds.specs.declared.queue_data.QueueData.TheVariants.{OnHeap, OffHeap}
use Rattle.sig_layout.specs.declared.policy.TheConstants.{AUTO_SCORE, AUTO_RUN, AUTO_FEW}
use Rattle.sig_layout.specs.declared.entry.Entry.{Entry}
use Rattle.sig_layout.specs.declared.entry.Entry.TheVariants.{Direct, Fetch, Install, Remove}
use Rattle.sig_layout.specs.declared.policy.Policy.{Policy}
use Rattle.sig_layout.specs.declared.policy.Policy.TheVariants.{Never, Always, Churn, Auto}
use Rattle.sig_layout.specs.declared.via.Via.{Via}
use Rattle.sig_layout.specs.declared.via.Via.TheVariants as via
use Rattle.sig_layout.specs.declared.decision.Due.{Due}
use Rattle.sig_layout.specs.declared.decision.Due.TheVariants as due

-- The policy by which a queue goes whose receiver keeps its message queue so: on the heap there are no buffers, as under Never.
-- (The runtime's notes on parallel signal sending: it is for processes that have their message queue outside the heap.)
abbrev pub ruled : Policy → QueueData → Policy
ruled p OnHeap = Never
ruled p OffHeap = p

abbrev pub IsPolicy : Policy → Type 0
IsPolicy Never = Unit {0}
IsPolicy Always = Unit {0}
IsPolicy (Churn n) = 0 < n
IsPolicy Auto = Unit {0}

-- a queue under Always begins with its buffers installed
abbrev pub begins_on : Policy → Bool
begins_on Never = false
begins_on Always = true
begins_on (Churn n) = false
begins_on Auto = false

abbrev pub first_journal : Policy → List Entry
first_journal Never = []
first_journal Always = Install ∷ []
first_journal (Churn n) = []
first_journal Auto = []

-- under Never the mode is never on, and under Always it is never off
abbrev pub AllowsMode : Policy → Bool → Type 0
AllowsMode Never on = on ≡ false
AllowsMode Always on = on ≡ true
AllowsMode (Churn n) on = Unit {0}
AllowsMode Auto on = Unit {0}

-- under Never no way is a buffer, and under Always none is the outer list
abbrev pub AllowsWay : Policy → Via → Type 0
AllowsWay p via.Outer = AllowsMode p false
AllowsWay p (via.Buffer b) = AllowsMode p true

-- no switch
abbrev pub IsNoSwitch : Entry → Type 0
IsNoSwitch (Direct r) = Unit {0}
IsNoSwitch (Fetch m) = Unit {0}
IsNoSwitch Install = ⊥
IsNoSwitch Remove = ⊥

abbrev pub IsDirect : Entry → Type 0
IsDirect (Direct r) = Unit {0}
IsDirect (Fetch m) = ⊥
IsDirect Install = ⊥
IsDirect Remove = ⊥

-- a fetch that moved fewer signals than AUTO_FEW out of buffers, or a direct put, which isn't counted
abbrev pub IsLittle : Entry → Type 0
IsLittle (Direct r) = Unit {0}
IsLittle (Fetch m) = m < AUTO_FEW
IsLittle Install = ⊥
IsLittle Remove = ⊥

abbrev pub direct_count : List Entry → ℕ
direct_count [] = 0
direct_count (Direct r ∷ es) = suc (direct_count es)
direct_count (Fetch m ∷ es) = direct_count es
direct_count (Install ∷ es) = direct_count es
direct_count (Remove ∷ es) = direct_count es

abbrev pub fetch_count : List Entry → ℕ
fetch_count [] = 0
fetch_count (Direct r ∷ es) = fetch_count es
fetch_count (Fetch m ∷ es) = suc (fetch_count es)
fetch_count (Install ∷ es) = fetch_count es
fetch_count (Remove ∷ es) = fetch_count es

-- The part behind the last switch, which is the whole journal where there is none. The journal is in the installed state where
-- that switch is an Install.
pub data IsPeriod : List Entry → Bool → List Entry → Type 0 where
  whole : (p : List Entry) → All IsNoSwitch p → IsPeriod p false p
  installed : (before p : List Entry) → All IsNoSwitch p → IsPeriod (before ++ Install ∷ p) true p
  removed : (before p : List Entry) → All IsNoSwitch p → IsPeriod (before ++ Remove ∷ p) false p

-- a refused put adds 1 to the score, and any other takes 1 away, not below 0
abbrev pub score_from : ℕ → List Entry → ℕ
score_from n [] = n
score_from n (Direct true ∷ es) = score_from (n + 1) es
score_from n (Direct false ∷ es) = score_from (n - 1) es
score_from n (Fetch m ∷ es) = score_from n es
score_from n (Install ∷ es) = score_from n es
score_from n (Remove ∷ es) = score_from n es

-- the score was AUTO_SCORE after some front of the period
pub record HasReached (p : List Entry) : Type 0 where
  pub front : List Entry
  pub rest : List Entry
  pub is : p ≡ front ++ rest
  pub score : AUTO_SCORE ≤ score_from 0 front

-- somewhere in the period AUTO_RUN fetches in a row moved little
pub record HasIdled (p : List Entry) : Type 0 where
  pub front : List Entry
  pub row : List Entry
  pub rest : List Entry
  pub is : p ≡ front ++ (row ++ rest)
  pub little : All IsLittle row
  pub whole_run : AUTO_RUN ≤ fetch_count row

-- what asks for an Install in a period that isn't installed
abbrev pub AsksInstall : Policy → List Entry → Type 0
AsksInstall Never p = ⊥
AsksInstall Always p = Unit {0}
AsksInstall (Churn n) p = n ≤ direct_count p
AsksInstall Auto p = HasReached p

-- what asks for a Remove in a period that is
abbrev pub AsksRemove : Policy → List Entry → Type 0
AsksRemove Never p = ⊥
AsksRemove Always p = ⊥
AsksRemove (Churn n) p = n ≤ fetch_count p
AsksRemove Auto p = HasIdled p

abbrev pub InstallDue : Policy → List Entry → Type 0
InstallDue policy j = (p : List Entry) × IsPeriod j false p × AsksInstall policy p

abbrev pub RemoveDue : Policy → List Entry → Type 0
RemoveDue policy j = (p : List Entry) × IsPeriod j true p × AsksRemove policy p

-- what is due after a journal
abbrev pub IsDue : Policy → List Entry → Due → Type 0
IsDue policy j due.Nothing = (InstallDue policy j → ⊥) × (RemoveDue policy j → ⊥)
IsDue policy j due.Install = InstallDue policy j
IsDue policy j due.Remove = RemoveDue policy j

-- the first entry that isn't Direct is a Remove, or there is none
pub record RemovesNext (j : List Entry) : Type 0 where
  pub directs : List Entry
  pub rest : List Entry
  pub is : j ≡ directs ++ rest
  pub direct : All IsDirect directs
  pub next : (rest ≡ []) ⊎ ((more : List Entry) × (rest ≡ Remove ∷ more))

-- a lawful journal: the switches stand where they are due, and there alone
pub record IsLawfulJournal (policy : Policy) (j : List Entry) : Type 0 where
  -- an Install stands directly behind each part after which it is due
  pub installs : (front rest : List Entry) → j ≡ front ++ rest → InstallDue policy front
      → (more : List Entry) × (rest ≡ Install ∷ more)
  -- and only there
  pub install_due : (front rest : List Entry) → j ≡ front ++ Install ∷ rest → InstallDue policy front
  -- behind a part after which a Remove is due, the next entry that isn't Direct is a Remove, or there is none
  pub removes : (front rest : List Entry) → j ≡ front ++ rest → RemoveDue policy front → RemovesNext rest
  -- and a Remove stands only there
  pub remove_due : (front rest : List Entry) → j ≡ front ++ Remove ∷ rest → RemoveDue policy front
