-- The bounds while a text is read.
use Rattle.std.proofs.Common.{ℕ, ◌<◌, ◌≤◌, ◌^◌, List, [], ◌∷◌, ◌++◌, length, All, arith}
use Rattle.std.proofs.lemmas.List.Elements.{All-nil, All-cons, All-head, All-tail}
use Rattle.sig_program.specs.declared.script.TheConstants.{MOST_PROCESSES}
use Rattle.sig_program.specs.Scripts.{Declared, most_processes}
use Rattle.sig_program.proofs.ProcessCounts.{most_of_all}
use Rattle.sig_reader.specs.declared.draft.Draft.{Draft}
use Rattle.sig_reader.specs.declared.draft.Section.{Section}
use Rattle.sig_reader.specs.declared.draft.Section.TheVariants.{Before, Outside, Inside}
use Rattle.sig_reader.specs.Drafts.{open_proc, all_procs}
use Rattle.sig_reader.specs.Fitting.{IsSmall}

pub all-last : {A : Type 0} (P : A → Type 0) (xs : List A) (x : A) → All P (xs ++ x ∷ []) → P x
all-last P [] x h = All-head P x [] h
all-last P (y ∷ ys) x h = all-last P ys x (All-tail P y (ys ++ x ∷ []) h)

-- the process that is being read has few instructions and labels
pub one_few : (p : Declared) → All (IsSmall (2 ^ 31)) (p ∷ []) → IsSmall (2 ^ 31) p
one_few p h = All-head (IsSmall (2 ^ 31)) p [] h

wider : (n : ℕ) (p : Declared) → n < 2 ^ 31 → IsSmall n p → IsSmall (2 ^ 31) p
wider n p lt h = record { instrs = omega (arith, lt, h.instrs); labels = omega (arith, lt, h.labels) }

last-of : (n : ℕ) (procs : List Declared) (p : Declared) → n < 2 ^ 31 → All (IsSmall n) (procs ++ p ∷ []) → All (IsSmall (2 ^ 31)) (p ∷ [])
last-of n procs p lt h = All-cons (IsSmall (2 ^ 31)) p [] (wider n p lt (all-last (IsSmall n) procs p h)) (All-nil (IsSmall (2 ^ 31)))

pub open_fits : (n : ℕ) (procs : List Declared) (section : Section) → n < 2 ^ 31 → All (IsSmall n) (procs ++ open_proc section) → All (IsSmall (2 ^ 31)) (open_proc section)
open_fits n procs Before lt h = All-nil (IsSmall (2 ^ 31))
open_fits n procs (Outside p) lt h = last-of n procs p lt h
open_fits n procs (Inside p r) lt h = last-of n procs p lt h

-- as many processes as a version allows
pub few_in_all : (d : Draft) → length (all_procs d) ≤ most_processes d.version → length (all_procs d) ≤ MOST_PROCESSES
few_in_all d h = omega (arith, h, most_of_all d.version)
