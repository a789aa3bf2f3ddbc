-- The text of outcomes, and their order (this project's own): of each process what a record's text tells below its events, without
-- arrival numbers, numbers and stamps.
use Rattle.std.specs.Prelude.{ℕ, ◌+◌, Bool, true, false, IsTrue, List, [], ◌∷◌, ◌++◌, map, length, AllPairs, codes, decimal}
use Rattle.std.specs.Cmp.Lexicographic.{slice_cmp}
use Rattle.std.specs.List.{flat_map}
use Rattle.std.specs.Ordering.{is_le, is_lt, nat_cmp}
use Rattle.sig_program.specs.Scripts.{Declared, Program}
use Rattle.sig_outcomes.specs.Outcomes.{Rest, Unhandled}
use Rattle.sig_record.specs.declared.report.Report.{Report}
use Rattle.sig_record.specs.RecordText.{head_text, state_text}
use Rattle.sig_record.specs.EndText.{message_text, waiting_text, ends_text}

-- the names of the script's processes, by pid
abbrev pub names_of : Program → List (List ℕ)
names_of script = map (λ (d : Declared). d.name) script.procs

abbrev pub unhandled_text : Unhandled → List ℕ
unhandled_text x = waiting_text x.sender x.kind

-- how a process stands, behind its `process` line
abbrev pub rest_text : Rest → List ℕ
rest_text r = flat_map message_text r.left ++ flat_map unhandled_text r.queued ++ state_text r.state

-- the processes from this pid on, with these names
abbrev pub rests_text : ℕ → List (List ℕ) → List Rest → List ℕ
rests_text pid [] rests = []
rests_text pid (name ∷ names) [] = []
rests_text pid (name ∷ names) (rest ∷ rests) = head_text pid name ++ rest_text rest ++ rests_text (pid + 1) names rests

-- these bytes stand before those: they are a beginning of those, or have the lower byte at the first place at which the two differ
abbrev pub IsBefore : List ℕ → List ℕ → Type 0
IsBefore bytes others = IsTrue (is_lt (slice_cmp nat_cmp bytes others))

-- the texts of these outcomes ascend, where the processes have these names: no two have the same text, so none stands there twice
abbrev pub AreInTextOrder : List (List ℕ) → List (List Rest) → Type 0
AreInTextOrder names outcomes = AllPairs (λ a b. IsBefore (rests_text 0 names a) (rests_text 0 names b)) outcomes

-- the line with which an outcome begins
abbrev pub number_line : ℕ → List ℕ
number_line number = codes "outcome " ++ decimal number ++ codes "\n"

-- the outcomes from this number on
abbrev pub outcomes_from : ℕ → List (List ℕ) → List (List Rest) → List ℕ
outcomes_from number names [] = []
outcomes_from number names (outcome ∷ outcomes) = number_line number ++ rests_text 0 names outcome ++ outcomes_from (number + 1) names outcomes

-- whether these are all outcomes of the script
abbrev pub extent_text : Bool → List ℕ
extent_text true = codes " all\n"
extent_text false = codes " more\n"

-- the line with which a list of so many outcomes begins
abbrev pub first_line : ℕ → Bool → List ℕ
first_line count all = codes "outcomes " ++ decimal count ++ extent_text all

-- outcomes of a script whose processes have these names
abbrev pub outcomes_text : List (List ℕ) → List (List Rest) → Bool → List ℕ
outcomes_text names outcomes all = first_line (length outcomes) all ++ outcomes_from 1 names outcomes

-- ---- the same of records

-- these bytes don't stand behind those
abbrev pub IsNotBehind : List ℕ → List ℕ → Type 0
IsNotBehind bytes others = IsTrue (is_le (slice_cmp nat_cmp bytes others))

abbrev pub AreEndingsInTextOrder : List (List Report) → Type 0
AreEndingsInTextOrder endings = AllPairs (λ a b. IsNotBehind (ends_text a) (ends_text b)) endings

-- the ends of these records from this number on
abbrev pub endings_from : ℕ → List (List Report) → List ℕ
endings_from number [] = []
endings_from number (ending ∷ endings) = number_line number ++ ends_text ending ++ endings_from (number + 1) endings

abbrev pub endings_text : List (List Report) → Bool → List ℕ
endings_text endings all = first_line (length endings) all ++ endings_from 1 endings
