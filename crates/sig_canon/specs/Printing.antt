-- Parts of the canonical text, as they are printed one after another.
use Rattle.std.specs.Prelude.{ℕ, List, [], ◌∷◌, ◌++◌, map, filter, nat_le, Option, codes}
use Rattle.std.specs.List.{concat}
use Rattle.sig_patterns.specs.declared.clause.Clause.{Clause}
use Rattle.sig_patterns.specs.declared.guard.Test.{Test}
use Rattle.sig_program.specs.declared.instruction.After.{After}
use Rattle.sig_program.specs.declared.label.Label.{Label}
use Rattle.sig_canon.specs.ScriptText.{after_blank, test_text, tests_text, alternatives_text, clause_line, after_lines}

-- the first of several lines
abbrev pub first_of : List (List ℕ) → List ℕ
first_of [] = []
first_of (line ∷ lines) = line

-- the lines behind the first
abbrev pub rest_of : List (List ℕ) → List (List ℕ)
rest_of [] = []
rest_of (line ∷ lines) = lines

-- the lines of a receive behind its first
abbrev pub inside_lines : List (List ℕ) → List (List ℕ) → List Clause → Option After → List (List ℕ)
inside_lines names labels clauses after = map (clause_line names labels) clauses ++ after_lines labels after ++ codes "end" ∷ []

-- the labels that stand at this place or behind it
abbrev pub labels_from : ℕ → List Label → List Label
labels_from place = filter (λ (l : Label). nat_le place l.place)

-- a test behind a word, the tests of an alternative behind one, and alternatives; each text behind a blank
abbrev pub test_behind : List ℕ → Test → List ℕ
test_behind word t = concat (map after_blank (word ∷ test_text t []))

abbrev pub tests_behind : List ℕ → List Test → List ℕ
tests_behind word tests = concat (map after_blank (tests_text word tests []))

abbrev pub alternatives_behind : List ℕ → List (List Test) → List ℕ
alternatives_behind word alternatives = concat (map after_blank (alternatives_text word alternatives []))
