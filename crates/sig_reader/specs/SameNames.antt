-- The names that a script gives its processes and labels.
use Rattle.std.specs.Prelude.{◌≡◌, ℕ, List, map}
use Rattle.sig_program.specs.declared.label.Label.{Label}
use Rattle.sig_program.specs.Scripts.{Declared, Program}
use Rattle.sig_tokens.specs.declared.known.Known.{Known}
use Rattle.sig_tokens.specs.declared.known.Known.TheVariants.{Among}

-- the names of labels
abbrev pub label_names : List Label → List (List ℕ)
label_names labels = map (λ (l : Label). l.name) labels

-- the name of a process, and those of its labels
pub record Named : Type 0 where
  pub name : List ℕ
  pub labels : List (List ℕ)

abbrev pub named : Declared → Named
named p = record { name = p.name; labels = label_names p.labels }

-- the names of processes, each with those of its labels
abbrev pub names_within : List Declared → List Named
names_within procs = map named procs

-- the names that are known are those of the script
abbrev pub AreItsNames : Known → Program → Type 0
AreItsNames known s = (names : Program) × (known ≡ Among names) × (names_within names.procs ≡ names_within s.procs)
