-- Scripts whose processes have names that a text can spell (what a name token is, is this project's own).
use Rattle.std.specs.Prelude.{◌≡◌, All, true}
use Rattle.sig_terms.specs.Words.{is_name}
use Rattle.sig_program.specs.Scripts.{Declared, Program}

-- the name of each process of the script is a name token
abbrev pub AreNames : Program → Type 0
AreNames script = All (λ (d : Declared). is_name d.name ≡ true) script.procs
