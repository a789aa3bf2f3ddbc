-- The text of a term, as Erlang writes it (Erlang Reference Manual, Data Types); of pids and references the form is this
-- project's own. Each term has one text.
use Rattle.std.specs.Prelude.{ℕ, List, [], ◌∷◌, ◌++◌, if◌then◌else◌, decimal, codes, map}
use Rattle.std.specs.Fmt.{signed_decimal}
use Rattle.std.specs.List.{concat}
use Rattle.sig_terms.specs.Words.{is_name}
use Rattle.sig_terms.specs.declared.reference.Ref.{Ref}
use Rattle.sig_terms.specs.declared.term.Term.{Term}
use Rattle.sig_terms.specs.declared.term.Term.TheOpen.{Term-F}
use Rattle.sig_terms.specs.declared.term.Term.TheOpen as layer
use Rattle.sig_terms.specs.declared.term.Term.TheFolds.{fold-Term}

-- an atom's bytes as they are where they are a name, and else between two `'`
abbrev pub atom_text : List ℕ → List ℕ
atom_text bytes = if is_name bytes then bytes else (39 ∷ []) ++ bytes ++ (39 ∷ [])

-- `<N>`
abbrev pub pid_text : ℕ → List ℕ
pid_text n = (60 ∷ []) ++ decimal n ++ (62 ∷ [])

-- `#Ref<O.S>`
abbrev pub reference_text : Ref → List ℕ
reference_text r = codes "#Ref<" ++ decimal r.owner.0 ++ codes "." ++ decimal r.serial ++ codes ">"

abbrev pub after_comma : List ℕ → List ℕ
after_comma text = codes "," ++ text

-- texts with a comma between two
abbrev pub joined : List (List ℕ) → List ℕ
joined [] = []
joined (t ∷ ts) = t ++ concat (map after_comma ts)

-- the text of a term from the texts of its elements
abbrev pub text_step : Term-F (List ℕ) → List ℕ
text_step (layer.Int n) = signed_decimal n
text_step (layer.Atom bytes) = atom_text bytes
text_step (layer.Pid p) = pid_text p.0
text_step (layer.Ref r) = reference_text r
text_step (layer.Tuple ts) = codes "{" ++ joined ts ++ codes "}"
text_step (layer.List ts) = codes "[" ++ joined ts ++ codes "]"

abbrev pub term_text : Term → List ℕ
term_text = fold-Term (List ℕ) text_step
