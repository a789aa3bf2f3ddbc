-- Options with their values, and the rows in which clap keeps them.
use Rattle.std.proofs.Common.{◌≡◌, ◌∙◌, Bool, true, false, List, [], ◌∷◌, ◌++◌, map, append-nil, Option, Some, None, refl, ap, sym}
use Rattle.std.specs.Prelude.{if◌then◌else◌, option_and_then, slice_get, find}
use Rattle.std.specs.Str.{bytes_eq}
use Rattle.std.proofs.lemmas.List.{map-append}
use Rattle.clap.specs.Walk.{Row, Rule, Text, at_row, first_of, has_row, more_values, reading_by, used, with_default, with_values}
use Rattle.clap.specs.Simple.{filled}
use Rattle.clap.specs.declared.parser.matches.ValueSource.TheVariants.{CommandLine}
use Rattle.sig_host.specs.Words.{option_named}

-- an option as the built command has it
abbrev pub built_option : Text → Rule
built_option name = filled (option_named name)

-- what is kept of an option with this value
abbrev pub row_for : Text → Text → Row
row_for name value = record { id = name; values = value ∷ []; count = None; source = Some CommandLine; reading = reading_by (built_option name) }

abbrev pub Pairs : Type 0
Pairs = List (Text × Text)

abbrev pub rows_for : Pairs → List Row
rows_for pairs = map (λ (p : Text × Text). row_for p.0 p.1) pairs

abbrev pub with_pair : Pairs → Text → Text → Pairs
with_pair pairs name value = pairs ++ (name, value) ∷ []

-- the value of the first pair of this name
abbrev pub value_of : Text → Pairs → Option Text
value_of name [] = None
value_of name (p ∷ ps) = if bytes_eq p.0 name then Some p.1 else value_of name ps

pub first_row : (name : Text) (ps : Pairs) → first_of name (rows_for ps) ≡ value_of name ps
first_row name [] = refl
first_row name (p ∷ ps) = go (bytes_eq p.0 name) (first_row name ps)
  where
    go : (b : Bool) → first_of name (rows_for ps) ≡ value_of name ps
        → option_and_then (λ (r : Row). slice_get r.values 0) (if b then Some (row_for p.0 p.1) else find (λ (r : Row). bytes_eq r.id name) (rows_for ps))
        ≡ (if b then Some p.1 else value_of name ps)
    go true e = refl
    go false e = e

pub no_row : (name : Text) (ps : Pairs) → value_of name ps ≡ None → has_row name (rows_for ps) ≡ false
no_row name [] e = refl
no_row name (p ∷ ps) e = go (bytes_eq p.0 name) refl (no_row name ps)
  where
    go : (b : Bool) → bytes_eq p.0 name ≡ b → (value_of name ps ≡ None → has_row name (rows_for ps) ≡ false) → has_row name (rows_for (p ∷ ps)) ≡ false
    go true t more = let bad : Some p.1 ≡ None = rw t at e in cc
    go false t more = rw t (more (rw t at e))

-- a row of a new name comes last
at_end : (name : Text) (ps : Pairs) (change : Row → List Row) (missing : List Row) → value_of name ps ≡ None
    → at_row name change missing (rows_for ps) ≡ rows_for ps ++ missing
at_end name [] change missing e = refl
at_end name (p ∷ ps) change missing e = go (bytes_eq p.0 name) refl (at_end name ps change missing)
  where
    go : (b : Bool) → bytes_eq p.0 name ≡ b → (value_of name ps ≡ None → at_row name change missing (rows_for ps) ≡ rows_for ps ++ missing)
        → at_row name change missing (rows_for (p ∷ ps)) ≡ rows_for (p ∷ ps) ++ missing
    go true t more = let bad : Some p.1 ≡ None = rw t at e in cc
    go false t more = rw t (ap (λ (rs : List Row). row_for p.0 p.1 ∷ rs) (more (rw t at e)))

pub used_fresh : (name value : Text) (ps : Pairs) → value_of name ps ≡ None → used (built_option name) (value ∷ []) (rows_for ps) ≡ rows_for (with_pair ps name value)
used_fresh name value ps e =
    ap (with_values name (reading_by (built_option name)) CommandLine (value ∷ [])) (at_end name ps (λ _. []) [] e ∙ append-nil (rows_for ps))
    ∙ at_end name ps (more_values CommandLine (value ∷ [])) (row_for name value ∷ []) e ∙ sym (map-append (λ (p : Text × Text). row_for p.0 p.1) ps ((name, value) ∷ []))

-- the value of another name stays
pub value_kept : (other name value : Text) (ps : Pairs) → bytes_eq name other ≡ false → value_of other (with_pair ps name value) ≡ value_of other ps
value_kept other name value [] e = rw e refl
value_kept other name value (p ∷ ps) e = go (bytes_eq p.0 other) (value_kept other name value ps e)
  where
    go : (b : Bool) → value_of other (with_pair ps name value) ≡ value_of other ps
        → (if b then Some p.1 else value_of other (with_pair ps name value)) ≡ (if b then Some p.1 else value_of other ps)
    go true k = refl
    go false k = k

-- a new name has its value
pub value_added : (name value : Text) (ps : Pairs) → bytes_eq name name ≡ true → value_of name ps ≡ None → value_of name (with_pair ps name value) ≡ Some value
value_added name value [] same e = rw same refl
value_added name value (p ∷ ps) same e = go (bytes_eq p.0 name) refl (value_added name value ps same)
  where
    go : (b : Bool) → bytes_eq p.0 name ≡ b → (value_of name ps ≡ None → value_of name (with_pair ps name value) ≡ Some value)
        → value_of name (with_pair (p ∷ ps) name value) ≡ Some value
    go true t more = let bad : Some p.1 ≡ None = rw t at e in cc
    go false t more = rw t (more (rw t at e))

-- no option has a default of clap's own
pub no_default : (rows : List Row) (name : Text) → with_default rows (built_option name) ≡ rows
no_default rows name = go (has_row name rows)
  where
    go : (b : Bool) → (if b then rows else rows) ≡ rows
    go true = refl
    go false = refl
