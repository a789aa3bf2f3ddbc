-- The bytes of names, variables and atoms (Erlang Reference Manual, Data Types, Atom; Expressions, Variables). Letters
-- and digits are those of ASCII, and the bounds on lengths are this project's own.
use Rattle.std.specs.Prelude.{ℕ, List, [], ◌∷◌, Bool, false, ◌&&◌, ◌||◌, not, nat_le, ◌==◌, length}
use Rattle.std.specs.List.{list_all}
use Rattle.sig_terms.specs.declared.bytes.TheConstants.{MOST_WORD_BYTES}

abbrev pub is_lower : ℕ → Bool
is_lower b = nat_le 97 b && nat_le b 122

abbrev pub is_upper : ℕ → Bool
is_upper b = nat_le 65 b && nat_le b 90

abbrev pub is_digit : ℕ → Bool
is_digit b = nat_le 48 b && nat_le b 57

-- what may follow in a variable: a letter, a digit or `_`
abbrev pub is_variable_byte : ℕ → Bool
is_variable_byte b = is_lower b || is_upper b || is_digit b || b == 95

-- what may follow in a name: besides, `@`
abbrev pub is_name_byte : ℕ → Bool
is_name_byte b = is_variable_byte b || b == 64

-- a lower-case letter, then letters, digits, `_` and `@`
abbrev pub is_name : List ℕ → Bool
is_name [] = false
is_name (b ∷ bs) = is_lower b && list_all is_name_byte bs

-- an upper-case letter, then letters, digits and `_`
abbrev pub is_variable : List ℕ → Bool
is_variable [] = false
is_variable (b ∷ bs) = is_upper b && list_all is_variable_byte bs

-- a name token or a variable token
abbrev pub is_token : List ℕ → Bool
is_token bytes = nat_le (length bytes) MOST_WORD_BYTES && (is_name bytes || is_variable bytes)

-- 0x20 to 0x7E, and neither `'` nor `\`
abbrev pub is_atom_byte : ℕ → Bool
is_atom_byte b = nat_le 32 b && nat_le b 126 && not (b == 39) && not (b == 92)

-- the bytes of an atom
abbrev pub is_atom : List ℕ → Bool
is_atom bytes = nat_le (length bytes) MOST_WORD_BYTES && list_all is_atom_byte bytes
