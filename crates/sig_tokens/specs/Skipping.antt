-- Where an expression ends.
use Rattle.std.specs.Prelude.{ℕ, ◌-◌, List, [], ◌∷◌, length, drop, if◌then◌else◌, Option, Some, None, Result, Ok, Err}
use Rattle.sig_tokens.specs.declared.fault.FaultKind.{FaultKind}
use Rattle.sig_tokens.specs.declared.known.Known.TheVariants.{Any}
use Rattle.sig_tokens.specs.declared.token.Sign as signs
use Rattle.sig_tokens.specs.declared.token.Token.{Token}
use Rattle.sig_tokens.specs.Expressions.{expr_of}
use Rattle.sig_tokens.specs.Phrases.{Read}
use Rattle.sig_tokens.specs.Signs.{closes, is_comma}

-- what a reading leaves: the nodes, and the tokens behind
abbrev pub left_by : {A : Type 0} → Read A → Option (ℕ × List Token)
left_by (Ok x) = Some (x.1, x.2)
left_by (Err kind) = None

-- what is left behind the sign that closes elements
abbrev pub left_behind : signs.Sign → ℕ → List Token → Option (ℕ × List Token)
left_behind close nodes [] = None
left_behind close nodes (t ∷ ts) = if closes close t.kind then Some (nodes, ts) else None

-- what stands behind a comma
abbrev pub behind_comma : List Token → Option (List Token)
behind_comma [] = None
behind_comma (t ∷ ts) = if is_comma t.kind then Some ts else None

-- the index of the first of the tokens that are left behind what was read
abbrev pub index_behind : {A : Type 0} → ℕ → Result (A × List Token) FaultKind → Option ℕ
index_behind count (Ok x) = Some (count - length x.1)
index_behind count (Err kind) = None

-- The index after the last token of the expression that begins at this one. The name of a process is that of any.
abbrev pub expression_end : List ℕ → List Token → ℕ → Option ℕ
expression_end line tokens first = index_behind (length tokens) (expr_of Any line (drop first tokens))
