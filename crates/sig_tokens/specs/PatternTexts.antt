-- Patterns (Erlang Reference Manual, Pattern Matching; the text is this project's own).
use Rattle.std.specs.Prelude.{ℕ, List, [], ◌∷◌, true, ◌||◌, if◌then◌else◌, Result, Ok, Err}
use Rattle.sig_patterns.specs.declared.pattern.Pattern.{Pattern}
use Rattle.sig_patterns.specs.declared.pattern.Pattern.TheVariants as pattern
use Rattle.sig_tokens.specs.declared.fault.FaultKind.{FaultKind}
use Rattle.sig_tokens.specs.declared.fault.FaultKind.TheVariants.{Syntax}
use Rattle.sig_tokens.specs.declared.known.Known.{Known}
use Rattle.sig_tokens.specs.declared.token.Sign as signs
use Rattle.sig_tokens.specs.declared.token.Sign.TheVariants.{CloseBrace}
use Rattle.sig_tokens.specs.declared.token.TokenKind.{TokenKind}
use Rattle.sig_tokens.specs.declared.token.Token.{Token}
use Rattle.sig_tokens.specs.Faults.{on_ok}
use Rattle.sig_tokens.specs.Names.{variable_at}
use Rattle.sig_tokens.specs.Signs.{is_caret, is_underscore}
use Rattle.sig_tokens.specs.Phrases.{Spelling, phrase_of}

-- `^` and a variable, or `_`
abbrev pub pattern_signed : List ℕ → TokenKind → List Token → Result (Pattern × List Token) FaultKind
pattern_signed line kind ts =
    if is_caret kind then on_ok (λ x. (pattern.Pin (record { 0 = x.0 }), x.1)) (variable_at line ts)
    else if is_underscore kind then Ok (pattern.Any, ts)
    else Err Syntax

-- a tuple, or else a list
abbrev pub pattern_enclosing : signs.Sign → List Pattern → Pattern
pattern_enclosing CloseBrace items = pattern.Tuple items
pattern_enclosing _ items = pattern.List items

-- [P1, P2 | Q] is [P1 | [P2 | Q]]
abbrev pub nested : List Pattern → Pattern → Pattern
nested [] tail = tail
nested (p ∷ ps) tail = pattern.Cons p (nested ps tail)

-- a variable binds
abbrev pub pattern_spelling : Spelling Pattern
pattern_spelling = record {
  int = pattern.Int;
  atom = pattern.Atom;
  var = pattern.Bind;
  pid = pattern.Pid;
  begins = λ kind. is_caret kind || is_underscore kind;
  signed = pattern_signed;
  enclosing = pattern_enclosing;
  has_tails = true;
  nested = nested;
}

-- a pattern of at most MOST_NODES nodes and depth MOST_DEPTH, and the tokens behind it
abbrev pub pattern_of : Known → List ℕ → List Token → Result (Pattern × List Token) FaultKind
pattern_of known line ts = phrase_of pattern_spelling known line ts
