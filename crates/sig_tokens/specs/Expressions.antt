-- Expressions (Erlang Reference Manual, Expressions, Terms and Variables; the text is this project's own).
use Rattle.std.specs.Prelude.{ℕ, List, false, Result, Err}
use Rattle.sig_patterns.specs.declared.expression.Expr.{Expr}
use Rattle.sig_patterns.specs.declared.expression.Expr.TheVariants as expr
use Rattle.sig_tokens.specs.declared.fault.FaultKind.{FaultKind}
use Rattle.sig_tokens.specs.declared.fault.FaultKind.TheVariants.{Syntax}
use Rattle.sig_tokens.specs.declared.known.Known.{Known}
use Rattle.sig_tokens.specs.declared.token.Sign as signs
use Rattle.sig_tokens.specs.declared.token.Sign.TheVariants.{CloseBrace}
use Rattle.sig_tokens.specs.declared.token.Token.{Token}
use Rattle.sig_tokens.specs.Phrases.{Spelling, phrase_of}

-- a tuple, or else a list
abbrev pub expr_enclosing : signs.Sign → List Expr → Expr
expr_enclosing CloseBrace items = expr.Tuple items
expr_enclosing _ items = expr.List items

-- no other sign begins one, and a list has no tail, so that no one asks for the one with a tail
abbrev pub expr_spelling : Spelling Expr
expr_spelling = record {
  int = expr.Int;
  atom = expr.Atom;
  var = expr.Var;
  pid = expr.Pid;
  begins = λ kind. false;
  signed = λ line kind ts. Err Syntax;
  enclosing = expr_enclosing;
  has_tails = false;
  nested = λ items tail. expr.List items;
}

-- an expression of at most MOST_NODES nodes and depth MOST_DEPTH, and the tokens behind it
abbrev pub expr_of : Known → List ℕ → List Token → Result (Expr × List Token) FaultKind
expr_of known line ts = phrase_of expr_spelling known line ts
