-- Which sign a token is.
use Rattle.std.specs.Prelude.{Bool, true, false, Option, Some, None}
use Rattle.sig_patterns.specs.declared.guard.Op.{Op}
use Rattle.sig_patterns.specs.declared.guard.Op.TheVariants as op
use Rattle.sig_tokens.specs.declared.token.Sign as signs
use Rattle.sig_tokens.specs.declared.token.Sign.TheVariants as sign
use Rattle.sig_tokens.specs.declared.token.TokenKind.{TokenKind}
use Rattle.sig_tokens.specs.declared.token.TokenKind.TheVariants.{Sign}

-- a name, a variable, an integer, a quoted atom or a process
abbrev pub is_word : TokenKind → Bool
is_word (Sign s) = false
is_word _ = true

-- whether the token is this sign
abbrev pub is_sign : signs.Sign → TokenKind → Bool
is_sign sign.OpenBrace (Sign sign.OpenBrace) = true
is_sign sign.CloseBrace (Sign sign.CloseBrace) = true
is_sign sign.OpenBracket (Sign sign.OpenBracket) = true
is_sign sign.CloseBracket (Sign sign.CloseBracket) = true
is_sign sign.Comma (Sign sign.Comma) = true
is_sign sign.Bar (Sign sign.Bar) = true
is_sign sign.Caret (Sign sign.Caret) = true
is_sign sign.Equals (Sign sign.Equals) = true
is_sign sign.Arrow (Sign sign.Arrow) = true
is_sign sign.Underscore (Sign sign.Underscore) = true
is_sign sign.Less (Sign sign.Less) = true
is_sign sign.Greater (Sign sign.Greater) = true
is_sign sign.AtMost (Sign sign.AtMost) = true
is_sign sign.AtLeast (Sign sign.AtLeast) = true
is_sign sign.EqualTo (Sign sign.EqualTo) = true
is_sign sign.UnequalTo (Sign sign.UnequalTo) = true
is_sign sign.OpenParen (Sign sign.OpenParen) = true
is_sign sign.CloseParen (Sign sign.CloseParen) = true
is_sign _ _ = false

abbrev pub is_open_brace : TokenKind → Bool
is_open_brace kind = is_sign sign.OpenBrace kind

abbrev pub is_open_bracket : TokenKind → Bool
is_open_bracket kind = is_sign sign.OpenBracket kind

abbrev pub is_open_paren : TokenKind → Bool
is_open_paren kind = is_sign sign.OpenParen kind

abbrev pub is_close_paren : TokenKind → Bool
is_close_paren kind = is_sign sign.CloseParen kind

abbrev pub is_comma : TokenKind → Bool
is_comma kind = is_sign sign.Comma kind

abbrev pub is_bar : TokenKind → Bool
is_bar kind = is_sign sign.Bar kind

abbrev pub is_caret : TokenKind → Bool
is_caret kind = is_sign sign.Caret kind

abbrev pub is_arrow : TokenKind → Bool
is_arrow kind = is_sign sign.Arrow kind

abbrev pub is_underscore : TokenKind → Bool
is_underscore kind = is_sign sign.Underscore kind

-- the sign that ends a tuple or a list
abbrev pub closes : signs.Sign → TokenKind → Bool
closes sign.CloseBrace (Sign sign.CloseBrace) = true
closes sign.CloseBracket (Sign sign.CloseBracket) = true
closes _ _ = false

-- the comparison that the sign spells
abbrev pub op_of : TokenKind → Option Op
op_of (Sign sign.Less) = Some op.Less
op_of (Sign sign.Greater) = Some op.Greater
op_of (Sign sign.AtMost) = Some op.AtMost
op_of (Sign sign.AtLeast) = Some op.AtLeast
op_of (Sign sign.EqualTo) = Some op.Equal
op_of (Sign sign.UnequalTo) = Some op.Unequal
op_of _ = None
