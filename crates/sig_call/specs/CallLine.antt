-- What a line of a text of calls says: it is a call, `call X T M` or `call X T M -> L`, or a line of a script. (The language of
-- scripts is this project's own; a call is `gen_server:call/2` of Erlang's module `gen_server`.)
use Rattle.std.specs.Prelude.{ℕ, ◌-◌, List, [], ◌∷◌, drop, Bool, false, ◌&&◌, not, is_some, slice_get, slice_range, codes, if◌then◌else◌, Option, Some, None, Result, Ok, Err, take}
use Rattle.std.specs.List.{list_any}
use Rattle.std.specs.Option.{option_map_or}
use Rattle.std.specs.Str.{bytes_eq}
use Rattle.sig_program.specs.declared.version.Version.{Version}
use Rattle.sig_tokens.specs.declared.token.TokenKind.{TokenKind}
use Rattle.sig_tokens.specs.declared.token.TokenKind.TheVariants.{Name, Variable}
use Rattle.sig_tokens.specs.declared.token.Token.{Token}
use Rattle.sig_tokens.specs.declared.token.Cut.{Cut}
use Rattle.sig_tokens.specs.Faults.{◌>>=◌, on_ok}
use Rattle.sig_tokens.specs.Signs.{is_arrow}
use Rattle.sig_tokens.specs.Skipping.{expression_end}
use Rattle.sig_tokens.specs.Tokens.{cut_of, text}
use Rattle.sig_call.specs.declared.fault.CallFault.{CallFault}
use Rattle.sig_call.specs.declared.fault.CallFault.TheVariants.{Form, Reserved}

-- what a call line says: the variable of the reply, the bytes of its two expressions, and its label, where it has one
pub record CallLine : Type 0 where
  pub var : List ℕ
  pub target : List ℕ
  pub message : List ℕ
  pub label : Option (List ℕ)

-- the first token is the name `call`
abbrev pub is_call_word : TokenKind → List ℕ → Bool
is_call_word Name word = bytes_eq word (codes "call")
is_call_word _ word = false

abbrev pub is_call : List ℕ → List Token → Bool
is_call line [] = false
is_call line (t ∷ ts) = is_call_word t.kind (text line t)

-- a variable that begins with `Call_`, as those of the expanded lines do
abbrev pub is_reserved_word : TokenKind → List ℕ → Bool
is_reserved_word Variable word = bytes_eq (take 5 word) (codes "Call_")
is_reserved_word _ word = false

abbrev pub has_reserved : List ℕ → List Token → Bool
has_reserved line tokens = list_any (λ t. is_reserved_word t.kind (text line t)) tokens

abbrev pub variable_word : TokenKind → List ℕ → Result (List ℕ) CallFault
variable_word Variable word = Ok word
variable_word _ word = Err Form

-- the variable that stands at the front
abbrev pub variable_at : List ℕ → List Token → Result (List ℕ) CallFault
variable_at line [] = Err Form
variable_at line (t ∷ ts) = variable_word t.kind (text line t)

-- the bytes from the start of one token to the end of the token before another, with the blanks between them
abbrev pub spanned : List ℕ → List Token → ℕ → ℕ → List ℕ
spanned line tokens first last =
    slice_range line (option_map_or (λ (t : Token). t.start) (slice_get tokens first) 0) (option_map_or (λ (t : Token). t.end) (slice_get tokens (last - 1)) 0)

abbrev pub spanned_to : List ℕ → List Token → ℕ → Option ℕ → Result (List ℕ × ℕ) CallFault
spanned_to line tokens first None = Err Form
spanned_to line tokens first (Some last) = Ok (spanned line tokens first last, last)

-- the bytes of the expression that begins at a token, and the index of the token behind it
abbrev pub expression_at : List ℕ → List Token → ℕ → Result (List ℕ × ℕ) CallFault
expression_at line tokens first = spanned_to line tokens first (expression_end line tokens first)

abbrev pub label_word : TokenKind → List ℕ → Result (Option (List ℕ)) CallFault
label_word Name word = Ok (Some word)
label_word _ word = Err Form

-- nothing, or `-> L`
abbrev pub label_at : List ℕ → List Token → Result (Option (List ℕ)) CallFault
label_at line [] = Ok None
label_at line (t ∷ u ∷ []) = if is_arrow t.kind then label_word u.kind (text line u) else Err Form
label_at line _ = Err Form

-- `call X T M`, and `-> L` where it stands there
abbrev pub call_of : List ℕ → List Token → Result CallLine CallFault
call_of line tokens =
    variable_at line (drop 1 tokens) >>= λ var. expression_at line tokens 2 >>= λ target. expression_at line tokens target.1 >>= λ message.
    on_ok (λ label. record { var = var; target = target.0; message = message.0; label = label }) (label_at line (drop message.1 tokens))

-- A call line is of one of the two forms, and it holds no reserved variable.
abbrev pub call_in : List ℕ → Cut → Result (Option CallLine) CallFault
call_in line cut =
    if is_some cut.stop then Err Form
    else call_of line cut.tokens >>= λ call. if has_reserved line cut.tokens then Err Reserved else Ok (Some call)

-- Neither does another line that can be cut. One that can't be is left to the reader of scripts.
abbrev pub other_in : List ℕ → Cut → Result (Option CallLine) CallFault
other_in line cut = if not (is_some cut.stop) && has_reserved line cut.tokens then Err Reserved else Ok None

abbrev pub said_by : List ℕ → Cut → Result (Option CallLine) CallFault
said_by line cut = if is_call line cut.tokens then call_in line cut else other_in line cut

-- what a line says: a call, or nothing of calls; or why it is refused
unfoldable pub said_of : Version → List ℕ → Result (Option CallLine) CallFault
said_of version line = said_by line (cut_of version 0 0 line)
