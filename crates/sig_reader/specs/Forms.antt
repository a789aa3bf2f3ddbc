-- What a line says: its word, and what stands behind it.
use Rattle.std.specs.Prelude.{ℕ, List, [], ◌∷◌, Bool, true, false, not, is_some, is_none, codes, ok_or, length, if◌then◌else◌, Option, Some, None, option_map, Result, Ok, Err}
use Rattle.std.specs.List.{find}
use Rattle.std.specs.Str.{bytes_eq}
use Rattle.sig_kinds.specs.declared.alias_mode.AliasMode.{AliasMode}
use Rattle.sig_kinds.specs.declared.alias_mode.AliasMode.TheVariants as alias_mode
use Rattle.sig_kinds.specs.declared.queue_data.QueueData.{QueueData}
use Rattle.sig_kinds.specs.declared.queue_data.QueueData.TheVariants.{OnHeap, OffHeap}
use Rattle.sig_patterns.specs.declared.guard.Guard.{Guard}
use Rattle.sig_patterns.specs.declared.var.Var.{Var}
use Rattle.sig_program.specs.declared.instruction.Instr.{Instr}
use Rattle.sig_tokens.specs.declared.fault.FaultKind.{FaultKind}
use Rattle.sig_tokens.specs.declared.fault.FaultKind.TheVariants.{Syntax}
use Rattle.sig_tokens.specs.declared.token.TokenKind.{TokenKind}
use Rattle.sig_tokens.specs.declared.token.TokenKind.TheVariants.{Integer}
use Rattle.sig_tokens.specs.declared.token.Token.{Token}
use Rattle.sig_tokens.specs.declared.known.Known.{Known}
use Rattle.sig_program.specs.declared.instruction.Verb.{Verb}
use Rattle.sig_program.specs.declared.instruction.Verb.TheVariants as verb
use Rattle.sig_reader.specs.declared.keyword.Keyword.{Keyword}
use Rattle.sig_reader.specs.declared.keyword.Keyword.TheVariants as keyword
use Rattle.sig_reader.specs.declared.draft.Section.{Section}
use Rattle.sig_reader.specs.declared.draft.Section.TheVariants.{Before, Outside, Inside}
use Rattle.sig_reader.specs.declared.draft.Draft.{Draft}
use Rattle.sig_reader.specs.declared.form.Form.{Form}
use Rattle.sig_reader.specs.declared.form.Form.TheVariants as form
use Rattle.sig_program.specs.Instructions.{Operand, an_expr, a_variable, a_label, a_switch, a_mode, a_flag, Said, AllSaid, verbs, word_of, operands_of, instr_by}
use Rattle.sig_tokens.specs.Faults.{◌>>=◌, on_ok}
use Rattle.sig_tokens.specs.Numbers.{count_of}
use Rattle.sig_tokens.specs.Tokens.{text, tokens_of}
use Rattle.sig_tokens.specs.Signs.{is_arrow}
use Rattle.sig_tokens.specs.Names.{name_at, variable_at, target_at}
use Rattle.sig_tokens.specs.Expressions.{expr_of}
use Rattle.sig_tokens.specs.PatternTexts.{pattern_of}
use Rattle.sig_reader.specs.Guards.{guard_at}

-- the word of an instruction that is no receive
abbrev pub verb_of : List ℕ → Option Verb
verb_of word = find (λ v. bytes_eq word (word_of v)) verbs

-- the word with which a line begins
abbrev pub keyword_of : List ℕ → Option Keyword
keyword_of word =
    if bytes_eq word (codes "turns") then Some keyword.Turns
    else if bytes_eq word (codes "process") then Some keyword.Process
    else if bytes_eq word (codes "message_queue_data") then Some keyword.QueueData
    else if bytes_eq word (codes "label") then Some keyword.Label
    else if bytes_eq word (codes "receive") then Some keyword.Receive
    else if bytes_eq word (codes "on") then Some keyword.On
    else if bytes_eq word (codes "after") then Some keyword.After
    else if bytes_eq word (codes "end") then Some keyword.End
    else option_map keyword.Do (verb_of word)

-- before the first process: the turns once, and a process
abbrev pub may_begin : Option ℕ → Keyword → Bool
may_begin turns keyword.Turns = is_none turns
may_begin turns keyword.Process = true
may_begin turns _ = false

-- in a process, outside a receive: where it keeps its messages, a label, an instruction, the next process
abbrev pub may_be_outside : Keyword → Bool
may_be_outside keyword.Process = true
may_be_outside keyword.QueueData = true
may_be_outside keyword.Label = true
may_be_outside (keyword.Do verb) = true
may_be_outside keyword.Receive = true
may_be_outside _ = false

-- in a receive: clauses up to its `after`, which stands once, and the end
abbrev pub may_be_inside : Bool → Keyword → Bool
may_be_inside has_after keyword.On = not has_after
may_be_inside has_after keyword.After = not has_after
may_be_inside has_after keyword.End = true
may_be_inside has_after _ = false

-- where a line that begins with this word may stand
abbrev pub may_stand_at : Draft → Section → Keyword → Bool
may_stand_at d Before word = may_begin d.turns word
may_stand_at d (Outside p) word = may_be_outside word
may_stand_at d (Inside p r) word = may_be_inside (is_some r.after) word

abbrev pub may_stand : Draft → Keyword → Bool
may_stand d word = may_stand_at d d.section word

-- no token is left
abbrev pub ends : {A : Type 0} → A → List Token → Result A FaultKind
ends said [] = Ok said
ends said (t ∷ ts) = Err Syntax

-- a label, and nothing behind it
abbrev pub target_of : Known → ℕ → List ℕ → List Token → Result (Option ℕ) FaultKind
target_of known here line ts = target_at known here line ts >>= λ x. ends (Some x.0) x.1

-- nothing, or `-> L`
abbrev pub arrow_of : Known → ℕ → List ℕ → List Token → Result (Option ℕ) FaultKind
arrow_of known here line [] = Ok None
arrow_of known here line (t ∷ ts) = if is_arrow t.kind then (target_at known here line ts >>= λ x. ends (Some x.0) x.1) else Err Syntax

-- an integer that isn't below 0
abbrev pub count_from : TokenKind → List ℕ → Result ℕ FaultKind
count_from Integer word = ok_or (count_of word) Syntax
count_from _ word = Err Syntax

abbrev pub turns_of : List ℕ → List Token → Result Form FaultKind
turns_of line [] = Err Syntax
turns_of line (t ∷ ts) = count_from t.kind (text line t) >>= λ n. ends (form.Turns n) ts

-- `on` or `off`
abbrev pub switch_of : List ℕ → Result Bool FaultKind
switch_of word =
    if bytes_eq word (codes "on") then Ok true
    else if bytes_eq word (codes "off") then Ok false
    else Err Syntax

-- a switch at the front of the tokens, and the tokens behind it
abbrev pub switch_at : List ℕ → List Token → Result (Bool × List Token) FaultKind
switch_at line ts = name_at line ts >>= λ x. on_ok (λ on. (on, x.1)) (switch_of x.0)

-- nothing, or one word, which means something; and the tokens behind it
abbrev pub word_at : {A : Type 0} → A → (List ℕ → Result A FaultKind) → List ℕ → List Token → Result (A × List Token) FaultKind
word_at nothing meaning line [] = Ok (nothing, [])
word_at nothing meaning line (t ∷ ts) = name_at line (t ∷ ts) >>= λ x. on_ok (λ a. (a, x.1)) (meaning x.0)

-- the mode of a monitor's alias
abbrev pub mode_of : List ℕ → Result (Option AliasMode) FaultKind
mode_of word =
    if bytes_eq word (codes "explicit_unalias") then Ok (Some alias_mode.Explicit)
    else if bytes_eq word (codes "demonitor") then Ok (Some alias_mode.Demonitor)
    else if bytes_eq word (codes "reply_demonitor") then Ok (Some alias_mode.ReplyDemonitor)
    else Err Syntax

-- this word, and no other one
abbrev pub flag_of : List ℕ → List ℕ → Result Bool FaultKind
flag_of flag word = if bytes_eq word flag then Ok true else Err Syntax

-- an operand at the front of the tokens, and the tokens behind it
abbrev pub operand_at : Known → ℕ → List ℕ → (o : Operand) → List Token → Result (Said o × List Token) FaultKind
operand_at known here line an_expr ts = expr_of known line ts
operand_at known here line a_variable ts = variable_at line ts
operand_at known here line a_label ts = target_at known here line ts
operand_at known here line a_switch ts = switch_at line ts
operand_at known here line a_mode ts = word_at None mode_of line ts
operand_at known here line (a_flag flag) ts = word_at false (flag_of flag) line ts

-- these operands, from left to right, and nothing behind them
abbrev pub all_said : Known → ℕ → List ℕ → (os : List Operand) → List Token → Result (AllSaid os) FaultKind
all_said known here line [] ts = ends tt ts
all_said known here line (o ∷ os) ts = operand_at known here line o ts >>= λ x. on_ok (λ xs. (x.0, xs)) (all_said known here line os x.1)

-- The instruction that a word and the operands behind it say. A first word stands by itself, so that each is looked at by itself.
unfoldable pub instr_of : Known → ℕ → Verb → List ℕ → List Token → Result Instr FaultKind
instr_of known here verb.Stop line ts = on_ok (instr_by verb.Stop) (all_said known here line (operands_of verb.Stop) ts)
instr_of known here v line ts = on_ok (instr_by v) (all_said known here line (operands_of v) ts)

-- a name, and nothing behind it
abbrev pub whole_name : List ℕ → List Token → Result (List ℕ) FaultKind
whole_name line ts = name_at line ts >>= λ x. ends x.0 x.1

-- `on_heap` or `off_heap`
abbrev pub queue_data_of : List ℕ → Result QueueData FaultKind
queue_data_of word =
    if bytes_eq word (codes "on_heap") then Ok OnHeap
    else if bytes_eq word (codes "off_heap") then Ok OffHeap
    else Err Syntax

-- where a process keeps its messages, and nothing behind it
abbrev pub queue_data_at : List ℕ → List Token → Result QueueData FaultKind
queue_data_at line ts = whole_name line ts >>= queue_data_of

-- the variable of a receive's marker, and nothing behind it
abbrev pub marked_by : List ℕ → List Token → Result (Option Var) FaultKind
marked_by line ts = variable_at line ts >>= λ y. ends (Some (record { 0 = y.0 })) y.1

-- `using X`
abbrev pub using_at : List ℕ → List Token → Result (Option Var) FaultKind
using_at line ts = name_at line ts >>= λ x. flag_of (codes "using") x.0 >>= λ is_using. marked_by line x.1

-- nothing, or `using X`: the variable of a receive's marker
abbrev pub marker_of : List ℕ → List Token → Result (Option Var) FaultKind
marker_of line [] = Ok None
marker_of line (t ∷ ts) =
    name_at line (t ∷ ts) >>= λ x. flag_of (codes "using") x.0 >>= λ is_using. variable_at line x.1 >>= λ y. ends (Some (record { 0 = y.0 })) y.1

-- behind the pattern of a clause: a guard or none, and a target or none
abbrev pub behind_pattern : Known → ℕ → List ℕ → List Token → Result (Option Guard × Option ℕ) FaultKind
behind_pattern known here line ts = guard_at line ts >>= λ x. on_ok (λ target. (x.0, target)) (arrow_of known here line x.1)

-- `on P`, `on P -> L`, `on P when G`, `on P when G -> L`
abbrev pub on_of : Known → ℕ → List ℕ → List Token → Result Form FaultKind
on_of known here line ts =
    pattern_of known line ts >>= λ x. on_ok (λ y. form.On (record { pattern = x.0; guard = y.0; target = y.1 })) (behind_pattern known here line x.1)

-- what stands behind the word
unfoldable pub form_of : Known → ℕ → Keyword → List ℕ → List Token → Result Form FaultKind
form_of known here keyword.Turns line ts = turns_of line ts
form_of known here keyword.Process line ts = on_ok form.Process (whole_name line ts)
form_of known here keyword.QueueData line ts = on_ok form.QueueData (queue_data_at line ts)
form_of known here keyword.Label line ts = on_ok form.Label (whole_name line ts)
form_of known here keyword.Receive line ts = on_ok form.Receive (marker_of line ts)
form_of known here keyword.On line ts = on_of known here line ts
form_of known here keyword.After line ts = on_ok (λ target. form.After (record { target = target })) (arrow_of known here line ts)
form_of known here keyword.End line ts = ends form.End ts
form_of known here (keyword.Do v) line ts = on_ok form.Do (instr_of known here v line ts)

-- the form behind a word that may stand here
abbrev pub form_behind : Known → Draft → Option Keyword → List ℕ → List Token → Result Form FaultKind
form_behind known draft None line ts = Err Syntax
form_behind known draft (Some word) line ts =
    if may_stand draft word then form_of known (length draft.procs) word line ts else Err Syntax

-- a line without tokens says nothing
unfoldable pub said_by : Known → Draft → List ℕ → List Token → Result (Option Form) FaultKind
said_by known draft line [] = Ok None
said_by known draft line (word ∷ ts) = on_ok Some (form_behind known draft (keyword_of (text line word)) line ts)

-- what a line says behind what was read so far, or the first that is wrong with it: its tokens, which are those of the script's
-- version, are cut before its form is read
unfoldable pub said : Known → Draft → List ℕ → Result (Option Form) FaultKind
said known draft line = tokens_of draft.version line >>= said_by known draft line
