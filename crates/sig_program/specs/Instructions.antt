-- The table of the instructions: of each that is no receive its word, the operands behind the word, and the instruction that they say.
use Rattle.std.specs.Prelude.{ℕ, List, [], ◌∷◌, Bool, codes, Option}
use Rattle.sig_kinds.specs.declared.alias_mode.AliasMode.{AliasMode}
use Rattle.sig_patterns.specs.declared.expression.Expr.{Expr}
use Rattle.sig_program.specs.declared.instruction.Receiving.{Receiving}
use Rattle.sig_program.specs.declared.instruction.Instr.{Instr}
use Rattle.sig_program.specs.declared.instruction.Instr.TheVariants as instr
use Rattle.sig_program.specs.declared.instruction.Verb.{Verb}
use Rattle.sig_program.specs.declared.instruction.Verb.TheVariants as verb

-- what may stand behind the word of an instruction; a mode and a flag may be left out, so that they stand last
pub data Operand : Type 0 where
  an_expr : Operand
  a_variable : Operand
  a_label : Operand
  a_switch : Operand
  a_mode : Operand
  a_flag : List ℕ → Operand

-- what an operand says
abbrev pub Said : Operand → Type 0
Said an_expr = Expr
Said a_variable = List ℕ
Said a_label = ℕ
Said a_switch = Bool
Said a_mode = Option AliasMode
Said (a_flag flag) = Bool

-- what operands say, one after another
abbrev pub AllSaid : List Operand → Type 0
AllSaid [] = Unit {0}
AllSaid (o ∷ os) = Said o × AllSaid os

-- a row of the table: the word of an instruction, the operands behind the word, and the instruction that is made of what they say
pub record Row : Type 0 where
  pub word : List ℕ
  pub operands : List Operand
  pub make : AllSaid operands → Instr

abbrev row : (word : List ℕ) (operands : List Operand) → (AllSaid operands → Instr) → Row
row word operands make = record { word = word; operands = operands; make = make }

abbrev pub row_of : Verb → Row
row_of verb.Send = row (codes "send") (an_expr ∷ an_expr ∷ []) (λ x. instr.Send x.0 x.1.0)
row_of verb.Set = row (codes "set") (a_variable ∷ an_expr ∷ []) (λ x. instr.Set (record { 0 = x.0 }) x.1.0)
row_of verb.MakeRef = row (codes "make_ref") (a_variable ∷ []) (λ x. instr.MakeRef (record { 0 = x.0 }))
row_of verb.Link = row (codes "link") (an_expr ∷ []) (λ x. instr.Link x.0)
row_of verb.Unlink = row (codes "unlink") (an_expr ∷ []) (λ x. instr.Unlink x.0)
row_of verb.Monitor = row (codes "monitor") (a_variable ∷ an_expr ∷ a_mode ∷ []) (λ x. instr.Monitor (record { 0 = x.0 }) x.1.0 x.1.1.0)
row_of verb.Demonitor = row (codes "demonitor") (an_expr ∷ a_flag (codes "flush") ∷ []) (λ x. instr.Demonitor x.0 x.1.0)
row_of verb.Alias = row (codes "alias") (a_variable ∷ a_flag (codes "reply") ∷ []) (λ x. instr.Alias (record { 0 = x.0 }) x.1.0)
row_of verb.Unalias = row (codes "unalias") (an_expr ∷ []) (λ x. instr.Unalias x.0)
row_of verb.Exit = row (codes "exit") (an_expr ∷ []) (λ x. instr.Exit x.0)
row_of verb.ExitTo = row (codes "exit_to") (an_expr ∷ an_expr ∷ []) (λ x. instr.ExitTo x.0 x.1.0)
row_of verb.Trap = row (codes "trap") (a_switch ∷ []) (λ x. instr.Trap x.0)
row_of verb.Reserve = row (codes "reserve") [] (λ x. instr.Reserve)
row_of verb.Bind = row (codes "bind") (a_variable ∷ []) (λ x. instr.Bind (record { 0 = x.0 }))
row_of verb.Clear = row (codes "clear") (a_variable ∷ []) (λ x. instr.Clear (record { 0 = x.0 }))
row_of verb.Goto = row (codes "goto") (a_label ∷ []) (λ x. instr.Goto x.0)
row_of verb.Stop = row (codes "stop") [] (λ x. instr.Stop)

abbrev pub word_of : Verb → List ℕ
word_of v = (row_of v).word

abbrev pub operands_of : Verb → List Operand
operands_of v = (row_of v).operands

abbrev pub instr_by : (v : Verb) → AllSaid (operands_of v) → Instr
instr_by v x = (row_of v).make x

-- an instruction as its lines say it: a word and what its operands say, or a receive
pub data Spoken : Type 0 where
  Says : (v : Verb) → AllSaid (operands_of v) → Spoken
  Receives : Receiving → Spoken

abbrev pub spoken : Instr → Spoken
spoken (instr.Send to message) = Says verb.Send (to, (message, tt))
spoken (instr.Set x value) = Says verb.Set (x.0, (value, tt))
spoken (instr.MakeRef x) = Says verb.MakeRef (x.0, tt)
spoken (instr.Link peer) = Says verb.Link (peer, tt)
spoken (instr.Unlink peer) = Says verb.Unlink (peer, tt)
spoken (instr.Monitor x target mode) = Says verb.Monitor (x.0, (target, (mode, tt)))
spoken (instr.Demonitor reference flush) = Says verb.Demonitor (reference, (flush, tt))
spoken (instr.Alias x reply) = Says verb.Alias (x.0, (reply, tt))
spoken (instr.Unalias reference) = Says verb.Unalias (reference, tt)
spoken (instr.Exit reason) = Says verb.Exit (reason, tt)
spoken (instr.ExitTo target reason) = Says verb.ExitTo (target, (reason, tt))
spoken (instr.Trap on) = Says verb.Trap (on, tt)
spoken instr.Reserve = Says verb.Reserve tt
spoken (instr.Bind x) = Says verb.Bind (x.0, tt)
spoken (instr.Clear x) = Says verb.Clear (x.0, tt)
spoken (instr.Goto label) = Says verb.Goto (label, tt)
spoken instr.Stop = Says verb.Stop tt
spoken (instr.Receive r) = Receives r

-- the verbs, each once
abbrev pub verbs : List Verb
verbs =
    verb.Send ∷ verb.Set ∷ verb.MakeRef ∷ verb.Link ∷ verb.Unlink ∷ verb.Monitor ∷ verb.Demonitor ∷ verb.Alias ∷ verb.Unalias ∷ verb.Exit
    ∷ verb.ExitTo ∷ verb.Trap ∷ verb.Reserve ∷ verb.Bind ∷ verb.Clear ∷ verb.Goto ∷ verb.Stop ∷ []
