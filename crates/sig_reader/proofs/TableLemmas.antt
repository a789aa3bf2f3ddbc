-- What holds of the table of the instructions, in each of its rows.
use Rattle.std.proofs.Common.{◌≡◌, ℕ, List, [], ◌∷◌, refl, arith}
use Rattle.std.specs.Prelude.{Some}
use Rattle.sig_program.specs.declared.instruction.Instr.{Instr}
use Rattle.sig_program.specs.declared.instruction.Instr.TheVariants as instr
use Rattle.sig_program.specs.declared.instruction.Verb.{Verb}
use Rattle.sig_program.specs.declared.instruction.Verb.TheVariants as verb
use Rattle.sig_reader.specs.declared.keyword.Keyword.TheVariants as keyword
use Rattle.sig_tokens.specs.declared.known.Known.{Known}
use Rattle.sig_tokens.specs.declared.token.Token.{Token}
use Rattle.sig_tokens.specs.Faults.{on_ok}
use Rattle.sig_program.specs.Instructions.{Operand, a_mode, a_flag, AllSaid, word_of, operands_of, instr_by, Spoken, Says, Receives, spoken}
use Rattle.sig_reader.specs.Forms.{keyword_of, all_said, instr_of}
use Rattle.sig_tokens.specs.Tokens.{IsNameToken}

-- A first row stands by itself in each lemma, so that each of the others is looked at by itself too.

-- the instruction that is said so
abbrev pub made_of : Spoken → Instr
made_of (Says v x) = instr_by v x
made_of (Receives r) = instr.Receive r

pub made_again : (i : Instr) → made_of (spoken i) ≡ i
made_again instr.Stop = refl
made_again _ = refl

pub spoken_again : (v : Verb) (x : AllSaid (operands_of v)) → spoken (instr_by v x) ≡ Says v x
spoken_again verb.Stop x = refl
spoken_again _ x = refl

-- the table says what is read behind each word
pub instr_as : (known : Known) (here : ℕ) (v : Verb) (line : List ℕ) (ts : List Token) → instr_of known here v line ts ≡ on_ok (instr_by v) (all_said known here line (operands_of v) ts)
unfolding instr_of
instr_as known here verb.Stop line ts = refl
instr_as known here _ line ts = refl

-- words are told apart, and are names
pub word_means : (v : Verb) → keyword_of (word_of v) ≡ Some (keyword.Do v)
word_means verb.Stop = refl
word_means _ = refl

pub word_named : (v : Verb) → IsNameToken (word_of v)
word_named verb.Stop = (omega arith, refl)
word_named _ = (omega arith, refl)

-- what may be left out stands last, and a flag is a name
abbrev pub AreOrderly : List Operand → Type 0
AreOrderly [] = Unit {0}
AreOrderly (a_mode ∷ os) = os ≡ []
AreOrderly (a_flag word ∷ os) = IsNameToken word × (os ≡ [])
AreOrderly (_ ∷ os) = AreOrderly os

pub orderly : (v : Verb) → AreOrderly (operands_of v)
orderly verb.Stop = tt
orderly _ = grind arith
